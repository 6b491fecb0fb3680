-- A commit is counted, and shown or not.
use Rattle.std.proofs.Common.{◌≡◌, ◌+◌, ℕ, Bool, true, false, cond, List, [], ◌∷◌, ◌++◌, Option, Some, None, find, refl, ap, subst, ◌∙◌, arith}
use Rattle.tv_base.specs.declared.inventory.Entry.{Entry}
use Rattle.tv_base.specs.Entries.{is_numbered, is_last, one_fewer, released, tracked}
use Rattle.tv_base.specs.Places.{change_at, take_out}
use Rattle.tv_formats.specs.Commits.{Commit}
use Rattle.tv_reader.specs.Readers.{FilesRead, Noted, OfNoted, OfRead, ReaderState, ReloadState, counted, published, showing, skipped}
use Rattle.tv_reader.specs.Searchers.{CommitRead, CommitShown, SearcherState, commit_read, shown_as, snapshot_of}

not_here : {X : Type 0} (b : Bool) (x : X) (o : Option X) → cond b (Some x) o ≡ None → (b ≡ false) × (o ≡ None)
not_here true x o h = absurd cc
not_here false x o h = (refl, h)

module _ {X : Type 0} (p : X → Bool) (last : X) (here : p last ≡ true) where
  found_last : (xs : List X) → find p xs ≡ None → find p (xs ++ last ∷ []) ≡ Some last
  found_last [] none = ap (λ (b : Bool). cond b (Some last) None) here
  found_last (x ∷ xs) none =
      let h = not_here (p x) x (find p xs) none in
      ap (λ (b : Bool). cond b (Some x) (find p (xs ++ last ∷ []))) h.0 ∙ found_last xs h.1

  taken_last : (xs : List X) → find p xs ≡ None → take_out p (xs ++ last ∷ []) ≡ xs
  taken_last [] none = ap (λ (b : Bool). cond b [] (last ∷ [])) here
  taken_last (x ∷ xs) none =
      let h = not_here (p x) x (find p xs) none in
      ap (λ (b : Bool). cond b (xs ++ last ∷ []) (x ∷ take_out p (xs ++ last ∷ []))) h.0 ∙ ap (λ (l : List X). x ∷ l) (taken_last xs h.1)

-- given back, what was taken in last goes, and the others stay
released_last : {T : Type 0} (n : ℕ) (value : T) (es : List (Entry T)) → find (is_numbered n) es ≡ None → released n (tracked n value es) ≡ es
released_last {T} n value es fresh =
    let last : Entry T = record { number = n; count = 1; value = value } in
    let here : is_numbered n last ≡ true = grind arith in
    ap (λ (o : Option (Entry T)). cond (is_last o) (take_out (is_numbered n) (tracked n value es)) (change_at (is_numbered n) one_fewer (tracked n value es)))
    (found_last (is_numbered n) last here es fresh)
    ∙ taken_last (is_numbered n) last here es fresh

-- the ticket of what was counted last is given back
abbrev without : ReaderState → ℕ → ReaderState
without s ticket = record s { searchers = record s.searchers { entries = released ticket s.searchers.entries } }

pub skips : (s mid new : ReaderState) (shown : CommitShown) (ticket : ℕ) → mid ≡ counted s shown → ticket ≡ s.searchers.next → find (is_numbered s.searchers.next) s.searchers.entries ≡ None
    → new ≡ record mid { searchers = record mid.searchers { entries = released ticket mid.searchers.entries } } → new ≡ skipped s
skips s mid new shown ticket counts numbered fresh is =
    is ∙ (ap (λ (m : ReaderState). without m ticket) counts
    ∙ (ap (λ (t : ℕ). without (counted s shown) t) numbered
    ∙ ap (λ (es : List (Entry CommitShown)). record s { next = s.next + 1; searchers = record { next = s.searchers.next + 1; entries = es } }) (released_last s.searchers.next shown s.searchers.entries fresh)))

pub shows : (s mid new : ReaderState) (commit : CommitRead) (searcher : SearcherState) → mid ≡ counted s (shown_as s.next commit) → searcher ≡ record { ticket = s.searchers.next; shown = shown_as s.next commit } → new ≡ showing mid searcher → new ≡ published s commit
shows s mid new commit searcher counts searches is =
    is ∙ (ap (λ (m : ReaderState). showing m searcher) counts
    ∙ ap (λ (x : SearcherState). showing (counted s (shown_as s.next commit)) x) searches)

-- what is true of the commit that was read is true of the reload's
pub of_read : (reload : Option ReloadState) (read : CommitRead) (P : CommitRead → Type 0) → OfRead reload (λ commit. read ≡ commit) → P read → OfRead reload P
of_read None read P is h = absurd is
of_read (Some (Noted schema commit lock)) read P is h = absurd is
of_read (Some (FilesRead commit)) read P is h = subst P is h

-- what is true of the commit that a reload has noted
pub of_noted : (new old : ReaderState) (schema : List ℕ) (commit : Commit) (lock : List ℕ) (P : List ℕ → Commit → List ℕ → Type 0) → new ≡ record old { reload = Some (Noted schema commit lock) } → OfNoted new.reload P → P schema commit lock
of_noted new old schema commit lock P is h =
    subst (λ (s : ReaderState). OfNoted s.reload P) is h

-- what is true of the commit of a reload whose files were read
pub of_files_read : (new old : ReaderState) (read : CommitRead) (P : CommitRead → Type 0) → new ≡ record old { reload = Some (FilesRead read) } → OfRead new.reload P → P read
of_files_read new old read P is h = subst (λ (s : ReaderState). OfRead s.reload P) is h

-- a reload that ends shows the commit whose files were read
pub shows_read : (new old : ReaderState) (read : CommitRead) (commit : Commit) → new ≡ record (published old read) { reload = None } → commit_read read ≡ commit → (snapshot_of new.shown.shown).commit ≡ commit
shows_read new old read commit is of = ap (λ (s : ReaderState). (snapshot_of s.shown.shown).commit) is ∙ of
