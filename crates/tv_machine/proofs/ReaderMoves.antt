-- How who reads changes in a step, and what holds of all who read after it.
use Rattle.std.proofs.Common.{◌≡◌, ℕ, ◌+◌, Bool, false, true≢false, List, [], ◌∷◌, map, Option, Some, None, refl, sym, ap, subst, ◌∙◌}
use Rattle.std.specs.Prelude.{IfSome, is_some}
use Rattle.std.specs.List.{AllByRecursion, cons_option, filter_map, list_any}
use Rattle.std.specs.BTreeMap.{is_at}
use Rattle.std.specs.Ordering.{nat_cmp}
use Rattle.std.proofs.lemmas.Bool.{or_parts}
use Rattle.tv_events.specs.declared.reload_policy.ReloadPolicy.{ReloadPolicy}
use Rattle.tv_formats.specs.Commits.{Commit}
use Rattle.tv_machine.specs.State.{Catalog, State, Readers, Reader, Reload, Locked, Read, Snapshot, no_readers, reader_at}
use Rattle.tv_machine.specs.Living.{is_busy, is_locked, unread_by, unread_commits}
use Rattle.tv_machine.specs.ReaderEvents.{bodies_in, new_reader, snapshot_in, with_new_reader, without_reader}
use Rattle.tv_machine.specs.ReloadEvents.{with_reader, with_notices}
use Rattle.tv_machine.specs.SearcherEvents.{with_searcher, without_searcher}
use Rattle.tv_formats.proofs.Numbered.{found, put_all, gone_all}

-- how a reader that stays may change in a step
pub data ReaderMove (t : State) (old : Reader) : Reader → Type 0 where
  -- it gets a notice, or not
  IsTold : (has_notice : Bool) → ReaderMove t old (record old { has_notice = has_notice })
  -- it shows the current commit
  Shows : (has_notice : Bool) → old.reload ≡ None → ReaderMove t old (record old { next = old.next + 1; shown = snapshot_in t old.next; has_notice = has_notice })
  -- it notes that commit
  Notes : old.reload ≡ None → is_busy t.catalog ≡ false → ReaderMove t old (record old { reload = Some (Locked t.catalog.commit) })
  -- the files of the commit that it has noted are read
  Opens : (noted : Commit) → old.reload ≡ Some (Locked noted) → ReaderMove t old (record old { reload = Some (Read noted (bodies_in t noted)) })
  -- it shows what was read
  Publishes : (noted : Commit) (bodies : List (List (List ℕ))) → old.reload ≡ Some (Read noted bodies)
      → ReaderMove t old (record old { next = old.next + 1; shown = record { generation = old.next; commit = noted; bodies = bodies }; reload = None })

-- how who reads changes in a step
pub data ReadersMove (t : State) (now : Readers) : Type 0 where
  -- a reader comes, and shows the current commit
  Comes : (policy : ReloadPolicy) → now ≡ (with_new_reader t.catalog policy (snapshot_in t 0)).reading → ReadersMove t now
  -- a reader changes
  Changes : (n : ℕ) (old new : Reader) → reader_at t.catalog n ≡ Some old → ReaderMove t old new → now ≡ (with_reader t.catalog n new).reading → ReadersMove t now
  -- each may change, and their reloads stay
  AllChange : (change : Reader → Reader) → ((reader : Reader) → (change reader).reload ≡ reader.reload) → AllByRecursion (λ e. ReaderMove t e.1 (change e.1)) t.catalog.reading.readers
      → now ≡ record t.catalog.reading { readers = map (λ e. (e.0, change e.1)) t.catalog.reading.readers } → ReadersMove t now
  -- a reader ends
  Leaves : (n : ℕ) → now ≡ (without_reader t.catalog n).reading → ReadersMove t now
  -- a searcher comes, and shows what a reader shows
  Searches : (n : ℕ) (reader : Reader) → reader_at t.catalog n ≡ Some reader → now ≡ (with_searcher t.catalog reader.shown).reading → ReadersMove t now
  -- a searcher ends
  Ends : (n : ℕ) → now ≡ (without_searcher t.catalog n).reading → ReadersMove t now

-- ---- what holds of all who read

pub all_of : {X : Type 0} (P : X → Type 0) (xs : List X) → ((x : X) → P x) → AllByRecursion P xs
all_of P [] f = tt
all_of P (x ∷ xs) f = (f x, all_of P xs f)

pub all_weaker : {X : Type 0} (P Q : X → Type 0) (xs : List X) → ((x : X) → P x → Q x) → AllByRecursion P xs → AllByRecursion Q xs
all_weaker P Q [] f h = tt
all_weaker P Q (x ∷ xs) f h = (f x h.0, all_weaker P Q xs f h.1)

-- what holds of each in two ways
pub all_both : {X : Type 0} (P Q : X → Type 0) (xs : List X) → AllByRecursion P xs → AllByRecursion Q xs → AllByRecursion (λ x. P x × Q x) xs
all_both P Q [] h k = tt
all_both P Q (x ∷ xs) h k = ((h.0, k.0), all_both P Q xs h.1 k.1)

-- what holds of each entry where its value is another one
pub all_mapped : {X : Type 0} (P Q : ℕ × X → Type 0) (change : X → X) (es : List (ℕ × X)) → ((e : ℕ × X) → P e → Q (e.0, change e.1)) → AllByRecursion P es → AllByRecursion Q (map (λ e. (e.0, change e.1)) es)
all_mapped P Q change [] f h = tt
all_mapped P Q change (e ∷ es) f h = (f e h.0, all_mapped P Q change es f h.1)

-- something that holds of each searcher and of each reader
pub record Holds (P : ℕ × Snapshot → Type 0) (R : ℕ × Reader → Type 0) (who : Readers) : Type 0 where
  pub searchers : AllByRecursion P who.searchers
  pub readers : AllByRecursion R who.readers

-- it holds of those that come in a step, and of readers that change
pub record Spreads (P : ℕ × Snapshot → Type 0) (R : ℕ × Reader → Type 0) (t : State) : Type 0 where
  pub comes : (policy : ReloadPolicy) → R (t.catalog.reading.next_reader, new_reader policy (snapshot_in t 0))
  pub changes : (n : ℕ) (old new : Reader) → ReaderMove t old new → R (n, old) → R (n, new)
  pub searches : (n : ℕ) (reader : Reader) → R (n, reader) → P (t.catalog.reading.next_searcher, reader.shown)

pub readers_hold : (P : ℕ × Snapshot → Type 0) (R : ℕ × Reader → Type 0) (t : State) (now : Readers) → ReadersMove t now → Spreads P R t → Holds P R t.catalog.reading → Holds P R now
readers_hold P R t now (Comes policy e) spreads h =
    subst (Holds P R) (sym e) (record { searchers = h.searchers; readers = put_all R t.catalog.reading.readers t.catalog.reading.next_reader _ h.readers (spreads.comes policy) })
readers_hold P R t now (Changes n old new is move e) spreads h =
    subst (Holds P R) (sym e) (record {
      searchers = h.searchers;
      readers = put_all R t.catalog.reading.readers n new h.readers (spreads.changes n old new move (found R t.catalog.reading.readers n old h.readers is));
    })
readers_hold P R t now (AllChange change stays moves e) spreads h =
    subst (Holds P R) (sym e) (record {
      searchers = h.searchers;
      readers =
          all_mapped (λ f. ReaderMove t f.1 (change f.1) × R f) R change t.catalog.reading.readers (λ f k. spreads.changes f.0 f.1 (change f.1) k.0 k.1)
          (all_both (λ f. ReaderMove t f.1 (change f.1)) R t.catalog.reading.readers moves h.readers);
    })
readers_hold P R t now (Leaves n e) spreads h =
    subst (Holds P R) (sym e) (record { searchers = h.searchers; readers = gone_all R (is_at (nat_cmp n)) t.catalog.reading.readers h.readers })
readers_hold P R t now (Searches n reader is e) spreads h =
    subst (Holds P R) (sym e) (record {
      searchers = put_all P t.catalog.reading.searchers t.catalog.reading.next_searcher _ h.searchers (spreads.searches n reader (found R t.catalog.reading.readers n reader h.readers is));
      readers = h.readers;
    })
readers_hold P R t now (Ends n e) spreads h =
    subst (Holds P R) (sym e) (record { searchers = gone_all P (is_at (nat_cmp n)) t.catalog.reading.searchers h.searchers; readers = h.readers })

pub nothing : {X : Type 0} (es : List X) → AllByRecursion (λ e. Unit {0}) es
nothing es = all_of (λ e. Unit {0}) es (λ e. tt)

-- ---- the commits that reloads have noted

-- what holds of each commit that a reader's reload has noted
abbrev pub OfUnread : (Commit → Type 0) → ℕ × Reader → Type 0
OfUnread Q e = IfSome (unread_by e.1.reload) Q

more_unread : (Q : Commit → Type 0) (unread : Option Commit) (commits : List Commit) → IfSome unread Q → AllByRecursion Q commits → AllByRecursion Q (cons_option unread commits)
more_unread Q None commits h k = k
more_unread Q (Some commit) commits h k = (h, k)

less_unread : (Q : Commit → Type 0) (unread : Option Commit) (commits : List Commit) → AllByRecursion Q (cons_option unread commits) → IfSome unread Q × AllByRecursion Q commits
less_unread Q None commits h = (tt, h)
less_unread Q (Some commit) commits h = (h.0, h.1)

unread_all : (Q : Commit → Type 0) (es : List (ℕ × Reader)) → AllByRecursion (OfUnread Q) es → AllByRecursion Q (filter_map (λ e. unread_by e.1.reload) es)
unread_all Q [] h = tt
unread_all Q (e ∷ es) h = more_unread Q (unread_by e.1.reload) (filter_map (λ f. unread_by f.1.reload) es) h.0 (unread_all Q es h.1)

pub all_unread : (Q : Commit → Type 0) (es : List (ℕ × Reader)) → AllByRecursion Q (filter_map (λ e. unread_by e.1.reload) es) → AllByRecursion (OfUnread Q) es
all_unread Q [] h = tt
all_unread Q (e ∷ es) h = let k = less_unread Q (unread_by e.1.reload) (filter_map (λ f. unread_by f.1.reload) es) h in (k.0, all_unread Q es k.1)

-- where it holds of the current commit, a change leaves it so
unread_move : (Q : Commit → Type 0) (t : State) (n : ℕ) (old new : Reader) → Q t.catalog.commit → ReaderMove t old new → OfUnread Q (n, old) → OfUnread Q (n, new)
unread_move Q t n old new here (IsTold has_notice) h = h
unread_move Q t n old new here (Shows has_notice none) h = h
unread_move Q t n old new here (Notes none free) h = here
unread_move Q t n old new here (Opens noted is) h = tt
unread_move Q t n old new here (Publishes noted bodies is) h = tt

pub unread_moved : (Q : Commit → Type 0) (t : State) (now : Readers) → ReadersMove t now → Q t.catalog.commit → AllByRecursion Q (unread_commits t.catalog) → AllByRecursion Q (unread_commits (record t.catalog { reading = now }))
unread_moved Q t now move here h =
    unread_all Q now.readers (readers_hold (λ e. Unit {0}) (OfUnread Q) t now move (record {
      comes = λ policy. tt;
      changes = λ n old new move k. unread_move Q t n old new here move k;
      searches = λ n reader k. tt;
    }) (record { searchers = nothing t.catalog.reading.searchers; readers = all_unread Q t.catalog.reading.readers h })).readers

-- notices change nothing about that
noticed_readers : (es : List (ℕ × Reader)) (change : Reader → Reader) → ((reader : Reader) → (change reader).reload ≡ reader.reload)
    → filter_map {X = ℕ × Reader} (λ e. unread_by e.1.reload) (map (λ e. (e.0, change e.1)) es) ≡ filter_map {X = ℕ × Reader} (λ e. unread_by e.1.reload) es
noticed_readers [] change stays = refl
noticed_readers (e ∷ es) change stays =
    ap (λ (l : List Commit). cons_option (unread_by (change e.1).reload) l) (noticed_readers es change stays)
    ∙ ap (λ (r : Option Reload). cons_option (unread_by r) (filter_map {X = ℕ × Reader} (λ f. unread_by f.1.reload) es)) (stays e.1)

pub noticed_unread : (c : Catalog) → unread_commits (record c { reading = with_notices c.reading }) ≡ unread_commits c
noticed_unread c = noticed_readers c.reading.readers _ (λ reader. refl)

-- where the meta lock is free there are none
none_locked : (es : List (ℕ × Reader)) → list_any (λ e. is_locked e.1) es ≡ false → filter_map (λ e. unread_by e.1.reload) es ≡ []
none_locked [] free = refl
none_locked (e ∷ es) free =
    let parts = or_parts (is_locked e.1) (list_any (λ f. is_locked f.1) es) free in
    free_here (unread_by e.1.reload) parts.0 (none_locked es parts.1)
  where
    free_here : (unread : Option Commit) → is_some unread ≡ false → {rest : List Commit} → rest ≡ [] → cons_option unread rest ≡ []
    free_here None h k = k
    free_here (Some commit) h k = absurd (true≢false h)

pub none_unread : (c : Catalog) → is_busy c ≡ false → unread_commits c ≡ []
none_unread c free = none_locked c.reading.readers free

-- nor where nobody reads
pub nobody_unread : (c : Catalog) → c.reading ≡ no_readers → unread_commits c ≡ []
nobody_unread c e = ap (λ (who : Readers). unread_commits (record c { reading = who })) e
