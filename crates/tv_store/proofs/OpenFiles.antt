-- The entries of open files, and what of them stays true.
use Rattle.std.proofs.Common.{◌≡◌, ◌⊎◌, inl, inr, ℕ, Bool, true, false, true≢false, cond, List, [], ◌∷◌, map, Option, Some, None, option_map, is_some, length, ◌++◌, ◌+◌, ◌<◌, length-append, refl, sym, ap, subst, ◌∙◌, Ok, Err}
use Rattle.std.specs.Prelude.{IsSome, Result}
use Rattle.std.specs.Ordering.{match_ordering}
use Rattle.std.specs.declared.cmp.Ordering.{Ordering}
use Rattle.std.specs.declared.cmp.Ordering.TheVariants.{Less, Equal, Greater}
use Rattle.std.specs.List.{AllByRecursion}
use Rattle.std.specs.Map.{remove_entry, set_value}
use Rattle.std.specs.BTreeMap.{is_at, insert_entry}
use Rattle.std.specs.BTreeSet.{insert_key}
use Rattle.tv_formats.specs.Names.{byte_cmp, has, is_plain, meta_name, at}
use Rattle.tv_formats.specs.Collections.{Collections, held}
use Rattle.tv_formats.specs.Files.{Reads, KeepsOthers, Sets}
use Rattle.tv_formats.specs.Footer.{sealed}
use Rattle.tv_machine.proofs.Changes.{none_is}
use Rattle.tv_formats.proofs.Entries.{text_at}
use Rattle.tv_formats.proofs.PlainNames.{plain_is_undotted}
use Rattle.tv_device.specs.View.{DeletesNone, WriterState}
use Rattle.tv_device.specs.declared.directory.Directory.{Ghosts}
use Rattle.tv_managed.specs.Managed.{ManagesFile, registered, registering}
use Rattle.tv_managed.specs.Names.{ManagedNames}
use Rattle.tv_managed.specs.Writers.{IsNewManaged, IsSummed}
use Rattle.tv_managed.specs.declared.writer.ManagedWriter.{ManagedWriter}
use Rattle.tv_formats.specs.Commits.{IndexForm}
use Rattle.tv_store.specs.declared.files.OpenFile.{OpenFile}
use Rattle.tv_store.specs.Kept.{FilesState}
use Rattle.tv_store.specs.FileCalls.{Asked}
use Rattle.tv_store.specs.OpenFiles.{AreThere, IsOpenFile}
use Rattle.tv_store.proofs.KnownFiles.{KeepsThere, still_there}
use Rattle.tv_catalog.proofs.SharedLaws.{all_put, all_left, all_found, left}

found : {X Y : Type 0} (f : X → Y) (b : Bool) (x : X) (rest : Option X) (seen : Option Y) → seen ≡ option_map f rest → cond b (Some (f x)) seen ≡ option_map f (cond b (Some x) rest)
found f true x rest seen e = refl
found f false x rest seen e = e

-- what stands at a name, seen through a function
pub at_seen : {X Y : Type 0} (f : X → Y) (es : List (List ℕ × X)) (n : List ℕ) → at (map (λ e. (e.0, f e.1)) es) n ≡ option_map f (at es n)
at_seen f [] n = refl
at_seen f (e ∷ es) n = found f (is_at (byte_cmp n) e.0) e.1 (at es n) _ (at_seen f es n)

placed : {X Y : Type 0} (f : X → Y) (r : Ordering) (n : List ℕ) (v : X) (e : List ℕ × X) (es rest : List (List ℕ × X)) (seen : List (List ℕ × Y)) → map (λ e. (e.0, f e.1)) rest ≡ seen
    → map (λ e. (e.0, f e.1)) (match_ordering r ((n, v) ∷ e ∷ es) ((e.0, v) ∷ es) (e ∷ rest))
    ≡ match_ordering r ((n, f v) ∷ (e.0, f e.1) ∷ map (λ e. (e.0, f e.1)) es) ((e.0, f v) ∷ map (λ e. (e.0, f e.1)) es) ((e.0, f e.1) ∷ seen)
placed f Less n v e es rest seen h = refl
placed f Equal n v e es rest seen h = refl
placed {X} {Y} f Greater n v e es rest seen h = ap (λ (t : List (List ℕ × Y)). (e.0, f e.1) ∷ t) h

-- an entry that is put, seen through a function
pub put_seen : {X Y : Type 0} (f : X → Y) (es : List (List ℕ × X)) (n : List ℕ) (v : X) → map (λ e. (e.0, f e.1)) (insert_entry byte_cmp es n v) ≡ insert_entry byte_cmp (map (λ e. (e.0, f e.1)) es) n (f v)
put_seen f [] n v = refl
put_seen f (e ∷ es) n v = placed f (byte_cmp n e.0) n v e es (insert_entry byte_cmp es n v) _ (put_seen f es n v)

cut : {X Y : Type 0} (f : X → Y) (b : Bool) (e : List ℕ × X) (es rest : List (List ℕ × X)) (seen : List (List ℕ × Y)) → map (λ e. (e.0, f e.1)) rest ≡ seen
    → map (λ e. (e.0, f e.1)) (cond b es (e ∷ rest)) ≡ cond b (map (λ e. (e.0, f e.1)) es) ((e.0, f e.1) ∷ seen)
cut f true e es rest seen h = refl
cut {X} {Y} f false e es rest seen h = ap (λ (t : List (List ℕ × Y)). (e.0, f e.1) ∷ t) h

-- entries of which one was taken out, seen through a function
pub cut_seen : {X Y : Type 0} (f : X → Y) (es : List (List ℕ × X)) (test : List ℕ → Bool) → map (λ e. (e.0, f e.1)) (remove_entry test es) ≡ remove_entry test (map (λ e. (e.0, f e.1)) es)
cut_seen f [] test = refl
cut_seen f (e ∷ es) test = cut f (test e.0) e es (remove_entry test es) _ (cut_seen f es test)

reset : {X Y : Type 0} (f : X → Y) (b : Bool) (e : List ℕ × X) (v : X) (es rest : List (List ℕ × X)) (seen : List (List ℕ × Y)) → map (λ e. (e.0, f e.1)) rest ≡ seen
    → map (λ e. (e.0, f e.1)) (cond b ((e.0, v) ∷ es) (e ∷ rest)) ≡ cond b ((e.0, f v) ∷ map (λ e. (e.0, f e.1)) es) ((e.0, f e.1) ∷ seen)
reset f true e v es rest seen h = refl
reset {X} {Y} f false e v es rest seen h = ap (λ (t : List (List ℕ × Y)). (e.0, f e.1) ∷ t) h

-- entries of which one was changed, seen through a function
pub set_seen : {X Y : Type 0} (f : X → Y) (es : List (List ℕ × X)) (test : List ℕ → Bool) (v : X) → map (λ e. (e.0, f e.1)) (set_value test es v) ≡ set_value test (map (λ e. (e.0, f e.1)) es) (f v)
set_seen f [] test v = refl
set_seen f (e ∷ es) test v = reset f (test e.0) e v es (set_value test es v) _ (set_seen f es test v)

cut_reset : {X : Type 0} (test : List ℕ → Bool) (b : Bool) (e : List ℕ × X) (v : X) (es rest : List (List ℕ × X)) → test e.0 ≡ b → remove_entry test rest ≡ remove_entry test es
    → remove_entry test (cond b ((e.0, v) ∷ es) (e ∷ rest)) ≡ cond b es (e ∷ remove_entry test es)
cut_reset {X} test true e v es rest is h = ap (λ (b : Bool). cond b es ((e.0, v) ∷ remove_entry test es)) is
cut_reset {X} test false e v es rest is h = ap (λ (b : Bool). cond b rest (e ∷ remove_entry test rest)) is ∙ ap (λ (t : List (List ℕ × X)). e ∷ t) h

-- one that is taken out may have been changed before
pub cut_set : {X : Type 0} (es : List (List ℕ × X)) (test : List ℕ → Bool) (v : X) → remove_entry test (set_value test es v) ≡ remove_entry test es
cut_set [] test v = refl
cut_set (e ∷ es) test v = cut_reset test (test e.0) e v es (set_value test es v) refl (cut_set es test v)

-- what is true of each entry, and of one that is changed
pub all_set : {X : Type 0} (P : List ℕ × X → Type 0) (es : List (List ℕ × X)) (n : List ℕ) (v : X) → P (n, v) → AllByRecursion P es → AllByRecursion P (set_value (is_at (byte_cmp n)) es v)
all_set P [] n v here h = tt
all_set {X} P (e ∷ es) n v here h =
    elim (is_at (byte_cmp n) e.0) as (λ b. is_at (byte_cmp n) e.0 ≡ b → AllByRecursion P (cond b ((e.0, v) ∷ es) (e ∷ set_value (is_at (byte_cmp n)) es v))) [
      | true ↦ λ is. (subst (λ (k : List ℕ). P (k, v)) (text_at n e.0 is) here, h.1)
      | false ↦ λ is. (h.0, all_set P es n v here h.1)
    ] refl

-- these files are open
abbrev pub AreOpen : {D W C : Type 0} (g : Ghosts D W C) (directory : D) → List (List ℕ × OpenFile D W C) → Type 0
AreOpen g directory es = AllByRecursion (λ e. IsOpenFile g directory e.0 e.1.writer e.1.len) es

-- open files stay open where no file is deleted
pub still_open : {D W C : Type 0} (g : Ghosts D W C) (old new : D) (es : List (List ℕ × OpenFile D W C)) → DeletesNone g.told (g.view old) (g.view new) → AreOpen g old es → AreOpen g new es
still_open g old new [] frame h = tt
still_open g old new (e ∷ es) frame h = (
  record {
    opened_is = frame.goes_on.writers e.1.writer.writer h.0.opened_is;
    lives_is = λ tells. frame.alive tells e.1.writer.writer (h.0.lives_is tells);
    name_is = h.0.name_is;
    len_is = h.0.len_is;
    summed_is = h.0.summed_is;
  },
  still_open g old new es frame h.1,
)

-- one more open file
pub put_open : {D W C : Type 0} (g : Ghosts D W C) (directory : D) (es new : List (List ℕ × OpenFile D W C)) (n : List ℕ) (file : OpenFile D W C) → new ≡ insert_entry byte_cmp es n file
    → IsOpenFile g directory n file.writer file.len → AreOpen g directory es → AreOpen g directory new
put_open g directory es new n file put here h = subst (λ fs. AreOpen g directory fs) (sym put) (all_put (λ e. IsOpenFile g directory e.0 e.1.writer e.1.len) es n file here h)

-- one that was written
pub set_open : {D W C : Type 0} (g : Ghosts D W C) (directory : D) (es new : List (List ℕ × OpenFile D W C)) (n : List ℕ) (file : OpenFile D W C) → new ≡ set_value (is_at (byte_cmp n)) es file
    → IsOpenFile g directory n file.writer file.len → AreOpen g directory es → AreOpen g directory new
set_open g directory es new n file put here h = subst (λ fs. AreOpen g directory fs) (sym put) (all_set (λ e. IsOpenFile g directory e.0 e.1.writer e.1.len) es n file here h)

-- one less
pub left_open : {D W C : Type 0} (g : Ghosts D W C) (directory : D) (es new : List (List ℕ × OpenFile D W C)) (test : List ℕ → Bool) → new ≡ remove_entry test es → AreOpen g directory es → AreOpen g directory new
left_open g directory es new test cut h = subst (λ fs. AreOpen g directory fs) (sym cut) (all_left (λ e. IsOpenFile g directory e.0 e.1.writer e.1.len) es test h)

-- a file that is found is open
pub found_open : {D W C : Type 0} (g : Ghosts D W C) (directory : D) (es : List (List ℕ × OpenFile D W C)) (n : List ℕ) (file : OpenFile D W C) → Some file ≡ at es n → AreOpen g directory es → IsOpenFile g directory n file.writer file.len
found_open g directory es n file it h = all_found (λ e. IsOpenFile g directory e.0 e.1.writer e.1.len) es n file h (sym it)

-- these files are open, no unfinished collection has `meta.json`, and the known files are there
abbrev pub AreFiles : {D W C : Type 0} (g : Ghosts D W C) (directory : D × ManagedNames) → List (List ℕ × OpenFile D W C) → (known : List (List ℕ)) → Type 0
AreFiles g directory es known = AreOpen g directory.0 es × (has (held directory.1.collections) meta_name ≡ false) × (g.told.content → AreThere (g.view directory.0).reads known)

-- that goes on where no file is deleted, and the collections stay
pub still_files : {D W C : Type 0} (g : Ghosts D W C) (old new : D × ManagedNames) (es : List (List ℕ × OpenFile D W C)) (known : List (List ℕ)) → DeletesNone g.told (g.view old.0) (g.view new.0) → new.1.collections ≡ old.1.collections
    → (g.told.content → KeepsThere (g.view old.0).reads (g.view new.0).reads) → AreFiles g old es known → AreFiles g new es known
still_files g old new es known frame same there h =
    (still_open g old.0 new.0 es frame h.0, ap (λ (cs : Collections). has (held cs) meta_name) same ∙ h.1, λ tells. still_there (g.view old.0).reads (g.view new.0).reads known (there tells) (h.2 tells))

-- with other open files
pub with_open : {D W C : Type 0} (g : Ghosts D W C) (directory : D × ManagedNames) (es new : List (List ℕ × OpenFile D W C)) (known : List (List ℕ)) → AreOpen g directory.0 new → AreFiles g directory es known → AreFiles g directory new known
with_open g directory es new known files h = (files, h.1, h.2)

-- with other known ones
pub with_known : {D W C : Type 0} (g : Ghosts D W C) (directory : D × ManagedNames) (es : List (List ℕ × OpenFile D W C)) (known new : List (List ℕ)) → (g.told.content → AreThere (g.view directory.0).reads new) → AreFiles g directory es known → AreFiles g directory es new
with_known g directory es known new there h = (h.0, h.1, there)

pub put_files : {D W C : Type 0} (g : Ghosts D W C) (directory : D × ManagedNames) (es new : List (List ℕ × OpenFile D W C)) (known : List (List ℕ)) (n : List ℕ) (file : OpenFile D W C) → new ≡ insert_entry byte_cmp es n file
    → IsOpenFile g directory.0 n file.writer file.len → AreFiles g directory es known → AreFiles g directory new known
put_files g directory es new known n file put here h = with_open g directory es new known (put_open g directory.0 es new n file put here h.0) h

pub left_files : {D W C : Type 0} (g : Ghosts D W C) (directory : D × ManagedNames) (es new : List (List ℕ × OpenFile D W C)) (known : List (List ℕ)) (test : List ℕ → Bool) → new ≡ remove_entry test es → AreFiles g directory es known → AreFiles g directory new known
left_files g directory es new known test cut h = with_open g directory es new known (left_open g directory.0 es new test cut h.0) h

pub same_files : {D W C : Type 0} (g : Ghosts D W C) (directory : D × ManagedNames) (es new : List (List ℕ × OpenFile D W C)) (known : List (List ℕ)) → new ≡ es → AreFiles g directory es known → AreFiles g directory new known
same_files g directory es new known same h = subst (λ fs. AreFiles g directory fs known) (sym same) h

-- the collections stay where a file is made, or given its bytes
pub kept_collections : {A E D W C : Type 0} (g : Ghosts D W C) (old new : D × ManagedNames) (name : List ℕ) (r : Result A E) → ManagesFile g old new name r → new.1.collections ≡ old.1.collections
kept_collections g old new name (Ok x) h = ap (λ (names : ManagedNames). names.collections) h.ok
kept_collections g old new name (Err e) h = either_way old.1 new.1 name h.err where
  either_way : (before after : ManagedNames) (name : List ℕ) → (after ≡ before) ⊎ (after ≡ registering before name) → after.collections ≡ before.collections
  either_way before after name (inl e) = ap (λ (names : ManagedNames). names.collections) e
  either_way before after name (inr e) = ap (λ (names : ManagedNames). names.collections) e

-- what was written to open files
abbrev pub bodies : {D W C : Type 0} → (W → List ℕ) → List (List ℕ × OpenFile D W C) → List (List ℕ × List ℕ)
bodies written es = map (λ e. (e.0, written e.1.writer.writer)) es

-- what was written to an open file, if there is one under a name
pub body_at : {D W C : Type 0} (written : W → List ℕ) (es : List (List ℕ × OpenFile D W C)) (old : List (List ℕ × List ℕ)) (n : List ℕ) (found : Option (OpenFile D W C))
    → bodies written es ≡ old → found ≡ at es n → at old n ≡ option_map (λ file. written file.writer.writer) found
body_at {D} {W} {C} written es old n found is it =
    ap (λ (bs : List (List ℕ × List ℕ)). at bs n) (sym is) ∙ at_seen (λ (file : OpenFile D W C). written file.writer.writer) es n ∙ ap (λ (o : Option (OpenFile D W C)). option_map (λ file. written file.writer.writer) o) (sym it)

-- what was written to an open file that is found
pub body_is : {D W C : Type 0} (written : W → List ℕ) (es : List (List ℕ × OpenFile D W C)) (old : List (List ℕ × List ℕ)) (n : List ℕ) (file : OpenFile D W C)
    → bodies written es ≡ old → Some file ≡ at es n → at old n ≡ Some (written file.writer.writer)
body_is written es old n file is it = body_at written es old n (Some file) is it

same_body : (o : Option (List ℕ)) (xs ys : List ℕ) → o ≡ Some xs → o ≡ Some ys → ys ≡ xs
same_body o xs ys e f = let k : Some ys ≡ Some xs = sym f ∙ e in cc

-- and nothing else was written to it
pub same_body_is : {D W C : Type 0} (written : W → List ℕ) (es : List (List ℕ × OpenFile D W C)) (old : List (List ℕ × List ℕ)) (n : List ℕ) (file : OpenFile D W C) (body : List ℕ)
    → bodies written es ≡ old → Some file ≡ at es n → at old n ≡ Some body → body ≡ written file.writer.writer
same_body_is written es old n file body is it here = same_body (at old n) (written file.writer.writer) body (body_is written es old n file is it) here

-- no file is open under a name
pub isnt_open : {D W C : Type 0} (written : W → List ℕ) (es : List (List ℕ × OpenFile D W C)) (old : List (List ℕ × List ℕ)) (n : List ℕ) → bodies written es ≡ old → None ≡ at es n → at old n ≡ None
isnt_open written es old n is it = body_at written es old n None is it

absent : {X : Type 0} (o : Option X) → o ≡ None → IsSome o → ⊥
absent o e h = let k = subst IsSome e h in absurd (true≢false (sym k))

-- one that is open is found
pub must_be_open : {D W C : Type 0} (written : W → List ℕ) (es : List (List ℕ × OpenFile D W C)) (old : List (List ℕ × List ℕ)) (n : List ℕ) (found : Option (OpenFile D W C)) → bodies written es ≡ old → found ≡ at es n → found ≡ None → IsSome (at old n) → ⊥
must_be_open written es old n found is it none some = absent (at old n) (isnt_open written es old n is (sym none ∙ it)) some

tested : {X Y : Type 0} (f : X → Y) (o : Option X) → is_some (option_map f o) ≡ is_some o
tested f None = refl
tested f (Some x) = refl

-- whether a file is open under a name
pub is_open : {D W C : Type 0} (written : W → List ℕ) (es : List (List ℕ × OpenFile D W C)) (old : List (List ℕ × List ℕ)) (n : List ℕ) (b : Bool) → bodies written es ≡ old → b ≡ is_some (at es n) → is_some (at old n) ≡ b
is_open {D} {W} {C} written es old n b is e =
    ap is_some (body_at written es old n (at es n) is refl) ∙ tested (λ (file : OpenFile D W C). written file.writer.writer) (at es n) ∙ sym e

-- what was written, after a file was opened
pub bodies_put : {D W C : Type 0} (written : W → List ℕ) (es new : List (List ℕ × OpenFile D W C)) (old : List (List ℕ × List ℕ)) (n : List ℕ) (file : OpenFile D W C) (body : List ℕ)
    → new ≡ insert_entry byte_cmp es n file → bodies written es ≡ old → written file.writer.writer ≡ body → bodies written new ≡ insert_entry byte_cmp old n body
bodies_put {D} {W} {C} written es new old n file body put is here =
    ap (λ (fs : List (List ℕ × OpenFile D W C)). bodies written fs) put ∙ put_seen (λ (file : OpenFile D W C). written file.writer.writer) es n file
    ∙ ap (λ (bs : List (List ℕ × List ℕ)). insert_entry byte_cmp bs n (written file.writer.writer)) is ∙ ap (λ (b : List ℕ). insert_entry byte_cmp old n b) here

-- after one was written
pub bodies_set : {D W C : Type 0} (written : W → List ℕ) (es new : List (List ℕ × OpenFile D W C)) (old : List (List ℕ × List ℕ)) (test : List ℕ → Bool) (file : OpenFile D W C) (body : List ℕ)
    → new ≡ set_value test es file → bodies written es ≡ old → written file.writer.writer ≡ body → bodies written new ≡ set_value test old body
bodies_set {D} {W} {C} written es new old test file body put is here =
    ap (λ (fs : List (List ℕ × OpenFile D W C)). bodies written fs) put ∙ set_seen (λ (file : OpenFile D W C). written file.writer.writer) es test file
    ∙ ap (λ (bs : List (List ℕ × List ℕ)). set_value test bs (written file.writer.writer)) is ∙ ap (λ (b : List ℕ). set_value test old b) here

-- and after one was taken out
pub bodies_left : {D W C : Type 0} (written : W → List ℕ) (es new : List (List ℕ × OpenFile D W C)) (old : List (List ℕ × List ℕ)) (test : List ℕ → Bool)
    → new ≡ remove_entry test es → bodies written es ≡ old → bodies written new ≡ remove_entry test old
bodies_left {D} {W} {C} written es new old test cut is =
    ap (λ (fs : List (List ℕ × OpenFile D W C)). bodies written fs) cut ∙ cut_seen (λ (file : OpenFile D W C). written file.writer.writer) es test ∙ ap (λ (bs : List (List ℕ × List ℕ)). remove_entry test bs) is

-- the files of a store after one was taken out
pub one_less : {O D W C : Type 0} {locked : Bool} (written : W → List ℕ) (outside : O) (form : IndexForm) (managed : List (List ℕ)) (collections : Collections) (es new : List (List ℕ × OpenFile D W C)) (left : List (List ℕ)) (old : FilesState O) (test : List ℕ → Bool)
    → new ≡ remove_entry test es → record { outside = outside; form = form; managed = managed; collections = collections; open_files = bodies written es; left = left; locked = locked } ≡ old
    → record { outside = outside; form = form; managed = managed; collections = collections; open_files = bodies written new; left = left; locked = locked } ≡ record old { open_files = remove_entry test old.open_files }
one_less {O} {locked = locked} written outside form managed collections es new left old test cut is =
    ap (λ (open_files : List (List ℕ × List ℕ)). the_files open_files) (bodies_left written es new (bodies written es) test cut refl)
    ∙ ap (λ (v : FilesState O). record v { open_files = remove_entry test v.open_files }) is where
      the_files : List (List ℕ × List ℕ) → FilesState O
      the_files open_files = record { outside = outside; form = form; managed = managed; collections = collections; open_files = open_files; left = left; locked = locked }

-- whether a file is sealed, by what the directory answers where it isn't open and wasn't left
pub sealed_answer : {S : Type 0} (reads : S → Reads) (inside old : S) (asked name : List ℕ) (found left : Bool) (o : Option (List ℕ)) → inside ≡ old → asked ≡ name → found ≡ is_some (reads inside asked) → is_some o ≡ false → left ≡ false
    → Asked (reads old name) o left found
sealed_answer {S} reads inside old asked name found left o same text answer none stays =
    let it : found ≡ is_some (reads old name) = answer ∙ ap (λ (s : S). is_some (reads s asked)) same ∙ ap (λ (n : List ℕ). is_some (reads old n)) text in
    record { yes = λ e. (sym it ∙ e, none_is o none, stays); no = λ e. inl (none_is (reads old name) (sym it ∙ e)) }

-- one that is known is
pub known_answer : (before o : Option (List ℕ)) (left : Bool) → IsSome before → is_some o ≡ false → left ≡ false → Asked before o left true
known_answer before o left some none stays = record { yes = λ e. (some, none_is o none, stays); no = λ e. absurd (true≢false e) }

-- an open file isn't sealed, and neither is one that was left
pub open_answer : (before o : Option (List ℕ)) (left : Bool) → is_some o ≡ true → Asked before o left false
open_answer before o left h = record { yes = λ e. absurd (true≢false (sym e)); no = λ e. inr (inl h) }

pub left_answer : (before o : Option (List ℕ)) (left : Bool) → left ≡ true → Asked before o left false
left_answer before o left h = record { yes = λ e. absurd (true≢false (sym e)); no = λ e. inr (inr h) }

-- a plain name is on the list
pub plain_registered : (names names' after : List (List ℕ)) (asked name : List ℕ) → after ≡ registered names asked → names ≡ names' → asked ≡ name → is_plain name ≡ true → after ≡ insert_key byte_cmp names' name
plain_registered names names' after asked name is same text plain =
    is ∙ ap (λ (ns : List (List ℕ)). registered ns asked) same ∙ ap (λ (n : List ℕ). registered names' n) text ∙ ap (λ (b : Bool). cond b (insert_key byte_cmp names' name) names') (plain_is_undotted name plain)

-- the files after a call changed only the writer's
pub others_kept : {S : Type 0} (reads : S → Reads) (inside old new : S) (written_to name : List ℕ) → inside ≡ old → written_to ≡ name → KeepsOthers (reads inside) (reads new) written_to → KeepsOthers (reads old) (reads new) name
others_kept {S} reads inside old new written_to name same is h = subst (λ (n : List ℕ). KeepsOthers (reads old) (reads new) n) is (subst (λ (s : S). KeepsOthers (reads s) (reads new) written_to) same h)

-- a file that was sealed
pub sealed_is : {S : Type 0} (reads : S → Reads) (inside old new : S) (sealed_to name bytes body : List ℕ) → inside ≡ old → sealed_to ≡ name → body ≡ bytes
    → Sets (reads inside) (reads new) sealed_to (Some (sealed bytes)) → Sets (reads old) (reads new) name (Some (sealed body))
sealed_is {S} reads inside old new sealed_to name bytes body same is text h =
    subst (λ (b : List ℕ). Sets (reads old) (reads new) name (Some (sealed b))) (sym text)
    (subst (λ (n : List ℕ). Sets (reads old) (reads new) n (Some (sealed bytes))) is (subst (λ (s : S). Sets (reads s) (reads new) sealed_to (Some (sealed bytes))) same h))

-- the length of what was written
pub length_is : (o : Option (List ℕ)) (body : List ℕ) (len : ℕ) → o ≡ Some body → len ≡ length body → Some len ≡ option_map length o
length_is o body len it e = ap (λ (n : ℕ). Some n) e ∙ ap (λ (p : Option (List ℕ)). option_map length p) (sym it)

-- no file is open, so it has no length
pub length_isnt : (o : Option (List ℕ)) → o ≡ None → None ≡ option_map length o
length_isnt o e = ap (λ (p : Option (List ℕ)). option_map length p) (sym e)

-- entries that stay as they are
pub same_open : {D W C : Type 0} (g : Ghosts D W C) (directory : D) (es new : List (List ℕ × OpenFile D W C)) → new ≡ es → AreOpen g directory es → AreOpen g directory new
same_open g directory es new same h = subst (λ fs. AreOpen g directory fs) (sym same) h

-- a file that was just opened
pub new_open : {D W C : Type 0} (g : Ghosts D W C) (directory : D) (asked name : List ℕ) (w : ManagedWriter D W C) → asked ≡ name → IsNewManaged g directory asked w → IsOpenFile g directory name w 0
new_open g directory asked name w same h = record {
  opened_is = h.writer.opened;
  lives_is = h.writer.lives;
  name_is = ap (λ (s : WriterState). s.name) h.writer.state ∙ same;
  len_is = ap length (sym (ap (λ (s : WriterState). s.written) h.writer.state));
  summed_is = h.summed;
}

-- a file to which bytes were added
pub written_open : {D W C : Type 0} (g : Ghosts D W C) (old new : D) (name : List ℕ) (w more : ManagedWriter D W C) (len : ℕ) (bytes : List ℕ)
    → (g.state_of more.writer).written ≡ (g.state_of w.writer).written ++ bytes → (g.view new).opened more.writer ≡ true → (g.told.content → (g.view new).lives more.writer ≡ (g.view old).lives w.writer)
    → (g.state_of more.writer).name ≡ (g.state_of w.writer).name → (IsSummed g.state_of w → IsSummed g.state_of more)
    → IsOpenFile g old name w len → IsOpenFile g new name more (len + length bytes)
written_open g old new name w more len bytes added is_opened alive same sum h = record {
  opened_is = is_opened;
  lives_is = λ tells. alive tells ∙ h.lives_is tells;
  name_is = same ∙ h.name_is;
  summed_is = sum h.summed_is;
  len_is = ap (λ n. n + length bytes) h.len_is ∙ sym (ap length added ∙ length-append (g.state_of w.writer).written bytes);
}

-- a length that is kept
pub longer_fits : (len n m : ℕ) → len ≡ n → n + m < 18446744073709551616 → len + m < 18446744073709551616
longer_fits len n m e h = rw e h

-- what a name reads
pub there_is : (reads : Reads) (written_to name : List ℕ) → written_to ≡ name → IsSome (reads written_to) → IsSome (reads name)
there_is reads written_to name e h = subst (λ n. IsSome (reads n)) e h

-- what was written, with more behind it
pub more_is : (now was body bytes : List ℕ) → now ≡ was ++ bytes → body ≡ was → now ≡ body ++ bytes
more_is now was body bytes e f = e ∙ ap (λ (b : List ℕ). b ++ bytes) (sym f)
