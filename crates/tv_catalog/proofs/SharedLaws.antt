-- Laws of lists of entries, of lines and of names, that what stands above needs too.
use Rattle.std.proofs.Common.{◌≡◌, ℕ, Bool, ◌||◌, List, [], ◌∷◌, ◌++◌, refl, sym, ap, ◌∙◌, true, false, cond, Some, subst, ◌+◌, ◌<◌, length, get_or, drop, codes, Option, None, option_map, map, ◌⊎◌, inl, inr, arith, length-append}
use Rattle.tv_formats.specs.Names.{has, byte_cmp, at, is}
use Rattle.tv_formats.specs.Collections.{Collections, collectable, held}
use Rattle.tv_machine.specs.Living.{living}
use Rattle.tv_machine.specs.State.{Catalog, State, StepResult, live_at}
use Rattle.tv_formats.proofs.CollectedNames.{has_append}
use Rattle.std.specs.Ordering.{is_eq, match_ordering}
use Rattle.std.specs.declared.cmp.Ordering.TheVariants.{Less, Equal, Greater}
use Rattle.std.specs.List.{AllByRecursion}
use Rattle.std.specs.Map.{remove_entry}
use Rattle.std.specs.BTreeMap.{is_at, insert_entry}
use Rattle.tv_formats.proofs.Entries.{text_at}
use Rattle.std.proofs.lemmas.List.{drop_more}
use Rattle.tv_formats.specs.declared.segment.LiveSegment.{LiveSegment}
use Rattle.tv_formats.specs.Commits.{IsSegment}
use Rattle.tv_formats.specs.declared.segment.SegmentComponent.{SegmentComponent}
use Rattle.tv_formats.specs.Segments.{name_of, required_components, required_names, all_required}
use Rattle.tv_machine.specs.Lines.{given}
use Rattle.tv_events.specs.AnswerLines.{line}
use Rattle.tv_formats.specs.declared.segment.DeleteMeta.{DeleteMeta}
use Rattle.tv_formats.specs.Ids.{IsId}
use Rattle.tv_machine.specs.Index.{IsFileOf}
use Rattle.tv_machine.proofs.Required.{name_is_file}
use Rattle.tv_catalog.specs.Exhausted.{PassesEnd}
use Rattle.tv_snapshots.proofs.ListLaws.{all_joined}

-- names that are among others alike are spared alike
pub same_collectable : (needed others managed : List (List ℕ)) → ((n : List ℕ) → has needed n ≡ has others n) → collectable needed managed ≡ collectable others managed
same_collectable needed others [] h = refl
same_collectable needed others (x ∷ managed) h = rw (h x, same_collectable needed others managed h) refl

-- what is needed, and what is held, by the state
pub same_needs : (needed : List (List ℕ)) (collections held_by : Collections) (catalog : Catalog) → collections ≡ held_by → ((n : List ℕ) → has needed n ≡ has (living catalog) n)
    → (n : List ℕ) → has (needed ++ held collections) n ≡ has (living catalog ++ held held_by) n
same_needs needed collections held_by catalog same needs n =
    has_append needed (held collections) n ∙ ap (λ (b : Bool). b || has (held collections) n) (needs n) ∙ ap (λ (c : Collections). has (living catalog) n || has (held c) n) same
    ∙ sym (has_append (living catalog) (held held_by) n)

-- what is true of each entry, and of one that is put
pub all_put : {X : Type 0} (P : List ℕ × X → Type 0) (es : List (List ℕ × X)) (n : List ℕ) (v : X) → P (n, v) → AllByRecursion P es → AllByRecursion P (insert_entry byte_cmp es n v)
all_put P [] n v here h = (here, tt)
all_put {X} P (e ∷ es) n v here h =
    elim (byte_cmp n e.0) as (λ r. byte_cmp n e.0 ≡ r → AllByRecursion P (match_ordering r ((n, v) ∷ e ∷ es) ((e.0, v) ∷ es) (e ∷ insert_entry byte_cmp es n v))) [
      | Less ↦ λ r. (here, h)
      | Equal ↦ λ r. (subst (λ (k : List ℕ). P (k, v)) (text_at n e.0 (ap is_eq r)) here, h.1)
      | Greater ↦ λ r. (h.0, all_put P es n v here h.1)
    ] refl

pub left : {X : Type 0} (P : List ℕ × X → Type 0) (b : Bool) (e : List ℕ × X) (es rest : List (List ℕ × X)) → P e → AllByRecursion P es → AllByRecursion P rest → AllByRecursion P (cond b es (e ∷ rest))
left P true e es rest here h more = h
left P false e es rest here h more = (here, more)

-- what is true of each entry is true of those that are left
pub all_left : {X : Type 0} (P : List ℕ × X → Type 0) (es : List (List ℕ × X)) (test : List ℕ → Bool) → AllByRecursion P es → AllByRecursion P (remove_entry test es)
all_left P [] test h = tt
all_left P (e ∷ es) test h = left P (test e.0) e es (remove_entry test es) h.0 h.1 (all_left P es test h.1)

-- what is true of each entry is true of the one that is found
pub all_found : {X : Type 0} (P : List ℕ × X → Type 0) (es : List (List ℕ × X)) (n : List ℕ) (v : X) → AllByRecursion P es → at es n ≡ Some v → P (n, v)
all_found P [] n v h e = absurd cc
all_found {X} P (x ∷ es) n v h e =
    elim (is_at (byte_cmp n) x.0) as (λ b. is_at (byte_cmp n) x.0 ≡ b → cond b (Some x.1) (at es n) ≡ Some v → P (n, v)) [
      | true ↦ λ is same.
          let value : x.1 ≡ v = cc in
          subst (λ (k : List ℕ). P (k, v)) (sym (text_at n x.0 is)) (subst (λ (w : X). P (x.0, w)) value h.0)
      | false ↦ λ is same. all_found P es n v h.1 same
    ] refl e

-- the rest of a list begins with the element that comes next
pub drop_here : {A : Type 0} (xs : List A) (i : ℕ) (x : A) → i < length xs → x ≡ get_or xs i x → drop i xs ≡ x ∷ drop (i + 1) xs
drop_here {A} xs i x h is = drop_more xs i x h ∙ ap (λ (y : A). y ∷ drop (i + 1) xs) (sym is)

-- one more segment, or another in the place of one with its id
pub put_segments : (es : List (List ℕ × LiveSegment)) (id : List ℕ) (segment : LiveSegment) → IsSegment (id, segment) → AllByRecursion IsSegment es → AllByRecursion IsSegment (insert_entry byte_cmp es id segment)
put_segments es id segment is h = all_put IsSegment es id segment is h

-- the segment that stands at an id
pub found_segment : (es : List (List ℕ × LiveSegment)) (id : List ℕ) (segment : LiveSegment) → at es id ≡ Some segment → AllByRecursion IsSegment es → IsSegment (id, segment)
found_segment es id segment e h = all_found IsSegment es id segment h e

-- the step of a file of a live segment, under the name that the segment gives it
abbrev pub file_step : State → List ℕ → SegmentComponent → (LiveSegment → List ℕ → StepResult State) → StepResult State
file_step s id component step = given s (live_at s.catalog id) (codes "unknown-segment") (λ segment. step segment (name_of id segment.deletes component))

pub file_known : (s : State) (id name : List ℕ) (component : SegmentComponent) (segment : LiveSegment) (step : LiveSegment → List ℕ → StepResult State)
    → live_at s.catalog id ≡ Some segment → name ≡ name_of id segment.deletes component → file_step s id component step ≡ step segment name
file_known s id name component segment step found is =
    ap (λ (o : Option LiveSegment). given s o (codes "unknown-segment") (λ x. step x (name_of id x.deletes component))) found ∙ ap (step segment) (sym is)

-- a file whose length is told has a body of that length
pub has_body : (o : Option (List ℕ)) (len : ℕ) → Some len ≡ option_map length o → (body : List ℕ) × (o ≡ Some body) × (len ≡ length body)
has_body None len e = absurd cc
has_body (Some body) len e = (body, refl, cc)

-- the names of some components of a segment are those of files
pub files_named : (id : List ℕ) (deletes : Option DeleteMeta) (some : List SegmentComponent) → IsId id → AllByRecursion IsFileOf (map (name_of id deletes) some)
files_named id deletes [] h = tt
files_named id deletes (component ∷ some) h = (name_is_file id deletes component h, files_named id deletes some h)

pub required_are_files : (id : List ℕ) (segment : LiveSegment) → IsId id → AllByRecursion IsFileOf (required_names id segment)
required_are_files id segment h = files_named id segment.deletes (required_components segment) h

pub all_required_are_files : (segments : List (List ℕ × LiveSegment)) → AllByRecursion IsSegment segments → AllByRecursion IsFileOf (all_required segments)
all_required_are_files [] h = tt
all_required_are_files (e ∷ segments) h =
    all_joined IsFileOf (required_names e.0 e.1) (all_required segments) (required_are_files e.0 e.1 h.0.id) (all_required_are_files segments h.1)

-- an event that writes to no file makes no length
pub only_numbers : {P : Type 0} → P ⊎ PassesEnd None → P
only_numbers (inl p) = p
only_numbers (inr (n, is, much)) = absurd cc

-- how long words are, each behind a space
abbrev pub words_len : List (List ℕ) → ℕ
words_len [] = 0
words_len (word ∷ words) = (length word + 1) + words_len words

pub line_len : (text : List ℕ) (words : List (List ℕ)) → length (line text words) ≡ length text + words_len words
line_len text [] = omega arith
line_len text (word ∷ words) = omega (arith, line_len (text ++ 32 ∷ word) words, length-append text (32 ∷ word))

pub words_append : (words more : List (List ℕ)) → words_len (words ++ more) ≡ words_len words + words_len more
words_append [] more = omega arith
words_append (word ∷ words) more = omega (arith, words_append words more)
