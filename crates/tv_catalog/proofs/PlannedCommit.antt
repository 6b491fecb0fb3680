-- The plan of a commit.
use Rattle.std.proofs.Common.{ℕ, ◌≡◌, ◌≤◌, ◌<◌, ◌^◌, ◌⊎◌, inl, inr, Bool, true, false, ◌||◌, List, [], ◌∷◌, ◌++◌, map, length, length-append, codes, decimal, Option, Some, None, refl, sym, ap, subst, ◌∙◌, arith}
use Rattle.std.specs.Prelude.{Vec, is_some, ◌==◌}
use Rattle.std.specs.declared.alloc.Global.{Global}
use Rattle.std.proofs.lemmas.Bool.{ne_eqb}
use Rattle.std.specs.List.{AllByRecursion}
use Rattle.std.proofs.lemmas.Fmt.{length-decimal-le}
use Rattle.hex.specs.Hex.{encode_lower, lower_digits}
use Rattle.hex.proofs.HexLemmas.{length-encode_with}
use Rattle.tv_formats.specs.declared.segment.DeleteMeta.{DeleteMeta}
use Rattle.tv_formats.specs.declared.segment.LiveSegment.{LiveSegment}
use Rattle.tv_formats.specs.declared.segment.SegmentComponent.{SegmentComponent}
use Rattle.tv_formats.specs.declared.segment.SegmentComponent.TheVariants as components
use Rattle.tv_formats.specs.Commits.{Commit, IsSegment}
use Rattle.tv_formats.specs.Ids.{IsId}
use Rattle.tv_formats.specs.Names.{has, is}
use Rattle.tv_formats.specs.Segments.{all_required, delete_opstamp, extension, name_of, required_components, required_names}
use Rattle.tv_formats.proofs.Entries.{is_text}
use Rattle.tv_machine.specs.CommitEvents.{chosen, commit_step, committed, first_unknown, last_stamp}
use Rattle.tv_machine.specs.Lines.{unless, words_of}
use Rattle.tv_machine.specs.State.{State, on_catalog}
use Rattle.tv_catalog.specs.Actions.{after, changed, first_open, line_of, step_by, unless_open, with_commit}
use Rattle.tv_catalog.specs.Committing.{commit_line, commit_sealed}
use Rattle.tv_catalog.specs.declared.action.Action.TheVariants as actions
use Rattle.tv_catalog.specs.declared.action.Change.TheVariants as changes
use Rattle.tv_catalog.specs.declared.action.Reply.{Reply}
use Rattle.tv_catalog.specs.declared.action.Reply.TheVariants as replies
use Rattle.tv_snapshots.proofs.ListLaws.{all_joined}

-- ---- steps

-- a commit of live segments is one that may lack a sealed file
known_step : (s : State) (payload : Option (List ℕ)) (ids : List (List ℕ)) → (s.catalog.next == last_stamp) ≡ false → first_unknown s.catalog ids ≡ None → commit_step s payload ids ≡ commit_sealed s payload (chosen s.catalog ids)
known_step s payload ids left found = rw (left, found) refl

-- by which of its files is the first that isn't sealed
sealed_or : (s : State) (payload : Option (List ℕ)) (segments : List (List ℕ × LiveSegment)) (commit : Commit) (text : Vec ℕ Global) (required : Vec (List ℕ) Global) (answer : List ℕ) (found : Option (List ℕ))
    → commit ≡ (committed s.catalog payload segments).1.commit → answer ≡ commit_line s.catalog.next segments
    → unless s ((is_some found, codes "unsealed" ∷ words_of found) ∷ []) (on_catalog s (committed s.catalog payload segments))
    ≡ (line_of answer (unless_open commit found), changed (after s (actions.Save commit text required) (unless_open commit found)) changes.Nothing (unless_open commit found))
sealed_or s payload segments commit text required answer (Some name) is told = refl
sealed_or s payload segments commit text required answer None is told =
    ap (λ (l : List ℕ). (l, (on_catalog s (committed s.catalog payload segments)).1)) (sym told)
    ∙ ap (λ (c : Commit). (answer, record s { catalog = with_commit s.catalog c })) (sym is)

pub planned_commit : (s : State) (payload : Option (List ℕ)) (ids : List (List ℕ)) (segments : List (List ℕ × LiveSegment)) (commit : Commit) (text : Vec ℕ Global) (required : Vec (List ℕ) Global) (answer : List ℕ)
    → s.catalog.next < last_stamp → first_unknown s.catalog ids ≡ None → segments ≡ chosen s.catalog ids → commit ≡ (committed s.catalog payload segments).1.commit → required.items ≡ all_required segments
    → answer ≡ commit_line s.catalog.next segments → (deletes : List Bool) → commit_step s payload ids ≡ step_by s (actions.Save commit text required) changes.Nothing answer deletes
planned_commit s payload ids segments commit text required answer few known are is files told deletes =
    known_step s payload ids (ne_eqb s.catalog.next last_stamp (λ spent. omega (arith, few, spent))) known
    ∙ ap (commit_sealed s payload) (sym are)
    ∙ ap (λ (ns : List (List ℕ)). unless s ((is_some (first_open s ns), codes "unsealed" ∷ words_of (first_open s ns)) ∷ []) (on_catalog s (committed s.catalog payload segments))) (sym files)
    ∙ sealed_or s payload segments commit text required answer (first_open s required.items) is told

-- whatever comes of it, the live segments stay
pub save_keeps : (s : State) (commit : Commit) (text : Vec ℕ Global) (required : Vec (List ℕ) Global) (reply : Reply) → (changed (after s (actions.Save commit text required) reply) changes.Nothing reply).catalog.live ≡ s.catalog.live
save_keeps s commit text required (replies.Saved saved) = refl
save_keeps s commit text required other = refl

-- ---- the names of required files

digits_of : (id : List ℕ) → IsId id → length (encode_lower id) ≡ 32
digits_of id h = omega (arith, length-encode_with lower_digits id, h.size)

short_end : (id end : List ℕ) → IsId id → length end ≤ 30 → length (encode_lower id ++ codes "." ++ end) ≤ 63
short_end id end h few =
    let dot : length (codes ".") ≡ 1 = refl in
    omega (arith, digits_of id h, dot, length-append (encode_lower id) (codes "."), length-append (encode_lower id ++ codes ".") end, few)

-- a file's name has an id, the number of a delete, and an extension
short_name : (id : List ℕ) (deletes : Option DeleteMeta) (component : SegmentComponent) → IsId id → delete_opstamp deletes < 2 ^ 64 → length (name_of id deletes component) ≤ 63
short_name id deletes components.Postings h small = short_end id (extension components.Postings) h (omega arith)
short_name id deletes components.Positions h small = short_end id (extension components.Positions) h (omega arith)
short_name id deletes components.FastFields h small = short_end id (extension components.FastFields) h (omega arith)
short_name id deletes components.FieldNorms h small = short_end id (extension components.FieldNorms) h (omega arith)
short_name id deletes components.Terms h small = short_end id (extension components.Terms) h (omega arith)
short_name id deletes components.Store h small = short_end id (extension components.Store) h (omega arith)
short_name id deletes components.Delete h small =
    let number = delete_opstamp deletes in
    let few : number < 10 ^ 20 = omega (arith, small) in
    let digits : length (decimal number) ≤ 20 = length-decimal-le 20 number (omega arith) few small in
    let dot : length (codes ".") ≡ 1 = refl in
    let last : length (codes ".del") ≡ 4 = refl in
    let front = encode_lower id ++ codes "." in
    omega (arith, digits_of id h, digits, dot, last, length-append (encode_lower id) (codes "."), length-append front (decimal number), length-append (front ++ decimal number) (codes ".del"))

abbrev IsShort : List ℕ → Type 0
IsShort name = length name ≤ 63

short_names : (id : List ℕ) (deletes : Option DeleteMeta) (some : List SegmentComponent) → IsId id → delete_opstamp deletes < 2 ^ 64 → AllByRecursion IsShort (map (name_of id deletes) some)
short_names id deletes [] h small = tt
short_names id deletes (component ∷ some) h small = (short_name id deletes component h small, short_names id deletes some h small)

short_required : (segments : List (List ℕ × LiveSegment)) → AllByRecursion IsSegment segments → AllByRecursion IsShort (all_required segments)
short_required [] h = tt
short_required (e ∷ segments) h =
    all_joined IsShort (required_names e.0 e.1) (all_required segments) (short_names e.0 e.1.deletes (required_components e.1) h.0.id h.0.opstamp) (short_required segments h.1)

among : (names : List (List ℕ)) (name : List ℕ) → AllByRecursion IsShort names → has names name ≡ true → length name ≤ 63
among [] name h there = absurd cc
among (n ∷ names) name h there =
    elim (is n name) as (λ b. is n name ≡ b → (b || has names name) ≡ true → length name ≤ 63) [
      | true ↦ λ same k. subst IsShort (is_text n name same) h.0
      | false ↦ λ other k. among names name h.1 k
    ] refl there

-- there is room for each line of a commit in a vector that has it for the longest
pub room_for : (segments : List (List ℕ × LiveSegment)) (commit : Commit) (required : List (List ℕ)) (answer : List ℕ) (room : ℕ) (reply : Reply) → AllByRecursion IsSegment segments → required ≡ all_required segments → length answer ≤ room → 80 ≤ room
    → (reply ≡ replies.Saved commit) ⊎ ((name : List ℕ) × (has required name ≡ true) × (reply ≡ replies.Unsealed name)) → length (line_of answer reply) ≤ room
room_for segments commit required answer room reply sound files fits large (inl e) = rw e fits
room_for segments commit required answer room reply sound files fits large (inr (name, there, e)) =
    let short : length name ≤ 63 = among (all_required segments) name (short_required segments sound) (subst (λ (ns : List (List ℕ)). has ns name ≡ true) files there) in
    let first : length (codes "refused" ++ 32 ∷ codes "unsealed") ≡ 16 = refl in
    rw e (omega (arith, short, large, first, length-append (codes "refused" ++ 32 ∷ codes "unsealed") (32 ∷ name)))
