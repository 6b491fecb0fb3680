-- The plans of the events on files.
use Rattle.std.proofs.Common.{◌≡◌, ◌≢◌, inl, inr, ℕ, ◌+◌, ◌≤◌, ◌<◌, Bool, true, false, List, [], ◌∷◌, ◌++◌, length, length-append, codes, Option, Some, None, option_map, is_some, refl, sym, ap, ◌∙◌, arith}
use Rattle.std.specs.Prelude.{if◌then◌else◌, SomeIff, option_and_then}
use Rattle.std.specs.Fmt.{decimal}
use Rattle.tv_formats.specs.declared.segment.LiveSegment.{LiveSegment}
use Rattle.tv_formats.specs.declared.segment.SegmentComponent.{SegmentComponent}
use Rattle.tv_formats.specs.Names.{at}
use Rattle.tv_events.specs.declared.event.Event.TheVariants as events
use Rattle.tv_formats.specs.Segments.{name_of}
use Rattle.tv_machine.specs.State.{State, live_at, file_at}
use Rattle.tv_events.specs.AnswerLines.{line}
use Rattle.tv_machine.specs.Lines.{unless, given}
use Rattle.tv_machine.specs.FileEvents.{lacks_deletes, open_name, open_step, opened, write_name, write_step, written_to, wrote}
use Rattle.tv_catalog.specs.Kept.{KeptState}
use Rattle.tv_catalog.specs.Effects.{WritesByStep, length_after}
use Rattle.tv_catalog.specs.Exhausted.{PassesEnd}
use Rattle.tv_catalog.specs.Actions.{after, step_by, line_of, of_body}
use Rattle.tv_catalog.specs.declared.action.Action.TheVariants as actions
use Rattle.tv_catalog.specs.declared.action.Reply.TheVariants as replies
use Rattle.tv_catalog.specs.declared.action.Change.TheVariants as changes
use Rattle.tv_catalog.proofs.SharedLaws.{file_known, has_body}

-- ---- steps

-- the step of a file that is to be opened
open_by : (s : State) (segment : LiveSegment) (component : SegmentComponent) (name : List ℕ) (lacks there : Bool) → lacks_deletes segment component ≡ lacks → is_some (file_at s name) ≡ there
    → open_name s segment component name ≡ unless s ((lacks, codes "no-deletes" ∷ []) ∷ (there, codes "exists" ∷ []) ∷ []) (opened s name)
open_by s segment component name lacks there a b =
    ap (λ (l : Bool). unless s ((l, codes "no-deletes" ∷ []) ∷ (is_some (file_at s name), codes "exists" ∷ []) ∷ []) (opened s name)) a
    ∙ ap (λ (t : Bool). unless s ((lacks, codes "no-deletes" ∷ []) ∷ (t, codes "exists" ∷ []) ∷ []) (opened s name)) b

-- a file of a live segment is made
pub planned_open : (s : State) (id name : List ℕ) (component : SegmentComponent) (segment : LiveSegment) (answer : List ℕ) → live_at s.catalog id ≡ Some segment → lacks_deletes segment component ≡ false → name ≡ name_of id segment.deletes component
    → answer ≡ line (codes "opened") (name ∷ []) → (deletes : List Bool) → open_step s id component ≡ step_by s (actions.Make name) changes.Nothing answer deletes
planned_open s id name component segment answer live lacks is told deletes =
    file_known s id name component segment (λ x n. open_name s x component n) live is ∙ open_by s segment component name false (is_some (file_at s name)) lacks refl ∙ taken_or_made (is_some (file_at s name)) where
      taken_or_made : (there : Bool) → unless s ((false, codes "no-deletes" ∷ []) ∷ (there, codes "exists" ∷ []) ∷ []) (opened s name)
          ≡ (line_of answer (if there then replies.Taken else replies.Done), after s (actions.Make name) (if there then replies.Taken else replies.Done))
      taken_or_made true = refl
      taken_or_made false = ap (λ l. (l, (opened s name).1)) (sym told)

-- more bytes of an open file of a live segment
pub planned_write : (s : State) (id name : List ℕ) (component : SegmentComponent) (segment : LiveSegment) (bytes body : List ℕ) (n : ℕ) (answer : List ℕ) → live_at s.catalog id ≡ Some segment → name ≡ name_of id segment.deletes component
    → written_to (file_at s name) ≡ Some body → n ≡ length body + length bytes → answer ≡ line (codes "wrote") (name ∷ decimal n ∷ [])
    → write_step s id component bytes ≡ (answer, of_body s (written_to (file_at s name)) (wrote s name bytes))
planned_write s id name component segment bytes body n answer live is opens sum told =
    let all : length (body ++ bytes) ≡ n = omega (arith, sum, length-append body bytes) in
    let line_is : line (codes "wrote") (name ∷ decimal (length (body ++ bytes)) ∷ []) ≡ answer = ap (λ m. line (codes "wrote") (name ∷ decimal m ∷ [])) all ∙ sym told in
    ap (λ (o : Option LiveSegment). given s o (codes "unknown-segment") (λ x. write_name s (name_of id x.deletes component) bytes)) live ∙ ap (λ m. write_name s m bytes) (sym is)
    ∙ ap (λ (o : Option (List ℕ)). given s o (codes "not-open") (wrote s name bytes)) opens ∙ ap (λ l. (l, (wrote s name bytes body).1)) line_is
    ∙ ap (λ (o : Option (List ℕ)). (answer, of_body s o (wrote s name bytes))) (sym opens)

-- ---- lengths

-- where more bytes don't fit in one of them, no bound leaves room for them
pub length_passes : (kept : KeptState) (id : List ℕ) (component : SegmentComponent) (segment : LiveSegment) (name bytes : List ℕ) (len : ℕ) → live_at kept.catalog id ≡ Some segment → name ≡ name_of id segment.deletes component
    → Some len ≡ option_map length (at kept.open_files name) → 18446744073709551616 ≤ len + length bytes → PassesEnd (length_after kept (events.Write id component bytes))
length_passes kept id component segment name bytes len live is has_len large =
    let it = has_body (at kept.open_files name) len has_len in
    let there : at kept.open_files (name_of id segment.deletes component) ≡ Some it.0 = ap (at kept.open_files) (sym is) ∙ it.1 in
    let is_len : len ≡ length it.0 = it.2 in
    (length (it.0 ++ bytes), rw (live, there) refl, omega (arith, is_len, length-append it.0 bytes, large))

-- a write to an open file that isn't one of no bytes to an open file has some
pub wrote_some : (kept : KeptState) (id : List ℕ) (component : SegmentComponent) (segment : LiveSegment) (name bytes : List ℕ) (len : ℕ) → live_at kept.catalog id ≡ Some segment → name ≡ name_of id segment.deletes component
    → Some len ≡ option_map length (at kept.open_files name) → WritesByStep kept (events.Write id component bytes) → bytes ≢ []
wrote_some kept id component segment name bytes len live is has_len (inl some) = some
wrote_some kept id component segment name bytes len live is has_len (inr none) =
    let it = has_body (at kept.open_files name) len has_len in
    let there : at kept.open_files (name_of id segment.deletes component) ≡ Some it.0 = ap (at kept.open_files) (sym is) ∙ it.1 in
    let measured : length_after kept (events.Write id component bytes) ≡ Some (length (it.0 ++ bytes)) = rw (live, there) refl in
    let never : ◌≡◌ {A = Option ℕ} None (Some (length (it.0 ++ bytes))) = sym none ∙ measured in
    absurd cc

-- the length of an open file after a write is that of what was written, with what is added
length_there : {P : Type 0} (found : Option (List ℕ)) (bytes : List ℕ) (n : ℕ) → option_map (λ (body : List ℕ). length (body ++ bytes)) found ≡ Some n → ((body : List ℕ) → found ≡ Some body → length (body ++ bytes) ≡ n → P) → P
length_there None bytes n e k = absurd cc
length_there (Some body) bytes n e k = k body refl cc

written_there : {P : Type 0} (found : Option LiveSegment) (body_of : LiveSegment → Option (List ℕ)) (bytes : List ℕ) (n : ℕ) → option_and_then (λ (segment : LiveSegment). option_map (λ (body : List ℕ). length (body ++ bytes)) (body_of segment)) found ≡ Some n
    → ((segment : LiveSegment) (body : List ℕ) → found ≡ Some segment → body_of segment ≡ Some body → length (body ++ bytes) ≡ n → P) → P
written_there None body_of bytes n e k = absurd cc
written_there (Some segment) body_of bytes n e k = length_there (body_of segment) bytes n e (λ body there sum. k segment body refl there sum)

-- and where the file isn't open, or its length fits
pub sum_fits : (kept : KeptState) (id : List ℕ) (component : SegmentComponent) (segment : LiveSegment) (name bytes : List ℕ) (len : Option ℕ) → live_at kept.catalog id ≡ Some segment → name ≡ name_of id segment.deletes component
    → len ≡ option_map length (at kept.open_files name) → ((l : ℕ) → len ≡ Some l → l + length bytes < 18446744073709551616) → PassesEnd (length_after kept (events.Write id component bytes)) → ⊥
sum_fits kept id component segment name bytes len live is_name has_len small (n, is, much) =
    written_there (live_at kept.catalog id) (λ (found : LiveSegment). at kept.open_files (name_of id found.deletes component)) bytes n is
    (λ found body is_live there sum.
    let both : Some segment ≡ Some found = sym live ∙ is_live in
    let one : segment ≡ found = cc in
    let reads : at kept.open_files name ≡ Some body = ap (at kept.open_files) (is_name ∙ ap (λ (s : LiveSegment). name_of id s.deletes component) one) ∙ there in
    let less : length body + length bytes < 18446744073709551616 = small (length body) (has_len ∙ ap (option_map length) reads) in
    omega (arith, less, sum, length-append body bytes, much))

-- a sum that is told where it fits
pub sum_is : (sum : Option ℕ) (fits : Type 0) (n value : ℕ) → SomeIff sum fits value → sum ≡ Some n → n ≡ value
sum_is None fits n value h e = absurd cc
sum_is (Some m) fits n value h e = let same : Some m ≡ Some n = e in let is : m ≡ value = h.1 in cc

pub sum_is_small : (sum : Option ℕ) (fits : Type 0) (n value : ℕ) → SomeIff sum fits value → sum ≡ Some n → fits
sum_is_small None fits n value h e = absurd cc
sum_is_small (Some m) fits n value h e = h.0

-- and one that doesn't fit
pub sum_isnt : (sum : Option ℕ) (value : ℕ) → SomeIff sum (value < 18446744073709551616) value → sum ≡ None → 18446744073709551616 ≤ value
sum_isnt None value h e = let large : ¬ (value < 18446744073709551616) = h in omega arith
sum_isnt (Some m) value h e = absurd cc
