-- What a crash leaves is one of the images that it may leave.
use Rattle.std.proofs.Common.{◌≡◌, ◌≢◌, ◌<◌, ◌+◌, ◌≤◌, ◌%◌, ◌||◌, ◌++◌, ◌∷◌, ℕ, suc, Bool, true, false, cond, List, [], Option, None, Some, refl, sym, ap, subst, ◌∙◌, drop, take, length, length-take-le, ⊎_elim, option_copied, MatchOption, Iter, Bor, get_or, get_or-drop, get_or-take, length-drop, drop-drop, take_all, is_some, option_map, true≢false, arith}
use Rattle.std.proofs.Math.Nat.{eq-or-lt_of_le, mod-lt}
use Rattle.std.proofs.lemmas.Bool.{false_from_ne_true, or_parts}
use Rattle.std.proofs.lemmas.List.{length-append, nil_from_length, take-append-drop}
use Rattle.std.proofs.lemmas.List.Elements.{Contains-get_or, Contains-push}
use Rattle.std.proofs.lemmas.List.Folds.{list_any-append, list_any_more, list_any_none}
use Rattle.std.specs.List.{Contains, flat_map, list_any}
use Rattle.std.specs.Option.{unwrap_or}
use Rattle.std.specs.List.Sorted.{IsStrictlySortedBy}
use Rattle.std.specs.Ordering.{is_eq}
use Rattle.std.specs.declared.cmp.Ordering.TheVariants.{Less}
use Rattle.std.proofs.lemmas.Map.Keys.{Less-from_sorted}
use Rattle.tv_formats.specs.Disk.{Disk, DiskState, Absent, IsImage, MayRead}
use Rattle.tv_formats.specs.Disk as disk
use Rattle.tv_formats.specs.Files.{Reads, Same, Sets}
use Rattle.tv_formats.specs.Names.{byte_cmp, has, is, at}
use Rattle.tv_formats.proofs.Entries.{at_itself, is_by_order, is_itself, is_text}
use Rattle.tv_directory.specs.declared.bench.Bench.{Bench}
use Rattle.tv_directory.specs.declared.bench_record.Call.{Call}
use Rattle.tv_directory.specs.declared.bench_record.Call.TheVariants.{Replaced, Refused, Told, Synced}
use Rattle.tv_device.specs.declared.files.StoredFile.{StoredFile}
use Rattle.tv_directory.specs.Bench.{disk_in}
use Rattle.tv_directory.specs.Crashes.{LeavesBy, changes, is_known, left_in, left_of, numbered}
use Rattle.tv_device.specs.Ram.{ram_reads, ram_states}
use Rattle.tv_directory.specs.Record.{found_by, since_sync, states_at, stood_before}
use Rattle.tv_device.specs.StoredFiles.{bytes_of, is_there, disk_state_of}

-- where no call names it, a name stood as it stands
stood_still : (calls : List Call) (name : List ℕ) (now : DiskState) → list_any (changes name) calls ≡ false → stood_before calls name now ≡ now
stood_still [] name now none = refl
stood_still (Replaced other before ∷ calls) name now none = let t = or_parts (is other name) (list_any (changes name) calls) none in rw t.0 (stood_still calls name now t.1)
stood_still (Refused other before after ∷ calls) name now none = stood_still calls name now (or_parts (is other name) (list_any (changes name) calls) none).1
stood_still (Told ∷ calls) name now none = stood_still calls name now none
stood_still (Synced ∷ calls) name now none = stood_still calls name now none

none_later : (calls : List Call) (moment : ℕ) (name : List ℕ) → list_any (changes name) calls ≡ false → list_any (changes name) (drop moment calls) ≡ false
none_later calls moment name none =
    (or_parts (list_any (changes name) (take moment calls)) (list_any (changes name) (drop moment calls))
    (sym (list_any-append (changes name) (take moment calls) (drop moment calls)) ∙ ap (list_any (changes name)) (take-append-drop moment calls) ∙ none)).1

-- a name that reads nothing has no file
no_file : (file : Option StoredFile) → is_some (option_map (λ file. bytes_of file.content) file) ≡ false → disk_state_of (option_map (λ file. file.content) file) ≡ Absent
no_file None e = refl
no_file (Some file) e = absurd (true≢false e)

-- what is left of a state may be read in it
left_reads : (state : DiskState) → MayRead state (left_of state)
left_reads Absent = refl
left_reads disk.Unsealed = refl
left_reads (disk.Sealed bytes) = refl

-- the place of a text among some others
place : (names : List (List ℕ)) (n : List ℕ) → has names n ≡ true → (i : ℕ) × (i < length names) × (n ≡ get_or names i [])
place [] n e = absurd (true≢false (sym e))
place (x ∷ names) n e =
    elim (is x n) as (λ b. is x n ≡ b → (i : ℕ) × (i < length (x ∷ names)) × (n ≡ get_or (x ∷ names) i [])) [
      | true ↦ λ here. (0, omega arith, sym (is_text x n here))
      | false ↦ λ here. let (i, lt, at) = place names n (sym (ap (λ (b : Bool). b || has names n) here) ∙ e) in (suc i, omega (arith, lt), at)
    ] refl

-- the number is one of a state
in_range : (states : List DiskState) (last : DiskState) (number : ℕ) → number % length (states ++ last ∷ []) < length (states ++ last ∷ [])
in_range states last number = mod-lt number (omega (arith, length-append states (last ∷ [])))

module _ {C : Type 0} (bench : Bench C) (moment : ℕ) (choice : List ℕ) (image : List ℕ → Option (List ℕ)) (left : LeavesBy bench moment choice image) where
  abbrev states : List ℕ → List DiskState
  states n = states_at bench.recorded.calls moment n (ram_states bench.ram n)

  left_known : (n : List ℕ) → has left.names n ≡ true → (s : DiskState) × Contains (states n) s × MayRead s (image n)
  left_known n e =
      let (i, lt, at) = place left.names n e in
      let state : DiskState = numbered (states n) (get_or choice i 0) in (
        state,
        Contains-get_or (states n) (get_or choice i 0 % length (states n)) Absent (in_range _ _ (get_or choice i 0)),
        subst (λ (r : Option (List ℕ)). MayRead state r) (sym (left.each i n lt at)) (left_reads state),
      )

  left_unknown : (n : List ℕ) → has left.names n ≡ false → (s : DiskState) × Contains (states n) s × MayRead s (image n)
  left_unknown n e =
      let t = or_parts (is_some (ram_reads bench.ram n)) (list_any (changes n) bench.recorded.calls) (sym (left.known.those n) ∙ e) in
      let last = stood_still (drop moment bench.recorded.calls) n (ram_states bench.ram n) (none_later bench.recorded.calls moment n t.1) ∙ no_file (at bench.ram.files.map.entries n) t.0 in
      let found = flat_map (found_by n) (since_sync (take moment bench.recorded.calls)) in
      (Absent, subst (λ (s : DiskState). Contains (found ++ s ∷ []) Absent) (sym last) (Contains-push found Absent), left.others n e)

  left_possible : (n : List ℕ) → (s : DiskState) × Contains (states n) s × MayRead s (image n)
  left_possible n =
      elim (has left.names n) as (λ b. has left.names n ≡ b → (s : DiskState) × Contains (states n) s × MayRead s (image n)) [
        | true ↦ left_known n
        | false ↦ left_unknown n
      ] refl

  pub left_is_image : (reads : Reads) → Same image reads → IsImage ((disk_in bench).possible moment) reads
  left_is_image reads same = record {
    each = λ n. let (state, possible, may) = left_possible n in (state, possible, subst (λ (r : Option (List ℕ)). MayRead state r) (sym (same n)) may);
  }

-- A crash leaves the first of some names as they are chosen, and the others aren't there yet.
pub record LeavesFirst {C : Type 0} (bench : Bench C) (moment : ℕ) (choice choices : List ℕ) (all rest : List (List ℕ)) (image : Reads) : Type 0 where
  pub sorted : IsStrictlySortedBy byte_cmp all
  pub i : ℕ
  pub rest_is : rest ≡ drop i all
  pub choices_is : choices ≡ drop i choice
  pub each : (j : ℕ) (n : List ℕ) → j < i → j < length all → n ≡ get_or all j [] → image n ≡ left_in bench moment n (get_or choice j 0)
  pub others : (n : List ℕ) → has (take i all) n ≡ false → image n ≡ None

pub leaves_none : {C : Type 0} (bench : Bench C) (moment : ℕ) (choice choices : List ℕ) (all rest : List (List ℕ)) (image : Reads) → IsStrictlySortedBy byte_cmp all → rest ≡ all → choices ≡ choice → ((n : List ℕ) → image n ≡ None) → LeavesFirst bench moment choice choices all rest image
leaves_none bench moment choice choices all rest image sorted is same none = record {
  sorted = sorted;
  i = 0;
  rest_is = is;
  choices_is = same;
  each = λ j n lt before at. absurd (omega (arith, lt));
  others = λ n isnt. none n;
}

-- a text that stands before another one in order isn't it
apart : (all : List (List ℕ)) (j i : ℕ) (d n name : List ℕ) → IsStrictlySortedBy byte_cmp all → j < i → i < length all → n ≡ get_or all j d → name ≡ get_or all i d → n ≢ name
apart all j i d n name sorted lt before at at_name same =
    let less : byte_cmp n name ≡ Less = rw (at, at_name) (Less-from_sorted byte_cmp all j i d sorted lt before) in
    true≢false (sym (at_itself name) ∙ ap (λ (m : List ℕ). is_eq (byte_cmp m name)) (sym same) ∙ ap is_eq less)

module _ {C : Type 0} (bench : Bench C) (moment : ℕ) (choice choices : List ℕ) (all rest others : List (List ℕ)) (name : List ℕ) (old : Reads) (so_far : LeavesFirst bench moment choice choices all rest old) (first : rest ≡ name ∷ others) where
  abbrev i : ℕ
  i = so_far.i

  here : drop i all ≡ name ∷ others
  here = sym so_far.rest_is ∙ first

  inside : i < length all
  inside = omega (arith, length-drop i all, ap length here)

  at_place : (d : List ℕ) → name ≡ get_or all i d
  at_place d = sym (ap (λ (l : List (List ℕ)). get_or l 0 d) here) ∙ get_or-drop i all 0 d ∙ ap (λ (k : ℕ). get_or all k d) (omega arith)

  pub not_yet : old name ≡ None
  not_yet = so_far.others name (list_any_none (λ x. is x name) (take i all) (λ k d lt.
      let length_is : length (take i all) ≡ i = length-take-le i all (omega (arith, inside)) in
      let before : k < i = omega (arith, lt, length_is) in
      false_from_ne_true _ (λ e. apart all k i d (get_or (take i all) k d) name so_far.sorted before inside (get_or-take i all k d before) (at_place d) (is_text (get_or (take i all) k d) name e))))

  module _ (number : ℕ) (choices' : List ℕ) (new : Reads) (chosen : number ≡ get_or choices 0 0) (next : choices' ≡ drop 1 choices) (set : Sets old new name (left_in bench moment name number)) where
    left_before : (j : ℕ) (n : List ℕ) → j < i → j < length all → n ≡ get_or all j [] → new n ≡ left_in bench moment n (get_or choice j 0)
    left_before j n lt before at = set.others n (apart all j i [] n name so_far.sorted lt inside at (at_place [])) ∙ so_far.each j n lt before at

    left_now : (j : ℕ) (n : List ℕ) → j ≡ i → n ≡ get_or all j [] → new n ≡ left_in bench moment n (get_or choice j 0)
    left_now j n is_i at =
        let same : n ≡ name = at ∙ ap (λ (k : ℕ). get_or all k []) is_i ∙ sym (at_place []) in
        let number_is : number ≡ get_or choice j 0 = chosen ∙ ap (λ (l : List ℕ). get_or l 0 0) so_far.choices_is ∙ get_or-drop i choice 0 0 ∙ ap (λ (k : ℕ). get_or choice k 0) (omega (arith, is_i)) in
        ap new same ∙ set.changed ∙ ap (λ (m : List ℕ). left_in bench moment m number) (sym same) ∙ ap (left_in bench moment n) number_is

    pub leaves_one : LeavesFirst bench moment choice choices' all others new
    leaves_one = record {
      sorted = so_far.sorted;
      i = i + 1;
      rest_is = sym (ap (drop 1) here) ∙ drop-drop 1 i all;
      choices_is = next ∙ ap (drop 1) so_far.choices_is ∙ drop-drop 1 i choice;
      each = λ j n lt before at.
          ⊎_elim
          (λ (is_i : j ≡ i). left_now j n is_i at)
          (λ (first : j < i). left_before j n first before at)
          (eq-or-lt_of_le (omega (arith, lt)));
      others = λ n isnt.
          let t = or_parts (has (take i all) n) (is (get_or all i []) n) (sym (list_any_more (λ x. is x n) all i [] inside) ∙ isnt) in
          set.others n (λ same. true≢false (sym (is_itself n) ∙ ap (λ (m : List ℕ). is m n) (same ∙ at_place []) ∙ t.1)) ∙ so_far.others n t.0;
    }

-- the number that is chosen next, and those after it
pub next_number : (s u : Iter ℕ) (r : Option (Bor ℕ)) (found : Option ℕ) (number : ℕ) → MatchOption r ((length s.rest.now ≡ 0) × (u ≡ s)) (λ x. s.rest.now ≡ x.now ∷ u.rest.now) → found ≡ option_copied r → number ≡ unwrap_or found 0
    → (number ≡ get_or s.rest.now 0 0) × (u.rest.now ≡ drop 1 s.rest.now)
next_number s u None found number (none, same) copied is_it =
    let empty : s.rest.now ≡ [] = nil_from_length s.rest.now none in
    (is_it ∙ ap (λ (o : Option ℕ). unwrap_or o 0) copied ∙ sym (ap (λ (l : List ℕ). get_or l 0 0) empty), ap (λ (t : Iter ℕ). t.rest.now) same ∙ empty ∙ sym (ap (drop 1) empty))
next_number s u (Some x) found number step copied is_it =
    (is_it ∙ ap (λ (o : Option ℕ). unwrap_or o 0) copied ∙ sym (ap (λ (l : List ℕ). get_or l 0 0) step), sym (ap (drop 1) step))

pub leaves_all : {C : Type 0} (bench : Bench C) (moment : ℕ) (choice choices : List ℕ) (all rest : List (List ℕ)) (image : Reads) → LeavesFirst bench moment choice choices all rest image → rest ≡ [] → ((n : List ℕ) → has all n ≡ is_known bench.recorded.calls (ram_reads bench.ram) n) → LeavesBy bench moment choice image
leaves_all bench moment choice choices all rest image left none those =
    let past : length all ≤ left.i = omega (arith, length-drop left.i all, ap length (sym left.rest_is ∙ none)) in
    record {
      names = all;
      known = record { sorted = left.sorted; those = those };
      each = λ j n lt at. left.each j n (omega (arith, past, lt)) lt at;
      others = λ n isnt. left.others n (ap (λ (l : List (List ℕ)). has l n) (take_all left.i all past) ∙ isnt);
    }
