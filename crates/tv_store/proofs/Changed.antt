-- Steps that change the state: what they leave isn't the state from which they were made.
use Rattle.std.proofs.Common.{ℕ, ◌≡◌, ◌≢◌, ◌+◌, Bool, true, false, true≢false, cond, ◌&&◌, List, [], ◌∷◌, ◌++◌, map, length, length-append, string_bytes, Option, Some, None, is_some, refl, sym, ap, ◌∙◌, arith}
use Rattle.std.specs.Prelude.{String}
use Rattle.std.specs.BTreeMap.{is_at}
use Rattle.std.specs.Map.{lookup, remove_entry}
use Rattle.std.specs.Ordering.{nat_cmp}
use Rattle.tv_machine.specs.CollectionEvents.{ended, garbage, having_deleted, without_files}
use Rattle.tv_formats.specs.Collections.{Collection, collection_at, done_of, having_tried, held, with_collection, without, without_collection}
use Rattle.tv_machine.specs.FileEvents.{opened, sealed_as, written_to, wrote}
use Rattle.tv_formats.specs.Footer.{sealed}
use Rattle.tv_machine.specs.Living.{living}
use Rattle.tv_formats.specs.Names.{has}
use Rattle.tv_machine.specs.State.{FileState, Open, SealedFile, State, file_at, with_file}
use Rattle.tv_formats.proofs.CollectedNames.{done_within, has_without}
use Rattle.tv_formats.proofs.Entries.{at_itself, is_itself, lookup_put}
use Rattle.tv_formats.proofs.Numbered.{put_found}

-- ---- files

-- a file that was put is there
pub file_put : (s : State) (name : List ℕ) (file : FileState) → file_at (with_file s name file) name ≡ Some file
file_put s name file = lookup_put s.files name name file ∙ ap (λ (here : Bool). cond here (Some file) (file_at s name)) (at_itself name)

-- one that wasn't there is open
pub opened_anew : (s : State) (name : List ℕ) → is_some (file_at s name) ≡ false → (opened s name).1 ≢ s
opened_anew s name gone same =
    let there : is_some (file_at (opened s name).1 name) ≡ true = ap is_some (file_put s name (Open [])) in
    true≢false (sym there ∙ ap (λ (t : State). is_some (file_at t name)) same ∙ gone)

nothing_more : (body bytes : List ℕ) → length bytes + length body ≡ length body → bytes ≡ []
nothing_more body [] e = refl
nothing_more body (b ∷ bytes) e = absurd (omega (arith, e))

-- one that is open has more bytes, where there are some
pub wrote_more : (s : State) (name bytes body : List ℕ) → written_to (file_at s name) ≡ Some body → bytes ≢ [] → (wrote s name bytes body).1 ≢ s
wrote_more s name bytes body opened_is some same =
    let now : written_to (file_at (wrote s name bytes body).1 name) ≡ Some (body ++ bytes) = ap written_to (file_put s name (Open (body ++ bytes))) in
    let both : ◌≡◌ {A = Option (List ℕ)} (Some (body ++ bytes)) (Some body) = sym now ∙ ap (λ (t : State). written_to (file_at t name)) same ∙ opened_is in
    let one : body ++ bytes ≡ body = cc in
    some (nothing_more body bytes (omega (arith, ap length one, length-append body bytes)))

-- and one that is sealed isn't open
pub sealed_now : (s : State) (name body : List ℕ) → written_to (file_at s name) ≡ Some body → (sealed_as s name body).1 ≢ s
sealed_now s name body opened_is same =
    let now : written_to (file_at (sealed_as s name body).1 name) ≡ None = ap written_to (file_put s name (SealedFile (sealed body))) in
    let both : ◌≡◌ {A = Option (List ℕ)} None (Some body) = sym now ∙ ap (λ (t : State). written_to (file_at t name)) same ∙ opened_is in
    absurd cc

-- ---- collections

untried_left : (c : Collection) (name : List ℕ) (left : List (List ℕ)) (is_done : Bool) → (having_tried c name left is_done).untried ≡ left
untried_left c name left true = refl
untried_left c name left false = refl

-- one that tried a name has fewer that are untried
pub tried_less : (s : State) (number : ℕ) (c : Collection) (name : List ℕ) (left : List (List ℕ)) (is_done : Bool) → collection_at s.collections number ≡ Some c → c.untried ≡ name ∷ left
    → (having_deleted s number c name left is_done).1 ≢ s
tried_less s number c name left is_done there first same =
    let next : Collection = having_tried c name left is_done in
    let now : collection_at (with_collection s.collections number next) number ≡ Some next = put_found s.collections.unfinished number next in
    let both : ◌≡◌ {A = Option Collection} (Some next) (Some c) = sym now ∙ ap (λ (t : State). collection_at t.collections number) same ∙ there in
    let one : next ≡ c = cc in
    let fewer : left ≡ name ∷ left = sym (untried_left c name left is_done) ∙ ap (λ (k : Collection). k.untried) one ∙ first in
    omega (arith, ap length fewer)

one_cut : {X : Type 0} (here : Bool) (e : ℕ × X) (es rest : List (ℕ × X)) (found : Option X) (x : X) → (found ≡ Some x → length rest + 1 ≡ length es) → cond here (Some e.1) found ≡ Some x
    → length (cond here es (e ∷ rest)) + 1 ≡ length (e ∷ es)
one_cut true e es rest found x more there = omega arith
one_cut false e es rest found x more there = omega (arith, more there)

one_less : {X : Type 0} (test : ℕ → Bool) (es : List (ℕ × X)) (x : X) → lookup test es ≡ Some x → length (remove_entry test es) + 1 ≡ length es
one_less test [] x there = absurd cc
one_less test (e ∷ es) x there = one_cut (test e.0) e es (remove_entry test es) (lookup test es) x (one_less test es x) there

-- one that is finished isn't there
pub ended_now : (s : State) (number : ℕ) (c : Collection) → collection_at s.collections number ≡ Some c → (ended s number c).1 ≢ s
ended_now s number c there same =
    let less = one_less (is_at (nat_cmp number)) s.collections.unfinished c there in
    let as_many : length (without_collection s.collections number).unfinished ≡ length s.collections.unfinished = ap (λ (t : State). length t.collections.unfinished) same in
    omega (arith, less, as_many)

-- ---- names that are managed

has_first : (name : List ℕ) (names : List (List ℕ)) → has (name ∷ names) name ≡ true
has_first name names = rw (is_itself name) refl

second : (a b : Bool) → (a && b) ≡ true → b ≡ true
second true b h = h
second false b h = absurd (true≢false (sym h))

-- where nothing is managed less, nothing was done
pub none_done : (s : State) (outcomes : List Bool) → without_files s (done_of (garbage s) outcomes) ≡ s → done_of (garbage s) outcomes ≡ []
none_done s outcomes same = none_of (done_of (garbage s) outcomes) (λ n h. managed n h) (ap (λ (t : State). t.managed) same) where
  managed : (n : List ℕ) → has (done_of (garbage s) outcomes) n ≡ true → has s.managed n ≡ true
  managed n h =
      second _ (has s.managed n)
      (sym (has_without (living s.catalog ++ held s.collections) s.managed n) ∙ done_within (garbage s) outcomes n h)

  none_of : (done : List (List ℕ)) → ((n : List ℕ) → has done n ≡ true → has s.managed n ≡ true) → without done s.managed ≡ s.managed → done ≡ []
  none_of [] within stays = refl
  none_of (n ∷ done) within stays =
      let here : has (n ∷ done) n ≡ true = has_first n done in
      absurd (true≢false (sym (within n here) ∙ sym (ap (λ (names : List (List ℕ)). has names n) stays) ∙ has_without (n ∷ done) s.managed n ∙ rw here refl))

-- where the names of some texts are none, there are no texts
pub no_texts : {X : Type 0} (texts : List (String X)) → map string_bytes texts ≡ [] → texts ≡ []
no_texts [] e = refl
no_texts (text ∷ texts) e = absurd cc
