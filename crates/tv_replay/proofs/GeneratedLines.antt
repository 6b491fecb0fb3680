-- A generated script, as far as it is made.
use Rattle.std.proofs.Common.{◌≡◌, ℕ, ◌+◌, ◌<◌, List, ◌++◌, codes, length, take, get_or, refl, sym, ap, ◌∙◌, append_assoc}
use native.Mathlib.Numerals.{unary_clauses}
use Rattle.std.specs.List.{flat_map}
use Rattle.std.proofs.lemmas.List.{take_more, flat_map_more}
use Rattle.tv_replay.specs.Generated.{numbered_id, numbered_byte, segment_text, commit_text, generated}

-- what one more item adds
pub item_more : {X : Type 0} (f : X → List ℕ) (old front : List ℕ) (items : List X) (i : ℕ) (d : X) → i < length items
    → (old ++ (front ++ flat_map f (take i items))) ++ f (get_or items i d) ≡ old ++ (front ++ flat_map f (take (i + 1) items))
item_more f old front items i d lt =
    append_assoc old (front ++ flat_map f (take i items)) (f (get_or items i d)) ∙ ap (λ (t : List ℕ). old ++ t) (flat_map_more f front (take i items) (get_or items i d))
    ∙ ap (λ (l : List _). old ++ (front ++ flat_map f l)) (sym (take_more items i d lt))

next : (i : ℕ) → generated (i + 1) ≡ generated i ++ segment_text (numbered_id i) (numbered_byte i) ++ commit_text i
next i = simp unary_clauses refl

-- one more segment and its commit
pub segment_more : (script mid new id byte text : List ℕ) (i : ℕ) → script ≡ generated i → id ≡ numbered_id i → byte ≡ numbered_byte i → mid ≡ script ++ segment_text id byte → text ≡ commit_text i → new ≡ mid ++ text → new ≡ generated (i + 1)
segment_more script mid new id byte text i is_script is_id is_byte is_mid is_text is_new =
    is_new ∙ ap (λ (t : List ℕ). mid ++ t) is_text ∙ ap (λ (t : List ℕ). t ++ commit_text i) (is_mid ∙ ap (λ (t : List ℕ). t ++ segment_text id byte) is_script ∙ ap (λ (t : List ℕ). generated i ++ segment_text t byte) is_id ∙ ap (λ (t : List ℕ). generated i ++ segment_text (numbered_id i) t) is_byte) ∙ sym (next i)

-- the commit of a segment that isn't the first
pub commit_after : (i before : ℕ) (last id : List ℕ) → i ≡ before + 1 → last ≡ numbered_id before → id ≡ numbered_id i
    → codes "commit - " ++ last ++ codes " " ++ id ++ codes "\nrelease segment " ++ last ++ codes "\ngc\n" ≡ commit_text i
commit_after i before last id is is_last is_id = rw (is_last, is_id, is) (simp unary_clauses refl)
