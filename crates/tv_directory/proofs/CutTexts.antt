-- A text that is cut into pieces.
use Rattle.std.proofs.Common.{◌≡◌, ◌≤◌, ◌+◌, ℕ, List, [], ◌∷◌, ◌++◌, refl, ap, ◌∙◌, take, drop, length, arith}
use Rattle.std.proofs.lemmas.List.{drop-append-le, length-drop, take-append-drop, take-append-le}
use Rattle.std.proofs.lemmas.List.Sums.{sum_by-cons}
use Rattle.std.proofs.Math.Seq.{take-length}
use Rattle.tv_directory.specs.Pieces.{bytes_heard, cut, cut_length}

-- the first piece is a part of the text, and what is left behind it is cut into the others
cuts_first : (moment len : ℕ) (others : List (ℕ × ℕ)) (text : List ℕ) → cut_length ((moment, len) ∷ others) ≡ length text → (len ≤ length text) × (cut_length others ≡ length (drop len text))
cuts_first moment len others text is =
    let cons : cut_length ((moment, len) ∷ others) ≡ len + cut_length others = sum_by-cons (λ (piece : ℕ × ℕ). piece.1) (moment, len) others in
    (omega (arith, is, cons), omega (arith, is, cons, length-drop len text))

-- a text is its pieces, one after the other
pub all_pieces : (pieces : List (ℕ × ℕ)) (text : List ℕ) → cut_length pieces ≡ length text → bytes_heard (cut pieces text) ≡ text
all_pieces [] [] is = refl
all_pieces [] (b ∷ text) is = absurd cc
all_pieces ((moment, len) ∷ others) text is =
    ap (λ (l : List ℕ). take len text ++ l) (all_pieces others (drop len text) (cuts_first moment len others text is).1) ∙ take-append-drop len text

-- what is added to a text is a piece of its own
pub one_more : (pieces : List (ℕ × ℕ)) (text piece : List ℕ) (moment len : ℕ) → cut_length pieces ≡ length text → len ≡ length piece → cut (pieces ++ (moment, len) ∷ []) (text ++ piece) ≡ cut pieces text ++ (moment, piece) ∷ []
one_more [] [] piece moment len is whole = ap (λ (l : List ℕ). (moment, l) ∷ []) (ap (λ (n : ℕ). take n piece) whole ∙ take-length piece)
one_more [] (b ∷ text) piece moment len is whole = absurd cc
one_more ((before, size) ∷ others) text piece moment len is whole =
    let first = cuts_first before size others text is in
    ap (λ (l : List ℕ). (before, l) ∷ cut (others ++ (moment, len) ∷ []) (drop size (text ++ piece))) (take-append-le size text piece first.0)
    ∙ ap (λ (l : List ℕ). (before, take size text) ∷ cut (others ++ (moment, len) ∷ []) l) (drop-append-le size text piece first.0)
    ∙ ap (λ (l : List (ℕ × List ℕ)). (before, take size text) ∷ l) (one_more others (drop size text) piece moment len first.1 whole)
