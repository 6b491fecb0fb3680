-- Bytes that come in pieces: the register after all of them is the one after each.
use Rattle.std.proofs.Common.{◌≡◌, ℕ, zero, suc, ◌+◌, ◌*◌, ◌<◌, List, [], ◌∷◌, ◌++◌, length, get_or, take, drop, sym, ap, ◌∙◌, arith}
use Rattle.std.proofs.Common.{append_assoc, append-nil, suc-mul, zero-mul, drop-drop, take-append-drop}
use Rattle.std.specs.List.{concat}
use Rattle.std.specs.Simd.{first_chunks}
use Rattle.std.proofs.lemmas.List.{take_more}
use Rattle.std.proofs.lemmas.List.Folds.{concat-append}
use Rattle.tv_formats.specs.Checksum.{register_after}
use Rattle.tv_checksum.specs.Crc32.{register_with}
use Rattle.tv_checksum.proofs.Registers.{with-append}

-- a message that goes on
pub after-append : (xs ys : List ℕ) → register_after (xs ++ ys) ≡ register_with (register_after xs) ys
unfolding register_with
after-append xs ys = with-append 4294967295 xs ys

-- one more byte, or one more piece
pub byte_more : (r : ℕ) (bs : List ℕ) (i : ℕ) → i < length bs
    → register_with (register_with r (take i bs)) (get_or bs i 0 ∷ []) ≡ register_with r (take (i + 1) bs)
byte_more r bs i h = sym (with-append r (take i bs) (get_or bs i 0 ∷ [])) ∙ ap (register_with r) (sym (take_more bs i 0 h))

pub piece_more : (r : ℕ) (ps : List (List ℕ)) (i : ℕ) → i < length ps
    → register_with (register_with r (concat (take i ps))) (get_or ps i []) ≡ register_with r (concat (take (i + 1) ps))
piece_more r ps i h =
    let piece = get_or ps i [] in
    let one : concat (piece ∷ []) ≡ piece = append-nil piece in
    sym (with-append r (concat (take i ps)) piece)
    ∙ ap (λ (bs : List ℕ). register_with r (concat (take i ps) ++ bs)) (sym one)
    ∙ ap (register_with r) (sym (concat-append (take i ps) (piece ∷ [])))
    ∙ ap (λ (qs : List (List ℕ)). register_with r (concat qs)) (sym (take_more ps i [] h))

-- the pieces and what is left behind them
uncut : (n k : ℕ) (bs : List ℕ) → concat (first_chunks n k bs) ++ drop (k * n) bs ≡ bs
uncut n zero bs = ap (λ m. drop m bs) (zero-mul n)
uncut n (suc k) bs =
    let more : suc k * n ≡ n + k * n = omega (arith, suc-mul k n) in
    append_assoc (take n bs) (concat (first_chunks n k (drop n bs))) (drop (suc k * n) bs)
    ∙ ap (λ (cs : List ℕ). take n bs ++ (concat (first_chunks n k (drop n bs)) ++ cs)) (ap (λ m. drop m bs) more ∙ sym (drop-drop (k * n) n bs))
    ∙ ap (λ (cs : List ℕ). take n bs ++ cs) (uncut n k (drop n bs))
    ∙ take-append-drop n bs

pub by_pieces : (r n k : ℕ) (bs : List ℕ) → register_with (register_with r (concat (first_chunks n k bs))) (drop (k * n) bs) ≡ register_with r bs
by_pieces r n k bs = sym (with-append r (concat (first_chunks n k bs)) (drop (k * n) bs)) ∙ ap (register_with r) (uncut n k bs)
