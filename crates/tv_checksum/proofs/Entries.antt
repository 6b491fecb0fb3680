-- The tables have what the definition gives: the whole of them is computed, and then read.
use Rattle.std.proofs.Common.{◌≡◌, ℕ, zero, suc, ◌<◌, List, [], ◌∷◌, map, length, get_or, replicate, refl, sym, ap, ◌∙◌, arith}
use Rattle.std.specs.List.{range_with_len}
use Rattle.std.proofs.lemmas.List.{get_or-map}
use lib.ListN.{length-map}
use Rattle.std.proofs.lemmas.List.FromFn.{get_or-range_with_len}
use Rattle.tv_checksum.proofs.Registers.{with-append}
use Rattle.tv_checksum.specs.Crc32.{register_with, after_zeros}
use Rattle.tv_checksum.specs.declared.tables.TheConstants.{TABLES}

-- the register after one zero
unfoldable next : ℕ → ℕ
unfolding register_with
next register = register_with register (0 ∷ [])

-- tables for one zero more each, up to n, where one for none is given
unfoldable tables : ℕ → List ℕ → List (List ℕ)
tables zero table = []
tables (suc n) table = let more = map next table in more ∷ tables n more

computed : TABLES ≡ tables 16 (range_with_len 0 256)
unfolding tables next register_with
computed = refl

entry-tables : (n k i : ℕ) (table : List ℕ) → k < n → i < length table
    → get_or (get_or (tables n table) k []) i 0 ≡ after_zeros (suc k) (get_or table i 0)
unfolding tables next
entry-tables zero k i table p q = absurd (omega arith)
entry-tables (suc n) zero i table p q = get_or-map next table i 0 0 q
entry-tables (suc n) (suc k) i table p q =
    let long : i < length (map next table) = omega (arith, length-map table next) in
    entry-tables n k i (map next table) (omega arith) long
    ∙ ap (after_zeros (suc k)) (get_or-map next table i 0 0 q)
    ∙ sym (with-append (get_or table i 0) (0 ∷ []) (replicate (suc k) 0))

pub entry_at : (k i : ℕ) → k < 16 → i < 256 → get_or (get_or TABLES k []) i 0 ≡ after_zeros (suc k) i
entry_at k i p q =
    let same : get_or (range_with_len 0 256) i 0 ≡ i = omega (arith, get_or-range_with_len 0 256 i 0 q) in
    ap (λ (ts : List (List ℕ)). get_or (get_or ts k []) i 0) computed
    ∙ entry-tables 16 k i (range_with_len 0 256) p q
    ∙ ap (after_zeros (suc k)) same
