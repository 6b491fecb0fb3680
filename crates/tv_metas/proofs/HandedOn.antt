-- An error that is handed on says what it said.
use Rattle.std.proofs.Common.{◌≡◌, Result, Ok, Err, sym, subst}
use Rattle.std.specs.Prelude.{IfErr, IsErrAnd, MatchResult}
use Rattle.tv_metas.specs.declared.read_error.ReadError.{ReadError}
use Rattle.tv_metas.specs.declared.read_error.ReadError.TheVariants.{Corrupt, Memory}
use Rattle.tv_metas.specs.Reads.{IfCorrupt}

module _ {U : Type 0} (r : Result U ReadError) (e : ReadError) (Q : ReadError → Type 0) (h : IsErrAnd r Q) (same : (x : ReadError) → Q x → x ≡ e) where
  pub handed_on : (P : ReadError → Type 0) → P e → IfErr r P
  handed_on P p = at r h
    where
      at : (s : Result U ReadError) → IsErrAnd s Q → IfErr s P
      at (Ok u) k = absurd k
      at (Err x) k = subst P (sym (same x k)) p

  pub told_on : (A : U → Type 0) (P : ReadError → Type 0) → P e → MatchResult r A P
  told_on A P p = at r h
    where
      at : (s : Result U ReadError) → IsErrAnd s Q → MatchResult s A P
      at (Ok u) k = absurd k
      at (Err x) k = subst P (sym (same x k)) p

-- a fact of what is corrupt, from another
pub if_corrupt : (e : ReadError) (P Q : Type 0) → (P → Q) → IfCorrupt e P → IfCorrupt e Q
if_corrupt Corrupt P Q f h = f h
if_corrupt Memory P Q f h = tt
