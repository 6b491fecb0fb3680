use Rattle.std.proofs.Common.{◌<◌, ◌∙◌, ⊎_elim, refl, subst, sym, arith}
use Rattle.std.proofs.lemmas.Option.{none-some}
use Rattle.tv_base.proofs.VInts.{found_at, found_in, last_large, read_only}
use Rattle.tv_base.proofs.vint.VInt.deserialize.Goals as goal

pub returns-in_err-last-clause-found : goal.returns-in_err-last-clause-found
returns-in_err-last-clause-found c = λ n rest lt is.
    let f = found_in n rest _ is in
    absurd (none-some f.0 (sym c.in_err-last.was ∙ c.last_of.ensures ∙ f.1.is))

pub overflow_sub-highest : goal.overflow_sub-highest
overflow_sub-highest c = last_large _ _ (sym c.last_of.ensures ∙ c.in_ok-last.was)

pub returns-then-last-gt0-clause-found : goal.returns-then-last-gt0-clause-found
returns-then-last-gt0-clause-found c = λ n rest lt is.
    let f = found_at n _ rest _ is (sym c.last_of.ensures ∙ c.in_ok-last.was) in
    absurd (omega (arith, f.alone c.if-highest-eq0.true, c.if-last-gt0.true))

pub returns-in_err-number-clause-found : goal.returns-in_err-number-clause-found
returns-in_err-number-clause-found c = λ n rest lt is.
    let f = found_at n _ rest _ is (sym c.last_of.ensures ∙ c.in_ok-last.was) in
    absurd (none-some _ (c.in_err-number.ensures.found (subst (λ x. x < 18446744073709551616) (sym f.number) lt)))

pub returns-clause-found : goal.returns-clause-found
returns-clause-found c = λ n rest lt is.
    let f = found_at n _ rest _ is (sym c.last_of.ensures ∙ c.in_ok-last.was) in
    rw (c.in_ok-number.ensures.only ∙ f.number, f.size) refl

pub returns-clause-only : goal.returns-clause-only
returns-clause-only c =
    let fits = c.type_inv.bytes c.in_ok-last.last in
    let read = read_only _ _ c.in_ok-number.number (sym c.last_of.ensures ∙ c.in_ok-last.was) (omega (arith, fits)) (⊎_elim (λ both none. omega (arith, both.1)) (λ some none. absurd (some none)) c.else-highest-eq0.either) c.in_ok-number.ensures.only in
    (read.rest, read.whole, read.size)
