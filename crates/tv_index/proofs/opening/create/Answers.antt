use Rattle.std.proofs.Common.{◌∙◌, ◌++◌, ◌∷◌, [], ℕ, List, ap}
use Rattle.tv_formats.specs.Names.{meta_name}
use Rattle.tv_base.specs.declared.io.IoError.TheVariants as io
use Rattle.tv_index.proofs.SavedSafely.{saves_as, saves_none}
use Rattle.tv_index.proofs.opening.create.Goals as goal

pub returns-in_err-text-clause-safe : goal.returns-in_err-text-clause-safe
returns-in_err-text-clause-safe g c t = saves_none g.D.Directory meta_name _ io.Memory c.from_residual.result c.from_residual.ensures.0

pub returns-in_err-push-clause-safe : goal.returns-in_err-push-clause-safe
returns-in_err-push-clause-safe g c t = saves_none g.D.Directory meta_name _ io.Memory c.from_residual-in_err-push.result c.from_residual-in_err-push.ensures.0

pub returns-clause-safe : goal.returns-clause-safe
returns-clause-safe g c t =
    saves_as g.D.Directory (c.as_slice.ensures.value ∙ c.in_ok-push.ensures.items ∙ ap (λ (text : List ℕ). text ++ 10 ∷ []) c.in_ok-text.ensures.text) (c.save_meta_text.ensures.safe t)
