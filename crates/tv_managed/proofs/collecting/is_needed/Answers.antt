use Rattle.std.proofs.Common.{◌||◌, true, false, sym, ap, ◌∙◌, refl}
use Rattle.tv_formats.specs.Names.{has}
use Rattle.tv_formats.proofs.CollectedNames.{has_append}
use Rattle.tv_managed.specs.Collecting.{names_of, texts_of}
use Rattle.tv_managed.proofs.SetsOfTexts.{had_is, lent_had}
use Rattle.tv_managed.proofs.collecting.is_needed.Goals as goal

pub returns-then-contains : goal.returns-then-contains
returns-then-contains c =
    let living = names_of c.args.living.now.keys in
    let others = texts_of c.args.held.now.keys in
    c.if-contains.true ∙ sym (has_append living others c.args.name.now ∙ ap (λ b. b || has others c.args.name.now) (had_is c.args.living.now.keys living c.args.name.now true c.if-contains.ensures refl))

pub returns-else-contains : goal.returns-else-contains
returns-else-contains c =
    let living = names_of c.args.living.now.keys in
    let others = texts_of c.args.held.now.keys in
    c.contains-else-contains.ensures ∙ lent_had c.args.held.now.keys c.args.name.now ∙ sym (has_append living others c.args.name.now ∙ ap (λ b. b || has others c.args.name.now) (had_is c.args.living.now.keys living c.args.name.now false c.if-contains.ensures refl))
