use Rattle.tv_formats.proofs.StrippedTexts.{stripped_schema}
use Rattle.tv_formats.proofs.laws.stripped_schemas_are_texts.Goals as goal

pub returns : goal.returns
returns c = record { texts = λ bytes tree names u is form. stripped_schema bytes tree names u is form }
