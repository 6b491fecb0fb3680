use Rattle.std.proofs.Common.{nat_eq, string_bytes, ap, ◌∙◌}
use Rattle.std.specs.List.{starts_with}
use Rattle.tv_metas.proofs.Named.{named_by_first, named_by_none}
use Rattle.tv_metas.proofs.naming.is_named.Goals as goal

pub returns-in-Some : goal.returns-in-Some
returns-in-Some c =
    c.starts_with.ensures.value
    ∙ ap (λ name. starts_with nat_eq name c.write_digits.new.digits) c.as_bytes.ensures.value
    ∙ ap (λ digits. starts_with nat_eq (string_bytes c.in-Some.name.now) digits) c.write_digits.ensures.digits
    ∙ named_by_first c.args.names.now.keys (string_bytes c.args.digits) c.args.id c.range.result c.next.new.self c.in-Some.name.now c.range.ensures.ordered c.requires (c.range.ensures.between tt) c.in-Some.ensures.steps

pub returns-in-None : goal.returns-in-None
returns-in-None c = named_by_none c.args.names.now.keys (string_bytes c.args.digits) c.args.id c.range.result c.requires (c.range.ensures.between tt) c.in-None.ensures.steps.0
