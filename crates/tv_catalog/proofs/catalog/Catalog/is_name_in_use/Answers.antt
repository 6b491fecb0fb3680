use Rattle.std.proofs.Common.{◌≡◌, true, false, map, string_bytes, refl}
use Rattle.tv_formats.specs.Names.{has}
use Rattle.tv_catalog.proofs.catalog.Catalog.is_name_in_use.Goals as goal

pub returns-then-has_name : goal.returns-then-has_name
returns-then-has_name c =
    let is : true ≡ has (map string_bytes c.args.managed.now.keys) c.args.name.now = rw (← c.as_str.ensures.text) c.if-has_name.ensures in
    rw (← is) refl

pub returns : goal.returns
returns c =
    let isnt : false ≡ has (map string_bytes c.args.managed.now.keys) c.args.name.now = rw (← c.as_str.ensures.text) c.if-has_name.ensures in
    rw (← isnt) c.is_committed_delete.ensures
