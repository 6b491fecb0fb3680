use Rattle.std.proofs.Common.{◌≡◌, rules}
use Rattle.tv_formats.proofs.Entries.{has_put}
use Rattle.tv_device.proofs.files.add_name.Goals as goal

pub returns : goal.returns
returns c n =
    let name : c.in_ok-file_name.field-0 ≡ c.args.name.now = search rules in
    rw (c.in_ok-insert.ensures.keys, name) (has_put c.args.names.now.keys c.args.name.now n)
