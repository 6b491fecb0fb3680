use Rattle.std.proofs.Common.{◌≡◌, true, string_bytes}
use Rattle.tv_formats.specs.Names.{is_plain}
use Rattle.tv_formats.proofs.PlainNames.{plain_is_file_name, delete_plain, other_plain}
use Rattle.tv_formats.proofs.file_name.segment_file_name.Goals as goal

pub new-requires : goal.new-requires
new-requires c =
    let plain : is_plain (string_bytes c.in_ok-text.text) ≡ true = rw c.in_ok-text.ensures.name (delete_plain c.args.id c.delete_opstamp-opstamp.result c.delete_file_name.ensures.id) in
    plain_is_file_name (string_bytes c.in_ok-text.text) plain

pub returns-then-eq-clause-plain : goal.returns-then-eq-clause-plain
returns-then-eq-clause-plain c = rw (c.new.ensures, c.in_ok-text.ensures.name) (delete_plain c.args.id c.delete_opstamp-opstamp.result c.delete_file_name.ensures.id)

pub new-requires-2 : goal.new-requires-2
new-requires-2 c =
    let plain : is_plain (string_bytes c.in_ok-text-2.text) ≡ true = rw (c.in_ok-text-2.ensures.name, c.extension.ensures) (other_plain c.args.id c.args.component c.file_name.ensures.id) in
    plain_is_file_name (string_bytes c.in_ok-text-2.text) plain

pub returns-clause-plain : goal.returns-clause-plain
returns-clause-plain c = rw (c.new-2.ensures, c.in_ok-text-2.ensures.name, c.extension.ensures) (other_plain c.args.id c.args.component c.file_name.ensures.id)
