use Rattle.std.proofs.Common.{None, cond, ap, ◌∙◌}
use Rattle.std.specs.BTreeMap.{is_at}
use Rattle.tv_formats.specs.Names.{byte_cmp, at}
use Rattle.tv_store.proofs.Removals.{contains_itself, one_is, removed_still}
use Rattle.tv_store.proofs.files_collecting.remove_one.Goals as goal

pub returns-clause-name : goal.returns-clause-name
returns-clause-name g c n = c.remove-entry.ensures.updates.0 n ∙ ap (λ b. cond b None (at c.args.map.now.entries n)) (one_is c.args.name.now n)

pub returns-clause-left : goal.returns-clause-left
returns-clause-left g c = removed_still c.args.map.now.entries c.args.map.now.entries c.remove-entry.new.self.entries (is_at (byte_cmp c.args.name.now)) c.remove-entry.ensures.entries (contains_itself c.args.map.now.entries)
