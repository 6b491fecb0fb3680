use Rattle.std.proofs.Common.{◌+◌, drop, refl, arith}
use Rattle.std.specs.BTreeMap.{is_at}
use Rattle.tv_formats.specs.Names.{byte_cmp}
use Rattle.tv_store.proofs.Removals.{contains_itself, one_gone, removed_still}
use Rattle.tv_catalog.proofs.SharedLaws.{drop_here}
use Rattle.tv_store.proofs.files_collecting.remove_all.Goals as goal

pub loop-name-init : goal.loop-name-init
loop-name-init g c = record { names = λ n. refl; left = contains_itself c.args.map.now.entries }

pub loop-name-preserved : goal.loop-name-preserved
loop-name-preserved g c =
    let names = c.args.names.now in
    let next = drop_here names c.loop-name.name-index c.name-item.result (omega arith) c.name-item.is in
    record {
      names = λ n. one_gone c.loop-name.map.entries c.remove-entry.new.self.entries c.name-item.result (drop c.loop-name.name-index names) (drop (c.loop-name.name-index + 1) names) n _ next (c.remove-entry.ensures.updates.0 n) (c.loop-name.invariant.names n);
      left = removed_still c.args.map.now.entries c.loop-name.map.entries c.remove-entry.new.self.entries (is_at (byte_cmp c.name-item.result)) c.remove-entry.ensures.entries c.loop-name.invariant.left;
    }
