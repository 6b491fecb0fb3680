use Rattle.std.proofs.Common.{◌≡◌, drop, not}
use Rattle.std.specs.Prelude.{filter}
use Rattle.tv_formats.specs.Names.{is}
use Rattle.tv_registers.specs.Registers.{without_each}
use Rattle.tv_registers.proofs.replacing.take_others.Given as goal

abbrev pub invariant-loop-id : goal.invariant-loop-id
invariant-loop-id l = without_each (filter (λ id. not (is l.stays id)) (drop l.id-index l.ids)) (l.segments.entries, l.inventory)
    ≡ without_each (filter (λ id. not (is l.stays id)) l.ids) (l.fn.segments.entries, l.fn.inventory)
