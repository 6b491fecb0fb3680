use Rattle.std.proofs.Common.{None, Some, refl, sym, ◌∙◌}
use Rattle.tv_registers.proofs.Removed.{went_out}
use Rattle.tv_registers.proofs.replacing.take_entry.Goals as goal

pub returns-in-Some : goal.returns-in-Some
returns-in-Some c =
    went_out c.args.segments.now.entries c.remove.new.self.entries c.args.id.now (Some c.in-Some.entry) c.args.inventory.now c.release.new.inventory
    c.remove.ensures.entries c.remove.ensures.updates.1 (sym c.in-Some.is ∙ c.remove.ensures.value) c.release.ensures.released

pub returns-in_default : goal.returns-in_default
returns-in_default c =
    went_out c.args.segments.now.entries c.remove.new.self.entries c.args.id.now None c.args.inventory.now c.args.inventory.now
    c.remove.ensures.entries c.remove.ensures.updates.1 (sym c.in_default.is ∙ c.remove.ensures.value) refl
