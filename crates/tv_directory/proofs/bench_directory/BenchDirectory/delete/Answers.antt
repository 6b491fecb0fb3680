use Rattle.std.proofs.Common.{rules, ◌∙◌, refl, sym, ap}
use Rattle.tv_base.specs.declared.open_errors.DeleteError.TheVariants as delete
use Rattle.tv_directory.specs.Device.{after_refusal}
use Rattle.tv_device.specs.Ram.{ram_states}
use Rattle.tv_directory.proofs.BenchCalls.{deletes_no_state, deleting_below, refused_rose}
use Rattle.tv_directory.proofs.Benches.{begun, deleting_in, follows_below, follows_done, same_ram, untold_then}
use Rattle.tv_directory.proofs.Recorded.{kept_by, may_add, read_there, replaced_by, unchanged}
use Rattle.tv_directory.proofs.bench_directory.BenchDirectory.delete.Goals as goal

-- ---- refused, or memory was wanted

pub returns-in_default-clause-images : goal.returns-in_default-clause-images
returns-in_default-clause-images g c = deletes_no_state _ delete.Memory _ (unchanged _ _) tt refl

pub returns-then-refuses-clause-faults : goal.returns-then-refuses-clause-faults
returns-then-refuses-clause-faults g c =
    let rose = refused_rose c.args.self.now.device c.refusal.new.self (c.refusal.ensures.counted ∙ ap after_refusal c.refuses.ensures.number) in
    record { quiet = tt; cause = (search rules, c.refusal.ensures.fault.0, rose.0); fits = rose.1; faults = rose.2 }

pub returns-then-refuses-clause-images : goal.returns-then-refuses-clause-images
returns-then-refuses-clause-images g c =
    let same = unchanged c.args.self.now.recorded.calls (ram_states c.args.self.now.ram) in
    record { ok = tt; err = (search rules, c.refusal.ensures.fault.0, same.states); no_more = may_add _ _ _ _ same.states.possible.no_more; time = same.time }

pub returns-in_default-before-clause-images : goal.returns-in_default-before-clause-images
returns-in_default-before-clause-images g c =
    let same = kept_by _ _ _ _ _ (ap (λ b. ram_states b.ram) c.before-2.ensures.others) c.before-2.ensures.calls (λ n. refl) in
    deletes_no_state _ delete.Memory _ same tt refl

pub returns-in_err-delete-clause-frame : goal.returns-in_err-delete-clause-frame
returns-in_err-delete-clause-frame g c =
    let same = c.before-2.ensures in
    let one = begun c.args.self.now c.before-2.new.self c.refuses.new.self same.others c.refuses.ensures.number same.line in
    deleting_in _ (follows_below c.delete.new.self one same.calls) (rw (same_ram one.aside) at c.in_err-delete.ensures.frame)

pub returns-in_err-delete-clause-images : goal.returns-in_err-delete-clause-images
returns-in_err-delete-clause-images g c =
    let below = c.in_err-delete.ensures in
    let ram = ap (λ b. b.ram) c.before-2.ensures.others in
    let same = kept_by _ _ _ _ _ (ap (λ b. ram_states b.ram) c.before-2.ensures.others) c.before-2.ensures.calls below.states.err in
    deletes_no_state c.args.name.now _ _ same (rw ram at (deleting_below c.before-2.new.self.ram.files.map.entries c.args.name.now _ below.faults.cause)) c.from_residual.ensures.1

-- ---- done

pub returns-clause-frame : goal.returns-clause-frame
returns-clause-frame g c =
    let same = c.before-2.ensures in
    let one = begun c.args.self.now c.before-2.new.self c.refuses.new.self same.others c.refuses.ensures.number same.line in
    deleting_in _ (follows_done c.delete.new.self c.add.new.self _ one same.calls c.add.ensures.calls (c.add.ensures.line c.in-Ok-before.ensures.room)) (rw (same_ram one.aside) at c.in_ok-delete.ensures.frame)

pub returns-clause-device : goal.returns-clause-device
returns-clause-device g c =
    let same = c.before-2.ensures in
    let one = begun c.args.self.now c.before-2.new.self c.refuses.new.self same.others c.refuses.ensures.number same.line in
    record {
      passed = record { isnt = sym c.refuses.ensures.answer ∙ c.if-refuses.false; after = one.number };
      cause = tt;
      kept = untold_then one.aside c.delete.new.self c.add.new.self;
    }

pub returns-clause-images : goal.returns-clause-images
returns-clause-images g c =
    let (name, before) = c.in-Ok-before.ensures.found in
    let ram = ap (λ b. b.ram) c.before-2.ensures.others in
    let gone = rw ram at c.in_ok-delete.ensures.deletes.ok tt in
    let one = replaced_by _ _ _ c.in-Ok-before.before _ _ _ _ (ap (λ b. ram_states b.ram) c.before-2.ensures.others) before c.in_ok-delete.ensures.states.ok (rw (c.before-2.ensures.calls, name) at c.add.ensures.calls) in
    record { ok = (read_there c.args.self.now.ram.files.map.entries c.args.name.now gone.0, one.sets); err = tt; no_more = one.adds.no_more; time = one.adds.time }
