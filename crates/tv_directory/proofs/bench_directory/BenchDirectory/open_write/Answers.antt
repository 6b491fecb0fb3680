use Rattle.std.proofs.Common.{rules, ◌∙◌, refl, sym, ap, inl}
use Rattle.tv_base.specs.declared.open_errors.OpenWriteError.TheVariants as write
use Rattle.tv_device.specs.Ram.{ram_states}
use Rattle.tv_directory.proofs.BenchCalls.{faulted_rose, opening_below, opens_no_state}
use Rattle.tv_directory.proofs.Benches.{begun, failed, follows_below, follows_done, follows_failed, kept_aside, kept_in, same_reads, same_ram, untold, untold_then}
use Rattle.tv_directory.proofs.Recorded.{kept_by, replaced_by, unread_absent}
use Rattle.tv_directory.proofs.bench_directory.BenchDirectory.open_write.Goals as goal

-- ---- refused, but memory was wanted

pub returns-in_err-record_refused_opening-clause-frame : goal.returns-in_err-record_refused_opening-clause-frame
returns-in_err-record_refused_opening-clause-frame g c =
    let asked = c.record_refused_opening.ensures in
    let one = begun c.args.self.now c.record_refused_opening.new.self c.refuses.new.self asked.others c.refuses.ensures.number asked.room in
    kept_aside _ (follows_below _ one c.in_err-record_refused_opening.ensures.err) one.aside

pub returns-in_err-record_refused_opening-clause-images : goal.returns-in_err-record_refused_opening-clause-images
returns-in_err-record_refused_opening-clause-images g c =
    let same = kept_by _ _ _ _ _ (ap (λ b. ram_states b.ram) c.record_refused_opening.ensures.others) c.in_err-record_refused_opening.ensures.err (λ n. refl) in
    opens_no_state _ write.Memory _ same tt c.from_residual-in_err-record_refused_opening.ensures.1

-- ---- refused

pub returns-then-refuses-clause-makes : goal.returns-then-refuses-clause-makes
returns-then-refuses-clause-makes g c =
    let asked = c.record_refused_opening.ensures in
    let one = begun c.args.self.now c.record_refused_opening.new.self c.refuses.new.self asked.others c.refuses.ensures.number asked.room in
    let fault = failed c.fault.new.self one (sym c.refuses.ensures.answer ∙ c.if-refuses.true) c.fault.ensures.counted in
    record { ok = λ t. tt; err = λ t. (search rules, c.fault.ensures.fault.0, inl (same_reads fault.aside)) }

pub returns-then-refuses-clause-faults : goal.returns-then-refuses-clause-faults
returns-then-refuses-clause-faults g c =
    let asked = c.record_refused_opening.ensures in
    let one = begun c.args.self.now c.record_refused_opening.new.self c.refuses.new.self asked.others c.refuses.ensures.number asked.room in
    let fault = failed c.fault.new.self one (sym c.refuses.ensures.answer ∙ c.if-refuses.true) c.fault.ensures.counted in
    record { quiet = tt; cause = (search rules, c.fault.ensures.fault.0, faulted_rose _ _ fault.faulted) }

pub returns-then-refuses-clause-frame : goal.returns-then-refuses-clause-frame
returns-then-refuses-clause-frame g c =
    let asked = c.record_refused_opening.ensures in
    let one = begun c.args.self.now c.record_refused_opening.new.self c.refuses.new.self asked.others c.refuses.ensures.number asked.room in
    let fault = failed c.fault.new.self one (sym c.refuses.ensures.answer ∙ c.if-refuses.true) c.fault.ensures.counted in
    kept_aside _ (follows_failed fault c.in_ok-record_refused_opening.ensures.images.adds.time.later) fault.aside

pub returns-then-refuses-clause-device : goal.returns-then-refuses-clause-device
returns-then-refuses-clause-device g c =
    let asked = c.record_refused_opening.ensures in
    let one = begun c.args.self.now c.record_refused_opening.new.self c.refuses.new.self asked.others c.refuses.ensures.number asked.room in
    let fault = failed c.fault.new.self one (sym c.refuses.ensures.answer ∙ c.if-refuses.true) c.fault.ensures.counted in
    record { passed = tt; cause = (search rules, c.fault.ensures.fault.0, (fault.aside.timed, fault.faulted)); kept = untold fault.aside }

-- ---- memory was wanted, or the file is there

pub returns-in_err-key-clause-frame : goal.returns-in_err-key-clause-frame
returns-in_err-key-clause-frame g c =
    let same = c.before-2.ensures in
    let one = begun c.args.self.now c.before-2.new.self c.refuses.new.self same.others c.refuses.ensures.number same.line in
    kept_aside _ (follows_below _ one same.calls) one.aside

pub returns-in_err-writer-clause-frame : goal.returns-in_err-writer-clause-frame
returns-in_err-writer-clause-frame g c =
    let same = c.before-2.ensures in
    let one = begun c.args.self.now c.before-2.new.self c.refuses.new.self same.others c.refuses.ensures.number same.line in
    kept_in _ (follows_below c.open_write.new.self one same.calls) (rw (same_ram one.aside) at c.in_err-writer.ensures.frame)

pub returns-in_err-writer-clause-images : goal.returns-in_err-writer-clause-images
returns-in_err-writer-clause-images g c =
    let below = c.in_err-writer.ensures in
    let ram = ap (λ b. b.ram) c.before-2.ensures.others in
    let same = kept_by _ _ _ _ _ (ap (λ b. ram_states b.ram) c.before-2.ensures.others) c.before-2.ensures.calls below.file.states.err in
    opens_no_state c.args.name.now _ _ same (rw ram at (opening_below c.before-2.new.self.ram.files.map.entries c.args.name.now _ below.faults.cause)) c.from_residual-in_err-writer.ensures.1

-- ---- done

pub returns-clause-makes : goal.returns-clause-makes
returns-clause-makes g c =
    let ram = ap (λ b. b.ram) c.before-2.ensures.others in
    record { ok = λ t. rw ram at c.in_ok-writer.ensures.makes.ok tt; err = λ t. tt }

pub returns-clause-frame : goal.returns-clause-frame
returns-clause-frame g c =
    let same = c.before-2.ensures in
    let one = begun c.args.self.now c.before-2.new.self c.refuses.new.self same.others c.refuses.ensures.number same.line in
    kept_in _ (follows_done c.open_write.new.self c.add.new.self _ one same.calls c.add.ensures.calls (c.add.ensures.line c.in_ok-key.ensures.room)) (rw (same_ram one.aside) at c.in_ok-writer.ensures.frame)

pub returns-clause-device : goal.returns-clause-device
returns-clause-device g c =
    let same = c.before-2.ensures in
    let one = begun c.args.self.now c.before-2.new.self c.refuses.new.self same.others c.refuses.ensures.number same.line in
    record {
      passed = record { isnt = sym c.refuses.ensures.answer ∙ c.if-refuses.false; after = one.number };
      cause = tt;
      kept = untold_then one.aside c.open_write.new.self c.add.new.self;
    }

pub returns-clause-faults : goal.returns-clause-faults
returns-clause-faults g c =
    let same = c.before-2.ensures in
    let one = begun c.args.self.now c.before-2.new.self c.refuses.new.self same.others c.refuses.ensures.number same.line in
    record { quiet = ap (λ d. d.faults) one.number; cause = tt }

pub returns-clause-images : goal.returns-clause-images
returns-clause-images g c =
    let (name, before) = c.in_ok-key.ensures.found in
    let ram = ap (λ b. b.ram) c.before-2.ensures.others in
    let made = rw ram at c.in_ok-writer.ensures.makes.ok tt in
    let one = replaced_by _ _ _ c.in_ok-key.before _ _ _ _ (ap (λ b. ram_states b.ram) c.before-2.ensures.others) before c.in_ok-writer.ensures.file.states.ok (rw (c.before-2.ensures.calls, name) at c.add.ensures.calls) in
    record { ok = (unread_absent c.args.self.now.ram.files.map.entries c.args.name.now made.0, one.sets); err = tt; no_more = one.adds.no_more; time = one.adds.time }
