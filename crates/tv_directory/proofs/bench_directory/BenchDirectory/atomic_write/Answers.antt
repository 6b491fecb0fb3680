use Rattle.std.proofs.Common.{◌∙◌, refl, sym, ap}
use Rattle.tv_formats.specs.Files.{Same}
use Rattle.tv_device.specs.Ram.{ram_reads, ram_states}
use Rattle.tv_directory.proofs.BenchCalls.{faults_numbered, gives_no_state, notes_nothing, numbered_failed, numbered_quietly}
use Rattle.tv_directory.proofs.ShowsNothing.{gives_nothing, gives_quietly, memory_below, quiet_below}
use Rattle.tv_directory.proofs.Benches.{begun, failed, follows_below, follows_done, follows_failed, frame_in, kept_aside, same_reads, same_ram, untold, untold_then}
use Rattle.tv_directory.proofs.Recorded.{kept_by, replaced_by}
use Rattle.tv_directory.proofs.bench_directory.BenchDirectory.atomic_write.Goals as goal

-- ---- refused, but memory was wanted

pub returns-in_err-record_refused_bytes-clause-frame : goal.returns-in_err-record_refused_bytes-clause-frame
returns-in_err-record_refused_bytes-clause-frame g c =
    let asked = c.record_refused_bytes.ensures in
    let one = begun c.args.self.now c.record_refused_bytes.new.self c.refuses.new.self asked.others c.refuses.ensures.number asked.room in
    (kept_aside _ (follows_below _ one c.in_err-record_refused_bytes.ensures.err) one.aside).frame

pub returns-in_err-record_refused_bytes-clause-images : goal.returns-in_err-record_refused_bytes-clause-images
returns-in_err-record_refused_bytes-clause-images g c =
    let same = kept_by _ _ _ _ _ (ap (λ b. ram_states b.ram) c.record_refused_bytes.ensures.others) c.in_err-record_refused_bytes.ensures.err (λ n. refl) in
    gives_no_state _ _ _ same c.from_residual.ensures.1

-- ---- refused

pub returns-then-refuses-clause-gives : goal.returns-then-refuses-clause-gives
returns-then-refuses-clause-gives g c =
    let asked = c.record_refused_bytes.ensures in
    let one = begun c.args.self.now c.record_refused_bytes.new.self c.refuses.new.self asked.others c.refuses.ensures.number asked.room in
    let fault = failed c.fault.new.self one (sym c.refuses.ensures.answer ∙ c.if-refuses.true) c.fault.ensures.counted in
    gives_nothing (same_reads fault.aside) _ _ _ c.fault.ensures.fault.0

pub returns-then-refuses-clause-notes : goal.returns-then-refuses-clause-notes
returns-then-refuses-clause-notes g c =
    let asked = c.record_refused_bytes.ensures in
    let one = begun c.args.self.now c.record_refused_bytes.new.self c.refuses.new.self asked.others c.refuses.ensures.number asked.room in
    let fault = failed c.fault.new.self one (sym c.refuses.ensures.answer ∙ c.if-refuses.true) c.fault.ensures.counted in
    notes_nothing _ _ _ fault.aside c.fault.ensures.fault.0

pub returns-then-refuses-clause-frame : goal.returns-then-refuses-clause-frame
returns-then-refuses-clause-frame g c =
    let asked = c.record_refused_bytes.ensures in
    let one = begun c.args.self.now c.record_refused_bytes.new.self c.refuses.new.self asked.others c.refuses.ensures.number asked.room in
    let fault = failed c.fault.new.self one (sym c.refuses.ensures.answer ∙ c.if-refuses.true) c.fault.ensures.counted in
    (kept_aside _ (follows_failed fault c.in_ok-record_refused_bytes.ensures.images.adds.time.later) fault.aside).frame

pub returns-then-refuses-clause-device : goal.returns-then-refuses-clause-device
returns-then-refuses-clause-device g c =
    let asked = c.record_refused_bytes.ensures in
    let one = begun c.args.self.now c.record_refused_bytes.new.self c.refuses.new.self asked.others c.refuses.ensures.number asked.room in
    let fault = failed c.fault.new.self one (sym c.refuses.ensures.answer ∙ c.if-refuses.true) c.fault.ensures.counted in
    numbered_failed _ _ _ fault c.fault.ensures.fault (untold fault.aside)

pub returns-then-refuses-clause-faults : goal.returns-then-refuses-clause-faults
returns-then-refuses-clause-faults g c = faults_numbered _ _ _ _ (returns-then-refuses-clause-device g c)

-- ---- memory was wanted

pub returns-in_err-key-clause-frame : goal.returns-in_err-key-clause-frame
returns-in_err-key-clause-frame g c =
    let same = c.before-2.ensures in
    let one = begun c.args.self.now c.before-2.new.self c.refuses.new.self same.others c.refuses.ensures.number same.line in
    (kept_aside _ (follows_below _ one same.calls) one.aside).frame

pub returns-in_err-key-clause-images : goal.returns-in_err-key-clause-images
returns-in_err-key-clause-images g c =
    let same = kept_by _ _ _ _ _ (ap (λ b. ram_states b.ram) c.before-2.ensures.others) c.before-2.ensures.calls (λ n. refl) in
    gives_no_state _ _ _ same c.from_residual-in_err-key.ensures.1

pub returns-in_err-atomic_write-clause-gives : goal.returns-in_err-atomic_write-clause-gives
returns-in_err-atomic_write-clause-gives g c =
    let same = c.before-2.ensures in
    let one = begun c.args.self.now c.before-2.new.self c.refuses.new.self same.others c.refuses.ensures.number same.line in
    let below = c.in_err-atomic_write.ensures in
    let alike : Same (ram_reads c.args.self.now.ram) (ram_reads c.atomic_write.new.self) = λ n. quiet_below _ _ _ below.faults.cause (below.gives.err tt) n ∙ same_reads one.aside n in
    gives_quietly alike _ _ _ (memory_below _ _ below.faults.cause c.from_residual-in_err-atomic_write.ensures.1)

pub returns-in_err-atomic_write-clause-frame : goal.returns-in_err-atomic_write-clause-frame
returns-in_err-atomic_write-clause-frame g c =
    let same = c.before-2.ensures in
    let one = begun c.args.self.now c.before-2.new.self c.refuses.new.self same.others c.refuses.ensures.number same.line in
    frame_in _ (follows_below c.atomic_write.new.self one same.calls) (rw (same_ram one.aside) at c.in_err-atomic_write.ensures.frame)

pub returns-in_err-atomic_write-clause-device : goal.returns-in_err-atomic_write-clause-device
returns-in_err-atomic_write-clause-device g c =
    let same = c.before-2.ensures in
    let one = begun c.args.self.now c.before-2.new.self c.refuses.new.self same.others c.refuses.ensures.number same.line in
    numbered_quietly _ _ _ one.number (memory_below _ _ c.in_err-atomic_write.ensures.faults.cause c.from_residual-in_err-atomic_write.ensures.1) (untold_then one.aside c.atomic_write.new.self c.before-2.new.self.recorded)

pub returns-in_err-atomic_write-clause-faults : goal.returns-in_err-atomic_write-clause-faults
returns-in_err-atomic_write-clause-faults g c = faults_numbered _ _ _ _ (returns-in_err-atomic_write-clause-device g c)

pub returns-in_err-atomic_write-clause-images : goal.returns-in_err-atomic_write-clause-images
returns-in_err-atomic_write-clause-images g c =
    let below = c.in_err-atomic_write.ensures in
    let same = kept_by _ _ _ _ _ (ap (λ b. ram_states b.ram) c.before-2.ensures.others) c.before-2.ensures.calls below.states.err in
    gives_no_state _ _ _ same (memory_below _ _ below.faults.cause c.from_residual-in_err-atomic_write.ensures.1)

-- ---- done

pub returns-clause-frame : goal.returns-clause-frame
returns-clause-frame g c =
    let same = c.before-2.ensures in
    let one = begun c.args.self.now c.before-2.new.self c.refuses.new.self same.others c.refuses.ensures.number same.line in
    frame_in _ (follows_done c.atomic_write.new.self c.add.new.self _ one same.calls c.add.ensures.calls (c.add.ensures.line c.in_ok-key.ensures.room)) (rw (same_ram one.aside) at c.in_ok-atomic_write.ensures.frame)

pub returns-clause-device : goal.returns-clause-device
returns-clause-device g c =
    let same = c.before-2.ensures in
    let one = begun c.args.self.now c.before-2.new.self c.refuses.new.self same.others c.refuses.ensures.number same.line in
    record {
      passed = record { isnt = sym c.refuses.ensures.answer ∙ c.if-refuses.false; after = one.number };
      cause = tt;
      kept = untold_then one.aside c.atomic_write.new.self c.add.new.self;
    }

pub returns-clause-faults : goal.returns-clause-faults
returns-clause-faults g c = faults_numbered _ _ _ _ (returns-clause-device g c)

pub returns-clause-images : goal.returns-clause-images
returns-clause-images g c =
    let (name, before) = c.in_ok-key.ensures.found in
    let one = replaced_by _ _ _ c.in_ok-key.before _ _ _ _ (ap (λ b. ram_states b.ram) c.before-2.ensures.others) before c.in_ok-atomic_write.ensures.states.ok (rw (c.before-2.ensures.calls, name) at c.add.ensures.calls) in
    record { ok = one.sets; err = tt; no_more = one.adds.no_more; time = one.adds.time }
