use Rattle.std.proofs.Common.{rules, ◌≡◌, ◌∙◌, true, false, refl, sym, ap, true≢false}
use Rattle.tv_formats.specs.Disk.{Unsealed}
use Rattle.tv_directory.specs.Bench.{disk_in}
use Rattle.tv_formats.specs.Files.{Same}
use Rattle.tv_device.specs.Ram.{ram_lives, ram_reads, ram_states}
use Rattle.tv_directory.specs.Record.{RecordedRefused}
use Rattle.tv_directory.proofs.BenchCalls.{faults_numbered, gives_no_state, later_where, numbered_failed, numbered_quietly, writes_nothing}
use Rattle.tv_directory.proofs.ShowsNothing.{flushes_nothing, flushes_quietly, memory_below, quiet_below, still_there}
use Rattle.tv_directory.proofs.Benches.{begun, failed, follows_below, follows_done, follows_failed, kept_in, kept_aside, same_reads, same_ram, untold_then}
use Rattle.tv_directory.proofs.Recorded.{kept_by, made_there, replaced_by, unchanged}
use Rattle.tv_directory.proofs.bench_directory.BenchDirectory.flush.Goals as goal

-- ---- refused, but memory was wanted

pub returns-in_err-record_refused_where-clause-flushes : goal.returns-in_err-record_refused_where-clause-flushes
returns-in_err-record_refused_where-clause-flushes g c =
    let asked = c.record_refused_where.ensures in
    let one = begun c.args.self.now c.record_refused_where.new.self c.refuses.new.self asked.others c.refuses.ensures.number asked.room in
    flushes_quietly (same_reads one.aside) _ c.args.writer.now (still_there c.args.self.now.ram c.record_refused_where.new.self.ram (same_reads one.aside) c.args.writer.now) _ c.from_residual.ensures.1

pub returns-in_err-record_refused_where-clause-frame : goal.returns-in_err-record_refused_where-clause-frame
returns-in_err-record_refused_where-clause-frame g c =
    let asked = c.record_refused_where.ensures in
    let one = begun c.args.self.now c.record_refused_where.new.self c.refuses.new.self asked.others c.refuses.ensures.number asked.room in
    kept_aside _ (follows_below _ one c.in_err-record_refused_where.ensures.err) one.aside

pub returns-in_err-record_refused_where-clause-images : goal.returns-in_err-record_refused_where-clause-images
returns-in_err-record_refused_where-clause-images g c =
    let same = kept_by _ _ _ _ _ (ap (λ b. ram_states b.ram) c.record_refused_where.ensures.others) c.in_err-record_refused_where.ensures.err (λ n. refl) in
    record { there = made_there c.args.self.now.ram.files.map.entries c.args.writer.now.name c.args.writer.now.number; gives = λ lives. gives_no_state _ _ _ same c.from_residual.ensures.1; gone = λ isnt. same }

-- ---- refused

pub returns-then-refuses-clause-flushes : goal.returns-then-refuses-clause-flushes
returns-then-refuses-clause-flushes g c =
    let asked = c.record_refused_where.ensures in
    let one = begun c.args.self.now c.record_refused_where.new.self c.refuses.new.self asked.others c.refuses.ensures.number asked.room in
    let fault = failed c.fault.new.self one (sym c.refuses.ensures.answer ∙ c.if-refuses.true) c.fault.ensures.counted in
    flushes_nothing (same_reads fault.aside) _ c.args.writer.now (still_there c.args.self.now.ram c.record_refused_where.new.self.ram (same_reads fault.aside) c.args.writer.now) _ c.fault.ensures.fault.0

pub returns-then-refuses-clause-frame : goal.returns-then-refuses-clause-frame
returns-then-refuses-clause-frame g c =
    let asked = c.record_refused_where.ensures in
    let one = begun c.args.self.now c.record_refused_where.new.self c.refuses.new.self asked.others c.refuses.ensures.number asked.room in
    let fault = failed c.fault.new.self one (sym c.refuses.ensures.answer ∙ c.if-refuses.true) c.fault.ensures.counted in
    let later = later_where c.is_made-lives.result (record c.args.self.now { device = c.refuses.new.self }) c.record_refused_where.new.self c.in_ok-record_refused_where.ensures.images c.in_ok-record_refused_where.ensures.gone in
    kept_aside _ (follows_failed fault later) fault.aside

pub returns-then-refuses-clause-device : goal.returns-then-refuses-clause-device
returns-then-refuses-clause-device g c =
    let asked = c.record_refused_where.ensures in
    let one = begun c.args.self.now c.record_refused_where.new.self c.refuses.new.self asked.others c.refuses.ensures.number asked.room in
    let fault = failed c.fault.new.self one (sym c.refuses.ensures.answer ∙ c.if-refuses.true) c.fault.ensures.counted in
    numbered_failed _ _ _ fault c.fault.ensures.fault (writes_nothing _ fault.aside (λ isnt. ap (λ b. b.recorded.calls) (c.in_ok-record_refused_where.ensures.gone (rw c.is_made-lives.ensures isnt))))

pub returns-then-refuses-clause-faults : goal.returns-then-refuses-clause-faults
returns-then-refuses-clause-faults g c = faults_numbered _ _ _ _ (returns-then-refuses-clause-device g c)

pub returns-then-refuses-clause-images : goal.returns-then-refuses-clause-images
returns-then-refuses-clause-images g c =
    let wrote = c.in_ok-record_refused_where.ensures in
    record {
      there = made_there c.args.self.now.ram.files.map.entries c.args.writer.now.name c.args.writer.now.number;
      gives = λ lives. let one : RecordedRefused (disk_in c.args.self.now) (disk_in c.record_refused_where.new.self) c.args.writer.now.name Unsealed = rw (c.as_str.ensures.text, c.name.ensures, c.unsealed.ensures) at wrote.images (rw c.is_made-lives.ensures lives) in record { ok = tt; err = (c.fault.ensures.fault.0, one.sets); no_more = one.adds.no_more; time = one.adds.time };
      gone = λ isnt. kept_by _ _ _ _ _ (ap (λ b. ram_states b.ram) wrote.others) (ap (λ b. b.recorded.calls) (wrote.gone (rw c.is_made-lives.ensures isnt))) (λ n. refl);
    }

-- ---- the name was deleted

pub returns-then-not-lives-clause-images : goal.returns-then-not-lives-clause-images
returns-then-not-lives-clause-images g c =
    let isnt : ram_lives c.args.self.now.ram c.args.writer.now ≡ false = search rules in
    record { there = λ lives. absurd (true≢false (sym lives ∙ isnt)); gives = λ lives. absurd (true≢false (sym lives ∙ isnt)); gone = λ _. unchanged _ _ }

-- ---- memory was wanted

pub returns-in_err-name-clause-flushes : goal.returns-in_err-name-clause-flushes
returns-in_err-name-clause-flushes g c =
    let same = c.before-2.ensures in
    let one = begun c.args.self.now c.before-2.new.self c.refuses.new.self same.others c.refuses.ensures.number same.line in
    flushes_quietly (same_reads one.aside) _ c.args.writer.now (still_there c.args.self.now.ram c.before-2.new.self.ram (same_reads one.aside) c.args.writer.now) _ c.from_residual-in_err-name.ensures.1

pub returns-in_err-name-clause-frame : goal.returns-in_err-name-clause-frame
returns-in_err-name-clause-frame g c =
    let same = c.before-2.ensures in
    let one = begun c.args.self.now c.before-2.new.self c.refuses.new.self same.others c.refuses.ensures.number same.line in
    kept_aside _ (follows_below _ one same.calls) one.aside

pub returns-in_err-name-clause-images : goal.returns-in_err-name-clause-images
returns-in_err-name-clause-images g c =
    let same = kept_by _ _ _ _ _ (ap (λ b. ram_states b.ram) c.before-2.ensures.others) c.before-2.ensures.calls (λ n. refl) in
    record { there = made_there c.args.self.now.ram.files.map.entries c.args.writer.now.name c.args.writer.now.number; gives = λ _. gives_no_state _ _ _ same c.from_residual-in_err-name.ensures.1; gone = λ isnt. same }

pub returns-in_err-flush-clause-flushes : goal.returns-in_err-flush-clause-flushes
returns-in_err-flush-clause-flushes g c =
    let same = c.before-2.ensures in
    let one = begun c.args.self.now c.before-2.new.self c.refuses.new.self same.others c.refuses.ensures.number same.line in
    let below = c.in_err-flush.ensures in
    let alike : Same (ram_reads c.args.self.now.ram) (ram_reads c.flush.new.self) = λ n. quiet_below _ _ _ below.faults.cause (below.flushes.memory tt) n ∙ same_reads one.aside n in
    flushes_quietly alike _ c.args.writer.now (still_there c.args.self.now.ram c.flush.new.self alike c.args.writer.now) _ (memory_below _ _ below.faults.cause c.from_residual-in_err-flush.ensures.1)

pub returns-in_err-flush-clause-frame : goal.returns-in_err-flush-clause-frame
returns-in_err-flush-clause-frame g c =
    let same = c.before-2.ensures in
    let one = begun c.args.self.now c.before-2.new.self c.refuses.new.self same.others c.refuses.ensures.number same.line in
    kept_in _ (follows_below c.flush.new.self one same.calls) (rw (same_ram one.aside) at c.in_err-flush.ensures.frame)

pub returns-in_err-flush-clause-device : goal.returns-in_err-flush-clause-device
returns-in_err-flush-clause-device g c =
    let same = c.before-2.ensures in
    let one = begun c.args.self.now c.before-2.new.self c.refuses.new.self same.others c.refuses.ensures.number same.line in
    let lives : ram_lives c.args.self.now.ram c.args.writer.now ≡ true = search rules in
    let below = c.in_err-flush.ensures in
    numbered_quietly _ _ _ one.number (memory_below _ _ below.faults.cause c.from_residual-in_err-flush.ensures.1) (record {
      untold = untold_then one.aside c.flush.new.self c.before-2.new.self.recorded;
      writers = rw (same_ram one.aside) at below.others;
      gone = λ isnt. absurd (true≢false (sym lives ∙ isnt));
    })

pub returns-in_err-flush-clause-faults : goal.returns-in_err-flush-clause-faults
returns-in_err-flush-clause-faults g c = faults_numbered _ _ _ _ (returns-in_err-flush-clause-device g c)

pub returns-in_err-flush-clause-images : goal.returns-in_err-flush-clause-images
returns-in_err-flush-clause-images g c =
    let ram = ap (λ b. b.ram) c.before-2.ensures.others in
    let lives : ram_lives c.args.self.now.ram c.args.writer.now ≡ true = search rules in
    let below = c.in_err-flush.ensures in
    let same = kept_by _ _ _ _ _ (ap (λ b. ram_states b.ram) c.before-2.ensures.others) c.before-2.ensures.calls (below.states (rw ram lives)).err in
    record { there = made_there c.args.self.now.ram.files.map.entries c.args.writer.now.name c.args.writer.now.number; gives = λ _. gives_no_state _ _ _ same (memory_below _ _ below.faults.cause c.from_residual-in_err-flush.ensures.1); gone = λ isnt. same }

-- ---- done

pub returns-clause-frame : goal.returns-clause-frame
returns-clause-frame g c =
    let same = c.before-2.ensures in
    let one = begun c.args.self.now c.before-2.new.self c.refuses.new.self same.others c.refuses.ensures.number same.line in
    kept_in _ (follows_done c.flush.new.self c.add.new.self _ one same.calls c.add.ensures.calls (c.add.ensures.line c.in_ok-name.ensures.room)) (rw (same_ram one.aside) at c.in_ok-flush.ensures.frame)

pub returns-clause-device : goal.returns-clause-device
returns-clause-device g c =
    let same = c.before-2.ensures in
    let one = begun c.args.self.now c.before-2.new.self c.refuses.new.self same.others c.refuses.ensures.number same.line in
    let lives : ram_lives c.args.self.now.ram c.args.writer.now ≡ true = search rules in
    record {
      passed = record { isnt = sym c.refuses.ensures.answer ∙ c.if-refuses.false; after = one.number };
      cause = tt;
      kept = record {
        untold = untold_then one.aside c.flush.new.self c.add.new.self;
        writers = rw (same_ram one.aside) at c.in_ok-flush.ensures.others;
        gone = λ isnt. absurd (true≢false (sym lives ∙ isnt));
      };
    }

pub returns-clause-faults : goal.returns-clause-faults
returns-clause-faults g c = faults_numbered _ _ _ _ (returns-clause-device g c)

pub returns-clause-images : goal.returns-clause-images
returns-clause-images g c =
    let ram = ap (λ b. b.ram) c.before-2.ensures.others in
    let lives : ram_lives c.args.self.now.ram c.args.writer.now ≡ true = search rules in
    let (name, before) = c.in_ok-name.ensures.found in
    let text = c.as_str-2.ensures.text ∙ c.name-2.ensures in
    let one = replaced_by _ _ _ c.in_ok-name.before _ _ _ _ (ap (λ b. ram_states b.ram) c.before-2.ensures.others) (rw text at before) (c.in_ok-flush.ensures.states (rw ram lives)).ok (rw (c.before-2.ensures.calls, name, text) at c.add.ensures.calls) in
    record { there = made_there c.args.self.now.ram.files.map.entries c.args.writer.now.name c.args.writer.now.number; gives = λ _. record { ok = one.sets; err = tt; no_more = one.adds.no_more; time = one.adds.time }; gone = λ isnt. absurd (true≢false (sym lives ∙ isnt)) }
