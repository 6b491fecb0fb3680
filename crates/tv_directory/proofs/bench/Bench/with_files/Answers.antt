use Rattle.std.proofs.Common.{◌∙◌, ap, length, rules}
use Rattle.tv_directory.specs.Record.{since_sync}
use Rattle.tv_device.specs.StoredFiles.{at_rest}
use Rattle.tv_directory.proofs.Recorded.{settled}
use Rattle.tv_directory.proofs.bench.Bench.with_files.Goals as goal

pub returns-clause-new : goal.returns-clause-new
returns-clause-new g c image same last =
    let ram = c.with_files.ensures.new _ image same last in
    record {
      reads = ram.reads;
      unopened = ram.unopened;
      free = ram.free;
      watched = ram.watched;
      moment = ap length c.new-2.ensures;
      heard = c.new.ensures;
      faults = ap (λ d. d.faults) c.new-3.ensures;
      refusals = ap (λ d. d.refusals) c.new-3.ensures;
    }

pub returns-clause-device : goal.returns-clause-device
returns-clause-device g c = c.new-3.ensures

pub returns-clause-rests : goal.returns-clause-rests
returns-clause-rests g c image same sealed = record {
  states = λ n. ap (λ states. states n) c.with_files.ensures.states ∙ sealed n ∙ ap at_rest (same n);
  settled = settled c.new-2.result.calls _ (ap since_sync c.new-2.ensures);
}
