use Rattle.std.proofs.lemmas.Result.{IfOk-weaker}
use Rattle.tv_formats.specs.Collections.{held}
use Rattle.tv_formats.proofs.CollectedNames.{has_front}
use Rattle.tv_managed.specs.Collecting.{names_of}
use Rattle.tv_managed.proofs.Spared.{held_needed, took_none}
use Rattle.tv_managed.proofs.laws.collect_begin_spares_what_is_needed.Goals as goal

pub returns-clause-living : goal.returns-clause-living
returns-clause-living g c =
    let living = names_of c.args.living.now.keys in
    IfOk-weaker c.collect_begin.result _ _ (λ number begins. took_none living living c.args.directory.now.1 c.collect_begin.new.self.1 number (has_front living (held c.args.directory.now.1.collections)) begins) c.collect_begin.ensures.begins

pub returns-clause-held : goal.returns-clause-held
returns-clause-held g c =
    let living = names_of c.args.living.now.keys in
    let others = held c.args.directory.now.1.collections in
    IfOk-weaker c.collect_begin.result _ _ (λ number begins. took_none others living c.args.directory.now.1 c.collect_begin.new.self.1 number (held_needed living others) begins) c.collect_begin.ensures.begins
