use Rattle.std.proofs.lemmas.Result.{IfErr-weaker}
use Rattle.tv_managed.specs.CreateLaws.{creates_none, taken_isnt_free}
use Rattle.tv_managed.proofs.Spared.{spares_taken}
use Rattle.tv_managed.proofs.laws.open_write_spares_a_taken_name.Goals as goal

pub returns-clause-frame : goal.returns-clause-frame
returns-clause-frame g c tells = spares_taken g.D.Directory c.open_write.result tells c.open_write.ensures.creates c.open_write.ensures.faults c.open_write.ensures.frame

pub returns-clause-images : goal.returns-clause-images
returns-clause-images g c tells =
    let old = c.args.directory.now in
    let name = c.args.name.now in
    IfErr-weaker c.open_write.result _ _ (λ error held taken x image from upto left.
    let within = (creates_none old.1 name c.open_write.result (held taken) (c.open_write.ensures.safe tells).states).0.each x from upto in
    record { each = λ n. let it = left.each n in (it.0, within.each n it.0 it.1, it.2) })
    (taken_isnt_free g.D.Directory name c.open_write.result (g.met.D.Directory.tells_more tells) (g.met.D.Directory.stands old.0 tells) c.open_write.ensures.faults)
