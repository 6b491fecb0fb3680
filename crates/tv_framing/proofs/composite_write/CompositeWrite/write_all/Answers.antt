use Rattle.std.proofs.Common.{◌∙◌, ap, sym, length, arith}
use Rattle.tv_framing.specs.Composite.{bodies, grown}
use Rattle.tv_framing.proofs.Parts.{begun_more, before_same, parts_more, written_is}
use Rattle.tv_framing.proofs.composite_write.CompositeWrite.write_all.Goals as goal

pub overflow_add-self : goal.overflow_add-self
overflow_add-self g c =
    omega (arith, written_is c.self.inside.starts.items c.self.inside.written (g.W.TerminatingWrite.view c.self.inside.writer).taken c.self.invariant, ap (λ v. length (bodies v.parts)) c.self.view_is, c.requires.room)

pub invariant_of-self : goal.invariant_of-self
invariant_of-self g c =
    begun_more c.self.inside.starts.items c.self.inside.written (g.W.TerminatingWrite.view c.self.inside.writer).taken c.args.bytes.now (g.W.TerminatingWrite.view c.write_all.new.self).taken c.self.invariant
    (λ none. c.requires.begun (sym (ap (λ v. v.parts) c.self.view_is) ∙ none)) c.in-Ok.ensures.takes.ok

pub returns-in-Ok-clause-grows : goal.returns-in-Ok-clause-grows
returns-in-Ok-clause-grows g c =
    let taken = (g.W.TerminatingWrite.view c.self.inside.writer).taken in
    let now = (g.W.TerminatingWrite.view c.write_all.new.self).taken in record {
      ok = (
        parts_more c.self.inside.starts.items c.self.inside.written taken c.args.bytes.now now c.self.invariant c.in-Ok.ensures.takes.ok ∙ ap (λ v. grown v.parts c.args.bytes.now) c.self.view_is,
        before_same c.self.inside.written taken c.args.bytes.now now c.self.invariant.within c.in-Ok.ensures.takes.ok ∙ ap (λ v. v.before) c.self.view_is,
      );
      memory = tt;
    }
