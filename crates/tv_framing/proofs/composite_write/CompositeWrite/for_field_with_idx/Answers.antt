use Rattle.std.proofs.Common.{◌∙◌, ap, arith}
use Rattle.tv_framing.specs.Composite.{has_address}
use Rattle.tv_framing.proofs.Parts.{begun_push, begun_view, parts_begun}
use Rattle.tv_framing.proofs.composite_write.CompositeWrite.for_field_with_idx.Goals as goal

pub invariant_of-self-2 : goal.invariant_of-self-2
invariant_of-self-2 g c =
    begun_push c.self.inside.starts.items c.push.new.self.items c.self.inside.written (g.W.TerminatingWrite.view c.self.inside.writer).taken _ (omega arith, omega arith) c.self.invariant
    (ap (λ v. has_address (record { field = c.args.field; idx = c.args.idx }) v.parts) c.self.view_is ∙ c.requires.unused) c.in_ok-push.ensures.items

pub returns-clause-ok : goal.returns-clause-ok
returns-clause-ok g c =
    begun_view _ _ _ _ _ _ c.self.view_is (parts_begun c.self.inside.starts.items c.push.new.self.items c.self.inside.written (g.W.TerminatingWrite.view c.self.inside.writer).taken (record { field = c.args.field; idx = c.args.idx }) c.self.invariant c.in_ok-push.ensures.items)
