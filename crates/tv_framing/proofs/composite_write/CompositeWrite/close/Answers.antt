use Rattle.std.proofs.Common.{◌∙◌, ap, length, refl, subst, ◌<◌, ◌^◌, ◌++◌}
use Rattle.tv_framing.specs.Closing.{CloseFaults, whole_file}
use Rattle.tv_framing.specs.Composite.{IsComposite, composite}
use Rattle.tv_framing.specs.Sealing.{SealsAll}
use Rattle.tv_framing.specs.Starts.{footing_text, list_text}
use Rattle.tv_framing.proofs.Parts.{closed, closed_form, faults_so, footing_last, on_ok}
use Rattle.tv_framing.proofs.composite_write.CompositeWrite.close.Goals as goal

pub returns-clause-form : goal.returns-clause-form
returns-clause-form g c =
    on_ok c.finish-answer.result c.finish-answer.ensures.short
    (λ short. subst (λ v. IsComposite (composite v.parts) v.parts) c.self.view_is
    (closed_form c.self.inside.starts.items c.self.inside.written (g.W.TerminatingWrite.view c.self.inside.writer).taken c.self.invariant (subst (λ l. length (footing_text l) < 2 ^ 32) c.as_slice.ensures.value short)))

pub returns-clause-sealed : goal.returns-clause-sealed
returns-clause-sealed g c =
    let taken = (g.W.TerminatingWrite.view c.self.inside.writer).taken in
    subst (λ v. SealsAll g.W.TerminatingWrite v.writer c.finish-answer.new.writer (whole_file v) c.finish-answer.result) c.self.view_is
    (subst (λ bytes. SealsAll g.W.TerminatingWrite c.self.inside.writer c.finish-answer.new.writer bytes c.finish-answer.result)
    (ap (λ l. taken ++ list_text l) c.as_slice.ensures.value ∙ closed c.self.inside.starts.items c.self.inside.written taken (taken ++ list_text c.self.inside.starts.items) c.self.invariant refl)
    c.finish-answer.ensures.sealed)

pub returns-clause-faults : goal.returns-clause-faults
returns-clause-faults g c =
    let taken = (g.W.TerminatingWrite.view c.self.inside.writer).taken in
    subst (λ v. CloseFaults g.W.TerminatingWrite v c.finish-answer.new.writer c.finish-answer.result) c.self.view_is
    (faults_so g.W.TerminatingWrite c.self.inside.writer c.finish-answer.new.writer _ _ _ _ c.finish-answer.result
    (ap (λ l. length (footing_text l)) c.as_slice.ensures.value ∙ ap length (footing_last c.self.inside.starts.items c.self.inside.written taken c.self.invariant))
    (ap (λ l. taken ++ list_text l) c.as_slice.ensures.value ∙ closed c.self.inside.starts.items c.self.inside.written taken (taken ++ list_text c.self.inside.starts.items) c.self.invariant refl)
    c.finish-answer.ensures.faults)
