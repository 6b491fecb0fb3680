use Rattle.std.proofs.Common.{◌≡◌, ◌<◌, None, List, [], length, map, ap, subst, sym, ◌∙◌, arith}
use Rattle.std.proofs.lemmas.Result.{IfOk-weaker}
use Rattle.tv_metas.specs.TrackedMetas.{put_all}
use Rattle.tv_metas.specs.Tracked.{Share}
use Rattle.tv_registers.specs.Managers.{CountedBoth}
use Rattle.tv_registers.specs.Registers.{EntryState, Register, living_in, metas_in, put_each, tickets_in}
use Rattle.tv_registers.specs.Sharing.{shared}
use Rattle.tv_catalog.specs.Choosing.{with_documents}
use Rattle.tv_catalog.proofs.ChosenSegments.{Entry}
use Rattle.tv_catalog.proofs.Registered.{committed, each_put}
use Rattle.tv_catalog.proofs.Shareable.{can_share}
use Rattle.tv_catalog.proofs.registers.Registers.commit.Goals as goal

pub committed_metas-requires : goal.committed_metas-requires
committed_metas-requires c =
    let entries = c.self.inside.entries in
    let before : CountedBoth = (c.self.inside.manager, c.self.inside.inventory) in
    let few : length entries.items < 18446744073709551615 = omega (arith, entries.ok.0, entries.ok.1, entries.small) in
    subst (λ (b : CountedBoth). shared (tickets_in (living_in b.0.committed)) b.1 ≡ None → ⊥) (sym c.in_ok-commit.ensures.ok)
    (can_share entries.items before c.self.invariant few)

pub returns-clause-segments : goal.returns-clause-segments
returns-clause-segments c =
    let entries : List EntryState = c.self.inside.entries.items in
    let register : c.commit.new.self.committed ≡ put_each entries [] =
    ap (λ (b : CountedBoth). b.0.committed) c.in_ok-commit.ensures.ok ∙ each_put entries ([], c.self.inside.inventory) in
    let metas : c.as_slice.result.now ≡ metas_in (living_in (put_each entries [])) =
    c.as_slice.ensures.value ∙ c.in_ok-metas.ensures ∙ ap (λ (r : Register). metas_in (living_in r)) register in
    IfOk-weaker c.by_id.result _ _
    (λ segments is.
    is ∙ ap (λ (ms : List Share). put_all [] (map (λ m. m.1) ms)) metas
    ∙ committed entries ∙ ap (λ (es : List Entry). with_documents (put_all [] es)) c.self.view_is)
    c.by_id.ensures.segments
