use Rattle.std.proofs.Common.{◌≡◌, ◌<◌, List, [], ℕ, None, Some, length, refl, sym, ap, ◌∙◌, arith}
use Rattle.std.proofs.lemmas.List.{take_all}
use Rattle.std.specs.Prelude.{is_none}
use Rattle.tv_formats.specs.Names.{at}
use Rattle.tv_metas.specs.TrackedMetas.{put_all}
use Rattle.tv_catalog.specs.Choosing.{is_within, with_documents}
use Rattle.tv_catalog.proofs.ChosenSegments.{Entry, chosen_further, living_named, named_passing, none_chosen, put_passing}
use Rattle.tv_catalog.proofs.CommitEvents.{find_further, find_here}
use Rattle.tv_catalog.proofs.Registered.{added}
use Rattle.tv_catalog.proofs.chosen.choose.Goals as goal

pub loop-id-init : goal.loop-id-init
loop-id-init c = record {
  chosen = ap (put_all []) c.in_ok-registers.ensures.empty ∙ sym (none_chosen is_within c.args.live.now.entries);
  known = refl;
}

pub loop-id-preserved : goal.loop-id-preserved
loop-id-preserved c =
    let live = c.args.live.now.entries in
    let id = c.id-item.result in
    let segment = c.in-Some.segment in
    let within : c.loop-id.id-index < length c.args.ids.now = omega arith in
    let found : at live id ≡ Some segment = sym (c.copied.ensures ∙ c.get.ensures.value) ∙ c.in-Some.is in
    record {
      chosen =
          ap (put_all []) c.in_ok-add.ensures.added
          ∙ added c.loop-id.registers id segment
          ∙ ap (λ (segments : List Entry). put_passing is_within segments id segment) c.loop-id.invariant.chosen
          ∙ chosen_further is_within live c.args.ids.now c.loop-id.id-index id segment c.len-count.ensures.ordered within c.id-item.is found;
      known = find_further (λ (k : List ℕ). is_none (at live k)) c.args.ids.now c.loop-id.id-index id within c.id-item.is c.loop-id.invariant.known (ap is_none found);
    }

pub returns-in_default-clause-unknown : goal.returns-in_default-clause-unknown
returns-in_default-clause-unknown c =
    let live = c.args.live.now.entries in
    let id = c.id-item.result in
    let within : c.loop-id.id-index < length c.args.ids.now = omega arith in
    let none : at live id ≡ None = sym (c.copied.ensures ∙ c.get.ensures.value) ∙ c.in_default.is in
    find_here (λ (k : List ℕ). is_none (at live k)) c.args.ids.now c.loop-id.id-index id within c.id-item.is c.loop-id.invariant.known (ap is_none none)

pub returns-clause-segments : goal.returns-clause-segments
returns-clause-segments c =
    let ids = c.args.ids.now in
    let live = c.args.live.now.entries in
    c.in_ok-segments.ensures.segments
    ∙ ap with_documents
    (c.loop-id.invariant.chosen ∙ ap (λ (names : List (List ℕ)). named_passing is_within names live) (take_all c.loop-id.id-index ids (omega arith)))
    ∙ living_named ids live
