use Rattle.std.proofs.Common.{◌∙◌, ◌++◌, List, ℕ, ap, codes, take, string_bytes}
use Rattle.std.specs.List.{flat_map}
use Rattle.tv_formats.specs.declared.segment.SegmentComponent.{SegmentComponent}
use Rattle.tv_formats.specs.declared.segment.SegmentComponent.TheVariants.{Postings}
use Rattle.tv_formats.specs.Segments.{extension}
use Rattle.tv_replay.specs.Generated.{file_text, generated_components}
use Rattle.tv_replay.proofs.GeneratedLines.{item_more}
use Rattle.tv_replay.proofs.generating.push_segment.Goals as goal

pub loop-component-preserved : goal.loop-component-preserved
loop-component-preserved c =
    let text : SegmentComponent → List ℕ = λ x. file_text (c.args.id.now ++ codes " " ++ extension x) c.args.byte.now in
    let before = string_bytes c.args.script.now ++ (codes "segment " ++ c.args.id.now ++ codes "\n" ++ flat_map text (take c.loop-component.component-index generated_components)) in
    let file = c.as_str-in-loop-component.ensures.value ∙ c.in_ok-file.ensures ∙ ap (λ (w : List ℕ). c.args.id.now ++ codes " " ++ w) c.extension.ensures in
    c.in_ok-push_str-2.ensures.bytes
    ∙ ap (λ (t : List ℕ). t ++ c.as_str-in-loop-component-2.result.now) c.loop-component.invariant
    ∙ ap (λ (t : List ℕ). before ++ t) (c.as_str-in-loop-component-2.ensures.value ∙ c.in_ok-file_text.ensures ∙ ap (λ (f : List ℕ). file_text f c.args.byte.now) file)
    ∙ item_more text (string_bytes c.args.script.now) (codes "segment " ++ c.args.id.now ++ codes "\n") generated_components c.loop-component.component-index Postings c.loop-component-test.true
