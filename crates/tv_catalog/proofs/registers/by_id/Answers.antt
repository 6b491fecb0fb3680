use Rattle.std.proofs.Common.{◌≡◌, ◌+◌, ◌<◌, ℕ, List, ap, arith, drop, length, map, subst, sym, ◌∙◌}
use Rattle.std.specs.BTreeMap.{insert_entry}
use Rattle.std.specs.List.{AllByRecursion}
use Rattle.tv_formats.specs.Commits.{IsSegment}
use Rattle.tv_formats.specs.Names.{byte_cmp}
use Rattle.tv_formats.specs.declared.segment.LiveSegment.{LiveSegment}
use Rattle.tv_metas.specs.TrackedMetas.{put_all}
use Rattle.tv_catalog.proofs.ChosenSegments.{Entry}
use Rattle.tv_catalog.proofs.SharedLaws.{drop_here, put_segments}
use Rattle.tv_catalog.proofs.registers.by_id.Goals as goal

pub loop-meta-preserved : goal.loop-meta-preserved
loop-meta-preserved c =
    let metas = c.args.metas.now in
    let i = c.loop-meta.meta-index in
    let meta = c.meta-item.result in
    let before = c.loop-meta.segments.entries in
    let within : i < length metas = omega arith in
    let inserted : c.insert.new.self.entries ≡ insert_entry byte_cmp before meta.1.0 meta.1.1 =
    c.in_ok-insert.ensures.entries ∙ ap (λ (id : List ℕ). insert_entry byte_cmp before id c.live_of.result) c.id.ensures
    ∙ ap (λ (segment : LiveSegment). insert_entry byte_cmp before meta.1.0 segment) c.live_of.ensures in
    record {
      put =
          c.loop-meta.invariant.put
          ∙ ap (λ l. put_all before (map (λ m. m.1) l)) (drop_here metas i meta within c.meta-item.is)
          ∙ ap (λ (es : List Entry). put_all es (map (λ m. m.1) (drop (i + 1) metas))) (sym inserted);
      sound = subst (AllByRecursion IsSegment) (sym inserted) (put_segments before meta.1.0 meta.1.1 c.is_segment.ensures c.loop-meta.invariant.sound);
    }
