use Rattle.std.proofs.Common.{◌≡◌, [], drop, map}
use Rattle.std.specs.List.{AllByRecursion}
use Rattle.tv_formats.specs.Commits.{IsSegment}
use Rattle.tv_metas.specs.TrackedMetas.{put_all}
use Rattle.tv_catalog.proofs.registers.by_id.Given as goal

abbrev pub invariant-loop-meta : goal.invariant-loop-meta
invariant-loop-meta l = record {
  put : put_all [] (map (λ m. m.1) l.metas) ≡ put_all l.segments.entries (map (λ m. m.1) (drop l.meta-index l.metas));
  sound : AllByRecursion IsSegment l.segments.entries;
}
