use Rattle.std.proofs.Common.{◌∙◌, List, ap, map, option_map, string_bytes, subst, sym}
use Rattle.tv_metas.specs.Segments.{entry_of}
use Rattle.tv_metas.specs.declared.segment_meta.InnerSegmentMeta.{InnerSegmentMeta}
use Rattle.tv_store.specs.Kept.{kept_of}
use Rattle.tv_snapshots.specs.SegmentOrder.{IsSorted}
use Rattle.tv_store.proofs.LoadedCommits.{loaded_commit}
use Rattle.tv_store.proofs.loading.read_commit.Goals as goal

pub from_meta-requires : goal.from_meta-requires
from_meta-requires g c = subst (λ (xs : List InnerSegmentMeta). IsSorted (map entry_of xs)) (sym c.as_slice-segments.ensures.value) c.in_ok-meta.ensures.meta.has.is_commit.ordered

pub returns-clause-commit : goal.returns-clause-commit
returns-clause-commit g c tells s held =
    let old = c.args.files.now in
    let meta = c.in_ok-meta.meta in
    c.in_ok-commit.ensures
    ∙ ap (λ (xs : List InnerSegmentMeta). record { opstamp = meta.opstamp; payload = option_map string_bytes meta.payload; segments = map entry_of xs }) c.as_slice-segments.ensures.value
    ∙ loaded_commit g.O.Directory old.outside (kept_of s.catalog old) s meta tells c.in_ok-meta.ensures.meta held
