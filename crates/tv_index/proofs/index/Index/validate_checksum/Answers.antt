use Rattle.std.proofs.Common.{◌∙◌, ℕ, List, filter, map, string_bytes, ap, subst}
use Rattle.std.specs.List.{flat_map}
use Rattle.std.proofs.lemmas.Result.{IfOk-weaker}
use Rattle.tv_base.specs.declared.error.TantivyError.TheVariants as errors
use Rattle.tv_device.specs.Images.{KeepsDisk}
use Rattle.tv_device.specs.View.{OnlyReads}
use Rattle.tv_device.specs.ViewLaws.{reads_then}
use Rattle.tv_managed.specs.Names.{ManagedNames}
use Rattle.tv_managed.specs.TrackLaws.{keeps_then}
use Rattle.tv_formats.specs.Segments.{segment_names}
use Rattle.tv_formats.specs.Names.{has, meta_name}
use Rattle.tv_formats.proofs.Results.{no_answer}
use Rattle.tv_index.specs.Checksums.{AreDamaged, ValidateFaults, looked_at}
use Rattle.tv_index.specs.Indexes.{IndexState, KeepsIndex, MeansSuch}
use Rattle.tv_metas.specs.Segments.{entry_of}
use Rattle.tv_metas.specs.declared.segment_meta.InnerSegmentMeta.{InnerSegmentMeta}
use Rattle.tv_index.proofs.Damages.{damaged_files, validate_fails, validate_faults}
use Rattle.tv_index.proofs.Indexes.{keeps_index}
use Rattle.tv_index.proofs.index.Index.validate_checksum.Goals as goal

pub returns-in_err-meta : goal.returns-in_err-meta
returns-in_err-meta g c =
    let D = g.D.Directory in
    let failed = c.in_err-meta.ensures in
    let now = c.load_meta.new.directory in
    record {
      damaged = λ t. no_answer c.from_residual.result _ c.from_residual.ensures.0;
      faults = subst (λ (index : IndexState g.row.D.Denot). ValidateFaults D index.directory now.0 index.schema c.from_residual.result) c.self.view_is
          (validate_fails D c.self.inside.directory now.0 c.self.inside.schema c.from_residual.result c.in_err-meta.field-0.0 c.from_residual.ensures.1 failed.faults.cause);
      frame = subst (λ (index : IndexState g.row.D.Denot). KeepsIndex (OnlyReads D.told) D.view index (record { directory = now; settings = c.self.inside.settings; schema = c.self.inside.schema; kept = c.self.inside.inventory; executor = c.self.inside.executor })) c.self.view_is (keeps_index c.self.inside.settings c.self.inside.schema c.self.inside.inventory c.self.inside.executor failed.frame);
      images = λ t. subst (λ (index : IndexState g.row.D.Denot). KeepsDisk (D.disk index.directory.0) (D.disk now.0)) c.self.view_is (failed.images t);
    }

pub returns-in_err-names : goal.returns-in_err-names
returns-in_err-names g c =
    let D = g.D.Directory in
    let loaded = c.in_ok-meta.ensures in
    let now = c.load_meta.new.directory in
    let answer = c.from_residual-in_err-names in
    record {
      damaged = λ t. no_answer answer.result _ answer.ensures.0;
      faults = subst (λ (index : IndexState g.row.D.Denot). ValidateFaults D index.directory now.0 index.schema answer.result) c.self.view_is
          (validate_fails D c.self.inside.directory now.0 c.self.inside.schema answer.result errors.Memory answer.ensures.1 loaded.faults.quiet);
      frame = subst (λ (index : IndexState g.row.D.Denot). KeepsIndex (OnlyReads D.told) D.view index (record { directory = now; settings = c.self.inside.settings; schema = c.self.inside.schema; kept = c.self.inside.inventory; executor = c.self.inside.executor })) c.self.view_is (keeps_index c.self.inside.settings c.self.inside.schema c.self.inside.inventory c.self.inside.executor loaded.frame);
      images = λ t. subst (λ (index : IndexState g.row.D.Denot). KeepsDisk (D.disk index.directory.0) (D.disk now.0)) c.self.view_is (loaded.images t);
    }

pub returns-clause-frame : goal.returns-clause-frame
returns-clause-frame g c =
    let D = g.D.Directory in
    let first = c.in_ok-meta.ensures.frame in
    let later = c.damaged_among.ensures.frame in
    subst (λ (index : IndexState g.row.D.Denot). KeepsIndex (OnlyReads D.told) D.view index (record { directory = c.damaged_among.new.directory; settings = c.self.inside.settings; schema = c.self.inside.schema; kept = c.self.inside.inventory; executor = c.self.inside.executor })) c.self.view_is
    (keeps_index c.self.inside.settings c.self.inside.schema c.self.inside.inventory c.self.inside.executor (record { names = later.names ∙ first.names; below = reads_then first.below later.below }))

pub returns-clause-images : goal.returns-clause-images
returns-clause-images g c t =
    let D = g.D.Directory in
    subst (λ (index : IndexState g.row.D.Denot). KeepsDisk (D.disk index.directory.0) (D.disk c.damaged_among.new.directory.0)) c.self.view_is
    (keeps_then (c.in_ok-meta.ensures.images t) (c.damaged_among.ensures.images t))

pub returns-clause-damaged : goal.returns-clause-damaged
returns-clause-damaged g c tells =
    let D = g.D.Directory in
    let loaded = c.in_ok-meta.ensures in
    let managed = c.list_managed_files-managed in
    IfOk-weaker c.damaged_among.result _ _ (λ damaged h.
    subst (λ (index : IndexState g.row.D.Denot). MeansSuch index.schema ((D.view index.directory.0).reads meta_name)
    (λ commit. AreDamaged (D.view index.directory.0).reads (looked_at commit index.directory.1.managed) (map string_bytes damaged.keys))) c.self.view_is
    (damaged_files D c.self.inside.directory c.self.inside.schema c.in_ok-meta.meta c.as_slice-2.result.now loaded.meta
    (c.as_slice-2.ensures.value ∙ c.in_ok-names.ensures
    ∙ ap (λ (segments : List InnerSegmentMeta). filter (λ name. has (flat_map segment_names (map entry_of segments)) name) (map string_bytes managed.result.now.keys)) c.as_slice.ensures.value
    ∙ ap (λ (names : List (List ℕ)). filter (λ name. has (flat_map segment_names (map entry_of c.in_ok-meta.meta.segments.items)) name) names) (managed.ensures.names ∙ ap (λ (names : ManagedNames). names.managed) loaded.frame.names))
    c.load_meta.new.directory.0 c.damaged_among.new.directory.0 loaded.frame.below loaded.faults.quiet (map string_bytes damaged.keys) tells h)) (c.damaged_among.ensures.damaged tells)

pub returns-clause-faults : goal.returns-clause-faults
returns-clause-faults g c =
    let D = g.D.Directory in
    let loaded = c.in_ok-meta.ensures in
    let managed = c.list_managed_files-managed in
    subst (λ (index : IndexState g.row.D.Denot). ValidateFaults D index.directory c.damaged_among.new.directory.0 index.schema c.damaged_among.result) c.self.view_is
    (validate_faults D c.self.inside.directory c.self.inside.schema c.in_ok-meta.meta c.as_slice-2.result.now loaded.meta
    (c.as_slice-2.ensures.value ∙ c.in_ok-names.ensures
    ∙ ap (λ (segments : List InnerSegmentMeta). filter (λ name. has (flat_map segment_names (map entry_of segments)) name) (map string_bytes managed.result.now.keys)) c.as_slice.ensures.value
    ∙ ap (λ (names : List (List ℕ)). filter (λ name. has (flat_map segment_names (map entry_of c.in_ok-meta.meta.segments.items)) name) names) (managed.ensures.names ∙ ap (λ (names : ManagedNames). names.managed) loaded.frame.names))
    c.load_meta.new.directory.0 c.damaged_among.new.directory.0 loaded.frame.below loaded.faults.quiet c.damaged_among.result c.damaged_among.ensures.faults)
