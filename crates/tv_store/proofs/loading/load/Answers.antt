use Rattle.std.proofs.Common.{◌≡◌, false, rules}
use Rattle.std.proofs.lemmas.Result.{IfErr-weaker}
use Rattle.tv_managed.specs.Collecting.{meta_lock_name}
use Rattle.tv_store.specs.ReadCauses.{IsReadError}
use Rattle.tv_store.proofs.LoadedFiles.{read_later}
use Rattle.tv_managed.specs.TrackLaws.{keeps_then}
use Rattle.tv_store.proofs.loading.load.Goals as goal

pub returns-clause-faults : goal.returns-clause-faults
returns-clause-faults g c =
    let D = g.O.Directory in
    let old = c.args.files.now in
    let mid = c.acquire_lock.new.self in
    let took = c.in_ok-lock.ensures in
    let was_free : D.told.locks → (D.view old.outside).locks meta_lock_name ≡ false = search rules in
    record {
      quiet = search rules;
      free = search rules;
      reads = λ told. IfErr-weaker c.read_snapshot-shown.result _ (λ error. IsReadError error → (D.view old.outside).locks meta_lock_name ≡ false) (λ error why r. was_free told) c.read_snapshot-shown.ensures.faults.cause;
      cause =
          IfErr-weaker c.read_snapshot-shown.result _ _
          (λ error why. read_later D old mid c.read_snapshot-shown.new.files c.release.new.self _ error took.frame took.frame.managed.below.content took.faults.quiet c.release.ensures.frees.managed.below.faults why)
          c.read_snapshot-shown.ensures.faults.cause;
    }

pub returns-clause-images : goal.returns-clause-images
returns-clause-images g c t = keeps_then (c.acquire_lock.ensures.images t) (keeps_then (c.read_snapshot-shown.ensures.images t) (c.release.ensures.images t))
