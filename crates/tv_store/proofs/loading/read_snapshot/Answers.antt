use Rattle.std.proofs.Common.{◌≡◌, ◌∙◌, ap, subst, true, rules}
use Rattle.std.proofs.lemmas.Result.{IfErr-weaker, IfOk-weaker}
use Rattle.tv_formats.specs.Commits.{Commit}
use Rattle.tv_formats.specs.Names.{has}
use Rattle.tv_formats.specs.Segments.{all_required}
use Rattle.tv_formats.proofs.Results.{handed_on}
use Rattle.tv_machine.specs.Readable.{AreGoodFiles}
use Rattle.tv_machine.specs.ReaderEvents.{bodies_in}
use Rattle.tv_store.specs.Applying.{UnloadedFor}
use Rattle.tv_store.specs.Bodies.{AreSealed}
use Rattle.tv_store.specs.Performing.{loading_facts}
use Rattle.tv_store.specs.ReadCauses.{LoadingCause}
use Rattle.tv_store.proofs.LoadedFiles.{commit_fails, held_later, load_fails}
use Rattle.tv_managed.specs.TrackLaws.{keeps_then}
use Rattle.tv_store.proofs.loading.read_snapshot.Goals as goal

pub returns-in_err-commit-clause-faults : goal.returns-in_err-commit-clause-faults
returns-in_err-commit-clause-faults g c =
    let D = g.O.Directory in
    let old = c.args.files.now in
    let new = c.read_commit.new.files in
    record {
      quiet = search rules;
      cause =
          handed_on c.from_residual.result c.in_err-commit.field-0.0 (LoadingCause (loading_facts D old new) (UnloadedFor D old.form.schema old.outside new.outside)) c.from_residual.ensures.1
          (load_fails D old new c.in_err-commit.field-0.0 c.in_err-commit.ensures.faults.cause);
    }

pub returns-clause-faults : goal.returns-clause-faults
returns-clause-faults g c =
    let D = g.O.Directory in
    let old = c.args.files.now in
    let mid = c.read_commit.new.files in
    let new = c.read_files.new.files in
    let read = c.in_ok-commit.ensures in
    record {
      quiet = search rules;
      cause = IfErr-weaker c.read_files.result _ _ (λ error why.
          commit_fails D old mid new c.in_ok-commit.commit.segments error read.frame read.faults.quiet (λ t s held. ap (λ (k : Commit). k.segments) (read.commit t s held)) why) c.read_files.ensures.faults.cause;
    }

pub returns-clause-shown : goal.returns-clause-shown
returns-clause-shown g c tells s held whole =
    let D = g.O.Directory in
    let old = c.args.files.now in
    let mid = c.read_commit.new.files in
    let read = c.in_ok-commit.ensures in
    let commit : c.in_ok-commit.commit ≡ s.catalog.commit = read.commit tells s held in
    let sealed : AreSealed s (all_required c.in_ok-commit.commit.segments) = record { each = λ n among. whole.each.0 n (subst (λ (k : Commit). has (all_required k.segments) n ≡ true) commit among) } in
    IfOk-weaker c.read_files.result _ _ (λ shown k. (
      k.0 ∙ ap (λ (x : Commit). record { generation = c.args.generation; commit = x; bodies = bodies_in s x }) commit,
      subst (λ (x : Commit). AreGoodFiles s (all_required x.segments)) commit k.1,
    )) (c.read_files.ensures.shown tells s (held_later D old mid s tells read.frame held) sealed)

pub returns-clause-images : goal.returns-clause-images
returns-clause-images g c t = keeps_then (c.read_commit.ensures.images t) (c.read_files.ensures.images t)
