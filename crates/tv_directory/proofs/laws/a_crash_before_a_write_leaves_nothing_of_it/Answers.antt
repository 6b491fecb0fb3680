use Rattle.std.proofs.Common.{◌≡◌, ℕ, arith, subst}
use Rattle.std.proofs.lemmas.Result.{IfOk-weaker}
use Rattle.tv_formats.specs.Disk.{Disk, Elapses, MayLeave}
use Rattle.tv_formats.specs.Files.{Reads}
use Rattle.tv_directory.proofs.laws.a_crash_before_a_write_leaves_nothing_of_it.Goals as goal

-- what a crash before a call may leave stays as it was
left_before : {old new : Disk} (x : ℕ) → Elapses old new → x ≡ old.moment
    → (image : Reads) → MayLeave new x image → MayLeave old old.moment image
left_before {old} {new} x time now image left =
    let past = time.past old.moment (omega arith) in
    record {
      each = λ n. let (state, possible, reads) = left.each n in
          (state, past.no_more.each n state (subst (λ (y : ℕ). new.possible y n state) now possible), reads);
    }

pub crash-requires : goal.crash-requires
crash-requires g c = omega (arith, c.moment-moment.ensures, c.atomic_write-answer.ensures.images.time.later)

pub returns : goal.returns
returns g c =
    IfOk-weaker _ _ _ (λ left. left_before _ c.atomic_write-answer.ensures.images.time c.moment-moment.ensures _)
    c.crash.ensures.image
