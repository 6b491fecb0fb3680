use Rattle.std.proofs.Common.{◌∙◌, ap}
use Rattle.tv_device.specs.ViewLaws.{kept_then}
use Rattle.tv_formats.proofs.DiskLaws.{touches_then}
use Rattle.tv_device.proofs.TouchedNames.{touches_opened, touches_written}
use Rattle.tv_device.proofs.persist.persist_file.Goals as goal
use Rattle.tv_device.specs.TouchLaws.{reads_touch}

pub returns-in_err-writer-clause-images : goal.returns-in_err-writer-clause-images
returns-in_err-writer-clause-images g c = λ tells. touches_opened (c.in_err-writer.ensures.images tells)

pub returns-in_err-write-clause-images : goal.returns-in_err-write-clause-images
returns-in_err-write-clause-images g c = λ tells. touches_then (touches_opened (c.in_ok-writer.ensures.images tells)) (reads_touch _ (c.in_err-write.ensures.images tells))

pub returns-in_err-terminate-clause-images : goal.returns-in_err-terminate-clause-images
returns-in_err-terminate-clause-images g c = λ tells. touches_then (touches_then (touches_opened (c.in_ok-writer.ensures.images tells)) (reads_touch _ (c.in_ok-write.ensures.images tells))) (touches_written (c.in_ok-write.ensures.appends.name ∙ ap (λ s. s.name) c.in_ok-writer.ensures.writer.state) (c.in_err-terminate.ensures.images tells))

pub returns-clause-images : goal.returns-clause-images
returns-clause-images g c = λ tells. touches_then (touches_then (touches_opened (c.in_ok-writer.ensures.images tells)) (reads_touch _ (c.in_ok-write.ensures.images tells))) (touches_written (c.in_ok-write.ensures.appends.name ∙ ap (λ s. s.name) c.in_ok-writer.ensures.writer.state) (c.in_ok-terminate.ensures.images tells))

pub returns-in_err-write-clause-frame : goal.returns-in_err-write-clause-frame
returns-in_err-write-clause-frame g c = kept_then c.in_ok-writer.ensures.frame c.in_err-write.ensures.frame

pub returns-in_err-terminate-clause-frame : goal.returns-in_err-terminate-clause-frame
returns-in_err-terminate-clause-frame g c =
    kept_then (kept_then c.in_ok-writer.ensures.frame c.in_ok-write.ensures.frame) c.in_err-terminate.ensures.frame

pub returns-clause-frame : goal.returns-clause-frame
returns-clause-frame g c =
    kept_then (kept_then c.in_ok-writer.ensures.frame c.in_ok-write.ensures.frame) c.in_ok-terminate.ensures.frame
