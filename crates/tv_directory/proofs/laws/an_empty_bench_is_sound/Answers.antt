use Rattle.std.proofs.Common.{ap}
use Rattle.std.proofs.lemmas.Result.{IfOk-weaker}
use Rattle.tv_formats.proofs.FirstSound.{empty_sound}
use Rattle.tv_device.specs.StoredFiles.{last_of, named}
use Rattle.tv_directory.proofs.laws.an_empty_bench_is_sound.Goals as goal

pub returns : goal.returns
returns g c =
    IfOk-weaker c.new.result _ _ (λ bench sound schema. sound schema (empty_sound schema _ (λ n. ap (λ files. last_of (named files) n) c.new-files.ensures.items))) c.new.ensures.sound
