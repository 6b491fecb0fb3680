-- What a crash leaves of sealed and settled files.
use Rattle.std.proofs.Common.{◌≡◌, ◌∙◌, ℕ, Bool, false, List, Option, None, Some, sym, subst}
use Rattle.std.proofs.Math.Path.{fun_ext}
use Rattle.tv_formats.specs.Disk.{Disk, DiskState, MayLeave, MayRead}
use Rattle.tv_formats.specs.Files.{Reads}
use Rattle.tv_formats.specs.Sound.{IsSoundDirectory, IsSoundImage}
use Rattle.tv_directory.specs.Bench.{IsAtRest}
use Rattle.tv_device.specs.StoredFiles.{at_rest}

reads_at_rest : (file read : Option (List ℕ)) → MayRead (at_rest file) read → read ≡ file
reads_at_rest None read is = is
reads_at_rest (Some bytes) read is = is

-- a crash leaves just these files
pub leaves_them : (files : Reads) (disk : Disk) → IsAtRest files disk → (image : Reads) → MayLeave disk disk.moment image → (n : List ℕ) → image n ≡ files n
leaves_them files disk rests image left n =
    let (s, possible, reads) = left.each n in
    reads_at_rest (files n) (image n) (subst (λ (t : DiskState). MayRead t (image n)) (rests.settled.each n s possible ∙ rests.states n) reads)

-- sound files are a sound start
pub rests_soundly : (files : Reads) (disk : Disk) (held : List ℕ → Bool) → IsAtRest files disk → ((lock : List ℕ) → held lock ≡ false) → (schema : List ℕ) → IsSoundImage schema files → IsSoundDirectory schema disk held
rests_soundly files disk held rests free schema sound = record {
  images = λ image left. subst (λ (reads : Reads). IsSoundImage schema reads) (sym (fun_ext (leaves_them files disk rests image left))) sound;
  free = free;
}
