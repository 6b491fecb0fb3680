use Rattle.std.proofs.Common.{◌≡◌, ◌∙◌, ℕ, List, Some, subst}
use Rattle.tv_formats.specs.Disk.{Disk, DiskState, IsSettled, MayLeave, MayRead, Sealed}
use Rattle.tv_formats.specs.Files.{Reads}
use Rattle.tv_device.proofs.laws.a_synced_write_outlives_a_crash.Goals as goal

-- each image gives a settled name what it holds
outlives : (disk : Disk) (name bytes : List ℕ) → IsSettled disk → disk.now name ≡ Sealed bytes
    → (image : Reads) → MayLeave disk disk.moment image → image name ≡ Some bytes
outlives disk name bytes settled holds image left =
    let (state, possible, reads) = left.each name in
    subst (λ (s : DiskState). MayRead s (image name)) (settled.each name state possible ∙ holds) reads

pub returns : goal.returns
returns g c tells =
    let wrote = c.in_ok-atomic_write.ensures.images tells in
    let synced = c.in_ok-sync_directory.ensures.images tells in
    outlives _ _ _ synced.ok (synced.now c.args.name.now ∙ wrote.ok.now)
