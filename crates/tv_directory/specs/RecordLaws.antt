-- What reads is one of the images that a crash now may leave.
use Rattle.std.proofs.Common.{◌≡◌, ℕ, List, [], ◌∷◌, ◌++◌, Option, None, Some, refl, sym, ap, subst, ◌∙◌, drop, length}
use Rattle.std.proofs.Math.Seq.{take-length, drop-length}
use Rattle.std.proofs.lemmas.List.Elements.{Contains-push}
use Rattle.std.specs.List.{Contains, flat_map}
use Rattle.std.specs.Prelude.{option_map}
use Rattle.tv_formats.specs.Disk.{DiskState, MayRead}
use Rattle.tv_formats.specs.Names.{at}
use Rattle.tv_directory.specs.declared.bench_record.Call.{Call}
use Rattle.tv_device.specs.declared.files.Content.{Content}
use Rattle.tv_device.specs.declared.files.Content.TheVariants.{Unsealed, Sealed}
use Rattle.tv_device.specs.declared.files.StoredFile.{StoredFile}
use Rattle.tv_directory.specs.Record.{found_by, since_sync, states_at, stood_before}
use Rattle.tv_device.specs.StoredFiles.{bytes_of, reads_of, disk_state_of, states_of}

-- the states in which a crash now may leave a name
pub states_now : (calls : List Call) (name : List ℕ) (now : DiskState)
    → states_at calls (length calls) name now ≡ flat_map (found_by name) (since_sync calls) ++ now ∷ []
states_now calls name now =
    ap (λ (l : List Call). flat_map (found_by name) (since_sync l)
    ++ stood_before (drop (length calls) calls) name now ∷ []) (take-length calls)
    ∙ ap (λ (l : List Call). flat_map (found_by name) (since_sync calls) ++ stood_before l name now ∷ [])
    (drop-length calls)

-- The state in which a name stands now is one of those in which a crash now may leave it.
pub stands_now : (calls : List Call) (name : List ℕ) (now : DiskState)
    → Contains (states_at calls (length calls) name now) now
stands_now calls name now =
    subst (λ (l : List DiskState). Contains l now) (sym (states_now calls name now))
    (Contains-push (flat_map (found_by name) (since_sync calls)) now)

content_reads : (content : Option Content) → MayRead (disk_state_of content) (option_map bytes_of content)
content_reads None = refl
content_reads (Some (Unsealed bytes)) = refl
content_reads (Some (Sealed bytes)) = refl

file_reads : (file : Option StoredFile)
    → MayRead (disk_state_of (option_map (λ file. file.content) file))
    (option_map (λ file. bytes_of file.content) file)
file_reads None = refl
file_reads (Some file) = content_reads (Some file.content)

-- In the state in which a name stands now it may read what it reads.
pub reads_now : (files : List (List ℕ × StoredFile)) (name : List ℕ)
    → MayRead (states_of files name) (reads_of files name)
reads_now files name = file_reads (at files name)
