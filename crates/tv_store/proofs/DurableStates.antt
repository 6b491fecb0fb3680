-- States that the same files hold: a crash can't hurt these with one of them, and so with each.
use Rattle.std.proofs.Common.{◌≡◌, ℕ, Bool, true, false, true≢false, List, Option, None, Some, is_some, refl, sym, ap, subst, ◌∙◌, ⊎_elim}
use Rattle.tv_crashes.specs.Stored.{Requires, sealed_bytes, stored_of}
use Rattle.tv_device.specs.Images.{StandsNow}
use Rattle.tv_device.specs.declared.directory.Directory.{Ghosts}
use Rattle.tv_formats.proofs.Required.{required_by_one}
use Rattle.tv_formats.specs.Commits.{Commit}
use Rattle.tv_formats.specs.Disk.{Absent, DiskState, IsThere, MayRead, Sealed, Unsealed}
use Rattle.tv_formats.specs.Files.{Reads}
use Rattle.tv_formats.specs.Names.{at, has, meta_name}
use Rattle.tv_formats.specs.Segments.{all_required}
use Rattle.tv_formats.specs.declared.segment.LiveSegment.{LiveSegment}
use Rattle.tv_machine.specs.Index.{IsFileOf}
use Rattle.tv_machine.specs.State.{Catalog, FileState, Left, Open, SealedFile, State, file_at}
use Rattle.tv_store.specs.Durable.{IsDurable, store_files}
use Rattle.tv_store.specs.Kept.{FileHolds, FilesState, Holds, IsHeld, StoreState, is_left}
use Rattle.tv_catalog.specs.Kept.{KeptState}
use Rattle.tv_store.proofs.Durable.{stored_as}
use Rattle.tv_crashes.proofs.StoredSound.{sealed_file}
use Rattle.tv_store.proofs.NewlyRequired.{MayRequire}

-- ---- which files are sealed

-- by what reads, what is open and what was left
abbrev sealed_by : Option (List ℕ) → Option (List ℕ) → Bool → Option (List ℕ)
sealed_by read None false = read
sealed_by read None true = None
sealed_by read (Some body) is_left = None

sealed_is : (file : Option FileState) (read written : Option (List ℕ)) (left : Bool) → FileHolds file read written → left ≡ is_left file → sealed_bytes file ≡ sealed_by read written left
sealed_is None read written left h e = rw (h.0, h.1, e) refl
sealed_is (Some (SealedFile bytes)) read written left h e = rw (h.0, h.1, e) refl
sealed_is (Some (Open body)) read written left h e = rw (h.1) refl
sealed_is (Some Left) read written left h e = rw (h.1, e) refl

-- of two files, of which one is there, or none
alike : (a b : Option FileState) (fits : Type 0) → (is_some a ≡ true → fits) → (is_some b ≡ true → fits) → (fits → sealed_bytes b ≡ sealed_bytes a) → sealed_bytes b ≡ sealed_bytes a
alike None None fits first second same = refl
alike (Some file) b fits first second same = same (first refl)
alike None (Some file) fits first second same = same (second refl)

-- two states that are held have the same sealed files
same_sealed : (reads : Reads) (kept : KeptState) (s t : State) → Holds reads kept s → Holds reads kept t → (n : List ℕ) → sealed_bytes (file_at t n) ≡ sealed_bytes (file_at s n)
same_sealed reads kept s t h k n =
    alike (file_at s n) (file_at t n) (IsFileOf n) (h.names n) (k.names n) (λ fits.
    sealed_is (file_at t n) (reads n) (at kept.open_files n) (has kept.left n) (k.files n fits) (k.left n fits)
    ∙ sym (sealed_is (file_at s n) (reads n) (at kept.open_files n) (has kept.left n) (h.files n fits) (h.left n fits)))

-- ---- and so a crash can't hurt them

-- what reads is there
is_there : (state : DiskState) (read : Option (List ℕ)) (bytes : List ℕ) → MayRead state read → read ≡ Some bytes → IsThere state
is_there Absent read bytes may e = absurd (cc (may, e))
is_there Unsealed read bytes may e = tt
is_there (Sealed text) read bytes may e = tt

module _ {O W C : Type 0} (g : Ghosts O W C) (files : FilesState O) (s : State) (d : IsDurable g files s) where
  -- with the same catalog and the same sealed files
  alike_durable : (t : State) → t.catalog ≡ s.catalog → ((n : List ℕ) → sealed_bytes (file_at t n) ≡ sealed_bytes (file_at s n)) → IsDurable g files t
  alike_durable t same bytes = record {
    tracked = d.tracked;
    listed = d.listed;
    stored = stored_as s t refl (ap (λ (c : Catalog). c.commit) same) (λ n needs. bytes n) d.stored;
    sealed = λ n text needed there.
        d.sealed n text (ap (λ (c : Catalog). has (all_required c.live) n) (sym same) ∙ needed) (sealed_file (file_at s n) text (sym (bytes n) ∙ ap sealed_bytes there));
  }

  -- what the commit requires stands sealed
  committed_stands : StandsNow (g.view files.outside) (g.disk files.outside) → (n bytes : List ℕ) → Requires (stored_of files.form s) n → sealed_bytes (file_at s n) ≡ Some bytes → (g.disk files.outside).now n ≡ Sealed bytes
  committed_stands stands n bytes needs e =
      let disk = g.disk files.outside in
      let of = ⊎_elim (λ of. of.1) (λ of. of.1) (d.stored.each (disk.now meta_name) (stands.possible meta_name)) in
      let here = of.each n needs in
      let same : Some here.0 ≡ Some bytes = sym here.1 ∙ e in
      let one : here.0 ≡ bytes = cc in
      here.2 (disk.now n) (stands.possible n) ∙ ap Sealed one

-- a crash asks nothing of whether the meta lock is kept
pub relocked : {O W C : Type 0} (g : Ghosts O W C) (files : FilesState O) (locked : Bool) (s : State) → IsDurable g files s → IsDurable g (record files { locked = locked }) s
relocked g files locked s d = record { tracked = d.tracked; listed = d.listed; stored = d.stored; sealed = d.sealed }

-- after an event's step, from what stood before its change: the same commit, and the same files
pub held_durable : {O W C : Type 0} (g : Ghosts O W C) (new : StoreState O) (from now to : State) → StandsNow (g.view new.outside) (g.disk new.outside) → IsDurable g (store_files new) now → IsHeld g new to
    → now.catalog.live ≡ from.catalog.live → to.catalog.commit ≡ now.catalog.commit → ((n : List ℕ) → file_at to n ≡ file_at now n) → ((n : List ℕ) → MayRequire from n to)
    → (t : State) → IsHeld g new t → IsDurable g (store_files new) t
held_durable g new from now to stands d h live commit same requires t held =
    alike_durable g (store_files new) to after t (sym held.catalog ∙ h.catalog) (same_sealed (g.view new.outside).reads new.kept to t h held) where
      reads_sealed : (n bytes : List ℕ) → file_at to n ≡ Some (SealedFile bytes) → (g.view new.outside).reads n ≡ Some bytes
      reads_sealed n bytes there = (subst (λ (file : Option FileState). FileHolds file ((g.view new.outside).reads n) (at new.kept.open_files n)) there (h.files n (h.names n (ap is_some there)))).0

      managed : (n bytes : List ℕ) → file_at to n ≡ Some (SealedFile bytes) → has to.managed n ≡ true
      managed n bytes there =
          let state = (g.disk new.outside).now n in
          let some = is_there state ((g.view new.outside).reads n) bytes (stands.reads n) (reads_sealed n bytes there) in
          ap (λ (names : List (List ℕ)). has names n) (sym h.managed) ∙ d.tracked.covers n (h.names n (ap is_some there)).0 state (stands.possible n) some

      stand : (n bytes : List ℕ) → has (all_required to.catalog.live) n ≡ true → file_at to n ≡ Some (SealedFile bytes) → (g.disk new.outside).now n ≡ Sealed bytes
      stand n bytes needed there =
          let was : file_at now n ≡ Some (SealedFile bytes) = sym (same n) ∙ there in
          ⊎_elim (λ old. d.sealed n bytes (ap (λ (segments : List (List ℕ × LiveSegment)). has (all_required segments) n) live ∙ old) was)
          (λ more. ⊎_elim
          (λ (committed : has (all_required to.catalog.commit.segments) n ≡ true).
          let needs : Requires (stored_of new.kept.form now) n = ap (λ (names : List (List ℕ)). has names n) (required_by_one now.catalog.commit) ∙ ap (λ (c : Commit). has (all_required c.segments) n) (sym commit) ∙ committed in
          committed_stands g (store_files new) now d stands n bytes needs (ap sealed_bytes was))
          (λ free. absurd (true≢false (sym (managed n bytes there) ∙ free))) more)
          (requires n needed)

      after : IsDurable g (store_files new) to
      after = record {
        tracked = d.tracked;
        listed = d.listed;
        stored = stored_as now to refl commit (λ n needs. ap sealed_bytes (same n)) d.stored;
        sealed = stand;
      }
