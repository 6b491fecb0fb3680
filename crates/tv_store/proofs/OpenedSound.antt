-- What an opening leaves to a crash of a directory that was sound before.
use Rattle.std.proofs.Common.{◌≡◌, ◌⊎◌, ⊎_elim, inl, inr, ℕ, Bool, true, false, true≢false, cond, List, [], ◌∷◌, ◌++◌, length, length-append, Option, Some, None, refl, sym, ap, subst, ◌∙◌, arith}
use Rattle.std.proofs.lemmas.Bool.{false_from_ne_true}
use Rattle.std.specs.Str.{chars, is_utf8}
use Rattle.std.proofs.lemmas.Str.{is_utf8-from_IsUtf8}
use Rattle.tv_crashes.specs.Stored.{IsFromStart}
use Rattle.tv_device.specs.Images.{StandsNow}
use Rattle.tv_device.specs.View.{View}
use Rattle.tv_formats.proofs.Bodies.{some_is}
use Rattle.tv_formats.proofs.Entries.{is_itself, is_text}
use Rattle.tv_formats.proofs.ListTexts.{lists_one}
use Rattle.tv_formats.proofs.MeansOne.{means_one}
use Rattle.tv_formats.proofs.Required.{required_by_one}
use Rattle.tv_formats.proofs.SpelledCommits.{means_commit}
use Rattle.tv_formats.specs.Commits.{Commit, Settings, default_settings, first_commit, printed, required_by}
use Rattle.tv_formats.specs.Disk.{Absent, Disk, DiskState, IsImage, MayRead, Possible, Sealed, Unsealed, possible_now}
use Rattle.tv_formats.specs.Files.{Reads}
use Rattle.tv_formats.specs.Footer.{IsGood, footer_magic, four_bytes}
use Rattle.tv_formats.specs.Listed.{ImagesListTheirFiles, ListsItsFiles}
use Rattle.tv_formats.specs.Meaning.{IsPrinted, Means}
use Rattle.tv_formats.specs.Names.{has, is, list_name, meta_name}
use Rattle.tv_formats.specs.Sound.{IsSoundImage, IsSoundMeta}
use Rattle.tv_index.specs.Crashes.{IsMade, IsOldOrMade}
use Rattle.tv_index.specs.Opening.{first_text}
use Rattle.tv_machine.proofs.Required.{required_is_file}
use Rattle.tv_store.proofs.Listings.{undotted_isnt_list}

-- ---- a byte that no text has

-- what is neither a text nor a file with a footer
abbrev stray : List ℕ
stray = 255 ∷ []

-- it isn't a good file
stray_isnt_good : IsGood stray → ⊥
stray_isnt_good good =
    let framed = good.has_body.framed in
    let tail = four_bytes (length framed.json) ++ four_bytes footer_magic in
    omega (arith, ap length framed.whole, length-append good.body (framed.json ++ tail), length-append framed.json tail)

-- nor a line
stray_isnt_line : (text : List ℕ) → stray ≡ text ++ 10 ∷ [] → ⊥
stray_isnt_line [] e = cc
stray_isnt_line (b ∷ text) e = omega (arith, ap length e, length-append text (10 ∷ []))

-- nor a text
stray_isnt_text : is_utf8 stray ≡ false
unfolding is_utf8 chars
stray_isnt_text = refl

-- so that it means no commit
stray_means_none : (settings : Settings) (schema : List ℕ) (commit : Commit) → Means settings schema stray commit → ⊥
stray_means_none settings schema commit means = ⊎_elim
    (λ (p : IsPrinted settings schema stray commit). stray_isnt_line (printed settings schema commit) p.printed_is)
    (λ spells. true≢false (sym (is_utf8-from_IsUtf8 stray spells.1.utf8) ∙ stray_isnt_text)) means.said

-- ---- states

-- a state is one of the three
unsealed_isnt : (text : List ℕ) → Unsealed ≡ Sealed text → ⊥
unsealed_isnt text e = cc

-- what reads these bytes, and isn't unsealed, is sealed with them
reads_sealed : (s : DiskState) (read : Option (List ℕ)) (bytes : List ℕ) → MayRead s read → read ≡ Some bytes → (s ≡ Unsealed → ⊥) → s ≡ Sealed bytes
reads_sealed Absent read bytes none some sealed = absurd (cc (none, some))
reads_sealed Unsealed read bytes may some sealed = absurd (sealed refl)
reads_sealed (Sealed other) read bytes may some sealed = ap Sealed (some_is (sym may ∙ some))

-- what doesn't read is absent
pub unread_absent : (s : DiskState) (read : Option (List ℕ)) → MayRead s read → read ≡ None → s ≡ Absent
unread_absent Absent read may none = refl
unread_absent Unsealed read may none = absurd (cc (may, none))
unread_absent (Sealed bytes) read may none = absurd (cc (may, none))

-- ---- images

-- what is read, but that this name reads this
abbrev reading : Reads → (name : List ℕ) → Option (List ℕ) → Reads
reading reads name read n = cond (is name n) read (reads n)

-- it is an image too, where the name may read this
reading_image : {possible : Possible} {reads : Reads} (name : List ℕ) (s : DiskState) (read : Option (List ℕ)) → possible name s → MayRead s read → IsImage possible reads → IsImage possible (reading reads name read)
reading_image {possible} {reads} name s read here may image = record {
  each = λ n.
      elim (is name n) as (λ b. is name n ≡ b → (t : DiskState) × possible n t × MayRead t (cond b read (reads n))) [
        | true ↦ λ same. subst (λ (m : List ℕ). (t : DiskState) × possible m t × MayRead t read) (is_text name n same) (s, here, may)
        | false ↦ λ other. image.each n
      ] refl;
}

-- a file that a commit requires isn't the list
required_isnt_list : (settings : Settings) (schema text : List ℕ) (commit : Commit) → Means settings schema text commit → (n : List ℕ) → has (required_by (commit ∷ [])) n ≡ true → is list_name n ≡ false
required_isnt_list settings schema text commit means n required =
    let segments = (means_commit settings schema text commit means).0.segments in
    let file = required_is_file commit.segments n segments (ap (λ (names : List (List ℕ)). has names n) (sym (required_by_one commit)) ∙ required) in
    false_from_ne_true (is list_name n) (λ same. undotted_isnt_list n file.0 (sym (is_text list_name n same)))

-- so it reads the same where the list alone reads otherwise
beside_list : (reads : Reads) (list : Option (List ℕ)) (settings : Settings) (schema text : List ℕ) (commit : Commit) → Means settings schema text commit → (n : List ℕ)
    → has (required_by (commit ∷ [])) n ≡ true → reads n ≡ reading reads list_name list n
beside_list reads list settings schema text commit means n required = sym (ap (λ b. cond b list (reads n)) (required_isnt_list settings schema text commit means n required))

-- and `meta.json` is as sound
sound_meta : (schema : List ℕ) (reads : Reads) (list read : Option (List ℕ)) → IsSoundMeta schema (reading reads list_name list) read → IsSoundMeta schema reads read
sound_meta schema reads list None sound = tt
sound_meta schema reads list (Some text) sound = (
  sound.0,
  sound.1,
  sound.2,
  record {
    each = λ n required. let file = sound.3.each n required in (file.0, beside_list reads list sound.0 schema text sound.1 sound.2 n required ∙ file.1, file.2);
  },
)

-- an image that lists its files, and whose `meta.json` is sound, is
image_of : {schema : List ℕ} {image : Reads} → ListsItsFiles image → IsSoundMeta schema image (image meta_name) → IsSoundImage schema image
image_of {schema} {image} lists commit = record {
  names = lists.lists.0;
  listing = lists.lists.1;
  listed = λ n no_dot some.
      let on = lists.each n no_dot some in
      ap (λ (names : List (List ℕ)). has names n) (lists_one (image list_name) lists.lists.0 on.0 lists.lists.1 on.1) ∙ on.2;
  commit = commit;
}

-- ---- a disk whose images are all sound

module _ {W : Type 0} {view : View W} {disk : Disk} {schema : List ℕ} (stands : StandsNow view disk) (sound : (image : Reads) → IsImage (possible_now disk) image → IsSoundImage schema image) where
  -- what reads is one of them
  read_image : IsImage (possible_now disk) view.reads
  read_image = record { each = λ n. (disk.now n, stands.possible n, stands.reads n) }

  -- each lists its files
  pub images_list : ImagesListTheirFiles (possible_now disk)
  images_list = record {
    each = λ image left.
        let is = sound image left in
        record { lists = (is.names, is.listing); each = λ n no_dot some. (is.names, is.listing, is.listed n no_dot some) };
  }

  -- a name that isn't sealed may read anything
  strayed : (n : List ℕ) → disk.now n ≡ Unsealed → IsSoundImage schema (reading view.reads n (Some stray))
  strayed n unsealed = sound (reading view.reads n (Some stray)) (reading_image n Unsealed (Some stray) (subst (possible_now disk n) unsealed (stands.possible n)) refl read_image)

  -- so `meta.json` is sealed with what it reads
  pub meta_sealed : (text : List ℕ) → view.reads meta_name ≡ Some text → disk.now meta_name ≡ Sealed text
  meta_sealed text there = reads_sealed (disk.now meta_name) (view.reads meta_name) text (stands.reads meta_name) there
      (λ unsealed. let meta = (strayed meta_name unsealed).commit in stray_means_none meta.0 schema meta.1 meta.2)

  -- and so is each file that its commit requires
  pub file_sealed : (settings : Settings) (text : List ℕ) (commit : Commit) → view.reads meta_name ≡ Some text → Means settings schema text commit
      → (n bytes : List ℕ) → has (required_by (commit ∷ [])) n ≡ true → view.reads n ≡ Some bytes → disk.now n ≡ Sealed bytes
  file_sealed settings text commit meta means n bytes required there =
      reads_sealed (disk.now n) (view.reads n) bytes (stands.reads n) there (by (is n meta_name) refl) where
        by : (e : Bool) → is n meta_name ≡ e → disk.now n ≡ Unsealed → ⊥
        by true same unsealed = unsealed_isnt text (sym (subst (λ (m : List ℕ). disk.now m ≡ Unsealed) (is_text n meta_name same) unsealed) ∙ meta_sealed text meta)
        by false other unsealed =
            let image = reading view.reads n (Some stray) in
            let still : image meta_name ≡ Some text = ap (λ b. cond b (Some stray) (view.reads meta_name)) other ∙ meta in
            let of : IsSoundMeta schema image (Some text) = subst (IsSoundMeta schema image) still (strayed n unsealed).commit in
            let one = means_one of.0 settings schema text of.1 commit of.2 means in
            let file = of.3.each n (subst (λ (c : Commit). has (required_by (c ∷ [])) n ≡ true) (sym one.1) required) in
            let same : Some stray ≡ Some file.0 = sym (rw (is_itself n) refl) ∙ file.1 in
            stray_isnt_good (subst IsGood (sym (some_is same)) file.2)

  -- ---- an opening of it that may have made an index

  module _ {made : Type 0} (new : made → (disk.now meta_name ≡ Absent) × Means default_settings schema (first_text schema) first_commit) {possible : Possible} (listed : ImagesListTheirFiles possible) (image : Reads) (left : IsImage possible image) where
    -- `meta.json` is left as it stood: the image is one of the start, but for the list
    stood_image : ((n : List ℕ) (s : DiskState) → possible n s → (s ≡ disk.now n) ⊎ (made × IsMade (first_text schema) n s)) → MayRead (disk.now meta_name) (image meta_name)
        → IsImage (possible_now disk) (reading image list_name (view.reads list_name))
    stood_image came stood = record {
      each = λ n.
          elim (is list_name n) as (λ e. is list_name n ≡ e → (t : DiskState) × possible_now disk n t × MayRead t (cond e (view.reads list_name) (image n))) [
            | true ↦ λ same.
                subst (λ (m : List ℕ). (t : DiskState) × possible_now disk m t × MayRead t (view.reads list_name)) (is_text list_name n same)
                (disk.now list_name, stands.possible list_name, stands.reads list_name)
            | false ↦ λ other.
                let it = left.each n in
                ⊎_elim (λ e. (disk.now n, stands.possible n, subst (λ s. MayRead s (image n)) e it.2))
                (λ given. ⊎_elim
                (λ of_meta. subst (λ (m : List ℕ). (t : DiskState) × possible_now disk m t × MayRead t (image m)) (sym of_meta.0) (disk.now meta_name, stands.possible meta_name, stood))
                (λ list. absurd (true≢false (sym (is_itself list_name) ∙ ap (is list_name) (sym list) ∙ other)))
                given.1) (came n it.0 it.1)
          ] refl;
    }

    -- then it has that one's commit
    stood_from : ((n : List ℕ) (s : DiskState) → possible n s → (s ≡ disk.now n) ⊎ (made × IsMade (first_text schema) n s)) → MayRead (disk.now meta_name) (image meta_name) → IsFromStart schema disk image
    stood_from came stood =
        let list = view.reads list_name in
        let earlier = reading image list_name list in
        let was = stood_image came stood in
        record {
          sound = image_of (listed.each image left) (sound_meta schema image list (image meta_name) (sound earlier was).commit);
          commit = inl (earlier, was, record { meta = refl; files = λ settings text commit there means n required. beside_list image list settings schema text commit means n required });
        }

    -- it has the text of the new index
    made_from : made → image meta_name ≡ Some (first_text schema) → IsFromStart schema disk image
    made_from so there =
        let means = (new so).1 in
        record {
          sound =
              image_of (listed.each image left)
              (subst (IsSoundMeta schema image) (sym there) (default_settings, first_commit, means, record { each = λ n required. absurd (true≢false (sym required)) }));
          commit = inr ((new so).0, (first_text schema, there, means));
        }

    -- whatever it is, it is from this start
    pub from_start : IsOldOrMade made disk (first_text schema) possible → IsFromStart schema disk image
    from_start moment = ⊎_elim
        (λ within.
        let was : IsImage (possible_now disk) image = record { each = λ n. let it = left.each n in (it.0, within.each n it.0 it.1, it.2) } in
        record { sound = sound image was; commit = inl (image, was, record { meta = refl; files = λ settings text commit there means n required. refl }) })
        (λ gains. let meta = left.each meta_name in ⊎_elim
        (λ stood. stood_from gains.each (subst (λ s. MayRead s (image meta_name)) stood meta.2))
        (λ given. ⊎_elim
        (λ of_meta. made_from given.0 (subst (λ s. MayRead s (image meta_name)) of_meta.1 meta.2))
        (λ list. absurd (undotted_isnt_list meta_name refl list)) given.1)
        (gains.each meta_name meta.0 meta.1)) moment
