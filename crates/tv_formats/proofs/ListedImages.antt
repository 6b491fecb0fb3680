-- A list that forgets no file, and the images that a crash may leave.
use Rattle.std.proofs.Common.{◌≡◌, ℕ, true, false, true≢false, cond, List, [], Option, Some, refl, sym, ap, subst, ◌∙◌}
use Rattle.std.specs.Prelude.{IsSome}
use Rattle.std.proofs.lemmas.Bool.{false_from_ne_true}
use Rattle.tv_formats.specs.Disk.{Disk, DiskState, Absent, Unsealed, Sealed, IsImage, IsThere, MayRead, Possible, possible_now}
use Rattle.tv_formats.specs.Files.{Reads}
use Rattle.tv_formats.specs.Listed.{ImagesListTheirFiles, IsAList, IsListSettled, IsOnEach, ListsEachFile}
use Rattle.tv_formats.specs.Listing.{IsOnList, Lists}
use Rattle.tv_formats.specs.Names.{is, is_undotted, list_name}
use Rattle.tv_formats.proofs.Entries.{is_itself, is_text}

-- what reads is there
there_if_some : (s : DiskState) (read : Option (List ℕ)) → MayRead s read → IsSome read → IsThere s
there_if_some Absent read none some = absurd (cc (none, some))
there_if_some Unsealed read may some = tt
there_if_some (Sealed bytes) read may some = tt

-- where a list forgets no file, each image lists its files
pub images_list : {possible : Possible} → ListsEachFile possible → ImagesListTheirFiles possible
images_list {possible} listed = record {
  each = λ image is.
      let list = is.each list_name in
      record {
        lists = listed.lists list_name refl list.0 list.1 (image list_name) list.2;
        each = λ n undotted some.
            let file = is.each n in
            let on = listed.each n undotted file.0 file.1 (there_if_some file.0 (image n) file.2 some) in
            let left = is.each on.0 in
            subst (λ (f : List ℕ). IsOnList (image f) n) on.1 (on.2 left.0 left.1 (image on.0) left.2);
      };
}

-- ---- and the other way

-- what is read, but that this name reads this
abbrev reading : Reads → (name : List ℕ) → Option (List ℕ) → Reads
reading reads name read n = cond (is name n) read (reads n)

reads_own : (reads : Reads) (name : List ℕ) (read : Option (List ℕ)) → reading reads name read name ≡ read
reads_own reads name read = rw (is_itself name) refl

-- it is an image too, where the name may read this
reading_image : {possible : Possible} {reads : Reads} (name : List ℕ) (s : DiskState) (read : Option (List ℕ)) → possible name s → MayRead s read → IsImage possible reads → IsImage possible (reading reads name read)
reading_image {possible} {reads} name s read here may image = record {
  each = λ n.
      elim (is name n) as (λ b. is name n ≡ b → (t : DiskState) × possible n t × MayRead t (cond b read (reads n))) [
        | true ↦ λ same. subst (λ (m : List ℕ). (t : DiskState) × possible m t × MayRead t read) (is_text name n same) (s, here, may)
        | false ↦ λ other. image.each n
      ] refl;
}

-- what is there may read something
may_read : (s : DiskState) → IsThere s → (bytes : List ℕ) × MayRead s (Some bytes)
may_read Absent there = absurd there
may_read Unsealed there = ([], refl)
may_read (Sealed bytes) there = (bytes, refl)

-- the list has another name than a file without a dot in front
isnt_list : (n : List ℕ) → is_undotted n ≡ true → is list_name n ≡ false
isnt_list n undotted = false_from_ne_true (is list_name n) (λ same. true≢false (sym undotted ∙ ap is_undotted (sym (is_text list_name n same))))

module _ {possible : Possible} {reads : Reads} (image : IsImage possible reads) (images : ImagesListTheirFiles possible) where
  -- what a crash may leave of the list is a list
  list_left : (l : DiskState) → possible list_name l → IsAList l
  list_left l is read may =
      let lists = (images.each (reading reads list_name read) (reading_image list_name l read is may image)).lists in
      (lists.0, subst (λ (r : Option (List ℕ)). Lists r lists.0) (reads_own reads list_name read) lists.1)

  -- which has each undotted name that may be there
  listed_left : (n : List ℕ) → is_undotted n ≡ true → (s : DiskState) → possible n s → IsThere s → (l : DiskState) → possible list_name l → IsOnEach l n
  listed_left n undotted s is there l of_list read may =
      let own = may_read s there in
      let with_file = reading reads n (Some own.0) in
      let all = images.each (reading with_file list_name read) (reading_image list_name l read of_list may (reading_image n s (Some own.0) is own.1 image)) in
      let some : IsSome (reading with_file list_name read n) = rw (isnt_list n undotted, is_itself n) refl in
      subst (λ (r : Option (List ℕ)). IsOnList r n) (reads_own with_file list_name read) (all.each n undotted some)

-- where the list is settled and each image lists its files, the list forgets none
pub settled_lists : (disk : Disk) (reads : Reads) → IsImage (possible_now disk) reads → IsListSettled disk → ImagesListTheirFiles (possible_now disk) → ListsEachFile (possible_now disk)
settled_lists disk reads image settled images = record {
  lists = λ file of_list. subst (λ (f : List ℕ). (l : DiskState) → possible_now disk f l → IsAList l) (sym of_list) (list_left image images);
  each = λ n undotted s is there. (list_name, refl, listed_left image images n undotted s is there);
}
