-- How a save of the list keeps track.
use Rattle.std.proofs.Common.{◌≡◌, ℕ, true, true≢false, List, [], refl, sym, ap, subst, ◌∙◌, Option, None, Some, Result, Ok}
use Rattle.json.proofs.OnLiterals.{json_on_literals}
use Rattle.tv_formats.specs.Disk.{DiskState, Absent, Unsealed, Sealed, IsImage, IsThere, MayRead, Possible, Disk, possible_now, Throughout}
use Rattle.tv_formats.specs.Collections.{no_collections}
use Rattle.tv_formats.specs.Listed.{ImagesListTheirFiles, IsAList, IsAlwaysListed, IsListSettled, ListsEachFile}
use Rattle.tv_formats.specs.Listing.{IsListOf, IsOnList, Listing, Lists, list_text, list_tree}
use Rattle.tv_formats.specs.Names.{has, is_undotted, list_name}
use Rattle.tv_formats.proofs.Entries.{has_inserted}
use Rattle.tv_formats.proofs.ListTexts.{lists_one}
use Rattle.tv_formats.proofs.ListedImages.{settled_lists}
use Rattle.tv_formats.proofs.DiskLaws.{at_end, weaker}
use Rattle.tv_base.specs.declared.io.IoError.{IoError}
use Rattle.tv_device.specs.Images.{KeepsDisk, KeepsOtherStates, StandsNow}
use Rattle.tv_device.specs.View.{View}
use Rattle.tv_device.specs.declared.directory.Directory.{Ghosts}
use Rattle.tv_managed.specs.Crashes.{AreListed, Gains, IsCovered, IsNewList, IsToList, IsTracked, KeepsTrack, ListsName, SavesManaged, SavesText}
use Rattle.tv_managed.specs.Managed.{NeedsNoListing, registered, registering}
use Rattle.tv_managed.specs.Names.{ManagedNames, done_names}
use Rattle.tv_managed.specs.TrackLaws.{AreGone, listed_read, track_read, track_then}
use Rattle.tv_managed.proofs.Tracking.{covered_list, covered_saved, isnt_the_list, listed_besides, listed_saved, track_same}
use Rattle.tv_managed.proofs.Touching.{gained_more, gained_none, gained_run, gained_same, gained_then}

-- nothing was done
pub lists_same : {D W C : Type 0} (g : Ghosts D W C) (name : List ℕ) {old new : D × ManagedNames} → new.0 ≡ old.0 → new.1 ≡ old.1 → ListsName g old new name
lists_same g name {old} {new} same names = record {
  tracks = λ was. subst (λ v. KeepsTrack g old v) (ap (λ d. (d, old.1)) (sym same) ∙ ap (λ l. (new.0, l)) (sym names)) (track_same g was);
  listed = subst (AreListed g) (ap (λ d. (d, old.1)) (sym same) ∙ ap (λ l. (new.0, l)) (sym names));
  moments = subst (λ d. Throughout (Gains (IsNewList old.1 name) (possible_now (g.disk old.0))) (g.disk old.0) (g.disk d)) (sym same) (gained_same _ (g.disk old.0));
  now = record { each = λ n other. ap (λ d. (g.disk d).now n) same };
}

-- what was done behind a call that only read
pub lists_asked : {D W C : Type 0} (g : Ghosts D W C) (name : List ℕ) {old asked new : D × ManagedNames} → asked.1 ≡ old.1 → KeepsDisk (g.disk old.0) (g.disk asked.0) → ListsName g asked new name → ListsName g old new name
lists_asked g name {old} {asked} {new} names keeps listed = record {
  tracks = λ was. let first = track_read g names keeps was in track_then g first (listed.tracks first.tracked);
  listed = λ was. listed.listed (listed_read g old asked names keeps was);
  moments = gained_then (gained_none _ keeps) (subst (λ v. Throughout (Gains (IsNewList v name) (possible_now (g.disk asked.0))) (g.disk asked.0) (g.disk new.0)) names listed.moments);
  now = record { each = λ n other. listed.now.each n (λ it. other (subst (λ v. IsToList v name n) names it)) ∙ keeps.states.now n };
}

-- more names are those of each file
files_put : {possible : Possible} {now : List ℕ → DiskState} {names : ManagedNames} (put : List (List ℕ)) → ((n : List ℕ) → has names.managed n ≡ true → has put n ≡ true) → IsCovered possible now names → (n : List ℕ) → is_undotted n ≡ true → (s : DiskState) → possible n s → IsThere s → has put n ≡ true
files_put put more was n undotted s is there = more n (was.covers n undotted s is there)

-- what is done is absent once the list was saved
pub gone_saved : (old new : Disk) {names : ManagedNames} → KeepsOtherStates old new list_name → IsCovered (possible_now old) old.now names → AreGone new.now names
gone_saved old new others was n undotted h = others n (isnt_the_list n undotted) ∙ was.gone n undotted h

-- The list of more names was saved, or may have been: track is kept of the fewer ones.
saved_or_not : {A D W C : Type 0} (g : Ghosts D W C) {old new : D × ManagedNames} {put : List (List ℕ)} {result : Result A IoError} → SavesText (g.disk old.0) (g.disk new.0) (list_text put) result → IsListOf (list_text put) put
    → ((n : List ℕ) → has old.1.managed n ≡ true → has put n ≡ true) → new.1 ≡ old.1 → IsTracked g old → KeepsTrack g old new
saved_or_not g {old} {new} saves listed more names was = record {
  tracked = subst (IsCovered (possible_now (g.disk new.0)) (g.disk new.0).now) (sym names) (covered_list listed (files_put _ more was) (λ n h free. more n h) (at_end saves.moments) (gone_saved (g.disk old.0) (g.disk new.0) saves.others was) was);
  moments = weaker saves.moments (λ p adds. (covered_list listed (files_put _ more was) (λ n h free. more n h) adds was.gone was).forgets_none);
}

listed_or_not : {A D W C : Type 0} (g : Ghosts D W C) (old new : D × ManagedNames) {put : List (List ℕ)} {result : Result A IoError} → SavesText (g.disk old.0) (g.disk new.0) (list_text put) result → IsListOf (list_text put) put
    → ((n : List ℕ) → has old.1.managed n ≡ true → has put n ≡ true) → new.1 ≡ old.1 → AreListed g old → AreListed g new
listed_or_not g old new saves listed more names was n h =
    let before = ap (λ v. has v.managed n) (sym names) ∙ h in
    listed_besides listed (at_end saves.moments) n (more n before) (was n before)

-- and where it was saved, of the more ones
saved : {A D W C : Type 0} (g : Ghosts D W C) {old new : D × ManagedNames} {put : List (List ℕ)} (x : A) → SavesText (g.disk old.0) (g.disk new.0) (list_text put) (Ok x) → IsListOf (list_text put) put
    → ((n : List ℕ) → has old.1.managed n ≡ true → has put n ≡ true) → new.1 ≡ record old.1 { managed = put } → IsTracked g old → KeepsTrack g old new
saved g {old} {new} {put} x saves listed more names was =
    let behind : IsCovered (possible_now (g.disk new.0)) (g.disk new.0).now old.1 = covered_list listed (files_put _ more was) (λ n h free. more n h) (at_end saves.moments) (gone_saved (g.disk old.0) (g.disk new.0) saves.others was) was in
    record {
      tracked = subst (IsCovered (possible_now (g.disk new.0)) (g.disk new.0).now) (sym names) (covered_saved listed (files_put _ more behind) saves.ok behind);
      moments = weaker saves.moments (λ p adds. (covered_list listed (files_put _ more was) (λ n h free. more n h) adds was.gone was).forgets_none);
    }

listed_now : {A D W C : Type 0} (g : Ghosts D W C) (old : D) (new : D × ManagedNames) {put : List (List ℕ)} (x : A) → SavesText (g.disk old) (g.disk new.0) (list_text put) (Ok x) → IsListOf (list_text put) put → new.1.managed ≡ put → AreListed g new
listed_now g old new x saves listed names n h = listed_saved (possible_now (g.disk new.0)) listed saves.ok n (ap (λ l. has l n) (sym names) ∙ h)

-- the list alone may have other states, which had to get the name
lists_only : {D W C : Type 0} (g : Ghosts D W C) {old new : D × ManagedNames} {name : List ℕ} {A : Type 0} {result : Result A IoError} → (NeedsNoListing old.1 name → ⊥) → (IsTracked g old → KeepsTrack g old new) → (AreListed g old → AreListed g new)
    → SavesText (g.disk old.0) (g.disk new.0) (list_text (registered old.1.managed name)) result → ListsName g old new name
lists_only g needs tracks stays saves = record {
  tracks = tracks;
  listed = stays;
  moments = gained_more (λ n s it. ((it.0, needs), it.1)) (gained_run saves.moments);
  now = record { each = λ n other. saves.others n (λ is. other (is, needs)) };
}

-- a registration whose save is done
pub lists_saved : {A D W C : Type 0} (g : Ghosts D W C) (name : List ℕ) {old mid new : D × ManagedNames} (x : A) → (NeedsNoListing old.1 name → ⊥) → mid.0 ≡ old.0 → SavesManaged g mid new (Ok x) → mid.1 ≡ registering old.1 name → ((n : List ℕ) → has old.1.managed n ≡ true → has (registered old.1.managed name) n ≡ true) → new.1 ≡ mid.1
    → ListsName g old new name
lists_saved g name {old} {mid} {new} x needs same saves put more names =
    let text : list_text mid.1.managed ≡ list_text (registered old.1.managed name) = ap (λ v. list_text v.managed) put in
    let from = subst (λ t. SavesText (g.disk old.0) (g.disk new.0) t (Ok x)) text (subst (λ d. SavesText (g.disk d) (g.disk new.0) (list_text mid.1.managed) (Ok x)) same saves.saves) in
    let listed : IsListOf (list_text (registered old.1.managed name)) (registered old.1.managed name) = subst (λ v. IsListOf (list_text v.managed) v.managed) put saves.listed in
    lists_only g needs (saved g x from listed more (names ∙ put)) (λ was. listed_now g old.0 new x from listed (ap (λ v. v.managed) (names ∙ put))) from

-- one that failed, after which the name was taken out
pub lists_refused : {A D W C : Type 0} (g : Ghosts D W C) (name : List ℕ) {old mid last new : D × ManagedNames} {result : Result A IoError} → (NeedsNoListing old.1 name → ⊥) → mid.0 ≡ old.0 → SavesManaged g mid last result → mid.1 ≡ registering old.1 name
    → ((n : List ℕ) → has old.1.managed n ≡ true → has (registered old.1.managed name) n ≡ true) → new.0 ≡ last.0 → new.1 ≡ old.1 → ListsName g old new name
lists_refused g name {old} {mid} {last} {new} {result} needs same saves put more within names =
    let text : list_text mid.1.managed ≡ list_text (registered old.1.managed name) = ap (λ v. list_text v.managed) put in
    let from = subst (λ t. SavesText (g.disk old.0) (g.disk new.0) t result) text (subst (λ d. SavesText (g.disk d) (g.disk new.0) (list_text mid.1.managed) result) same (subst (λ d. SavesText (g.disk mid.0) (g.disk d) (list_text mid.1.managed) result) (sym within) saves.saves)) in
    let listed : IsListOf (list_text (registered old.1.managed name)) (registered old.1.managed name) = subst (λ v. IsListOf (list_text v.managed) v.managed) put saves.listed in
    lists_only g needs (saved_or_not g from listed more names) (listed_or_not g old new from listed more names) from

-- a name without a dot in front that was registered
pub has_registered : (names : List (List ℕ)) (name : List ℕ) → is_undotted name ≡ true → has (registered names name) name ≡ true
has_registered names name undotted = rw undotted (has_inserted names name)

-- ---- the list that is read when a directory is wrapped

-- not all bytes are a list
not_any : IsAList Unsealed → ⊥
unfolding json_on_literals
not_any any =
    let list = (any (Some []) refl).1 in
    let none : None ≡ Some (list_tree list.found) = list.parsed in
    absurd cc

-- a list that stands so reads one thing
one_read : (l : DiskState) → IsAList l → (first second : Option (List ℕ)) → MayRead l first → MayRead l second → first ≡ second
one_read Absent any first second h k = h ∙ sym k
one_read Unsealed any first second h k = absurd (not_any any)
one_read (Sealed bytes) any first second h k = h ∙ sym k

-- what reads is an image
reads_image : {W : Type 0} (view : View W) (disk : Disk) → StandsNow view disk → IsImage (possible_now disk) view.reads
reads_image view disk stands = record { each = λ n. (disk.now n, stands.possible n, stands.reads n) }

module _ {W : Type 0} (view : View W) (disk : Disk) (names : ManagedNames) (stands : StandsNow view disk) (lists : Listing view.reads names.managed) (settled : IsListSettled disk) (images : ImagesListTheirFiles (possible_now disk)) where
  each_listed : ListsEachFile (possible_now disk)
  each_listed = settled_lists disk view.reads (reads_image view disk stands) settled images

  -- the names of the list that reads are on the list, whatever a crash may leave of that
  pub names_read : (n : List ℕ) → has names.managed n ≡ true → IsAlwaysListed (possible_now disk) n
  names_read n h = (
    list_name,
    refl,
    λ l of_list read may.
        let one = one_read (disk.now list_name) (each_listed.lists list_name refl (disk.now list_name) (stands.possible list_name)) (view.reads list_name) read (stands.reads list_name) (subst (λ s. MayRead s read) (settled list_name refl l of_list) may) in
        (names.managed, subst (λ r. Lists r names.managed) one lists, h),
  )

  -- and are those of each file
  pub covered_read : names.collections ≡ no_collections → IsCovered (possible_now disk) disk.now names
  covered_read none = record {
    forgets_none = each_listed;
    covers = λ n undotted s is there.
        let always = each_listed.each n undotted s is there in
        let on = subst (λ file. IsOnList (view.reads file) n) always.1 (always.2 (disk.now always.0) (stands.possible always.0) (view.reads always.0) (stands.reads always.0)) in
        ap (λ ns. has ns n) (lists_one (view.reads list_name) names.managed on.0 lists on.1) ∙ on.2;
    listed = λ n h free. names_read n h;
    gone = λ n undotted h. absurd (true≢false (sym h ∙ ap (λ v. has (done_names v) n) none));
  }
