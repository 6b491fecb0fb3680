-- What each step keeps of the list, where it forgets no file that a crash may leave.
use Rattle.std.proofs.Common.{◌≡◌, ◌≢◌, ⊎_elim, ℕ, true, false, true≢false, List, refl, sym, ap, subst, ◌∙◌, Some}
use Rattle.std.proofs.lemmas.Bool.{false_from_ne_true}
use Rattle.tv_formats.specs.Disk.{DiskState, Sealed, IsThere, MayRead, Possible, possible_now, Within, MayAdd, Elapses}
use Rattle.tv_formats.specs.Listed.{IsAList, IsAlwaysListed, IsOnEach, ListsEachFile}
use Rattle.tv_formats.specs.Listing.{IsListFile, IsListOf, Lists}
use Rattle.tv_formats.specs.Names.{has, is_undotted, list_name}
use Rattle.tv_formats.specs.Collections.{Collections}
use Rattle.tv_formats.proofs.DiskLaws.{fewer_listed, started}
use Rattle.tv_device.specs.declared.directory.Directory.{Ghosts}
use Rattle.tv_managed.specs.Crashes.{AreListed, IsCovered, IsTracked, KeepsTrack}
use Rattle.tv_managed.specs.Names.{ManagedNames, done_names}
use Rattle.tv_managed.specs.TrackLaws.{AreGone, listed_within, still_listed, track_step}

-- the list's name has a dot in front
pub isnt_the_list : (n : List ℕ) → is_undotted n ≡ true → n ≢ list_name
isnt_the_list n undotted same = true≢false (sym undotted ∙ ap is_undotted same)

-- what is there isn't done
pub not_done : {possible : Possible} {now : List ℕ → DiskState} {names : ManagedNames} (name : List ℕ) → IsCovered possible now names → is_undotted name ≡ true → IsThere (now name) → has (done_names names.collections) name ≡ false
not_done name was undotted there = false_from_ne_true _ (λ h. subst IsThere (was.gone name undotted h) there)

-- another file gets a state, and no file of the list does
other_list : {old new : Possible} {name : List ℕ} {state : DiskState} → MayAdd old new name state → name ≢ list_name → (file : List ℕ) → IsListFile file → (l : DiskState) → new file l → old file l
other_list adds other file of_list l is = ⊎_elim (λ before. before) (λ p. absurd (other (sym p.0 ∙ of_list))) (adds.each file l is)

-- a managed file that no unfinished collection has done may be in one state more
pub covered_file : {old new : Possible} {before now : List ℕ → DiskState} {names : ManagedNames} {name : List ℕ} {state : DiskState} → MayAdd old new name state → name ≢ list_name
    → (is_undotted name ≡ true → IsThere state → (has names.managed name ≡ true) × (has (done_names names.collections) name ≡ false)) → AreGone now names → IsCovered old before names → IsCovered new now names
covered_file {old} {new} {names = names} {name = name} {state = state} adds other on gone was =
    let of_old = other_list adds other in
    record {
      forgets_none = record {
        lists = λ file of_list l is. was.forgets_none.lists file of_list l (of_old file of_list l is);
        each = λ n undotted s is there. ⊎_elim
            (λ before. still_listed old new n of_old (was.forgets_none.each n undotted s before there))
            (λ p. let it = on (ap is_undotted (sym p.0) ∙ undotted) (subst IsThere p.1 there) in subst (IsAlwaysListed new) (sym p.0) (still_listed old new name of_old (was.listed name it.0 it.1)))
            (adds.each n s is);
      };
      covers = λ n undotted s is there. ⊎_elim
          (λ before. was.covers n undotted s before there)
          (λ p. ap (has names.managed) p.0 ∙ (on (ap is_undotted (sym p.0) ∙ undotted) (subst IsThere p.1 there)).0)
          (adds.each n s is);
      listed = λ n h free. still_listed old new n of_old (was.listed n h free);
      gone = gone;
    }

-- a name is on the list of this text
on_text : (text : List ℕ) (put : List (List ℕ)) (n : List ℕ) → IsListOf text put → has put n ≡ true → (l : DiskState) → l ≡ Sealed text → IsOnEach l n
on_text text put n listed h l is read may =
    let it : read ≡ Some text = subst (λ s. MayRead s read) is may in
    (put, subst (λ r. Lists r put) (sym it) listed, h)

is_a_list : (text : List ℕ) (put : List (List ℕ)) → IsListOf text put → (l : DiskState) → l ≡ Sealed text → IsAList l
is_a_list text put listed l is read may =
    let it : read ≡ Some text = subst (λ s. MayRead s read) is may in
    (put, subst (λ r. Lists r put) (sym it) listed)

-- a name that is always listed is so still where the list may be that of other names, among which it is
pub listed_besides : {old new : Possible} {text : List ℕ} {put : List (List ℕ)} → IsListOf text put → MayAdd old new list_name (Sealed text) → (n : List ℕ) → has put n ≡ true → IsAlwaysListed old n → IsAlwaysListed new n
listed_besides {text = text} {put = put} listed adds n h on = (on.0, on.1, λ l is. ⊎_elim (λ before. on.2 l before) (λ p. on_text text put n listed h l p.1) (adds.each on.0 l is))

-- and where it is that of these names alone
pub listed_saved : (possible : Possible) {text : List ℕ} {put : List (List ℕ)} → IsListOf text put → ((l : DiskState) → possible list_name l → l ≡ Sealed text) → (n : List ℕ) → has put n ≡ true → IsAlwaysListed possible n
listed_saved possible {text} {put} listed only n h = (list_name, refl, λ l is. on_text text put n listed h l (only l is))

-- The list may be that of other names, which are those of each file, and of each managed name that no unfinished collection has done.
pub covered_list : {old new : Possible} {before now : List ℕ → DiskState} {text : List ℕ} {names : ManagedNames} {put : List (List ℕ)} → IsListOf text put → ((n : List ℕ) → is_undotted n ≡ true → (s : DiskState) → old n s → IsThere s → has put n ≡ true)
    → ((n : List ℕ) → has names.managed n ≡ true → has (done_names names.collections) n ≡ false → has put n ≡ true) → MayAdd old new list_name (Sealed text) → AreGone now names → IsCovered old before names → IsCovered new now names
covered_list {old} {new} {text = text} {names = names} {put = put} listed files more adds gone was =
    let of_old : (n : List ℕ) → is_undotted n ≡ true → (s : DiskState) → new n s → old n s = λ n undotted s is. ⊎_elim (λ before. before) (λ p. absurd (true≢false (sym undotted ∙ ap is_undotted p.0))) (adds.each n s is) in
    record {
      forgets_none = record {
        lists = λ file of_list l is. ⊎_elim (λ before. was.forgets_none.lists file of_list l before) (λ p. is_a_list text put listed l p.1) (adds.each file l is);
        each = λ n undotted s is there. listed_besides listed adds n (files n undotted s (of_old n undotted s is) there) (was.forgets_none.each n undotted s (of_old n undotted s is) there);
      };
      covers = λ n undotted s is. was.covers n undotted s (of_old n undotted s is);
      listed = λ n h free. listed_besides listed adds n (more n h free) (was.listed n h free);
      gone = gone;
    }

-- The list is that of other names, which are those of each file: they are the managed ones.
pub covered_saved : {possible : Possible} {now : List ℕ → DiskState} {text : List ℕ} {names : ManagedNames} {put : List (List ℕ)} → IsListOf text put → ((n : List ℕ) → is_undotted n ≡ true → (s : DiskState) → possible n s → IsThere s → has put n ≡ true)
    → ((l : DiskState) → possible list_name l → l ≡ Sealed text) → IsCovered possible now names → IsCovered possible now (record names { managed = put })
covered_saved {possible} {text = text} {put = put} listed files only was = record {
  forgets_none = was.forgets_none;
  covers = files;
  listed = λ n h free. listed_saved possible listed only n h;
  gone = was.gone;
}

-- collections have done other names, of which those that are managed were done before or are done still
pub covered_done : {possible : Possible} {now : List ℕ → DiskState} {names : ManagedNames} {later : Collections} → ((n : List ℕ) → has names.managed n ≡ true → has (done_names later) n ≡ false → has (done_names names.collections) n ≡ false)
    → AreGone now (record names { collections = later }) → IsCovered possible now names → IsCovered possible now (record names { collections = later })
covered_done still gone was = record {
  forgets_none = was.forgets_none;
  covers = was.covers;
  listed = λ n h free. was.listed n h (still n h free);
  gone = gone;
}

-- ---- runs of calls

-- nothing was done
pub track_same : {D W C : Type 0} (g : Ghosts D W C) {old : D × ManagedNames} → IsTracked g old → KeepsTrack g old old
track_same g {old} was = record { tracked = was; moments = started ListsEachFile fewer_listed (g.disk old.0) was.forgets_none }

-- a file that is managed and not done gets a state more
pub track_file : {D W C : Type 0} (g : Ghosts D W C) {old : D × ManagedNames} {new : D} {name : List ℕ} {state : DiskState} → Elapses (g.disk old.0) (g.disk new) → MayAdd (possible_now (g.disk old.0)) (possible_now (g.disk new)) name state
    → name ≢ list_name → (is_undotted name ≡ true → IsThere state → (has old.1.managed name ≡ true) × (has (done_names old.1.collections) name ≡ false)) → AreGone (g.disk new).now old.1 → IsTracked g old → KeepsTrack g old (new, old.1)
track_file g time adds other on gone was = track_step g time was (covered_file adds other on gone was)

-- the names alone are others
pub track_names : {D W C : Type 0} (g : Ghosts D W C) {old : D × ManagedNames} {names : ManagedNames} → IsCovered (possible_now (g.disk old.0)) (g.disk old.0).now names → IsTracked g old → KeepsTrack g old (old.0, names)
track_names g {old} now was = record { tracked = now; moments = started ListsEachFile fewer_listed (g.disk old.0) was.forgets_none }

-- what a call does that begins with the struct taken apart
pub track_from : {D W C : Type 0} (g : Ghosts D W C) {old inside new : D × ManagedNames} → inside ≡ old → (IsTracked g inside → KeepsTrack g inside new) → IsTracked g old → KeepsTrack g old new
track_from g {new = new} same keeps was = subst (λ v. KeepsTrack g v new) same (keeps (subst (IsTracked g) (sym same) was))

-- ---- the managed names on the list

-- another file gets a state
pub listed_file : {D W C : Type 0} (g : Ghosts D W C) (old : D × ManagedNames) (new : D) (now : ManagedNames) {name : List ℕ} {state : DiskState} → now.managed ≡ old.1.managed → MayAdd (possible_now (g.disk old.0)) (possible_now (g.disk new)) name state → name ≢ list_name
    → AreListed g old → AreListed g (new, now)
listed_file g old new now names adds other was n h = still_listed (possible_now (g.disk old.0)) (possible_now (g.disk new)) n (other_list adds other) (was n (ap (λ l. has l n) (sym names) ∙ h))

-- a call that begins with the struct taken apart
pub listed_by_file : {D W C : Type 0} (g : Ghosts D W C) {old inside : D × ManagedNames} {new : D} {name : List ℕ} {state : DiskState} → inside ≡ old → MayAdd (possible_now (g.disk inside.0)) (possible_now (g.disk new)) name state → name ≢ list_name → AreListed g old → AreListed g (new, inside.1)
listed_by_file g {inside = inside} {new} same adds other was = listed_file g inside new inside.1 refl adds other (subst (AreListed g) (sym same) was)

-- one after which no state is possible besides
pub listed_by_within : {D W C : Type 0} (g : Ghosts D W C) {old inside : D × ManagedNames} {new : D} → inside ≡ old → Within (possible_now (g.disk inside.0)) (possible_now (g.disk new)) → AreListed g old → AreListed g (new, inside.1)
listed_by_within g {inside = inside} {new} same within was = listed_within g inside (new, inside.1) refl within (subst (AreListed g) (sym same) was)
