-- What a crash may leave of a collection at once, which tries its names behind a sync.
use Rattle.std.proofs.Common.{◌≡◌, ⊎_elim, ◌⊎◌, inl, inr, ℕ, Bool, true, false, cond, List, [], ◌∷◌, ◌++◌, refl, ap, ◌∙◌, Result, Ok}
use Rattle.std.proofs.lemmas.Bool.{or_left, or_right}
use Rattle.tv_formats.specs.Disk.{Sealed, Possible, Disk, possible_now, Within, MayAdd, Throughout, TouchesOnly}
use Rattle.tv_formats.specs.Names.{has, is, list_name}
use Rattle.tv_formats.proofs.CollectedNames.{has_append}
use Rattle.tv_formats.proofs.Entries.{is_itself}
use Rattle.tv_formats.proofs.DiskLaws.{HoldsOfFewer, goes_on_run, at_end, weaker, touches_then}
use Rattle.tv_managed.specs.Crashes.{AnyOrList, Gains, IsLost, IsSettledBut, LosesNames, SettlesStates, TriesStates}
use Rattle.tv_device.specs.Images.{KeepsDisk}
use Rattle.tv_managed.proofs.Touching.{gained_more, gained_none, gained_same, gained_then}

-- ---- names that are tried

-- none was
pub loses_none : (names : List (List ℕ)) (disk : Disk) → LosesNames names disk disk
loses_none names disk = record { moments = gained_same (IsLost names) disk; now = record { each = λ n other. refl } }

-- a call that changes nothing loses none
pub loses_kept : (names : List (List ℕ)) {old new : Disk} → KeepsDisk old new → LosesNames names old new
loses_kept names keeps = record { moments = gained_none (IsLost names) keeps; now = record { each = λ n other. keeps.states.now n } }

-- and these are among others
pub loses_more : {names more : List (List ℕ)} {old new : Disk} → ((n : List ℕ) → has names n ≡ true → has more n ≡ true) → LosesNames names old new → LosesNames more old new
loses_more among loses = record {
  moments = gained_more (λ n s it. (among n it.0, it.1)) loses.moments;
  now = record { each = λ n other. loses.now.each n (λ h. other (among n h)) };
}

-- one of them was
pub loses_one : {A E : Type 0} {says_done : A → Bool} {old new : Disk} {name : List ℕ} {result : Result A E} (names : List (List ℕ)) → has names name ≡ true → TriesStates says_done old new name result → LosesNames names old new
loses_one names one tries = record {
  moments = weaker tries.moments (λ p adds. record { each = λ n s is. ⊎_elim (λ before. inl before) (λ it. inr (ap (has names) it.0 ∙ one, it.1)) (adds.each n s is) });
  now = record { each = λ n other. tries.now.each n (λ same. other (ap (has names) same ∙ one)) };
}

-- some were, and then others
pub loses_then : {names : List (List ℕ)} {old mid new : Disk} → LosesNames names old mid → LosesNames names mid new → LosesNames names old new
loses_then first second = record { moments = gained_then first.moments second.moments; now = record { each = λ n other. second.now.each n other ∙ first.now.each n other } }

-- one name was tried, after these: it is among those that are done, or nothing changed
pub loses_tried : {E : Type 0} (gone : Bool) (deleted : List (List ℕ)) {old new : Disk} {name : List ℕ} → TriesStates {E = E} (λ it. it) old new name (Ok gone) → LosesNames (deleted ++ cond gone (name ∷ []) []) old new
loses_tried gone deleted {old} {new} {name} tries = either gone refl where
  either : (b : Bool) → gone ≡ b → LosesNames (deleted ++ cond b (name ∷ []) []) old new
  either true done = loses_one (deleted ++ name ∷ []) (has_append deleted (name ∷ []) name ∙ or_right (has deleted name) _ (or_left (is name name) _ (is_itself name))) tries
  either false failed = loses_kept _ (tries.refused failed)

-- some were done, and then those of one name more
pub loses_on : (deleted more : List (List ℕ)) {old mid new : Disk} → LosesNames deleted old mid → LosesNames (deleted ++ more) mid new → LosesNames (deleted ++ more) old new
loses_on deleted more first second = loses_then (loses_more (λ n h. has_append deleted more n ∙ or_left (has deleted n) _ h) first) second

loses_touch : {names : List (List ℕ)} {old new : Disk} → LosesNames names old new → TouchesOnly (AnyOrList names) old new
loses_touch loses = record {
  moments = weaker loses.moments (λ p gains. record { each = λ n other s is. ⊎_elim (λ before. before) (λ it. absurd (other (inl it.0))) (gains.each n s is) });
  now = record { each = λ n other. loses.now.each n (λ h. other (inl h)) };
}

-- ---- the sync before them

-- no state is possible besides those before, or all is settled, but that these names may be absent, and the list
-- have this text
abbrev pub IsSynced : (old : Disk) → (names : List (List ℕ)) → (text : List ℕ) → Possible → Type 0
IsSynced old names text possible = Within (possible_now old) possible ⊎ IsSettledBut old.now names text possible

fewer_synced : (old : Disk) (names : List (List ℕ)) (text : List ℕ) → HoldsOfFewer (IsSynced old names text)
fewer_synced old names text before after within was =
    ⊎_elim (λ more. inl (record { each = λ n s is. more.each n s (within.each n s is) })) (λ settled. inr (record { each = λ n s is. settled.each n s (within.each n s is) })) was

-- a sync touches no name
pub settles_touch : {A E : Type 0} {old new : Disk} {result : Result A E} (touched : List ℕ → Type 0) → SettlesStates old new result → TouchesOnly touched old new
settles_touch touched settles = record { moments = weaker settles.moments (λ p within. record { each = λ n other s is. within.each n s is }); now = record { each = λ n other. settles.now n } }

-- and no state is possible besides
pub settles_synced : {A E : Type 0} {old new : Disk} {result : Result A E} (names : List (List ℕ)) (text : List ℕ) → SettlesStates old new result → Throughout (IsSynced old names text) old new
settles_synced names text settles = weaker settles.moments (λ p within. inl within)

-- what names were tried for, behind a sync
pub record TriesSynced (names : List (List ℕ)) (old new : Disk) : Type 0 where
  pub touches : TouchesOnly (AnyOrList names) old new
  pub synced : (text : List ℕ) → Throughout (IsSynced old names text) old new
  pub settled : (text : List ℕ) → IsSettledBut old.now names text (possible_now new)

lost_or_stood : {A E : Type 0} {old mid : Disk} {names : List (List ℕ)} {x : A} (text : List ℕ) {possible : Possible} → SettlesStates {E = E} old mid (Ok x) → Gains (IsLost names) (possible_now mid) possible → IsSettledBut old.now names text possible
lost_or_stood text settles gains = record { each = λ n s is. ⊎_elim (λ before. inl (settles.ok.each n s before ∙ settles.now n)) (λ it. inr (inl it)) (gains.each n s is) }

pub tries_synced : {A E : Type 0} {old mid new : Disk} {x : A} (names : List (List ℕ)) → SettlesStates {E = E} old mid (Ok x) → LosesNames names mid new → TriesSynced names old new
tries_synced {old = old} names settles loses = record {
  touches = touches_then (settles_touch _ settles) (loses_touch loses);
  synced = λ text. goes_on_run _ (fewer_synced old names text) (settles_synced names text settles) (weaker loses.moments (λ p gains. inr (lost_or_stood text settles gains)));
  settled = λ text. lost_or_stood text settles (at_end loses.moments);
}

-- and then the list was given this text, or may have been
pub lists_synced : {old mid new : Disk} {names : List (List ℕ)} {text : List ℕ} → TriesSynced names old mid → Throughout (λ possible. MayAdd (possible_now mid) possible list_name (Sealed text)) mid new → Throughout (IsSynced old names text) old new
lists_synced {old} {names = names} {text = text} tries listed =
    goes_on_run _ (fewer_synced old names text) (tries.synced text)
    (weaker listed (λ p adds. inr (record { each = λ n s is. ⊎_elim (λ before. (tries.settled text).each n s before) (λ it. inr (inr it)) (adds.each n s is) })))
