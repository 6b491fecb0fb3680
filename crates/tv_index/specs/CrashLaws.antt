-- What calls leave to a crash, one after the other, where at most one of them makes an index.
use Rattle.std.proofs.Common.{◌∙◌, ⊎_elim, inl, inr, ℕ, List, Result, refl, sym}
use Rattle.tv_formats.specs.Disk.{Disk, IsSettled, possible_now, Throughout, Within}
use Rattle.tv_formats.specs.Listed.{ImagesListTheirFiles}
use Rattle.tv_formats.proofs.DiskLaws.{HoldsOfFewer, at_end, fewer_within, goes_on_run, started, weaker, within_step}
use Rattle.tv_device.specs.Images.{KeepsDisk, SameStates, Settles}
use Rattle.tv_device.specs.declared.directory.Directory.{Ghosts}
use Rattle.tv_managed.specs.Names.{ManagedNames}
use Rattle.tv_managed.specs.TrackLaws.{covered_within, listed_within, within_then}
use Rattle.tv_index.specs.Crashes.{IsOldOrMade, IsOldOrRelisted, MayMake, OnlyLooks, TracksFrom}

-- Where a crash may leave what stood before a call, or what the call made, it may leave either of any
-- states that are among those.
pub fewer_made : (made : Type 0) (old : Disk) (text : List ℕ) → HoldsOfFewer (IsOldOrMade made old text)
fewer_made made old text before after within was =
    ⊎_elim (λ no_more. inl (fewer_within (possible_now old) before after within no_more))
    (λ gains. inr (record { each = λ n s is. gains.each n s (within.each n s is) })) was

-- Where a crash may leave what stood before a call, or the list that the call saved, it may leave either of
-- any states that are among those.
pub fewer_relisted : (made : Type 0) (old : Disk) → HoldsOfFewer (IsOldOrRelisted made old)
fewer_relisted made old before after within was =
    ⊎_elim (λ no_more. inl (fewer_within (possible_now old) before after within no_more))
    (λ gains. inr (record { each = λ n s is. gains.each n s (within.each n s is) })) was

-- images of fewer states list their files too
pub fewer_imaged : HoldsOfFewer ImagesListTheirFiles
fewer_imaged before after within was = record {
  each = λ image is.
      was.each image (record { each = λ n. let e = is.each n in (e.0, within.each n e.0 e.1, e.2) });
}

-- what is settled stays so, where each name stands as it stood and no state is possible besides
pub settled_within : {old new : Disk} → Within (possible_now old) (possible_now new) → SameStates old new
    → IsSettled old → IsSettled new
settled_within within stands was = record {
  each = λ n s is. was.each n s (within.each n s is) ∙ sym (stands n);
}

-- what is made behind calls that make nothing
pub made_behind : {old mid new : Disk} (text : List ℕ) {made making : Type 0} → (made → making)
    → Throughout (Within (possible_now old)) old mid → SameStates old mid
    → Throughout (IsOldOrMade made mid text) mid new → Throughout (IsOldOrMade making old text) old new
made_behind {old} {mid} text {making = making} so first stands second =
    goes_on_run _ (fewer_made making old text) (weaker first (λ p within. inl within))
    (weaker second (λ p states. ⊎_elim
    (λ within. inl (fewer_within (possible_now old) (possible_now mid) p within (at_end first)))
    (λ gains. inr (record {
      each = λ n s is. ⊎_elim (λ standing. inl (standing ∙ stands n))
          (λ given. inr (so given.0, given.1)) (gains.each n s is);
    })) states))

-- what is listed behind calls that make nothing
pub relisted_behind : {old mid new : Disk} {made making : Type 0} → (made → making)
    → Throughout (Within (possible_now old)) old mid → SameStates old mid
    → Throughout (IsOldOrRelisted made mid) mid new → Throughout (IsOldOrRelisted making old) old new
relisted_behind {old} {mid} {making = making} so first stands second =
    goes_on_run _ (fewer_relisted making old) (weaker first (λ p within. inl within))
    (weaker second (λ p states. ⊎_elim
    (λ within. inl (fewer_within (possible_now old) (possible_now mid) p within (at_end first)))
    (λ gains. inr (record {
      each = λ n s is. ⊎_elim (λ standing. inl (standing ∙ stands n))
          (λ given. inr (so given.0, given.1)) (gains.each n s is);
    })) states))

module _ {D W C : Type 0} (g : Ghosts D W C) where
  -- nothing was done
  pub looks_none : (d : D) → OnlyLooks g d d
  looks_none d = record {
    moments = started _ (fewer_within (possible_now (g.disk d))) (g.disk d) (record { each = λ n s is. is });
    stands = λ n. refl;
  }

  -- a call that only reads
  pub looks_kept : {before now : D} → KeepsDisk (g.disk before) (g.disk now) → OnlyLooks g before now
  looks_kept keeps = record {
    moments = within_step keeps.time keeps.states.possible.no_more;
    stands = keeps.states.now;
  }

  -- a sync
  pub looks_settled : {A E : Type 0} {before now : D} {result : Result A E}
      → Settles (g.disk before) (g.disk now) result → OnlyLooks g before now
  looks_settled settles = record { moments = within_step settles.time settles.no_more; stands = settles.now }

  -- nothing was made, and then nothing was
  pub looks_then : {before mid now : D} → OnlyLooks g before mid
      → OnlyLooks g mid now → OnlyLooks g before now
  looks_then first second = record {
    moments = within_then first.moments second.moments;
    stands = λ n. second.stands n ∙ first.stands n;
  }

  -- nothing was made, and then an index may have been
  pub makes_behind : {before mid now : D} (text : List ℕ) {made making : Type 0} → (made → making)
      → OnlyLooks g before mid → MayMake g made text mid now → MayMake g making text before now
  makes_behind {before} text so looks makes = record {
    moments = made_behind text so looks.moments looks.stands makes.moments;
    listed = λ lists.
        let first =
        weaker looks.moments (λ p within. fewer_imaged (possible_now (g.disk before)) p within lists) in
        goes_on_run ImagesListTheirFiles fewer_imaged first (makes.listed (at_end first));
  }

  module _ (text : List ℕ) (made : Type 0) where
    -- nothing was made
    pub looks_make : {before now : D} → OnlyLooks g before now → MayMake g made text before now
    looks_make {before} looks = record {
      moments = weaker looks.moments (λ p within. inl within);
      listed = λ lists. weaker looks.moments (λ p within.
          fewer_imaged (possible_now (g.disk before)) p within lists);
    }

    -- an index may have been made, and then nothing was
    pub makes_then : {before mid now : D} → MayMake g made text before mid → OnlyLooks g mid now
        → MayMake g made text before now
    makes_then {before} {mid} makes looks = record {
      moments = goes_on_run _ (fewer_made made (g.disk before) text) makes.moments
          (weaker looks.moments (λ p within. fewer_made made (g.disk before) text
          (possible_now (g.disk mid)) p within (at_end makes.moments)));
      listed = λ lists.
          let first = makes.listed lists in
          goes_on_run ImagesListTheirFiles fewer_imaged first
          (weaker looks.moments (λ p within. fewer_imaged
          (possible_now (g.disk mid)) p within (at_end first)));
    }

  -- track is kept behind calls that make nothing
  pub tracks_behind : {before mid : D} {now : D × ManagedNames}
      → OnlyLooks g before mid → TracksFrom g mid now
      → TracksFrom g before now
  tracks_behind {before} {mid} looks tracks =
      let fewer =
      fewer_imaged (possible_now (g.disk before)) (possible_now (g.disk mid)) (at_end looks.moments) in
      record {
        settled = tracks.settled;
        tracked = λ images. tracks.tracked (fewer images);
        listed = λ images. tracks.listed (fewer images);
      }

  -- and it is kept on by such calls
  pub tracks_then : {before mid now : D} (names : ManagedNames) → TracksFrom g before (mid, names)
      → OnlyLooks g mid now → TracksFrom g before (now, names)
  tracks_then {mid = mid} {now = now} names tracks looks =
      let within : Within (possible_now (g.disk mid)) (possible_now (g.disk now)) = at_end looks.moments in
      record {
        settled = settled_within within looks.stands tracks.settled;
        tracked = λ images.
            let was = tracks.tracked images in
            covered_within within (λ n undotted done. looks.stands n ∙ was.gone n undotted done) was;
        listed = λ images. listed_within g (mid, names) (now, names) refl within (tracks.listed images);
      }
