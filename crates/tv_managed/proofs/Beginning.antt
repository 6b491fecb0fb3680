-- How the beginning of a collection keeps track.
use Rattle.std.proofs.Common.{◌≡◌, ℕ, List, [], refl, sym, ap, subst, ◌∙◌, None, Result, Ok, Err}
use Rattle.std.specs.Prelude.{IfOk, OnErr}
use Rattle.tv_formats.specs.Disk.{possible_now}
use Rattle.tv_formats.specs.Names.{has}
use Rattle.tv_formats.specs.Collections.{begun, collection_at, with_begun}
use Rattle.tv_formats.proofs.DiskLaws.{at_end}
use Rattle.tv_device.specs.declared.directory.Directory.{Ghosts}
use Rattle.tv_managed.specs.Collecting.{Begins, beginning}
use Rattle.tv_managed.specs.Crashes.{IsCovered, LeavesSafely, SettlesStates}
use Rattle.tv_managed.specs.Names.{ManagedNames, done_names}
use Rattle.tv_managed.proofs.Collections.{none_done}
use Rattle.tv_managed.proofs.Giving.{covered_settles, track_settles}
use Rattle.tv_managed.proofs.Tracking.{covered_done}
use Rattle.tv_managed.specs.TrackLaws.{listed_within}

-- a collection that begins has done nothing
same_done : (names : ManagedNames) (taken n : List (List ℕ)) (m : List ℕ) → collection_at names.collections names.collections.next ≡ None → has (done_names (with_begun names.collections taken)) m ≡ has (done_names names.collections) m
same_done names taken n m free = none_done names.collections.unfinished names.collections.next (begun taken) m free refl

-- whatever it answers, track is kept
pub begun_safely : {E D W C : Type 0} (g : Ghosts D W C) (taken : List (List ℕ)) {old new : D × ManagedNames} (result : Result ℕ E) → SettlesStates (g.disk old.0) (g.disk new.0) result → IfOk result (Begins taken old.1 new.1) → OnErr result (new.1 ≡ old.1)
    → LeavesSafely g (SettlesStates (g.disk old.0) (g.disk new.0) result) old new
begun_safely g taken {old} {new} (Ok number) settles begins err = record {
  tracks = λ was.
      let free : collection_at old.1.collections old.1.collections.next ≡ None = subst (λ n. collection_at old.1.collections n ≡ None) begins.numbered begins.free in
      let covered : IsCovered (possible_now (g.disk new.0)) (g.disk new.0).now (beginning old.1 taken) =
      covered_done (λ n h none. sym (same_done old.1 taken [] n free) ∙ none) (λ n undotted h. (covered_settles g new settles was).gone n undotted (sym (same_done old.1 taken [] n free) ∙ h)) (covered_settles g new settles was) in
      track_settles g settles (subst (IsCovered (possible_now (g.disk new.0)) (g.disk new.0).now) (sym begins.names) covered) was;
  listed = listed_within g old new (ap (λ v. v.managed) begins.names) (at_end settles.moments);
  states = settles;
}
begun_safely g taken {old} {new} (Err e) settles begins err = record {
  tracks = λ was. track_settles g settles (subst (IsCovered (possible_now (g.disk new.0)) (g.disk new.0).now) (sym err) (covered_settles g new settles was)) was;
  listed = listed_within g old new (ap (λ v. v.managed) err) (at_end settles.moments);
  states = settles;
}
