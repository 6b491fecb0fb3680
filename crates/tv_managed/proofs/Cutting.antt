-- How the end of a collection keeps track: the list is cut behind a sync.
use Rattle.std.proofs.Common.{◌≡◌, ⊎_elim, ℕ, true, false, true≢false, List, refl, sym, ap, subst, ◌∙◌, Result, Ok, Err}
use borrow.Table.Steps.{cases}
use Rattle.std.specs.List.{list_all}
use Rattle.tv_formats.specs.Disk.{DiskState, Absent, Sealed, IsThere, Possible, possible_now, MayAdd, Throughout}
use Rattle.tv_formats.specs.Listed.{ListsEachFile}
use Rattle.tv_formats.specs.Listing.{IsListOf, list_text}
use Rattle.tv_formats.specs.Names.{has, is_plain, is_undotted, list_name}
use Rattle.tv_formats.proofs.DiskLaws.{at_end, fewer_listed, goes_on, goes_on_run, started, weaker}
use Rattle.tv_formats.proofs.Results.{on_ok}
use Rattle.tv_base.specs.declared.io.IoError.{IoError}
use Rattle.tv_device.specs.Images.{Settles}
use Rattle.tv_device.specs.declared.directory.Directory.{Ghosts}
use Rattle.tv_managed.specs.Crashes.{CutsList, Forgets, IsCovered, IsTracked, LacksDone, SavesText, ShortensSafely, ShortensStates}
use Rattle.tv_managed.specs.Names.{ManagedNames, done_names}
use Rattle.tv_managed.proofs.Listing.{gone_saved}
use Rattle.tv_managed.proofs.PlainManaged.{plain_undotted}
use Rattle.tv_managed.proofs.Touching.{adds_run, gained_run, gained_same, gained_then, gained_within}
use Rattle.tv_managed.proofs.Tracking.{covered_list, covered_saved, isnt_the_list, listed_saved, track_same}
use Rattle.tv_managed.specs.TrackLaws.{covered_within, listed_within, track_within}

-- no name is forgotten where they are as they were
kept_all : {X : Type 0} (old new : List (List ℕ)) (n : List ℕ) → new ≡ old → has old n ≡ true → has new n ≡ false → X
kept_all old new n same h lost = absurd (true≢false (sym h ∙ ap (λ l. has l n) (sym same) ∙ lost))

-- the list isn't cut
pub cuts_none : {A E D W C : Type 0} (g : Ghosts D W C) (left : List (List ℕ)) (old : D × ManagedNames) (result : Result A E) → CutsList g left old old result
cuts_none g left old result lacks = record {
  tracks = track_same g;
  listed = on_ok result (λ was. was);
  states = record {
    moments = adds_run (gained_same _ (g.disk old.0));
    now = record { each = λ n other. refl };
    forgets = λ was n h lost. kept_all old.1.managed old.1.managed n refl h lost;
  };
}

-- the sync before it was refused
pub cuts_refused : {A E B F D W C : Type 0} (g : Ghosts D W C) (left : List (List ℕ)) (old new : D × ManagedNames) {synced : Result A E} (result : Result B F) → new.1 ≡ old.1 → Settles (g.disk old.0) (g.disk new.0) synced → CutsList g left old new result
cuts_refused g left old new result same sync lacks = record {
  tracks = track_within g same sync.time sync.no_more sync.now;
  listed = on_ok result (listed_within g old new (ap (λ v. v.managed) same) sync.no_more);
  states = record {
    moments = adds_run (gained_within _ sync.time sync.no_more);
    now = record { each = λ n other. sync.now n };
    forgets = λ was n h lost. kept_all old.1.managed new.1.managed n (ap (λ v. v.managed) same) h lost;
  };
}

module _ {A X E D W C : Type 0} (g : Ghosts D W C) (old : D × ManagedNames) (mid new : D) (left : List (List ℕ)) (result : Result A IoError) (x : X) (sync : Settles {A = X} {E = E} (g.disk old.0) (g.disk mid) (Ok x)) (saves : SavesText (g.disk mid) (g.disk new) (list_text left) result) (listed : IsListOf (list_text left) left)
    (lacks : LacksDone left old.1) (plain : list_all is_plain old.1.managed ≡ true) where
  -- behind the sync
  synced : IsTracked g old → IsCovered (possible_now (g.disk mid)) (g.disk mid).now old.1
  synced was = covered_within sync.no_more (λ n undotted h. sync.now n ∙ was.gone n undotted h) was

  -- what is managed, and not left, is absent
  absent : IsTracked g old → (n : List ℕ) → has old.1.managed n ≡ true → has left n ≡ false → (g.disk mid).now n ≡ Absent
  absent was n h lost = (synced was).gone n (plain_undotted old.1.managed n plain h) (lacks n h lost)

  files : IsTracked g old → (n : List ℕ) → is_undotted n ≡ true → (s : DiskState) → possible_now (g.disk mid) n s → IsThere s → has left n ≡ true
  files was n undotted s is there = cases (has left n) (λ e. e) (λ e. absurd (subst IsThere (sync.ok.each n s is ∙ absent was n ((synced was).covers n undotted s is there) e) there))

  more : (n : List ℕ) → has old.1.managed n ≡ true → has (done_names old.1.collections) n ≡ false → has left n ≡ true
  more n h free = cases (has left n) (λ e. e) (λ e. absurd (true≢false (sym (lacks n h e) ∙ free)))

  covered : (possible : Possible) (now : List ℕ → DiskState) → (IsTracked g old → (n : List ℕ) → is_undotted n ≡ true → has (done_names old.1.collections) n ≡ true → now n ≡ Absent) → MayAdd (possible_now (g.disk mid)) possible list_name (Sealed (list_text left)) → IsTracked g old → IsCovered possible now old.1
  covered possible now gone adds was = covered_list listed (files was) more adds (gone was) (synced was)

  behind : IsTracked g old → IsCovered (possible_now (g.disk new)) (g.disk new).now old.1
  behind was = covered (possible_now (g.disk new)) (g.disk new).now (λ was. gone_saved (g.disk mid) (g.disk new) saves.others (synced was)) (at_end saves.moments) was

  cut_moments : IsTracked g old → Throughout ListsEachFile (g.disk old.0) (g.disk new)
  cut_moments was =
      goes_on_run ListsEachFile fewer_listed (goes_on ListsEachFile fewer_listed (started ListsEachFile fewer_listed (g.disk old.0) was.forgets_none) sync.time (synced was).forgets_none)
      (weaker saves.moments (λ p adds. (covered p (g.disk mid).now (λ was. (synced was).gone) adds was).forgets_none))

  left_files : IsTracked g old → (n : List ℕ) → is_undotted n ≡ true → (s : DiskState) → possible_now (g.disk new) n s → IsThere s → has left n ≡ true
  left_files was n undotted s is there = ⊎_elim (λ before. files was n undotted s before there) (λ p. absurd (isnt_the_list n undotted p.0)) ((at_end saves.moments).each n s is)

  cut_states : (now : ManagedNames) → Forgets g old (new, now) → ShortensStates g left old (new, now)
  cut_states now forgets = record {
    moments = adds_run (gained_then (gained_within _ sync.time sync.no_more) (gained_run saves.moments));
    now = record { each = λ n other. saves.others n other ∙ sync.now n };
    forgets = λ was. forgets;
  }

  -- the shorter list was saved
  pub cuts : {Y F : Type 0} (y : Y) → ((l : DiskState) → possible_now (g.disk new) list_name l → l ≡ Sealed (list_text left)) → ShortensSafely {E = F} g (ShortensStates g left old (new, record old.1 { managed = left })) old (new, record old.1 { managed = left }) (Ok y)
  cuts y only = record {
    tracks = λ was. record { tracked = covered_saved listed (left_files was) only (behind was); moments = cut_moments was };
    listed = λ was n h. listed_saved (possible_now (g.disk new)) listed only n h;
    states = record {
      moments = adds_run (gained_then (gained_within _ sync.time sync.no_more) (gained_run saves.moments));
      now = record { each = λ n other. saves.others n other ∙ sync.now n };
      forgets = λ was n h lost s is. ⊎_elim
          (λ before. sync.ok.each n s before ∙ absent was n h lost)
          (λ p. absurd (isnt_the_list n (plain_undotted old.1.managed n plain h) p.0))
          ((at_end saves.moments).each n s is);
    };
  }

  -- it may have been
  pub may_cut : {Y F : Type 0} (e : F) → ShortensSafely {A = Y} g (ShortensStates g left old (new, old.1)) old (new, old.1) (Err e)
  may_cut e = record {
    tracks = λ was. record { tracked = behind was; moments = cut_moments was };
    listed = tt;
    states = cut_states old.1 (λ n h lost. kept_all old.1.managed old.1.managed n refl h lost);
  }
