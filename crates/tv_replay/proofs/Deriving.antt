-- The headline from the clauses of a replay, and of a run.
use Rattle.std.proofs.Common.{◌≡◌, ◌⊎◌, ℕ, List, [], ◌∷◌, ◌++◌, Some, Option, ◌∙◌, refl, sym, subst, inl, inr, ⊎_elim}
use Rattle.std.proofs.lemmas.Option.{same_Some}
use Rattle.tv_base.specs.declared.error.TantivyError.{TantivyError}
use Rattle.tv_device.specs.Telling.{TellsPart}
use Rattle.tv_device.specs.declared.directory.Directory.{Ghosts}
use Rattle.tv_formats.specs.Files.{Heard}
use Rattle.tv_formats.specs.Sound.{IsSoundDirectory, IsSoundStart}
use Rattle.tv_formats.specs.Schemas.{IsSchema, stripped}
use Rattle.tv_replay.specs.declared.replaying.Tally.{Tally}
use Rattle.tv_replay.specs.ErrorLines.{error_line}
use Rattle.tv_replay.specs.Headline.{EndsSoundly, Headline, HearsAtMostOne, RunsSoundly, StartsSoundly}
use Rattle.tv_replay.specs.PlaceView.{KeepsFolders, PlaceTold}
use Rattle.tv_replay.specs.Replays.{Replays, ReplayFrame}
use Rattle.tv_replay.specs.Runs.{AskedReplay, Scene, EndsReplay, RefusesReplay, Stops, Succeeds, WantsMemory, memory_line}
use Rattle.tv_replay.specs.WordRuns.{EndsRun}
use Rattle.tv_replay.specs.Surviving.{SurvivesReplay}
use Rattle.tv_store.specs.Telling.{TellsLine}
use Rattle.tv_replay.proofs.Surviving.{fewer_image, keeps_same, survives_unbegun}

pub derived : {O W C : Type 0} (g : Ghosts O W C) (before now : O) (schema script : List ℕ) (left : Option (List ℕ)) (tally : Tally) → g.told.content → g.told.heard → g.told.locks
    → IsSoundStart (stripped schema) (g.view before).reads (g.view before).locks → left ≡ Some script → ReplayFrame g.told (g.view before) (g.view now) → Replays g before now schema left tally
    → Headline g before now schema script tally
derived g before now schema script left tally content heard locks start is frame r =
    let spelled : IsSchema schema (stripped schema) = subst (λ (t : List ℕ). IsSchema schema t) r.spelled.1.text_is r.spelled.1 in
    let index = r.opens content (stripped schema) spelled start.image in
    let holds = r.holds content index in
    record {
      index = index;
      turns = r.turns;
      whole = r.lines script is;
      counted = r.counted;
      told = r.told content heard index;
      refused = r.refused;
      files = holds.files;
      meta = holds.meta;
      managed = holds.listing;
      dotted = frame.dotted content;
      sound = record { image = r.sound content (stripped schema) spelled start.image; free = λ lock. frame.locks locks lock ∙ start.free lock };
      survives = λ t sound. r.survives t heard locks sound index;
    }

pub ran : {O W C : Type 0} (g : Ghosts O W C) (told : PlaceTold) (words : List (List ℕ)) (old new : Scene O) (status : ℕ) → EndsRun g told words old new status
    → (start : StartsSoundly g told words old) → status ≡ 0 → RunsSoundly start new
ran {O = O} g told words old new status ends start zero =
    let s = (ends.replayed start.folder start.path start.words_are).done zero in
    let lent : s.before ≡ start.before = same_Some s.before start.before (sym (s.lent start.place) ∙ start.kept) in
    let same : s.schema ≡ start.schema = same_Some s.schema start.schema (sym (s.schema_is start.place) ∙ start.schema_is) in
    let replays : Replays g start.before s.now start.schema old.script.left s.tally =
    subst (λ (o : O). Replays g o s.now start.schema old.script.left s.tally) lent (subst (λ (b : List ℕ). Replays g s.before s.now b old.script.left s.tally) same s.replays)
    in
    let frame : ReplayFrame g.told (g.view start.before) (g.view s.now) = subst (λ (o : O). ReplayFrame g.told (g.view o) (g.view s.now)) lent s.frame in
    record {
      now = s.now;
      given_back = s.given_back start.place;
      tally = s.tally;
      headline = derived g start.before s.now start.schema start.script old.script.left s.tally start.content start.heard start.locks start.sound start.script_is frame replays;
      read_out = s.read_out start.script start.script_is;
      silent = s.silent.said;
    }

-- ---- what a crash leaves of a run

-- of a line that is reported no more is told than it
heard_once : {tells says other : Type 0} {before now : Heard} {from to : ℕ} {line : List ℕ} → tells → ((tells → TellsLine before now from to line) × says) ⊎ ((tells → (told_at : ℕ) × TellsPart before now told_at line) × other)
    → HearsAtMostOne before now
heard_once {line = line} heard (inl whole) = let told = whole.0 heard in inr (told.moment, line ++ 10 ∷ [], told.heard)
heard_once heard (inr part) = let told = part.0 heard in ⊎_elim inl (λ some. inr (told.0, some.0, some.3)) told.1

-- what was lent is the directory that the folder held
lent_is : {A : Type 0} {held : Option A} {was start : A} → held ≡ Some was → held ≡ Some start → was ≡ start
lent_is {was = was} {start = start} lent kept = same_Some was start (sym lent ∙ kept)

module _ {O W C : Type 0} (g : Ghosts O W C) (told : PlaceTold) (words : List (List ℕ)) (old new : Scene O) (start : StartsSoundly g told words old) (t : g.tells_images)
    (sound : IsSoundDirectory (stripped start.schema) (g.disk start.before) (g.view start.before).locks) where
  abbrev asked : AskedReplay O
  asked = record { folder = start.folder; path = start.path; old = old; new = new }

  -- no replay began
  unbegun : KeepsFolders told old.place new.place → EndsSoundly start new
  unbegun kept = record {
    now = start.before;
    given_back = kept.folders start.place start.folder ∙ start.kept;
    stopped = start.before;
    survives = survives_unbegun g start.before start.schema old.script.left sound;
    since = keeps_same (g.disk start.before);
    heard = inl refl;
    sound = sound;
  }

  -- a replay over the directory of the folder, with its schema, is one that starts soundly
  as_started : (before stopped : O) (schema : List ℕ) → before ≡ start.before → schema ≡ start.schema → SurvivesReplay g before stopped schema old.script.left
      → SurvivesReplay g start.before stopped start.schema old.script.left
  as_started before stopped schema lent same survives =
      subst (λ (d : O). SurvivesReplay g d stopped start.schema old.script.left) lent (subst (λ (b : List ℕ). SurvivesReplay g before stopped b old.script.left) same survives)

  -- a replay came to its end
  ended : Succeeds g told asked → EndsSoundly start new
  ended s =
      let survived = as_started s.before s.now s.schema (lent_is (s.lent start.place) start.kept) (lent_is (s.schema_is start.place) start.schema_is) s.survives t start.heard start.locks sound in
      record {
        now = s.now;
        given_back = s.given_back start.place;
        stopped = s.now;
        survives = survived;
        since = keeps_same (g.disk s.now);
        heard = inl refl;
        sound = survived.sound;
      }

  -- a replay stopped, and the line of that was reported
  stopped : (error : TantivyError) (line : List ℕ) → Stops g told asked error line → EndsSoundly start new
  stopped error line s =
      let survived = as_started s.before s.stopped s.schema (lent_is (s.lent start.place) start.kept) (lent_is (s.schema_is start.place) start.schema_is) s.survives t start.heard start.locks sound in
      let keeps = s.reports.images t in
      record {
        now = s.reports.now;
        given_back = s.reports.given_back start.place start.folder refl;
        stopped = s.stopped;
        survives = survived;
        since = keeps;
        heard = heard_once start.heard s.reports.reported;
        sound = record {
          images = λ image is. survived.sound.images image (fewer_image keeps.states.possible.no_more is);
          free = λ lock. s.reports.frame.locks start.locks lock ∙ survived.sound.free lock;
        };
      }

  refused : RefusesReplay told asked → EndsSoundly start new
  refused (inl (absent, refuses)) = unbegun refuses.frame
  refused (inr (there, refuses)) = unbegun refuses.frame

  wanted : WantsMemory told asked → EndsSoundly start new
  wanted (inl says) = unbegun says.frame
  wanted (inr refuses) = unbegun refuses.frame

  pub ends_soundly : (status : ℕ) → EndsRun g told words old new status → EndsSoundly start new
  ends_soundly status ends = by_status did.statuses where
    did : EndsReplay g told asked status
    did = ends.replayed start.folder start.path start.words_are

    by_status : (status ≡ 0) ⊎ ((status ≡ 1) ⊎ (status ≡ 3)) → EndsSoundly start new
    by_status (inl none) = ended (did.done none)
    by_status (inr (inl one)) = ⊎_elim (λ never. refused never.0) (λ run. stopped run.0 (error_line run.0) run.2) (did.failed one)
    by_status (inr (inr three)) = ⊎_elim (λ never. wanted never.0) (λ run. stopped run.0 memory_line run.1) (did.memory three)
