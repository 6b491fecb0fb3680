-- What a run leaves that measures an index, case by case.
use Rattle.std.proofs.Common.{◌≡◌, ◌≢◌, ◌⊎◌, inl, inr, ℕ, List, [], ◌∷◌, ◌++◌, codes, refl, sym, ap, subst, ◌∙◌, None, Some, string_bytes}
use Rattle.tv_base.specs.declared.error.TantivyError.{TantivyError}
use Rattle.tv_base.specs.declared.error.TantivyError.TheVariants as errors
use Rattle.tv_device.specs.Images.{KeepsDisk}
use Rattle.tv_device.specs.declared.directory.Directory.{Ghosts}
use Rattle.tv_formats.specs.Files.{Rose}
use Rattle.tv_formats.specs.Schemas.{IsNoSchema}
use Rattle.tv_metas.specs.Schemas.{SchemaCause}
use Rattle.tv_replay.specs.ErrorLines.{argument_line, error_line}
use Rattle.tv_replay.specs.PlaceView.{PlaceTold, PlaceView, KeepsFolders, PlaceKept, SaysPart}
use Rattle.tv_replay.specs.Runs.{OnlySays, PlaceRefuses, Reports, ReportsError, SaysError, memory_line}
use Rattle.tv_replay.specs.SpaceRuns.{AskedSpace, EndsSpace, EndsText, IsMeasured, RefusesSpace, RefusesText, SaysText, StopsSpace, argument_refusal}
use Rattle.tv_replay.proofs.Runs.{not_done, refuses, says_quietly, says_this, wants}

-- bytes that are no schema
pub schema_refused : (bytes : List ℕ) (error : TantivyError) → SchemaCause bytes error → error ≢ errors.Memory → IsNoSchema bytes × (error_line error ≡ argument_refusal)
schema_refused bytes (errors.InvalidArgument text) h other = (h.1, ap argument_line h.0)
schema_refused bytes errors.Memory h other = absurd (other refl)
schema_refused bytes _ h other = absurd h

-- there is no schema, or no folder
pub not_measured : {O W C : Type 0} {g : Ghosts O W C} {told : PlaceTold} (asked : AskedSpace O) {mid : PlaceView O} {error : TantivyError} {status : ℕ} {line : List ℕ} → PlaceKept told asked.old mid
    → Rose asked.old.faults mid.faults ⊎ ((mid.faults ≡ asked.old.faults) × (error ≡ errors.Memory)) → (error ≢ errors.Memory → error_line error ≡ line) → SaysError told mid asked.new error status
    → (error ≢ errors.Memory → PlaceRefuses told asked.old asked.new line → RefusesSpace told asked) → EndsSpace g told asked status
not_measured asked {error = error} kept why line_is says refused = record {
  done = λ zero. absurd (not_done _ says.statuses zero);
  failed = λ one. let said = says.other one in inl (refused said.0 (refuses (error ≡ errors.Memory) kept why said.0 (line_is said.0) said.1));
  memory = λ three. inl (wants (error ≡ errors.Memory) kept why (says.memory three));
  statuses = inr says.statuses;
}

-- what the place has under the path is no schema
pub no_schema : {O W C : Type 0} {g : Ghosts O W C} {told : PlaceTold} (asked : AskedSpace O) {mid : PlaceView O} {error : TantivyError} {status : ℕ} (bytes : List ℕ) → PlaceKept told asked.old mid → mid.faults ≡ asked.old.faults
    → (told.content → asked.old.schemas asked.path ≡ Some bytes) → SchemaCause bytes error → SaysError told mid asked.new error status → EndsSpace g told asked status
no_schema {told = told} asked {error = error} bytes kept quiet there cause says = record {
  done = λ zero. absurd (not_done _ says.statuses zero);
  failed = λ one.
      let said = says.other one in
      let why = schema_refused bytes error cause said.0 in
      inl (inr (inl (bytes, there, why.0, says_quietly kept quiet (says_this why.1 said.1))));
  memory = λ three. inl (inl (says_quietly kept quiet (says.memory three)));
  statuses = inr says.statuses;
}

-- a directory that wasn't measured, and the line of its error was reported
pub stopped_measuring : {O W C : Type 0} {g : Ghosts O W C} {told : PlaceTold} (asked : AskedSpace O) {stopped : O} {mid : PlaceView O} {error : TantivyError} {status : ℕ} → ReportsError g told (record { stopped = stopped; old = mid; new = asked.new }) error status
    → ((line : List ℕ) → Reports g told (record { stopped = stopped; old = mid; new = asked.new }) line → StopsSpace g told asked error line) → EndsSpace g told asked status
stopped_measuring asked {error = error} gave stops = record {
  done = λ zero. absurd (not_done _ gave.statuses zero);
  failed = λ one. let said = gave.other one in inr (inl (error, said.0, stops _ said.1));
  memory = λ three. inr (inl (error, stops _ (gave.memory three)));
  statuses = inr gave.statuses;
}

-- a text that was said, seen from an earlier moment at which as much had been said and refused
text_since : {O : Type 0} {told : PlaceTold} {text : List ℕ} (old : PlaceView O) {mid new : PlaceView O} → mid.said ≡ old.said → mid.faults ≡ old.faults → SaysText told text mid new → SaysText told text old new
text_since {text = text} old {mid = mid} {new = new} silent quiet h = record { said = λ t. h.said t ∙ ap (λ (said : List ℕ). said ++ text ++ 10 ∷ []) silent; quiet = h.quiet ∙ quiet }

refused_since : {O : Type 0} {told : PlaceTold} {text : List ℕ} (old : PlaceView O) {mid new : PlaceView O} {line : List ℕ} → mid.said ≡ old.said → mid.faults ≡ old.faults → RefusesText told text mid new line → RefusesText told text old new line
refused_since {text = text} old {mid = mid} silent quiet h = record {
  between = h.between;
  refused = subst (λ (n : ℕ). Rose n h.between.faults) quiet h.refused;
  part = λ t. subst (λ (said : List ℕ). SaysPart said h.between.said text) silent (h.part t);
  says = h.says;
}

-- a directory that was measured, and its report was said, or refused
pub was_measured : {O W C : Type 0} {g : Ghosts O W C} {told : PlaceTold} (asked : AskedSpace O) {mid : PlaceView O} {text : List ℕ} {status : ℕ} → mid.said ≡ asked.old.said → mid.faults ≡ asked.old.faults → IsMeasured g told asked text → EndsText told text mid asked.new status
    → EndsSpace g told asked status
was_measured asked {text = text} silent quiet measured ends = record {
  done = λ zero. record { text = text; measured = measured; says = text_since asked.old silent quiet (ends.done zero) };
  failed = λ one. inr (inr (record { text = text; measured = measured; says = refused_since asked.old silent quiet (ends.failed one) }));
  memory = λ three. inr (inr (record { text = text; measured = measured; says = refused_since asked.old silent quiet (ends.memory three) }));
  statuses = ends.statuses;
}
