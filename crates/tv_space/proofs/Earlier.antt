-- A report of an index, and why there is none, seen from an earlier moment: nothing but reads came between.
use Rattle.std.proofs.Common.{◌≡◌, inl, inr, ℕ, List, [], ◌∷◌, Option, None, Some, Result, Ok, Err, sym, subst, ◌∙◌}
use Rattle.std.specs.Prelude.{IfOk}
use Rattle.std.proofs.lemmas.List.{append-nil}
use Rattle.tv_base.specs.Causes.{OpenReadCause}
use Rattle.tv_base.specs.declared.error.TantivyError.{TantivyError}
use Rattle.tv_base.specs.declared.error.TantivyError.TheVariants as errors
use Rattle.tv_base.specs.declared.open_errors.OpenReadError.{OpenReadError}
use Rattle.tv_base.specs.declared.open_errors.OpenReadError.TheVariants as opening
use Rattle.tv_device.specs.View.{OnlyReads}
use Rattle.tv_device.specs.declared.directory.Directory.{Ghosts}
use Rattle.tv_formats.specs.declared.segment.LiveSegment.{LiveSegment}
use Rattle.tv_formats.specs.Commits.{Commit}
use Rattle.tv_formats.specs.Files.{Reads, Rose, Same}
use Rattle.tv_formats.specs.Names.{meta_name}
use Rattle.tv_formats.specs.Segments.{all_required, required_names}
use Rattle.tv_index.specs.Opening.{HasList}
use Rattle.tv_index.specs.Standing.{MetaCause}
use Rattle.tv_reader.specs.ReadLaws.{cause_back, reads_back}
use Rattle.tv_reader.specs.Segments.{SegmentShown}
use Rattle.tv_space.specs.Measuring.{BodyCause, LacksFile, MeasureFaults, MeasuresIndex, ReportCause, ReportFaults}
use Rattle.tv_space.specs.ReportLines.{SegmentReport}
use Rattle.tv_space.specs.Reports.{AreReported, HasBadBody, HasCommitUnder, OfBodies, Reports}

module _ (first now : Reads) (same : Same first now) where
  bodies_back : (entry : List ℕ × LiveSegment) (P : SegmentShown → Type 0) → OfBodies now entry P → OfBodies first entry P
  bodies_back entry P h = record { bodies = h.bodies; read = reads_back first now same (required_names entry.0 entry.1) h.bodies h.read; so = h.so }

  reported_back : (names : List (List ℕ)) (entries : List (List ℕ × LiveSegment)) (reports : List SegmentReport) → AreReported now names entries reports → AreReported first names entries reports
  reported_back names [] [] h = tt
  reported_back names [] (r ∷ reports) h = absurd h
  reported_back names (e ∷ entries) [] h = absurd h
  reported_back names (e ∷ entries) (r ∷ reports) h = (record { id_is = h.0.id_is; takes = bodies_back e _ h.0.takes }, reported_back names entries reports h.1)

  stands_back : (schema : List ℕ) (names : List (List ℕ)) (commit : Commit) → HasCommitUnder now schema names commit → HasCommitUnder first schema names commit
  stands_back schema names commit h = record { settings = h.settings; means = (h.means.0, sym (same meta_name) ∙ h.means.1, h.means.2); named = h.named }

  reports_back : (schema text : List ℕ) → Reports now schema text → Reports first schema text
  reports_back schema text h = record {
    names = h.names;
    commit = h.commit;
    stands = stands_back schema h.names h.commit h.stands;
    reports = h.reports;
    each = reported_back h.names h.commit.segments h.reports h.each;
    text_is = h.text_is;
  }

  bad_back : (schema : List ℕ) → HasBadBody now schema → HasBadBody first schema
  bad_back schema h = record {
    names = h.names;
    commit = h.commit;
    stands = stands_back schema h.names h.commit h.stands;
    ord = h.ord;
    entry = h.entry;
    among = h.among;
    bad = bodies_back h.entry _ h.bad;
  }

-- what reads as `meta.json`, seen from before
meta_back : (tells : Type 0) (expected : Option (List ℕ)) (was is : Option (List ℕ)) (refused quiet : Type 0) → (tells → is ≡ was) → (e : TantivyError) → MetaCause tells expected is refused quiet e → MetaCause tells expected was refused quiet e
meta_back tells expected was is refused quiet same (errors.OpenReadError why) h = at why h where
  at : (why : OpenReadError) → OpenReadCause meta_name (quiet × (tells → is ≡ None)) ⊥ ⊥ why → OpenReadCause meta_name (quiet × (tells → was ≡ None)) ⊥ ⊥ why
  at (opening.FileDoesNotExist path) h = (h.0, (h.1.0, (λ t. sym (same t) ∙ h.1.1 t)))
  at (opening.IoError fault path) h = h
  at (opening.IncompatibleIndex why) h = h
  at opening.Memory h = h
meta_back tells expected was is refused quiet same (errors.DataCorruption why) h = (h.0, h.1, (h.2.0, (λ t. sym (same t) ∙ h.2.1 t), h.2.2))
meta_back tells expected was is refused quiet same (errors.SchemaError text) h = (h.0, h.1, (h.2.0, (λ t. sym (same t) ∙ h.2.1 t), h.2.2))
meta_back tells expected was is refused quiet same (errors.IoError fault) h = h
meta_back tells expected was is refused quiet same errors.Memory h = h
meta_back tells expected was is refused quiet same other h = absurd h

module _ {D W C : Type 0} (g : Ghosts D W C) (old mid new : D) (schema : List ℕ) (frame : OnlyReads g.told (g.view old) (g.view mid)) (still : (g.view mid).faults ≡ (g.view old).faults) where
  lacks_back : (why : OpenReadError) → LacksFile g mid new schema why → LacksFile g old new schema why
  lacks_back why h =
      let names : List (List ℕ) = all_required h.commit.segments in
      record {
        settings = h.settings;
        commit = h.commit;
        means = λ t. let m = h.means t in (m.0, sym (frame.content t meta_name) ∙ m.1, m.2);
        unread = cause_back g old mid new frame still [] names [] names (sym (append-nil names)) (λ t. ([], tt)) (errors.OpenReadError why) h.unread;
      }

  body_back : (e : TantivyError) → BodyCause g mid new schema e → BodyCause g old new schema e
  body_back (errors.OpenReadError why) h = lacks_back why h
  body_back (errors.IoError fault) h = (h.0, h.1 ∙ still, (λ t. bad_back (g.view old).reads (g.view mid).reads (frame.content t) schema (h.2 t)))
  body_back errors.Memory h = h ∙ still
  body_back other h = absurd h

  report_back : (e : TantivyError) → ReportCause g mid new schema e → ReportCause g old new schema e
  report_back e (inl h) =
      inl (meta_back g.told.content (Some schema) ((g.view old).reads meta_name) ((g.view mid).reads meta_name) (Rose (g.view old).faults (g.view new).faults) ((g.view new).faults ≡ (g.view old).faults) (λ t. frame.content t meta_name) e
      (subst (λ (n : ℕ). MetaCause g.told.content (Some schema) ((g.view mid).reads meta_name) (Rose n (g.view new).faults) ((g.view new).faults ≡ n) e) still h))
  report_back e (inr h) = inr (body_back e h)

  -- a directory that was wrapped isn't measured
  pub measure_faults : {A : Type 0} (result : Result A TantivyError) → (g.told.content → HasList (g.view old).reads) → ReportFaults g mid new schema result → MeasureFaults g old new schema result
  measure_faults (Ok a) listed h = record { quiet = h.quiet ∙ still; cause = tt }
  measure_faults (Err e) listed h = record { quiet = tt; cause = inr (listed, report_back e h.cause) }

  -- and what it is measured as, where it is
  pub measures : {A : Type 0} (text : A → List ℕ) (result : Result A TantivyError) → g.told.content → HasList (g.view old).reads → IfOk result (λ a. Reports (g.view mid).reads schema (text a)) → IfOk result (λ a. MeasuresIndex (g.view old).reads schema (text a))
  measures text (Ok a) t listed h = record { listed = listed; reports = reports_back (g.view old).reads (g.view mid).reads (frame.content t) schema (text a) h }
  measures text (Err e) t listed h = tt
