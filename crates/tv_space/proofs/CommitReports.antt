-- The report of a commit, and why there is none.
use Rattle.std.proofs.Common.{◌≡◌, inr, ℕ, List, [], ◌∷◌, map, sym, ap, subst, ◌∙◌, Some, Result, Ok, Err}
use Rattle.std.specs.List.{AllByRecursion}
use Rattle.std.specs.Prelude.{IsErrAnd, slice_get}
use Rattle.std.proofs.lemmas.List.{append-nil}
use Rattle.tv_base.specs.Errors.{of_io}
use Rattle.tv_base.specs.declared.error.TantivyError.{TantivyError}
use Rattle.tv_base.specs.declared.error.TantivyError.TheVariants as errors
use Rattle.tv_base.specs.declared.io.IoError.{IoError}
use Rattle.tv_base.specs.declared.io.IoError.TheVariants as io
use Rattle.tv_device.specs.View.{OnlyReads}
use Rattle.tv_device.specs.declared.directory.Directory.{Ghosts}
use Rattle.tv_formats.specs.Files.{Reads, Same}
use Rattle.tv_formats.specs.Meaning.{Means}
use Rattle.tv_formats.specs.Names.{meta_name}
use Rattle.tv_formats.specs.Segments.{all_required, required_names}
use Rattle.tv_framing.specs.Faults.{OfFault}
use Rattle.tv_index.specs.Standing.{LoadsMeta}
use Rattle.tv_managed.specs.Reading.{ReadsSuch}
use Rattle.tv_metas.specs.declared.index_meta.UntrackedIndexMeta.{UntrackedIndexMeta}
use Rattle.tv_metas.specs.declared.segment_meta.InnerSegmentMeta.{InnerSegmentMeta}
use Rattle.tv_metas.specs.Metas.{commit_of, settings_of}
use Rattle.tv_metas.specs.Schemas.{HasNames}
use Rattle.tv_metas.specs.Segments.{entry_of}
use Rattle.tv_reader.specs.Bodies.{IsRead, UnreadCause, shown_entry}
use Rattle.tv_reader.specs.ReadLaws.{cause_back, reads_back}
use Rattle.tv_reader.specs.Searchers.{OfSegment}
use Rattle.tv_reader.specs.Segments.{SegmentShown}
use Rattle.tv_reader.specs.Spaces.{HasNoSpace, IsInvalid}
use Rattle.tv_space.specs.Measuring.{AreMeasured, ReportCause, ReportFaults}
use Rattle.tv_space.specs.ReportLines.{SegmentReport, report_text}
use Rattle.tv_space.specs.Reports.{HasBadBody, HasCommitUnder, Reports}
use Rattle.tv_space.proofs.Measures.{all_reported, entry_at, read_at}

all_back : (first now : Reads) → Same first now → (segments : List SegmentShown) → AllByRecursion (IsRead now) segments → AllByRecursion (IsRead first) segments
all_back first now same [] h = tt
all_back first now same (s ∷ segments) h = (reads_back first now same (required_names s.id s.segment) s.bodies h.0, all_back first now same segments h.1)

-- there is no report, for this error
pub report_faults : {A D W C : Type 0} (g : Ghosts D W C) (old new : D) (schema : List ℕ) (result : Result A TantivyError) (error : TantivyError) → IsErrAnd result (λ e. e ≡ error) → ReportCause g old new schema error → ReportFaults g old new schema result
report_faults g old new schema (Ok a) error h cause = absurd h
report_faults g old new schema (Err e) error h cause = record { quiet = tt; cause = subst (ReportCause g old new schema) (sym h) cause }

module _ {D W C : Type 0} (g : Ghosts D W C) (old mid new : D) (schema : List ℕ) (meta : UntrackedIndexMeta) (loads : LoadsMeta g old (Some schema) meta) (frame : OnlyReads g.told (g.view old) (g.view mid)) (still : (g.view mid).faults ≡ (g.view old).faults)
    (listed : List InnerSegmentMeta) (is_listed : listed ≡ meta.segments.items) where
  means : g.told.content → ReadsSuch ((g.view old).reads meta_name) (λ bytes. Means (settings_of meta) schema bytes (commit_of meta))
  means t = subst (λ (s : List ℕ). ReadsSuch ((g.view old).reads meta_name) (λ bytes. Means (settings_of meta) s bytes (commit_of meta))) loads.schema (loads.means t)

  stands : g.told.content → (text : List ℕ) (names : List (List ℕ)) → text ≡ schema → HasNames text names → HasCommitUnder (g.view old).reads schema names (commit_of meta)
  stands t text names same named = record { settings = settings_of meta; means = means t; named = subst (λ (s : List ℕ). HasNames s names) same named }

  -- why the files of the commit aren't read
  pub unread : (error : TantivyError) → UnreadCause g mid new (all_required (map entry_of listed)) error → ReportCause g old new schema error
  unread error h = as_cause error (subst (λ (l : List InnerSegmentMeta). UnreadCause g old new (all_required (map entry_of l)) error) is_listed back) where
    back : UnreadCause g old new (all_required (map entry_of listed)) error
    back = cause_back g old mid new frame still [] (all_required (map entry_of listed)) [] (all_required (map entry_of listed)) (sym (append-nil (all_required (map entry_of listed)))) (λ t. ([], tt)) error h

    as_cause : (e : TantivyError) → UnreadCause g old new (all_required (map entry_of meta.segments.items)) e → ReportCause g old new schema e
    as_cause (errors.OpenReadError why) k = inr (record { settings = settings_of meta; commit = commit_of meta; means = means; unread = k })
    as_cause errors.Memory k = inr k
    as_cause other k = absurd k

  module _ (text : List ℕ) (names : List (List ℕ)) (same : text ≡ schema) (named : HasNames text names) (segments given : List SegmentShown) (are : map shown_entry segments ≡ map entry_of listed) (is_given : given ≡ segments)
      (read : g.told.content → AllByRecursion (IsRead (g.view mid).reads) segments) where
    entries : map shown_entry segments ≡ (commit_of meta).segments
    entries = are ∙ ap (map entry_of) is_listed

    -- the report of the commit
    pub reports_so : g.told.content → (reports printed : List SegmentReport) (lines : List ℕ) → AreMeasured names given reports → printed ≡ reports → lines ≡ report_text printed → Reports (g.view old).reads schema lines
    reports_so t reports printed lines measured is lines_are = record {
      names = names;
      commit = commit_of meta;
      stands = stands t text names same named;
      reports = reports;
      each = all_reported (g.view old).reads names segments (commit_of meta).segments reports entries (all_back (g.view old).reads (g.view mid).reads (frame.content t) segments (read t)) (subst (λ (l : List SegmentShown). AreMeasured names l reports) is_given measured);
      text_is = lines_are ∙ ap report_text is;
    }

    bad_so : g.told.content → (ord : ℕ) → OfSegment given ord (HasNoSpace names) → HasBadBody (g.view old).reads schema
    bad_so t ord (shown, at, bad) =
        let here : slice_get segments ord ≡ Some shown = subst (λ (l : List SegmentShown). slice_get l ord ≡ Some shown) is_given at in
        record {
          names = names;
          commit = commit_of meta;
          stands = stands t text names same named;
          ord = ord;
          entry = shown_entry shown;
          among = sym (ap (λ l. slice_get l ord) entries) ∙ entry_at segments ord shown here;
          bad = record { bodies = shown.bodies; read = reads_back (g.view old).reads (g.view mid).reads (frame.content t) (required_names shown.id shown.segment) shown.bodies (read_at (g.view mid).reads segments ord shown here (read t)); so = bad };
        }

    -- why its segments aren't measured
    pub unmeasured : (g.view new).faults ≡ (g.view old).faults → (error : IoError) → OfFault IsInvalid error → OfFault (λ _. (ord : ℕ) × OfSegment given ord (HasNoSpace names)) error → ReportCause g old new schema (of_io error)
    unmeasured quiet (io.Fault fault) invalid outside = inr (invalid, quiet, λ t. bad_so t outside.0 outside.1)
    unmeasured quiet io.Memory invalid outside = inr quiet
