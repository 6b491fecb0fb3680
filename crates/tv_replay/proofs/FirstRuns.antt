-- The run of a replay over a directory without files.
use Rattle.std.proofs.Common.{◌≡◌, true≢false, inl, inr, ℕ, List, [], ◌∷◌, ◌++◌, length, map, Option, Some, None, refl, sym, ap, subst, ◌∙◌, arith}
use Rattle.std.specs.Prelude.{option_map}
use Rattle.std.specs.List.{flat_map}
use Rattle.std.proofs.lemmas.List.Folds.{flat_map-map}
use Rattle.tv_formats.specs.Commits.{default_settings, first_commit}
use Rattle.tv_formats.specs.Files.{Heard, Reads, RoseBy}
use Rattle.tv_formats.specs.Sound.{FindsCommit, managed_with}
use Rattle.tv_machine.specs.Index.{first_state, OpensTo, OpenedIndex}
use Rattle.tv_formats.proofs.ListTexts.{listing_of_none}
use Rattle.tv_formats.specs.Names.{meta_name}
use Rattle.tv_machine.specs.State.{SealedFile}
use Rattle.tv_machine.specs.Machine.{after, all_refused, report}
use Rattle.tv_directory.specs.Pieces.{bytes_heard}
use Rattle.tv_device.specs.declared.directory.Directory.{Ghosts}
use Rattle.tv_replay.specs.declared.replaying.Tally.{Tally}
use Rattle.tv_replay.specs.Generated.{generated}
use Rattle.tv_replay.specs.Replays.{Replays}
use Rattle.tv_replay.specs.Summaries.{collected_in, files_of, summary_line, text_of, IsStanding, IsSummaryOf, ReplaysGenerated}

-- it opens to a new index
pub opens_first : (schema : List ℕ) (reads : Reads) → ((n : List ℕ) → reads n ≡ None) → OpensTo default_settings schema reads first_state
opens_first schema reads none = record {
  listed = [];
  listing = listing_of_none reads none;
  covered = λ there. let lacks : ◌≡◌ {A = Option (List ℕ)} (reads meta_name) None = none meta_name in absurd (true≢false (sym (rw lacks at there)));
  found = subst (λ (r : Option (List ℕ)). FindsCommit schema r default_settings first_commit) (sym (none meta_name)) (refl, refl);
  managed = ap (λ (r : Option (List ℕ)). managed_with r []) (sym (none meta_name));
  live = refl;
  next = refl;
  reading = refl;
  collections = refl;
  names = λ n is. absurd (true≢false (sym is));
  files = λ n is. ap (λ (r : Option (List ℕ)). option_map SealedFile r) (sym (none n));
}

-- what was heard of these lines is their text
pub heard_text : (pieces : Heard) (lines : List (List ℕ)) → map (λ piece. piece.1) pieces ≡ map (λ line. line ++ 10 ∷ []) lines → bytes_heard pieces ≡ text_of lines
heard_text pieces lines each =
    sym (flat_map-map (λ (l : List ℕ). l) (λ (piece : ℕ × List ℕ). piece.1) pieces) ∙ ap (flat_map (λ (l : List ℕ). l)) each ∙ flat_map-map (λ (l : List ℕ). l) (λ (line : List ℕ). line ++ 10 ∷ []) lines

-- no delete was refused where the count is still 0
pub none_refused : (n old now : ℕ) → RoseBy n old now → old ≡ 0 → now ≡ 0 → n ≡ 0
none_refused n old now (inl rose) first last = omega (arith, rose, first, last)
none_refused n old now (inr full) first last = omega (arith, full, last)

-- A replay of a generated script over a new index: what is told, and what the directory holds.
pub replays_generated : {O W C : Type 0} (g : Ghosts O W C) (before now : O) (n : ℕ) (schema : List ℕ) (script : Option (List ℕ)) (tally : Tally) → g.told.content → g.told.heard → ((m : List ℕ) → (g.view before).reads m ≡ None)
    → (g.view before).heard ≡ [] → (g.view before).refusals ≡ 0 → (g.view now).refusals ≡ 0 → script ≡ Some (generated n) → Replays g before now schema script tally → ReplaysGenerated n tally.events (bytes_heard (g.view now).heard) (g.view now).reads
replays_generated g before now n schema script tally content heard none silent first last is r =
    let index : OpenedIndex schema (g.view before).reads = record {
      form = record { settings = default_settings; schema = r.spelled.0 };
      state = first_state;
      spelled = r.spelled.1;
      opens = opens_first r.spelled.0 (g.view before).reads none;
    } in
    let tells = r.told content heard index in
    record {
      turns = r.turns;
      runs = record { lines = r.lines (generated n) is; refused = none_refused (all_refused r.turns) (g.view before).refusals (g.view now).refusals r.refused first last };
      counted = r.counted;
      told = ap bytes_heard (tells.heard ∙ ap (λ (h : Heard). h ++ tells.pieces) silent) ∙ heard_text tells.pieces (report first_state r.turns) tells.each;
      schema = r.spelled.0;
      holds = r.holds content index;
    }

-- the summary of such a replay
pub summary_so : (n events opstamp files collected : ℕ) (heard line : List ℕ) (reads : Reads) (r : ReplaysGenerated n events heard reads) → IsStanding (after first_state r.turns) opstamp files → collected ≡ collected_in heard
    → line ≡ summary_line events opstamp files collected → IsSummaryOf n line
summary_so n events opstamp files collected heard line reads r standing counted is = record {
  turns = r.turns;
  runs = r.runs;
  line_is =
      is ∙ ap (λ (k : ℕ). summary_line k opstamp files collected) r.counted
      ∙ ap (λ (k : ℕ). summary_line (length r.turns) k files collected) standing.opstamp_is
      ∙ ap (λ (k : ℕ). summary_line (length r.turns) (after first_state r.turns).catalog.commit.opstamp k collected) standing.files_are
      ∙ ap (λ (k : ℕ). summary_line (length r.turns) (after first_state r.turns).catalog.commit.opstamp (length (files_of (after first_state r.turns))) k) (counted ∙ ap collected_in r.told);
}
