-- A sound start opens to a sound state.
use Rattle.std.proofs.Common.{◌≡◌, ℕ, ◌<◌, ◌^◌, true, true≢false, List, [], ◌∷◌, Option, Some, None, refl, sym, ap, subst, ◌∙◌, arith}
use Rattle.std.specs.Prelude.{IsSome, is_some, option_map}
use Rattle.std.specs.List.{AllByRecursion}
use Rattle.tv_formats.specs.declared.segment.LiveSegment.{LiveSegment}
use Rattle.tv_formats.specs.Names.{has, meta_name}
use Rattle.tv_formats.specs.Files.{Reads}
use Rattle.tv_formats.specs.Footer.{IsGood}
use Rattle.tv_formats.specs.Segments.{all_required}
use Rattle.tv_formats.specs.Commits.{Commit, Settings, IsSegment}
use Rattle.tv_formats.specs.Collections.{Collections, held}
use Rattle.tv_machine.specs.CommitEvents.{is_sealed}
use Rattle.tv_machine.specs.Living.{unread_commits}
use Rattle.tv_machine.specs.State.{State, FileState, SealedFile, file_at}
use Rattle.tv_formats.specs.Sound.{HasFiles, IsSoundMeta, IsSoundImage, FindsCommit, managed_with}
use Rattle.tv_machine.specs.Index.{OpensTo}
use Rattle.tv_machine.specs.SoundStates.{AreGood, AreWithin, IsSoundState}
use Rattle.tv_formats.proofs.Entries.{has_inserted, has_kept}
use Rattle.tv_formats.proofs.Required.{has_files_from, has_files_of}
use Rattle.tv_machine.proofs.Required.{required_is_file}
use Rattle.tv_formats.proofs.MeansOne.{means_one}
use Rattle.tv_formats.proofs.ListTexts.{listing_one}
use Rattle.tv_machine.proofs.HeldStates.{nothing_held}
use Rattle.tv_machine.proofs.ReaderMoves.{nobody_unread}
use Rattle.tv_machine.proofs.SoundOpenings.{opens_managed_sorted}
use Rattle.tv_machine.proofs.SoundStates.{stamps_after}
use Rattle.tv_formats.proofs.SpelledCommits.{means_commit}

-- what is known of the commit and of the managed names, whether there is a `meta.json` or not
record Starts (reads : Reads) (listed : List (List ℕ)) (s : State) : Type 0 where
  files : HasFiles reads (s.catalog.commit ∷ [])
  segments : AllByRecursion IsSegment s.catalog.commit.segments
  opstamp : s.catalog.commit.opstamp < 2 ^ 64
  meta : has s.managed meta_name ≡ true
  kept : (n : List ℕ) → has listed n ≡ true → has s.managed n ≡ true

starts : (settings : Settings) (schema : List ℕ) (reads : Reads) (listed : List (List ℕ)) (s : State) (read : Option (List ℕ)) → (IsSome read → has listed meta_name ≡ true)
    → FindsCommit schema read settings s.catalog.commit → s.managed ≡ managed_with read listed → IsSoundMeta schema reads read → Starts reads listed s
starts settings schema reads listed s None there o managed sound = record {
  files =
      has_files_from reads s.catalog.commit
      (λ n is. absurd (true≢false (sym is ∙ ap (λ (c : Commit). has (all_required c.segments) n) o.1)));
  segments = subst (λ (c : Commit). AllByRecursion IsSegment c.segments) (sym o.1) tt;
  opstamp = omega (arith, ap (λ (c : Commit). c.opstamp) o.1);
  meta = rw managed (has_inserted listed meta_name);
  kept = λ n h. rw managed (has_kept listed meta_name n h);
}
starts settings schema reads listed s (Some text) there o managed sound =
    let same : s.catalog.commit ≡ sound.1 = (means_one settings sound.0 schema text s.catalog.commit sound.1 o sound.2).1 in
    let commit = (means_commit settings schema text s.catalog.commit o).0 in
    record {
      files = subst (λ commit. HasFiles reads (commit ∷ [])) (sym same) sound.3;
      segments = commit.segments;
      opstamp = commit.opstamp;
      meta = rw managed (there refl);
      kept = λ n h. rw managed h;
    }

there_reads : (read : Option (List ℕ)) → is_some (option_map SealedFile read) ≡ true → is_some read ≡ true
there_reads None h = h
there_reads (Some bytes) h = refl

-- a file is sealed with one list of bytes
same_good : (file : Option FileState) (bytes other : List ℕ) → file ≡ Some (SealedFile bytes) → IsGood bytes → file ≡ Some (SealedFile other) → IsGood other
same_good file bytes other e good k = let same : bytes ≡ other = cc in subst IsGood same good

segments_within : (segments : List (List ℕ × LiveSegment)) → AllByRecursion IsSegment segments → AreWithin segments
segments_within [] h = tt
segments_within (e ∷ segments) h = (h.0.deletes, segments_within segments h.1)

pub opens_sound : (settings : Settings) (schema : List ℕ) (reads : Reads) (s : State) → IsSoundImage schema reads → OpensTo settings schema reads s → IsSoundState s
opens_sound settings schema reads s sound o =
    let names : sound.names ≡ o.listed = listing_one reads sound.names o.listed sound.listing o.listing in
    let on_list : (n : List ℕ) → has sound.names n ≡ true → has o.listed n ≡ true = λ n h. subst (λ (ns : List (List ℕ)). has ns n ≡ true) names h in
    let start = starts settings schema reads o.listed s (reads meta_name) o.covered o.found o.managed sound.commit in
    let read : (n : List ℕ) → has (all_required s.catalog.commit.segments) n ≡ true → (bytes : List ℕ) × (file_at s n ≡ Some (SealedFile bytes)) × IsGood bytes = λ n is.
    let f = has_files_of reads s.catalog.commit start.files n is in
    (f.0, o.files n (required_is_file s.catalog.commit.segments n start.segments is) ∙ ap (option_map SealedFile) f.1, f.2) in
    let good : AreGood s s.catalog.commit.segments = λ n bytes is e. let f = read n is in same_good (file_at s n) f.0 bytes f.1 f.2 e in
    let none_else : (P : Commit → Type 0) → AllByRecursion P (unread_commits s.catalog) = λ P. subst (AllByRecursion P) (sym (nobody_unread s.catalog o.reading)) tt in
    let within : AreWithin s.catalog.commit.segments = segments_within s.catalog.commit.segments start.segments in
    record {
      meta = start.meta;
      names = o.names;
      listed = λ n there.
          let named = o.names n there in
          start.kept n (on_list n (sound.listed n named.0 (there_reads (reads n) (sym (ap is_some (o.files n named)) ∙ there))));
      whole = record {
        each = (λ n is. ap is_sealed (read n is).1, none_else _);
        unheld = (λ n is. ap (λ (c : Collections). has (held c) n) o.collections, none_else _);
        collecting = nothing_held s o.collections (opens_managed_sorted settings schema reads s o);
      };
      good = (good, none_else _);
      live = subst (AreGood s) (sym o.live) good;
      stamps = stamps_after s.catalog.commit.opstamp s.catalog.next o.next;
      within = (within, none_else _);
      live_within = subst AreWithin (sym o.live) within;
    }
