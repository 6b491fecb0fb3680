-- A directory that holds a state opens to what a reopening leaves of it, and to nothing else.
use Rattle.std.proofs.Common.{◌≡◌, ◌⊎◌, inl, inr, ℕ, Bool, true, true≢false, false, cond, List, [], ◌∷◌, Option, Some, None, refl, sym, ap, subst, ◌∙◌}
use Rattle.std.specs.Prelude.{is_some, option_map}
use Rattle.std.specs.BTreeMap.{is_at}
use Rattle.std.proofs.lemmas.Bool.{false_from_ne_true}
use Rattle.tv_formats.specs.Names.{byte_cmp, is, is_undotted, meta_name, at}
use Rattle.tv_formats.specs.Files.{Reads}
use Rattle.tv_formats.specs.Commits.{Commit, Settings}
use Rattle.tv_machine.specs.CollectionEvents.{left}
use Rattle.tv_machine.specs.State.{State, FileState, SealedFile, Open, Left, file_at}
use Rattle.tv_machine.specs.Index.{FileReads, DirectoryHolds, IsFileOf, OpensTo}
use Rattle.tv_formats.specs.Sound.{FindsCommit, managed_with}
use Rattle.tv_machine.specs.ReopenEvents.{all_left, reopened}
use Rattle.tv_machine.specs.Reopening.{AreAlike, found_file, found_in}
use Rattle.tv_machine.specs.SoundStates.{IsSoundState}
use Rattle.tv_machine.proofs.Changes.{none_is}
use Rattle.tv_formats.proofs.Entries.{is_itself, is_text, text_at}
use Rattle.tv_formats.proofs.ListTexts.{listing_one}
use Rattle.tv_formats.proofs.MeansOne.{means_one}
use Rattle.tv_machine.proofs.SoundOpenings.{opened_alike, opens_catalog}

-- what stands at a name after the files were left, and found by what their names read
found_at : (reads : Reads) (s : State) (files : List (List ℕ × FileState)) (n : List ℕ)
    → at (found_in reads (record s { files = all_left files })).files n ≡ option_map (λ file. found_file (left file) (reads n)) (at files n)
found_at reads s [] n = refl
found_at reads s (e ∷ files) n =
    elim (is_at (byte_cmp n) e.0) as (λ b. is_at (byte_cmp n) e.0 ≡ b → cond b (Some (found_file (left e.1) (reads e.0))) (at (found_in reads (record s { files = all_left files })).files n) ≡ option_map (λ file. found_file (left file) (reads n)) (cond b (Some e.1) (at files n))) [
      | true ↦ λ k. ap (λ (m : List ℕ). Some (found_file (left e.1) (reads m))) (sym (text_at n e.0 k))
      | false ↦ λ k. found_at reads s files n
    ] refl

-- a file that is left and found is what its name reads
as_read : (file : Option FileState) (read : Option (List ℕ)) → FileReads file read → option_map (λ f. found_file (left f) read) file ≡ option_map SealedFile read
as_read None read h = ap (option_map SealedFile) (sym h)
as_read (Some (SealedFile bytes)) read h = ap (option_map SealedFile) (sym h)
as_read (Some (Open body)) None h = absurd cc
as_read (Some (Open body)) (Some bytes) h = refl
as_read (Some Left) None h = absurd cc
as_read (Some Left) (Some bytes) h = refl

there_before : (read : Option (List ℕ)) (file : Option FileState) → is_some (option_map (λ f. found_file (left f) read) file) ≡ true → is_some file ≡ true
there_before read None h = h
there_before read (Some file) h = refl

pub reopens : (settings : Settings) (schema : List ℕ) (reads : Reads) (s : State) → IsSoundState s → DirectoryHolds settings schema reads s → OpensTo settings schema reads (found_in reads (reopened s))
reopens settings schema reads s h d = record {
  listed = s.managed;
  listing = d.listing;
  covered = λ there. h.meta;
  found = subst (λ (read : Option (List ℕ)). FindsCommit schema read settings s.catalog.commit) (sym d.meta.1) d.meta.2;
  managed = ap (λ (read : Option (List ℕ)). managed_with read s.managed) (sym d.meta.1);
  live = refl;
  next = refl;
  reading = refl;
  collections = refl;
  names = λ n there. d.names n (there_before (reads n) (file_at s n) (sym (ap is_some (found_at reads s s.files n)) ∙ there));
  files = λ n file. found_at reads s s.files n ∙ as_read (file_at s n) (reads n) (d.files n file);
}

-- ---- a directory opens to one state

one_commit : (schema : List ℕ) (read : Option (List ℕ)) (settings others : Settings) (commit other : Commit) → FindsCommit schema read settings commit → FindsCommit schema read others other → commit ≡ other
one_commit schema None settings others commit other h k = h.1 ∙ sym k.1
one_commit schema (Some text) settings others commit other h k = (means_one settings others schema text commit other h k).1

-- a name is that of a file or not
file_name : (n : List ℕ) → IsFileOf n ⊎ (IsFileOf n → ⊥)
file_name n = by_dot (is_undotted n) refl (is n meta_name) refl where
  by_dot : (b : Bool) → is_undotted n ≡ b → (c : Bool) → is n meta_name ≡ c → IsFileOf n ⊎ (IsFileOf n → ⊥)
  by_dot false e c k = inr (λ file. true≢false (sym file.0 ∙ e))
  by_dot true e true k = inr (λ file. file.1 (is_text n meta_name k))
  by_dot true e false k = inl (e, λ same. true≢false (sym (is_itself n) ∙ ap (λ (m : List ℕ). is n m) same ∙ k))

pub opens_one : (settings others : Settings) (schema : List ℕ) (reads : Reads) (s t : State) → OpensTo settings schema reads s → OpensTo others schema reads t → AreAlike s t
opens_one settings others schema reads s t o k =
    let commit : s.catalog.commit ≡ t.catalog.commit = one_commit schema (reads meta_name) settings others s.catalog.commit t.catalog.commit o.found k.found in
    let listed : o.listed ≡ k.listed = listing_one reads o.listed k.listed o.listing k.listing in
    record {
      catalog =
          opens_catalog settings schema reads s o ∙ opened_alike s.catalog t.catalog commit
          ∙ sym (opens_catalog others schema reads t k);
      files = λ n. by_name n (file_name n);
      managed = o.managed ∙ ap (managed_with (reads meta_name)) listed ∙ sym k.managed;
      collections = o.collections ∙ sym k.collections;
    }
  where
    by_name : (n : List ℕ) → (IsFileOf n ⊎ (IsFileOf n → ⊥)) → file_at s n ≡ file_at t n
    by_name n (inl file) = o.files n file ∙ sym (k.files n file)
    by_name n (inr never) = none_is (file_at s n) (false_from_ne_true _ (λ there. never (o.names n there))) ∙ sym (none_is (file_at t n) (false_from_ne_true _ (λ there. never (k.names n there))))
