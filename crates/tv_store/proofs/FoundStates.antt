-- The index that an opening found is each one to which the directory opens, and its files hold that one's state.
use Rattle.std.proofs.Common.{◌≡◌, ℕ, false, true, List, [], ◌∷◌, Option, Some, None, refl, sym, ap, ap₂, subst, ◌∙◌, arith}
use Rattle.std.specs.Prelude.{IsSome, is_some, option_map}
use Rattle.std.specs.List.Sorted.{IsStrictlySortedBy}
use Rattle.std.specs.List.{AllByRecursion}
use Rattle.serde_json.specs.Data.{Data}
use Rattle.tv_device.specs.declared.directory.Directory.{Ghosts}
use Rattle.tv_index.specs.Opening.{first_text}
use Rattle.tv_formats.specs.Commits.{Commit, Settings, IndexForm, IsCommit, IsSegment, default_settings, first_commit}
use Rattle.tv_formats.specs.Files.{Reads}
use Rattle.tv_formats.specs.Footer.{IsGood}
use Rattle.tv_formats.specs.Sound.{FindsCommit, HasFiles, managed_with}
use Rattle.tv_machine.specs.Index.{FoundIndex, IsFileOf, OpenedIndex}
use Rattle.tv_formats.specs.Listing.{Listing}
use Rattle.tv_formats.specs.Meaning.{Means}
use Rattle.tv_formats.specs.Names.{has, meta_name}
use Rattle.tv_machine.specs.Living.{unread_commits}
use Rattle.tv_machine.specs.Readable.{AreGoodFiles, CanRead}
use Rattle.tv_formats.specs.Schemas.{IsSchema, IsSchemaText}
use Rattle.tv_formats.specs.Segments.{all_required}
use Rattle.tv_machine.specs.State.{Catalog, FileState, Readers, SealedFile, file_at}
use Rattle.tv_formats.proofs.Entries.{has_inserted}
use Rattle.tv_formats.proofs.ListTexts.{listing_one}
use Rattle.tv_formats.proofs.MeansOne.{means_one}
use Rattle.tv_formats.proofs.ReadPrinted.{printed_means}
use Rattle.tv_formats.proofs.Required.{has_files_from}
use Rattle.tv_machine.proofs.Required.{required_is_file}
use Rattle.tv_machine.proofs.SoundOpenings.{opened_alike, opens_catalog}
use Rattle.tv_store.specs.Bodies.{ReadsGoodFile}
use Rattle.tv_store.specs.Kept.{FilesState, FileHolds, Holds, is_left, kept_of}
use Rattle.tv_store.specs.Making.{FindsFiles}
use Rattle.tv_store.proofs.Listings.{undotted_isnt_list}

-- what is found under one schema is one index
same_found : (schema : List ℕ) (read : Option (List ℕ)) (settings others : Settings) (commit other : Commit) → FindsCommit schema read settings commit → FindsCommit schema read others other
    → (settings ≡ others) × (commit ≡ other)
same_found schema None settings others commit other h k = (h.0 ∙ sym k.0, h.1 ∙ sym k.1)
same_found schema (Some bytes) settings others commit other h k = means_one settings others schema bytes commit other h k

sealed_holds : (file : Option FileState) (read written : Option (List ℕ)) → file ≡ option_map SealedFile read → written ≡ None → FileHolds file read written
sealed_holds file None written is none = subst (λ (f : Option FileState). FileHolds f None written) (sym is) (refl, none)
sealed_holds file (Some bytes) written is none = subst (λ (f : Option FileState). FileHolds f (Some bytes) written) (sym is) (refl, none)

none_left : (file : Option FileState) (read : Option (List ℕ)) → (is_some file ≡ true → file ≡ option_map SealedFile read) → is_left file ≡ false
none_left None read is = refl
none_left (Some file) None is = let bad : ◌≡◌ {A = Option FileState} (Some file) None = is refl in cc
none_left (Some file) (Some bytes) is = ap is_left (is refl)

first_is_commit : IsCommit first_commit
unfolding IsStrictlySortedBy
first_is_commit = record { ordered = tt; segments = tt; opstamp = omega arith; payload = tt }

-- the text of a new index means its commit
pub first_means : (schema : List ℕ) (tree : Data) → IsSchemaText schema tree → Means default_settings schema (first_text schema) first_commit
first_means schema tree is = printed_means default_settings schema tree first_commit first_is_commit (omega arith) is

-- what `meta.json` means after the opening
meta_means : (schema : List ℕ) (tree : Data) (old now : Option (List ℕ)) (settings : Settings) (commit : Commit) → IsSchemaText schema tree → FindsCommit schema old settings commit
    → (IsSome old → now ≡ old) → (old ≡ None → now ≡ Some (first_text schema)) → (text : List ℕ) × (now ≡ Some text) × Means settings schema text commit
meta_means schema tree None now settings commit is found stood made =
    let first = first_means schema tree is in
    (first_text schema, made refl, subst (λ (c : Commit). Means settings schema (first_text schema) c) (sym found.1) (subst (λ (s : Settings). Means s schema (first_text schema) first_commit) (sym found.0) first))
meta_means schema tree (Some bytes) now settings commit is found stood made = (bytes, stood refl, found)

covers_meta : (read : Option (List ℕ)) (listed managed : List (List ℕ)) → managed ≡ managed_with read listed → (IsSome read → has listed meta_name ≡ true) → has managed meta_name ≡ true
covers_meta None listed managed is covered = rw is (has_inserted listed meta_name)
covers_meta (Some bytes) listed managed is covered = rw is (covered refl)

sealed_good : (file : Option FileState) (old now : Option (List ℕ)) → file ≡ option_map SealedFile old → now ≡ old → ReadsGoodFile now → (bytes : List ℕ) × (file ≡ Some (SealedFile bytes)) × IsGood bytes
sealed_good file old now is same (bytes, reads, good) = (bytes, is ∙ ap (option_map SealedFile) (sym same ∙ reads), good)

module _ {O W C : Type 0} (g : Ghosts O W C) (locked : O) (schema text : List ℕ) (catalog : Catalog) (files : FilesState O)
    (spelled : IsSchema schema files.form.schema) (f : FindsFiles g locked text catalog files) (tells : g.told.content) where
  abbrev form : IndexForm
  form = files.form

  abbrev before : Reads
  before = (g.view locked).reads

  abbrev now : Reads
  now = (g.view files.outside).reads

  -- it stood there, or is new
  abbrev pub the_found : FoundIndex schema before
  the_found = let F = f.finds tells in record { form = form; commit = catalog.commit; listed = F.listed; spelled = spelled; listing = F.listing; found = F.found }

  pub read_before : (n : List ℕ) → IsFileOf n → now n ≡ before n
  read_before n file = (f.leaves tells).others n file.1 (undotted_isnt_list n file.0)

  -- the files that its commit requires could be read before the opening, where they can be read now
  pub had_files : ((n : List ℕ) → has (all_required catalog.commit.segments) n ≡ true → ReadsGoodFile (now n)) → HasFiles before (catalog.commit ∷ [])
  had_files good =
      has_files_from before catalog.commit
      (λ n required.
      let file = required_is_file catalog.commit.segments n f.is_commit.segments required in
      subst ReadsGoodFile (read_before n file) (good n required))

  -- each index that stands there is this one
  pub commit_is : (index : FoundIndex schema before) → index.commit ≡ catalog.commit
  commit_is index =
      let F = f.finds tells in
      let text : index.form.schema ≡ form.schema = index.spelled.text_is ∙ sym spelled.text_is in
      let found : FindsCommit form.schema (before meta_name) index.form.settings index.commit = subst (λ (x : List ℕ). FindsCommit x (before meta_name) index.form.settings index.commit) text index.found in
      (same_found form.schema (before meta_name) index.form.settings form.settings index.commit catalog.commit found F.found).1

  module _ (index : OpenedIndex schema before) where
    text_is : form.schema ≡ index.form.schema
    text_is = spelled.text_is ∙ sym index.spelled.text_is

    same : (form.settings ≡ index.form.settings) × (catalog.commit ≡ index.state.catalog.commit)
    same =
        same_found index.form.schema (before meta_name) form.settings index.form.settings catalog.commit index.state.catalog.commit
        (subst (λ (x : List ℕ). FindsCommit x (before meta_name) form.settings catalog.commit) text_is (f.finds tells).found) index.opens.found

    form_is : form ≡ index.form
    form_is = ap₂ (λ (s : Settings) (x : List ℕ). record { settings = s; schema = x }) same.0 text_is

    catalog_is : catalog ≡ index.state.catalog
    catalog_is =
        f.opened ∙ opened_alike catalog index.state.catalog same.1
        ∙ sym (opens_catalog index.form.settings index.form.schema before index.state index.opens)

    managed_is : files.managed ≡ index.state.managed
    managed_is =
        let F = f.finds tells in
        F.managed_is ∙ ap (managed_with (before meta_name)) (listing_one before F.listed index.opens.listed F.listing index.opens.listing) ∙ sym index.opens.managed

    sealed_is : (n : List ℕ) → IsFileOf n → file_at index.state n ≡ option_map SealedFile (now n)
    sealed_is n file = index.opens.files n file ∙ ap (option_map SealedFile) (sym (read_before n file))

    segments_are : AllByRecursion IsSegment index.state.catalog.live
    segments_are =
        subst (AllByRecursion IsSegment) (sym index.opens.live)
        (subst (λ (c : Commit). AllByRecursion IsSegment c.segments) same.1 f.is_commit.segments)

    pub held_at : (form ≡ index.form) × Holds now (kept_of catalog files) index.state
    held_at = (
      form_is,
      record {
        catalog = catalog_is;
        managed = managed_is;
        collections = f.collections ∙ sym index.opens.collections;
        segments = segments_are;
        names = index.opens.names;
        files = λ n file. sealed_holds (file_at index.state n) (now n) _ (sealed_is n file) (rw f.open_files refl);
        left = λ n file. left_is n;
        meta =
            (let M = meta_means form.schema spelled.tree (before meta_name) (now meta_name) form.settings catalog.commit spelled.form (f.finds tells).found
            (λ some. (f.leaves tells).stood some meta_name) (λ none. (f.leaves tells).made none) in
            (M.0, M.1, subst (λ (c : Commit). Means form.settings form.schema M.0 c) same.1 M.2));
        listing = subst (λ (names : List (List ℕ)). Listing now names) managed_is (f.lists tells);
        listed = covers_meta (before meta_name) index.opens.listed index.state.managed index.opens.managed index.opens.covered;
      },
    )
      where
        left_is : (n : List ℕ) → has files.left n ≡ is_left (file_at index.state n)
        left_is n = ap (λ (ns : List (List ℕ)). has ns n) f.left ∙ sym (none_left (file_at index.state n) (now n) (λ there. sealed_is n (index.opens.names n there)))

    -- and the files of its commit can be read
    pub can_read : ((n : List ℕ) → has (all_required catalog.commit.segments) n ≡ true → ReadsGoodFile (now n)) → CanRead index.state
    can_read good = (
      record {
        each = λ n required.
            let here : has (all_required catalog.commit.segments) n ≡ true = subst (λ (c : Commit). has (all_required c.segments) n ≡ true) (sym same.1) required in
            let file = required_is_file catalog.commit.segments n f.is_commit.segments here in
            sealed_good (file_at index.state n) (now n) (now n) (sealed_is n file) refl (good n here);
      },
      subst (λ (who : Readers). AllByRecursion (λ (commit : Commit). AreGoodFiles index.state (all_required commit.segments)) (unread_commits (record index.state.catalog { reading = who }))) (sym index.opens.reading) tt,
    )
