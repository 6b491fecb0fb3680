-- A sound directory opens to a state.
use Rattle.std.proofs.Common.{◌≡◌, ℕ, Bool, true, false, true≢false, not, ◌&&◌, ◌||◌, cond, List, [], ◌∷◌, Option, Some, None, refl, sym, ap, subst, ◌∙◌}
use Rattle.std.specs.Prelude.{IsSome, is_some, option_map}
use Rattle.std.specs.Map.{lookup}
use Rattle.std.specs.BTreeMap.{is_at}
use Rattle.std.specs.List.Sorted.{IsStrictlySortedBy}
use Rattle.std.proofs.lemmas.Bool.{and_parts, not-true, false_from_ne_true}
use Rattle.tv_formats.specs.Names.{byte_cmp, is, has, is_undotted, meta_name}
use Rattle.tv_formats.specs.Files.{Reads}
use Rattle.tv_formats.specs.Commits.{Commit, Settings, default_settings, first_commit}
use Rattle.tv_formats.specs.Schemas.{IsSchema}
use Rattle.tv_formats.specs.Collections.{no_collections}
use Rattle.tv_machine.specs.State.{Catalog, State, FileState, SealedFile, no_readers}
use Rattle.tv_machine.specs.Index.{IsFileOf, OpensTo, OpenedIndex, as_opened, first_catalog, next_after}
use Rattle.tv_formats.specs.Sound.{IsSoundMeta, IsSoundImage, FindsCommit, managed_with}
use Rattle.tv_formats.proofs.Entries.{is_text, is_itself, is_by_order, sorted_put}
use Rattle.tv_formats.proofs.ListTexts.{listing_sorted}

-- ---- the files of the state

-- whether a name is that of a file of the machine
abbrev is_file_of : List ℕ → Bool
is_file_of name = is_undotted name && not (is name meta_name)

-- a file with what its name reads, before some others
abbrev put_read : List ℕ → Option (List ℕ) → List (List ℕ × FileState) → List (List ℕ × FileState)
put_read name None files = files
put_read name (Some bytes) files = (name, SealedFile bytes) ∷ files

-- of these names those of files that read something, each with its bytes
abbrev files_of : Reads → List (List ℕ) → List (List ℕ × FileState)
files_of reads [] = []
files_of reads (name ∷ names) = cond (is_file_of name) (put_read name (reads name) (files_of reads names)) (files_of reads names)

-- a file of another name changes nothing of what stands at a name
at_other : (name n : List ℕ) (read : Option (List ℕ)) (files : List (List ℕ × FileState)) (fits : Bool) → is name n ≡ false
    → lookup (is_at (byte_cmp n)) (cond fits (put_read name read files) files) ≡ lookup (is_at (byte_cmp n)) files
at_other name n read files false e = refl
at_other name n None files true e = refl
at_other name n (Some bytes) files true e = rw (sym (is_by_order n name) ∙ e) refl

-- with a file of this name in front, what the name reads stands at it, where the same or nothing stood there before
at_own : (n : List ℕ) (read : Option (List ℕ)) (files : List (List ℕ × FileState)) (fits listed : Bool)
    → lookup (is_at (byte_cmp n)) files ≡ cond (listed && fits) (option_map SealedFile read) None
    → lookup (is_at (byte_cmp n)) (cond fits (put_read n read files) files) ≡ cond fits (option_map SealedFile read) None
at_own n read files false true h = h
at_own n read files false false h = h
at_own n None files true true h = h
at_own n None files true false h = h
at_own n (Some bytes) files true listed h = rw (sym (is_by_order n n) ∙ is_itself n) refl

-- at a name stands what it reads, where it is one of the names and that of a file
at_files : (reads : Reads) (names : List (List ℕ)) (n : List ℕ)
    → lookup (is_at (byte_cmp n)) (files_of reads names) ≡ cond (has names n && is_file_of n) (option_map SealedFile (reads n)) None
at_files reads [] n = refl
at_files reads (name ∷ names) n =
    let rest = at_files reads names n in
    let files = files_of reads names in
    let own = option_map SealedFile (reads n) in
    let found = lookup (is_at (byte_cmp n)) (files_of reads (name ∷ names)) in
    elim (is name n) as (λ b. is name n ≡ b → found ≡ cond ((b || has names n) && is_file_of n) own None) [
      | true ↦ λ e.
          subst (λ m. lookup (is_at (byte_cmp n)) (cond (is_file_of m) (put_read m (reads m) files) files) ≡ cond (is_file_of n) own None)
          (sym (is_text name n e)) (at_own n (reads n) files (is_file_of n) (has names n) rest)
      | false ↦ λ e. at_other name n (reads name) files (is_file_of name) e ∙ rest
    ] refl

-- a name passes the test exactly where it is that of a file of the machine
file_of_test : (n : List ℕ) → is_file_of n ≡ true → IsFileOf n
file_of_test n h =
    let t = and_parts (is_undotted n) (not (is n meta_name)) h in
    (t.0, λ e. true≢false (sym (is_itself n) ∙ ap (is n) e ∙ not-true (is n meta_name) t.1))

test_of_file : (n : List ℕ) → IsFileOf n → is_file_of n ≡ true
test_of_file n h = rw (h.0, false_from_ne_true (is n meta_name) (λ e. h.1 (is_text n meta_name e))) refl

-- only a name that passes has something
some_passes : {X : Type 0} (listed fits : Bool) (file : Option X) → is_some (cond (listed && fits) file None) ≡ true → fits ≡ true
some_passes true true file h = refl
some_passes true false file h = absurd (true≢false (sym h))
some_passes false fits file h = absurd (true≢false (sym h))

-- where what reads something is listed, a file has what its name reads
listed_reads : (listed fits : Bool) (read : Option (List ℕ)) → fits ≡ true → (IsSome read → listed ≡ true)
    → cond (listed && fits) (option_map SealedFile read) None ≡ option_map SealedFile read
listed_reads listed false read e h = absurd (true≢false (sym e))
listed_reads true true read e h = refl
listed_reads false true None e h = refl
listed_reads false true (Some bytes) e h = absurd (true≢false (sym (h refl)))

-- ---- the state

-- the settings and the commit of the index that stands in a sound directory
finds : (schema : List ℕ) (reads : Reads) (read : Option (List ℕ)) → IsSoundMeta schema reads read
    → (settings : Settings) × (commit : Commit) × FindsCommit schema read settings commit
finds schema reads None sound = (default_settings, first_commit, (refl, refl))
finds schema reads (Some text) sound = (sound.0, sound.1, sound.2)

-- the state of an index that is opened with this commit
abbrev state_of : Reads → List (List ℕ) → Commit → State
state_of reads names commit = record {
  catalog = as_opened (record first_catalog { commit = commit });
  files = files_of reads names;
  managed = managed_with (reads meta_name) names;
  collections = no_collections;
}

-- a sound directory opens to a state
pub sound_opens : (schema : List ℕ) (reads : Reads) → IsSoundImage schema reads → (settings : Settings) × (s : State) × OpensTo settings schema reads s
sound_opens schema reads sound =
    let found = finds schema reads (reads meta_name) sound.commit in (
      found.0,
      state_of reads sound.names found.1,
      record {
        listed = sound.names;
        listing = sound.listing;
        covered = sound.listed meta_name refl;
        found = found.2;
        managed = refl;
        live = refl;
        next = refl;
        reading = refl;
        collections = refl;
        names = λ n there.
            let some = ap is_some (sym (at_files reads sound.names n)) ∙ there in
            file_of_test n (some_passes (has sound.names n) (is_file_of n) (option_map SealedFile (reads n)) some);
        files = λ n file.
            at_files reads sound.names n ∙ listed_reads (has sound.names n) (is_file_of n) (reads n) (test_of_file n file) (sound.listed n file.0);
      },
    )

-- a directory that is sound under the schema that these bytes spell opens to an index
pub sound_index : (bytes text : List ℕ) (reads : Reads) → IsSchema bytes text → IsSoundImage text reads → OpenedIndex bytes reads
sound_index bytes text reads spelled sound =
    let o = sound_opens text reads sound in
    record { form = record { settings = o.0; schema = text }; state = o.1; spelled = spelled; opens = o.2 }

-- ---- what a directory opens to

-- the parts of a catalog that was just opened
catalog_of : (c : Catalog) → c.live ≡ c.commit.segments → c.next ≡ next_after c.commit.opstamp
    → c.reading ≡ no_readers → c ≡ as_opened c
catalog_of c live next reading =
    ap (λ l. record c { live = l }) live
    ∙ ap (λ n. record c { live = c.commit.segments; next = n }) next
    ∙ ap (λ r. record c { live = c.commit.segments; next = next_after c.commit.opstamp; reading = r }) reading

-- of catalogs with one commit an opening makes the same
pub opened_alike : (c other : Catalog) → c.commit ≡ other.commit → as_opened c ≡ as_opened other
opened_alike c other same = ap (λ commit. as_opened (record c { commit = commit })) same

-- the catalog is as an opening makes it
pub opens_catalog : (settings : Settings) (schema : List ℕ) (reads : Reads) (s : State)
    → OpensTo settings schema reads s → s.catalog ≡ as_opened s.catalog
opens_catalog settings schema reads s o = catalog_of s.catalog o.live o.next o.reading

managed_sorted : (read : Option (List ℕ)) (listed : List (List ℕ)) → IsStrictlySortedBy byte_cmp listed
    → IsStrictlySortedBy byte_cmp (managed_with read listed)
managed_sorted None listed h = sorted_put listed meta_name h
managed_sorted (Some text) listed h = h

-- the managed names stand in their order
pub opens_managed_sorted : (settings : Settings) (schema : List ℕ) (reads : Reads) (s : State) → OpensTo settings schema reads s
    → IsStrictlySortedBy byte_cmp s.managed
opens_managed_sorted settings schema reads s o =
    subst (IsStrictlySortedBy byte_cmp) (sym o.managed) (managed_sorted (reads meta_name) o.listed (listing_sorted reads o.listed o.listing))
