-- What stands in a directory, next to the state that it holds.
use Rattle.std.proofs.Common.{◌≡◌, ◌≢◌, ℕ, zero, suc, ◌<◌, Bool, true, false, cond, ◌||◌, List, [], ◌∷◌, filter, get_or, length, map, Option, Some, None, refl, sym, ap, subst, ◌∙◌, arith}
use Rattle.std.proofs.Math.Path.{fun_ext}
use Rattle.std.specs.Prelude.{is_some}
use Rattle.std.specs.List.{list_all}
use Rattle.std.proofs.lemmas.Bool.{and_parts}
use Rattle.serde_json.specs.Data.{Data}
use Rattle.tv_formats.specs.Commits.{Commit, Settings}
use Rattle.tv_formats.specs.Files.{Reads, Same}
use Rattle.tv_machine.specs.Index.{DirectoryHolds, FileReads}
use Rattle.tv_formats.specs.Listing.{Listing}
use Rattle.tv_formats.specs.MetaJson.{SpellsMeta}
use Rattle.tv_formats.specs.Names.{is, is_file_name, is_plain, meta_name}
use Rattle.tv_machine.specs.State.{State, FileState, SealedFile, Open, Left, file_at}
use Rattle.tv_formats.proofs.Entries.{is_text, isnt_text}
use Rattle.tv_formats.proofs.ListTexts.{listing_one}
use Rattle.tv_formats.proofs.MeansOne.{means_spelled}
use Rattle.tv_formats.proofs.OneMeaning.{one_meaning}
use Rattle.tv_formats.proofs.PlainNames.{plain_is_file_name, plain_is_undotted}
use Rattle.tv_replay.specs.Summaries.{has_file, IsStanding}

-- a name reads as its file stands
pub reads_where_there : (file : Option FileState) (read : Option (List ℕ)) → FileReads file read → is_some read ≡ is_some file
reads_where_there None read h = ap is_some h
reads_where_there (Some (SealedFile bytes)) read h = ap is_some h
reads_where_there (Some (Open body)) read h = h
reads_where_there (Some Left) read h = h

-- a plain name reads where it is that of a file of the index
reads_file : (settings : Settings) (schema : List ℕ) (reads : Reads) (s : State) (name : List ℕ) → DirectoryHolds settings schema reads s → is_plain name ≡ true → is_some (reads name) ≡ has_file s name
reads_file settings schema reads s name holds plain =
    elim (is name meta_name) as (λ b. is name meta_name ≡ b → is_some (reads name) ≡ (b || is_some (file_at s name))) [
      | true ↦ λ same. ap (λ (n : List ℕ). is_some (reads n)) (is_text name meta_name same) ∙ ap is_some holds.meta.1
      | false ↦ λ other.
          let apart : name ≢ meta_name = λ same. isnt_text name meta_name other (sym same) in
          reads_where_there (file_at s name) (reads name) (holds.files name (plain_is_undotted name plain, apart))
    ] refl

same_filter : (p q : List ℕ → Bool) (names : List (List ℕ)) → ((name : List ℕ) → is_plain name ≡ true → p name ≡ q name) → list_all is_plain names ≡ true → filter p names ≡ filter q names
same_filter p q [] same plain = refl
same_filter p q (name ∷ names) same plain =
    let parts = and_parts (is_plain name) (list_all is_plain names) plain in
    ap (λ (b : Bool). cond b (name ∷ filter p names) (filter p names)) (same name parts.0) ∙ ap (λ (l : List (List ℕ)). cond (q name) (name ∷ l) l) (same_filter p q names same parts.1)

-- the number of the commit that is read, and how many managed names read
pub stands : (settings others : Settings) (schema bytes : List ℕ) (commit : Commit) (tree : Data) (reads now : Reads) (names : List (List ℕ)) (opstamp files : ℕ) (s : State)
    → DirectoryHolds settings schema reads s → s.managed ≡ names → reads meta_name ≡ Some bytes → SpellsMeta bytes others commit tree → opstamp ≡ commit.opstamp
    → Same reads now → list_all is_plain names ≡ true → files ≡ length (filter (λ name. is_some (now name)) names) → IsStanding s opstamp files
stands settings others schema bytes commit tree reads now names opstamp files s holds managed read spells is_opstamp same plain counted =
    let text : ◌≡◌ {A = Option (List ℕ)} (Some bytes) (Some holds.meta.0) = sym read ∙ holds.meta.1 in
    let bytes_are : bytes ≡ holds.meta.0 = cc in
    let here : SpellsMeta holds.meta.0 others commit tree = subst (λ (l : List ℕ). SpellsMeta l others commit tree) bytes_are spells in
    let own = means_spelled settings schema holds.meta.0 s.catalog.commit holds.meta.2 (ap is_some here.parsed) in
    let one = one_meaning holds.meta.0 settings others s.catalog.commit commit holds.meta.2.tree tree own here in
    record {
      opstamp_is = is_opstamp ∙ ap (λ (c : Commit). c.opstamp) (sym one.1);
      files_are =
          counted
          ∙ ap (λ (l : List (List ℕ)). length l) (same_filter (λ name. is_some (now name)) (has_file s) names (λ name p. ap is_some (same name) ∙ reads_file settings schema reads s name holds p) plain)
          ∙ ap (λ (l : List (List ℕ)). length (filter (has_file s) l)) (sym managed);
    }

-- the managed names of a directory that was wrapped are those of the state that it holds
pub managed_are : (reads : Reads) (names managed : List (List ℕ)) → Listing reads names → Listing reads managed → managed ≡ names
managed_are reads names managed wrapped held = listing_one reads managed names held wrapped

-- a directory that reads the same holds the same state
pub same_holds : (settings : Settings) (schema : List ℕ) (reads now : Reads) (s : State) → Same reads now → DirectoryHolds settings schema reads s → DirectoryHolds settings schema now s
same_holds settings schema reads now s same holds = record {
  names = holds.names;
  files = λ n is. subst (FileReads (file_at s n)) (sym (same n)) (holds.files n is);
  meta = (holds.meta.0, same meta_name ∙ holds.meta.1, holds.meta.2);
  listing = subst (λ (r : Reads). Listing r s.managed) (sym (fun_ext same)) holds.listing;
}

-- ---- how many names read, one after the other

-- those that are plain are names of files
pub plain_at : {X : Type 0} (f : X → List ℕ) (xs : List X) (i : ℕ) (x : X) → i < length xs → x ≡ get_or xs i x → list_all is_plain (map f xs) ≡ true → is_file_name (f x) ≡ true
plain_at f [] i x within is plain = absurd (omega (arith, within))
plain_at f (y ∷ xs) zero x within is plain = plain_is_file_name (f x) (ap (λ z. is_plain (f z)) is ∙ (and_parts (is_plain (f y)) (list_all is_plain (map f xs)) plain).0)
plain_at f (y ∷ xs) (suc i) x within is plain = plain_at f xs i x (omega (arith, within)) is (and_parts (is_plain (f y)) (list_all is_plain (map f xs)) plain).1
