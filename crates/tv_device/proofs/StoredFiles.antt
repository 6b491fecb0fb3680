-- What a map of files reads after files were put.
use Rattle.std.proofs.Common.{◌≡◌, ◌≢◌, ℕ, Bool, true, false, cond, List, [], ◌∷◌, ◌++◌, Option, Some, refl, sym, ap, subst, ◌∙◌, append_assoc, true≢false}
use Rattle.std.specs.Prelude.{option_map, string_bytes, String, Vec}
use Rattle.std.proofs.lemmas.Bool.{false_from_ne_true}
use Rattle.std.proofs.lemmas.List.{reverse-append}
use Rattle.std.specs.List.{AllByRecursion}
use Rattle.std.specs.BTreeMap.{is_at}
use Rattle.tv_formats.specs.Names.{byte_cmp, is_file_name, at}
use Rattle.tv_formats.specs.Disk.{Sealed}
use Rattle.tv_formats.specs.Files.{Reads, Same, Sets}
use Rattle.tv_formats.proofs.Entries.{at_itself, text_at}
use Rattle.tv_device.specs.declared.files.StoredFile.{StoredFile}
use Rattle.tv_device.specs.StoredFiles.{AreSealed, StandsAs, at_rest, bytes_of, reads_of, disk_state_of, states_of, number_at, named, last_of}

-- another name isn't at this one's place
pub isnt_at : (name n : List ℕ) → n ≢ name → is_at (byte_cmp name) n ≡ false
isnt_at name n other = false_from_ne_true _ (λ e. other (sym (text_at name n e)))

-- the files of some names, and of one that was given another file or none
pub record Gives (old new : List (List ℕ × StoredFile)) (name : List ℕ) (file : Option StoredFile) : Type 0 where
  pub changed : at new name ≡ file
  pub others : (n : List ℕ) → n ≢ name → at new n ≡ at old n

-- what the map's own clause says of a key that was put or taken out
pub gives_by : (old new : List (List ℕ × StoredFile)) (name : List ℕ) (file : Option StoredFile) → at new name ≡ file → ((n : List ℕ) → is_at (byte_cmp name) n ≡ false → at new n ≡ at old n) → Gives old new name file
gives_by old new name file changed others = record { changed = changed; others = λ n other. others n (isnt_at name n other) }

pub sets_to : (old new : List (List ℕ × StoredFile)) (name : List ℕ) (file : Option StoredFile) → Gives old new name file → Sets (reads_of old) (reads_of new) name (option_map (λ file. bytes_of file.content) file)
sets_to old new name file given = record {
  changed = ap (option_map (λ file. bytes_of file.content)) given.changed;
  others = λ n other. ap (option_map (λ file. bytes_of file.content)) (given.others n other);
}

pub stands_as : (old new : List (List ℕ × StoredFile)) (name : List ℕ) (file : Option StoredFile) → Gives old new name file → StandsAs (states_of old) (states_of new) name (disk_state_of (option_map (λ file. file.content) file))
stands_as old new name file given = record {
  changed = ap (λ file. disk_state_of (option_map (λ file. file.content) file)) given.changed;
  others = λ n other. ap (λ file. disk_state_of (option_map (λ file. file.content) file)) (given.others n other);
}

-- whether a name is this one
pub same_or : {P : Type 0} (name n : List ℕ) → (n ≡ name → P) → (n ≢ name → P) → P
same_or {P} name n same other =
    elim (is_at (byte_cmp name) n) as (λ b. is_at (byte_cmp name) n ≡ b → P) [
      | true ↦ λ e. same (sym (text_at name n e))
      | false ↦ λ e. other (λ is. true≢false (sym (at_itself name) ∙ ap (λ (k : List ℕ). is_at (byte_cmp name) k) (sym is) ∙ e))
    ] refl

-- a file under the number that it had
pub same_numbers : (old new : List (List ℕ × StoredFile)) (name : List ℕ) (number : ℕ) → number_at old name ≡ Some number → number_at new name ≡ Some number → ((n : List ℕ) → n ≢ name → number_at new n ≡ number_at old n) → (n : List ℕ) → number_at new n ≡ number_at old n
same_numbers old new name number was now others n =
    same_or name n
    (λ same. ap (number_at new) same ∙ now ∙ sym was ∙ ap (number_at old) (sym same))
    (λ other. others n other)

-- where the last pairs of a list are still to come, the map reads what the others say
pub record PutsAll {X Y : Type 0} (all rest : List (String X × Vec ℕ Y)) (files : List (List ℕ × StoredFile)) : Type 0 where
  pub names : AllByRecursion (λ file. is_file_name (string_bytes file.0) ≡ true) rest
  pub done : List (List ℕ × List ℕ)
  pub split : named all ≡ done ++ named rest
  pub reads : Same (last_of done) (reads_of files)

-- what a name reads after one more pair
one_more : (old new : Reads) (name bytes n : List ℕ) (before : Option (List ℕ)) (b : Bool) → is_at (byte_cmp n) name ≡ b → Sets old new name (Some bytes) → old n ≡ before → new n ≡ cond b (Some bytes) before
one_more old new name bytes n before true e set was = ap new (text_at n name e) ∙ set.changed
one_more old new name bytes n before false e set was =
    set.others n (λ same. true≢false (sym (at_itself name) ∙ ap (λ (k : List ℕ). is_at (byte_cmp k) name) (sym same) ∙ e)) ∙ was

-- the first pair that is still to come is put
pub puts_one : {X Y : Type 0} (all rest others : List (String X × Vec ℕ Y)) (old new : List (List ℕ × StoredFile)) (file : String X × Vec ℕ Y) → PutsAll all rest old → rest ≡ file ∷ others → Sets (reads_of old) (reads_of new) (string_bytes file.0) (Some file.1.items) → PutsAll all others new
puts_one {X} {Y} all rest others old new file so_far first set =
    let pair : List ℕ × List ℕ = (string_bytes file.0, file.1.items) in
    let done = so_far.done in
    record {
      names = (subst (λ (l : List (String X × Vec ℕ Y)). AllByRecursion (λ file. is_file_name (string_bytes file.0) ≡ true) l) first so_far.names).1;
      done = done ++ pair ∷ [];
      split = so_far.split ∙ ap (λ (l : List (String X × Vec ℕ Y)). done ++ named l) first ∙ sym (append_assoc done (pair ∷ []) (named others));
      reads = λ n. rw (reverse-append done (pair ∷ [])) (one_more (reads_of old) (reads_of new) pair.0 pair.1 n (last_of done n) (is_at (byte_cmp n) pair.0) refl set (so_far.reads n));
    }

-- a sealed file more
pub seals_one : (old new : List (List ℕ × StoredFile)) (name bytes : List ℕ) → AreSealed old → StandsAs (states_of old) (states_of new) name (Sealed bytes) → Sets (reads_of old) (reads_of new) name (Some bytes) → AreSealed new
seals_one old new name bytes are stands set n =
    same_or name n
    (λ same. ap (states_of new) same ∙ stands.changed ∙ sym (ap at_rest (ap (reads_of new) same ∙ set.changed)))
    (λ other. stands.others n other ∙ are n ∙ sym (ap at_rest (set.others n other)))
