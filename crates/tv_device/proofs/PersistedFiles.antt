-- Files that are written to another directory, one after the other.
use Rattle.std.proofs.Common.{◌≡◌, ◌≢◌, ℕ, Bool, true, false, cond, List, [], ◌∷◌, ◌++◌, Option, Some, None, refl, sym, ap, subst, ◌∙◌, append_assoc, true≢false}
use Rattle.std.specs.BTreeMap.{is_at}
use Rattle.tv_formats.specs.Names.{byte_cmp, at}
use Rattle.tv_formats.specs.Files.{Reads, Sets, Rose}
use Rattle.tv_base.specs.declared.error.TantivyError.{TantivyError}
use Rattle.tv_device.specs.View.{View, Told}
use Rattle.tv_device.specs.Persisting.{Persists, PersistCause, Refuses, StopsAt, contents}
use Rattle.tv_device.specs.StoredFiles.{bytes_of}
use Rattle.tv_device.specs.declared.files.StoredFile.{StoredFile}
use Rattle.std.specs.Prelude.{is_some}
use Rattle.std.proofs.lemmas.Option.{none-some}
use Rattle.tv_device.proofs.StoredFiles.{same_or, isnt_at}
use Rattle.tv_formats.proofs.Entries.{at_itself, same_at}

-- some files are still to be written
pub record PersistsRest (told : Type 0) (all rest : List (List ℕ × List ℕ)) (old new : Reads) : Type 0 where
  pub before : List (List ℕ × List ℕ)
  pub split : all ≡ before ++ rest
  pub persisted : told → Persists before old new

-- none was written yet
pub persists_none : (reads : Reads) → Persists [] reads reads
persists_none reads = record {
  absent = λ n among. absurd (true≢false (sym among));
  written = λ n bytes is. absurd cc;
  others = λ n none. refl;
}

-- they begin with this one
pub split_at : {told : Type 0} {all rest others : List (List ℕ × List ℕ)} {old new : Reads} {file : List ℕ × List ℕ} (r : PersistsRest told all rest old new) → rest ≡ file ∷ others → all ≡ r.before ++ file ∷ others
split_at r first = r.split ∙ ap (λ (l : List (List ℕ × List ℕ)). r.before ++ l) first

-- one more file among some others
at_other : (before : List (List ℕ × List ℕ)) (e : List ℕ × List ℕ) (n : List ℕ) → n ≢ e.0 → at (before ++ e ∷ []) n ≡ at before n
at_other [] e n other = ap (λ (b : Bool). cond b (Some e.1) None) (same_at n e.0 ∙ isnt_at e.0 n other)
at_other (f ∷ before) e n other = ap (λ (o : Option (List ℕ)). cond (is_at (byte_cmp n) f.0) (Some f.1) o) (at_other before e n other)

at_last : (before : List (List ℕ × List ℕ)) (e : List ℕ × List ℕ) → at before e.0 ≡ None → at (before ++ e ∷ []) e.0 ≡ Some e.1
at_last [] e none = rw (at_itself e.0) refl
at_last (f ∷ before) e none =
    elim (is_at (byte_cmp e.0) f.0) as (λ b. cond b (Some f.1) (at before e.0) ≡ None → cond b (Some f.1) (at (before ++ e ∷ []) e.0) ≡ Some e.1) [
      | true ↦ λ h. absurd cc
      | false ↦ λ h. at_last before e h
    ] none

unless_some : (o : Option (List ℕ)) → ((x : List ℕ) → o ≡ Some x → ⊥) → o ≡ None
unless_some None found = refl
unless_some (Some x) found = absurd (found x refl)

-- one more file was written
persists_one : (before : List (List ℕ × List ℕ)) (old mid new : Reads) (name bytes : List ℕ) → Persists before old mid → mid name ≡ None → Sets mid new name (Some bytes) → Persists (before ++ (name, bytes) ∷ []) old new
persists_one before old mid new name bytes p absent set =
    let e : List ℕ × List ℕ = (name, bytes) in
    let free : at before name ≡ None = unless_some (at before name) (λ x f. none-some x (sym absent ∙ p.written name x f)) in
    let here : (n : List ℕ) → n ≡ name → at (before ++ e ∷ []) n ≡ Some bytes = λ n same. ap (at (before ++ e ∷ [])) same ∙ at_last before e free in
    record {
      absent = λ n some. same_or name n (λ same. ap old same ∙ sym (p.others name free) ∙ absent) (λ other. p.absent n (ap is_some (sym (at_other before e n other)) ∙ some));
      written = λ n x is. same_or name n (λ same. ap new same ∙ set.changed ∙ sym (here n same) ∙ is) (λ other. set.others n other ∙ p.written n x (sym (at_other before e n other) ∙ is));
      others = λ n none. same_or name n (λ same. absurd (none-some bytes (sym none ∙ here n same))) (λ other. set.others n other ∙ p.others n (sym (at_other before e n other) ∙ none));
    }

-- the first of some files
pub first_of : (rest others : List (List ℕ × StoredFile)) (file : List ℕ × StoredFile) (name bytes : List ℕ) → rest ≡ file ∷ others → name ≡ file.0 → bytes ≡ bytes_of file.1.content → contents rest ≡ (name, bytes) ∷ contents others
first_of rest others file name bytes is named held = rw (is, named, held) refl

pub rest_next : (told : Type 0) (all rest others : List (List ℕ × List ℕ)) (old mid new : Reads) (name bytes : List ℕ) → PersistsRest told all rest old mid → rest ≡ (name, bytes) ∷ others → (told → mid name ≡ None) → (told → Sets mid new name (Some bytes)) → PersistsRest told all others old new
rest_next told all rest others old mid new name bytes r first absent set = record {
  before = r.before ++ (name, bytes) ∷ [];
  split = r.split ∙ ap (λ (l : List (List ℕ × List ℕ)). r.before ++ l) first ∙ sym (append_assoc r.before ((name, bytes) ∷ []) others);
  persisted = λ t. persists_one r.before old mid new name bytes (r.persisted t) (absent t) (set t);
}

-- one of the files couldn't be written
pub stops_at : {W : Type 0} (told : Told) (old mid new : View W) (all rest others : List (List ℕ × List ℕ)) (name bytes : List ℕ) → PersistsRest told.content all rest old.reads mid.reads → rest ≡ (name, bytes) ∷ others → mid.faults ≡ old.faults → (error : TantivyError) → Refuses told mid new mid.reads name error → StopsAt told old new all error
stops_at told old mid new all rest others name bytes r first same error refused = record {
  before = r.before;
  name = name;
  bytes = bytes;
  rest = others;
  split = r.split ∙ ap (λ (l : List (List ℕ × List ℕ)). r.before ++ l) first;
  tried = mid.reads;
  persisted = r.persisted;
  refused = record {
    cause = subst (λ (n : ℕ). PersistCause name (new.faults ≡ n) (Rose n new.faults) (new.faults ≡ n) error) same refused.cause;
    left = refused.left;
  };
}
