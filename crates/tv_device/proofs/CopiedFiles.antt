-- Files that are copied one after the other.
use Rattle.std.proofs.Common.{◌≡◌, ◌≢◌, ℕ, suc, Bool, false, cond, List, [], ◌∷◌, Option, Some, None, All, refl, sym, ap, subst, ◌∙◌, is_some, option_map, arith}
use Rattle.tv_formats.specs.Names.{at}
use Rattle.tv_formats.specs.Files.{Sets}
use Rattle.tv_device.specs.StoredFiles.{bytes_of, reads_of}
use Rattle.tv_device.specs.declared.files.StoredFile.{StoredFile}
use Rattle.tv_device.proofs.StoredFiles.{isnt_at, same_or}
use Rattle.tv_formats.proofs.Entries.{same_at}

-- where some files are still to be copied, every other name reads in the copy what it reads in the original
pub record CopiesRest (all rest copy : List (List ℕ × StoredFile)) : Type 0 where
  pub among : All (λ (e : List ℕ × StoredFile). at all e.0 ≡ Some e.1) rest
  pub others : (n : List ℕ) → is_some (at rest n) ≡ false → reads_of copy n ≡ reads_of all n

nothing_at : (o : Option StoredFile) → is_some o ≡ false → None ≡ option_map (λ file. bytes_of file.content) o
nothing_at None e = refl
nothing_at (Some file) e = absurd cc

pub copies_first : (all copy : List (List ℕ × StoredFile)) → copy ≡ [] → All (λ (e : List ℕ × StoredFile). at all e.0 ≡ Some e.1) all → CopiesRest all all copy
copies_first all copy empty among = record {
  among = among;
  others = λ n none. ap (λ (l : List (List ℕ × StoredFile)). reads_of l n) empty ∙ nothing_at (at all n) none;
}

not_first : (e : List ℕ × StoredFile) (others : List (List ℕ × StoredFile)) (n : List ℕ) → n ≢ e.0 → is_some (at others n) ≡ false → is_some (at (e ∷ others) n) ≡ false
not_first e others n other none =
    ap (λ (b : Bool). is_some (cond b (Some e.1) (at others n))) (same_at n e.0 ∙ isnt_at e.0 n other) ∙ none

pub copies_one : (all rest others old new : List (List ℕ × StoredFile)) (e : List ℕ × StoredFile) (bytes : List ℕ) → CopiesRest all rest old → rest ≡ e ∷ others → Sets (reads_of old) (reads_of new) e.0 (Some bytes) → bytes ≡ bytes_of e.1.content → CopiesRest all others new
copies_one all rest others old new e bytes so_far first set is =
    let among : All (λ (e : List ℕ × StoredFile). at all e.0 ≡ Some e.1) (e ∷ others) = subst (λ (l : List (List ℕ × StoredFile)). All (λ (e : List ℕ × StoredFile). at all e.0 ≡ Some e.1) l) first so_far.among in
    record {
      among = λ k d lt. among (suc k) d (grind (arith, lt));
      others = λ n none.
          same_or e.0 n
          (λ same. ap (reads_of new) same ∙ set.changed ∙ ap Some is ∙ sym (ap (option_map (λ file. bytes_of file.content)) (among 0 e (grind arith))) ∙ ap (reads_of all) (sym same))
          (λ other. set.others n other ∙ so_far.others n (ap (λ (l : List (List ℕ × StoredFile)). is_some (at l n)) first ∙ not_first e others n other none));
    }
