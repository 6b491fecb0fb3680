-- The files that are known to be there, and what keeps them there.
use Rattle.std.proofs.Common.{◌≡◌, true≢false, ℕ, Bool, true, false, not, ◌&&◌, ◌||◌, List, [], Some, is_some, Result, Ok, Err, refl, sym, ap, subst, ◌∙◌}
use Rattle.std.specs.Prelude.{IsSome, OnErr, OnOk}
use Rattle.std.specs.BTreeSet.{insert_key}
use Rattle.tv_formats.specs.Files.{KeepsOthers, Reads, Same, Sets}
use Rattle.tv_formats.specs.Names.{byte_cmp, has, is, is_undotted, list_name}
use Rattle.tv_formats.proofs.Entries.{has_put, is_text, isnt_text}
use Rattle.tv_machine.specs.Index.{IsFileOf}
use Rattle.tv_base.specs.declared.open_errors.OpenWriteError.{OpenWriteError}
use Rattle.tv_device.specs.declared.directory.Directory.{Ghosts}
use Rattle.tv_managed.specs.Managed.{Creates, KeepsOtherFiles}
use Rattle.tv_managed.specs.Names.{ManagedNames}
use Rattle.tv_store.specs.OpenFiles.{AreThere}
use Rattle.tv_store.proofs.Listings.{undotted_isnt_list}

-- each file of a segment that reads something goes on to read something
abbrev pub KeepsThere : Reads → Reads → Type 0
KeepsThere old new = (n : List ℕ) → IsFileOf n → IsSome (old n) → IsSome (new n)

-- so where all reads as before
pub same_there : (old new : Reads) → Same old new → KeepsThere old new
same_there old new same n file some = subst IsSome (sym (same n)) some

-- where this one does, and the others read what they read, but those of the list
pub others_there : (old new : Reads) (name : List ℕ) → KeepsOtherFiles old new name → (IsSome (old name) → IsSome (new name)) → KeepsThere old new
others_there old new name others here n file some =
    elim (is name n) as (λ b. is name n ≡ b → IsSome (new n)) [
      | true ↦ λ e. let it = is_text name n e in subst (λ (m : List ℕ). IsSome (new m)) it (here (subst (λ (m : List ℕ). IsSome (old m)) (sym it) some))
      | false ↦ λ e. subst IsSome (sym (others n (isnt_text name n e) (undotted_isnt_list n file.0))) some
    ] refl

-- where this one does, and the others read what they read
pub beside_there : (old new : Reads) (asked name : List ℕ) → asked ≡ name → KeepsOthers old new asked → (IsSome (old name) → IsSome (new name)) → KeepsThere old new
beside_there old new asked name is others here = others_there old new name (λ n other list. others n (λ e. other (e ∙ is))) here

-- where a file was to be made
pub created_there : {A D W C : Type 0} (g : Ghosts D W C) (old new : D × ManagedNames) (name : List ℕ) (result : Result A OpenWriteError) → Creates g old new name result → g.told.content → KeepsThere (g.view old.0).reads (g.view new.0).reads
created_there g old new name result h tells =
    others_there (g.view old.0).reads (g.view new.0).reads name (h.others tells) (λ some. subst IsSome (sym ((h.there tells some).0 name)) some)

-- known files are there still
pub still_there : (old new : Reads) (known : List (List ℕ)) → KeepsThere old new → AreThere old known → AreThere new known
still_there old new known keeps h n one = let it = h n one in (it.0, keeps n it.0 it.1)

-- and one more
pub more_there : (reads : Reads) (known new : List (List ℕ)) (name : List ℕ) → new ≡ insert_key byte_cmp known name → IsFileOf name × IsSome (reads name) → AreThere reads known → AreThere reads new
more_there reads known new name put it h n one =
    elim (is name n) as (λ b. is name n ≡ b → IsFileOf n × IsSome (reads n)) [
      | true ↦ λ e. subst (λ (m : List ℕ). IsFileOf m × IsSome (reads m)) (is_text name n e) it
      | false ↦ λ e. h n (ap (λ (b : Bool). b || has known n) (sym e) ∙ sym (has_put known name n) ∙ ap (λ (ns : List (List ℕ)). has ns n) (sym put) ∙ one)
    ] refl

-- those that are left are there, where the ones that aren't gone read what they read
pub left_there : (old new : Reads) (known left gone : List (List ℕ)) → ((n : List ℕ) → has left n ≡ (not (has gone n) && has known n)) → ((n : List ℕ) → IsFileOf n → has gone n ≡ false → new n ≡ old n)
    → AreThere old known → AreThere new left
left_there old new known left gone cut others h n one =
    elim (has gone n) as (λ b. has gone n ≡ b → IsFileOf n × IsSome (new n)) [
      | true ↦ λ e. absurd (true≢false (sym one ∙ cut n ∙ ap (λ (b : Bool). not b && has known n) e))
      | false ↦ λ e.
          let it = h n (ap (λ (b : Bool). not b && has known n) (sym e) ∙ sym (cut n) ∙ one) in
          (it.0, subst IsSome (sym (others n it.0 e)) it.1)
    ] refl

-- one more, where there was memory for it
pub may_know : {A E : Type 0} (reads : Reads) (known new : List (List ℕ)) (name : List ℕ) (result : Result A E) → OnOk result (new ≡ insert_key byte_cmp known name) → OnErr result (new ≡ known)
    → IsFileOf name × IsSome (reads name) → AreThere reads known → AreThere reads new
may_know reads known new name (Ok a) put same it h = more_there reads known new name put it h
may_know reads known new name (Err e) put same it h = subst (AreThere reads) (sym same) h

-- where the list alone is saved
pub beside_list : (old new : Reads) → KeepsOthers old new list_name → KeepsThere old new
beside_list old new others n file some = subst IsSome (sym (others n (λ e. true≢false (sym file.0 ∙ ap is_undotted e)))) some

-- a file that was sealed reads something
pub sealed_there : (old new : Reads) (name bytes : List ℕ) → Sets old new name (Some bytes) → IsSome (new name)
sealed_there old new name bytes sets = ap is_some sets.changed

-- where none is known, each is there
pub none_there : (reads : Reads) (known : List (List ℕ)) → known ≡ [] → AreThere reads known
none_there reads known none n one = absurd (true≢false (sym one ∙ ap (λ (ns : List (List ℕ)). has ns n) none))
