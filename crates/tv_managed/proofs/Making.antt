-- What a call that makes a file, or gives it its bytes, does to the names, to their list and to what is read, put together from its steps.
use Rattle.std.proofs.Common.{◌≡◌, ◌≢◌, ℕ, true, false, true≢false, List, refl, sym, ap, subst, ◌∙◌, ⊎_elim, inl, inr, Option, None, Result, Ok, Err}
use Rattle.std.specs.Prelude.{IsSome, OnOk, IfErr, is_some}
use Rattle.std.proofs.lemmas.Bool.{both_ways}
use Rattle.std.proofs.lemmas.Result.{IfOk-from_err}
use Rattle.std.specs.Result.{IsErr}
use Rattle.tv_formats.specs.Names.{is, has, is_undotted, list_name}
use Rattle.tv_formats.specs.Files.{Reads, Same, Sets, MaySet, KeepsOthers}
use Rattle.tv_formats.specs.Listing.{IsOnList, Lists}
use Rattle.tv_formats.proofs.Entries.{is_itself, is_text}
use Rattle.tv_formats.proofs.Results.{on_err, on_ok}
use Rattle.tv_base.specs.Causes.{IoCause, OpenWriteCause}
use Rattle.tv_base.specs.declared.io.IoError.{IoError}
use Rattle.tv_base.specs.declared.io.IoError.TheVariants as io
use Rattle.tv_base.specs.declared.open_errors.OpenWriteError.{OpenWriteError}
use Rattle.tv_base.specs.declared.open_errors.OpenWriteError.TheVariants as write
use Rattle.tv_device.specs.Calls.{MayMake}
use Rattle.tv_device.specs.declared.directory.Directory.{Ghosts}
use Rattle.tv_managed.specs.Managed.{Covers, HasListed, ManagesFile, registering}
use Rattle.tv_managed.specs.Names.{ManagedNames, done_names}
use Rattle.tv_managed.proofs.Listing.{has_registered}
use Rattle.tv_managed.proofs.Saves.{still_covers}
use Rattle.tv_managed.proofs.Tracking.{isnt_the_list}

-- a write of a name changes no other one, whatever it answers
pub others_written : {X : Type 0} (result : Result X IoError) (old new : Reads) (name : List ℕ) (value : Option (List ℕ)) → OnOk result (Sets old new name value) → IfErr result (IoCause (MaySet old new name value) (Same old new)) → KeepsOthers old new name
others_written (Ok x) old new name value ok err = ok.others
others_written (Err (io.Fault fault)) old new name value ok err = err.1.others
others_written (Err io.Memory) old new name value ok err = λ n ne. err n

-- a call that was refused changed no other name
pub others_of_refused : (old new : Reads) (name : List ℕ) (e : OpenWriteError) → OpenWriteCause name (Same old new) (MayMake old new name) (Same old new) e → KeepsOthers old new name
others_of_refused old new name (write.FileAlreadyExists path) h = λ n ne. h.1 n
others_of_refused old new name (write.Leaving path) h = absurd h
others_of_refused old new name (write.IoError fault path) h = ⊎_elim (λ same n ne. same n) (λ made. made.1.others) h.2
others_of_refused old new name write.Memory h = λ n ne. h n

-- ---- a call that asks, lists a name, and then changes its file alone

module _ {B F D W C : Type 0} (g : Ghosts D W C) {old asked listed new : D × ManagedNames} {name : List ℕ} {x : B} (reads : g.told.content → Same (g.view old.0).reads (g.view asked.0).reads) (names : asked.1 ≡ old.1)
    (lists : HasListed {E = F} g asked listed name (Ok x)) (kept : new.1 ≡ listed.1) (changes : g.told.content → KeepsOthers (g.view listed.0).reads (g.view new.0).reads name) (other : name ≢ list_name) where
  registers : new.1 ≡ registering old.1 name
  registers = kept ∙ lists.names ∙ ap (λ v. registering v name) names

  list_reads : g.told.content → (g.view new.0).reads list_name ≡ (g.view listed.0).reads list_name
  list_reads tells = changes tells list_name (λ same. other (sym same))

  covers_asked : g.told.content → Covers ((g.view old.0).reads list_name) old.1 → Covers ((g.view asked.0).reads list_name) asked.1
  covers_asked tells was = still_covers (λ d. (g.view d).reads) old.0 asked.0 old.1 asked.1 (reads tells) names was

  -- a file that is new is this one
  new_is : g.told.content → (n : List ℕ) → is_undotted n ≡ true → IsSome ((g.view new.0).reads n) → (g.view old.0).reads n ≡ None → (n ≡ name) × (is_undotted name ≡ true)
  new_is tells n undotted some none =
      let it : n ≡ name = elim (is n name) as (λ b. is n name ≡ b → n ≡ name) [
        | true ↦ λ e. is_text n name e
        | false ↦ λ e.
            let ne : n ≢ name = λ same. true≢false (sym (subst (λ m. is n m ≡ true) same (is_itself n)) ∙ e) in
            let absent : (g.view new.0).reads n ≡ None = changes tells n ne ∙ lists.others tells n (isnt_the_list n undotted) ∙ reads tells n ∙ none in
            absurd (both_ways _ (ap is_some absent) some)
      ] refl in
      (it, subst (λ m. is_undotted m ≡ true) it undotted)

  pub manages_by : {A E : Type 0} (result : Result A E) → (is_undotted name ≡ true → has (done_names old.1.collections) name ≡ false) → ManagesFile g old new name result
  manages_by result free = record {
    ok = on_ok result registers;
    err = on_err result (inr registers);
    saves = record {
      list = λ tells was. on_ok result (subst (λ v. Lists ((g.view new.0).reads list_name) v.managed) (sym kept) (subst (λ r. Lists r listed.1.managed) (sym (list_reads tells))
          (lists.saves.list tells (subst (λ v. Lists ((g.view asked.0).reads list_name) v.managed) (sym names) (subst (λ r. Lists r old.1.managed) (sym (reads tells list_name)) was)))));
      covers = λ tells was. subst (Covers ((g.view new.0).reads list_name)) (sym kept) (subst (λ r. Covers r listed.1) (sym (list_reads tells)) (lists.saves.covers tells (covers_asked tells was)));
    };
    unsaved = λ tells put. list_reads tells ∙ lists.unsaved tells (λ undotted. ap (λ v. has v.managed name) names ∙ put undotted) ∙ reads tells list_name;
    listed = λ tells covers n undotted some none.
        let it = new_is tells n undotted some none in
        subst (IsOnList ((g.view new.0).reads list_name)) (sym it.0) (subst (λ r. IsOnList r name) (sym (list_reads tells))
        (lists.on_list tells (covers_asked tells covers) (ap (λ v. has (done_names v.collections) name) names ∙ free it.1) it.1));
    managed = λ tells n undotted some none.
        let it = new_is tells n undotted some none in
        subst (λ m. has new.1.managed m ≡ true) (sym it.0) (ap (λ v. has v.managed name) registers ∙ has_registered old.1.managed name it.1);
  }

-- ---- one that was given up before

-- it only asked
pub manages_none : {A E D W C : Type 0} (g : Ghosts D W C) {old new : D × ManagedNames} {name : List ℕ} (result : Result A E) → IsErr result → new.1 ≡ old.1 → (g.told.content → Same (g.view old.0).reads (g.view new.0).reads) → ManagesFile g old new name result
manages_none g {old} {new} result is names reads = record {
  ok = IfOk-from_err result _ is;
  err = on_err result (inl names);
  saves = record { list = λ tells was. IfOk-from_err result _ is; covers = λ tells was. still_covers (λ d. (g.view d).reads) old.0 new.0 old.1 new.1 (reads tells) names was };
  unsaved = λ tells put. reads tells list_name;
  listed = λ tells covers n undotted some none. absurd (both_ways _ (ap is_some (reads tells n ∙ none)) some);
  managed = λ tells n undotted some none. absurd (both_ways _ (ap is_some (reads tells n ∙ none)) some);
}

-- the list of the name was refused
pub manages_unlisted : {A B E F D W C : Type 0} (g : Ghosts D W C) {old asked new : D × ManagedNames} {name : List ℕ} {error : F} (result : Result A E) → IsErr result → (g.told.content → Same (g.view old.0).reads (g.view asked.0).reads) → asked.1 ≡ old.1
    → HasListed {A = B} g asked new name (Err error) → ManagesFile g old new name result
manages_unlisted g {old} {asked} {new} {name} result is reads names lists =
    let same : g.told.content → (n : List ℕ) → is_undotted n ≡ true → (g.view new.0).reads n ≡ (g.view old.0).reads n = λ tells n undotted. lists.others tells n (isnt_the_list n undotted) ∙ reads tells n in
    record {
      ok = IfOk-from_err result _ is;
      err = on_err result (inl (lists.kept ∙ names));
      saves = record { list = λ tells was. IfOk-from_err result _ is; covers = λ tells was. lists.saves.covers tells (still_covers (λ d. (g.view d).reads) old.0 asked.0 old.1 asked.1 (reads tells) names was) };
      unsaved = λ tells put. lists.unsaved tells (λ undotted. ap (λ v. has v.managed name) names ∙ put undotted) ∙ reads tells list_name;
      listed = λ tells covers n undotted some none. absurd (both_ways _ (ap is_some (same tells n undotted ∙ none)) some);
      managed = λ tells n undotted some none. absurd (both_ways _ (ap is_some (same tells n undotted ∙ none)) some);
    }
