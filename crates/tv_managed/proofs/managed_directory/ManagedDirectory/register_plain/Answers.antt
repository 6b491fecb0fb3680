use Rattle.std.proofs.Common.{rules, refl, ◌≡◌, true, false, sym, ap, subst, ◌∙◌, List, ℕ, [], ◌∷◌, map, string_bytes}
use Rattle.std.specs.BTreeSet.{insert_key}
use Rattle.tv_formats.specs.Collections.{without}
use Rattle.tv_formats.specs.Files.{KeepsOthers}
use Rattle.tv_formats.specs.Names.{byte_cmp, has, is_undotted, list_name}
use Rattle.tv_formats.proofs.Entries.{has_inserted, has_kept, insert_present}
use Rattle.tv_device.specs.View.{Kept}
use Rattle.tv_managed.specs.Managed.{Covers, NeedsNoListing, registered, registering}
use Rattle.tv_managed.specs.Names.{AreManaged, ManagedNames}
use Rattle.tv_managed.proofs.Removals.{without_inserted}
use Rattle.tv_managed.proofs.SetsOfTexts.{had_is}
use Rattle.tv_managed.proofs.Saves.{covers_put, isnt_listed}
use Rattle.tv_managed.proofs.Listing.{lists_refused, lists_same, lists_saved}
use Rattle.tv_managed.proofs.managed_directory.ManagedDirectory.register_plain.Goals as goal

-- these names, and those that are kept in memory beside them
with_names : ManagedNames → List (List ℕ) → ManagedNames
with_names names managed = record names { managed = managed }

-- an undotted name is put among the managed ones
puts : (names : ManagedNames) (name : List ℕ) → is_undotted name ≡ true → with_names names (insert_key byte_cmp names.managed name) ≡ registering names name
unfolding with_names
puts names name undotted = rw undotted refl

keeps_put : (names : ManagedNames) (name : List ℕ) → is_undotted name ≡ true → (n : List ℕ) → has names.managed n ≡ true → has (registered names.managed name) n ≡ true
keeps_put names name undotted n h = rw undotted (has_kept names.managed name n h)

pub returns-then-contains-clause-list : goal.returns-then-contains-clause-list
unfolding with_names
returns-then-contains-clause-list g c =
    let old = c.args.self.now.1 in
    let names : map string_bytes c.self.inside.managed.keys ≡ old.managed = ap (λ v. v.1.managed) c.self.view_is in
    let there = had_is c.self.inside.managed.keys _ c.args.name.now true c.if-contains.ensures names in
    let put : old ≡ registering old c.args.name.now =
    ap (with_names old) (sym (insert_present old.managed c.args.name.now there (subst AreManaged names c.self.invariant).ordered)) ∙ puts old c.args.name.now c.requires.undotted in
    record {
      saves = record { list = λ tells was. was; covers = λ tells was. was };
      on_list = λ tells was free undotted. (was.0, was.1, was.2 c.args.name.now there free);
      names = put;
      kept = tt;
      unsaved = λ tells listed. refl;
      others = λ tells n ne. refl;
      frame = search rules;
    }

pub returns-in-Ok-clause-list : goal.returns-in-Ok-clause-list
unfolding with_names
returns-in-Ok-clause-list g c =
    let D = g.D.Directory in
    let old = c.args.self.now.1 in
    let new = c.save.new.self.1 in
    let lists = c.in-Ok.ensures.lists in
    let put : new ≡ registering old c.args.name.now = c.in-Ok.ensures.only.frame.names ∙ c.in_ok-add.ensures.names ∙ puts old c.args.name.now c.requires.undotted in
    let managed : new.managed ≡ insert_key byte_cmp old.managed c.args.name.now = ap (λ v. v.managed) (c.in-Ok.ensures.only.frame.names ∙ c.in_ok-add.ensures.names) in
    let names : map string_bytes c.self.inside.managed.keys ≡ old.managed = ap (λ v. v.1.managed) c.self.view_is in
    let new_name : NeedsNoListing old c.args.name.now → ⊥ = isnt_listed old c.args.name.now c.requires.undotted (had_is c.self.inside.managed.keys _ c.args.name.now false c.if-contains.ensures names) in
    record {
      saves = record { list = λ tells was. lists tells; covers = λ tells was. (new.managed, lists tells, λ n h free. h) };
      on_list = λ tells was free undotted. (new.managed, lists tells, rw managed (has_inserted old.managed c.args.name.now));
      names = put;
      kept = tt;
      unsaved = λ tells listed. absurd (new_name listed);
      others = λ tells. subst (λ d. KeepsOthers (D.view d).reads (D.view c.save.new.self.0).reads list_name) c.in_ok-add.ensures.directory (c.in-Ok.ensures.only.others tells);
      frame = subst (λ d. Kept D.told (D.view d) (D.view c.save.new.self.0)) c.in_ok-add.ensures.directory c.in-Ok.ensures.only.frame.below;
    }

pub returns-in-Err-clause-list : goal.returns-in-Err-clause-list
unfolding with_names
returns-in-Err-clause-list g c =
    let D = g.D.Directory in
    let old = c.args.self.now.1 in
    let only = c.in-Err.ensures.only in
    let names : map string_bytes c.self.inside.managed.keys ≡ c.args.self.now.1.managed = ap (λ v. v.1.managed) c.self.view_is in
    let none = had_is c.self.inside.managed.keys _ c.args.name.now false c.if-contains.ensures names in
    let put = c.in-Err.ensures.only.frame.names ∙ c.in_ok-add.ensures.names in
    let same : c.forget.new.self.1 ≡ c.args.self.now.1 =
    c.forget.ensures.names ∙ ap (λ v. with_names v (without (c.args.name.now ∷ []) v.managed)) put ∙ ap (with_names c.args.self.now.1) (without_inserted c.args.self.now.1.managed _ _ c.args.name.now (subst AreManaged names c.self.invariant) none refl refl) in
    let covers : D.told.content → Covers ((D.view c.args.self.now.0).reads list_name) old → Covers ((D.view c.forget.new.self.0).reads list_name) c.forget.new.self.1 = λ tells was.
    rw (c.forget.ensures.directory, same) (covers_put _ _ old c.save.new.self.1.managed (λ n h free. rw (ap (λ v. v.managed) (only.frame.names ∙ c.in_ok-add.ensures.names)) (has_kept old.managed c.args.name.now n h)) (only.either tells) (rw c.in_ok-add.ensures.directory was)) in
    let new_name : NeedsNoListing old c.args.name.now → ⊥ = isnt_listed old c.args.name.now c.requires.undotted none in
    record {
      saves = record { list = λ tells was. tt; covers = covers };
      on_list = λ tells was free undotted. tt;
      names = tt;
      kept = same;
      unsaved = λ tells listed. absurd (new_name listed);
      others = λ tells. rw (c.forget.ensures.directory, ← c.in_ok-add.ensures.directory) (only.others tells);
      frame = rw (c.forget.ensures.directory, ← c.in_ok-add.ensures.directory) only.frame.below;
    }

pub returns-then-contains-clause-images : goal.returns-then-contains-clause-images
returns-then-contains-clause-images g c = λ tells. lists_same g.D.Directory c.args.name.now {old = c.args.self.now} {new = c.args.self.now} refl refl

pub returns-in_err-add-clause-images : goal.returns-in_err-add-clause-images
returns-in_err-add-clause-images g c = λ tells. lists_same g.D.Directory c.args.name.now c.in_err-add.ensures.directory c.in_err-add.ensures.kept

pub returns-in-Ok-clause-images : goal.returns-in-Ok-clause-images
unfolding with_names
returns-in-Ok-clause-images g c = λ tells.
    let names : map string_bytes c.self.inside.managed.keys ≡ c.args.self.now.1.managed = ap (λ v. v.1.managed) c.self.view_is in
    let needs = isnt_listed c.args.self.now.1 c.args.name.now c.requires.undotted (had_is c.self.inside.managed.keys _ c.args.name.now false c.if-contains.ensures names) in
    lists_saved g.D.Directory c.args.name.now {old = c.args.self.now} {mid = c.add.new.self} {new = c.save.new.self} _ needs c.in_ok-add.ensures.directory (c.in-Ok.ensures.images tells)
    (c.in_ok-add.ensures.names ∙ puts c.args.self.now.1 c.args.name.now c.requires.undotted) (keeps_put c.args.self.now.1 c.args.name.now c.requires.undotted) c.in-Ok.ensures.only.frame.names

pub returns-in-Err-clause-images : goal.returns-in-Err-clause-images
unfolding with_names
returns-in-Err-clause-images g c = λ tells.
    let names : map string_bytes c.self.inside.managed.keys ≡ c.args.self.now.1.managed = ap (λ v. v.1.managed) c.self.view_is in
    let none = had_is c.self.inside.managed.keys _ c.args.name.now false c.if-contains.ensures names in
    let put = c.in-Err.ensures.only.frame.names ∙ c.in_ok-add.ensures.names in
    let same : c.forget.new.self.1 ≡ c.args.self.now.1 =
    c.forget.ensures.names ∙ ap (λ v. with_names v (without (c.args.name.now ∷ []) v.managed)) put ∙ ap (with_names c.args.self.now.1) (without_inserted c.args.self.now.1.managed _ _ c.args.name.now (subst AreManaged names c.self.invariant) none refl refl) in
    lists_refused g.D.Directory c.args.name.now {old = c.args.self.now} {mid = c.add.new.self} {last = c.save.new.self} {new = c.forget.new.self} (isnt_listed c.args.self.now.1 c.args.name.now c.requires.undotted none) c.in_ok-add.ensures.directory (c.in-Err.ensures.images tells)
    (c.in_ok-add.ensures.names ∙ puts c.args.self.now.1 c.args.name.now c.requires.undotted) (keeps_put c.args.self.now.1 c.args.name.now c.requires.undotted) c.forget.ensures.directory same
