use Rattle.std.specs.List.{list_all}
use Rattle.std.proofs.Common.{arith, length, ◌≡◌, ℕ, List, [], None, refl, cond, not, ◌&&◌, sym, ap, subst, ◌∙◌, map, string_bytes, rules, true}
use Rattle.tv_formats.specs.Collections.{held}
use Rattle.tv_formats.specs.Names.{has, is_plain, meta_name, at}
use Rattle.tv_managed.specs.Collecting.{SparesWriters}
use Rattle.tv_store.specs.Kept.{names_below}
use Rattle.std.proofs.lemmas.List.{length-map}
use Rattle.tv_store.proofs.AnswerRoom.{told_few}
use Rattle.tv_store.proofs.Changed.{no_texts}
use Rattle.tv_store.proofs.CollectingFiles.{collected_spares, gc_fails, gc_faults}
use Rattle.tv_store.proofs.Removals.{told_plain, tried_as, tried_of, collected_open, bodies_gone, lens_left, living_stands, dotted_stands}
use Rattle.tv_store.specs.OpenFiles.{AreThere}
use Rattle.tv_store.proofs.KnownFiles.{left_there, none_there}
use Rattle.tv_store.proofs.Listings.{undotted_isnt_list}
use Rattle.tv_store.proofs.OpenFiles.{AreOpen, bodies, same_open}
use Rattle.tv_formats.proofs.Results.{no_ok}
use Rattle.tv_store.proofs.FileStates.{collected_below, collected_none}
use Rattle.tv_store.proofs.files.StoreFiles.collect.Goals as goal

pub file_names-deleted-requires-clause-room : goal.file_names-deleted-requires-clause-room
file_names-deleted-requires-clause-room g c =
    let left = c.in_ok-result.ensures.collects in
    let told = tried_of g.O.Directory _ _ (map string_bytes c.args.living.keys) (λ set answer. search) left.1 left.2 in
    let managed : length c.list_managed_files.result.now.keys ≡ length c.directory_mut.result.now.1.managed =
    sym (length-map c.list_managed_files.result.now.keys string_bytes) ∙ ap (λ (ns : List (List ℕ)). length ns) c.list_managed_files.ensures.names
    ∙ ap (λ d. length d.1.managed) (c.directory.ensures ∙ sym c.directory_mut.ensures.value) in
    omega (arith, (told_few g.O.Directory _ _ _ _ told).0, managed, c.len-count.ensures.len, c.in_ok-deleted.ensures.capacity)

pub file_names-deleted-requires-clause-plain : goal.file_names-deleted-requires-clause-plain
file_names-deleted-requires-clause-plain g c = let left = c.in_ok-result.ensures.collects in (told_plain g.O.Directory _ _ _ _ (tried_of g.O.Directory _ _ (map string_bytes c.args.living.keys) (λ set answer. search) left.1 left.2) (subst (λ d. list_all is_plain d.1.managed ≡ true) (c.directory.ensures ∙ sym c.directory_mut.ensures.value) c.list_managed_files.ensures.plain)).0

pub file_names-failed-requires-clause-room : goal.file_names-failed-requires-clause-room
file_names-failed-requires-clause-room g c =
    let left = c.in_ok-result.ensures.collects in
    let told = tried_of g.O.Directory _ _ (map string_bytes c.args.living.keys) (λ set answer. search) left.1 left.2 in
    let managed : length c.list_managed_files.result.now.keys ≡ length c.directory_mut.result.now.1.managed =
    sym (length-map c.list_managed_files.result.now.keys string_bytes) ∙ ap (λ (ns : List (List ℕ)). length ns) c.list_managed_files.ensures.names
    ∙ ap (λ d. length d.1.managed) (c.directory.ensures ∙ sym c.directory_mut.ensures.value) in
    omega (arith, (told_few g.O.Directory _ _ _ _ told).1, managed, c.len-count.ensures.len, c.in_ok-failed.ensures.capacity)

pub file_names-failed-requires-clause-plain : goal.file_names-failed-requires-clause-plain
file_names-failed-requires-clause-plain g c = let left = c.in_ok-result.ensures.collects in (told_plain g.O.Directory _ _ _ _ (tried_of g.O.Directory _ _ (map string_bytes c.args.living.keys) (λ set answer. search) left.1 left.2) (subst (λ d. list_all is_plain d.1.managed ≡ true) (c.directory.ensures ∙ sym c.directory_mut.ensures.value) c.list_managed_files.ensures.plain)).1

pub invariant_of-self : goal.invariant_of-self
invariant_of-self g c =
    let D = g.O.Directory in (
      same_open D c.garbage_collect.new.self.0 [] c.replace-files.new.dest.entries (ap (λ m. m.entries) c.replace-files.ensures.after ∙ c.new.ensures.empty) tt,
      (let left = c.garbage_collect.ensures.collects in collected_spares D _ _ (map string_bytes c.args.living.keys) left.0 c.directory_mut.result.now c.garbage_collect.new.self _ (λ set answer. search) left.2 left.1.leaves c.requires (ap (λ d. has (held d.1.collections) meta_name) c.directory_mut.ensures.value ∙ c.self.invariant.1)),
      λ tells. none_there _ c.replace-known.new.dest.keys (ap (λ m. m.keys) c.replace-known.ensures.after ∙ c.new-2.ensures.empty),
    )

pub invariant_of-self-2 : goal.invariant_of-self-2
invariant_of-self-2 g c =
    let D = g.O.Directory in
    let old = c.directory_mut.result.now.0 in
    let deleted : c.as_slice.result.now ≡ map string_bytes c.in_ok-result.result.deleted_files.items = c.as_slice.ensures.value ∙ c.file_names-deleted.ensures in (
      collected_open D old c.garbage_collect.new.self.0 c.as_slice.result.now c.replace-files.result.entries c.remove_all.new.map.entries
          c.garbage_collect.ensures.frame.goes_on
          (λ tells. subst (λ (ns : List (List ℕ)). SparesWriters ns D.state_of (D.view old).lives (D.view c.garbage_collect.new.self.0).lives) (sym deleted) (c.in_ok-result.ensures.collects.1.tries.alive tells))
          c.remove_all.ensures.names c.remove_all.ensures.left
          (subst (λ m. AreOpen D old m.entries) (sym c.replace-files.ensures.value) (subst (λ d. AreOpen g.O.Directory d.0 c.self.inside.files.entries) (sym c.directory_mut.ensures.value) c.self.invariant.0)),
      (let left = c.garbage_collect.ensures.collects in collected_spares D _ _ (map string_bytes c.args.living.keys) left.0 c.directory_mut.result.now c.garbage_collect.new.self _ (λ set answer. search) left.2 left.1.leaves c.requires (ap (λ d. has (held d.1.collections) meta_name) c.directory_mut.ensures.value ∙ c.self.invariant.1)),
      λ tells.
          left_there (D.view old).reads (D.view c.garbage_collect.new.self.0).reads c.replace-known.result.keys c.remove_names.new.set.keys c.as_slice-2.result.now c.remove_names.ensures
          (λ n file other. c.in_ok-result.ensures.collects.1.tries.others tells n (ap (λ (ns : List (List ℕ)). has ns n) (sym (c.as_slice-2.ensures.value ∙ c.file_names-deleted.ensures)) ∙ other) (undotted_isnt_list n file.0))
          (subst (λ m. AreThere (D.view old).reads m.keys) (sym c.replace-known.ensures.value) (subst (λ d. AreThere (D.view d.0).reads c.self.inside.known.keys) (sym c.directory_mut.ensures.value) (c.self.invariant.2 tells))),
    )

pub returns-clause-collects : goal.returns-clause-collects
returns-clause-collects g c = record {
  tried =
      let left = c.in_ok-result.ensures.collects in
      let told = tried_of g.O.Directory _ _ (map string_bytes c.args.living.keys) (λ set answer. search) left.1 left.2 in
      tried_as g.O.Directory _ (map string_bytes c.args.living.keys) c.directory_mut.result.now c.garbage_collect.new.self c.args.self.now _ c.in_ok-result.result _ _
      (c.directory_mut.ensures.value ∙ ap names_below c.self.view_is) refl refl c.file_names-deleted.ensures c.file_names-failed.ensures told;
  counted = search rules;
  collections = ap (λ names. names.collections) c.in_ok-result.ensures.collects.1.tries.managed ∙ ap (λ d. d.1.collections) c.directory_mut.ensures.value ∙ ap (λ v. v.collections) c.self.view_is;
  open_files = λ n.
      bodies_gone (λ w. (g.O.Directory.state_of w).written) c.replace-files.result.entries c.remove_all.new.map.entries c.args.self.now.open_files c.as_slice.result.now n (ap (λ m. bodies (λ w. (g.O.Directory.state_of w).written) m.entries) c.replace-files.ensures.value ∙ ap (λ v. v.open_files) c.self.view_is) (c.remove_all.ensures.names n)
      ∙ ap (λ (ns : List (List ℕ)). cond (has ns n) None (at c.args.self.now.open_files n)) c.as_slice.ensures.value;
  left = λ n.
      c.remove_names-2.ensures n ∙ ap (λ v. not (has c.as_slice-3.result.now n) && has v.left n) c.self.view_is
      ∙ ap (λ (ns : List (List ℕ)). not (has ns n) && has c.args.self.now.left n) c.as_slice-3.ensures.value;
  same = λ tells none n.
      (c.in_ok-result.ensures.collects.1.saves_none tells (no_texts c.in_ok-result.result.deleted_files.items (sym c.file_names-deleted.ensures ∙ none)) n)
      ∙ ap (λ d. (g.O.Directory.view d.0).reads n) c.directory_mut.ensures.value ∙ ap (λ v. (g.O.Directory.view v.outside).reads n) c.self.view_is;
}

pub returns-clause-lens : goal.returns-clause-lens
returns-clause-lens g c bound h =
    lens_left (λ w. (g.O.Directory.state_of w).written) c.replace-files.result.entries c.remove_all.new.map.entries c.args.self.now.open_files bound (ap (λ m. bodies (λ w. (g.O.Directory.state_of w).written) m.entries) c.replace-files.ensures.value ∙ ap (λ v. v.open_files) c.self.view_is) c.remove_all.ensures.left h

pub returns-in_err-result-clause-spared : goal.returns-in_err-result-clause-spared
returns-in_err-result-clause-spared g c tells n living other =
    let left = c.garbage_collect.ensures.collects in
    living_stands g.O.Directory _ _ (map string_bytes c.args.living.keys) left.0 c.directory_mut.result.now c.garbage_collect.new.self c.garbage_collect.result n (λ set answer. search) left.2 left.1.leaves tells living other
    ∙ ap (λ d. (g.O.Directory.view d.0).reads n) c.directory_mut.ensures.value ∙ ap (λ v. (g.O.Directory.view v.outside).reads n) c.self.view_is

pub returns-clause-spared : goal.returns-clause-spared
returns-clause-spared g c tells n living other =
    let left = c.garbage_collect.ensures.collects in
    living_stands g.O.Directory _ _ (map string_bytes c.args.living.keys) left.0 c.directory_mut.result.now c.garbage_collect.new.self c.garbage_collect.result n (λ set answer. search) left.2 left.1.leaves tells living other
    ∙ ap (λ d. (g.O.Directory.view d.0).reads n) c.directory_mut.ensures.value ∙ ap (λ v. (g.O.Directory.view v.outside).reads n) c.self.view_is

pub returns-in_err-result-clause-dotted : goal.returns-in_err-result-clause-dotted
returns-in_err-result-clause-dotted g c tells n dot other =
    let left = c.garbage_collect.ensures.collects in
    dotted_stands g.O.Directory _ _ left.0 _ _ _ n (subst (λ d. list_all is_plain d.1.managed ≡ true) (c.directory.ensures ∙ sym c.directory_mut.ensures.value) c.list_managed_files.ensures.plain) left.2 left.1.leaves tells dot other
    ∙ ap (λ d. (g.O.Directory.view d.0).reads n) c.directory_mut.ensures.value ∙ ap (λ v. (g.O.Directory.view v.outside).reads n) c.self.view_is

pub returns-clause-dotted : goal.returns-clause-dotted
returns-clause-dotted g c tells n dot other =
    let left = c.garbage_collect.ensures.collects in
    dotted_stands g.O.Directory _ _ left.0 _ _ _ n (subst (λ d. list_all is_plain d.1.managed ≡ true) (c.directory.ensures ∙ sym c.directory_mut.ensures.value) c.list_managed_files.ensures.plain) left.2 left.1.leaves tells dot other
    ∙ ap (λ d. (g.O.Directory.view d.0).reads n) c.directory_mut.ensures.value ∙ ap (λ v. (g.O.Directory.view v.outside).reads n) c.self.view_is

pub returns-in_err-result-clause-faults : goal.returns-in_err-result-clause-faults
returns-in_err-result-clause-faults g c =
    gc_fails g.O.Directory _ c.args.self.now.outside c.garbage_collect.new.self.0 c.from_residual-in_err-result.result c.in_err-result.field-0.0 c.from_residual-in_err-result.ensures.1
    (gc_faults g.O.Directory c.args.self.now c.directory_mut.result.now c.garbage_collect.new.self _ (c.directory_mut.ensures.value ∙ ap names_below c.self.view_is) c.in_err-result.ensures.faults)

pub returns-in_err-deleted-clause-safe : goal.returns-in_err-deleted-clause-safe
returns-in_err-deleted-clause-safe g c tells = collected_none g.O.Directory _ _ _

pub returns-in_err-failed-clause-safe : goal.returns-in_err-failed-clause-safe
returns-in_err-failed-clause-safe g c tells = collected_none g.O.Directory _ _ _

pub returns-in_err-result-clause-safe : goal.returns-in_err-result-clause-safe
returns-in_err-result-clause-safe g c tells =
    let left = c.garbage_collect.ensures.collects in
    collected_below g.O.Directory (map string_bytes c.args.living.keys) c.args.self.now _ _ _ left.0 c.directory_mut.result.now c.garbage_collect.result c.from_residual-in_err-result.result (c.directory_mut.ensures.value ∙ ap names_below c.self.view_is) (λ set answer. search) (λ P _. no_ok P c.from_residual-in_err-result.result c.from_residual-in_err-result.ensures.0) tells left.1 left.2

pub returns-clause-safe : goal.returns-clause-safe
returns-clause-safe g c tells =
    let left = c.in_ok-result.ensures.collects in
    collected_below g.O.Directory (map string_bytes c.args.living.keys) c.args.self.now _ _ _ left.0 c.directory_mut.result.now _ _ (c.directory_mut.ensures.value ∙ ap names_below c.self.view_is) (λ set answer. search) (λ P h. h) tells left.1 left.2
