use Rattle.tv_managed.proofs.SetsOfTexts.{managed_inserted}
use Rattle.std.proofs.Common.{ap, map, string_bytes, ◌∙◌, refl, List, ℕ}
use Rattle.tv_formats.proofs.TextSets.{texts_inserted}
use Rattle.tv_formats.specs.Names.{byte_cmp}
use Rattle.tv_formats.proofs.Results.{on_err}
use Rattle.std.specs.BTreeSet.{insert_key}
use Rattle.tv_managed.specs.Names.{ManagedNames}
use Rattle.tv_managed.proofs.managed_directory.ManagedDirectory.add.Goals as goal

pub invariant_of-self-2 : goal.invariant_of-self-2
invariant_of-self-2 g c = managed_inserted c.self.inside.managed.keys _ c.in_ok-copy.copy c.args.name.now c.in_ok-insert.ensures.keys c.in_ok-copy.ensures.ok c.requires c.self.invariant

pub returns-in_err-copy-clause-kept : goal.returns-in_err-copy-clause-kept
returns-in_err-copy-clause-kept g c = on_err c.from_residual.result refl

pub returns-in_err-insert-clause-kept : goal.returns-in_err-insert-clause-kept
returns-in_err-insert-clause-kept g c =
    let With : _ → ManagedNames = λ keys. record { managed = map string_bytes keys; collections = c.self.inside.collections } in
    on_err c.from_residual-in_err-insert.result (ap With c.in_err-insert.ensures.err ∙ ap (λ v. v.1) c.self.view_is)

pub returns-clause-names : goal.returns-clause-names
returns-clause-names g c =
    let With : List (List ℕ) → ManagedNames = λ names. record { managed = names; collections = c.self.inside.collections } in
    let Put : ManagedNames → ManagedNames = λ names. record names { managed = insert_key byte_cmp names.managed c.args.name.now } in
    ap With (texts_inserted c.self.inside.managed.keys c.insert.new.self.keys c.in_ok-copy.copy c.args.name.now c.in_ok-insert.ensures.keys c.in_ok-copy.ensures.ok) ∙ ap (λ v. Put v.1) c.self.view_is
