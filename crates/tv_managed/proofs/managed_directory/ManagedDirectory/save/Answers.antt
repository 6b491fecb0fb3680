use Rattle.std.proofs.Common.{rules, ap, subst, map, string_bytes, ◌∙◌, ⊎_elim, inl, inr, refl}
use Rattle.std.proofs.lemmas.Result.{on_ok_weaker}
use Rattle.tv_formats.specs.Names.{list_name}
use Rattle.tv_managed.specs.Crashes.{SavesManaged}
use Rattle.tv_managed.proofs.SetsOfTexts.{list_of}
use Rattle.tv_managed.proofs.managed_directory.ManagedDirectory.save.Goals as goal

pub returns-clause-lists : goal.returns-clause-lists
returns-clause-lists g c tells =
    on_ok_weaker c.save_managed_paths.result (λ saved. rw saved.changed (list_of c.self.inside.managed.keys _ refl c.self.invariant)) (c.save_managed_paths.ensures.saves.ok tells)

pub returns-clause-only : goal.returns-clause-only
returns-clause-only g c = record {
  either = λ tells. ⊎_elim
      (λ saved. inl (rw saved (list_of c.self.inside.managed.keys _ refl c.self.invariant)))
      (λ kept. inr (kept ∙ ap (λ v. (g.D.Directory.view v.0).reads list_name) c.self.view_is))
      (c.save_managed_paths.ensures.saves.err tells).either;
  others = search rules;
  faults = search rules;
  frame = search rules;
}

pub returns-clause-images : goal.returns-clause-images
returns-clause-images g c = λ tells. subst (λ v. SavesManaged g.D.Directory v (c.save_managed_paths.new.directory, record { managed = map string_bytes c.self.inside.managed.keys; collections = c.self.inside.collections }) c.save_managed_paths.result) c.self.view_is (record {
  saves = c.save_managed_paths.ensures.images tells;
  listed = list_of c.self.inside.managed.keys _ refl c.self.invariant;
})
