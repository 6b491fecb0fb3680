use Rattle.std.proofs.Common.{◌≡◌, ⊎_elim, inl, inr, ℕ, List, Result, Ok, Err, refl}
use Rattle.std.specs.Prelude.{IfErr}
use Rattle.tv_formats.specs.Disk.{Throughout}
use Rattle.tv_formats.specs.Names.{meta_name}
use Rattle.tv_formats.proofs.DiskLaws.{weaker}
use Rattle.tv_base.specs.declared.error.TantivyError.TheVariants as errors
use Rattle.tv_device.specs.declared.directory.Directory.{Ghosts}
use Rattle.tv_managed.specs.Names.{ManagedNames}
use Rattle.tv_managed.specs.declared.managed_directory.Refused.{Refused}
use Rattle.tv_index.specs.Crashes.{MakesSafely}
use Rattle.tv_index.specs.Laws.{HoldsNoOtherMeta}
use Rattle.tv_index.proofs.PlainFiles.{plain_isnt_list}
use Rattle.tv_index.proofs.laws.an_opening_that_wants_memory_makes_no_index.Goals as goal

-- where memory was wanted, the list alone may be in another state
makes_no_other : {A D W C : Type 0} (g : Ghosts D W C) (made : Type 0) (text : List ℕ) (before : D) (opened : A → D × ManagedNames) (result : Result A (Refused D)) → MakesSafely g made text before opened result
    → IfErr result (λ refused. refused.error ≡ errors.Memory → Throughout (HoldsNoOtherMeta (g.disk before)) (g.disk before) (g.disk refused.directory))
makes_no_other g made text before opened (Ok a) safe = tt
makes_no_other g made text before opened (Err refused) safe = λ is.
    weaker (safe.memory is) (λ p which s of_meta. ⊎_elim (λ within. inl (within.each meta_name s of_meta))
    (λ gains. ⊎_elim inr (λ listed. absurd (plain_isnt_list meta_name refl listed.1)) (gains.each meta_name s of_meta)) which)

pub returns : goal.returns
returns g c tells = makes_no_other g.D.Directory _ _ c.args.directory (λ index. index.directory) c.open_or_create.result (c.open_or_create.ensures.safe tells)
