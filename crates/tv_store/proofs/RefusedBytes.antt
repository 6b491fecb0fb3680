-- Which file an opening names that refuses bytes.
use Rattle.std.proofs.Common.{List, ℕ, Result, Ok, Err, inl, inr}
use Rattle.std.specs.Prelude.{IfErr}
use Rattle.tv_base.specs.declared.error.TantivyError.{TantivyError}
use Rattle.tv_base.specs.declared.error.TantivyError.TheVariants as errors
use Rattle.tv_device.specs.declared.directory.Directory.{Ghosts}
use Rattle.tv_index.specs.Opening.{IsRefusedBytes}
use Rattle.tv_managed.specs.declared.managed_directory.Refused.{Refused}
use Rattle.tv_formats.specs.Files.{Reads, Same}
use Rattle.tv_store.specs.Kept.{StoreState}
use Rattle.tv_store.specs.Making.{IsRefusedFirst, NamesRefused}
use Rattle.tv_store.specs.Opening.{LeavesIndex, OpeningFaults}
use Rattle.tv_store.specs.OpeningCauses.{CallFacts, OpeningCause, opening_facts}

-- the list, or `meta.json`
pub names_refused : (facts : CallFacts) (schema : List ℕ) (reads : Reads) (error : TantivyError) → OpeningCause facts schema reads error → NamesRefused error
names_refused facts schema reads (errors.DataCorruption why) (text, is, inl h) = inl h.1
names_refused facts schema reads (errors.DataCorruption why) (text, is, inr h) = inr h.1.1
names_refused facts schema reads other h = tt

-- so that such a refusal comes first
pub bytes_first : (error : TantivyError) → NamesRefused error → IsRefusedBytes error → IsRefusedFirst error
bytes_first (errors.DataCorruption why) named bytes = named
bytes_first (errors.SchemaError text) named bytes = tt
bytes_first other named bytes = absurd bytes

-- and changes nothing
pub spares_refused : {O W C : Type 0} (g : Ghosts O W C) (outside : O) (schema : List ℕ) (result : Result (StoreState O) (Refused O)) → OpeningFaults g outside schema result → IfErr result (LeavesIndex g outside schema) → g.told.content
    → IfErr result (λ refused. IsRefusedBytes refused.error → Same (g.view outside).reads (g.view refused.directory).reads)
spares_refused g outside schema (Ok store) faults leaves told = tt
spares_refused g outside schema (Err refused) faults leaves told =
    λ bytes. leaves.unchanged told (inl (bytes_first refused.error (names_refused (opening_facts g outside refused.directory) schema (g.view outside).reads refused.error faults.cause) bytes))

-- it names the file
pub error_names : {O W C : Type 0} (g : Ghosts O W C) (outside : O) (schema : List ℕ) (result : Result (StoreState O) (Refused O)) → OpeningFaults g outside schema result → IfErr result (λ refused. NamesRefused refused.error)
error_names g outside schema (Ok store) faults = tt
error_names g outside schema (Err refused) faults = names_refused (opening_facts g outside refused.directory) schema (g.view outside).reads refused.error faults.cause
