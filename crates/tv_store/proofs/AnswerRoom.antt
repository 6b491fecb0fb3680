-- How many names the line of a collection has.
use Rattle.std.proofs.Common.{◌≡◌, ◌≤◌, ◌+◌, ℕ, Bool, true, false, not, List, [], ◌∷◌, ◌++◌, filter, length, string_bytes, refl, sym, ap, ◌∙◌, arith}
use Rattle.std.proofs.lemmas.List.{length-map}
use Rattle.std.proofs.lemmas.List.Filters.{length-filter_both}
use Rattle.tv_formats.specs.Collections.{collectable, done_of, failed_of, held}
use Rattle.tv_formats.specs.Names.{has}
use Rattle.tv_device.specs.declared.directory.Directory.{Ghosts}
use Rattle.tv_managed.specs.Collecting.{Tries, taken_by}
use Rattle.tv_managed.specs.Names.{ManagedNames}
use Rattle.tv_managed.specs.declared.collection.GarbageCollectionResult.{GarbageCollectionResult}

done_few : (names : List (List ℕ)) (outcomes : List Bool) → length (done_of names outcomes) ≤ length names
done_few [] outcomes = omega arith
done_few (name ∷ names) [] = omega arith
done_few (name ∷ names) (true ∷ outcomes) = omega (arith, done_few names outcomes)
done_few (name ∷ names) (false ∷ outcomes) = omega (arith, done_few names outcomes)

failed_few : (names : List (List ℕ)) (outcomes : List Bool) → length (failed_of names outcomes) ≤ length names
failed_few [] outcomes = omega arith
failed_few (name ∷ names) [] = omega arith
failed_few (name ∷ names) (true ∷ outcomes) = omega (arith, failed_few names outcomes)
failed_few (name ∷ names) (false ∷ outcomes) = omega (arith, failed_few names outcomes)

taken_few : (needed managed : List (List ℕ)) → length (collectable needed managed) ≤ length managed
taken_few needed managed =
    let both : length (collectable needed managed) + length (filter (λ name. not (not (has needed name))) managed) ≡ length managed =
    length-filter_both (λ name. not (has needed name)) (λ name. not (not (has needed name))) (λ name. refl) managed in
    omega (arith, both)

-- a collection tells no more names of either kind than were managed
pub told_few : {D W C : Type 0} (g : Ghosts D W C) (living : List (List ℕ)) (old new : D × ManagedNames) (result : GarbageCollectionResult) → Tries g (taken_by living old.1) old new result
    → (length result.deleted_files.items ≤ length old.1.managed) × (length result.failed_to_delete_files.items ≤ length old.1.managed)
told_few g living old new result told =
    let taken : length (taken_by living old.1) ≤ length old.1.managed = taken_few (living ++ held old.1.collections) old.1.managed in
    let deleted : length result.deleted_files.items ≡ length (done_of (taken_by living old.1) told.outcomes) =
    sym (length-map result.deleted_files.items string_bytes) ∙ ap (λ (ns : List (List ℕ)). length ns) told.deleted in
    let failed : length result.failed_to_delete_files.items ≡ length (failed_of (taken_by living old.1) told.outcomes) =
    sym (length-map result.failed_to_delete_files.items string_bytes) ∙ ap (λ (ns : List (List ℕ)). length ns) told.failed in
    (omega (arith, taken, deleted, done_few (taken_by living old.1) told.outcomes), omega (arith, taken, failed, failed_few (taken_by living old.1) told.outcomes))
