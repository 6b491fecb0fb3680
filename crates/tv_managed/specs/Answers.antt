-- What a collection's answer has room for.
use Rattle.std.specs.Prelude.{ℕ, ◌≡◌, ◌≤◌, ◌+◌, [], vec_capacity, vec_len}
use Rattle.tv_managed.specs.declared.collection.GarbageCollectionResult.{GarbageCollectionResult}

-- This many names more can be told as deleted, and as many as failed, without taking memory.
pub record HasRoom (count : ℕ) (answer : GarbageCollectionResult) : Type 0 where
  pub deleted : vec_len answer.deleted_files + count ≤ vec_capacity answer.deleted_files
  pub failed : vec_len answer.failed_to_delete_files + count ≤ vec_capacity answer.failed_to_delete_files

-- Nothing is told yet, and there is room for this many names of each kind.
pub record IsReady (count : ℕ) (answer : GarbageCollectionResult) : Type 0 where
  pub none_deleted : answer.deleted_files.items ≡ []
  pub none_failed : answer.failed_to_delete_files.items ≡ []
  pub room : HasRoom count answer
