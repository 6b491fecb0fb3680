-- What is known of an option that is something.
use Rattle.std.proofs.Common.{◌≡◌, Option, Some, None}
use Rattle.std.specs.Prelude.{IsSome}

pub no_some : {A P : Type 0} (o : Option A) → o ≡ None → IsSome o → P
no_some None is some = cc
no_some (Some x) is some = cc
