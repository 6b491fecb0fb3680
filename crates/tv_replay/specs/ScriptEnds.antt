-- Why the end of a script was not found.
use Rattle.std.specs.Prelude.{Result, IfErr, OnOk}
use Rattle.tv_base.specs.declared.error.TantivyError.{TantivyError}
use Rattle.tv_base.specs.declared.error.TantivyError.TheVariants as errors

-- known of the library's error, unless a read was refused
abbrev pub UnlessIoError : (known : Type 0) → TantivyError → Type 0
UnlessIoError known (errors.IoError fault) = Unit {0}
UnlessIoError known other = known

-- What is known where the end of a script was found, and where it wasn't, unless a read was refused.
pub record EndReads {A : Type 0} (known : Type 0) (result : Result A TantivyError) : Type 0 where
  pub ok : OnOk result known
  pub err : IfErr result (UnlessIoError known)
