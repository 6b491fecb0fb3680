-- Why a call is refused.
use Rattle.std.specs.Prelude.{◌≡◌, ℕ, List, string_bytes}
use Rattle.tv_base.specs.declared.io.IoKind.TheVariants.{Device}
use Rattle.tv_base.specs.declared.io.IoFault.{IoFault}
use Rattle.tv_base.specs.declared.io.IoError.{IoError}
use Rattle.tv_base.specs.declared.io.IoError.TheVariants as io
use Rattle.tv_base.specs.declared.open_errors.OpenReadError.{OpenReadError}
use Rattle.tv_base.specs.declared.open_errors.OpenReadError.TheVariants as read
use Rattle.tv_base.specs.declared.open_errors.OpenWriteError.{OpenWriteError}
use Rattle.tv_base.specs.declared.open_errors.OpenWriteError.TheVariants as write
use Rattle.tv_base.specs.declared.open_errors.DeleteError.{DeleteError}
use Rattle.tv_base.specs.declared.open_errors.DeleteError.TheVariants as delete

-- the device refused a call
abbrev pub IsDevice : IoFault → Type 0
IsDevice fault = fault.kind ≡ Device

-- What is true of each answer of a call: `refused` where the device refused it, `quiet` where memory was
-- wanted.
abbrev pub IoCause : (refused quiet : Type 0) → IoError → Type 0
IoCause refused quiet (io.Fault fault) = IsDevice fault × refused
IoCause refused quiet io.Memory = quiet

-- What is true of each answer of a call that reads the file of this name, which the error names: `absent`
-- where there is none, `refused` where the device refused the call, `quiet` where memory was wanted.
abbrev pub OpenReadCause : (name : List ℕ) (absent refused quiet : Type 0) → OpenReadError → Type 0
OpenReadCause name absent refused quiet (read.FileDoesNotExist path) = (string_bytes path ≡ name) × absent
OpenReadCause name absent refused quiet (read.IoError fault path) =
    (string_bytes path ≡ name) × IsDevice fault × refused
OpenReadCause name absent refused quiet (read.IncompatibleIndex why) = ⊥
OpenReadCause name absent refused quiet read.Memory = quiet

-- What is true of each answer of a call that makes the file of this name: `there` where it is there,
-- `refused` where the device refused the call, `quiet` where memory was wanted.
abbrev pub OpenWriteCause : (name : List ℕ) (there refused quiet : Type 0) → OpenWriteError → Type 0
OpenWriteCause name there refused quiet (write.FileAlreadyExists path) = (string_bytes path ≡ name) × there
OpenWriteCause name there refused quiet (write.Leaving path) = ⊥
OpenWriteCause name there refused quiet (write.IoError fault path) =
    (string_bytes path ≡ name) × IsDevice fault × refused
OpenWriteCause name there refused quiet write.Memory = quiet

-- What is true of each answer of a call that deletes the file of this name: `absent` where there is none,
-- `refused` where the device refused the call, `quiet` where memory was wanted.
abbrev pub DeleteCause : (name : List ℕ) (absent refused quiet : Type 0) → DeleteError → Type 0
DeleteCause name absent refused quiet (delete.FileDoesNotExist path) = (string_bytes path ≡ name) × absent
DeleteCause name absent refused quiet (delete.IoError fault path) =
    (string_bytes path ≡ name) × IsDevice fault × refused
DeleteCause name absent refused quiet delete.Memory = quiet
