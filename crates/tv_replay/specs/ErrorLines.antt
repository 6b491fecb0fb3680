-- The line that is told or said of an error.
use Rattle.std.specs.Prelude.{ℕ, List, ◌++◌, codes, nat_eq, if◌then◌else◌, Option, Some, None, String, string_bytes}
use Rattle.std.specs.Global.{Global}
use Rattle.std.specs.Fmt.{decimal}
use Rattle.std.specs.List.{starts_with}
use Rattle.tv_base.specs.declared.io.IoKind.{IoKind}
use Rattle.tv_base.specs.declared.io.IoKind.TheVariants.{Device, UnexpectedEof, InvalidData}
use Rattle.tv_base.specs.declared.open_errors.LockError.{LockError}
use Rattle.tv_base.specs.declared.open_errors.LockError.TheVariants as lock
use Rattle.tv_base.specs.declared.open_errors.OpenReadError.{OpenReadError}
use Rattle.tv_base.specs.declared.open_errors.OpenWriteError.{OpenWriteError}
use Rattle.tv_base.specs.declared.open_errors.OpenWriteError.TheVariants as write
use Rattle.tv_base.specs.declared.open_errors.OpenReadError.TheVariants as read
use Rattle.tv_base.specs.declared.versions.Incompatibility.{Incompatibility}
use Rattle.tv_base.specs.declared.versions.Incompatibility.TheVariants.{CompressionMismatch, IndexMismatch}
use Rattle.tv_base.specs.declared.error.TantivyError.{TantivyError}
use Rattle.tv_base.specs.declared.error.TantivyError.TheVariants as errors

-- an argument that is refused: a line of the script by its text, others by one word
abbrev pub argument_line : List ℕ → List ℕ
argument_line text =
    if starts_with nat_eq text (codes "line ") then codes "error " ++ text else codes "error argument"

-- by the kind of a fault, where no file is named: the device refused a call, or bytes aren't of their form
abbrev pub io_line : IoKind → List ℕ
io_line Device = codes "error io"
io_line other = codes "error data"

-- by the kind of a fault at a file that is read
abbrev pub fault_line : IoKind → List ℕ → List ℕ
fault_line Device path = codes "error io"
fault_line UnexpectedEof path = codes "error footer " ++ path
fault_line InvalidData path = codes "error footer " ++ path

-- a file of another format, by its number
abbrev pub format_line : Incompatibility → List ℕ
format_line (IndexMismatch library index) = codes "error format " ++ decimal index.index_format_version
format_line (CompressionMismatch library index) = codes "error"

-- A file that can't be read: the device refused it, or it has no footer, or one of another format, or it
-- isn't there.
abbrev pub read_line : OpenReadError → List ℕ
read_line (read.IoError fault path) = fault_line fault.kind (string_bytes path)
read_line (read.FileDoesNotExist path) = codes "error missing " ++ string_bytes path
read_line (read.IncompatibleIndex why) = format_line why
read_line read.Memory = codes "error memory"

-- A file that can't be made: there is one, or the device refused it.
abbrev pub write_line : OpenWriteError → List ℕ
write_line (write.FileAlreadyExists path) = codes "error exists " ++ string_bytes path
write_line (write.Leaving path) = codes "error"
write_line (write.IoError fault path) = io_line fault.kind
write_line write.Memory = codes "error memory"

-- bytes that aren't of their form, by their file where there is one
abbrev pub corrupt_line : Option (String Global) → List ℕ
corrupt_line None = codes "error corrupt"
corrupt_line (Some path) = codes "error corrupt " ++ string_bytes path

-- a lock that isn't given: somebody holds it, or the device refused the call
abbrev pub lock_line : LockError → List ℕ
lock_line lock.LockBusy = codes "error lock"
lock_line (lock.IoError fault) = io_line fault.kind
lock_line lock.Memory = codes "error memory"

-- The line of each error, by its variant. So far a replay answers none of those that have no line of their
-- own.
abbrev pub error_line : TantivyError → List ℕ
error_line (errors.IoError fault) = io_line fault.kind
error_line (errors.OpenWriteError error) = write_line error
error_line (errors.OpenReadError error) = read_line error
error_line (errors.LockFailure why text) = lock_line why
error_line (errors.OpenDirectoryError error) = codes "error folder"
error_line (errors.InvalidArgument text) = argument_line (string_bytes text)
error_line (errors.DataCorruption why) = corrupt_line why.filepath
error_line (errors.SchemaError text) = codes "error schema"
error_line errors.Exhausted = codes "error lines"
error_line errors.Memory = codes "error memory"
error_line other = codes "error"
