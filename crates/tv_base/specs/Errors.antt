-- Which error of one call becomes which of another. An inner want of memory is want of memory.
use Rattle.std.specs.Prelude.{None}
use Rattle.tv_base.specs.declared.io.IoError.{IoError}
use Rattle.tv_base.specs.declared.io.IoError.TheVariants as io
use Rattle.tv_base.specs.declared.open_errors.LockError.{LockError}
use Rattle.tv_base.specs.declared.open_errors.LockError.TheVariants as lock
use Rattle.tv_base.specs.declared.open_errors.OpenDirectoryError.{OpenDirectoryError}
use Rattle.tv_base.specs.declared.open_errors.OpenDirectoryError.TheVariants as directory
use Rattle.tv_base.specs.declared.open_errors.OpenReadError.{OpenReadError}
use Rattle.tv_base.specs.declared.open_errors.OpenReadError.TheVariants as read
use Rattle.tv_base.specs.declared.open_errors.OpenWriteError.{OpenWriteError}
use Rattle.tv_base.specs.declared.open_errors.OpenWriteError.TheVariants as write
use Rattle.tv_base.specs.declared.error.TantivyError.{TantivyError}
use Rattle.tv_base.specs.declared.error.TantivyError.TheVariants as errors

-- the large error of a call that reads or writes: want of memory stays what it is
abbrev pub of_io : IoError → TantivyError
of_io (io.Fault fault) = errors.IoError fault
of_io io.Memory = errors.Memory

-- the large error of a lock that wasn't taken, without a text: want of memory stays what it is
abbrev pub of_lock : LockError → TantivyError
of_lock lock.LockBusy = errors.LockFailure lock.LockBusy None
of_lock (lock.IoError fault) = errors.LockFailure (lock.IoError fault) None
of_lock lock.Memory = errors.Memory

-- the large error of a directory that wasn't opened: want of memory stays what it is
abbrev pub of_open_directory : OpenDirectoryError → TantivyError
of_open_directory (directory.DoesNotExist path) = errors.OpenDirectoryError (directory.DoesNotExist path)
of_open_directory (directory.NotADirectory path) = errors.OpenDirectoryError (directory.NotADirectory path)
of_open_directory (directory.FailedToCreateTempDir fault) =
    errors.OpenDirectoryError (directory.FailedToCreateTempDir fault)
of_open_directory (directory.IoError fault path) = errors.OpenDirectoryError (directory.IoError fault path)
of_open_directory directory.Memory = errors.Memory

-- the large error of a file that wasn't read: want of memory stays what it is
abbrev pub of_open_read : OpenReadError → TantivyError
of_open_read (read.FileDoesNotExist path) = errors.OpenReadError (read.FileDoesNotExist path)
of_open_read (read.IoError fault path) = errors.OpenReadError (read.IoError fault path)
of_open_read (read.IncompatibleIndex why) = errors.OpenReadError (read.IncompatibleIndex why)
of_open_read read.Memory = errors.Memory

-- the large error of a file that wasn't made: want of memory stays what it is
abbrev pub of_open_write : OpenWriteError → TantivyError
of_open_write (write.FileAlreadyExists path) = errors.OpenWriteError (write.FileAlreadyExists path)
of_open_write (write.Leaving path) = errors.OpenWriteError (write.Leaving path)
of_open_write (write.IoError fault path) = errors.OpenWriteError (write.IoError fault path)
of_open_write write.Memory = errors.Memory
