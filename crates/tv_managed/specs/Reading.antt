-- How the body of a sealed file is read, and its checksum.
use Rattle.std.specs.Prelude.{ℕ, ◌≡◌, ◌⊎◌, ◌==◌, Bool, List, Option, Some, None, Result, IfErr, OnOk, string_bytes}
use Rattle.tv_formats.specs.Checksum.{crc32}
use Rattle.tv_formats.specs.Files.{Rose}
use Rattle.tv_formats.specs.Footer.{HasBody, IsFramed, IsOtherFormat}
use Rattle.tv_formats.specs.FooterForm.{FooterNumbers}
use Rattle.tv_base.specs.Causes.{IsDevice}
use Rattle.tv_base.specs.declared.io.IoFault.{IoFault}
use Rattle.tv_base.specs.declared.open_errors.OpenReadError.{OpenReadError}
use Rattle.tv_base.specs.declared.open_errors.OpenReadError.TheVariants as read
use Rattle.tv_base.specs.Versions.{library_version}
use Rattle.tv_base.specs.declared.versions.Incompatibility.{Incompatibility}
use Rattle.tv_base.specs.declared.versions.Incompatibility.TheVariants.{IndexMismatch}
use Rattle.tv_device.specs.declared.directory.Directory.{Ghosts}
use Rattle.tv_framing.specs.declared.footer.Footer.{Footer}
use Rattle.tv_framing.specs.Footers as framing
use Rattle.tv_framing.specs.Footers.{Refuses}

-- the name read some bytes, of which this is true
abbrev pub ReadsSuch : Option (List ℕ) → (List ℕ → Type 0) → Type 0
ReadsSuch was P = (bytes : List ℕ) × (was ≡ Some bytes) × P bytes

-- the name read some bytes, which have this body and a good footer
abbrev pub ReadsBody : Option (List ℕ) → List ℕ → Type 0
ReadsBody was body = ReadsSuch was (λ bytes. HasBody bytes body)

-- the bytes end in no good footer
abbrev pub HasNoBody : List ℕ → Type 0
HasNoBody bytes = (body : List ℕ) → HasBody bytes body → ⊥

-- the bytes end in no footer at all
abbrev pub HasNoFooter : List ℕ → Type 0
HasNoFooter bytes = (footer : FooterNumbers) (body : List ℕ) → IsFramed bytes footer body → ⊥

-- the bytes end in a footer of a format that isn't read, and the error says which
pub record HasOtherFormat (bytes : List ℕ) (why : Incompatibility) : Type 0 where
  pub footer : Footer
  pub body : List ℕ
  pub framed : framing.IsFramedAs bytes footer body
  pub format : IsOtherFormat footer.version.index_format_version
  pub is : why ≡ IndexMismatch library_version footer.version

-- the name read bytes that are refused with this fault, for the first reason that holds
abbrev pub ReadsRefused : Option (List ℕ) → IoFault → Type 0
ReadsRefused was fault = ReadsSuch was (λ bytes. Refuses bytes fault)

-- the name read bytes of another format
abbrev pub ReadsOther : Option (List ℕ) → Incompatibility → Type 0
ReadsOther was why = ReadsSuch was (λ bytes. HasOtherFormat bytes why)

-- some bytes are refused with this fault; some are of another format
abbrev pub SomeRefused : IoFault → Type 0
SomeRefused fault = (bytes : List ℕ) × Refuses bytes fault

-- some bytes end in a footer of another format, which this error tells
abbrev pub SomeOther : Incompatibility → Type 0
SomeOther why = (bytes : List ℕ) × HasOtherFormat bytes why

-- the bytes end in a footer, and this says whether the checksum in it is that of the body
pub record TellsChecksum (bytes : List ℕ) (is_right : Bool) : Type 0 where
  pub footer : FooterNumbers
  pub body : List ℕ
  pub framed : IsFramed bytes footer body
  pub says : is_right ≡ (footer.crc == crc32 body)

-- What is true of each answer of a call that reads a body: `absent` where there is no such file, `bad` of the
-- fault where its bytes are refused, `other` of the reason where they are of another format, `refused` where
-- the device refused the call, `quiet` where memory was wanted.
abbrev pub OpenBodyCause : (absent : Type 0) → (bad : IoFault → Type 0) → (other : Incompatibility → Type 0)
    → (refused quiet : Type 0) → OpenReadError → Type 0
OpenBodyCause absent bad other refused quiet (read.FileDoesNotExist path) = absent
OpenBodyCause absent bad other refused quiet (read.IoError fault path) =
    (IsDevice fault × refused) ⊎ bad fault
OpenBodyCause absent bad other refused quiet (read.IncompatibleIndex why) = other why
OpenBodyCause absent bad other refused quiet read.Memory = quiet

-- the file that is named in the error is this one
abbrev pub NamesFile : List ℕ → OpenReadError → Type 0
NamesFile name (read.FileDoesNotExist path) = string_bytes path ≡ name
NamesFile name (read.IoError fault path) = string_bytes path ≡ name
NamesFile name (read.IncompatibleIndex why) = Unit {0}
NamesFile name read.Memory = Unit {0}

-- A call that reads a file's footer, whatever format that is of, fails for one of these causes, and the error
-- names the file.
pub record FooterFaults {A D W C : Type 0} (g : Ghosts D W C) (old new : D) (name : List ℕ)
    (result : Result A OpenReadError) : Type 0 where
  pub quiet : OnOk result ((g.view new).faults ≡ (g.view old).faults)
  pub path : IfErr result (NamesFile name)
  pub cause : IfErr result (OpenBodyCause ((g.view new).faults ≡ (g.view old).faults)
      (λ fault. SomeRefused fault × ((g.view new).faults ≡ (g.view old).faults)) (λ why. ⊥)
      (Rose (g.view old).faults (g.view new).faults) ((g.view new).faults ≡ (g.view old).faults))
  pub err : g.told.content → IfErr result
      (OpenBodyCause ((g.view old).reads name ≡ None) (ReadsRefused ((g.view old).reads name))
      (λ why. ⊥) (Unit {0}) (Unit {0}))
  pub outside : g.told.content → IfErr result
      (OpenBodyCause (Unit {0}) (λ fault. ReadsSuch ((g.view old).reads name) HasNoFooter)
      (λ why. ⊥) (Unit {0}) (Unit {0}))

-- A call that reads a file's body fails where there is no such file, where it ends in no footer or in one of
-- another format, where the device refused the call, or where memory was wanted; and the error names the
-- file.
pub record BodyFaults {A D W C : Type 0} (g : Ghosts D W C) (old new : D) (name : List ℕ)
    (result : Result A OpenReadError) : Type 0 where
  pub quiet : OnOk result ((g.view new).faults ≡ (g.view old).faults)
  pub path : IfErr result (NamesFile name)
  pub cause : IfErr result (OpenBodyCause ((g.view new).faults ≡ (g.view old).faults)
      (λ fault. SomeRefused fault × ((g.view new).faults ≡ (g.view old).faults))
      (λ why. SomeOther why × ((g.view new).faults ≡ (g.view old).faults))
      (Rose (g.view old).faults (g.view new).faults) ((g.view new).faults ≡ (g.view old).faults))
  pub err : g.told.content → IfErr result
      (OpenBodyCause ((g.view old).reads name ≡ None) (ReadsRefused ((g.view old).reads name))
      (ReadsOther ((g.view old).reads name)) (Unit {0}) (Unit {0}))
  pub outside : g.told.content → IfErr result
      (OpenBodyCause (Unit {0}) (λ fault. ReadsSuch ((g.view old).reads name) HasNoBody)
      (λ why. ReadsSuch ((g.view old).reads name) HasNoBody) (Unit {0}) (Unit {0}))
