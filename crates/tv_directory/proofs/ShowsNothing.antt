-- Calls that fail, and after which each name reads what it read.
use Rattle.std.proofs.Common.{◌≡◌, ◌<◌, ◌∙◌, ℕ, List, Option, None, Some, Result, Ok, Err, IsSome}
use Rattle.std.proofs.Common.{true, refl, sym, ap, subst, inr, arith, ⊎_elim, true≢false}
use Rattle.std.specs.Prelude.{IsErrAnd, is_some, option_map}
use Rattle.tv_base.specs.Causes.{IoCause, IsDevice}
use Rattle.tv_base.specs.declared.io.IoError.{IoError}
use Rattle.tv_base.specs.declared.io.IoError.TheVariants as io
use Rattle.tv_base.specs.declared.io.IoFault.{IoFault}
use Rattle.tv_formats.specs.Files.{Rose, Same}
use Rattle.tv_formats.specs.Names.{at}
use Rattle.tv_device.specs.Calls.{Flushes, Gives, Seals}
use Rattle.tv_device.specs.Ram.{ram_lives, ram_reads}
use Rattle.tv_device.specs.StoredFiles.{bytes_of, is_number}
use Rattle.tv_device.specs.View.{View, WriterState, tells_all}
use Rattle.tv_device.specs.declared.files.StoredFile.{StoredFile}
use Rattle.tv_device.specs.declared.ram_directory.RamDirectory.{RamDirectory}
use Rattle.tv_device.specs.declared.ram_directory.RamWriter.{RamWriter}

-- ---- errors

-- memory was wanted
pub at_memory : (P Q : Type 0) {e : IoError} → e ≡ io.Memory → Q → IoCause P Q e
at_memory P Q is q = subst (λ (e : IoError). IoCause P Q e) (sym is) q

-- a count that stays 0
abbrev pub StillNone : Type 0
StillNone = ◌≡◌ {A = ℕ} 0 0

-- it didn't rise
pub no_rise : Rose 0 0 → ⊥
no_rise rose =
    ⊎_elim (λ (lt : 0 < 0). omega (arith, lt))
    (λ (is : 0 ≡ 18446744073709551615). omega (arith, is)) rose

-- below, no device refuses a call
pub wants_memory : (e : IoError) → IoCause (Rose 0 0) StillNone e → e ≡ io.Memory
wants_memory (io.Fault fault) cause = absurd (no_rise cause.1)
wants_memory io.Memory cause = refl

pub memory_below : {A : Type 0} (e : IoError) (result : Result A IoError)
    → IoCause (Rose 0 0) StillNone e → IsErrAnd result (λ other. other ≡ e)
    → IsErrAnd result (λ other. other ≡ io.Memory)
memory_below e (Ok x) cause is = is
memory_below e (Err other) cause is = is ∙ wants_memory e cause

pub quiet_below : (P Q : Type 0) (e : IoError) → IoCause (Rose 0 0) StillNone e → IoCause P Q e → Q
quiet_below P Q (io.Fault fault) cause quiet = absurd (no_rise cause.1)
quiet_below P Q io.Memory cause quiet = quiet

-- ---- what they show

module _ {A W : Type 0} {old new : View W} (same : Same old.reads new.reads) where
  pub gives_quietly : (name bytes : List ℕ) (result : Result A IoError)
      → IsErrAnd result (λ e. e ≡ io.Memory) → Gives tells_all old new name bytes result
  gives_quietly name bytes (Ok x) is = absurd is
  gives_quietly name bytes (Err e) is = record { ok = λ t. tt; err = λ t. at_memory _ _ is same }

  pub gives_nothing : (name bytes : List ℕ) (fault : IoFault) → IsDevice fault
      → Gives {A = A} tells_all old new name bytes (Err (io.Fault fault))
  gives_nothing name bytes fault device = record {
    ok = λ t. tt;
    err = λ t. (device, record { either = inr (same name); others = λ n other. same n });
  }

  module _ (state_of : W → WriterState) (writer : W) where
    pub seals_quietly : (result : Result A IoError) → IsErrAnd result (λ e. e ≡ io.Memory)
        → Seals tells_all old new state_of writer result
    seals_quietly (Ok x) is = absurd is
    seals_quietly (Err e) is = record {
      ok = λ t lives. tt;
      err = λ t. at_memory _ _ is same;
      gone = λ t isnt. same;
    }

    pub seals_nothing : (fault : IoFault) → IsDevice fault
        → Seals {A = A} tells_all old new state_of writer (Err (io.Fault fault))
    seals_nothing fault device = record {
      ok = λ t lives. tt;
      err = λ t. (
        device,
        record {
          either = inr (same (state_of writer).name);
          others = λ n other. same n;
        },
      );
      gone = λ t isnt. same;
    }

    module _ (there : old.lives writer ≡ true → IsSome (new.reads (state_of writer).name)) where
      pub flushes_quietly : (result : Result A IoError) → IsErrAnd result (λ e. e ≡ io.Memory)
          → Flushes tells_all old new state_of writer result
      flushes_quietly (Ok x) is = absurd is
      flushes_quietly (Err e) is = record {
        touches = record {
          others = λ t n other. same n;
          there = λ t lives. there lives;
          gone = λ t isnt. same;
        };
        ok = λ t lives. tt;
        memory = λ t. at_memory _ _ is same;
      }

      pub flushes_nothing : (fault : IoFault) → IsDevice fault
          → Flushes {A = A} tells_all old new state_of writer (Err (io.Fault fault))
      flushes_nothing fault device = record {
        touches = record {
          others = λ t n other. same n;
          there = λ t lives. there lives;
          gone = λ t isnt. same;
        };
        ok = λ t lives. tt;
        memory = λ t. (device, tt);
      }

-- ---- the file that a writer made

made_reads : (number : ℕ) (file : Option StoredFile)
    → is_number number (option_map (λ file. file.number) file) ≡ true
    → IsSome (option_map (λ file. bytes_of file.content) file)
made_reads number None is = absurd (true≢false (sym is))
made_reads number (Some file) is = refl

pub still_there : {C : Type 0} (old new : RamDirectory C) → Same (ram_reads old) (ram_reads new)
    → (writer : RamWriter) → ram_lives old writer ≡ true → IsSome (ram_reads new writer.name)
still_there old new same writer lives =
    ap is_some (same writer.name)
    ∙ made_reads writer.number (at old.files.map.entries writer.name) lives
