-- A commit that is saved, by what the saving of its text says.
use Rattle.std.proofs.Common.{◌≡◌, ◌⊎◌, inr, ℕ, ◌<◌, ◌^◌, List, map, Option, Some, None, Result, Ok, Err, sym, ap, subst, String, Global}
use Rattle.std.proofs.lemmas.List.Elements.{All-from_recursion, recursion_from_All}
use Rattle.std.proofs.lemmas.List.Sorted.{All-permutation}
use Rattle.std.proofs.lemmas.Str.{IsUtf8-string_bytes}
use Rattle.std.specs.List.{AllByRecursion}
use Rattle.std.specs.Prelude.{IfSome, IsErrAnd, IsUtf8, OnErr}
use Rattle.tv_base.specs.Causes.{IoCause}
use Rattle.tv_base.specs.Errors.{of_io}
use Rattle.tv_base.specs.declared.error.TantivyError.{TantivyError}
use Rattle.tv_base.specs.declared.io.IoError.{IoError}
use Rattle.tv_base.specs.declared.io.IoError.TheVariants as io
use Rattle.tv_device.specs.declared.directory.Directory.{Ghosts}
use Rattle.tv_managed.specs.Names.{ManagedNames}
use Rattle.tv_formats.specs.Commits.{Commit, IndexForm, IsCommit, IsSegment, Settings}
use Rattle.tv_formats.specs.Meaning.{Means}
use Rattle.tv_formats.specs.Names.{meta_name}
use Rattle.tv_formats.proofs.ReadPrinted.{printed_means}
use Rattle.tv_index.specs.Saving.{LeavesText, SaveCause, SavesCommit, SavesMeta, saved_text}
use Rattle.tv_metas.specs.Metas.{text_of}
use Rattle.tv_metas.specs.Schemas.{HasSchemaTree}
use Rattle.tv_metas.specs.TrackedMetas.{IsInOrder, tracked_commit}
use Rattle.tv_metas.specs.declared.tracked_meta.IndexMeta.{IndexMeta}

-- what is saved means the commit
pub saved_means : (settings : Settings) (schema : List ℕ) (commit : Commit) → HasSchemaTree schema → settings.blocksize < 2 ^ 64 → IsCommit commit
    → Means settings schema (saved_text settings schema commit) commit
saved_means settings schema commit has small is = printed_means settings schema has.tree commit is small has.text_is

-- shares of segments of a commit, in their order, are a commit
pub ordered_is_commit : (meta : IndexMeta) (commit : Commit) → AllByRecursion IsSegment (map (λ s. s.1) meta.segments.items) → meta.opstamp < 2 ^ 64 → IsInOrder (tracked_commit meta) commit → IsCommit commit
ordered_is_commit meta commit all small order = record {
  ordered = order.sorted;
  segments = recursion_from_All IsSegment commit.segments (All-permutation IsSegment (map (λ s. s.1) meta.segments.items) commit.segments order.same (All-from_recursion IsSegment (map (λ s. s.1) meta.segments.items) all));
  opstamp = subst (λ (n : ℕ). n < 2 ^ 64) (sym order.opstamp) small;
  payload = subst (λ (text : Option (List ℕ)). IfSome text IsUtf8) (sym order.payload) (utf8 meta.payload);
} where
  utf8 : (payload : Option (String Global)) → IfSome (text_of payload) IsUtf8
  utf8 None = tt
  utf8 (Some text) = IsUtf8-string_bytes text

-- the cause of an error that is handed on
pub cause_of_io : {more same refused quiet : Type 0} (error : IoError) → (more → refused) → (same → quiet) → IoCause more same error → SaveCause refused quiet (of_io error)
cause_of_io (io.Fault fault) f q h = (h.0, f h.1)
cause_of_io io.Memory f q h = q h

module _ {A D W C : Type 0} (g : Ghosts D W C) (old new : D × ManagedNames) (form : IndexForm) (commit : Commit) (has : HasSchemaTree form.schema) (small : form.settings.blocksize < 2 ^ 64) (is_commit : IsCommit commit) where
  -- it is saved
  pub saved : (result : Result A TantivyError) (text : List ℕ) → text ≡ saved_text form.settings form.schema commit → OnErr result ⊥ → SavesMeta g old new text → SavesCommit g old new form commit result
  saved (Ok a) text is ok h = record {
    saves = subst (SavesMeta g old new) is h;
    means = saved_means form.settings form.schema commit has small is_commit;
    leaves = record { either = λ t. tt; memory = λ t. tt };
  }
  saved (Err e) text is ok h = absurd ok

  -- it isn't, and this text may have been written
  pub unsaved : {B : Type 0} (result : Result A TantivyError) (text : List ℕ) (error : IoError) → IsErrAnd result (λ e. e ≡ of_io error) → text ≡ saved_text form.settings form.schema commit
      → LeavesText {A = B} g old.0 new.0 text (Err error) → SavesCommit g old new form commit result
  unsaved (Ok a) text error h is leaves = absurd h
  unsaved (Err e) text error h is leaves = record {
    saves = tt;
    means = saved_means form.settings form.schema commit has small is_commit;
    leaves = record {
      either = λ t. subst (λ (l : List ℕ). ((g.view new.0).reads meta_name ≡ Some l) ⊎ ((g.view new.0).reads meta_name ≡ (g.view old.0).reads meta_name)) is (leaves.either t);
      memory = λ t. subst (SaveCause (Unit {0}) ((g.view new.0).reads meta_name ≡ (g.view old.0).reads meta_name)) (sym h) (cause_of_io error (λ u. u) (λ s. s) (leaves.memory t));
    };
  }

  -- it isn't, since there was no memory for the text, and nothing was written
  pub unprinted : (result : Result A TantivyError) → IsErrAnd result (λ e. e ≡ of_io io.Memory) → new ≡ old → SavesCommit g old new form commit result
  unprinted (Ok a) h same = absurd h
  unprinted (Err e) h same =
      let stays : (g.view new.0).reads meta_name ≡ (g.view old.0).reads meta_name = ap (λ (d : D × ManagedNames). (g.view d.0).reads meta_name) same in
      record {
        saves = tt;
        means = saved_means form.settings form.schema commit has small is_commit;
        leaves = record {
          either = λ t. inr stays;
          memory = λ t. subst (SaveCause (Unit {0}) ((g.view new.0).reads meta_name ≡ (g.view old.0).reads meta_name)) (sym h) stays;
        };
      }
