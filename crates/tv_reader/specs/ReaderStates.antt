-- What is said of a reader, and of one who builds it.
use Rattle.std.specs.Prelude.{◌≡◌, ℕ, Bool, List, [], Option}
use Rattle.std.specs.declared.alloc.Global.{Global}
use Rattle.std.specs.declared.dyn_box.DynBox.{DynBox}
use Rattle.tv_base.specs.declared.error.TantivyError.{TantivyError}
use Rattle.tv_machine.specs.declared.ReloadPolicy.{ReloadPolicy}
use Rattle.tv_machine.specs.declared.ReloadPolicy.TheVariants.{OnCommitWithDelay}
use Rattle.tv_reader.specs.Publishing.{BuiltBy, PublishedBy, ReloadedBy, UnpublishedBy, items_of}
use Rattle.tv_reader.specs.Readers.{ReaderState, opened}
use Rattle.tv_reader.specs.Searchers.{CommitRead}
use Rattle.tv_reader.specs.Warming.{WarmerCall, new_warmers}
use Rattle.tv_reader.specs.WarmingStates.{threads_of, warmers_of}
use Rattle.tv_reader.specs.declared.index_reader.IndexReader.{IndexReader}
use Rattle.tv_reader.specs.declared.index_reader_builder.IndexReaderBuilder.{IndexReaderBuilder}
use Rattle.tv_reader.specs.declared.warming_state.WarmingState.{WarmingState}

-- how a reader is built: when it is to reload, the number of threads, which is only kept, and its warmers
pub record BuilderState (W : Type 0) : Type 0 where
  pub policy : ReloadPolicy
  pub threads : ℕ
  pub warmers : List W

-- it is to reload after each commit, with one thread and without warmers
abbrev pub new_builder : {W : Type 0} → BuilderState W
new_builder = record { policy = OnCommitWithDelay; threads = 1; warmers = [] }

module _ {X : Type 0} {F : X → Type 0} where
  -- what a reader shows and counts
  abbrev pub seen : IndexReader X F → ReaderState
  seen reader = reader.published

  -- what it has of its warmers
  abbrev pub warming_of : IndexReader X F → WarmingState X F
  warming_of reader = reader.warming

  -- how a builder builds
  abbrev pub builder_of : IndexReaderBuilder X F → BuilderState (DynBox X Global F)
  builder_of b = record {
    policy = b.policy;
    threads = b.num_warming_threads;
    warmers = items_of b.warmers;
  }

  module _ (errors : DynBox X Global F → ℕ) (test : DynBox X Global F → TantivyError → Bool)
      (called_for : DynBox X Global F → Option (List WarmerCall)) where
    -- a commit is shown under the next number, once each warmer that is left was called, in order
    abbrev pub Publishes : CommitRead → (old new : IndexReader X F) → Type 0
    Publishes commit old new = PublishedBy errors test called_for commit (seen old) (seen new)
        (warmers_of (warming_of old)) (warmers_of (warming_of new))

    -- the commit of a reload is shown, and the reload ends
    abbrev pub PublishesReload : CommitRead → (old new : IndexReader X F) → Type 0
    PublishesReload commit old new = ReloadedBy errors test called_for commit (seen old) (seen new)
        (warmers_of (warming_of old)) (warmers_of (warming_of new))

    -- why a commit isn't shown
    abbrev pub PublishCause : CommitRead → (old new : IndexReader X F) → TantivyError → Type 0
    PublishCause commit old new e = UnpublishedBy errors test called_for commit (seen old) (seen new)
        (warmers_of (warming_of old)) (warmers_of (warming_of new)) e

    -- a new reader shows this commit under the number 0, once each warmer of its builder was called, in order
    abbrev pub Builds : BuilderState (DynBox X Global F) → CommitRead → IndexReader X F → Type 0
    Builds b commit reader = BuiltBy errors test called_for b.policy b.warmers commit (seen reader)
        (warmers_of (warming_of reader)) × (threads_of (warming_of reader) ≡ b.threads)

  -- a new reader shows this commit under the number 0, is to reload after each commit, and has one thread and
  -- no warmers
  abbrev pub BuildsPlain : CommitRead → IndexReader X F → Type 0
  BuildsPlain commit reader =
      (seen reader ≡ opened OnCommitWithDelay commit)
      × (warmers_of (warming_of reader) ≡ new_warmers []) × (threads_of (warming_of reader) ≡ 1)
