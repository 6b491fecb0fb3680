-- What is said of a reader's warmers.
use Rattle.std.specs.Prelude.{ℕ}
use Rattle.std.specs.declared.alloc.Global.{Global}
use Rattle.std.specs.declared.dyn_box.DynBox.{DynBox}
use Rattle.tv_reader.specs.Warming.{WarmersState}
use Rattle.tv_reader.specs.declared.warming_state.WarmingState.{WarmingState}

module _ {X : Type 0} {F : X → Type 0} where
  -- the generations that were warmed, and the warmers that are left
  abbrev pub warmers_of : WarmingState X F → WarmersState (DynBox X Global F)
  warmers_of state = state.warmers

  -- the number of threads, which is only kept
  abbrev pub threads_of : WarmingState X F → ℕ
  threads_of state = state.num_warming_threads
