-- How far the numbers of readers, of their snapshots and of searchers come by an action with its change.
use Rattle.std.proofs.Common.{ℕ, ◌≡◌, ◌≤◌, ◌+◌, Option, Some, None, refl, arith}
use Rattle.tv_formats.specs.Collections.{Collections}
use Rattle.tv_machine.specs.ReaderEvents.{new_reader, with_new_reader, with_reloaded, without_reader}
use Rattle.tv_machine.specs.ReloadEvents.{with_notices}
use Rattle.tv_machine.specs.State.{Catalog, Locked, Read, Reader, Readers, Reload, Snapshot, reader_at}
use Rattle.tv_events.specs.declared.reload_policy.ReloadPolicy.{ReloadPolicy}
use Rattle.tv_store.proofs.FewNumbers.{few_below, few_more}
use Rattle.tv_store.proofs.ReaderNumbers.{few_added, few_noticed, few_published, few_put, few_released, few_served}
use Rattle.tv_catalog.specs.Actions.{catalog_after, loaded_by, settled, numbers_by, with_added, with_delivered, with_kept, with_published, with_reload}
use Rattle.tv_catalog.specs.ReaderNumbers.{FewNumbers}
use Rattle.tv_catalog.specs.declared.action.Change.{Change}
use Rattle.tv_catalog.specs.declared.action.Change.TheVariants as changes
use Rattle.tv_catalog.specs.declared.action.Reply.{Reply}
use Rattle.tv_catalog.specs.declared.action.Reply.TheVariants as replies

-- numbers stay few behind a change
few_beside : (bound n : ℕ) (reading : Readers) (before now : Collections) → now.next ≤ bound + n → FewNumbers bound reading before → FewNumbers (bound + n) reading now
few_beside bound n reading before now le few = let more = few_more bound n reading before few in record { next_reader = more.next_reader; next_searcher = more.next_searcher; next_collection = le; next_snapshots = more.next_snapshots }

few_one_more : (bound n : ℕ) (reading : Readers) (before now : Collections) → 1 ≤ n → now.next ≤ bound + n → FewNumbers (bound + 1) reading before → FewNumbers (bound + n) reading now
few_one_more bound n reading before now some le few =
    let more = few_below (bound + 1) (bound + n) reading before (omega (arith, some)) few in
    record { next_reader = more.next_reader; next_searcher = more.next_searcher; next_collection = le; next_snapshots = more.next_snapshots }

few_reading : (bound n : ℕ) (c : Catalog) (policy : ReloadPolicy) (loaded : Option Snapshot) (before now : Collections) → 1 ≤ n → now.next ≤ bound + n → FewNumbers bound c.reading before → FewNumbers (bound + n) (with_added c policy loaded).reading now
few_reading bound n c policy None before now some le few = few_beside bound n c.reading before now le few
few_reading bound n c policy (Some shown) before now some le few =
    few_one_more bound n (with_new_reader c policy shown).reading before now some le
    (few_added bound c.reading before _ c.reading.next_reader (new_reader policy shown) refl (omega arith) few)

few_shown : (bound n : ℕ) (c : Catalog) (number : ℕ) (reader : Option Reader) (loaded : Option Snapshot) (before now : Collections) → reader_at c number ≡ reader → 1 ≤ n → now.next ≤ bound + n → FewNumbers bound c.reading before
    → FewNumbers (bound + n) (with_published c number reader loaded).reading now
few_shown bound n c number (Some reader) (Some shown) before now there some le few =
    few_one_more bound n (with_reloaded c number reader shown).reading before now some le
    (few_published bound c.reading before _ number reader (record reader { next = reader.next + 1; shown = shown }) there refl refl few)
few_shown bound n c number (Some reader) None before now there some le few = few_beside bound n c.reading before now le few
few_shown bound n c number None loaded before now there some le few = few_beside bound n c.reading before now le few

few_noted : (bound n : ℕ) (c : Catalog) (number : ℕ) (reader : Option Reader) (reload : Reload) (before now : Collections) → reader_at c number ≡ reader → now.next ≤ bound + n → FewNumbers bound c.reading before
    → FewNumbers (bound + n) (with_reload c number reader reload).reading now
few_noted bound n c number None reload before now there le few = few_beside bound n c.reading before now le few
few_noted bound n c number (Some reader) reload before now there le few =
    few_beside bound n (with_reload c number (Some reader) reload).reading before now le (few_put bound c.reading before number reader (record reader { reload = Some reload }) there refl few)

few_kept : (bound n : ℕ) (c : Catalog) (number : ℕ) (loaded : Option Snapshot) (before now : Collections) → now.next ≤ bound + n → FewNumbers bound c.reading before → FewNumbers (bound + n) (with_kept c number loaded).reading now
few_kept bound n c number None before now le few = few_beside bound n c.reading before now le few
few_kept bound n c number (Some shown) before now le few = few_noted bound n c number (reader_at c number) (Read shown.commit shown.bodies) before now refl le few

few_delivered : (bound n : ℕ) (c : Catalog) (loaded : Option Snapshot) (before now : Collections) → 1 ≤ n → now.next ≤ bound + n → FewNumbers bound c.reading before → FewNumbers (bound + n) (with_delivered c loaded).reading now
few_delivered bound n c None before now some le few = few_beside bound n c.reading before now le few
few_delivered bound n c (Some shown) before now some le few = few_one_more bound n (with_delivered c (Some shown)).reading before now some le (few_served bound c.reading before shown few)

few_changed : (bound n : ℕ) (c : Catalog) (change : Change) (loaded : Option Snapshot) (before now : Collections) → numbers_by change ≤ n → now.next ≤ bound + n → FewNumbers bound c.reading before → FewNumbers (bound + n) (catalog_after c change loaded).reading now
few_changed bound n c changes.Nothing loaded before now some le few = few_beside bound n c.reading before now le few
few_changed bound n c (changes.Deletes id segment k) loaded before now some le few = few_beside bound n c.reading before now le few
few_changed bound n c (changes.Release id) loaded before now some le few = few_beside bound n c.reading before now le few
few_changed bound n c (changes.Reopen segments) loaded before now some le few = record { next_reader = omega arith; next_searcher = omega arith; next_collection = le; next_snapshots = tt }
few_changed bound n c (changes.AddReader policy) loaded before now some le few = few_reading bound n c policy loaded before now some le few
few_changed bound n c (changes.Publish number) loaded before now some le few = few_shown bound n c number (reader_at c number) loaded before now refl some le few
few_changed bound n c (changes.Note number commit) loaded before now some le few = few_noted bound n c number (reader_at c number) (Locked commit) before now refl le few
few_changed bound n c (changes.Keep number) loaded before now some le few = few_kept bound n c number loaded before now le few
few_changed bound n c changes.Deliver loaded before now some le few = few_delivered bound n c loaded before now some le few
few_changed bound n c (changes.EndReader number) loaded before now some le few =
    few_beside bound n (without_reader c number).reading before now le (few_released bound c.reading before _ number refl few)

pub few_after : (bound n : ℕ) (c : Catalog) (change : Change) (reply : Reply) (before now : Collections) → numbers_by change ≤ n → now.next ≤ bound + n → FewNumbers bound c.reading before → FewNumbers (bound + n) (settled c change reply).reading now
few_after bound n c change (replies.Saved commit) before now some le few = few_beside bound n (with_notices c.reading) before now le (few_noticed bound c.reading before few)
few_after bound n c change other before now some le few = few_changed bound n c change (loaded_by other) before now some le few
