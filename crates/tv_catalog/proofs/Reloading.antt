-- Whether the meta lock is held, and what is live, after actions of readers.
use Rattle.std.proofs.Common.{◌≡◌, ℕ, true, false, true≢false, List, [], ◌∷◌, ◌+◌, map, Option, Some, None, refl, sym, ◌∙◌}
use Rattle.std.specs.Prelude.{is_some}
use Rattle.std.specs.List.{list_any}
use Rattle.tv_formats.specs.Commits.{Commit}
use Rattle.tv_formats.proofs.Numbered.{found, put_all, put_found}
use Rattle.tv_machine.specs.Living.{is_busy, is_locked, unread_by}
use Rattle.tv_machine.specs.ReaderEvents.{new_reader}
use Rattle.tv_machine.specs.ReloadEvents.{served, with_reader}
use Rattle.tv_machine.specs.State.{Catalog, Locked, Read, Reader, Reload, Snapshot, reader_at}
use Rattle.tv_events.specs.declared.reload_policy.ReloadPolicy.{ReloadPolicy}
use Rattle.tv_machine.proofs.Locks.{any_none, locked_busy, none_any}
use Rattle.tv_catalog.specs.Actions.{with_added, with_delivered, with_kept, with_published, with_reload}
use Rattle.tv_snapshots.proofs.Reloading.{served_stays}

-- ---- whether the lock is held

pub any_mapped : (es : List (ℕ × Reader)) (change : Reader → Reader) → ((reader : Reader) → (change reader).reload ≡ reader.reload)
    → list_any {X = ℕ × Reader} (λ e. is_locked e.1) (map (λ e. (e.0, change e.1)) es) ≡ list_any {X = ℕ × Reader} (λ e. is_locked e.1) es
any_mapped [] change stays = refl
any_mapped (e ∷ es) change stays = rw (any_mapped es change stays, stays e.1) refl

-- after a new reader, or a new snapshot of one that has no reload
pub added_busy : (c : Catalog) (policy : ReloadPolicy) (loaded : Option Snapshot) → is_busy c ≡ false → is_busy (with_added c policy loaded) ≡ is_busy c
added_busy c policy None free = refl
added_busy c policy (Some shown) free =
    none_any _ (put_all (λ e. is_locked e.1 ≡ false) c.reading.readers c.reading.next_reader (new_reader policy shown) (any_none c.reading.readers free) refl) ∙ sym free

pub published_busy : (c : Catalog) (number : ℕ) (reader : Reader) (loaded : Option Snapshot) → is_busy c ≡ false → is_some reader.reload ≡ false → is_busy (with_published c number (Some reader) loaded) ≡ is_busy c
published_busy c number reader None free none = refl
published_busy c number reader (Some shown) free none =
    none_any _ (put_all (λ e. is_locked e.1 ≡ false) c.reading.readers number (record reader { next = reader.next + 1; shown = shown }) (any_none c.reading.readers free) (unlocked reader.reload none)) ∙ sym free
  where
    unlocked : (reload : Option Reload) → is_some reload ≡ false → is_some (unread_by reload) ≡ false
    unlocked None h = refl
    unlocked (Some reload) h = absurd (true≢false h)

-- after a commit was noted it is
pub noted_busy : (c : Catalog) (number : ℕ) (reader : Reader) (commit : Commit) → is_busy (with_reader c number (record reader { reload = Some (Locked commit) })) ≡ true
noted_busy c number reader commit =
    let now = with_reader c number (record reader { reload = Some (Locked commit) }) in
    found (λ e. is_locked e.1 ≡ true → is_busy now ≡ true) now.reading.readers number (record reader { reload = Some (Locked commit) }) (locked_busy now) (put_found c.reading.readers number (record reader { reload = Some (Locked commit) })) refl

-- ---- live segments

-- a reload's steps leave them
pub reload_live : (c : Catalog) (number : ℕ) (reader : Option Reader) (reload : Reload) → (with_reload c number reader reload).live ≡ c.live
reload_live c number None reload = refl
reload_live c number (Some reader) reload = refl

pub kept_live : (c : Catalog) (number : ℕ) (loaded : Option Snapshot) → (with_kept c number loaded).live ≡ c.live
kept_live c number None = refl
kept_live c number (Some shown) = reload_live c number (reader_at c number) (Read shown.commit shown.bodies)

-- and so do notices
pub delivered_live : (c : Catalog) (loaded : Option Snapshot) → (with_delivered c loaded).live ≡ c.live
delivered_live c None = refl
delivered_live c (Some shown) = refl

-- readers that are served keep their reloads
pub delivered_busy : (c : Catalog) (loaded : Option Snapshot) → is_busy (with_delivered c loaded) ≡ is_busy c
delivered_busy c None = refl
delivered_busy c (Some shown) = any_mapped c.reading.readers (served shown.commit shown.bodies) (served_stays shown.commit shown.bodies)
