-- Readers whose reload isn't finished, and readers with a notice.
use Rattle.std.specs.Prelude.{ℕ, ◌≡◌, ◌<◌, ◌&&◌, ◌==◌, true, List, [], ◌∷◌, codes, Option, option_map}
use Rattle.std.specs.Fmt.{decimal}
use Rattle.std.specs.List.{AllByRecursion, list_any}
use Rattle.tv_machine.specs.CommitEvents.{last_stamp}
use Rattle.tv_events.specs.AnswerLines.{line}
use Rattle.tv_machine.specs.ReloadEvents.{snapshot_read}
use Rattle.tv_machine.specs.State.{Locked, Read, Reader, Reload}
use Rattle.tv_snapshots.specs.declared.reader.Reload.{Reload as ReloadKept}
use Rattle.tv_snapshots.specs.declared.reader.Reload.TheVariants as kept

-- a reload in the machine's words; the number of what was read isn't told
abbrev pub reload_of : ReloadKept → Reload
reload_of (kept.Locked commit) = Locked commit
reload_of (kept.Read shown) = Read shown.commit shown.bodies

-- the line of a reader that shows what was read for it, where it was
abbrev pub published_of : (number : ℕ) → Reader → Option (List ℕ)
published_of number reader = option_map
    (λ shown. line (codes "published")
    (decimal number ∷ decimal shown.generation ∷ decimal shown.commit.opstamp ∷ []))
    (snapshot_read reader.next reader.reload)

-- each reader with a notice may show one snapshot more
abbrev pub CanServe : List (ℕ × Reader) → Type 0
CanServe readers = AllByRecursion (λ e. e.1.has_notice ≡ true → e.1.next < last_stamp) readers

-- a reader with a notice has come to the end of 64 bits
abbrev pub IsSpent : List (ℕ × Reader) → Type 0
IsSpent readers = list_any (λ e. e.1.has_notice && e.1.next == last_stamp) readers ≡ true
