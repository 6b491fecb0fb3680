-- An event that reads a commit's files can do so in a sound state.
use Rattle.std.proofs.Common.{◌≡◌, Bool, true, false, ◌||◌, cond, Option, Some, None, refl}
use Rattle.std.specs.Prelude.{IfSome, not, option_and_then}
use Rattle.std.specs.List.{list_all}
use Rattle.tv_events.specs.declared.event.Event.{Event}
use Rattle.tv_events.specs.declared.event.Event.TheVariants as events
use Rattle.tv_formats.specs.Commits.{Commit}
use Rattle.tv_formats.specs.Segments.{all_required}
use Rattle.tv_formats.proofs.Numbered.{found}
use Rattle.tv_machine.specs.Lines.{is_refused}
use Rattle.tv_machine.specs.Living.{is_busy, unread_by}
use Rattle.tv_machine.specs.Readable.{AreGoodFiles, ReadsGood}
use Rattle.tv_machine.specs.ReaderEvents.{reload_refusals}
use Rattle.tv_machine.specs.ReloadEvents.{deliver_refusals}
use Rattle.tv_machine.specs.SoundStates.{IsSoundState}
use Rattle.tv_machine.specs.State.{State, Reader, reader_at}
use Rattle.tv_machine.proofs.ReaderMoves.{OfUnread, all_unread}
use Rattle.tv_machine.proofs.SoundStates.{sound_reads}

-- a commit, or none
unless_read : (P : Commit → Type 0) (refused : Bool) (commit : Commit) → P commit → IfSome (cond refused None (Some commit)) P
unless_read P true commit h = tt
unless_read P false commit h = h

-- something of a reader that is there
of_reader : (P : Commit → Type 0) (reader : Option Reader) (read : Reader → Option Commit) → ((one : Reader) → reader ≡ Some one → IfSome (read one) P) → IfSome (option_and_then read reader) P
of_reader P None read h = tt
of_reader P (Some one) read h = h one refl

pub sound_loads : (s : State) (event : Event) → IsSoundState s → ReadsGood s event
sound_loads s (events.Reader policy) sound = unless_read _ (is_busy s.catalog) s.catalog.commit (sound_reads s sound).0
sound_loads s (events.Reload number) sound = of_reader _ (reader_at s.catalog number) _ (λ reader is. unless_read _ (is_refused (reload_refusals s.catalog reader)) s.catalog.commit (sound_reads s sound).0)
sound_loads s (events.ReloadOpen number) sound =
    let Good = λ (commit : Commit). AreGoodFiles s (all_required commit.segments) in
    of_reader Good (reader_at s.catalog number) (λ reader. unread_by reader.reload) (λ reader is.
    found (OfUnread Good) s.catalog.reading.readers number reader (all_unread Good s.catalog.reading.readers (sound_reads s sound).1) is)
sound_loads s events.Deliver sound =
    unless_read _ (is_refused (deliver_refusals s.catalog) || list_all (λ e. not e.1.has_notice) s.catalog.reading.readers) s.catalog.commit (sound_reads s sound).0
sound_loads s other sound = tt
