-- The files of a commit that a reload has noted, as they are read.
use Rattle.std.proofs.Common.{◌≡◌, ℕ, true, List, ◌∷◌, Option, Some, None, refl, sym, subst}
use Rattle.std.specs.Prelude.{IfSome, IsSomeAnd}
use Rattle.tv_base.specs.declared.error.TantivyError.{TantivyError}
use Rattle.tv_catalog.specs.Actions.{IsNoted}
use Rattle.tv_device.specs.declared.directory.Directory.{Ghosts}
use Rattle.tv_formats.proofs.CollectedNames.{has_front}
use Rattle.tv_formats.proofs.Numbered.{found}
use Rattle.tv_formats.specs.Commits.{Commit}
use Rattle.tv_formats.specs.Files.{Rose}
use Rattle.tv_formats.specs.Names.{has}
use Rattle.tv_formats.specs.Segments.{all_required}
use Rattle.tv_machine.proofs.ReaderMoves.{OfUnread, all_unread}
use Rattle.tv_machine.specs.Living.{unread_by}
use Rattle.tv_machine.specs.SoundStates.{HasSealedFiles, IsWhole}
use Rattle.tv_machine.specs.State.{Reader, State, reader_at}
use Rattle.tv_store.proofs.ReaderEvents.{cause_weaker, has_middle, read_is_sealed, sealed_is_there}
use Rattle.tv_store.specs.Bodies.{FailsAt, RefusesFirst}
use Rattle.tv_store.specs.Kept.{FilesState, kept_of}
use Rattle.tv_store.specs.Performing.{HoldNoneWith, LacksFileOf}
use Rattle.tv_store.specs.ReadCauses.{ApplyCause, reading_facts}

-- a reader that is there
of_some : {P : Type 0} (reader : Option Reader) (commit : Commit) → IsSomeAnd reader (λ one. unread_by one.reload ≡ Some commit) → ((one : Reader) → reader ≡ Some one → unread_by one.reload ≡ Some commit → P) → P
of_some None commit h f = absurd h
of_some (Some one) commit h f = f one refl h

-- they are sealed
pub noted_sealed : (s : State) (commit : Commit) → IsWhole s → IsNoted s.catalog commit → HasSealedFiles s commit
noted_sealed s commit whole noted =
    of_some (reader_at s.catalog noted.0) commit noted.1 (λ one is unread.
    subst (λ (o : Option Commit). IfSome o (HasSealedFiles s)) unread
    (found (OfUnread (HasSealedFiles s)) s.catalog.reading.readers noted.0 one (all_unread (HasSealedFiles s) s.catalog.reading.readers whole.each.1) is))

-- one of them isn't read
pub noted_fails : {O W C : Type 0} (g : Ghosts O W C) (old new : FilesState O) (commit : Commit) (error : TantivyError)
    → FailsAt g.told.content (g.view old.outside).reads (all_required commit.segments) (Rose (g.view old.outside).faults (g.view new.outside).faults) ((g.view new.outside).faults ≡ (g.view old.outside).faults) error
    → ApplyCause (reading_facts (Rose (g.view old.outside).faults (g.view new.outside).faults) ((g.view new.outside).faults ≡ (g.view old.outside).faults) (LacksFileOf g old commit) (λ path. HoldNoneWith g old commit)) error
noted_fails g old new commit error h =
    let tells = g.told.content in
    let first = (g.view old.outside).reads in
    let names = all_required commit.segments in
    let refused = Rose (g.view old.outside).faults (g.view new.outside).faults in
    let quiet = (g.view new.outside).faults ≡ (g.view old.outside).faults in
    cause_weaker (reading_facts refused quiet (RefusesFirst tells first names) (λ path. (has names path ≡ true) × (tells → first path ≡ None)))
    (reading_facts refused quiet (LacksFileOf g old commit) (λ path. HoldNoneWith g old commit)) error
    (λ never. never) (λ rose. rose) (λ still. still) (λ never. never)
    (λ error b t s held whole noted.
    let sealed = noted_sealed s commit whole noted in
    let no = b.refuses t in
    record {
      front = b.front;
      path = b.path;
      rest = b.rest;
      split = b.split;
      good = record {
        each = λ n among.
            let good = b.good t n among in
            (good.0, read_is_sealed first (kept_of s.catalog old) s n good.0 held (sealed n (subst (λ (ns : List (List ℕ)). has ns n ≡ true) (sym b.split) (has_front b.front (b.path ∷ b.rest) n among))) good.1, good.2);
      };
      bytes = no.bytes;
      sealed = read_is_sealed first (kept_of s.catalog old) s b.path no.bytes held (sealed b.path (has_middle names b.front b.rest b.path b.split)) no.there;
      why = no.why;
      no_body = no.no_body;
    })
    (λ path a t s held whole noted. sealed_is_there first (kept_of s.catalog old) s path held (noted_sealed s commit whole noted path a.0) (a.1 t)) h
