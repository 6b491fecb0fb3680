-- Reloads in steps, notices and the meta lock, computed.
use Rattle.std.proofs.Common.{◌≡◌, [], ◌∷◌, refl, codes, map, None, Some, true}
use Rattle.std.specs.Prelude.{option_map}
use Rattle.std.specs.Fmt.{digits}
use Rattle.hex.specs.Hex.{encode_with}
use Rattle.json.specs.Print.{escape_byte}
use Rattle.tv_formats.proofs.Samples.{id_a, id_b}
use Rattle.tv_formats.specs.declared.segment.SegmentComponent.TheVariants.{Postings}
use Rattle.tv_events.specs.declared.event.Event.TheVariants as events
use Rattle.tv_events.specs.declared.reload_policy.ReloadPolicy.TheVariants.{Manual, OnCommitWithDelay}
use Rattle.tv_formats.specs.Commits.{Commit}
use Rattle.tv_machine.specs.Index.{first_state}
use Rattle.tv_machine.specs.Living.{is_busy, kept_commits}
use Rattle.tv_machine.specs.Machine.{answers, after}
use Rattle.tv_machine.specs.Readable.{read_by}
use Rattle.tv_machine.specs.State.{State}
use Rattle.tv_machine.proofs.Samples.{first_script, unrefused}

-- a reload in steps, which shows the commit that it noted though a later one came in between, and notices
pub reloads_told : answers (after first_state first_script) (unrefused (
    events.Reader Manual
    ∷ events.ReloadLock 0
    ∷ events.GcBegin
    ∷ events.Reader Manual
    ∷ events.Reload 0
    ∷ events.Commit None []
    ∷ events.ReloadPublish 0
    ∷ events.ReloadOpen 0
    ∷ events.GcBegin
    ∷ events.ReloadPublish 0
    ∷ events.Reload 0
    ∷ events.Reader OnCommitWithDelay
    ∷ events.Commit None (id_a ∷ [])
    ∷ events.Deliver
    ∷ events.Deliver
    ∷ events.Searcher 1
    ∷ events.Reload 7
    ∷ [])) ≡
    codes "reader 0 0 1"
    ∷ codes "locked 0 1"
    ∷ codes "refused lock-busy"
    ∷ codes "refused lock-busy"
    ∷ codes "refused reload-unfinished"
    ∷ codes "commit 2 0"
    ∷ codes "refused no-reload"
    ∷ codes "read 0"
    ∷ codes "gc 0"
    ∷ codes "published 0 1 1"
    ∷ codes "published 0 2 2"
    ∷ codes "reader 1 0 2"
    ∷ codes "commit 3 1"
    ∷ codes "delivered 1"
    ∷ codes "delivered"
    ∷ codes "searcher 0 1 3"
    ∷ codes "refused unknown-reader"
    ∷ []
unfolding encode_with digits
reloads_told = refl

-- the files of a noted commit are collected once they are read, and are shown still
pub noted_told : answers (after first_state first_script) (unrefused (
    events.Reader Manual
    ∷ events.ReloadLock 0
    ∷ events.Commit None []
    ∷ events.ReleaseSegment id_a
    ∷ events.Gc
    ∷ events.ReloadOpen 0
    ∷ events.Gc
    ∷ events.ReloadOpen 0
    ∷ events.ReloadPublish 0
    ∷ events.ReloadPublish 0
    ∷ events.Searcher 0
    ∷ events.Bytes 0 0 Postings
    ∷ [])) ≡
    codes "reader 0 0 1"
    ∷ codes "locked 0 1"
    ∷ codes "commit 2 0"
    ∷ codes "released"
    ∷ codes "refused lock-busy"
    ∷ codes "read 0"
    ∷ codes "gc deleted a5c4dfcbdfe645089129e308e26d5523.fast a5c4dfcbdfe645089129e308e26d5523.fieldnorm a5c4dfcbdfe645089129e308e26d5523.idx a5c4dfcbdfe645089129e308e26d5523.pos a5c4dfcbdfe645089129e308e26d5523.store a5c4dfcbdfe645089129e308e26d5523.term failed"
    ∷ codes "refused no-reload"
    ∷ codes "published 0 1 1"
    ∷ codes "refused no-reload"
    ∷ codes "searcher 0 1 1"
    ∷ codes "bytes 0 0 idx 313233343536373839"
    ∷ []
unfolding encode_with digits escape_byte
noted_told = refl

-- a collection that began before goes on while the lock is held
pub collection_goes_on : answers first_state (unrefused (
    events.Segment id_b
    ∷ events.Open id_b Postings
    ∷ events.ReleaseSegment id_b
    ∷ events.GcBegin
    ∷ events.Reader Manual
    ∷ events.ReloadLock 0
    ∷ events.GcStep 0
    ∷ events.GcEnd 0
    ∷ events.GcBegin
    ∷ [])) ≡
    codes "segment 00000000000000000000000000000001"
    ∷ codes "opened 00000000000000000000000000000001.idx"
    ∷ codes "released"
    ∷ codes "gc 0 00000000000000000000000000000001.idx"
    ∷ codes "reader 0 0 0"
    ∷ codes "locked 0 0"
    ∷ codes "gc 0 done 00000000000000000000000000000001.idx"
    ∷ codes "gc 0 end"
    ∷ codes "refused lock-busy"
    ∷ []
unfolding encode_with digits
collection_goes_on = refl

-- the lock is told before all else of `deliver`, a reload of the reader itself before the lock, and the end of a reader or of the index frees the lock
pub lock_told : answers first_state (unrefused (
    events.Deliver
    ∷ events.Reader Manual
    ∷ events.Reader Manual
    ∷ events.ReloadLock 0
    ∷ events.Deliver
    ∷ events.ReloadLock 0
    ∷ events.ReloadLock 1
    ∷ events.Reload 1
    ∷ events.Reload 2
    ∷ events.ReloadOpen 1
    ∷ events.ReloadOpen 2
    ∷ events.ReloadPublish 2
    ∷ events.ReleaseReader 0
    ∷ events.ReloadLock 1
    ∷ events.Gc
    ∷ events.Reopen
    ∷ events.Gc
    ∷ events.ReloadOpen 1
    ∷ [])) ≡
    codes "delivered"
    ∷ codes "reader 0 0 0"
    ∷ codes "reader 1 0 0"
    ∷ codes "locked 0 0"
    ∷ codes "refused lock-busy"
    ∷ codes "refused reload-unfinished"
    ∷ codes "refused lock-busy"
    ∷ codes "refused lock-busy"
    ∷ codes "refused unknown-reader"
    ∷ codes "refused no-reload"
    ∷ codes "refused unknown-reader"
    ∷ codes "refused unknown-reader"
    ∷ codes "released"
    ∷ codes "locked 1 0"
    ∷ codes "refused lock-busy"
    ∷ codes "open 0 0"
    ∷ codes "gc deleted failed"
    ∷ codes "refused unknown-reader"
    ∷ []
unfolding encode_with digits
lock_told = refl

-- a plain reload leaves the notice, and a notice waits for the reader's own reload alone
pub notices_told : answers first_state (unrefused (
    events.Reader OnCommitWithDelay
    ∷ events.Reader Manual
    ∷ events.Reader OnCommitWithDelay
    ∷ events.ReloadLock 1
    ∷ events.ReloadOpen 1
    ∷ events.Commit None []
    ∷ events.Reload 0
    ∷ events.Deliver
    ∷ events.ReloadLock 0
    ∷ events.ReloadOpen 0
    ∷ events.Deliver
    ∷ events.Commit None []
    ∷ events.Deliver
    ∷ events.ReloadPublish 0
    ∷ events.Deliver
    ∷ events.ReloadPublish 1
    ∷ [])) ≡
    codes "reader 0 0 0"
    ∷ codes "reader 1 0 0"
    ∷ codes "reader 2 0 0"
    ∷ codes "locked 1 0"
    ∷ codes "read 1"
    ∷ codes "commit 1 0"
    ∷ codes "published 0 1 1"
    ∷ codes "delivered 0 2"
    ∷ codes "locked 0 1"
    ∷ codes "read 0"
    ∷ codes "delivered"
    ∷ codes "commit 2 0"
    ∷ codes "refused reload-unfinished"
    ∷ codes "published 0 3 1"
    ∷ codes "delivered 0 2"
    ∷ codes "published 1 1 0"
    ∷ []
unfolding encode_with digits
notices_told = refl

-- while the lock is held, the noted commit is kept beside the current one, and its files alone are read next
abbrev locked_state : State
locked_state = after (after first_state first_script) (unrefused (events.Reader Manual ∷ events.ReloadLock 0 ∷ events.Commit None [] ∷ []))

pub locked_busy : is_busy locked_state.catalog ≡ true
unfolding encode_with digits
locked_busy = refl

pub locked_kept : map (λ (commit : Commit). commit.opstamp) (kept_commits locked_state.catalog) ≡ 2 ∷ 1 ∷ []
unfolding encode_with digits
locked_kept = refl

pub locked_reads : option_map (λ (commit : Commit). commit.opstamp) (read_by locked_state (events.ReloadOpen 0)) ≡ Some 1
unfolding encode_with digits
locked_reads = refl

pub locked_refuses : read_by locked_state (events.Reload 0) ≡ None
unfolding encode_with digits
locked_refuses = refl
