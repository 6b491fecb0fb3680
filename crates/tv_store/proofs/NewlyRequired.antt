-- Names that a step makes required: live segments required them before, or the commit does, or they aren't managed.
use Rattle.std.proofs.Common.{◌≡◌, ◌⊎◌, ℕ, Bool, true, false, true≢false, List, Some, is_some, inl, inr, sym, subst, ◌∙◌}
use Rattle.std.proofs.lemmas.Bool.{false_from_ne_true}
use Rattle.std.specs.BTreeMap.{is_at}
use Rattle.tv_formats.proofs.Entries.{is_text}
use Rattle.tv_formats.proofs.Required.{Begins, begins_named, by_one, required_begins, required_deleted, required_found, required_left, required_put}
use Rattle.tv_formats.specs.Names.{at, byte_cmp, has, is}
use Rattle.tv_formats.specs.Segments.{all_required, fresh_segment, is_named, name_of, required_names}
use Rattle.tv_formats.specs.declared.segment.LiveSegment.{LiveSegment}
use Rattle.tv_formats.specs.declared.segment.SegmentComponent.TheVariants.{Delete}
use Rattle.tv_machine.proofs.Changes.{HasDocs, IsNew, MayDelete, OfEachChange, SegmentMove, step_changes}
use Rattle.tv_machine.proofs.HeldStates.{unnamed}
use Rattle.tv_machine.specs.DeleteEvents.{having_deleted_docs, next_deletes}
use Rattle.tv_machine.specs.Machine.{step}
use Rattle.tv_machine.specs.SegmentEvents.{is_in_use}
use Rattle.tv_machine.specs.State.{State, live_at, with_live}
use Rattle.tv_events.specs.declared.event.Event.{Event}

-- a name that live segments require was required by live ones before, or the commit requires it, or it isn't managed
abbrev pub MayRequire : State → List ℕ → State → Type 0
MayRequire s n t = has (all_required t.catalog.live) n ≡ true
    → (has (all_required s.catalog.live) n ≡ true) ⊎ ((has (all_required t.catalog.commit.segments) n ≡ true) ⊎ (has t.managed n ≡ false))

-- no managed name is one of a segment that comes
unmanaged : (s : State) (id n : List ℕ) → is_in_use s.catalog s.managed id ≡ false → Begins id n → has s.managed n ≡ false
unmanaged s id n free begins =
    false_from_ne_true _ (λ managed.
    true≢false (sym (begins_named s.managed id n begins managed) ∙ unnamed (is_some (live_at s.catalog id)) (is_some (at s.catalog.commit.segments id)) (is_named s.managed id) free))

moved : (s : State) (id : List ℕ) (segment : LiveSegment) (n : List ℕ) → SegmentMove s id segment → MayRequire s n (record s { catalog = with_live s.catalog id segment })
moved s id segment n (IsNew free) needed =
    by_one (has (required_names id fresh_segment) n) (has (all_required s.catalog.live) n) (required_put s.catalog.live id fresh_segment n needed)
    (λ own. inr (inr (unmanaged s id n free (required_begins (id, fresh_segment) n own)))) inl
moved s id segment n (HasDocs count old there none) needed =
    by_one (has (required_names id old) n) (has (all_required s.catalog.live) n) (required_put s.catalog.live id (record old { max_doc = count }) n needed)
    (λ own. inl (required_found s.catalog.live id old n there own)) inl

-- the delete file of new deletes has a name that isn't managed
deleted : (s : State) (id : List ℕ) (m : ℕ) (segment : LiveSegment) (n : List ℕ) → MayDelete s id m segment → MayRequire s n (having_deleted_docs s id m segment).1
deleted s id m segment n may needed =
    let new = Some (next_deletes s.catalog m) in
    by_one (has (required_names id (record segment { deletes = new })) n) (has (all_required s.catalog.live) n) (required_put s.catalog.live id (record segment { deletes = new }) n needed)
    (λ own.
    by_one (is (name_of id new Delete) n) (has (required_names id segment) n) (required_deleted id segment new n own)
    (λ same. inr (inr (subst (λ (x : List ℕ). has s.managed x ≡ false) (is_text (name_of id new Delete) n same) may.fresh)))
    (λ old. inl (required_found s.catalog.live id segment n may.there old))) inl

required_changes : (s : State) (event : Event) (n : List ℕ) → OfEachChange (MayRequire s n) s event
required_changes s event n = record {
  same = inl;
  lives = λ id segment move. moved s id segment n move;
  reads = λ now move. inl;
  opens = λ id segment component e there absent. inl;
  puts = λ name body file e good. inl;
  commits = λ payload ids last e. inl;
  collects = λ outcomes free. inl;
  releases = λ id segment needed. inl (required_left (is_at (byte_cmp id)) s.catalog.live n needed);
  deletes = λ id m segment may. deleted s id m segment n may;
  begins = λ free. inl;
  tries = λ number c name left is_done step there e. inl;
  finishes = λ number c e there. inl;
  reopens = λ e needed. inr (inl needed);
}

pub required_step : (s : State) (event : Event) (outcomes : List Bool) (n : List ℕ) → MayRequire s n (step s event outcomes).1
required_step s event outcomes n = step_changes (MayRequire s n) s event outcomes (required_changes s event n)
