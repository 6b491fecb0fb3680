-- An event is what its marks, its bytes and its ids say.
use Rattle.std.proofs.Common.{◌≡◌, ◌↔◌, IsTrue, Bool, true, false, true≢false, ◌&&◌, subst, ℕ, zero, suc, List, [], ◌∷◌, Option, Some, None, refl, sym, ap, ◌∙◌}
use Rattle.std.specs.List.{slice_get}
use Rattle.tv_events.specs.declared.event.Event.{Event}
use Rattle.tv_events.specs.declared.event.Event.TheVariants as events
use Rattle.tv_events.specs.declared.reload_policy.ReloadPolicy.TheVariants.{Manual}
use Rattle.tv_formats.specs.declared.segment.SegmentComponent.TheVariants.{Delete}
use Rattle.tv_histories.specs.declared.marks.Marks.{Marks}
use Rattle.tv_histories.specs.Marks.{marks_of, bytes_of, ids_of}

abbrev or_else : {A : Type 0} → A → Option A → A
or_else d None = d
or_else d (Some x) = x

abbrev payload_in : ℕ → List ℕ → Option (List ℕ)
payload_in zero text = None
payload_in (suc n) text = Some text

-- the event of these marks, bytes and ids
abbrev event_in : Marks → List ℕ → List (List ℕ) → Option Event
event_in m bytes ids =
    let id = or_else [] m.id in
    let component = or_else Delete m.component in
    slice_get (
    events.Segment id ∷ events.Open id component ∷ events.Write id component bytes ∷ events.Seal id component
    ∷ events.Docs id m.number ∷ events.Deletes id m.number ∷ events.Commit (payload_in m.number bytes) ids
    ∷ events.Gc ∷ events.GcBegin ∷ events.GcStep m.number ∷ events.GcEnd m.number
    ∷ events.Reader (or_else Manual m.policy) ∷ events.Reload m.number ∷ events.ReloadLock m.number
    ∷ events.ReloadOpen m.number ∷ events.ReloadPublish m.number ∷ events.Deliver ∷ events.Searcher m.number
    ∷ events.Show m.number ∷ events.Bytes m.number m.ord component ∷ events.ReleaseSegment id
    ∷ events.ReleaseReader m.number ∷ events.ReleaseSearcher m.number ∷ events.Managed ∷ events.Validate
    ∷ events.Reopen ∷ []
    ) m.kind

back_payload : (payload : Option (List ℕ)) (ids : List (List ℕ))
    → event_in (marks_of (events.Commit payload ids)) (bytes_of (events.Commit payload ids)) ids
    ≡ Some (events.Commit payload ids)
back_payload None ids = refl
back_payload (Some text) ids = refl

back : (e : Event) → event_in (marks_of e) (bytes_of e) (ids_of e) ≡ Some e
back (events.Segment id) = refl
back (events.Open id component) = refl
back (events.Write id component bytes) = refl
back (events.Seal id component) = refl
back (events.Docs id n) = refl
back (events.Deletes id n) = refl
back (events.Commit payload ids) = back_payload payload ids
back events.Gc = refl
back events.GcBegin = refl
back (events.GcStep number) = refl
back (events.GcEnd number) = refl
back (events.Reader policy) = refl
back (events.Reload number) = refl
back (events.ReloadLock number) = refl
back (events.ReloadOpen number) = refl
back (events.ReloadPublish number) = refl
back events.Deliver = refl
back (events.Searcher number) = refl
back (events.Show number) = refl
back (events.Bytes number ord component) = refl
back (events.ReleaseSegment id) = refl
back (events.ReleaseReader number) = refl
back (events.ReleaseSearcher number) = refl
back events.Managed = refl
back events.Validate = refl
back events.Reopen = refl

some_is : {A : Type 0} {x y : A} → Some x ≡ Some y → x ≡ y
some_is e = cc

-- two events are one where all of this is the same
pub one_event : (a b : Event) → marks_of a ≡ marks_of b → bytes_of a ≡ bytes_of b → ids_of a ≡ ids_of b
    → a ≡ b
one_event a b m x i =
    some_is (sym (back a)
    ∙ ap (λ (n : Marks). event_in n (bytes_of a) (ids_of a)) m
    ∙ ap (λ (t : List ℕ). event_in (marks_of b) t (ids_of a)) x
    ∙ ap (λ (t : List (List ℕ)). event_in (marks_of b) (bytes_of b) t) i
    ∙ back b)

-- whether all of this is the same says whether they are one
pub one_event_where : (a b : Event) (m x i : Bool) → (IsTrue m ↔ (marks_of a ≡ marks_of b))
    → (IsTrue x ↔ (bytes_of a ≡ bytes_of b)) → (IsTrue i ↔ (ids_of a ≡ ids_of b))
    → IsTrue (m && x && i) ↔ (a ≡ b)
one_event_where a b true true true m x i = (λ t. one_event a b (m.0 t) (x.0 t) (i.0 t), λ e. refl)
one_event_where a b true true false m x i =
    (λ t. absurd (true≢false (sym t)), λ e. i.1 (ap ids_of e))
one_event_where a b true false i' m x i =
    (λ t. absurd (true≢false (sym t)), λ e. x.1 (ap bytes_of e))
one_event_where a b false x' i' m x i =
    (λ t. absurd (true≢false (sym t)), λ e. m.1 (ap marks_of e))

-- the same, where these are the parts
pub one_event_by : (a b : Event) (r m x i : Bool) (ma mb : Marks) (xa xb : List ℕ) (ia ib : List (List ℕ))
    → r ≡ (m && x && i) → ma ≡ marks_of a → mb ≡ marks_of b → xa ≡ bytes_of a → xb ≡ bytes_of b
    → ia ≡ ids_of a → ib ≡ ids_of b → (IsTrue m ↔ (ma ≡ mb)) → (IsTrue x ↔ (xa ≡ xb))
    → (IsTrue i ↔ (ia ≡ ib)) → IsTrue r ↔ (a ≡ b)
one_event_by a b r m x i ma mb xa xb ia ib all ma_is mb_is xa_is xb_is ia_is ib_is by_m by_x by_i =
    subst (λ (q : Bool). IsTrue q ↔ (a ≡ b)) (sym all)
    (one_event_where a b m x i
    (λ t. sym ma_is ∙ by_m.0 t ∙ mb_is, λ e. by_m.1 (ma_is ∙ e ∙ sym mb_is))
    (λ t. sym xa_is ∙ by_x.0 t ∙ xb_is, λ e. by_x.1 (xa_is ∙ e ∙ sym xb_is))
    (λ t. sym ia_is ∙ by_i.0 t ∙ ib_is, λ e. by_i.1 (ia_is ∙ e ∙ sym ib_is)))
