-- The files of a commit: one segment further.
use Rattle.std.proofs.Common.{◌≡◌, ℕ, ◌+◌, ◌<◌, List, [], ◌∷◌, ◌++◌, length, map, take, drop, get_or, refl, sym, ap, subst, ◌∙◌, append_assoc}
use Rattle.std.specs.List.{AllByRecursion, flat_map}
use Rattle.std.proofs.lemmas.List.{drop_more, map-append, take-append-drop, take_more}
use Rattle.tv_formats.specs.declared.segment.LiveSegment.{LiveSegment}
use Rattle.tv_formats.specs.Files.{Reads, Same}
use Rattle.tv_formats.specs.Segments.{all_required, required_names}
use Rattle.tv_metas.specs.declared.segment_meta.InnerSegmentMeta.{InnerSegmentMeta}
use Rattle.tv_metas.specs.Segments.{entry_of}
use Rattle.tv_reader.specs.Bodies.{IsRead, ReadBodies, shown_entry}
use Rattle.tv_reader.specs.ReadLaws.{reads_append, reads_back}
use Rattle.tv_reader.specs.Segments.{SegmentShown}

-- the files of segments that were read, in a row
pub all_read : (reads : Reads) (shown : List SegmentShown) → AllByRecursion (IsRead reads) shown
    → ReadBodies reads (all_required (map shown_entry shown)) (flat_map (λ s. s.bodies) shown)
all_read reads [] h = tt
all_read reads (s ∷ shown) h = reads_append reads (required_names s.id s.segment) s.bodies _ _ h.0 (all_read reads shown h.1)

all_push : {X : Type 0} (P : X → Type 0) (xs : List X) (x : X) → AllByRecursion P xs → P x → AllByRecursion P (xs ++ x ∷ [])
all_push P [] x h here = (here, tt)
all_push P (y ∷ xs) x h here = (h.0, all_push P xs x h.1 here)

-- one segment more was read
pub segment_more : (first now : Reads) (done new : List SegmentShown) (shown : SegmentShown) (id : List ℕ) (live : LiveSegment) → Same first now → shown.id ≡ id → shown.segment ≡ live
    → new ≡ done ++ shown ∷ [] → ReadBodies now (required_names id live) shown.bodies → AllByRecursion (IsRead first) done → AllByRecursion (IsRead first) new
segment_more first now done new shown id live same named known is here h =
    subst (AllByRecursion (IsRead first)) (sym is) (all_push (IsRead first) done shown h (reads_back first now same (required_names shown.id shown.segment) shown.bodies
    (subst (λ (i : List ℕ). ReadBodies now (required_names i shown.segment) shown.bodies) (sym named) (subst (λ (l : LiveSegment). ReadBodies now (required_names id l) shown.bodies) (sym known) here))))

required_more : (before : List (List ℕ × LiveSegment)) (e : List ℕ × LiveSegment) (after : List (List ℕ × LiveSegment)) → all_required (before ++ e ∷ after) ≡ all_required before ++ (required_names e.0 e.1 ++ all_required after)
required_more [] e after = refl
required_more (x ∷ before) e after =
    ap (λ l. required_names x.0 x.1 ++ l) (required_more before e after)
    ∙ sym (append_assoc (required_names x.0 x.1) (all_required before) (required_names e.0 e.1 ++ all_required after))

-- the files of a commit are those of the segments that were read, of one more, and of the rest
pub required_split : (segments : List InnerSegmentMeta) (i : ℕ) (x : InnerSegmentMeta) (live : LiveSegment) (done : List SegmentShown) → i < length segments → x ≡ get_or segments i x → live ≡ (entry_of x).1
    → map shown_entry done ≡ map entry_of (take i segments)
    → all_required (map entry_of segments) ≡ all_required (map shown_entry done) ++ (required_names x.segment_id live ++ all_required (map entry_of (drop (i + 1) segments)))
required_split segments i x live done within at known is =
    let y : InnerSegmentMeta = get_or segments i x in
    let rest : List (List ℕ) = all_required (map entry_of (drop (i + 1) segments)) in
    let split : segments ≡ take i segments ++ y ∷ drop (i + 1) segments = sym (take-append-drop i segments) ∙ ap (λ (l : List InnerSegmentMeta). take i segments ++ l) (drop_more segments i x within) in
    ap (λ (l : List InnerSegmentMeta). all_required (map entry_of l)) split
    ∙ (ap all_required (map-append entry_of (take i segments) (y ∷ drop (i + 1) segments))
    ∙ (required_more (map entry_of (take i segments)) (entry_of y) (map entry_of (drop (i + 1) segments))
    ∙ (ap (λ (l : List (List ℕ × LiveSegment)). all_required l ++ (required_names y.segment_id (entry_of y).1 ++ rest)) (sym is)
    ∙ (ap (λ (z : InnerSegmentMeta). all_required (map shown_entry done) ++ (required_names z.segment_id (entry_of z).1 ++ rest)) (sym at)
    ∙ ap (λ (l : LiveSegment). all_required (map shown_entry done) ++ (required_names x.segment_id l ++ rest)) (sym known)))))

-- one segment more is as the commit has it
pub entries_more : (segments : List InnerSegmentMeta) (i : ℕ) (x : InnerSegmentMeta) (live : LiveSegment) (done new : List SegmentShown) (shown : SegmentShown) → i < length segments → x ≡ get_or segments i x → live ≡ (entry_of x).1
    → shown.id ≡ x.segment_id → shown.segment ≡ live → new ≡ done ++ shown ∷ [] → map shown_entry done ≡ map entry_of (take i segments) → map shown_entry new ≡ map entry_of (take (i + 1) segments)
entries_more segments i x live done new shown within at known named same is h =
    let entry : shown_entry shown ≡ entry_of x = ap {B = List ℕ × LiveSegment} (λ (a : List ℕ). (a, shown.segment)) named ∙ ap {B = List ℕ × LiveSegment} (λ (b : LiveSegment). (x.segment_id, b)) (same ∙ known) in
    let front : take i segments ++ x ∷ [] ≡ take (i + 1) segments = sym (take_more segments i x within ∙ ap (λ (y : InnerSegmentMeta). take i segments ++ y ∷ []) (sym at)) in
    ap (map shown_entry) is
    ∙ (map-append shown_entry done (shown ∷ [])
    ∙ (ap (λ (l : List (List ℕ × LiveSegment)). l ++ shown_entry shown ∷ []) h
    ∙ (ap (λ (e : List ℕ × LiveSegment). map entry_of (take i segments) ++ e ∷ []) entry
    ∙ (sym (map-append entry_of (take i segments) (x ∷ [])) ∙ ap (map entry_of) front))))
