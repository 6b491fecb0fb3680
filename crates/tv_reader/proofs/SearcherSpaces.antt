-- What several segments take, one segment further.
use Rattle.std.proofs.Common.{◌≡◌, ℕ, ◌+◌, ◌<◌, List, [], ◌∷◌, ◌++◌, length, take, get_or, sym, ap, subst, ◌∙◌}
use Rattle.std.proofs.lemmas.List.{take_more}
use Rattle.tv_framing.specs.Segments.{SegmentSpace}
use Rattle.tv_reader.specs.Searchers.{AreSpaces}
use Rattle.tv_reader.specs.Segments.{SegmentShown}
use Rattle.tv_reader.specs.Spaces.{IsSpaceOf}

spaces_push : (names : List (List ℕ)) (segments : List SegmentShown) (spaces : List SegmentSpace) (shown : SegmentShown) (space : SegmentSpace) → AreSpaces names segments spaces → IsSpaceOf names shown space → AreSpaces names (segments ++ shown ∷ []) (spaces ++ space ∷ [])
spaces_push names [] [] shown space h here = (here, tt)
spaces_push names [] (s ∷ spaces) shown space h here = absurd h
spaces_push names (x ∷ segments) [] shown space h here = absurd h
spaces_push names (x ∷ segments) (s ∷ spaces) shown space h here = (h.0, spaces_push names segments spaces shown space h.1 here)

pub spaces_more : (names : List (List ℕ)) (segments : List SegmentShown) (i : ℕ) (shown : SegmentShown) (spaces new : List SegmentSpace) (space : SegmentSpace) → i < length segments → shown ≡ get_or segments i shown
    → AreSpaces names (take i segments) spaces → IsSpaceOf names shown space → new ≡ spaces ++ space ∷ [] → AreSpaces names (take (i + 1) segments) new
spaces_more names segments i shown spaces new space lt item h here is =
    let front : take i segments ++ shown ∷ [] ≡ take (i + 1) segments = sym (take_more segments i shown lt ∙ ap (λ (s : SegmentShown). take i segments ++ s ∷ []) (sym item)) in
    subst (λ (l : List SegmentShown). AreSpaces names l new) front
    (subst (AreSpaces names (take i segments ++ shown ∷ [])) (sym is) (spaces_push names (take i segments) spaces shown space h here))
