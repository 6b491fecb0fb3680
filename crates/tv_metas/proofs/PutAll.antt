-- Entries that are put one after the other stand in the order of their ids.
use Rattle.std.proofs.Common.{◌≡◌, ℕ, List, [], ◌∷◌, ◌++◌, Option, sym, ap, ◌∙◌, subst, append-nil}
use Rattle.std.specs.Prelude.{IsPermutation}
use Rattle.std.specs.BTreeMap.{insert_entry}
use Rattle.std.proofs.lemmas.List.Sorted.{IsPermutation-sym, IsPermutation-trans}
use Rattle.tv_formats.specs.Names.{byte_cmp}
use Rattle.tv_formats.specs.Commits.{Commit}
use Rattle.tv_formats.proofs.OneMeaning.{one_permutation}
use Rattle.tv_metas.specs.TrackedMetas.{IsInOrder, put_all}
use Rattle.tv_metas.proofs.InOrder.{Entry, InIdOrder, in_order_put, stands_once}
use Rattle.tv_metas.proofs.SegmentForms.{moved, no_order}

put_after : (es found all : List Entry) → InIdOrder found → IsPermutation (found ++ es) all → InIdOrder all → put_all found es ≡ all
put_after [] found all o h u = one_permutation found all o u (subst (λ (l : List Entry). IsPermutation l all) (append-nil found) h)
put_after (e ∷ es) found all o h u =
    put_after es (insert_entry byte_cmp found e.0 e.1) all (in_order_put found e.0 e.1 o)
    (IsPermutation-trans (insert_entry byte_cmp found e.0 e.1 ++ es) (found ++ e ∷ es) all
    (IsPermutation-sym (found ++ e ∷ es) (insert_entry byte_cmp found e.0 e.1 ++ es) (moved found es e (stands_once found e es all h u))) h) u

pub in_order_all : (es all : List Entry) → IsPermutation es all → InIdOrder all → put_all [] es ≡ all
in_order_all es all h u = put_after es [] all no_order h u

-- so that they are the segments of the commit that is in order
abbrev with_parts : ℕ → Option (List ℕ) → List Entry → Commit
with_parts opstamp payload segments = record { opstamp = opstamp; payload = payload; segments = segments }

pub ordered_commit : (commit ordered : Commit) (segments : List Entry) → IsInOrder commit ordered → segments ≡ put_all [] commit.segments
    → record { opstamp = commit.opstamp; payload = commit.payload; segments = segments } ≡ ordered
ordered_commit commit ordered segments h is =
    ap (λ (n : ℕ). with_parts n commit.payload segments) (sym h.opstamp)
    ∙ ap (λ (p : Option (List ℕ)). with_parts ordered.opstamp p segments) (sym h.payload)
    ∙ ap (λ (es : List Entry). with_parts ordered.opstamp ordered.payload es) (is ∙ in_order_all commit.segments ordered.segments h.same h.sorted)
