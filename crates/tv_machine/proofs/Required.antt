-- The files that segments require, from event to event.
use Rattle.std.proofs.Common.{◌≡◌, ℕ, true, true≢false, List, [], ◌∷◌, ◌++◌, length, Option, sym, ap, ◌∙◌, arith, length-append}
use Rattle.std.specs.List.{AllByRecursion}
use Rattle.hex.specs.Hex.{encode_lower, lower_digits}
use Rattle.hex.proofs.HexLemmas.{length-encode_with}
use Rattle.tv_formats.specs.declared.segment.DeleteMeta.{DeleteMeta}
use Rattle.tv_formats.specs.declared.segment.LiveSegment.{LiveSegment}
use Rattle.tv_formats.specs.declared.segment.SegmentComponent.{SegmentComponent}
use Rattle.tv_formats.specs.Names.{has}
use Rattle.tv_formats.specs.Ids.{IsId}
use Rattle.tv_formats.specs.Segments.{name_of, required_names, all_required}
use Rattle.tv_formats.specs.Commits.{IsSegment}
use Rattle.tv_machine.specs.Index.{IsFileOf}
use Rattle.tv_formats.proofs.PlainNames.{undotted}
use Rattle.tv_formats.proofs.CollectedNames.{has_append}
use Rattle.tv_formats.proofs.Required.{Begins, name_begins, by_one, required_begins}

-- a name that begins with an id is that of a file of the machine
after_id : (id rest : List ℕ) → IsId id → IsFileOf (encode_lower id ++ rest)
after_id id rest h = (
  undotted id rest h.size,
  λ e.
      let long : length (encode_lower id ++ rest) ≡ 9 = ap length e in
      absurd (omega (arith, length-append (encode_lower id) rest, length-encode_with lower_digits id, h.size)),
)

begins_is_file : (id n : List ℕ) → IsId id → Begins id n → IsFileOf n
begins_is_file id n h b = rw b.1 (after_id id b.0 h)

pub name_is_file : (id : List ℕ) (deletes : Option DeleteMeta) (component : SegmentComponent) → IsId id → IsFileOf (name_of id deletes component)
name_is_file id deletes component h = begins_is_file id (name_of id deletes component) h (name_begins id deletes component)

-- so is each name that segments require
pub required_is_file : (segments : List (List ℕ × LiveSegment)) (n : List ℕ) → AllByRecursion IsSegment segments → has (all_required segments) n ≡ true → IsFileOf n
required_is_file [] n all h = absurd (true≢false (sym h))
required_is_file (e ∷ segments) n all h =
    by_one (has (required_names e.0 e.1) n) (has (all_required segments) n) (sym (has_append (required_names e.0 e.1) (all_required segments) n) ∙ h)
    (λ first. begins_is_file e.0 n all.0.id (required_begins e n first)) (required_is_file segments n all.1)
