use Rattle.std.proofs.Common.{◌≡◌, List, ℕ, Option, Some, None, refl, true≢false, sym, ap, ◌∙◌}
use Rattle.std.specs.Prelude.{is_ok}
use Rattle.uuid.specs.Text.{parsed}
use Rattle.tv_formats.proofs.id.SegmentId.from_uuid_string.Goals as goal

none_unless : (o : Option (List ℕ)) → ((id : List ℕ) × (o ≡ Some id) → ⊥) → o ≡ None
none_unless None h = refl
none_unless (Some id) h = absurd (h (id, refl))

pub returns-in-Err : goal.returns-in-Err
returns-in-Err c = none_unless (parsed c.args.text.now) (λ h. true≢false (sym (c.parse_str.ensures.ok.1 h) ∙ ap is_ok c.in-Err.is))
