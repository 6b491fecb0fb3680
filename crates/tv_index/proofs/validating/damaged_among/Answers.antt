use Rattle.std.proofs.Common.{◌<◌, ◌≤◌, ◌∙◌, ◌++◌, ◌∷◌, [], ℕ, List, Bool, Err, length, map, take, string_bytes, sym, ap, subst, arith}
use Rattle.std.proofs.lemmas.List.{take_all, take_more}
use Rattle.tv_formats.proofs.Results.{no_answer}
use Rattle.tv_base.specs.Errors.{of_open_read}
use Rattle.tv_base.specs.declared.error.TantivyError.TheVariants as errors
use Rattle.tv_managed.specs.Reading.{FooterFaults}
use Rattle.tv_managed.specs.TrackLaws.{keeps_then}
use Rattle.tv_device.specs.ViewLaws.{reads_then}
use Rattle.tv_index.specs.Checksums.{AreDamaged}
use Rattle.tv_index.proofs.Damages.{one_further, unread_cause, unread_faults}
use Rattle.tv_index.proofs.validating.damaged_among.Goals as goal

pub returns-in_err-is_right : goal.returns-in_err-is_right
returns-in_err-is_right g c =
    let D = g.D.Directory in
    let names = c.args.names.now in
    let so_far = c.loop-name.invariant in
    let asked = c.in_err-is_right.ensures in
    let within : c.loop-name.name-index < length c.args.names.now = omega arith in
    let why = c.in_err-is_right.field-0.0 in
    record {
      damaged = λ t. no_answer c.from_residual.result _ c.from_residual.ensures.0;
      faults =
          unread_faults D c.args.directory.now.0 c.validate_checksum.new.self.0 names c.from_residual.result (of_open_read why) c.from_residual.ensures.1
          (unread_cause D c.args.directory.now.0 c.loop-name.directory.0 c.validate_checksum.new.self.0 names (map string_bytes c.loop-name.damaged.keys) c.loop-name.name-index c.name-item.result
          so_far.frame.below so_far.quiet within c.name-item.is so_far.damaged why
          (subst (λ (n : List ℕ). FooterFaults {A = Bool} D c.loop-name.directory.0 c.validate_checksum.new.self.0 n (Err why)) c.as_str.ensures.text asked.faults));
      frame = record { names = asked.frame.names ∙ so_far.frame.names; below = reads_then so_far.frame.below asked.frame.below };
      images = λ t. keeps_then (so_far.images t) (asked.images t);
    }

pub returns-in_err-put_damaged : goal.returns-in_err-put_damaged
returns-in_err-put_damaged g c =
    let D = g.D.Directory in
    let so_far = c.loop-name.invariant in
    let asked = c.in_ok-is_right.ensures in
    let answer = c.from_residual-in_err-put_damaged in
    record {
      damaged = λ t. no_answer answer.result _ answer.ensures.0;
      faults = unread_faults D c.args.directory.now.0 c.validate_checksum.new.self.0 c.args.names.now answer.result errors.Memory answer.ensures.1 (asked.faults.quiet ∙ so_far.quiet);
      frame = record { names = asked.frame.names ∙ so_far.frame.names; below = reads_then so_far.frame.below asked.frame.below };
      images = λ t. keeps_then (so_far.images t) (asked.images t);
    }

pub returns : goal.returns
returns g c =
    let D = g.D.Directory in
    let names = c.args.names.now in
    let so_far = c.loop-name.invariant in
    let over : length c.args.names.now ≤ c.loop-name.name-index = omega arith in
    record {
      damaged = λ t.
          subst (λ (l : List (List ℕ)). AreDamaged (D.view c.args.directory.now.0).reads l (map string_bytes c.loop-name.damaged.keys))
          (take_all c.loop-name.name-index names over) (so_far.damaged t);
      faults = record { quiet = so_far.quiet; cause = tt };
      frame = so_far.frame;
      images = so_far.images;
    }

pub loop-name-preserved : goal.loop-name-preserved
loop-name-preserved g c =
    let D = g.D.Directory in
    let names = c.args.names.now in
    let i = c.loop-name.name-index in
    let name = c.name-item.result in
    let so_far = c.loop-name.invariant in
    let asked = c.in_ok-is_right.ensures in
    let within : c.loop-name.name-index < length c.args.names.now = omega arith in
    record {
      damaged = λ t.
          let r = asked.answer t in
          subst (λ (l : List (List ℕ)). AreDamaged (D.view c.args.directory.now.0).reads l (map string_bytes c.put_damaged.new.damaged.keys))
          (sym (take_more names i name within ∙ ap (λ (n : List ℕ). take i names ++ n ∷ []) (sym c.name-item.is)))
          (one_further (D.view c.args.directory.now.0).reads (take i names) (map string_bytes c.loop-name.damaged.keys) (map string_bytes c.put_damaged.new.damaged.keys) name c.in_ok-is_right.is_right
          c.in_ok-put_damaged.ensures
          (r.0, sym (so_far.frame.below.content t name) ∙ ap (D.view c.loop-name.directory.0).reads (sym c.as_str.ensures.text) ∙ r.1, r.2) (so_far.damaged t));
      frame = record { names = asked.frame.names ∙ so_far.frame.names; below = reads_then so_far.frame.below asked.frame.below };
      images = λ t. keeps_then (so_far.images t) (asked.images t);
      quiet = asked.faults.quiet ∙ so_far.quiet;
    }
