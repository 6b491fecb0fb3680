use Rattle.std.proofs.Common.{rules, ◌≡◌, ◌++◌, ℕ, true, List, [], map, option_map, ap, ap₂, ◌∙◌, append_assoc}
use Rattle.std.proofs.lemmas.Result.{IfOk-weaker}
use Rattle.json.specs.Print.{print}
use Rattle.json.specs.Token.{Token}
use Rattle.serde_json.specs.Written.{members_text}
use Rattle.tv_formats.specs.Commits.{last_members}
use Rattle.tv_formats.proofs.PrintedTrees.{front, front_print}
use Rattle.tv_metas.specs.Segments.{entry_of}
use Rattle.tv_metas.specs.Settings.{settings_view}
use Rattle.tv_metas.proofs.meta_text.print_meta.Goals as goal

pub returns : goal.returns
returns c =
    let settings = settings_view c.args.settings.now in
    let segments = map entry_of c.args.segments.now in
    let before : c.key-3.new.self.before ≡ [] = search rules in
    let tokens : c.key-3.new.self.tokens ≡ front settings segments =
    rw (
      c.in_ok-key-3.ensures.ok,
      c.in_ok-write_segments.ensures.1,
      c.in_ok-key-2.ensures.ok,
      c.in_ok-write_settings.ensures.1,
      c.in_ok-key.ensures.ok,
      c.in_ok-begin_object.ensures.ok,
      c.new-out.ensures.tokens,
    )
    (simp append_assoc) in
    record {
      text =
          IfOk-weaker c.ended.result _ _
          (λ text is. is
          ∙ ap (λ (l : List ℕ). l ++ members_text true (last_members c.args.opstamp (option_map (λ s. s.now) c.args.payload)))
          (c.in_ok-extend_from_slice.ensures.items
          ∙ ap₂ (λ (f s : List ℕ). f ++ s)
          (c.into_inner-text.ensures.items ∙ ap₂ (λ (b : List ℕ) (ts : List Token). b ++ print ts) before tokens ∙ front_print settings segments) c.text.ensures.text))
          c.ended.ensures;
    }
