use Rattle.std.proofs.Common.{rules, ◌≡◌, Bool, true, cond, List, [], ◌∷◌, ◌++◌, map, ap, sym, ◌∙◌}
use Rattle.std.proofs.lemmas.List.{map_push}
use Rattle.tv_registers.specs.Registers.{EntryState}
use Rattle.tv_catalog.specs.Choosing.{is_within}
use Rattle.tv_catalog.proofs.ChosenSegments.{Entry}
use Rattle.tv_catalog.proofs.registers.Registers.add.Goals as goal

pub returns : goal.returns
returns c =
    let segments = c.args.self.now in
    let this : Entry = (c.args.id, c.args.segment) in
    let before : List EntryState = c.self.inside.entries.items in
    let pushed : c.push.new.self.items ≡ before ++ c.new.result ∷ [] = search rules in
    let sound : is_within c.args.segment ≡ true = search rules in
    record {
      added =
          ap (map (λ e. e.meta.1)) pushed
          ∙ map_push (λ e. e.meta.1) before c.new.result
          ∙ ap (λ (es : List Entry). es ++ c.new.result.meta.1 ∷ []) c.self.view_is
          ∙ ap (λ (e : Entry). segments ++ e ∷ []) (ap (λ (e : EntryState). e.meta.1) c.new.ensures ∙ c.in_ok-meta.ensures.ok.same)
          ∙ sym (ap (λ (b : Bool). cond b (segments ++ this ∷ []) segments) sound);
    }
