use Rattle.std.proofs.Common.{◌≡◌, Bool, true, false, List, ℕ, codes, map, refl, sym, ◌∙◌}
use Rattle.std.specs.Cmp.Lexicographic.{bytes_decides}
use Rattle.tv_formats.specs.Names.{is}
use Rattle.tv_script.specs.EventWords.{event_by, segment_event_by}
use Rattle.tv_script.proofs.script.event_by_keyword.Goals as goal

other : (word name : List ℕ) → (word ≡ name → ⊥) → is word name ≡ false
other word name apart = by (is word name) refl where
  by : (b : Bool) → is word name ≡ b → b ≡ false
  by true e = absurd (apart ((bytes_decides word name).0 e))
  by false e = refl

neither : (word : List ℕ) (words : List (List ℕ)) → (word ≡ codes "write" → ⊥) → (word ≡ codes "commit" → ⊥) → event_by word words ≡ segment_event_by word words
neither word words write commit = rw (other word (codes "write") write, other word (codes "commit") commit) refl

pub returns-in_default : goal.returns-in_default
returns-in_default c = c.segment_event_of.ensures ∙ sym (neither c.args.keyword.now (map (λ w. w.now) c.args.words.now) c.in_default.not-write c.in_default.not-commit)
