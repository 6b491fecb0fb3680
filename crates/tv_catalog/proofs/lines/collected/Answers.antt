use Rattle.std.proofs.Common.{arith, ◌≡◌, ◌≤◌, ◌+◌, ◌++◌, ◌∷◌, [], ℕ, List, length, codes, ap, ◌∙◌, vec_len, vec_capacity}
use Rattle.tv_machine.specs.CollectionEvents.{collected_line}
use Rattle.tv_events.specs.AnswerLines.{line}
use Rattle.tv_catalog.proofs.AnswerRoom.{begun_fits, parts_fit, written_line}
use Rattle.tv_catalog.proofs.lines.collected.Goals as goal

pub unwrap-requires : goal.unwrap-requires
unwrap-requires c =
    let done = c.args.done.now in
    let start : 10 ≤ length (line (codes "gc deleted") done) = begun_fits (codes "gc deleted") done in
    let fits : vec_len c.clear.new.self + 10 ≤ vec_capacity c.clear.new.self = omega (arith, start, (parts_fit done c.args.failed.now).1, c.requires, c.clear.ensures.len, c.clear.ensures.capacity) in
    c.extend_from_slice.ensures.succeeds fits

pub push_word-requires : goal.push_word-requires
push_word-requires c =
    let done = c.args.done.now in
    let none : c.clear.new.self.items ≡ [] = c.clear.ensures.items in
    let start : c.extend_from_slice.new.self.items ≡ c.clear.new.self.items ++ codes "gc deleted" = rw c.unwrap.ensures at c.extend_from_slice.ensures.items in
    let first : c.push_names.new.text.items ≡ line (codes "gc deleted") done =
    c.push_names.ensures.line ∙ ap (λ (t : List ℕ). line t done) (start ∙ ap (λ (t : List ℕ). t ++ codes "gc deleted") none) in
    let fits : length (c.push_names.new.text.items ++ 32 ∷ codes "failed") ≤ vec_capacity c.push_names.new.text =
    omega (
      arith,
      ap (λ (t : List ℕ). length (t ++ 32 ∷ codes "failed")) first,
      (parts_fit done c.args.failed.now).0,
      c.requires,
      c.clear.ensures.capacity,
      c.extend_from_slice.ensures.capacity,
      c.push_names.ensures.room,
    ) in
    fits

pub push_names-requires-2-clause-room : goal.push_names-requires-2-clause-room
push_names-requires-2-clause-room c =
    let done = c.args.done.now in
    let failed = c.args.failed.now in
    let none : c.clear.new.self.items ≡ [] = c.clear.ensures.items in
    let start : c.extend_from_slice.new.self.items ≡ c.clear.new.self.items ++ codes "gc deleted" = rw c.unwrap.ensures at c.extend_from_slice.ensures.items in
    let first : c.push_names.new.text.items ≡ line (codes "gc deleted") done =
    c.push_names.ensures.line ∙ ap (λ (t : List ℕ). line t done) (start ∙ ap (λ (t : List ℕ). t ++ codes "gc deleted") none) in
    let second : c.push_word.new.text.items ≡ line (codes "gc deleted") done ++ 32 ∷ codes "failed" = c.push_word.ensures.word ∙ ap (λ (t : List ℕ). t ++ 32 ∷ codes "failed") first in
    let whole : line c.push_word.new.text.items failed ≡ collected_line done failed = ap (λ (t : List ℕ). line t failed) second ∙ written_line done failed in
    omega (
      arith,
      ap (λ (t : List ℕ). length t) whole,
      c.requires,
      c.clear.ensures.capacity,
      c.extend_from_slice.ensures.capacity,
      c.push_names.ensures.room,
      c.push_word.ensures.room,
    )

pub returns : goal.returns
returns c =
    let done = c.args.done.now in
    let failed = c.args.failed.now in
    let none : c.clear.new.self.items ≡ [] = c.clear.ensures.items in
    let start : c.extend_from_slice.new.self.items ≡ c.clear.new.self.items ++ codes "gc deleted" = rw c.unwrap.ensures at c.extend_from_slice.ensures.items in
    let first : c.push_names.new.text.items ≡ line (codes "gc deleted") done =
    c.push_names.ensures.line ∙ ap (λ (t : List ℕ). line t done) (start ∙ ap (λ (t : List ℕ). t ++ codes "gc deleted") none) in
    let second : c.push_word.new.text.items ≡ line (codes "gc deleted") done ++ 32 ∷ codes "failed" = c.push_word.ensures.word ∙ ap (λ (t : List ℕ). t ++ 32 ∷ codes "failed") first in
    c.from_bytes.ensures ∙ c.push_names-2.ensures.line ∙ ap (λ (t : List ℕ). line t failed) second ∙ written_line done failed
