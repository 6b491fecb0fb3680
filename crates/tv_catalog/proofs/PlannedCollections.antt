-- The plans of the events that collect files.
use Rattle.std.proofs.Common.{◌≡◌, ◌≤◌, ◌++◌, ◌∷◌, ◌&&◌, [], ℕ, Bool, true, false, cond, not, List, length, codes, refl, sym, ap, ◌∙◌}
use Rattle.tv_formats.specs.Collections.{collectable, done_of, failed_of, held, with_begun}
use Rattle.std.specs.Fmt.{decimal}
use Rattle.std.specs.List.{list_all}
use Rattle.tv_formats.proofs.NoFeeds.{no_feed_plain}
use Rattle.tv_formats.proofs.PlainNames.{both}
use Rattle.tv_formats.specs.Files.{has_no_feed}
use Rattle.tv_formats.specs.Names.{has, is_plain}
use Rattle.tv_machine.specs.CollectionEvents.{collected_line, garbage, gc_begin_step, gc_step, without_files}
use Rattle.tv_events.specs.AnswerLines.{line}
use Rattle.tv_machine.specs.Living.{is_busy, living}
use Rattle.tv_machine.specs.State.{State}
use Rattle.tv_catalog.proofs.AnswerRoom.{collected_fits}
use Rattle.tv_catalog.proofs.SharedLaws.{same_collectable, same_needs}
use Rattle.tv_catalog.specs.Actions.{line_of, taken_beside}
use Rattle.tv_catalog.specs.declared.action.Reply.{Reply}
use Rattle.tv_catalog.specs.declared.action.Reply.TheVariants as replies

-- what is collected beside the living names is what nothing needs
pub planned_gc : (s : State) (names : List (List ℕ)) (deletes : List Bool) → is_busy s.catalog ≡ false → ((n : List ℕ) → has names n ≡ has (living s.catalog) n)
    → gc_step s deletes ≡ (collected_line (done_of (taken_beside names s) deletes) (failed_of (taken_beside names s) deletes), without_files s (done_of (taken_beside names s) deletes))
planned_gc s names deletes free needs =
    let same : taken_beside names s ≡ garbage s = same_collectable (names ++ held s.collections) (living s.catalog ++ held s.collections) s.managed (same_needs names s.collections s.collections s.catalog refl needs) in
    rw (free, same) refl

-- its line has room where that of all managed names has
pub gc_fits : (needed managed : List (List ℕ)) (told : List ℕ) (deletes : List Bool) (reply : Reply)
    → reply ≡ replies.Collected (record { deleted = done_of (collectable needed managed) deletes; failed = failed_of (collectable needed managed) deletes }) → length (line_of told reply) ≤ length (line (codes "gc deleted failed") managed)
gc_fits needed managed told deletes reply is = rw is (collected_fits needed managed deletes)

-- what is taken of plain names is plain
pub taken_plain : (needed managed : List (List ℕ)) → list_all is_plain managed ≡ true → list_all is_plain (collectable needed managed) ≡ true
taken_plain needed [] h = refl
taken_plain needed (name ∷ managed) h =
    let parts = both (is_plain name) (list_all is_plain managed) h in
    elim (has needed name) as (λ b. list_all is_plain (cond (not b) (name ∷ collectable needed managed) (collectable needed managed)) ≡ true) [
      | true ↦ taken_plain needed managed parts.1
      | false ↦ ap (λ (b : Bool). b && list_all is_plain (collectable needed managed)) parts.0 ∙ taken_plain needed managed parts.1
    ]

-- the first of some plain names has no line feed
pub first_plain_name : (names rest : List (List ℕ)) (name : List ℕ) → names ≡ name ∷ rest → list_all is_plain names ≡ true → (has_no_feed name ≡ true) × (list_all is_plain rest ≡ true)
first_plain_name names rest name e h =
    let parts = both (is_plain name) (list_all is_plain rest) (sym (ap (list_all is_plain) e) ∙ h) in
    (no_feed_plain name parts.0, parts.1)

-- a collection that begins takes what nothing needs
pub planned_begin : (s : State) (names : List (List ℕ)) (told : List ℕ) → is_busy s.catalog ≡ false → ((n : List ℕ) → has names n ≡ has (living s.catalog) n) → told ≡ line (codes "gc") (decimal s.collections.next ∷ taken_beside names s)
    → gc_begin_step s ≡ (told, record s { collections = with_begun s.collections (taken_beside names s) })
planned_begin s names told free needs is =
    let same : taken_beside names s ≡ garbage s = same_collectable (names ++ held s.collections) (living s.catalog ++ held s.collections) s.managed (same_needs names s.collections s.collections s.catalog refl needs) in
    rw (free, is, same) refl
