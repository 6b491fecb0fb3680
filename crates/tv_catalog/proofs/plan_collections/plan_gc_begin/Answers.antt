use Rattle.std.proofs.Common.{cond, false, Bool, rules, arith, ◌≡◌, ◌++◌, ◌∷◌, [], ℕ, List, codes, decimal, length, true, map, string_bytes, inl, refl, sym, ap, subst, ◌∙◌}
use Rattle.std.specs.List.{list_all}
use Rattle.tv_formats.specs.Collections.{Collections, collectable, held}
use Rattle.tv_formats.specs.Names.{has, is_plain, meta_name}
use Rattle.tv_events.specs.AnswerLines.{line}
use Rattle.tv_machine.specs.Living.{is_busy, living}
use Rattle.tv_machine.specs.State.{Catalog, State}
use Rattle.tv_catalog.specs.Kept.{texts_of, kept_with}
use Rattle.tv_catalog.proofs.AnswerRoom.{taken_fits}
use Rattle.tv_catalog.proofs.PlannedCollections.{planned_begin, taken_plain}
use Rattle.tv_catalog.specs.Effects.{collection_after}
use Rattle.tv_catalog.specs.Exhausted.{SomePassesEnd}
use Rattle.tv_catalog.proofs.SharedLaws.{only_numbers}
use Rattle.tv_catalog.specs.Plans.{InMemory}
use Rattle.tv_catalog.proofs.plan_collections.plan_gc_begin.Goals as goal

pub push_texts-requires-clause-room : goal.push_texts-requires-clause-room
push_texts-requires-clause-room g c =
    let files = g.K.KnownFiles.known c.args.files.now in
    let needed = map string_bytes c.in_ok-living.living.keys ++ held files.collections in
    let names : texts_of c.as_slice.result.now ≡ collectable needed files.managed = ap texts_of c.as_slice.ensures.value ∙ c.in_ok-names.ensures in
    let answer = c.in_ok-answer.answer in
    let made = c.in_ok-line.line in
    omega (
      arith,
      taken_fits answer needed files.managed,
      ap (λ (ns : List (List ℕ)). length (line made.items ns)) names,
      ap (λ (t : List ℕ). length (line t (collectable needed files.managed))) c.in_ok-line.ensures.line,
      ap (λ (ns : List (List ℕ)). length (line answer ns)) c.managed.ensures.names,
      c.in_ok-line.ensures.room,
    )

pub push_texts-requires-clause-plain : goal.push_texts-requires-clause-plain
push_texts-requires-clause-plain g c =
    let files = g.K.KnownFiles.known c.args.files.now in
    let needed = map string_bytes c.in_ok-living.living.keys ++ held files.collections in
    let names : texts_of c.as_slice.result.now ≡ collectable needed files.managed = ap texts_of c.as_slice.ensures.value ∙ c.in_ok-names.ensures in
    subst (λ (ns : List (List ℕ)). list_all is_plain ns ≡ true) (sym names) (taken_plain needed files.managed c.managed.ensures.plain)

pub returns-clause-plans : goal.returns-clause-plans
returns-clause-plans g c =
    let files = g.K.KnownFiles.known c.args.files.now in
    let kept = kept_with c.args.catalog.now files in
    let living_names = map string_bytes c.in_ok-living.living.keys in
    let names : texts_of c.as_slice.result.now ≡ collectable (living_names ++ held files.collections) files.managed = ap texts_of c.as_slice.ensures.value ∙ c.in_ok-names.ensures in
    let needs : (s : State) → InMemory kept s → (n : List ℕ) → has living_names n ≡ has (living s.catalog) n = λ s m n. c.in_ok-living.ensures n ∙ ap (λ (k : Catalog). has (living k) n) m.catalog in
    let told : c.push_texts.new.text.items ≡ line (codes "gc") (decimal files.collections.next ∷ collectable (living_names ++ held files.collections) files.managed) =
    c.push_texts.ensures.line ∙ ap (line c.in_ok-line.line.items) names
    ∙ ap (λ (t : List ℕ). line t (collectable (living_names ++ held files.collections) files.managed)) (c.in_ok-line.ensures.line ∙ c.in_ok-answer.ensures ∙ ap (λ (n : ℕ). line (codes "gc") (decimal n ∷ [])) c.next_collection.ensures) in
    let free : is_busy kept.catalog ≡ false = sym c.is_busy.ensures ∙ c.if-is_busy.false in
    record {
      steps = λ s m deletes.
          planned_begin s living_names c.push_texts.new.text.items (ap is_busy (sym m.catalog) ∙ free) (needs s m)
          (told ∙ ap (λ (k : Collections). line (codes "gc") (decimal k.next ∷ collectable (living_names ++ held k) files.managed)) m.collections
          ∙ ap (λ (ns : List (List ℕ)). line (codes "gc") (decimal s.collections.next ∷ collectable (living_names ++ held s.collections) ns)) m.managed);
      suits = needs;
      ready = c.in_ok-living.ensures meta_name;
      change = tt;
      segments = λ s m reply. search rules;
      beside = inl refl;
      feed = c.push_texts.ensures.feed;
      room = search rules;
      adds = search rules;
      numbers = search rules;
      changes = search rules;
      locks = λ takes. free;
      unlocked = λ takes. tt;
      loads = λ s m. refl;
      keeps = λ reply gives. refl;
      sure = inl refl;
      saves = tt;
      fits = λ spent. subst (λ (b : Bool). SomePassesEnd (cond b [] (collection_after kept.collections))) free (only_numbers spent);
      spends = λ spent. inl (subst (λ (b : Bool). SomePassesEnd (cond b [] (collection_after kept.collections))) (sym free) spent);
    }
