use Rattle.std.proofs.Common.{rules, ◌≡◌, ◌||◌, ◌∷◌, [], ℕ, List, map, arith, sym, ap, ◌∙◌}
use Rattle.std.proofs.lemmas.List.{map-append, map-id}
use Rattle.std.proofs.lemmas.Map.Iter.{iter_end}
use Rattle.tv_formats.specs.Names.{has}
use Rattle.tv_formats.proofs.CollectedNames.{has_append}
use Rattle.tv_formats.proofs.Entries.{has_put}
use Rattle.tv_store.proofs.Removals.{has_keys}
use Rattle.tv_store.proofs.files_collecting.leave_all.Goals as goal

pub loop-name-preserved : goal.loop-name-preserved
loop-name-preserved g c = record {
  next = tt;
  finite = tt;
  names = λ n.
      grind (
        arith,
        ap (λ (ks : List (List ℕ)). has ks n) c.in_ok-insert.ensures.keys,
        has_put c.loop-name.set.keys c.in-Some.name n,
        c.loop-name.invariant.names n,
        ap (λ (ks : List (List ℕ)). has ks n) (map-append (λ e. e.0) c.loop-name.yielded ((c.in-Some.name, c.in-Some._entry) ∷ [])),
        has_append (map (λ e. e.0) c.loop-name.yielded) (c.in-Some.name ∷ []) n,
      );
}

pub returns : goal.returns
returns g c n =
    let shown : map (λ e. e) c.loop-name.yielded ≡ c.args.map.entries = search (rules, iter_end) in
    let all = sym (map-id c.loop-name.yielded) ∙ shown in
    c.loop-name.invariant.names n ∙ ap (λ es. has c.args.set.now.keys n || has (map (λ e. e.0) es) n) all ∙ ap (λ b. has c.args.set.now.keys n || b) (has_keys c.args.map.entries n)
