-- The names that are read of fields are those that they have.
use Rattle.std.proofs.Common.{◌≡◌, ℕ, List, [], ◌∷◌, codes, Some, option_map, refl, ap, subst}
use Rattle.std.specs.Prelude.{is_some}
use Rattle.serde_json.specs.Data.{Items, no_items, item}
use Rattle.serde_json.specs.Find.{as_str}
use Rattle.tv_formats.specs.JsonFields.{field}
use Rattle.tv_formats.specs.Schemas.{AreFields}
use Rattle.tv_formats.proofs.Options.{and_then_some, some_value}
use Rattle.tv_metas.specs.SchemaReading.{names_in}
use Rattle.tv_metas.proofs.Options.{and_then_is, map_some}

pub fields_to : (ds : Items) (names : List (List ℕ)) → names_in ds ≡ Some names → AreFields ds names
fields_to no_items names h = let e : [] ≡ names = cc in subst (AreFields no_items) e tt
fields_to (item d ds) names h =
    let a = and_then_some _ (field as_str (codes "name") d) names h in
    let b = and_then_some _ (field as_str (codes "type") d) names a.2 in
    let c = map_some _ (names_in ds) names b.2 in
    subst (AreFields (item d ds)) c.2 (a.1, ap is_some b.1, fields_to ds c.0 c.1)

pub fields_back : (ds : Items) (names : List (List ℕ)) → AreFields ds names → names_in ds ≡ Some names
fields_back no_items [] h = refl
fields_back no_items (name ∷ names) h = absurd h
fields_back (item d ds) [] h = absurd h
fields_back (item d ds) (name ∷ names) h =
    let t = some_value (field as_str (codes "type") d) h.1 in
    and_then_is _ (field as_str (codes "name") d) name (Some (name ∷ names)) h.0
    (and_then_is _ (field as_str (codes "type") d) t.0 (Some (name ∷ names)) t.1
    (ap (option_map (λ (rest : List (List ℕ)). name ∷ rest)) (fields_back ds names h.2)))
