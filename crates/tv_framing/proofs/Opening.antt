-- What is found in a composite file.
use Rattle.std.proofs.Common.{◌≡◌, ◌≤◌, ◌<◌, ◌^◌, ℕ, List, [], ◌∷◌, ◌++◌, length, take, Option, Some, option_map, Vec, Global, sym, ap, subst, ◌∙◌, arith, length-append}
use Rattle.std.proofs.lemmas.List.{length-take-le, take_at}
use Rattle.tv_formats.specs.Footer.{four_bytes}
use Rattle.tv_formats.specs.VInt.{vint}
use Rattle.tv_framing.specs.declared.entries.PartEntry.{PartEntry}
use Rattle.tv_framing.specs.declared.starts.Start.{Start}
use Rattle.tv_framing.specs.Composite.{Part, AreDistinct, IsComposite, addresses, bodies, footing, listed}
use Rattle.tv_framing.specs.Entries.{IsLayout, entries_text, entry_text, starts_after}
use Rattle.tv_framing.specs.Fitting.{AreListed, SpellsEntries}
use Rattle.tv_framing.specs.Starts.{Fill, parts_of}
use Rattle.tv_framing.proofs.Reading.{composite_of, count_entries, entries_of, fill_after, fits_entries, layout_of, listed_entries, parts_are}

no_more : (es : List PartEntry) → length es ≤ length (entries_text es)
no_more [] = omega arith
no_more (e ∷ es) =
    omega (arith, no_more es, length-append (entry_text e) (entries_text es), length-append (vint e.gap) (four_bytes e.addr.field ++ vint e.addr.idx), length-append (four_bytes e.addr.field) (vint e.addr.idx))

-- the list of a file that is made of these parts was found
pub record Told (parts : List Part) (len : ℕ) (foot : List ℕ) : Type 0 where
  pub long : len ≡ length (bodies parts)
  pub few : length (entries_of 0 parts) < 2 ^ 64
  pub spells : SpellsEntries foot (entries_of 0 parts)

pub told : (file bytes : List ℕ) (len : ℕ) (foot : List ℕ) (parts : List Part) → IsComposite file parts → bytes ≡ file → len < 2 ^ 64
    → ((front footing : List ℕ) → length footing < 2 ^ 32 → bytes ≡ front ++ (footing ++ four_bytes (length footing)) → (len ≡ length front) × (foot ≡ footing)) → Told parts len foot
told file bytes len foot parts h same small found =
    let f = found (bodies parts) (footing parts) h.short (same ∙ h.whole) in
    let es = entries_of 0 parts in
    let text : footing parts ≡ vint (length (entries_of 0 parts)) ++ entries_text (entries_of 0 parts) =
    ap (λ n. vint n ++ listed 0 parts) (sym (count_entries 0 parts)) ∙ ap (λ (l : List ℕ). vint (length (entries_of 0 parts)) ++ l) (listed_entries 0 parts) in
    record {
      long = f.0;
      few = omega (arith, no_more (entries_of 0 parts), ap length text, length-append (vint (length (entries_of 0 parts))) (entries_text (entries_of 0 parts)), h.short);
      spells = record { fits = fits_entries 0 parts (omega arith) (omega (arith, f.0, small)) h.each; text = f.1 ∙ text };
    }

-- where the parts of the file begin
pub starts_told : (parts : List Part) (len : ℕ) (foot : List ℕ) (o : Option (Vec Start Global)) → AreDistinct (addresses parts)
    → ((es : List PartEntry) → length es < 2 ^ 64 → SpellsEntries foot es → IsLayout es len → option_map (λ (v : Vec Start Global). v.items) o ≡ Some (starts_after 0 es)) → Told parts len foot → option_map (λ (v : Vec Start Global). v.items) o ≡ Some (starts_after 0 (entries_of 0 parts))
starts_told parts len foot o distinct found t = found (entries_of 0 parts) t.few t.spells (subst (IsLayout (entries_of 0 parts)) (sym t.long) (layout_of parts distinct))

pub fills : (file bytes foot : List ℕ) (len : ℕ) (starts : List Start) → AreListed foot len starts → len ≤ length file → bytes ≡ take len file → Fill starts (length bytes)
fills file bytes foot len starts h le is =
    grind (arith, length-take-le, fill_after)

pub opened : (file seen bytes foot : List ℕ) (len : ℕ) (starts : List Start) → seen ≡ file → (len ≤ length seen) × (length foot < 2 ^ 32) × (seen ≡ take len seen ++ (foot ++ four_bytes (length foot)))
    → bytes ≡ take len file → AreListed foot len starts → IsComposite file (parts_of bytes starts)
opened file seen bytes foot len starts same only is h =
    let long : len ≡ length bytes = sym (ap length is ∙ length-take-le len file (omega (arith, only.0, ap length same))) in
    let front : take len seen ≡ bytes = ap (take len) same ∙ sym is in
    subst (λ (l : List Start). IsComposite file (parts_of bytes l)) (sym h.made)
    (composite_of file bytes foot h.entries (sym same ∙ only.2 ∙ ap (λ (l : List ℕ). l ++ (foot ++ four_bytes (length foot))) front) only.1 h.spells.text (subst (IsLayout h.entries) long h.layout) h.spells.fits)

-- the parts that were found are those of the file
pub only_parts : (file bytes foot : List ℕ) (len : ℕ) (starts : List Start) (parts : List Part) → IsComposite file parts → Told parts len foot → starts ≡ starts_after 0 (entries_of 0 parts) → bytes ≡ take len file → parts ≡ parts_of bytes starts
only_parts file bytes foot len starts parts h t starts_are is =
    grind (arith, take_at, starts_are, parts_are)
