-- How much space a segment takes: its fields have names, and why that can't be told.
use Rattle.std.proofs.Common.{◌≡◌, ◌≤◌, ◌<◌, ◌^◌, ◌&&◌, ℕ, Bool, true, ltb, List, [], ◌∷◌, Result, Ok, Err, refl, ap, sym, subst, ◌∙◌, inl, inr, arith}
use Rattle.std.specs.Prelude.{IfErr}
use Rattle.std.specs.List.{AllByRecursion}
use Rattle.std.proofs.lemmas.Bool.Decides.{nat_tests}
use Rattle.tv_base.specs.declared.io.IoError.{IoError}
use Rattle.tv_base.specs.declared.io.IoError.TheVariants as io
use Rattle.tv_formats.specs.declared.segment.SegmentComponent.{SegmentComponent}
use Rattle.tv_framing.specs.Composite.{IsAddress, Part, addresses, fields_below}
use Rattle.tv_framing.specs.Faults.{OfFault}
use Rattle.tv_reader.specs.Segments.{SegmentShown, component_body}
use Rattle.tv_reader.specs.Spaces.{HasFields, HasNoSpace, HasNoUsage, has_fields}

-- there are more names than any field's number
pub all_named : (n : ℕ) (parts : List Part) → AllByRecursion IsAddress (addresses parts) → 2 ^ 32 ≤ n → fields_below n parts ≡ true
all_named n [] each many = refl
all_named n (part ∷ parts) each many =
    let here : ltb part.addr.field n ≡ true = below part.addr.field n each.0.0 many in
    ap (λ (b : Bool). b && fields_below n parts) here ∙ all_named n parts each.1 many where
      below : (m n : ℕ) → m < 2 ^ 32 → 2 ^ 32 ≤ n → ltb m n ≡ true
      below m n p q = grind (arith, nat_tests)

-- the numbers of fields' addresses fit
pub have_addresses : (body : List ℕ) (parts : List Part) → HasFields body parts → AllByRecursion IsAddress (addresses parts)
have_addresses body parts (inl h) = subst (λ (l : List Part). AllByRecursion IsAddress (addresses l)) (sym h.1) tt
have_addresses body parts (inr h) = h.each

-- where a file has no usage, it can't be told what the segment takes
pub no_space : {A : Type 0} (names : List (List ℕ)) (shown : SegmentShown) (component : SegmentComponent) (body : List ℕ) (result : Result A IoError) → has_fields component ≡ true → body ≡ component_body shown component
    → IfErr result (OfFault (λ _. HasNoUsage names body)) → IfErr result (OfFault (λ _. HasNoSpace names shown))
no_space names shown component body (Ok usage) kind is h = tt
no_space names shown component body (Err io.Memory) kind is h = tt
no_space names shown component body (Err (io.Fault fault)) kind is h =
    inl (record { component = component; kind = kind; bad = subst (HasNoUsage names) is h })
