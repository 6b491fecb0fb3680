-- How a footer is found at the end of a file.
use Rattle.std.proofs.Common.{◌≡◌, ◌≢◌, ◌≤◌, ◌<◌, ◌+◌, ◌-◌, ◌^◌, ⊎_elim, inr, ℕ, List, ◌++◌, length, take, drop, slice_range, codes, Result, Ok, Err, refl, sym, ap, subst, ◌∙◌, arith, append_assoc, length-append, length-drop}
use Rattle.std.specs.Prelude.{IfErr, MatchResult}
use Rattle.std.proofs.lemmas.List.{drop_at, take_at, drop-drop, length-take-le, take-append-drop}
use Rattle.tv_formats.specs.Footer.{body_of, four_bytes, footer_magic, little_endian, stated}
use Rattle.tv_formats.proofs.Bodies.{body_of_framed, four_spell}
use Rattle.tv_base.specs.declared.io.IoFault.{IoFault}
use Rattle.tv_base.specs.declared.io.IoError.{IoError}
use Rattle.tv_base.specs.declared.io.IoError.TheVariants as io
use Rattle.tv_framing.specs.declared.footer.Footer.{Footer}
use Rattle.tv_base.specs.declared.io.IoKind.TheVariants.{InvalidData}
use Rattle.tv_framing.specs.Faults.{IsFault, OfFault}
use Rattle.tv_framing.specs.FooterEnds.{EndsIn, HasEnd}
use Rattle.tv_framing.specs.Footers.{HasOtherMagic, IsCutOff, IsFramedAs, IsNoFooter, IsTooSmall, Refuses, SpellsFooter, StatesTooMuch, last_four, numbers_of, stated_json}

pub stated_is : (bytes : List ℕ) (front json magic : ℕ) → EndsIn bytes front json magic → stated bytes ≡ json
stated_is bytes front json magic e =
    grind (arith, take_at, four_spell)

pub last_is : (bytes : List ℕ) (front json magic : ℕ) → EndsIn bytes front json magic → last_four bytes ≡ four_bytes magic
last_is bytes front json magic e =
    let at : length bytes - 4 ≡ front + 4 = omega (arith, e.size) in
    ap (λ n. drop n bytes) at ∙ sym (drop-drop 4 front bytes) ∙ ap (drop 4) e.text ∙ drop_at (four_bytes json) (four_bytes magic) 4 refl

pub other_magic : (magic : ℕ) → magic < 2 ^ 32 → magic ≢ footer_magic → four_bytes magic ≢ four_bytes footer_magic
other_magic magic small other e = other (sym (four_spell magic small) ∙ ap little_endian e ∙ four_spell footer_magic (omega arith))

pub of_fault : {P Q : IoFault → Type 0} (e : IoError) → OfFault P e → ((f : IoFault) → P f → Q f) → OfFault Q e
of_fault (io.Fault f) h to = to f h
of_fault io.Memory h to = tt

pub has_end : (bytes : List ℕ) (front json magic : ℕ) → EndsIn bytes front json magic → magic ≡ footer_magic → json ≤ 50000 → json ≤ front → HasEnd bytes (front - json) front
has_end bytes front json magic e known short fits =
    let n = stated_is bytes front json magic e in
    let start = front - json in
    let long : front - (front - json) ≡ json = omega (arith, fits) in
    let at : length bytes - (stated bytes + 8) ≡ front - json = omega (arith, n, e.size) in
    let size : length (slice_range bytes (front - json) front) ≡ stated bytes =
    length-take-le (front - start) (drop start bytes) (omega (arith, length-drop start bytes, e.size, fits)) ∙ long ∙ sym n in
    let rest : drop json (drop (front - json) bytes) ≡ four_bytes (stated bytes) ++ four_bytes footer_magic =
    drop-drop json start bytes ∙ ap (λ k. drop k bytes) (omega (arith, fits)) ∙ e.text
    ∙ ap (λ k. four_bytes k ++ four_bytes magic) (sym n) ∙ ap (λ k. four_bytes (stated bytes) ++ four_bytes k) known in
    record {
      order = omega arith;
      size = omega (arith, n, e.size, fits);
      rest = e.size;
      magic = last_is bytes front json magic e ∙ ap four_bytes known;
      short = omega (arith, n, short);
      json = ap (λ k. take k (drop (front - json) bytes)) (long ∙ sym n) ∙ ap (λ k. take (stated bytes) (drop k bytes)) (sym at);
      long = size;
      whole = sym (take-append-drop start bytes)
          ∙ ap (λ (l : List ℕ). take start bytes ++ l) (sym (take-append-drop json (drop start bytes)))
          ∙ ap (λ k. take start bytes ++ (take k (drop start bytes) ++ drop json (drop start bytes))) (sym long)
          ∙ ap (λ (l : List ℕ). take start bytes ++ (slice_range bytes start front ++ l)) rest;
    }

-- ---- a file in four parts

pub ends_of : (bytes : List ℕ) (footer : Footer) (body : List ℕ) (h : IsFramedAs bytes footer body) → EndsIn bytes (length body + length h.json) (length h.json) footer_magic
ends_of bytes footer body h =
    let tail : List ℕ = four_bytes (length h.json) ++ four_bytes footer_magic in
    let e : bytes ≡ (body ++ h.json) ++ (four_bytes (length h.json) ++ four_bytes footer_magic) = h.whole ∙ sym (append_assoc body h.json tail) in
    let n : length (body ++ h.json) ≡ length body + length h.json = length-append body h.json in
    record {
      size = omega (arith, ap length e, length-append (body ++ h.json) tail, n);
      text = ap (drop (length body + length h.json)) e ∙ drop_at (body ++ h.json) tail (length body + length h.json) n;
      json_small = omega (arith, h.short);
      magic_small = omega arith;
    }

pub json_is : (bytes : List ℕ) (footer : Footer) (body : List ℕ) (h : IsFramedAs bytes footer body) → stated_json bytes ≡ h.json
json_is bytes footer body h =
    let e = ends_of bytes footer body h in
    let n = stated_is bytes (length body + length h.json) (length h.json) footer_magic e in
    let tail : List ℕ = four_bytes (length h.json) ++ four_bytes footer_magic in
    let at : length bytes - (stated bytes + 8) ≡ length body = omega (arith, n, e.size) in
    ap (λ k. take (stated bytes) (drop k bytes)) at
    ∙ ap (λ (l : List ℕ). take (stated bytes) (drop (length body) l)) h.whole
    ∙ ap (take (stated bytes)) (drop_at body (h.json ++ tail) (length body) refl)
    ∙ take_at h.json tail (stated bytes) (sym n)

pub not_refused : (bytes : List ℕ) (footer : Footer) (body : List ℕ) (fault : IoFault) → IsFramedAs bytes footer body → Refuses bytes fault → ⊥
not_refused bytes footer body fault h r =
    let e = ends_of bytes footer body h in
    let n = stated_is bytes (length body + length h.json) (length h.json) footer_magic e in
    let front : body_of bytes ≡ body = body_of_framed bytes (numbers_of footer) body h in
    let spells : SpellsFooter h.json (length (body_of bytes)) footer = subst (λ (l : List ℕ). SpellsFooter h.json (length l) footer) (sym front) h.spells in
    ⊎_elim (λ (a : IsTooSmall bytes fault). absurd (omega (arith, a.small, e.size)))
    (⊎_elim (λ (a : HasOtherMagic bytes fault). a.other (last_is bytes (length body + length h.json) (length h.json) footer_magic e))
    (⊎_elim (λ (a : StatesTooMuch bytes fault). absurd (omega (arith, a.long, n, h.short)))
    (⊎_elim (λ (a : IsCutOff bytes fault). absurd (omega (arith, a.cut, n, e.size)))
    (λ (a : IsNoFooter bytes fault).
    a.other footer (subst (λ (l : List ℕ). SpellsFooter l (length (body_of bytes)) footer) (sym (json_is bytes footer body h)) spells))))) r

pub exactly : {T : Type 0} (P : T → Type 0) (bytes : List ℕ) (r : Result T IoError) → MatchResult r P (OfFault (Refuses bytes)) → IfErr r (OfFault (λ _. (footer : Footer) (body : List ℕ) → IsFramedAs bytes footer body → ⊥))
exactly P bytes (Ok x) h = tt
exactly P bytes (Err e) h = of_fault e h (λ f refused footer body framed. not_refused bytes footer body f framed refused)

-- ---- a file whose end was found

-- the body is what stands before the JSON
pub framed_at : (file : List ℕ) (start end : ℕ) (footer : Footer) → HasEnd file start end → SpellsFooter (slice_range file start end) (length (take start file)) footer → IsFramedAs file footer (take start file)
framed_at file start end footer e s = record {
  json = slice_range file start end;
  whole = e.whole ∙ ap (λ k. take start file ++ (slice_range file start end ++ (four_bytes k ++ four_bytes footer_magic))) (sym e.long);
  short = omega (arith, e.long, e.short);
  spells = s;
}

pub no_footer : (file : List ℕ) (start end : ℕ) (fault : IoFault) → HasEnd file start end → ((footer : Footer) → SpellsFooter (slice_range file start end) (length (body_of file)) footer → ⊥) → IsFault InvalidData (codes "Footer is not of the stated form.") fault → Refuses file fault
no_footer file start end fault e none is =
    inr (inr (inr (inr (record {
      magic = e.magic;
      short = e.short;
      whole = omega (arith, e.size);
      other = λ footer s. none footer (subst (λ (l : List ℕ). SpellsFooter l (length (body_of file)) footer) (sym e.json) s);
      is = is;
    }))))
