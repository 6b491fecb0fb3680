-- The body of a file that has a footer.
use Rattle.std.proofs.Common.{◌≡◌, ℕ, ◌+◌, ◌-◌, ◌<◌, ◌^◌, List, ◌++◌, length, take, drop, codes, Option, Some, refl, sym, ap, subst, ◌∙◌, arith, append_assoc, length-append}
use Rattle.std.proofs.Math.Seq.{take-append_seam, drop-append_seam}
use Rattle.serde_json.specs.Data.{Data}
use Rattle.tv_formats.specs.Checksum.{crc32}
use Rattle.tv_formats.specs.FooterForm.{FooterNumbers, IsFooter, Spells, u32_at}
use Rattle.tv_formats.specs.Footer.{HasBody, IsFramed, IsGood, four_bytes, footer_magic, sealed, little_endian, own_footer, stated, body_of}
use Rattle.tv_formats.proofs.ChecksumFits.{crc32_fits}
use Rattle.tv_formats.proofs.FooterTexts.{own_framed}

-- four bytes spell their number
pub four_spell : (n : ℕ) → n < 2 ^ 32 → little_endian (four_bytes n) ≡ n
four_spell n small = omega arith

-- the seam at a given place
taken : (n : ℕ) (front rest : List ℕ) → n ≡ length front → take n (front ++ rest) ≡ front
taken n front rest e = rw e (take-append_seam front rest)

dropped : (n : ℕ) (front rest : List ℕ) → n ≡ length front → drop n (front ++ rest) ≡ rest
dropped n front rest e = rw e (drop-append_seam front rest)

-- how long a file in four parts is
long : (bytes : List ℕ) (footer : FooterNumbers) (body : List ℕ) (h : IsFramed bytes footer body) → length bytes ≡ length body + (length h.json + 8)
long bytes footer body h =
    let tail : List ℕ = four_bytes (length h.json) ++ four_bytes footer_magic in
    omega (arith, ap length h.whole, length-append body (h.json ++ tail), length-append h.json tail)

-- its length of the JSON
pub stated_is : (bytes : List ℕ) (footer : FooterNumbers) (body : List ℕ) (h : IsFramed bytes footer body) → stated bytes ≡ length h.json
stated_is bytes footer body h =
    let size : List ℕ = four_bytes (length h.json) in
    let magic : List ℕ = four_bytes footer_magic in
    let whole : bytes ≡ (body ++ h.json) ++ (four_bytes (length h.json) ++ four_bytes footer_magic) = h.whole ∙ sym (append_assoc body h.json (size ++ magic)) in
    let at : length bytes - 8 ≡ length (body ++ h.json) = omega (arith, long bytes footer body h, length-append body h.json) in
    let end : drop (length bytes - 8) bytes ≡ four_bytes (length h.json) ++ four_bytes footer_magic =
    ap (drop (length bytes - 8)) whole ∙ dropped (length bytes - 8) (body ++ h.json) (size ++ magic) at in
    ap (λ (l : List ℕ). little_endian (take 4 l)) end ∙ ap little_endian (taken 4 size magic refl) ∙ four_spell (length h.json) (omega (arith, h.short))

-- what stands before the footer is the body
pub body_of_framed : (bytes : List ℕ) (footer : FooterNumbers) (body : List ℕ) → IsFramed bytes footer body → body_of bytes ≡ body
body_of_framed bytes footer body h =
    let tail : List ℕ = four_bytes (length h.json) ++ four_bytes footer_magic in
    let at : length bytes - (stated bytes + 8) ≡ length body = omega (arith, long bytes footer body h, stated_is bytes footer body h) in
    ap (take (length bytes - (stated bytes + 8))) h.whole ∙ taken (length bytes - (stated bytes + 8)) body (h.json ++ tail) at

pub body_of_good : (bytes body : List ℕ) → HasBody bytes body → body_of bytes ≡ body
body_of_good bytes body good = body_of_framed bytes good.footer body good.framed

-- a sealed file has the body with which it was sealed
pub sealed_has_body : (body : List ℕ) → HasBody (sealed body) body
sealed_has_body body = record { footer = own_footer (crc32 body); framed = own_framed (crc32 body) body (crc32_fits body); format = (omega arith, omega arith) }

pub body_of_sealed : (body : List ℕ) → body_of (sealed body) ≡ body
body_of_sealed body = body_of_good (sealed body) body (sealed_has_body body)

pub sealed_is_good : (body bytes : List ℕ) → bytes ≡ sealed body → IsGood bytes
sealed_is_good body bytes e = record { body = body; has_body = subst (λ (l : List ℕ). HasBody l body) (sym e) (sealed_has_body body) }

-- ---- a file has one footer

-- where the JSON of the footer stands
pub json_at : (bytes : List ℕ) (footer : FooterNumbers) (body : List ℕ) (h : IsFramed bytes footer body) → take (stated bytes) (drop (length (body_of bytes)) bytes) ≡ h.json
json_at bytes footer body h =
    let tail : List ℕ = four_bytes (length h.json) ++ four_bytes footer_magic in
    let front : drop (length body) bytes ≡ h.json ++ (four_bytes (length h.json) ++ four_bytes footer_magic) =
    ap (drop (length body)) h.whole ∙ dropped (length body) body (h.json ++ tail) refl in
    ap (λ (l : List ℕ). take (stated bytes) (drop (length l) bytes)) (body_of_framed bytes footer body h)
    ∙ ap (take (stated bytes)) front
    ∙ taken (stated bytes) h.json tail (stated_is bytes footer body h)

pub some_is : {A : Type 0} {x y : A} → ◌≡◌ {A = Option A} (Some x) (Some y) → x ≡ y
some_is e = cc

same_numbers : (f g : FooterNumbers) → f.major ≡ g.major → f.minor ≡ g.minor → f.patch ≡ g.patch → f.format ≡ g.format → f.crc ≡ g.crc → f ≡ g
same_numbers f g a b c d e = let same : of f.major f.minor f.patch f.format f.crc ≡ of g.major g.minor g.patch g.format g.crc = rw (a, b, c, d, e) refl in same
  where
    of : ℕ → ℕ → ℕ → ℕ → ℕ → FooterNumbers
    of a b c d e = record { major = a; minor = b; patch = c; format = d; crc = e }

one_form : (d : Data) (n : ℕ) (f g : FooterNumbers) → IsFooter d n f → IsFooter d n g → f ≡ g
one_form d n f g h k =
    let v : h.version ≡ k.version = some_is (sym h.version_at ∙ k.version_at) in
    same_numbers f g
    (some_is (sym h.major ∙ ap (u32_at (codes "major")) v ∙ k.major))
    (some_is (sym h.minor ∙ ap (u32_at (codes "minor")) v ∙ k.minor))
    (some_is (sym h.patch ∙ ap (u32_at (codes "patch")) v ∙ k.patch))
    (some_is (sym h.format ∙ ap (u32_at (codes "index_format_version")) v ∙ k.format))
    (some_is (sym h.crc ∙ k.crc))

one_spelled : (json : List ℕ) (n : ℕ) (f g : FooterNumbers) → Spells json n f → Spells json n g → f ≡ g
one_spelled json n f g h k = one_form h.tree n f g h.form (subst (λ (d : Data). IsFooter d n g) (some_is (sym k.parsed ∙ h.parsed)) k.form)

pub one_footer : (bytes : List ℕ) (f g : FooterNumbers) (a b : List ℕ) → IsFramed bytes f a → IsFramed bytes g b → (f ≡ g) × (a ≡ b)
one_footer bytes f g a b h k =
    let json : k.json ≡ h.json = sym (json_at bytes g b k) ∙ json_at bytes f a h in
    let body : a ≡ b = sym (body_of_framed bytes f a h) ∙ body_of_framed bytes g b k in
    let spells : Spells k.json (length a) g = subst (λ (l : List ℕ). Spells k.json (length l) g) (sym body) k.spells in
    (one_spelled h.json (length a) f g h.spells (subst (λ (l : List ℕ). Spells l (length a) g) json spells), body)
