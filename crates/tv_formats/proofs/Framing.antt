-- The footer that is found from a file's bytes is the one that the file has.
use Rattle.std.proofs.Common.{◌≡◌, ℕ, ◌<◌, ◌^◌, ◌==◌, nat_le, Bool, true, cond, List, ◌++◌, length, codes, Option, Some, None, refl, sym, ap, subst, ◌∙◌}
use Rattle.std.specs.Prelude.{option_map}
use Rattle.std.specs.Str.{is_utf8}
use Rattle.std.specs.Cmp.Lexicographic.{bytes_decides}
use Rattle.std.proofs.lemmas.Bool.{leb-true, le-leb, eq-eqb}
use Rattle.std.proofs.lemmas.Str.{IsUtf8-from_is_utf8, is_utf8-from_IsUtf8}
use Rattle.serde_json.specs.Data.{Data}
use Rattle.serde_json.specs.Find.{get}
use Rattle.serde_json.specs.Read.{read}
use Rattle.tv_formats.specs.Checksum.{crc32}
use Rattle.tv_formats.specs.Names.{is}
use Rattle.tv_formats.specs.FooterForm.{FooterNumbers, IsFooter, Spells, u32_at}
use Rattle.tv_formats.specs.Footer.{IsFramed, body_of, footer, own_footer, sealed}
use Rattle.tv_formats.specs.Framing.{◌>>=◌, footer_in, spelled_footer, stated_json, footer_end, has_parts, footer_of, is_intact}
use Rattle.tv_formats.proofs.Bodies.{body_of_framed, json_at, some_is}
use Rattle.tv_formats.proofs.ChecksumFits.{crc32_fits}
use Rattle.tv_formats.proofs.FooterTexts.{own_framed}
use Rattle.tv_formats.proofs.PlainNames.{both}
use Rattle.tv_formats.proofs.Options.{bound}

-- ---- a tree

tree_found : (n : ℕ) (d : Data) (footer : FooterNumbers) → footer_in n d ≡ Some footer → IsFooter d n footer
tree_found n d footer e =
    let version = bound (get (codes "version") d) _ footer e in
    let major = bound (u32_at (codes "major") version.0) _ footer version.2 in
    let minor = bound (u32_at (codes "minor") version.0) _ footer major.2 in
    let patch = bound (u32_at (codes "patch") version.0) _ footer minor.2 in
    let format = bound (u32_at (codes "index_format_version") version.0) _ footer patch.2 in
    let crc = bound (u32_at (codes "crc") d) _ footer format.2 in
    subst (IsFooter d n) (some_is crc.2) (record {
      version = version.0;
      version_at = version.1;
      major = major.1;
      minor = minor.1;
      patch = patch.1;
      format = format.1;
      crc = crc.1;
    })

tree_again : (n : ℕ) (d : Data) (footer : FooterNumbers) → IsFooter d n footer → footer_in n d ≡ Some footer
tree_again n d footer h = rw (h.version_at, h.major, h.minor, h.patch, h.format, h.crc) refl

-- ---- a text

text_found : (n : ℕ) (json : List ℕ) (footer : FooterNumbers) → spelled_footer n json ≡ Some footer → Spells json n footer
text_found n json footer e = utf8 (is_utf8 json) refl e where
  utf8 : (b : Bool) → is_utf8 json ≡ b → cond b (read json >>= footer_in n) None ≡ Some footer → Spells json n footer
  utf8 true is e =
      let tree = bound (read json) (footer_in n) footer e in
      record { text = IsUtf8-from_is_utf8 json is; tree = tree.0; parsed = tree.1; form = tree_found n tree.0 footer tree.2 }
  utf8 other is e = absurd cc

text_again : (n : ℕ) (json : List ℕ) (footer : FooterNumbers) → Spells json n footer → spelled_footer n json ≡ Some footer
text_again n json footer h = rw (is_utf8-from_IsUtf8 json h.text, h.parsed) (tree_again n h.tree footer h.form)

-- ---- a file

pub found_framed : (bytes : List ℕ) (footer : FooterNumbers) → footer_of bytes ≡ Some footer → IsFramed bytes footer (body_of bytes)
found_framed bytes footer e = parts (has_parts bytes) refl e where
  parts : (b : Bool) → has_parts bytes ≡ b → cond b (spelled_footer (length (body_of bytes)) (stated_json bytes)) None ≡ Some footer
      → IsFramed bytes footer (body_of bytes)
  parts true is e =
      let t = both (nat_le (length (stated_json bytes)) 50000) _ is in
      record {
        json = stated_json bytes;
        whole = sym ((bytes_decides (body_of bytes ++ footer_end (stated_json bytes)) bytes).0 t.1);
        short = leb-true (length (stated_json bytes)) 50000 t.0;
        spells = text_found (length (body_of bytes)) (stated_json bytes) footer e;
      }
  parts other is e = absurd cc

pub framed_found : (bytes : List ℕ) (footer : FooterNumbers) (body : List ℕ) → IsFramed bytes footer body → footer_of bytes ≡ Some footer
framed_found bytes footer body h =
    let json : stated_json bytes ≡ h.json = json_at bytes footer body h in
    let front : body_of bytes ≡ body = body_of_framed bytes footer body h in
    let whole : body_of bytes ++ footer_end (stated_json bytes) ≡ bytes = rw (json, front) (sym h.whole) in
    let same : is (body_of bytes ++ footer_end (stated_json bytes)) bytes ≡ true = (bytes_decides (body_of bytes ++ footer_end (stated_json bytes)) bytes).1 whole in
    let short : nat_le (length (stated_json bytes)) 50000 ≡ true = rw json (le-leb (length h.json) 50000 h.short) in
    let spells : Spells h.json (length (body_of bytes)) footer = subst (λ (l : List ℕ). Spells h.json (length l) footer) (sym front) h.spells in
    rw (short, same) (rw json (text_again (length (body_of bytes)) h.json footer spells))

-- ---- its checksum

pub intact_again : (bytes : List ℕ) (footer : FooterNumbers) (body : List ℕ) → IsFramed bytes footer body → is_intact bytes ≡ Some (footer.crc == crc32 body)
intact_again bytes footer body h = rw (framed_found bytes footer body h, body_of_framed bytes footer body h) refl

-- the footer that it is in
pub intact_found : (bytes : List ℕ) (intact : Bool) → is_intact bytes ≡ Some intact → (footer : FooterNumbers) × IsFramed bytes footer (body_of bytes) × (intact ≡ (footer.crc == crc32 (body_of bytes)))
intact_found bytes intact e = by_footer (footer_of bytes) refl e where
  by_footer : (found : Option FooterNumbers) → footer_of bytes ≡ found → option_map (λ footer. footer.crc == crc32 (body_of bytes)) found ≡ Some intact
      → (footer : FooterNumbers) × IsFramed bytes footer (body_of bytes) × (intact ≡ (footer.crc == crc32 (body_of bytes)))
  by_footer None is e = absurd cc
  by_footer (Some footer) is e = (footer, found_framed bytes footer is, sym (some_is e))

-- nothing is said where there is none
pub intact_none : (bytes : List ℕ) → ((footer : FooterNumbers) (body : List ℕ) → IsFramed bytes footer body → ⊥) → is_intact bytes ≡ None
intact_none bytes h = by_footer (footer_of bytes) refl where
  by_footer : (found : Option FooterNumbers) → footer_of bytes ≡ found → is_intact bytes ≡ None
  by_footer None is = rw is refl
  by_footer (Some footer) is = absurd (h footer (body_of bytes) (found_framed bytes footer is))

-- a body with a footer of this library
pub intact_own : (body : List ℕ) (crc : ℕ) → crc < 2 ^ 32 → is_intact (body ++ footer crc) ≡ Some (crc == crc32 body)
intact_own body crc small = intact_again (body ++ footer crc) (own_footer crc) body (own_framed crc body small)

-- a sealed file is intact
pub sealed_intact : (body : List ℕ) → is_intact (sealed body) ≡ Some true
sealed_intact body = intact_own body (crc32 body) (crc32_fits body) ∙ ap (λ (b : Bool). Some b) (eq-eqb (crc32 body) (crc32 body) refl)
