-- A footer as it is written is read back.
use Rattle.std.proofs.Common.{◌≡◌, ◌≤◌, ◌<◌, ◌+◌, ◌^◌, ℕ, List, ◌++◌, length, Some, refl, ap, arith, append_assoc, length-append}
use Rattle.std.specs.Fmt.{decimal}
use Rattle.std.proofs.lemmas.Bool.{lt-ltb}
use Rattle.std.proofs.lemmas.Fmt.{length-decimal-le}
use Rattle.json.specs.Print.{escape_byte}
use Rattle.tv_formats.specs.FooterForm.{FooterFits, FooterNumbers, Spells, footer_tree, if_u32, version_tree, written_json}
use Rattle.tv_formats.specs.Footer.{IsFramed, footer, footer_json, four_bytes, footer_magic, own_footer}
use Rattle.tv_formats.proofs.JsonTrees.{Fits, compact_read, known, ordered}

-- ---- the JSON reads as its tree

tree_fits : (f : FooterNumbers) → FooterFits f → Fits (footer_tree f)
tree_fits f h = (
  refl,
  (refl, omega (arith, h.major), (refl, omega (arith, h.minor), (refl, omega (arith, h.patch), (refl, omega (arith, h.format), tt)))),
  (refl, omega (arith, h.crc), tt),
)

fits_at : (n : ℕ) → n < 2 ^ 32 → if_u32 n ≡ Some n
fits_at n lt = rw (lt-ltb n (2 ^ 32) lt) refl

pub spells_itself : (f : FooterNumbers) (n : ℕ) → FooterFits f → Spells (written_json f) n f
spells_itself f n h =
    record {
      text = (known (footer_tree f) (tree_fits f h)).2;
      tree = ordered (footer_tree f);
      parsed = compact_read (footer_tree f) (tree_fits f h) (omega arith);
      form = record {
        version = ordered (version_tree f);
        version_at = refl;
        major = fits_at f.major h.major;
        minor = fits_at f.minor h.minor;
        patch = fits_at f.patch h.patch;
        format = fits_at f.format h.format;
        crc = fits_at f.crc h.crc;
      };
    }

few_digits : (n : ℕ) → n < 2 ^ 32 → length (decimal n) ≤ 10
few_digits n lt = length-decimal-le 10 n (omega arith) (omega (arith, lt)) (omega (arith, lt))

text_length : (f : FooterNumbers) → length (written_json f)
    ≡ 71 + length (decimal f.major) + length (decimal f.minor) + length (decimal f.patch) + length (decimal f.format) + length (decimal f.crc)
unfolding escape_byte
text_length f = simp length-append (omega arith)

pub json_short : (f : FooterNumbers) → FooterFits f → length (written_json f) ≤ 50000
json_short f h =
    omega (
      arith,
      text_length f,
      few_digits f.major h.major,
      few_digits f.minor h.minor,
      few_digits f.patch h.patch,
      few_digits f.format h.format,
      few_digits f.crc h.crc,
    )

-- ---- the footer of a sealed file

pub own_fits : (crc : ℕ) → crc < 2 ^ 32 → FooterFits (own_footer crc)
own_fits crc h = record { major = omega arith; minor = omega arith; patch = omega arith; format = omega arith; crc = h }

pub own_framed : (crc : ℕ) (body : List ℕ) → crc < 2 ^ 32 → IsFramed (body ++ footer crc) (own_footer crc) body
own_framed crc body h =
    record {
      json = footer_json crc;
      whole = ap (λ (l : List ℕ). body ++ l) (append_assoc (footer_json crc) (four_bytes (length (footer_json crc))) (four_bytes footer_magic));
      short = json_short (own_footer crc) (own_fits crc h);
      spells = spells_itself (own_footer crc) (length body) (own_fits crc h);
    }
