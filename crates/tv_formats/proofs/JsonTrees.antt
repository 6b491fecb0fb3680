-- A JSON tree whose members may stand in any order: its text without blanks is UTF-8, and is read as the tree with
-- its members by their keys.
use Rattle.std.proofs.Common.{◌≡◌, ◌<◌, ◌≤◌, ◌^◌, Bool, true, false, List, [], ◌∷◌, ◌++◌, Option, Some, option_map, option_and_then, decimal, refl, sym, ap, ap₂, ◌∙◌, arith}
use Rattle.std.specs.Prelude.{⊤, ℕ, IsUtf8}
use Rattle.std.specs.List.{list_all}
use Rattle.std.proofs.lemmas.Bool.Decides.{nat_tests}
use Rattle.std.proofs.lemmas.Fmt.{IsAscii-decimal}
use Rattle.std.proofs.lemmas.Str.{IsUtf8-append, IsUtf8-from_ascii}
use Rattle.json.specs.Lex.{tokens}
use Rattle.json.specs.Print.{escape, escape_byte, quoted}
use Rattle.json.specs.Tree as json
use Rattle.json.proofs.Printed.Decimals.{IsNumber-decimal}
use Rattle.json.proofs.Printed.Strings.{escape_byte_plain}
use Rattle.json.proofs.Printed.Tokens.{tokens-print}
use Rattle.json.proofs.Printed.Trees.{ArePrintable-json_tokens}
use Rattle.json.proofs.Printed.Utf8.{are_ascii, IsUtf8-are_ascii, IsUtf8-boolean, IsUtf8-quoted}
use Rattle.serde_json.specs.Data.{Data, unsigned, negative, float, null, boolean, number, string, array, object, Items, no_items, item, Members, no_members, member, put}
use Rattle.serde_json.specs.Read.{read, of_json, of_items, of_members}
use Rattle.serde_json.specs.Written.{outline, items_outline, members_outline, comma_if, compact_text, items_text, members_text}
use Rattle.serde_json.proofs.Numbers.{number_of-decimal}
use Rattle.serde_json.proofs.Texts.{print-outline}
use Rattle.tv_formats.specs.Names.{is_name_byte}
use Rattle.tv_formats.proofs.PlainNames.{both}
use Rattle.tv_formats.proofs.JsonReadBack.{before_line_feed, read_of_tokens}

-- the tree as it is read: the members go in one after another
abbrev mutual
  pub ordered : Data → Data
  ordered null = null
  ordered (boolean b) = boolean b
  ordered (number n) = number n
  ordered (string s) = string s
  ordered (array ds) = array (items_ordered ds)
  ordered (object ms) = object (members_ordered ms no_members)

  pub items_ordered : Items → Items
  items_ordered no_items = no_items
  items_ordered (item d ds) = item (ordered d) (items_ordered ds)

  pub members_ordered : Members → Members → Members
  members_ordered no_members found = found
  members_ordered (member k d ms) found = members_ordered ms (put k (ordered d) found)

-- each number is one of 64 bits without a sign, each string is a text, and each key is ASCII
abbrev mutual
  pub Fits : Data → Type 0
  Fits null = ⊤
  Fits (boolean b) = ⊤
  Fits (number (unsigned n)) = n < 2 ^ 64
  Fits (number (negative z)) = ⊥
  Fits (number (float x)) = ⊥
  Fits (string s) = IsUtf8 s
  Fits (array ds) = ItemsFit ds
  Fits (object ms) = MembersFit ms

  pub ItemsFit : Items → Type 0
  ItemsFit no_items = ⊤
  ItemsFit (item d ds) = Fits d × ItemsFit ds

  pub MembersFit : Members → Type 0
  MembersFit no_members = ⊤
  MembersFit (member k d ms) = (are_ascii k ≡ true) × Fits d × MembersFit ms

pub ascii_then : (xs ys : List ℕ) → are_ascii xs ≡ true → IsUtf8 ys → IsUtf8 (xs ++ ys)
ascii_then xs ys h u = IsUtf8-append xs ys (IsUtf8-are_ascii xs h) u

comma_then : (later : Bool) (ys : List ℕ) → IsUtf8 ys → IsUtf8 (comma_if later ++ ys)
comma_then true ys u = ascii_then (44 ∷ []) ys refl u
comma_then false ys u = u

-- what its JSON is read as, that its numbers are numbers, and that its text is UTF-8
abbrev pub Known : Data → Type 0
Known d = (of_json (outline d) ≡ Some (ordered d)) × json.HasNumbers (outline d) × IsUtf8 (compact_text d)

mutual
  pub known : (d : Data) → Fits d → Known d
  known null h = (refl, tt, IsUtf8-are_ascii _ refl)
  known (boolean b) h = (refl, tt, IsUtf8-boolean b)
  known (number (unsigned n)) h =
      (ap (option_map number) (number_of-decimal n h), IsNumber-decimal n h, IsUtf8-from_ascii (decimal n) (IsAscii-decimal n h))
  known (number (negative z)) h = absurd h
  known (number (float x)) h = absurd h
  known (string s) h = (refl, tt, IsUtf8-quoted s h)
  known (array ds) h =
      let k = items_known false ds h in (ap (option_map array) k.0, k.1, ascii_then (91 ∷ []) (items_text false ds) refl k.2)
  known (object ms) h =
      let k = members_known false ms no_members h in (ap (option_map object) k.0, k.1, ascii_then (123 ∷ []) (members_text false ms) refl k.2)

  items_known : (later : Bool) (ds : Items) → ItemsFit ds
      → (of_items (items_outline ds) ≡ Some (items_ordered ds)) × json.ItemsHaveNumbers (items_outline ds) × IsUtf8 (items_text later ds)
  items_known later no_items h = (refl, tt, IsUtf8-are_ascii _ refl)
  items_known later (item d ds) h =
      let k = known d h.0 in
      let rest = items_known true ds h.1 in (
        ap₂ (λ (a : Option Data) (b : Option Items). option_and_then (λ e. option_map (item e) b) a) k.0 rest.0,
        (k.1, rest.1),
        comma_then later (compact_text d ++ items_text true ds) (IsUtf8-append (compact_text d) (items_text true ds) k.2 rest.2),
      )

  pub members_known : (later : Bool) (ms found : Members) → MembersFit ms
      → (of_members (members_outline ms) found ≡ Some (members_ordered ms found)) × json.MembersHaveNumbers (members_outline ms) × IsUtf8 (members_text later ms)
  members_known later no_members found h = (refl, tt, IsUtf8-are_ascii _ refl)
  members_known later (member k d ms) found h =
      let value = known d h.1 in
      let rest = members_known true ms (put k (ordered d) found) h.2 in
      let text = compact_text d ++ members_text true ms in (
        ap (option_and_then (λ e. of_members (members_outline ms) (put k e found))) value.0 ∙ rest.0,
        (value.1, rest.1),
        comma_then later (quoted k ++ 58 ∷ text) (IsUtf8-append (quoted k) (58 ∷ text) (IsUtf8-quoted k (IsUtf8-are_ascii k h.0))
            (ascii_then (58 ∷ []) text refl (IsUtf8-append (compact_text d) (members_text true ms) value.2 rest.2))),
      )

pub compact_tokens : (d : Data) → Fits d → tokens (compact_text d) ≡ json.json_tokens (outline d)
compact_tokens d h =
    ap tokens (sym (print-outline d)) ∙ tokens-print (json.json_tokens (outline d)) (ArePrintable-json_tokens (outline d) (known d h).1)

pub compact_read : (d : Data) → Fits d → json.depth (outline d) ≤ 127 → read (compact_text d) ≡ Some (ordered d)
compact_read d h shallow = read_of_tokens (compact_text d) (outline d) (compact_tokens d h) shallow ∙ (known d h).0

-- the same with a line feed behind
pub line_read : (d : Data) → Fits d → json.depth (outline d) ≤ 127 → read (compact_text d ++ 10 ∷ []) ≡ Some (ordered d)
line_read d h shallow =
    read_of_tokens (compact_text d ++ 10 ∷ []) (outline d) (before_line_feed (compact_text d) (outline d) (known d h).1 (compact_tokens d h)) shallow
    ∙ (known d h).0

pub line_utf8 : (d : Data) → Fits d → IsUtf8 (compact_text d ++ 10 ∷ [])
line_utf8 d h = IsUtf8-append (compact_text d) (10 ∷ []) (known d h).2 (IsUtf8-are_ascii _ refl)

-- ---- the bytes of a name are not escaped

byte_itself : (b : ℕ) → is_name_byte b ≡ true → escape_byte b ≡ b ∷ []
byte_itself b h = escape_byte_plain b (λ e. grind (arith, nat_tests, h)) (λ e. grind (arith, nat_tests, h)) (grind (arith, nat_tests, h))

pub name_itself : (name : List ℕ) → list_all is_name_byte name ≡ true → escape name ≡ name
name_itself [] h = refl
name_itself (b ∷ name) h =
    let t = both (is_name_byte b) (list_all is_name_byte name) h in ap₂ (λ (front rest : List ℕ). front ++ rest) (byte_itself b t.0) (name_itself name t.1)
