-- What single words stand for.
use Rattle.std.specs.Prelude.{ℕ, ◌&&◌, ◌==◌, nat_lt, List, [], ◌∷◌, Option, Some, None, Result, Ok, Err, codes, find, option_map, if◌then◌else◌}
use Rattle.std.specs.Fmt.{decimal}
use Rattle.std.specs.Str.{is_utf8}
use Rattle.std.specs.Str.Parse.{digits_value}
use Rattle.hex.specs.Hex.{encode_lower, decode_of, decode_sized}
use Rattle.hex.specs.declared.error.FromHexError.{FromHexError}
use Rattle.tv_events.specs.declared.reload_policy.ReloadPolicy.{ReloadPolicy}
use Rattle.tv_events.specs.declared.reload_policy.ReloadPolicy.TheVariants.{Manual, OnCommitWithDelay}
use Rattle.tv_formats.specs.declared.segment.SegmentComponent.{SegmentComponent}
use Rattle.tv_formats.specs.Names.{is}
use Rattle.tv_formats.specs.Segments.{components, extension}

-- the bytes, where the word is how they are printed
abbrev pub printed_id : List ℕ → Result (List ℕ) FromHexError → Option (List ℕ)
printed_id word (Ok bytes) = if is (encode_lower bytes) word then Some bytes else None
printed_id word (Err e) = None

-- the id that a word spells: thirty-two digits, with lower-case letters
abbrev pub id_at : List ℕ → Option (List ℕ)
id_at word = printed_id word (decode_sized word 16)

-- the number below a limit that a word spells: decimal, without sign or leading zeros
abbrev pub number_at : ℕ → List ℕ → Option ℕ
number_at limit word =
    let n = digits_value 10 word in
    if is (decimal n) word && nat_lt n limit then Some n else None

-- the component that a word names
abbrev pub component_at : List ℕ → Option SegmentComponent
component_at word = find (λ component. is (extension component) word) components

-- the bytes that a word spells, at least one, in digits of either case
abbrev pub some_bytes : Result (List ℕ) FromHexError → Option (List ℕ)
some_bytes (Ok []) = None
some_bytes (Ok (b ∷ bytes)) = Some (b ∷ bytes)
some_bytes (Err e) = None

-- the bytes that a word spells in digits of either case, at least one
abbrev pub bytes_at : List ℕ → Option (List ℕ)
bytes_at word = some_bytes (decode_of word)

-- the text that some digits spell, of either case
abbrev pub some_text : Result (List ℕ) FromHexError → Option (List ℕ)
some_text (Ok bytes) = if is_utf8 bytes then Some bytes else None
some_text (Err e) = None

-- the text that some digits of either case spell
abbrev pub text_at : List ℕ → Option (List ℕ)
text_at digits = some_text (decode_of digits)

-- the text whose digits stand behind a `+`
abbrev pub signed_text_at : List ℕ → Option (List ℕ)
signed_text_at [] = None
signed_text_at (sign ∷ digits) = if sign == 43 then text_at digits else None

-- the payload that a word spells: none by a `-`, or a text
abbrev pub payload_at : List ℕ → Option (Option (List ℕ))
payload_at word =
    if is word (codes "-") then Some None else option_map (λ text. Some text) (signed_text_at word)

-- the policy that a word names
abbrev pub policy_at : List ℕ → Option ReloadPolicy
policy_at word =
    if is word (codes "manual") then Some Manual
    else if is word (codes "on-commit") then Some OnCommitWithDelay
    else None
