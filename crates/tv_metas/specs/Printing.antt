-- What is printed of a commit.
use Rattle.std.specs.Prelude.{◌≡◌, ◌++◌}
use Rattle.json.specs.Tree.{json_tokens}
use Rattle.json.specs.Written.{Written}
use Rattle.serde_json.specs.Data.{Data}
use Rattle.serde_json.specs.Written.{outline}

-- the tokens of this tree were added, and what stood before them all stayed
abbrev pub WritesTree : (old new : Written) → Data → Type 0
WritesTree old new d =
    (new.before ≡ old.before) × (new.tokens ≡ old.tokens ++ json_tokens (outline d))
