-- From what a tree holds to what the bytes mean.
use Rattle.std.proofs.Common.{◌≡◌, ℕ, List, Option, Some, None, sym, ap, ◌∙◌, subst}
use Rattle.std.specs.Prelude.{IsUtf8, IfSome, String}
use Rattle.std.specs.declared.alloc.Global.{Global}
use Rattle.std.proofs.lemmas.Option.{same_Some}
use Rattle.std.proofs.lemmas.Str.{IsUtf8-string_bytes}
use Rattle.serde_json.specs.Data.{Data}
use Rattle.serde_json.specs.Read.{read}
use Rattle.tv_formats.specs.Commits.{Commit, Settings}
use Rattle.tv_formats.specs.Meaning.{MeansNothing, SpellsNothing}
use Rattle.tv_formats.specs.MetaJson.{SpellsMeta}
use Rattle.tv_formats.specs.Schemas.{IsSchemaText}
use Rattle.tv_metas.specs.declared.read_error.ReadError.{ReadError}
use Rattle.tv_metas.specs.declared.read_error.ReadError.TheVariants.{Corrupt, Memory}
use Rattle.tv_metas.specs.Choosing.{Chooses, IsOtherThan}
use Rattle.tv_metas.specs.MetaReading.{Held, held_of}
use Rattle.tv_metas.specs.Metas.{text_of}
use Rattle.tv_metas.specs.Parsing.{IsForExpected, MeansOtherThan, SpellsUnlessExpected}
use Rattle.tv_metas.specs.Printed.{IsUnprinted}
use Rattle.tv_metas.specs.Reads.{IfCorrupt}
use Rattle.tv_metas.proofs.MetaForms.{held_to, held_back}
use Rattle.tv_metas.proofs.Options.{none_some}

-- bytes with a tree that holds nothing
nothing : (bytes : List ℕ) (d : Data) → read bytes ≡ Some d → held_of d ≡ None → SpellsNothing bytes
nothing bytes d is none settings commit schema s =
    let same : d ≡ s.tree = same_Some d s.tree (sym is ∙ s.parsed) in
    none_some (record { settings = settings; commit = commit; schema = schema }) (sym none ∙ ap held_of same ∙ held_back s.tree settings commit schema s.form)

pub corrupt_tree : (e : ReadError) (bytes : List ℕ) (d : Data) → read bytes ≡ Some d → IfCorrupt e (held_of d ≡ None) → IfCorrupt e (SpellsNothing bytes)
corrupt_tree Corrupt bytes d is h = nothing bytes d is h
corrupt_tree Memory bytes d is h = tt

pub payload_utf8 : (payload : Option (String Global)) → IfSome (text_of payload) IsUtf8
payload_utf8 None = tt
payload_utf8 (Some text) = IsUtf8-string_bytes text

pub spelled : (bytes : List ℕ) (d : Data) (held : Held) → IsUtf8 bytes → read bytes ≡ Some d → held_of d ≡ Some held → IfSome held.commit.payload IsUtf8
    → SpellsMeta bytes held.settings held.commit held.schema
spelled bytes d held utf8 is h payload = record { utf8 = utf8; tree = d; parsed = is; form = held_to d held h payload }

-- bytes that spell nothing, and are no printed form
pub means_nothing : (e : ReadError) (expected : Option (List ℕ)) (bytes : List ℕ) → IsUnprinted expected bytes → IfCorrupt e (SpellsNothing bytes)
    → IfCorrupt e (MeansNothing expected bytes)
means_nothing Corrupt None bytes u h = h
means_nothing Corrupt (Some schema) bytes u h = (u, h)
means_nothing Memory expected bytes u h = tt

pub other_than : (expected : Option (List ℕ)) (bytes : List ℕ) (settings : Settings) (commit : Commit) (tree : Data) → IsUnprinted expected bytes
    → SpellsMeta bytes settings commit tree → IsOtherThan expected tree → MeansOtherThan expected bytes
other_than None bytes settings commit tree u s h = h
other_than (Some schema) bytes settings commit tree u s h = record { unprinted = u; settings = settings; commit = commit; tree = tree; spelled = s; other = h }

-- the schema that was chosen
pub none_chosen : (expected : Option (List ℕ)) (tree : Data) (o : Option (List ℕ)) → o ≡ None → Chooses expected tree o → IsOtherThan expected tree
none_chosen expected tree o e h = subst (Chooses expected tree) e h

pub one_chosen : (expected : Option (List ℕ)) (tree : Data) (o : Option (List ℕ)) (schema : List ℕ) → o ≡ Some schema → Chooses expected tree o
    → IsSchemaText schema tree × IsForExpected expected schema
one_chosen expected tree o schema e h = subst (Chooses expected tree) e h

-- what is spelled, where no schema is expected
pub spells_alone : (expected : Option (List ℕ)) (bytes : List ℕ) (settings : Settings) (commit : Commit) (tree : Data) → SpellsMeta bytes settings commit tree
    → SpellsUnlessExpected expected bytes settings commit
spells_alone None bytes settings commit tree s = (tree, s)
spells_alone (Some schema) bytes settings commit tree s = tt
