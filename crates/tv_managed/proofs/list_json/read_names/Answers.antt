use Rattle.std.proofs.Common.{◌≡◌, ℕ, List, Option, None, Some, option_map, sym, String, Global}
use Rattle.std.proofs.lemmas.Result.{IfOk-weaker}
use Rattle.std.specs.Prelude.{IsUtf8, MatchOption}
use Rattle.std.specs.BTreeSet.{BTreeSet}
use Rattle.serde_json.specs.Data.{Data}
use Rattle.serde_json.specs.Read.{read}
use Rattle.serde_json.specs.View.{view}
use Rattle.tv_formats.specs.Listing.{IsListOf}
use Rattle.tv_managed.specs.Collecting.{names_of}
use Rattle.tv_managed.specs.ListTrees.{names_in}
use Rattle.tv_managed.proofs.ListTrees.{names_listed, none_listed}
use Rattle.tv_managed.proofs.list_json.read_names.Goals as goal

spelled : (bytes : List ℕ) (d : Data) (found : Option (BTreeSet (String Global))) → IsUtf8 bytes × (read bytes ≡ Some d) → option_map (λ names. names_of names.keys) found ≡ names_in d
    → MatchOption found ((names : List (List ℕ)) → IsListOf bytes names → ⊥) (λ names. IsListOf bytes (names_of names.keys))
spelled bytes d (Some names) h e = names_listed bytes d names.keys h (sym e)
spelled bytes d None h e = none_listed bytes d h.1 (sym e)

pub returns-in-Ok : goal.returns-in-Ok
returns-in-Ok c = IfOk-weaker c.names_in.result _ _ (λ found e. spelled c.args.bytes.now (view c.in-Ok.tree) found c.in-Ok.ensures.ok e) c.names_in.ensures
