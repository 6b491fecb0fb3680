use Rattle.std.proofs.Common.{◌≡◌, ◌<◌, ◌∙◌, ℕ, List, [], get_or, length, subst, sym}
use Rattle.std.proofs.lemmas.Result.{IfOk-weaker}
use Rattle.tv_formats.specs.Disk.{Disk}
use Rattle.tv_formats.specs.Files.{Reads}
use Rattle.tv_formats.proofs.ListTexts.{same_names}
use Rattle.tv_directory.specs.Bench.{IsAtRest, IsNewBench}
use Rattle.tv_directory.specs.Crashes.{AreKnown, LeavesBy, left_in}
use Rattle.tv_device.specs.View.{View}
use Rattle.tv_directory.specs.declared.bench.Bench.{Bench}
use Rattle.tv_directory.proofs.laws.a_crash_leaves_each_name_by_its_own_number.Goals as goal

-- there is one list of the known names in their order
left_at : {C W : Type 0} (bench : Bench C) (moment : ℕ) (choice : List ℕ) (view : View W) (disk : Disk)
    → (image : Reads) × LeavesBy bench moment choice image × IsNewBench image view × IsAtRest image disk
    → (names : List (List ℕ)) → AreKnown bench names → (i : ℕ) (n : List ℕ)
    → i < length names → n ≡ get_or names i [] → view.reads n ≡ left_in bench moment n (get_or choice i 0)
left_at bench moment choice view disk (image, leaves, new, rests) names known i n before at =
    let one : names ≡ leaves.names =
    same_names names leaves.names known.sorted leaves.known.sorted
    (λ m. known.those m ∙ sym (leaves.known.those m)) in
    new.reads n ∙ leaves.each i n (subst (λ (l : List (List ℕ)). i < length l) one before)
    (subst (λ (l : List (List ℕ)). n ≡ get_or l i []) one at)

pub returns : goal.returns
returns g c = IfOk-weaker _ _ _ (λ left. left_at _ _ _ _ _) c.crash.ensures.left
