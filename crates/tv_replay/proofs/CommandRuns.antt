-- Runs of the program, by their command.
use Rattle.std.proofs.Common.{◌≡◌, ◌≢◌, ℕ, ◌≤◌, List, Option, Some, sym, ap, subst, ◌∙◌, arith}
use Rattle.std.specs.Fmt.{decimal}
use Rattle.tv_device.specs.declared.directory.Directory.{Ghosts}
use Rattle.tv_replay.specs.Commands.{generate_words, most_commits, replay_words, space_words}
use Rattle.tv_script.specs.Fields.{number_at}
use Rattle.tv_replay.specs.PlaceView.{PlaceTold}
use Rattle.tv_replay.specs.Runs.{EndsGenerate, KeepsScript, Scene}
use Rattle.tv_replay.specs.SpaceRuns.{EndsSpace}
use Rattle.tv_replay.specs.WordRuns.{EndsRun}
use Rattle.tv_script.proofs.Numbers.{number_again}

-- ---- which command it is

pub not_both : (folder path : List ℕ) (n : ℕ) → replay_words folder path ≢ generate_words n
not_both folder path n same = let both : ◌≡◌ {A = List (List ℕ)} (replay_words folder path) (generate_words n) = same in absurd cc

pub not_space : (folder path : List ℕ) (n : ℕ) → space_words folder path ≢ generate_words n
not_space folder path n same = let both : ◌≡◌ {A = List (List ℕ)} (space_words folder path) (generate_words n) = same in absurd cc

pub one_of_two : (folder path a b : List ℕ) → space_words folder path ≢ replay_words a b
one_of_two folder path a b same = let both : ◌≡◌ {A = List (List ℕ)} (space_words folder path) (replay_words a b) = same in absurd cc

-- the same words ask for the same folder and the same schema
pub same_space : {a b c d : List ℕ} → space_words a b ≡ space_words c d → (a ≡ c) × (b ≡ d)
same_space e = (cc, cc)

same_number : (n m : ℕ) → n ≤ most_commits → m ≤ most_commits → generate_words n ≡ generate_words m → n ≡ m
same_number n m few less same =
    let digits : decimal n ≡ decimal m = cc in
    let both : ◌≡◌ {A = Option ℕ} (Some n) (Some m) =
    sym (number_again 1001 n (omega (arith, few)) (omega (arith, few))) ∙ ap (number_at 1001) digits ∙ number_again 1001 m (omega (arith, less)) (omega (arith, less)) in
    cc

module _ {O W C : Type 0} (g : Ghosts O W C) (told : PlaceTold) (words : List (List ℕ)) (old new : Scene O) (status : ℕ) where
  pub generated_so : (n : ℕ) → words ≡ generate_words n → n ≤ most_commits → EndsGenerate told n old.place new.place status → KeepsScript old new → EndsRun g told words old new status
  generated_so n are few ends script = record {
    replayed = λ f p is. absurd (not_both f p n (sym is ∙ are));
    measured = λ f p is. absurd (not_space f p n (sym is ∙ are));
    generated = λ m less is. (subst (λ (k : ℕ). EndsGenerate told k old.place new.place status) (same_number n m few less (sym are ∙ is)) ends, script);
  }

  pub measured_so : (folder path : List ℕ) → words ≡ space_words folder path → EndsSpace g told (record { folder = folder; path = path; old = old.place; new = new.place }) status → KeepsScript old new → EndsRun g told words old new status
  measured_so folder path are ends script = record {
    replayed = λ f p is. absurd (one_of_two folder path f p (sym are ∙ is));
    measured = λ f p is.
        let same = same_space (sym are ∙ is) in (
          subst (λ (x : List ℕ). EndsSpace g told (record { folder = f; path = x; old = old.place; new = new.place }) status) same.1
              (subst (λ (x : List ℕ). EndsSpace g told (record { folder = x; path = path; old = old.place; new = new.place }) status) same.0 ends),
          script,
        );
    generated = λ n less is. absurd (not_space folder path n (sym are ∙ is));
  }
