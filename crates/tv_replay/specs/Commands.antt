-- The commands of the program.
use Rattle.std.specs.Prelude.{ℕ, ◌≡◌, ◌≢◌, ◌≤◌, ◌⊎◌, List, [], ◌∷◌, Option, Some, None, codes}
use Rattle.std.specs.Fmt.{decimal}
use Rattle.tv_replay.specs.declared.command.Command.{Command}
use Rattle.tv_replay.specs.declared.command.Command.TheVariants as commands

-- the words that replay a script over a folder, with the schema of a path
abbrev pub replay_words : List ℕ → List ℕ → List (List ℕ)
replay_words folder path = codes "replay" ∷ folder ∷ path ∷ []

-- the words that measure the index of a folder, with the schema of a path
abbrev pub space_words : List ℕ → List ℕ → List (List ℕ)
space_words folder path = codes "space" ∷ folder ∷ path ∷ []

-- the words ask for this folder, and for the schema of this path
abbrev pub AskFor : List (List ℕ) → (folder path : List ℕ) → Type 0
AskFor words folder path = (words ≡ replay_words folder path) ⊎ (words ≡ space_words folder path)

-- the words that generate a script of so many commits
abbrev pub generate_words : ℕ → List (List ℕ)
generate_words n = codes "generate" ∷ decimal n ∷ []

-- the most commits of which a script is generated
abbrev pub most_commits : ℕ
most_commits = 1000

-- the words are of no command
pub record IsNoCommand (words : List (List ℕ)) : Type 0 where
  pub no_replay : (folder path : List ℕ) → words ≢ replay_words folder path
  pub no_space : (folder path : List ℕ) → words ≢ space_words folder path
  pub no_generate : (n : ℕ) → n ≤ most_commits → words ≢ generate_words n

-- the command that the words are of, where they are of one
abbrev pub IsCommandOf : List (List ℕ) → Option Command → Type 0
IsCommandOf words (Some (commands.Replay folder path)) = words ≡ replay_words folder.now path.now
IsCommandOf words (Some (commands.Space folder path)) = words ≡ space_words folder.now path.now
IsCommandOf words (Some (commands.Generate n)) = (words ≡ generate_words n) × (n ≤ most_commits)
IsCommandOf words None = IsNoCommand words
