-- A place of real folders and files, of which nothing is told.
use Rattle.std.specs.Prelude.{ℕ, List, [], Option, None}
use Rattle.tv_base.specs.Texts.{counted}
use Rattle.tv_replay.specs.PlaceView.{PlaceView}

-- the folder that is lent, and how many calls were refused
pub record FolderPlaceState : Type 0 where
  pub lent : Option (List ℕ)
  pub faults : ℕ

-- all that is said of it: of schemas, scripts, folders and what was said nothing
abbrev pub place_view : {O : Type 0} → FolderPlaceState → PlaceView O
place_view place = record {
  schemas = λ path. None;
  scripts = λ path. None;
  kept = λ folder. None;
  lent = place.lent;
  said = [];
  faults = place.faults;
}

-- after a refused call
abbrev pub folder_refused : FolderPlaceState → FolderPlaceState
folder_refused place = record place { faults = counted place.faults }
