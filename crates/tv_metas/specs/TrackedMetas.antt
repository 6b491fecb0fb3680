-- The commit and the settings of a value whose segments are shares.
use Rattle.std.specs.Prelude.{ℕ, ◌≡◌, List, [], ◌∷◌, map, IsPermutation}
use Rattle.std.specs.BTreeMap.{insert_entry}
use Rattle.std.specs.List.Sorted.{IsStrictlySortedBy}
use Rattle.tv_formats.specs.declared.segment.LiveSegment.{LiveSegment}
use Rattle.tv_formats.specs.Commits.{Commit, IndexForm, Settings}
use Rattle.tv_formats.specs.Names.{byte_cmp}
use Rattle.tv_metas.specs.declared.tracked_meta.IndexMeta.{IndexMeta}
use Rattle.tv_metas.specs.Metas.{text_of}
use Rattle.tv_metas.specs.Settings.{settings_view}

-- the settings of a tracked commit, as definitions see them
abbrev pub tracked_settings : IndexMeta → Settings
tracked_settings meta = settings_view meta.index_settings

-- how the index of a tracked commit is made: its settings, and the text of its schema
abbrev pub tracked_form : IndexMeta → IndexForm
tracked_form meta = record { settings = tracked_settings meta; schema = meta.schema }

-- a tracked commit as definitions see it, with the segments in the order in which they stand there
abbrev pub tracked_commit : IndexMeta → Commit
tracked_commit meta = record {
  opstamp = meta.opstamp;
  payload = text_of meta.payload;
  segments = map (λ s. s.1) meta.segments.items;
}

-- a commit has the same segments as another one, in the order of their ids, none of which stands twice
pub record IsInOrder (commit ordered : Commit) : Type 0 where
  pub opstamp : ordered.opstamp ≡ commit.opstamp
  pub payload : ordered.payload ≡ commit.payload
  pub same : IsPermutation commit.segments ordered.segments
  pub sorted : IsStrictlySortedBy byte_cmp (map (λ e. e.0) ordered.segments)

-- entries, put one after the other to those that were found before
abbrev pub put_all : (found es : List (List ℕ × LiveSegment)) → List (List ℕ × LiveSegment)
put_all found [] = found
put_all found (e ∷ es) = put_all (insert_entry byte_cmp found e.0 e.1) es
