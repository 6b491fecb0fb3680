-- The commit and the settings that a value has.
use Rattle.std.specs.Prelude.{ℕ, List, Option, option_map, map, String, string_bytes}
use Rattle.std.specs.declared.alloc.Global.{Global}
use Rattle.tv_formats.specs.Commits.{Commit, Settings}
use Rattle.tv_metas.specs.declared.index_meta.UntrackedIndexMeta.{UntrackedIndexMeta}
use Rattle.tv_metas.specs.Settings.{settings_view}
use Rattle.tv_metas.specs.Segments.{entry_of}

-- the bytes of a text that may be left out
abbrev pub text_of : Option (String Global) → Option (List ℕ)
text_of text = option_map string_bytes text

-- the settings that were read, as definitions see them
abbrev pub settings_of : UntrackedIndexMeta → Settings
settings_of meta = settings_view meta.index_settings

-- the commit that was read, as definitions see it
abbrev pub commit_of : UntrackedIndexMeta → Commit
commit_of meta = record {
  opstamp = meta.opstamp;
  payload = text_of meta.payload;
  segments = map entry_of meta.segments.items;
}
