-- How the version of a footer stands in its JSON.
use Rattle.std.specs.Prelude.{◌≡◌, codes, Some}
use Rattle.serde_json.specs.Data.{Data}
use Rattle.tv_formats.specs.FooterForm.{u32_at}
use Rattle.tv_base.specs.declared.versions.Version.{Version}

-- the tree is an object that has the fields of the version, whatever else it has
pub record IsVersion (d : Data) (version : Version) : Type 0 where
  pub major : u32_at (codes "major") d ≡ Some version.major
  pub minor : u32_at (codes "minor") d ≡ Some version.minor
  pub patch : u32_at (codes "patch") d ≡ Some version.patch
  pub format : u32_at (codes "index_format_version") d ≡ Some version.index_format_version
