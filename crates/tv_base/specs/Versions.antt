-- The version of this library, and the text of a version.
use Rattle.std.specs.Prelude.{List, ℕ, ◌++◌, codes, decimal}
use Rattle.tv_base.specs.declared.versions.Version.{Version}

-- the version of this library: 0.26.2, which writes files of format 7
abbrev pub library_version : Version
library_version = record { major = 0; minor = 26; patch = 2; index_format_version = 7 }

-- `tantivy vMAJOR.MINOR.PATCH, index_format vFORMAT`, each number in decimal digits
abbrev pub version_text : Version → List ℕ
version_text v =
    codes "tantivy v" ++ (decimal v.major ++ (codes "." ++ (decimal v.minor
    ++ (codes "." ++ (decimal v.patch
    ++ (codes ", index_format v" ++ decimal v.index_format_version))))))
