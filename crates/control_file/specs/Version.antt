-- The two releases: their texts, their catalog versions, and the release of a PG_VERSION file.
use Rattle.std.specs.Prelude.{ℕ, List, codes, Option, Some, None, if◌then◌else◌}
use Rattle.std.specs.Str.{bytes_eq}
use Rattle.control_file.specs.declared.releases.Release.{Release}
use Rattle.control_file.specs.declared.releases.Release.TheVariants.{V15, V16}

-- the whole text of a PG_VERSION file
abbrev pub version_text_of : Release → List ℕ
version_text_of V15 = codes "15\n"
version_text_of V16 = codes "16\n"

-- the number of the catalogs' layout
abbrev pub catalog_version_of : Release → ℕ
catalog_version_of V15 = 202209061
catalog_version_of V16 = 202307071

-- the release's own directory in a tablespace
abbrev pub dir_name_of : Release → List ℕ
dir_name_of V15 = codes "PG_15_202209061"
dir_name_of V16 = codes "PG_16_202307071"

-- the release that these bytes name, which are the whole of a PG_VERSION file
abbrev pub version_in : List ℕ → Option Release
version_in bytes =
    if bytes_eq bytes (version_text_of V15) then Some V15
    else (if bytes_eq bytes (version_text_of V16) then Some V16 else None)
