-- How a text reads as a path, and which text a path has.
use Rattle.std.specs.Prelude.{ℕ, Bool, false, not, ◌&&◌, ◌==◌, if◌then◌else◌, List, [], ◌∷◌, ◌++◌, length, Option, Some, None}
use Rattle.std.specs.List.{list_all, filter, slice_split}
use Rattle.fs_model.specs.Names.{Path, slash, is_name}

-- the parts that are not empty
abbrev pub filled : List (List ℕ) → List (List ℕ)
filled = filter (λ part. not (length part == 0))

-- what stands between the slashes of a text
abbrev pub parts : List ℕ → List (List ℕ)
parts text = filled (slice_split (λ b. b == slash) text)

-- whether the text begins with a slash
abbrev pub begins_with_slash : List ℕ → Bool
begins_with_slash [] = false
begins_with_slash (b ∷ text) = b == slash

-- A text reads as a path where it begins with `/` and each part between its slashes is a name; the path has these names.
abbrev pub path_in : List ℕ → Option Path
path_in [] = None
path_in (b ∷ text) = if b == slash && list_all is_name (parts text) then Some (parts text) else None

-- each name behind a slash
abbrev pub joined : Path → List ℕ
joined [] = []
joined (name ∷ names) = (slash ∷ name) ++ joined names

-- the text of a path; the root's is `/`
abbrev pub text_of : Path → List ℕ
text_of [] = slash ∷ []
text_of (name ∷ names) = joined (name ∷ names)
