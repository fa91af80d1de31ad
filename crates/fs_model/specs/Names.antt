-- Names and paths as lists of bytes.
use Rattle.std.specs.Prelude.{◌≡◌, ℕ, ◌-◌, Bool, not, ◌&&◌, ◌||◌, ◌==◌, nat_le, List, ◌++◌, length, take, codes, bytes_eq}
use Rattle.std.specs.List.{list_all}
use Rattle.std.specs.declared.cmp.Ordering.{Ordering}
use Rattle.std.specs.Ordering.{nat_cmp, eq_by_cmp}
use Rattle.std.specs.Cmp.Lexicographic.{slice_cmp}

-- the byte `/`
abbrev pub slash : ℕ
slash = 47

-- a byte that a name may have
abbrev pub is_name_byte : ℕ → Bool
is_name_byte b = not (b == slash) && not (b == 0)

-- the text of a name: 1 to 255 bytes, neither `.` nor `..`
abbrev pub is_name : List ℕ → Bool
is_name text = not (length text == 0) && nat_le (length text) 255 && list_all is_name_byte text && not (bytes_eq text (codes ".") || bytes_eq text (codes ".."))

-- the names from the root, each as its bytes
abbrev pub Path : Type 0
Path = List (List ℕ)

abbrev pub path_cmp : Path → Path → Ordering
path_cmp = slice_cmp (slice_cmp nat_cmp)

abbrev pub same_path : Path → Path → Bool
same_path = eq_by_cmp path_cmp

-- the directory that a path stands in: all names but the last
abbrev pub parent : Path → Path
parent path = take (length path - 1) path

-- the path is `top` or below it
abbrev pub IsUnder : Path → Path → Type 0
IsUnder top path = (rest : Path) × (path ≡ top ++ rest)

-- whether the path is `top` or below it
abbrev pub is_under : Path → Path → Bool
is_under top path = same_path (take (length top) path) top
