-- A walk over the lines of a page.
use Rattle.std.specs.Prelude.{◌≡◌, ℕ, ◌+◌, ◌-◌, ◌≤◌, List, None}
use Rattle.std.specs.List.{filter_map, range_with_len}
use Rattle.heap_page.specs.Page.{normal_line, line_count, page_error}

-- the normal lines from a line on, before `end`
abbrev pub lines_left : List ℕ → ℕ → ℕ → List (ℕ × List ℕ)
lines_left page line end = filter_map (normal_line page) (range_with_len line (end - line))

-- the walk stands at a line of a page, or behind the last
pub record IsCursor (page : List ℕ) (line end : ℕ) : Type 0 where
  pub sound : page_error page ≡ None
  pub first : 1 ≤ line
  pub before_end : line ≤ end
  pub ends : end ≡ line_count page + 1
