-- The page rules of PostgreSQL's storage chapter, "Database Page Layout": the fields of the header, the
-- line pointers behind it, and what makes a block no page.
use Rattle.std.specs.Prelude.{◌≡◌, ◌≢◌, ◌⊎◌, All, ℕ, ◌+◌, ◌-◌, ◌*◌, ◌/◌, ◌≤◌, ◌==◌, ◌&&◌, nat_le, Bool, if◌then◌else◌, List, length, Option, Some, None, option_map}
use Rattle.std.specs.List.{list_all, filter_map, range_with_len}
use Rattle.heap_page.specs.declared.layout.TheConstants.{PAGE_SIZE, PAGE_HEADER_SIZE, LOWER_AT, UPPER_AT, SPECIAL_AT, SIZE_VERSION_AT, SIZE_VERSION, LINE_POINTER_SIZE}
use Rattle.heap_page.specs.declared.error.PageError.{PageError}
use Rattle.heap_page.specs.declared.error.PageError.TheVariants.{Size, Bounds, Version}
use Rattle.heap_page.specs.declared.line.LinePointer.{LinePointer}
use Rattle.heap_page.specs.declared.line.LineState.TheVariants.{Normal}
use Rattle.heap_page.specs.Numbers.{u16_at, u32_at}
use Rattle.heap_page.specs.Line.{LineItem, pointer_of, pointer_item, tuple_of, ends_by}

-- where the line pointers end
abbrev pub lower : List ℕ → ℕ
lower page = u16_at page LOWER_AT

-- where the tuples begin
abbrev pub upper : List ℕ → ℕ
upper page = u16_at page UPPER_AT

-- where the tuples end
abbrev pub special : List ℕ → ℕ
special page = u16_at page SPECIAL_AT

-- how many lines a page has: as many as whole line pointers fit between the header and `lower`
abbrev pub line_count : List ℕ → ℕ
line_count page = (lower page - PAGE_HEADER_SIZE) / LINE_POINTER_SIZE

-- the line pointer of a line; lines count from 1
abbrev pub line_pointer : List ℕ → ℕ → LinePointer
line_pointer page line = pointer_of (u32_at page (PAGE_HEADER_SIZE + LINE_POINTER_SIZE * (line - 1)))

-- where the tuple of a normal line ends
abbrev pub tuple_end : List ℕ → ℕ → ℕ
tuple_end page line = let pointer = line_pointer page line in pointer.offset + pointer.length

-- whether all bytes are zero, as in a block that was added to the file and not yet used
abbrev pub is_zero : List ℕ → Bool
is_zero page = list_all (λ byte. byte == 0) page

-- whether the header's bounds are in order
abbrev pub header_in_bounds : List ℕ → Bool
header_in_bounds page =
    nat_le PAGE_HEADER_SIZE (lower page) && nat_le (lower page) (upper page) && nat_le (upper page) (special page) && nat_le (special page) PAGE_SIZE

-- whether a line's tuple, if it has one, lies within the page
abbrev pub line_in_bounds : List ℕ → ℕ → Bool
line_in_bounds page line =
    let pointer = line_pointer page line in ends_by PAGE_SIZE pointer.offset pointer.length pointer.state

-- whether each line's does
abbrev pub lines_in_bounds : List ℕ → Bool
lines_in_bounds page = list_all (line_in_bounds page) (range_with_len 1 (line_count page))

-- why a block is no page, if it is none: the first of the three that holds
abbrev pub page_error : List ℕ → Option PageError
page_error block =
    if length block == PAGE_SIZE then
    (if is_zero block then None else (if header_in_bounds block && lines_in_bounds block then
    (if u16_at block SIZE_VERSION_AT == SIZE_VERSION then None else Some Version)
    else Some Bounds))
    else Some Size

-- the bounds of the header are in order, and the tuple of each normal line ends within the page
pub record IsInBounds (page : List ℕ) : Type 0 where
  pub header : PAGE_HEADER_SIZE ≤ lower page
  pub free_space : lower page ≤ upper page
  pub tuples : upper page ≤ special page
  pub special_space : special page ≤ PAGE_SIZE
  pub lines : (line : ℕ) → 1 ≤ line → line ≤ line_count page → (line_pointer page line).state ≡ Normal → tuple_end page line ≤ PAGE_SIZE

-- a block is a page: it has the size of one, and is of zeros alone, or its bounds hold and it says the size and version
abbrev pub IsPage : List ℕ → Type 0
IsPage block =
    (length block ≡ PAGE_SIZE) × (All (λ byte. byte ≡ 0) block ⊎ (IsInBounds block × (u16_at block SIZE_VERSION_AT ≡ SIZE_VERSION)))

-- a block is no page for this reason, and for none that goes before it
abbrev pub IsRefusedAs : List ℕ → PageError → Type 0
IsRefusedAs block Size = length block ≢ PAGE_SIZE
IsRefusedAs block Bounds =
    (length block ≡ PAGE_SIZE) × ¬ All (λ byte. byte ≡ 0) block × ¬ IsInBounds block
IsRefusedAs block Version =
    (length block ≡ PAGE_SIZE) × ¬ All (λ byte. byte ≡ 0) block × IsInBounds block × (u16_at block SIZE_VERSION_AT ≢ SIZE_VERSION)

-- the item of a line, where the page has that line
abbrev pub item_at : List ℕ → ℕ → Option LineItem
item_at page line =
    if nat_le 1 line && nat_le line (line_count page) then Some (pointer_item page (line_pointer page line)) else None

-- a line and its tuple, where the line is normal
abbrev pub normal_line : List ℕ → ℕ → Option (ℕ × List ℕ)
normal_line page line = option_map (λ bytes. (line, bytes)) (tuple_of (pointer_item page (line_pointer page line)))

-- the normal lines of a page with their tuples, in order
abbrev pub items_of : List ℕ → List (ℕ × List ℕ)
items_of page = filter_map (normal_line page) (range_with_len 1 (line_count page))
