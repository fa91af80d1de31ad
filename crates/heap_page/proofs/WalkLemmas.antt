-- One step of the walk over the lines of a page.
use Rattle.std.proofs.Common.{◌≡◌, ℕ, suc, ◌+◌, ◌-◌, ◌<◌, Bor, List, ◌∷◌, Option, None, refl, ap, ◌∙◌, arith}
use Rattle.std.specs.Prelude.{option_map}
use Rattle.std.specs.List.{cons_option}
use Rattle.heap_page.specs.Line.{LineItem, tuple, tuple_of, pointer_item}
use Rattle.heap_page.specs.Page.{normal_line, line_pointer}
use Rattle.heap_page.specs.Cursor.{lines_left}
use Rattle.heap_page.specs.Item.{item_value}
use Rattle.heap_page.specs.declared.items.Item.{Item}
use Rattle.heap_page.specs.declared.items.Item.TheVariants.{Unused, Tuple, Redirect, Dead}

-- the first line of a range comes before the others
lines_left-step : (page : List ℕ) (line end : ℕ) → line < end → lines_left page line end ≡ cons_option (normal_line page line) (lines_left page (line + 1) end)
lines_left-step page line end h =
    let more : end - line ≡ suc (end - (line + 1)) = omega arith in
    rw more refl

pub lines_left-tuple : (page : List ℕ) (line end : ℕ) (bytes : List ℕ) → line < end → pointer_item page (line_pointer page line) ≡ tuple bytes → lines_left page line end ≡ (line, bytes) ∷ lines_left page (line + 1) end
lines_left-tuple page line end bytes h normal =
    lines_left-step page line end h
    ∙ ap (λ (item : LineItem). cons_option (option_map (λ (b : List ℕ). (line, b)) (tuple_of item)) (lines_left page (line + 1) end)) normal

pub lines_left-other : (page : List ℕ) (line end : ℕ) → line < end → tuple_of (pointer_item page (line_pointer page line)) ≡ None → lines_left page line end ≡ lines_left page (line + 1) end
lines_left-other page line end h other =
    lines_left-step page line end h
    ∙ ap (λ (found : Option (List ℕ)). cons_option (option_map (λ (b : List ℕ). (line, b)) found) (lines_left page (line + 1) end)) other

-- an item that isn't a tuple has none
pub no_tuple : (item : Item) → ((bytes : Bor (List ℕ)) → item ≡ Tuple bytes → ⊥) → tuple_of (item_value item) ≡ None
no_tuple Unused h = refl
no_tuple (Tuple bytes) h = absurd (h bytes refl)
no_tuple (Redirect line) h = refl
no_tuple Dead h = refl
