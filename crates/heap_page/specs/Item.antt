-- What an `Item` says, whatever the place of its bytes in memory.
use Rattle.heap_page.specs.Line.{LineItem, unused, tuple, redirect, dead}
use Rattle.heap_page.specs.declared.items.Item.{Item}
use Rattle.heap_page.specs.declared.items.Item.TheVariants.{Unused, Tuple, Redirect, Dead}

abbrev pub item_value : Item → LineItem
item_value Unused = unused
item_value (Tuple bytes) = tuple bytes.now
item_value (Redirect line) = redirect line
item_value Dead = dead
