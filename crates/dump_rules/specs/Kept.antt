-- The columns of a table that are kept to be added.
use Rattle.std.specs.Prelude.{List, take}
use Rattle.catalog.specs.declared.relations.Column.{Column}

-- enough to show that there are too many
abbrev pub kept : List Column → List Column
kept columns = take 1601 columns
