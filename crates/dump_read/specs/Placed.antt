-- A statement that was read, and the place behind it.
use Rattle.dump_lex.specs.Place.{Place}
use Rattle.dump_read.specs.declared.reader.Located.{Located}
use Rattle.dump_read.specs.Reading.{PlacedStatement}

abbrev pub placed : Located → Place → PlacedStatement
placed x after = record { line = x.line; statement = x.statement; after = after }
