-- What the catalog's errors are to a text, and what a call made of a state.
use Rattle.catalog.specs.declared.error.CatalogError.{CatalogError}
use Rattle.catalog.specs.declared.error.CatalogError.TheVariants.{OidTaken, NameTaken, FileTaken, NoSuch, TooMany, OutOfMemory}
use Rattle.catalog.specs.Cluster.{Cluster}
use Rattle.dump_grammar.specs.declared.error.TextCause.{TextCause}
use Rattle.dump_grammar.specs.declared.error.TextCause.TheVariants as causes
use Rattle.dump_rules.specs.declared.numbers.Session.{Session}
use Rattle.dump_rules.specs.Rules.{State}

abbrev pub cause_of : CatalogError → TextCause
cause_of OidTaken = causes.Catalog OidTaken
cause_of NameTaken = causes.Catalog NameTaken
cause_of FileTaken = causes.Catalog FileTaken
cause_of NoSuch = causes.Catalog NoSuch
cause_of TooMany = causes.Catalog TooMany
cause_of OutOfMemory = causes.OutOfMemory

abbrev pub state_of : Cluster → Session → State
state_of c session = record { catalog = c; session = session }
