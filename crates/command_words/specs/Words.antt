-- The accepted command lines, and the position of a usage fault.
use Rattle.std.specs.Prelude.{◌≡◌, ◌⊎◌, ◌+◌, ◌<◌, ◌≤◌, ℕ, Bool, true, false, ◌||◌, if◌then◌else◌, List, [], ◌∷◌, ◌++◌, length, take, map, codes, slice_get, string_bytes, Option, Some, None, is_some}
use Rattle.std.specs.Prelude.{String}
use Rattle.std.specs.Option.{option_and_then, unwrap_or}
use Rattle.std.specs.Fmt.{decimal}
use Rattle.std.specs.Global.{Global}
use Rattle.fs_model.specs.Names.{Path}
use Rattle.fs_model.specs.PathText.{path_in, begins_with_slash}
use Rattle.control_file.specs.declared.modes.Mode.{Mode}
use Rattle.control_file.specs.declared.modes.Mode.TheVariants.{Copy, Link}
use Rattle.control_file.specs.declared.modes.Side.{Side}
use Rattle.control_file.specs.declared.modes.Side.TheVariants.{Old, New}
use Rattle.command_words.specs.declared.command.Command.{Command}
use Rattle.command_words.specs.declared.command.Command.TheVariants.{Upgrade, Report, Selftest}
use Rattle.command_words.specs.declared.chosen.Chosen.{Chosen}
use Rattle.command_words.specs.declared.chosen.Flag.{Flag}
use Rattle.command_words.specs.declared.chosen.Flag.TheVariants.{ChecksOnly, Carries, Reports}

abbrev pub Word : Type 0
Word = List ℕ

-- the words as their bytes
abbrev pub texts : List (String Global) → List Word
texts words = map string_bytes words

-- a word that names a data directory: at most 1,024 bytes that read as a path
pub record NamesDirectory (word : Word) (dir : Path) : Type 0 where
  pub short : length word ≤ 1024
  pub read : path_in word ≡ Some dir

-- ---- upgrades and reports

-- what an option chooses
pub data Choice : Type 0 where
  Directory : Side → Path → Choice
  Says : Flag → Choice

abbrev pub short_option : Side → Word
short_option Old = codes "-d"
short_option New = codes "-D"

abbrev pub long_option : Side → Word
long_option Old = codes "--old-datadir="
long_option New = codes "--new-datadir="

-- the words that spell a choice
abbrev pub Spells : Choice → List Word → Type 0
Spells (Directory side dir) words =
    ((word : Word) × (words ≡ short_option side ∷ word ∷ []) × NamesDirectory word dir)
    ⊎ ((word : Word) × (words ≡ (long_option side ++ word) ∷ []) × NamesDirectory word dir)
Spells (Says ChecksOnly) words = (words ≡ codes "--check" ∷ []) ⊎ (words ≡ codes "-c" ∷ [])
Spells (Says (Carries Copy)) words = words ≡ codes "--copy" ∷ []
Spells (Says (Carries Link)) words = (words ≡ codes "--link" ∷ []) ⊎ (words ≡ codes "-k" ∷ [])
Spells (Says Reports) words = words ≡ codes "--report" ∷ []

-- the words that spell some choices one after another
abbrev pub SpellsAll : List Choice → List Word → Type 0
SpellsAll [] words = words ≡ []
SpellsAll (choice ∷ choices) words = (front : List Word) × (back : List Word) × (words ≡ front ++ back) × Spells choice front × SpellsAll choices back

-- nothing is chosen yet
abbrev pub no_choice : Chosen
no_choice = record { old = None; new = None; check = false; mode = None; report = false }

-- One choice more, where none like it was made before; a report goes with directories alone.
abbrev pub choose : Chosen → Choice → Option Chosen
choose chosen (Directory Old dir) = if is_some chosen.old then None else Some (record { old = Some dir; new = chosen.new; check = chosen.check; mode = chosen.mode; report = chosen.report })
choose chosen (Directory New dir) = if is_some chosen.new then None else Some (record { old = chosen.old; new = Some dir; check = chosen.check; mode = chosen.mode; report = chosen.report })
choose chosen (Says ChecksOnly) = if chosen.check || chosen.report then None else Some (record { old = chosen.old; new = chosen.new; check = true; mode = chosen.mode; report = chosen.report })
choose chosen (Says (Carries mode)) = if is_some chosen.mode || chosen.report then None else Some (record { old = chosen.old; new = chosen.new; check = chosen.check; mode = Some mode; report = chosen.report })
choose chosen (Says Reports) = if chosen.report || (chosen.check || is_some chosen.mode) then None else Some (record { old = chosen.old; new = chosen.new; check = chosen.check; mode = chosen.mode; report = true })

abbrev pub choose_all : Chosen → List Choice → Option Chosen
choose_all chosen [] = Some chosen
choose_all chosen (choice ∷ choices) = option_and_then (λ next. choose_all next choices) (choose chosen choice)

abbrev pub asked : Bool → Bool → Mode → Path → Path → Command
asked true check mode old new = Report old new
asked false check mode old new = Upgrade (record { old = old; new = new; mode = mode }) check

abbrev pub with_directories : Bool → Bool → Mode → Option Path → Option Path → Option Command
with_directories report check mode (Some old) (Some new) = Some (asked report check mode old new)
with_directories report check mode None new = None
with_directories report check mode (Some old) None = None

-- the command, where both directories are chosen; files are copied where no mode is chosen
abbrev pub command_of : Chosen → Option Command
command_of chosen = with_directories chosen.report chosen.check (unwrap_or chosen.mode Copy) chosen.old chosen.new

-- the words spell choices that are a command
abbrev pub AsksByChoices : List Word → Command → Type 0
AsksByChoices words command = (choices : List Choice) × SpellsAll choices words × (option_and_then command_of (choose_all no_choice choices) ≡ Some command)

-- ---- self-tests

abbrev pub most_tables : ℕ
most_tables = 200

-- `--selftest N` or `--selftest N --link`
abbrev pub AsksSelftest : List Word → Command → Type 0
AsksSelftest words command =
    (tables : ℕ) × (tables ≤ most_tables)
    × (((words ≡ codes "--selftest" ∷ decimal tables ∷ []) × (command ≡ Selftest tables Copy))
    ⊎ ((words ≡ codes "--selftest" ∷ decimal tables ∷ codes "--link" ∷ []) × (command ≡ Selftest tables Link)))

-- ---- accepted lines

abbrev pub Accepts : List Word → Command → Type 0
Accepts words command = AsksByChoices words command ⊎ AsksSelftest words command

-- the words begin an accepted list
abbrev pub Begins : List Word → Type 0
Begins words = (more : List Word) × (command : Command) × Accepts (words ++ more) command

-- The words aren't accepted, and this is the least position such that the words up to and with it begin no accepted list;
-- their number, where all of them begin one.
pub record IsFaultAt (words : List Word) (position : ℕ) : Type 0 where
  pub not_accepted : (command : Command) → Accepts words command → ⊥
  pub within : position ≤ length words
  pub before : (n : ℕ) → n < position → Begins (take (n + 1) words)
  pub here : position < length words → Begins (take (position + 1) words) → ⊥

-- ---- want of memory

-- a word of at most 1,024 bytes that begins with `/`
pub record MayName (word : Word) : Type 0 where
  pub short : length word ≤ 1024
  pub slash : begins_with_slash word ≡ true

-- such a word stands behind the short option of a side, or in its long one
abbrev pub AsksForDirectory : List Word → Type 0
AsksForDirectory words =
    (side : Side) × (word : Word) × MayName word × (position : ℕ)
    × (((slice_get words position ≡ Some (short_option side)) × (slice_get words (position + 1) ≡ Some word))
    ⊎ (slice_get words position ≡ Some (long_option side ++ word)))
