-- How the words of an upgrade or a report are read one after another, for the contracts of this crate's own functions.
use Rattle.std.specs.Prelude.{◌||◌, if◌then◌else◌, ◌==◌, nat_le, List, [], ◌∷◌, ◌≡◌, ◌++◌, length, codes, bytes_eq, Option, Some, None, is_some}
use Rattle.std.specs.Option.{option_and_then, option_map}
use Rattle.fs_model.specs.Names.{Path}
use Rattle.fs_model.specs.PathText.{path_in}
use Rattle.control_file.specs.declared.modes.Mode.TheVariants.{Copy, Link}
use Rattle.control_file.specs.declared.modes.Side.{Side}
use Rattle.control_file.specs.declared.modes.Side.TheVariants.{Old, New}
use Rattle.command_words.specs.declared.chosen.Chosen.{Chosen}
use Rattle.command_words.specs.declared.chosen.Reader.{Reader}
use Rattle.command_words.specs.declared.chosen.Flag.{Flag}
use Rattle.command_words.specs.declared.chosen.Flag.TheVariants.{ChecksOnly, Carries, Reports}
use Rattle.command_words.specs.Words.{Word, Directory, Says, choose, long_option, MayName}

abbrev pub ready : Chosen → Reader
ready chosen = record { chosen = chosen; awaits = None }

-- the directory that a word names
abbrev pub dir_named : Word → Option Path
dir_named word = if nat_le (length word) 1024 then path_in word else None

abbrev pub dir_of : Chosen → Side → Option Path
dir_of chosen Old = chosen.old
dir_of chosen New = chosen.new

-- the word behind this beginning
abbrev pub after : Word → Word → Option Word
after [] word = Some word
after (byte ∷ start) [] = None
after (byte ∷ start) (first ∷ word) = if byte == first then after start word else None

abbrev pub take_dir : Chosen → Side → Word → Option Reader
take_dir chosen side word = option_and_then (λ dir. option_map ready (choose chosen (Directory side dir))) (dir_named word)

abbrev pub await_dir : Chosen → Side → Option Reader
await_dir chosen side = if is_some (dir_of chosen side) then None else Some (record { chosen = chosen; awaits = Some side })

-- what a word says of itself
abbrev pub flag : Word → Option Flag
flag word =
    if bytes_eq word (codes "--check") || bytes_eq word (codes "-c") then Some ChecksOnly
    else if bytes_eq word (codes "--copy") then Some (Carries Copy)
    else if bytes_eq word (codes "--link") || bytes_eq word (codes "-k") then Some (Carries Link)
    else if bytes_eq word (codes "--report") then Some Reports
    else None

abbrev pub take_flag : Chosen → Option Flag → Option Reader
take_flag chosen None = None
take_flag chosen (Some flag) = option_map ready (choose chosen (Says flag))

abbrev pub take_long : Chosen → Word → Option Word → Option Word → Option Reader
take_long chosen word (Some old) new = take_dir chosen Old old
take_long chosen word None (Some new) = take_dir chosen New new
take_long chosen word None None = take_flag chosen (flag word)

-- the reader after one word more, where there is one
abbrev pub take_option : Chosen → Word → Option Reader
take_option chosen word =
    if bytes_eq word (codes "-d") then await_dir chosen Old
    else if bytes_eq word (codes "-D") then await_dir chosen New
    else take_long chosen word (after (codes "--old-datadir=") word) (after (codes "--new-datadir=") word)

abbrev pub take_by : Chosen → Option Side → Word → Option Reader
take_by chosen None word = take_option chosen word
take_by chosen (Some side) word = take_dir chosen side word

abbrev pub take_word : Reader → Word → Option Reader
take_word reader word = take_by reader.chosen reader.awaits word

abbrev pub take_words : Reader → List Word → Option Reader
take_words reader [] = Some reader
take_words reader (word ∷ words) = option_and_then (λ next. take_words next words) (take_word reader word)

-- the word has the long option of a side, and behind it one that may name a directory
abbrev pub HasLong : Word → Type 0
HasLong word = (side : Side) × (rest : Word) × (word ≡ long_option side ++ rest) × MayName rest

-- a word for which a reader may lack memory
abbrev pub TakesMemory : Option Side → Word → Type 0
TakesMemory (Some side) word = MayName word
TakesMemory None word = HasLong word
