-- Words that are taken one after another are those that spell choices.
use Rattle.std.proofs.Common.{◌≡◌, ◌⊎◌, ◌++◌, ◌∷◌, ◌∙◌, [], Bool, true, false, cond, List, length, Option, Some, None, inl, inr, refl, sym, ap, subst}
use Rattle.std.specs.Prelude.{codes, is_some, bytes_eq, nat_le, ◌||◌}
use Rattle.std.specs.Option.{option_and_then, option_map, unwrap_or}
use Rattle.std.proofs.lemmas.Option.{option_and_then_some}
use Rattle.std.proofs.lemmas.Bool.{le-leb, leb-true}
use Rattle.std.proofs.lemmas.Slice.Eq.{bytes_eq-Decides}
use Rattle.fs_model.specs.Names.{Path}
use Rattle.fs_model.specs.PathText.{path_in}
use Rattle.control_file.specs.declared.modes.Mode.{Mode}
use Rattle.control_file.specs.declared.modes.Mode.TheVariants.{Copy, Link}
use Rattle.control_file.specs.declared.modes.Side.{Side}
use Rattle.control_file.specs.declared.modes.Side.TheVariants.{Old, New}
use Rattle.command_words.specs.declared.chosen.Chosen.{Chosen}
use Rattle.command_words.specs.declared.chosen.Reader.{Reader}
use Rattle.command_words.specs.declared.chosen.Flag.{Flag}
use Rattle.command_words.specs.declared.chosen.Flag.TheVariants.{ChecksOnly, Carries, Reports}
use Rattle.command_words.specs.declared.command.Command.{Command}
use Rattle.command_words.specs.Words.{Word, NamesDirectory, short_option, long_option, Choice, Directory, Says, Spells, SpellsAll, choose, choose_all, command_of, asked}
use Rattle.command_words.specs.Reading.{ready, dir_named, dir_of, after, take_dir, await_dir, take_flag, take_long, take_option, take_by, take_word, take_words}
use Rattle.command_words.proofs.Starts.{after_front}

pub take_words_append : (words more : List Word) (reader : Reader) → take_words reader (words ++ more) ≡ option_and_then (λ next. take_words next more) (take_words reader words)
take_words_append [] more reader = refl
take_words_append (word ∷ words) more reader =
    elim (take_word reader word) as (λ next. option_and_then (λ n. take_words n (words ++ more)) next ≡ option_and_then (λ n. take_words n more) (option_and_then (λ n. take_words n words) next))
    [ None ↦ refl | Some next ↦ take_words_append words more next ]

-- ---- words that spell choices are taken

pub named : (word : Word) (dir : Path) → NamesDirectory word dir → dir_named word ≡ Some dir
named word dir is = ap (λ b. cond b (path_in word) None) (le-leb (length word) 1024 is.short) ∙ is.read

unnamed : (word : Word) (dir : Path) → dir_named word ≡ Some dir → NamesDirectory word dir
unnamed word dir is = by (nat_le (length word) 1024) refl is
  where
    by : (b : Bool) → nat_le (length word) 1024 ≡ b → cond b (path_in word) None ≡ Some dir → NamesDirectory word dir
    by true short read = record { short = leb-true (length word) 1024 short; read = read }
    by false long read = absurd (cc read)

some_taken : (found : Option Reader) → option_and_then (λ next. take_words next []) found ≡ found
some_taken None = refl
some_taken (Some next) = refl

module _ (chosen : Chosen) (word : Word) (dir : Path) (is : dir_named word ≡ Some dir) where
  dir_taken : (side : Side) → take_dir chosen side word ≡ option_map ready (choose chosen (Directory side dir))
  dir_taken side = ap (option_and_then (λ d. option_map ready (choose chosen (Directory side d)))) is

  awaited : (side : Side) → option_and_then (λ next. take_words next (word ∷ [])) (await_dir chosen side) ≡ option_map ready (choose chosen (Directory side dir))
  awaited Old = by (is_some chosen.old) refl
    where
      by : (b : Bool) → is_some chosen.old ≡ b → option_and_then (λ next. take_words next (word ∷ [])) (cond b None (Some (record { chosen = chosen; awaits = Some Old }))) ≡ option_map ready (choose chosen (Directory Old dir))
      by true has = sym (ap (λ c. option_map ready (cond c None (Some (record { old = Some dir; new = chosen.new; check = chosen.check; mode = chosen.mode; report = chosen.report })))) has)
      by false none = some_taken (take_dir chosen Old word) ∙ dir_taken Old
  awaited New = by (is_some chosen.new) refl
    where
      by : (b : Bool) → is_some chosen.new ≡ b → option_and_then (λ next. take_words next (word ∷ [])) (cond b None (Some (record { chosen = chosen; awaits = Some New }))) ≡ option_map ready (choose chosen (Directory New dir))
      by true has = sym (ap (λ c. option_map ready (cond c None (Some (record { old = chosen.old; new = Some dir; check = chosen.check; mode = chosen.mode; report = chosen.report })))) has)
      by false none = some_taken (take_dir chosen New word) ∙ dir_taken New

one_taken : (choice : Choice) (front : List Word) (chosen : Chosen) → Spells choice front → take_words (ready chosen) front ≡ option_map ready (choose chosen choice)
one_taken (Directory Old dir) front chosen (inl (word, is, names)) = ap (take_words (ready chosen)) is ∙ awaited chosen word dir (named word dir names) Old
one_taken (Directory New dir) front chosen (inl (word, is, names)) = ap (take_words (ready chosen)) is ∙ awaited chosen word dir (named word dir names) New
one_taken (Directory Old dir) front chosen (inr (word, is, names)) = ap (take_words (ready chosen)) is ∙ some_taken (take_dir chosen Old word) ∙ dir_taken chosen word dir (named word dir names) Old
one_taken (Directory New dir) front chosen (inr (word, is, names)) = ap (take_words (ready chosen)) is ∙ some_taken (take_dir chosen New word) ∙ dir_taken chosen word dir (named word dir names) New
one_taken (Says ChecksOnly) front chosen (inl is) = ap (take_words (ready chosen)) is ∙ some_taken (option_map ready (choose chosen (Says ChecksOnly)))
one_taken (Says ChecksOnly) front chosen (inr is) = ap (take_words (ready chosen)) is ∙ some_taken (option_map ready (choose chosen (Says ChecksOnly)))
one_taken (Says (Carries Copy)) front chosen is = ap (take_words (ready chosen)) is ∙ some_taken (option_map ready (choose chosen (Says (Carries Copy))))
one_taken (Says (Carries Link)) front chosen (inl is) = ap (take_words (ready chosen)) is ∙ some_taken (option_map ready (choose chosen (Says (Carries Link))))
one_taken (Says (Carries Link)) front chosen (inr is) = ap (take_words (ready chosen)) is ∙ some_taken (option_map ready (choose chosen (Says (Carries Link))))
one_taken (Says Reports) front chosen is = ap (take_words (ready chosen)) is ∙ some_taken (option_map ready (choose chosen (Says Reports)))

pub all_taken : (choices : List Choice) (words : List Word) (chosen : Chosen) → SpellsAll choices words → take_words (ready chosen) words ≡ option_map ready (choose_all chosen choices)
all_taken [] words chosen is = ap (take_words (ready chosen)) is
all_taken (choice ∷ choices) words chosen (front, back, is, spells, rest) =
    ap (take_words (ready chosen)) is ∙ take_words_append front back (ready chosen) ∙ ap (option_and_then (λ next. take_words next back)) (one_taken choice front chosen spells)
    ∙ (elim (choose chosen choice) as (λ next. option_and_then (λ n. take_words n back) (option_map ready next) ≡ option_map ready (option_and_then (λ n. choose_all n choices) next))
    [ None ↦ refl | Some next ↦ all_taken choices back next rest ])

-- ---- words that are taken spell choices

-- what one word did: it is the short option of a side without a directory, or it spells a choice
abbrev pub Took : Chosen → Word → Reader → Type 0
Took chosen word next =
    ((side : Side) × (word ≡ short_option side) × (is_some (dir_of chosen side) ≡ false) × (next ≡ record { chosen = chosen; awaits = Some side }))
    ⊎ ((choice : Choice) × Spells choice (word ∷ []) × (last : Chosen) × (choose chosen choice ≡ Some last) × (next ≡ ready last))

mapped : (found : Option Chosen) (next : Reader) → option_map ready found ≡ Some next → (last : Chosen) × (found ≡ Some last) × (next ≡ ready last)
mapped None next is = absurd (cc is)
mapped (Some last) next is = (last, refl, cc is)

took_dir : (chosen : Chosen) (side : Side) (word : Word) (next : Reader) → take_dir chosen side word ≡ Some next → (dir : Path) × NamesDirectory word dir × (last : Chosen) × (choose chosen (Directory side dir) ≡ Some last) × (next ≡ ready last)
took_dir chosen side word next is = by (dir_named word) refl is
  where
    by : (found : Option Path) → dir_named word ≡ found → option_and_then (λ d. option_map ready (choose chosen (Directory side d))) found ≡ Some next → (dir : Path) × NamesDirectory word dir × (last : Chosen) × (choose chosen (Directory side dir) ≡ Some last) × (next ≡ ready last)
    by None none taken = absurd (cc taken)
    by (Some dir) here taken = let (last, chose, is_next) = mapped (choose chosen (Directory side dir)) next taken in (dir, unnamed word dir here, last, chose, is_next)

module _ (chosen : Chosen) (word : Word) (next : Reader) where
  same : (other : Word) → bytes_eq word other ≡ true → word ≡ other
  same other is = (bytes_eq-Decides word other).0 is

  alone : {text : Word} → word ≡ text → word ∷ [] ≡ text ∷ []
  alone is = ap (λ w. w ∷ []) is

  took_await : (side : Side) → word ≡ short_option side → await_dir chosen side ≡ Some next → Took chosen word next
  took_await side is taken = by (is_some (dir_of chosen side)) refl taken
    where
      by : (b : Bool) → is_some (dir_of chosen side) ≡ b → cond b None (Some (record { chosen = chosen; awaits = Some side })) ≡ Some next → Took chosen word next
      by true has found = absurd (cc found)
      by false none found = inl (side, is, none, sym (cc found))

  took_flag : (says : Flag) → Spells (Says says) (word ∷ []) → take_flag chosen (Some says) ≡ Some next → Took chosen word next
  took_flag says spells taken = let (last, chose, is_next) = mapped (choose chosen (Says says)) next taken in inr (Says says, spells, last, chose, is_next)

  took_by_flags : (check short_check copy link short_link report : Bool) → (check ≡ true → word ≡ codes "--check") → (short_check ≡ true → word ≡ codes "-c") → (copy ≡ true → word ≡ codes "--copy") → (link ≡ true → word ≡ codes "--link") → (short_link ≡ true → word ≡ codes "-k") → (report ≡ true → word ≡ codes "--report")
      → take_flag chosen (cond (check || short_check) (Some ChecksOnly) (cond copy (Some (Carries Copy)) (cond (link || short_link) (Some (Carries Link)) (cond report (Some Reports) None)))) ≡ Some next → Took chosen word next
  took_by_flags true short_check copy link short_link report is_1 is_2 is_3 is_4 is_5 is_6 taken = took_flag ChecksOnly (inl (alone (is_1 refl))) taken
  took_by_flags false true copy link short_link report is_1 is_2 is_3 is_4 is_5 is_6 taken = took_flag ChecksOnly (inr (alone (is_2 refl))) taken
  took_by_flags false false true link short_link report is_1 is_2 is_3 is_4 is_5 is_6 taken = took_flag (Carries Copy) (alone (is_3 refl)) taken
  took_by_flags false false false true short_link report is_1 is_2 is_3 is_4 is_5 is_6 taken = took_flag (Carries Link) (inl (alone (is_4 refl))) taken
  took_by_flags false false false false true report is_1 is_2 is_3 is_4 is_5 is_6 taken = took_flag (Carries Link) (inr (alone (is_5 refl))) taken
  took_by_flags false false false false false true is_1 is_2 is_3 is_4 is_5 is_6 taken = took_flag Reports (alone (is_6 refl)) taken
  took_by_flags false false false false false false is_1 is_2 is_3 is_4 is_5 is_6 taken = absurd (cc taken)

  long_taken : (side : Side) (rest : Word) → word ≡ long_option side ++ rest → take_dir chosen side rest ≡ Some next → Took chosen word next
  long_taken side rest is taken = let (dir, names, last, chose, is_next) = took_dir chosen side rest next taken in inr (Directory side dir, inr (rest, alone is, names), last, chose, is_next)

  took_long : (old new : Option Word) → after (codes "--old-datadir=") word ≡ old → after (codes "--new-datadir=") word ≡ new → take_long chosen word old new ≡ Some next → Took chosen word next
  took_long (Some old) new is_old is_new taken = long_taken Old old (after_front (codes "--old-datadir=") word old is_old) taken
  took_long None (Some new) is_old is_new taken = long_taken New new (after_front (codes "--new-datadir=") word new is_new) taken
  took_long None None is_old is_new taken =
      took_by_flags (bytes_eq word (codes "--check")) (bytes_eq word (codes "-c")) (bytes_eq word (codes "--copy")) (bytes_eq word (codes "--link")) (bytes_eq word (codes "-k")) (bytes_eq word (codes "--report"))
      (same (codes "--check")) (same (codes "-c")) (same (codes "--copy")) (same (codes "--link")) (same (codes "-k")) (same (codes "--report")) taken

  pub took : take_option chosen word ≡ Some next → Took chosen word next
  took taken = by (bytes_eq word (codes "-d")) (bytes_eq word (codes "-D")) (same (codes "-d")) (same (codes "-D")) taken
    where
      by : (old new : Bool) → (old ≡ true → word ≡ codes "-d") → (new ≡ true → word ≡ codes "-D")
          → cond old (await_dir chosen Old) (cond new (await_dir chosen New) (take_long chosen word (after (codes "--old-datadir=") word) (after (codes "--new-datadir=") word))) ≡ Some next → Took chosen word next
      by true new is_old is_new found = took_await Old (is_old refl) found
      by false true is_old is_new found = took_await New (is_new refl) found
      by false false is_old is_new found = took_long (after (codes "--old-datadir=") word) (after (codes "--new-datadir=") word) refl refl found

-- what the words that lead a reader to its end spell
abbrev pub Spelled : Chosen → Option Side → List Word → Chosen → Type 0
Spelled chosen None words last = (choices : List Choice) × SpellsAll choices words × (choose_all chosen choices ≡ Some last)
Spelled chosen (Some side) words last =
    (word : Word) × (rest : List Word) × (words ≡ word ∷ rest) × (dir : Path) × NamesDirectory word dir × (middle : Chosen) × (choose chosen (Directory side dir) ≡ Some middle)
    × (choices : List Choice) × SpellsAll choices rest × (choose_all middle choices ≡ Some last)

chosen_then : (chosen middle last : Chosen) (choice : Choice) (choices : List Choice) → choose chosen choice ≡ Some middle → choose_all middle choices ≡ Some last → choose_all chosen (choice ∷ choices) ≡ Some last
chosen_then chosen middle last choice choices first rest = ap (option_and_then (λ n. choose_all n choices)) first ∙ rest

pub spelled : (words : List Word) (chosen : Chosen) (awaits : Option Side) (last : Chosen) → take_words (record { chosen = chosen; awaits = awaits }) words ≡ Some (ready last) → Spelled chosen awaits words last
spelled [] chosen None last is = (let same : ready chosen ≡ ready last = cc is in ([], refl, ap (λ (r : Reader). Some r.chosen) same))
spelled [] chosen (Some side) last is =
    let same : record { chosen = chosen; awaits = Some side } ≡ ready last = cc is in
    let none : Some side ≡ None = ap (λ (r : Reader). r.awaits) same in
    absurd (cc none)
spelled (word ∷ words) chosen None last is =
    option_and_then_some (λ next. take_words next words) (take_option chosen word) (ready last) is
    (λ next here rest. elim (took chosen word next here) [
      | inl awaits ↦
          let (side, is_short, none, is_next) = awaits in
          let (value, others, are, dir, names, middle, chose, choices, spells, all) = spelled words chosen (Some side) last (ap (λ n. take_words n words) (sym is_next) ∙ rest) in
          (Directory side dir ∷ choices, (word ∷ value ∷ [], others, ap (λ l. word ∷ l) are, inl (value, ap (λ w. w ∷ value ∷ []) is_short, names), spells), chosen_then chosen middle last (Directory side dir) choices chose all)
      | inr chooses ↦
          let (choice, spells, middle, chose, is_next) = chooses in
          let (choices, others, all) = spelled words middle None last (ap (λ n. take_words n words) (sym is_next) ∙ rest) in
          (choice ∷ choices, (word ∷ [], words, refl, spells, others), chosen_then chosen middle last choice choices chose all)
    ])
spelled (word ∷ words) chosen (Some side) last is =
    option_and_then_some (λ next. take_words next words) (take_dir chosen side word) (ready last) is
    (λ next here rest.
    let (dir, names, middle, chose, is_next) = took_dir chosen side word next here in
    let (choices, others, all) = spelled words middle None last (ap (λ n. take_words n words) (sym is_next) ∙ rest) in
    (word, words, refl, dir, names, middle, chose, choices, others, all))

-- ---- each reader can be led to its end

-- a side whose directory is awaited has none
abbrev pub IsOpen : Reader → Type 0
IsOpen reader = (side : Side) → reader.awaits ≡ Some side → is_some (dir_of reader.chosen side) ≡ false

pub open_ready : (chosen : Chosen) → IsOpen (ready chosen)
open_ready chosen side is = absurd (cc is)

open_next : (reader next : Reader) (word : Word) → take_word reader word ≡ Some next → IsOpen next
open_next reader next word is = by reader.awaits is
  where
    by : (awaits : Option Side) → take_by reader.chosen awaits word ≡ Some next → IsOpen next
    by None taken = of (took reader.chosen word next taken)
      where
        of : Took reader.chosen word next → IsOpen next
        of (inl (side, is_short, none, is_next)) = subst IsOpen (sym is_next) (λ other same. (let e : side ≡ other = cc same in subst (λ x. is_some (dir_of reader.chosen x) ≡ false) e none))
        of (inr (choice, spells, middle, chose, is_next)) = subst IsOpen (sym is_next) (open_ready middle)
    by (Some side) taken = let (dir, names, middle, chose, is_next) = took_dir reader.chosen side word next taken in subst IsOpen (sym is_next) (open_ready middle)

pub open_after : (words : List Word) (reader next : Reader) → IsOpen reader → take_words reader words ≡ Some next → IsOpen next
open_after [] reader next was is = (let e : reader ≡ next = cc is in subst IsOpen e was)
open_after (word ∷ words) reader next was is = option_and_then_some (λ n. take_words n words) (take_word reader word) next is (λ middle here rest. open_after words middle next (open_next reader middle word here) rest)

-- a directory is awaited behind its short option
pub awaits_option : (reader next : Reader) (word : Word) (side : Side) → take_word reader word ≡ Some next → next.awaits ≡ Some side → word ≡ short_option side
awaits_option reader next word side is awaits = by reader.awaits is
  where
    none : (last : Chosen) → next ≡ ready last → ⊥
    none last is_next = (let e : next.awaits ≡ None = ap (λ (r : Reader). r.awaits) is_next in cc (awaits, e))

    by : (waits : Option Side) → take_by reader.chosen waits word ≡ Some next → word ≡ short_option side
    by None taken = of (took reader.chosen word next taken)
      where
        of : Took reader.chosen word next → word ≡ short_option side
        of (inl (other, is_short, free, is_next)) = (let e : next.awaits ≡ Some other = ap (λ (r : Reader). r.awaits) is_next in let same : other ≡ side = cc (awaits, e) in is_short ∙ ap short_option same)
        of (inr (choice, spells, middle, chose, is_next)) = absurd (none middle is_next)
    by (Some other) taken = let (dir, names, middle, chose, is_next) = took_dir reader.chosen other word next taken in absurd (none middle is_next)

-- how the words may go on
abbrev pub Ends : Reader → Type 0
Ends reader = (more : List Word) × (last : Chosen) × (command : Command) × (take_words reader more ≡ Some (ready last)) × (command_of last ≡ Some command)

ends_by : (old new : Option Path) (check : Bool) (mode : Option Mode) (report : Bool) → Ends (ready (record { old = old; new = new; check = check; mode = mode; report = report }))
ends_by (Some old) (Some new) check mode report = ([], record { old = Some old; new = Some new; check = check; mode = mode; report = report }, asked report check (unwrap_or mode Copy) old new, refl, refl)
ends_by (Some old) None check mode report = (codes "-D" ∷ codes "/" ∷ [], record { old = Some old; new = Some []; check = check; mode = mode; report = report }, asked report check (unwrap_or mode Copy) old [], refl, refl)
ends_by None (Some new) check mode report = (codes "-d" ∷ codes "/" ∷ [], record { old = Some []; new = Some new; check = check; mode = mode; report = report }, asked report check (unwrap_or mode Copy) [] new, refl, refl)
ends_by None None check mode report = (codes "-d" ∷ codes "/" ∷ codes "-D" ∷ codes "/" ∷ [], record { old = Some []; new = Some []; check = check; mode = mode; report = report }, asked report check (unwrap_or mode Copy) [] [], refl, refl)

ends_ready : (chosen : Chosen) → Ends (ready chosen)
ends_ready chosen = ends_by chosen.old chosen.new chosen.check chosen.mode chosen.report

ends_later : (reader next : Reader) → take_word reader (codes "/") ≡ Some next → Ends next → Ends reader
ends_later reader next taken (more, last, command, leads, asks) = (codes "/" ∷ more, last, command, ap (option_and_then (λ n. take_words n more)) taken ∙ leads, asks)

pub ends : (reader : Reader) → IsOpen reader → Ends reader
ends reader is_open = by reader.awaits refl
  where
    by : (awaits : Option Side) → reader.awaits ≡ awaits → Ends reader
    by None is = subst Ends (sym (ap (λ a. record { chosen = reader.chosen; awaits = a }) is)) (ends_ready reader.chosen)
    by (Some Old) is =
        let none = is_open Old is in
        let next : Chosen = record { old = Some []; new = reader.chosen.new; check = reader.chosen.check; mode = reader.chosen.mode; report = reader.chosen.report } in
        ends_later reader (ready next)
        (ap (λ a. take_by reader.chosen a (codes "/")) is ∙ ap (λ b. option_map ready (cond b None (Some next))) none) (ends_ready next)
    by (Some New) is =
        let none = is_open New is in
        let next : Chosen = record { old = reader.chosen.old; new = Some []; check = reader.chosen.check; mode = reader.chosen.mode; report = reader.chosen.report } in
        ends_later reader (ready next)
        (ap (λ a. take_by reader.chosen a (codes "/")) is ∙ ap (λ b. option_map ready (cond b None (Some next))) none) (ends_ready next)
