-- Where words stop to begin an accepted command line.
use Rattle.std.proofs.Common.{◌≡◌, ◌≢◌, ◌+◌, ◌<◌, ◌≤◌, ◌++◌, ◌∷◌, ◌∙◌, [], ℕ, zero, suc, List, length, take, drop, Option, Some, None, inl, inr, refl, sym, ap, subst, arith, append_assoc}
use Rattle.std.specs.Prelude.{codes, false, is_some, slice_get, get_or, string_bytes, String}
use Rattle.std.specs.Global.{Global}
use Rattle.std.proofs.lemmas.List.{take_all}
use Rattle.std.specs.Option.{option_and_then, option_map}
use Rattle.std.proofs.lemmas.Option.{option_and_then_some}
use Rattle.std.proofs.lemmas.List.{take-append-drop}
use Rattle.control_file.specs.declared.modes.Side.{Side}
use Rattle.command_words.specs.declared.chosen.Chosen.{Chosen}
use Rattle.command_words.specs.declared.chosen.Reader.{Reader}
use Rattle.command_words.specs.declared.command.Command.{Command}
use Rattle.command_words.specs.Words.{Word, choose_all, no_choice, command_of, AsksByChoices, AsksSelftest, Begins, IsFaultAt, texts}
use Rattle.command_words.specs.Reading.{ready, take_word, take_words}
use Rattle.command_words.proofs.Taking.{take_words_append, all_taken, spelled, open_ready, open_after, ends}

-- the first word isn't that of a self-test
abbrev pub IsNoSelftest : List Word → Type 0
IsNoSelftest words = (word : Word) → slice_get words 0 ≡ Some word → word ≢ codes "--selftest"

no_selftest : (word : Word) (words : List Word) (command : Command) → word ≢ codes "--selftest" → AsksSelftest (word ∷ words) command → ⊥
no_selftest word words command other (tables, small, inl (are, is)) = other (cc are)
no_selftest word words command other (tables, small, inr (are, is)) = other (cc are)

none_selftest : (command : Command) → AsksSelftest [] command → ⊥
none_selftest command (tables, small, inl (are, is)) = absurd (cc are)
none_selftest command (tables, small, inr (are, is)) = absurd (cc are)

-- words that ask by choices lead the reader to its end
pub asks_taken : (words : List Word) (command : Command) → AsksByChoices words command → (last : Chosen) × (take_words (ready no_choice) words ≡ Some (ready last)) × (command_of last ≡ Some command)
asks_taken words command (choices, spells, is) =
    option_and_then_some command_of (choose_all no_choice choices) command is (λ last chosen asks. (last, all_taken choices words no_choice spells ∙ ap (option_map ready) chosen, asks))

-- and the other way round
pub taken_asks : (words : List Word) (last : Chosen) (command : Command) → take_words (ready no_choice) words ≡ Some (ready last) → command_of last ≡ Some command → AsksByChoices words command
taken_asks words last command taken asks =
    let (choices, spells, all) = spelled words no_choice None last taken in
    (choices, spells, ap (option_and_then command_of) all ∙ asks)

pub begins : (words : List Word) (reader : Reader) → take_words (ready no_choice) words ≡ Some reader → Begins words
begins words reader taken =
    let (more, last, command, leads, asks) = ends reader (open_after words (ready no_choice) reader (open_ready no_choice) taken) in
    (more, command, inl (taken_asks (words ++ more) last command (take_words_append words more (ready no_choice) ∙ ap (option_and_then (λ n. take_words n more)) taken ∙ leads) asks))

front_taken : (front back : List Word) (reader : Reader) → take_words (ready no_choice) (front ++ back) ≡ Some reader → (middle : Reader) × (take_words (ready no_choice) front ≡ Some middle)
front_taken front back reader taken =
    option_and_then_some (λ n. take_words n back) (take_words (ready no_choice) front) reader (sym (take_words_append front back (ready no_choice)) ∙ taken) (λ middle here rest. (middle, here))

-- a shorter beginning begins too
pub begins_front : (words : List Word) (n m : ℕ) (reader : Reader) → m ≤ n → take_words (ready no_choice) (take n words) ≡ Some reader → Begins (take m words)
begins_front words n m reader within taken =
    let split : take n words ≡ take m words ++ drop m (take n words) = sym (ap (λ l. l ++ drop m (take n words)) (take_less words n m within) ∙ take-append-drop m (take n words)) in
    let (middle, here) = front_taken (take m words) (drop m (take n words)) reader (ap (take_words (ready no_choice)) (sym split) ∙ taken) in
    begins (take m words) middle here
  where
    take_less : (words : List Word) (n m : ℕ) → m ≤ n → take m words ≡ take m (take n words)
    take_less words n zero below = refl
    take_less [] zero (suc m) below = refl
    take_less [] (suc n) (suc m) below = refl
    take_less (word ∷ words) zero (suc m) below = absurd (omega arith)
    take_less (word ∷ words) (suc n) (suc m) below = ap (λ l. word ∷ l) (take_less words n m (omega arith))

module _ (front : List Word) (reader : Reader) (taken : take_words (ready no_choice) front ≡ Some reader) where
  -- a word that the reader doesn't take leads nowhere
  stuck : (word : Word) (rest : List Word) (command : Command) → take_word reader word ≡ None → AsksByChoices (front ++ word ∷ rest) command → ⊥
  stuck word rest command none asks =
      let (last, leads, is) = asks_taken (front ++ word ∷ rest) command asks in
      let nowhere : take_words (ready no_choice) (front ++ word ∷ rest) ≡ None =
      take_words_append front (word ∷ rest) (ready no_choice) ∙ ap (option_and_then (λ n. take_words n (word ∷ rest))) taken ∙ ap (option_and_then (λ n. take_words n rest)) none in
      absurd (cc (leads, nowhere))

  -- nor do words that don't end in a command
  unended : (command : Command) → ((last : Chosen) → reader ≡ ready last → command_of last ≡ None) → AsksByChoices front command → ⊥
  unended command none asks =
      let (last, leads, is) = asks_taken front command asks in
      let e : reader ≡ ready last = cc (taken, leads) in
      let no = none last e in
      absurd (cc (no, is))

still_no : (words : List Word) (n : ℕ) (more : List Word) (command : Command) → 0 < n → n ≤ length words → IsNoSelftest words → AsksSelftest (take n words ++ more) command → ⊥
still_no [] n more command some within none asks = absurd (omega arith)
still_no (word ∷ words) zero more command some within none asks = absurd (omega arith)
still_no (word ∷ words) (suc n) more command some within none asks = no_selftest word (take n words ++ more) command (none word refl) asks

never_selftest : (words : List Word) (command : Command) → IsNoSelftest words → AsksSelftest words command → ⊥
never_selftest [] command none asks = none_selftest command asks
never_selftest (word ∷ words) command none asks = no_selftest word words command (none word refl) asks

-- the words up to a position, and the one there
pub split_at : (words : List Word) (n : ℕ) (word : Word) → slice_get words n ≡ Some word → (words ≡ take n words ++ word ∷ drop (suc n) words) × (take (suc n) words ≡ take n words ++ word ∷ []) × (n < length words)
split_at [] n word is = absurd (cc is)
split_at (first ∷ words) zero word is = (let e : first ≡ word = cc is in (ap (λ w. w ∷ words) e, ap (λ w. w ∷ []) e, omega arith))
split_at (first ∷ words) (suc n) word is = let (whole, front, within) = split_at words n word is in (ap (λ l. first ∷ l) whole, ap (λ l. first ∷ l) front, omega arith)

pub fault_at : (words : List Word) (n : ℕ) (word : Word) (reader : Reader) → IsNoSelftest words → slice_get words n ≡ Some word → take_words (ready no_choice) (take n words) ≡ Some reader → take_word reader word ≡ None → IsFaultAt words n
fault_at words n word reader other at_n taken none =
    let (whole, front, within) = split_at words n word at_n in
    let one : n + 1 ≡ suc n = omega arith in
    record {
      not_accepted = λ command accepts. elim accepts [
        | inl asks ↦ stuck (take n words) reader taken word (drop (suc n) words) command none (subst (λ l. AsksByChoices l command) whole asks)
        | inr asks ↦ never_selftest words command other asks
      ];
      within = omega arith;
      before = λ m below. begins_front words n (m + 1) reader (omega arith) taken;
      here = λ inside (more, command, accepts). elim accepts [
        | inl asks ↦ stuck (take n words) reader taken word more command none (subst (λ l. AsksByChoices l command) (ap (λ k. take k words ++ more) one ∙ ap (λ l. l ++ more) front ∙ append_assoc (take n words) (word ∷ []) more) asks)
        | inr asks ↦ still_no words (n + 1) more command (omega arith) (omega arith) other asks
      ];
    }

pub fault_at_end : (words : List Word) (reader : Reader) → IsNoSelftest words → take_words (ready no_choice) words ≡ Some reader → ((last : Chosen) → reader ≡ ready last → command_of last ≡ None) → IsFaultAt words (length words)
fault_at_end words reader other taken none = record {
  not_accepted = λ command accepts. elim accepts [ inl asks ↦ unended words reader taken command none asks | inr asks ↦ never_selftest words command other asks ];
  within = omega arith;
  before = λ m below. begins_front words (length words) (m + 1) reader (omega arith) (ap (take_words (ready no_choice)) (take_all (length words) words (omega arith)) ∙ taken);
  here = λ inside. absurd (omega arith);
}

-- ---- as the reader has the words

pub word_at : (words : List (String Global)) (i : ℕ) (word : String Global) → i < length words → word ≡ get_or words i word → slice_get (texts words) i ≡ Some (string_bytes word)
word_at [] i word below is = absurd (omega arith)
word_at (first ∷ words) zero word below is = ap (λ w. Some (string_bytes w)) (sym is)
word_at (first ∷ words) (suc i) word below is = word_at words i word (omega arith) is

-- one word more
pub taken_next : (words : List Word) (n : ℕ) (word : Word) (reader next : Reader) → slice_get words n ≡ Some word → take_words (ready no_choice) (take n words) ≡ Some reader → take_word reader word ≡ Some next → take_words (ready no_choice) (take (n + 1) words) ≡ Some next
taken_next words n word reader next at_n taken one =
    let (whole, front, within) = split_at words n word at_n in
    let more : n + 1 ≡ suc n = omega arith in
    ap (λ k. take_words (ready no_choice) (take k words)) more ∙ ap (take_words (ready no_choice)) front ∙ take_words_append (take n words) (word ∷ []) (ready no_choice)
    ∙ ap (option_and_then (λ r. take_words r (word ∷ []))) taken ∙ ap (option_and_then (λ r. take_words r [])) one

-- all words
pub taken_whole : (words : List Word) (n : ℕ) (reader : Reader) → length words ≤ n → take_words (ready no_choice) (take n words) ≡ Some reader → take_words (ready no_choice) words ≡ Some reader
taken_whole words n reader all taken = ap (take_words (ready no_choice)) (sym (take_all n words all)) ∙ taken

pub awaits_none : (reader : Reader) → is_some reader.awaits ≡ false → reader ≡ ready reader.chosen
awaits_none reader none = by reader.awaits none
  where
    by : (awaits : Option Side) → is_some awaits ≡ false → ◌≡◌ {A = Reader} (record { chosen = reader.chosen; awaits = awaits }) (ready reader.chosen)
    by None none = refl
    by (Some side) none = absurd (cc none)
