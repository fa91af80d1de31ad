-- The words of a self-test, and where they stop to begin one.
use Rattle.std.proofs.Common.{◌≡◌, ◌≢◌, ◌+◌, ◌<◌, ◌≤◌, ◌∷◌, ◌∙◌, [], ℕ, zero, suc, List, length, take, Some, None, inl, inr, refl, sym, ap, subst, arith}
use Rattle.std.specs.Prelude.{codes, slice_get}
use Rattle.std.specs.Fmt.{decimal}
use Rattle.control_file.specs.declared.modes.Mode.TheVariants.{Copy, Link}
use Rattle.command_words.specs.declared.command.Command.{Command}
use Rattle.command_words.specs.declared.command.Command.TheVariants.{Selftest}
use Rattle.command_words.specs.Words.{Word, most_tables, AsksByChoices, AsksSelftest, Accepts, Begins, IsFaultAt}
use Rattle.command_words.proofs.Faults.{asks_taken}

abbrev selftest : Word
selftest = codes "--selftest"

-- no option has the word of a self-test
pub no_choices : (rest : List Word) (command : Command) → AsksByChoices (selftest ∷ rest) command → ⊥
no_choices rest command asks = let (last, leads, is) = asks_taken (selftest ∷ rest) command asks in absurd (cc leads)

-- the word names no number of tables
abbrev pub NamesNone : Word → Type 0
NamesNone word = (tables : ℕ) → tables ≤ most_tables → word ≢ decimal tables

begins_1 : Begins (selftest ∷ [])
begins_1 = (decimal 0 ∷ [], Selftest 0 Copy, inr (0, omega arith, inl (refl, refl)))

begins_2 : (word : Word) (tables : ℕ) → tables ≤ most_tables → word ≡ decimal tables → Begins (selftest ∷ word ∷ [])
begins_2 word tables small is = ([], Selftest tables Copy, inr (tables, small, inl (ap (λ w. selftest ∷ w ∷ []) is, refl)))

begins_3 : (word : Word) (tables : ℕ) → tables ≤ most_tables → word ≡ decimal tables → Begins (selftest ∷ word ∷ codes "--link" ∷ [])
begins_3 word tables small is = ([], Selftest tables Link, inr (tables, small, inr (ap (λ w. selftest ∷ w ∷ codes "--link" ∷ []) is, refl)))

number_wrong : (word : Word) (rest : List Word) (command : Command) → NamesNone word → AsksSelftest (selftest ∷ word ∷ rest) command → ⊥
number_wrong word rest command none (tables, small, inl (are, is)) = none tables small (cc are)
number_wrong word rest command none (tables, small, inr (are, is)) = none tables small (cc are)

alone_wrong : (command : Command) → AsksSelftest (selftest ∷ []) command → ⊥
alone_wrong command (tables, small, inl (are, is)) = absurd (cc are)
alone_wrong command (tables, small, inr (are, is)) = absurd (cc are)

link_wrong : (word last : Word) (rest : List Word) (command : Command) → last ≢ codes "--link" → AsksSelftest (selftest ∷ word ∷ last ∷ rest) command → ⊥
link_wrong word last rest command other (tables, small, inl (are, is)) = absurd (cc are)
link_wrong word last rest command other (tables, small, inr (are, is)) = other (cc are)

more_wrong : (word last next : Word) (rest : List Word) (command : Command) → AsksSelftest (selftest ∷ word ∷ last ∷ next ∷ rest) command → ⊥
more_wrong word last next rest command (tables, small, inl (are, is)) = absurd (cc are)
more_wrong word last next rest command (tables, small, inr (are, is)) = absurd (cc are)

either : (rest : List Word) (command : Command) → (AsksSelftest (selftest ∷ rest) command → ⊥) → Accepts (selftest ∷ rest) command → ⊥
either rest command never accepts = elim accepts [ inl asks ↦ no_choices rest command asks | inr asks ↦ never asks ]

below_1 : (rest : List Word) (m : ℕ) → m < 1 → Begins (take (m + 1) (selftest ∷ rest))
below_1 rest zero below = begins_1
below_1 rest (suc m) below = absurd (omega arith)

below_2 : (word : Word) (rest : List Word) (tables m : ℕ) → tables ≤ most_tables → word ≡ decimal tables → m < 2 → Begins (take (m + 1) (selftest ∷ word ∷ rest))
below_2 word rest tables zero small is below = begins_1
below_2 word rest tables (suc zero) small is below = begins_2 word tables small is
below_2 word rest tables (suc (suc m)) small is below = absurd (omega arith)

below_3 : (word : Word) (rest : List Word) (tables m : ℕ) → tables ≤ most_tables → word ≡ decimal tables → m < 3 → Begins (take (m + 1) (selftest ∷ word ∷ codes "--link" ∷ rest))
below_3 word rest tables zero small is below = begins_1
below_3 word rest tables (suc zero) small is below = begins_2 word tables small is
below_3 word rest tables (suc (suc zero)) small is below = begins_3 word tables small is
below_3 word rest tables (suc (suc (suc m))) small is below = absurd (omega arith)

fault_1 : (rest : List Word) → ((word : Word) → slice_get rest 0 ≡ Some word → NamesNone word) → IsFaultAt (selftest ∷ rest) 1
fault_1 [] none = record {
  not_accepted = λ command accepts. either [] command (alone_wrong command) accepts;
  within = omega arith;
  before = λ m below. below_1 [] m below;
  here = λ inside. absurd (omega arith);
}
fault_1 (word ∷ rest) none = record {
  not_accepted = λ command accepts. either (word ∷ rest) command (number_wrong word rest command (none word refl)) accepts;
  within = omega arith;
  before = λ m below. below_1 (word ∷ rest) m below;
  here = λ inside (more, command, accepts). either (word ∷ more) command (number_wrong word more command (none word refl)) accepts;
}

fault_2 : (word last : Word) (rest : List Word) (tables : ℕ) → tables ≤ most_tables → word ≡ decimal tables → last ≢ codes "--link" → IsFaultAt (selftest ∷ word ∷ last ∷ rest) 2
fault_2 word last rest tables small is other = record {
  not_accepted = λ command accepts. either (word ∷ last ∷ rest) command (link_wrong word last rest command other) accepts;
  within = omega arith;
  before = λ m below. below_2 word (last ∷ rest) tables m small is below;
  here = λ inside (more, command, accepts). either (word ∷ last ∷ more) command (link_wrong word last more command other) accepts;
}

fault_3 : (word next : Word) (rest : List Word) (tables : ℕ) → tables ≤ most_tables → word ≡ decimal tables → IsFaultAt (selftest ∷ word ∷ codes "--link" ∷ next ∷ rest) 3
fault_3 word next rest tables small is = record {
  not_accepted = λ command accepts. either (word ∷ codes "--link" ∷ next ∷ rest) command (more_wrong word (codes "--link") next rest command) accepts;
  within = omega arith;
  before = λ m below. below_3 word (next ∷ rest) tables m small is below;
  here = λ inside (more, command, accepts). either (word ∷ codes "--link" ∷ next ∷ more) command (more_wrong word (codes "--link") next more command) accepts;
}

-- ---- by the words at their positions

pub fault_at_1 : (words : List Word) → slice_get words 0 ≡ Some selftest → ((word : Word) → slice_get words 1 ≡ Some word → NamesNone word) → IsFaultAt words 1
fault_at_1 [] first none = absurd (cc first)
fault_at_1 (w ∷ rest) first none = (let e : selftest ≡ w = cc first in subst (λ x. IsFaultAt (x ∷ rest) 1) e (fault_1 rest none))

pub fault_at_2 : (words : List Word) (word last : Word) (tables : ℕ) → slice_get words 0 ≡ Some selftest → slice_get words 1 ≡ Some word → tables ≤ most_tables → word ≡ decimal tables → slice_get words 2 ≡ Some last → last ≢ codes "--link" → IsFaultAt words 2
fault_at_2 [] word last tables first second small is third other = absurd (cc first)
fault_at_2 (w ∷ []) word last tables first second small is third other = absurd (cc second)
fault_at_2 (w ∷ v ∷ []) word last tables first second small is third other = absurd (cc third)
fault_at_2 (w ∷ v ∷ u ∷ rest) word last tables first second small is third other =
    let e : selftest ≡ w = cc first in
    let number : v ≡ decimal tables = cc (second, is) in
    let last_is : u ≡ last = cc third in
    subst (λ x. IsFaultAt (x ∷ v ∷ u ∷ rest) 2) e (fault_2 v u rest tables small number (λ same. other (sym last_is ∙ same)))

pub fault_at_3 : (words : List Word) (word last : Word) (tables : ℕ) → slice_get words 0 ≡ Some selftest → slice_get words 1 ≡ Some word → tables ≤ most_tables → word ≡ decimal tables → slice_get words 2 ≡ Some last → last ≡ codes "--link" → 3 < length words → IsFaultAt words 3
fault_at_3 [] word last tables first second small is third link more = absurd (cc first)
fault_at_3 (w ∷ []) word last tables first second small is third link more = absurd (cc second)
fault_at_3 (w ∷ v ∷ []) word last tables first second small is third link more = absurd (cc third)
fault_at_3 (w ∷ v ∷ u ∷ []) word last tables first second small is third link more = absurd (omega arith)
fault_at_3 (w ∷ v ∷ u ∷ next ∷ rest) word last tables first second small is third link more =
    let e : selftest ≡ w = cc first in
    let number : v ≡ decimal tables = cc (second, is) in
    let last_is : codes "--link" ≡ u = sym link ∙ cc third in
    subst (λ x. IsFaultAt (x ∷ v ∷ u ∷ next ∷ rest) 3) e (subst (λ y. IsFaultAt (selftest ∷ v ∷ y ∷ next ∷ rest) 3) last_is (fault_3 v next rest tables small number))

pub accepted_2 : (words : List Word) (word : Word) (tables : ℕ) → slice_get words 0 ≡ Some selftest → slice_get words 1 ≡ Some word → tables ≤ most_tables → word ≡ decimal tables → slice_get words 2 ≡ None → Accepts words (Selftest tables Copy)
accepted_2 [] word tables first second small is third = absurd (cc first)
accepted_2 (w ∷ []) word tables first second small is third = absurd (cc second)
accepted_2 (w ∷ v ∷ u ∷ rest) word tables first second small is third = absurd (cc third)
accepted_2 (w ∷ v ∷ []) word tables first second small is third =
    let e : w ≡ selftest = cc first in
    let number : v ≡ decimal tables = cc (second, is) in
    inr (tables, small, inl ((λ i. e i ∷ number i ∷ []), refl))

pub accepted_3 : (words : List Word) (word last : Word) (tables : ℕ) → slice_get words 0 ≡ Some selftest → slice_get words 1 ≡ Some word → tables ≤ most_tables → word ≡ decimal tables → slice_get words 2 ≡ Some last → last ≡ codes "--link" → length words ≤ 3 → Accepts words (Selftest tables Link)
accepted_3 [] word last tables first second small is third link few = absurd (cc first)
accepted_3 (w ∷ []) word last tables first second small is third link few = absurd (cc second)
accepted_3 (w ∷ v ∷ []) word last tables first second small is third link few = absurd (cc third)
accepted_3 (w ∷ v ∷ u ∷ next ∷ rest) word last tables first second small is third link few = absurd (omega arith)
accepted_3 (w ∷ v ∷ u ∷ []) word last tables first second small is third link few =
    let e : w ≡ selftest = cc first in
    let number : v ≡ decimal tables = cc (second, is) in
    let last_is : u ≡ codes "--link" = sym (cc third) ∙ link in
    inr (tables, small, inr ((λ i. e i ∷ number i ∷ last_is i ∷ []), refl))
