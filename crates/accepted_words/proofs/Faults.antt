-- Lines and commands, and that words ask for one line alone.
use Rattle.std.proofs.Common.{◌≡◌, ◌≤◌, ◌++◌, ◌∷◌, [], ℕ, List, inl, inr, ap, subst, arith}
use Rattle.std.specs.Prelude.{◌+◌, codes, take}
use Rattle.std.specs.Fmt.{decimal}
use Rattle.std.proofs.lemmas.Fmt.{decimal_injective}
use Rattle.command_words.specs.declared.chosen.Reader.{Reader}
use Rattle.command_words.specs.declared.command.Command.{Command}
use Rattle.command_words.specs.declared.command.Command.TheVariants as command
use Rattle.command_words.specs.Words.{Word, AsksByChoices, AsksSelftest, Accepts}
use Rattle.command_words.specs.Words.{Begins as BeginsAny, IsFaultAt as IsAnyFaultAt}
use Rattle.command_words.specs.Reading.{ready}
use Rattle.command_words.proofs.Faults.{asks_taken}
use Rattle.command_words.proofs.Selftests.{no_choices}
use Rattle.accepted_words.specs.declared.line.Line.{Line}
use Rattle.accepted_words.specs.declared.line.Line.TheVariants.{Upgrade, Report, SelfTest}
use Rattle.accepted_words.specs.Accepted.{as_command, Asks, Begins, IsFaultAt}

-- each command is a line
line_of : (words : List Word) (command : Command) → Accepts words command → (line : Line) × Asks words line
line_of words (command.Upgrade job check) accepts = (Upgrade job check, accepts)
line_of words (command.Report old new) accepts = (Report old new, accepts)
line_of words (command.Selftest tables mode) accepts = (SelfTest tables mode, accepts)

begins_of : (words : List Word) → BeginsAny words → Begins words
begins_of words (more, command, accepts) = let (line, asks) = line_of (words ++ more) command accepts in (more, line, asks)

pub fault_of : (words : List Word) (position : ℕ) → IsAnyFaultAt words position → IsFaultAt words position
fault_of words position fault = record {
  not_accepted = λ line asks. fault.not_accepted (as_command line) asks;
  within = fault.within;
  before = λ n below. begins_of (take (n + 1) words) (fault.before n below);
  here = λ inside (more, line, asks). fault.here inside (more, as_command line, asks);
}

same_line : (a b : Line) → as_command a ≡ as_command b → a ≡ b
same_line (Upgrade job check) (Upgrade other both) is = cc is
same_line (Upgrade job check) (Report old new) is = absurd (cc is)
same_line (Upgrade job check) (SelfTest tables mode) is = absurd (cc is)
same_line (Report old new) (Upgrade job check) is = absurd (cc is)
same_line (Report old new) (Report older newer) is = cc is
same_line (Report old new) (SelfTest tables mode) is = absurd (cc is)
same_line (SelfTest tables mode) (Upgrade job check) is = absurd (cc is)
same_line (SelfTest tables mode) (Report old new) is = absurd (cc is)
same_line (SelfTest tables mode) (SelfTest number kind) is = cc is

-- ---- words ask for one thing alone

by_choices : (words : List Word) (a b : Command) → AsksByChoices words a → AsksByChoices words b → a ≡ b
by_choices words a b asks other =
    let (last, leads, is) = asks_taken words a asks in
    let (later, leads_too, is_too) = asks_taken words b other in
    let same : ready last ≡ ready later = cc (leads, leads_too) in
    let one : last ≡ later = ap (λ (r : Reader). r.chosen) same in
    cc (one, is, is_too)

-- the words of a self-test choose nothing
never_both : (words : List Word) (a b : Command) → AsksByChoices words a → AsksSelftest words b → ⊥
never_both words a b asks (tables, small, inl (are, is)) = no_choices (decimal tables ∷ []) a (subst (λ l. AsksByChoices l a) are asks)
never_both words a b asks (tables, small, inr (are, is)) = no_choices (decimal tables ∷ codes "--link" ∷ []) a (subst (λ l. AsksByChoices l a) are asks)

same_tables : (n m : ℕ) → n ≤ 200 → m ≤ 200 → decimal n ≡ decimal m → n ≡ m
same_tables n m small few is = decimal_injective n m (omega arith) (omega arith) is

by_tests : (words : List Word) (a b : Command) → AsksSelftest words a → AsksSelftest words b → a ≡ b
by_tests words a b (n, small, inl (are, is)) (m, few, inl (were, was)) =
    let both : decimal n ≡ decimal m = cc (are, were) in
    let one = same_tables n m small few both in
    cc (is, was, one)
by_tests words a b (n, small, inl (are, is)) (m, few, inr (were, was)) = absurd (cc (are, were))
by_tests words a b (n, small, inr (are, is)) (m, few, inl (were, was)) = absurd (cc (are, were))
by_tests words a b (n, small, inr (are, is)) (m, few, inr (were, was)) =
    let both : decimal n ≡ decimal m = cc (are, were) in
    let one = same_tables n m small few both in
    cc (is, was, one)

one_command : (words : List Word) (a b : Command) → Accepts words a → Accepts words b → a ≡ b
one_command words a b (inl asks) (inl other) = by_choices words a b asks other
one_command words a b (inl asks) (inr other) = absurd (never_both words a b asks other)
one_command words a b (inr asks) (inl other) = absurd (never_both words b a other asks)
one_command words a b (inr asks) (inr other) = by_tests words a b asks other

-- the words ask for one thing alone
pub one_line : (words : List Word) (a b : Line) → Asks words a → Asks words b → a ≡ b
one_line words a b asks other = same_line a b (one_command words (as_command a) (as_command b) asks other)
