use Rattle.std.proofs.Common.{◌≡◌, ◌∙◌, Some, None, sym, subst, arith}
use Rattle.std.specs.Prelude.{codes, slice_get, string_bytes, bytes_eq, true, false}
use Rattle.std.proofs.lemmas.List.{length-map}
use Rattle.std.proofs.lemmas.Slice.Eq.{bytes_eq-Decides}
use Rattle.command_words.specs.Words.{IsFaultAt, texts}
use Rattle.command_words.proofs.Selftests.{fault_at_1, fault_at_2, fault_at_3, accepted_2, accepted_3}
use Rattle.command_words.proofs.selftest.read_selftest.Goals as goal

pub returns-in_default-clause-usage : goal.returns-in_default-clause-usage
returns-in_default-clause-usage c position is =
    let words = texts c.args.words.now in
    let here : 1 ≡ position = cc is in
    let none : slice_get words 1 ≡ None = sym c.in_default.ensures in
    subst (IsFaultAt words) here (fault_at_1 words c.requires (λ word second. absurd (cc (none, second))))

pub returns-in_default-tables_in-clause-usage : goal.returns-in_default-tables_in-clause-usage
returns-in_default-tables_in-clause-usage c position is =
    let words = texts c.args.words.now in
    let here : 1 ≡ position = cc is in
    let second : slice_get words 1 ≡ Some c.in-Some.word.now = sym c.in-Some.ensures in
    subst (IsFaultAt words) here (fault_at_1 words c.requires (λ word at_1 n small same. let e : word ≡ c.in-Some.word.now = cc (second, at_1) in c.in_default-tables_in.ensures n small (sym e ∙ same)))

pub returns-in_default-word_at-clause-accepted : goal.returns-in_default-word_at-clause-accepted
returns-in_default-word_at-clause-accepted c =
    let found = c.in-Some-tables_in.ensures in
    accepted_2 (texts c.args.words.now) c.in-Some.word.now c.in-Some-tables_in.tables c.requires (sym c.in-Some.ensures) found.0 found.1 (sym c.in_default-word_at.ensures)

pub returns-then-not-same_word-clause-usage : goal.returns-then-not-same_word-clause-usage
returns-then-not-same_word-clause-usage c position is =
    let words = texts c.args.words.now in
    let found = c.in-Some-tables_in.ensures in
    let here : 2 ≡ position = cc is in
    let other : bytes_eq c.in-Some-word_at.last.now (codes "--link") ≡ false = sym c.same_word.ensures ∙ c.if-not-same_word.true in
    subst (IsFaultAt words) here
    (fault_at_2 words c.in-Some.word.now c.in-Some-word_at.last.now c.in-Some-tables_in.tables c.requires (sym c.in-Some.ensures) found.0 found.1 (sym c.in-Some-word_at.ensures)
    (λ same. let yes = (bytes_eq-Decides c.in-Some-word_at.last.now (codes "--link")).1 same in cc (yes, other)))

pub returns-then-words-gt3-clause-usage : goal.returns-then-words-gt3-clause-usage
returns-then-words-gt3-clause-usage c position is =
    let words = texts c.args.words.now in
    let found = c.in-Some-tables_in.ensures in
    let here : 3 ≡ position = cc is in
    let same : bytes_eq c.in-Some-word_at.last.now (codes "--link") ≡ true = sym c.same_word.ensures ∙ c.if-not-same_word.false in
    let len = length-map c.args.words.now string_bytes in
    let more = c.if-words-gt3.true in
    subst (IsFaultAt words) here
    (fault_at_3 words c.in-Some.word.now c.in-Some-word_at.last.now c.in-Some-tables_in.tables c.requires (sym c.in-Some.ensures) found.0 found.1 (sym c.in-Some-word_at.ensures)
    ((bytes_eq-Decides c.in-Some-word_at.last.now (codes "--link")).0 same) (omega arith))

pub returns-clause-accepted : goal.returns-clause-accepted
returns-clause-accepted c =
    let words = texts c.args.words.now in
    let found = c.in-Some-tables_in.ensures in
    let same : bytes_eq c.in-Some-word_at.last.now (codes "--link") ≡ true = sym c.same_word.ensures ∙ c.if-not-same_word.false in
    let len = length-map c.args.words.now string_bytes in
    let few = c.if-words-gt3.false in
    accepted_3 words c.in-Some.word.now c.in-Some-word_at.last.now c.in-Some-tables_in.tables c.requires (sym c.in-Some.ensures) found.0 found.1 (sym c.in-Some-word_at.ensures)
    ((bytes_eq-Decides c.in-Some-word_at.last.now (codes "--link")).0 same) (omega arith)
