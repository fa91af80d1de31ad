use Rattle.std.proofs.Common.{◌≡◌, ◌∙◌, length, Some, inl, refl, sym, ap, subst, arith}
use Rattle.std.specs.Prelude.{true, false, is_some, slice_get, string_bytes}
use Rattle.std.proofs.lemmas.List.{length-map}
use Rattle.command_words.specs.Words.{IsFaultAt, texts, command_of}
use Rattle.command_words.specs.declared.chosen.Reader.{Reader}
use Rattle.command_words.proofs.Faults.{awaits_none, fault_at, fault_at_end, taken_asks, word_at, taken_next, taken_whole}
use Rattle.command_words.proofs.Lacking.{asks_for}
use Rattle.command_words.proofs.Taking.{awaits_option}
use Rattle.command_words.proofs.reading.read_choices.Goals as goal

pub returns-in-None-clause-usage : goal.returns-in-None-clause-usage
returns-in-None-clause-usage c position is =
    let same : c.loop-position.position ≡ position = cc is in
    let at_n : slice_get (texts c.args.words.now) c.loop-position.position ≡ Some c.deref.result.now = word_at c.args.words.now c.loop-position.position c.index-words-position.result c.loop-position-test.true c.index-words-position.is ∙ ap (λ w. Some w) (sym c.deref.ensures) in
    subst (IsFaultAt (texts c.args.words.now)) same
    (fault_at (texts c.args.words.now) c.loop-position.position c.deref.result.now c.loop-position.reader c.requires at_n c.loop-position.invariant.taken (sym c.in_ok-next.ensures.taken ∙ c.in-None.is))

pub returns-in_err-next-clause-lacking : goal.returns-in_err-next-clause-lacking
returns-in_err-next-clause-lacking c is =
    let at_n : slice_get (texts c.args.words.now) c.loop-position.position ≡ Some c.deref.result.now = word_at c.args.words.now c.loop-position.position c.index-words-position.result c.loop-position-test.true c.index-words-position.is ∙ ap (λ w. Some w) (sym c.deref.ensures) in
    asks_for (texts c.args.words.now) c.loop-position.position c.deref.result.now c.loop-position.reader.awaits at_n c.loop-position.invariant.awaited c.in_err-next.ensures.lacking

pub loop-position-preserved : goal.loop-position-preserved
loop-position-preserved c = record {
  taken =
      let at_n : slice_get (texts c.args.words.now) c.loop-position.position ≡ Some c.deref.result.now = word_at c.args.words.now c.loop-position.position c.index-words-position.result c.loop-position-test.true c.index-words-position.is ∙ ap (λ w. Some w) (sym c.deref.ensures) in
      taken_next (texts c.args.words.now) c.loop-position.position c.deref.result.now c.loop-position.reader c.in-Some.next at_n c.loop-position.invariant.taken (sym c.in_ok-next.ensures.taken ∙ c.in-Some.is);
  awaited = λ side awaits.
      let at_n : slice_get (texts c.args.words.now) c.loop-position.position ≡ Some c.deref.result.now = word_at c.args.words.now c.loop-position.position c.index-words-position.result c.loop-position-test.true c.index-words-position.is ∙ ap (λ w. Some w) (sym c.deref.ensures) in
      (c.loop-position.position, refl, at_n ∙ ap (λ w. Some w) (awaits_option c.loop-position.reader c.in-Some.next c.deref.result.now side (sym c.in_ok-next.ensures.taken ∙ c.in-Some.is) awaits));
}

pub returns-then-is_some-clause-usage : goal.returns-then-is_some-clause-usage
returns-then-is_some-clause-usage c position is =
    let words = texts c.args.words.now in
    let len = length-map c.args.words.now string_bytes in
    let t = c.loop-position-test.false in
    let same : length words ≡ position = len ∙ cc is in
    subst (IsFaultAt words) same
    (fault_at_end words c.loop-position.reader c.requires (taken_whole words c.loop-position.position c.loop-position.reader (omega arith) c.loop-position.invariant.taken)
    (λ last ends.
    let has : is_some c.loop-position.reader.awaits ≡ true = sym c.is_some.ensures ∙ c.if-is_some.true in
    let none : is_some c.loop-position.reader.awaits ≡ false = ap (λ (r : Reader). is_some r.awaits) ends in
    absurd (cc (has, none))))

pub returns-in-Some-command-clause-accepted : goal.returns-in-Some-command-clause-accepted
returns-in-Some-command-clause-accepted c =
    let words = texts c.args.words.now in
    let len = length-map c.args.words.now string_bytes in
    let t = c.loop-position-test.false in
    let whole = taken_whole words c.loop-position.position c.loop-position.reader (omega arith) c.loop-position.invariant.taken in
    let none : is_some c.loop-position.reader.awaits ≡ false = sym c.is_some.ensures ∙ c.if-is_some.false in
    inl (taken_asks words c.loop-position.reader.chosen c.in-Some-command.command (whole ∙ ap (λ r. Some r) (awaits_none c.loop-position.reader none)) (sym c.command.ensures ∙ c.in-Some-command.is))

pub returns-in-None-command-clause-usage : goal.returns-in-None-command-clause-usage
returns-in-None-command-clause-usage c position is =
    let words = texts c.args.words.now in
    let len = length-map c.args.words.now string_bytes in
    let t = c.loop-position-test.false in
    let same : length words ≡ position = len ∙ cc is in
    subst (IsFaultAt words) same
    (fault_at_end words c.loop-position.reader c.requires (taken_whole words c.loop-position.position c.loop-position.reader (omega arith) c.loop-position.invariant.taken)
    (λ last ends. ap command_of (sym (ap (λ (r : Reader). r.chosen) ends)) ∙ sym c.command.ensures ∙ c.in-None-command.is))
