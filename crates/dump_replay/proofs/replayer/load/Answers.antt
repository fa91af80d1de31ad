use Rattle.std.proofs.Common.{Err, sym, ap, ◌∙◌}
use Rattle.catalog.specs.Cluster.{started}
use Rattle.dump_grammar.specs.declared.error.TextError.{TextError}
use Rattle.dump_read.specs.Reading.{PlacedStatement}
use Rattle.dump_read.specs.Placed.{placed}
use Rattle.dump_replay.proofs.ReadingLemmas.{read_cause}
use Rattle.dump_replay.proofs.ReplayLemmas.{load_is, load_starts, load_other}
use Rattle.dump_replay.proofs.replayer.load.Goals as goal

pub returns-in-Err-clause-refused : goal.returns-in-Err-clause-refused
returns-in-Err-clause-refused c h = load_is c.args.text.now c.over-lexer.result _ c.over-lexer.ensures (c.in-Err.ensures.refused h)

pub returns-in-Err-clause-memory : goal.returns-in-Err-clause-memory
returns-in-Err-clause-memory c = read_cause c.over-lexer.result c.in-Err.error c.in-Err.ensures.refused

pub returns-in-Ok-None-clause-refused : goal.returns-in-Ok-None-clause-refused
returns-in-Ok-None-clause-refused c h =
    let e = rw c.in-Ok-None.field-0-is at c.in-Ok-None.ensures.read in
    load_is c.args.text.now c.over-lexer.result _ c.over-lexer.ensures e ∙ ap (λ (x : TextError). Err x) (sym c.unknown_at.ensures)

pub returns-in-Bootstrap-clause-ok : goal.returns-in-Bootstrap-clause-ok
returns-in-Bootstrap-clause-ok c =
    let e = rw c.in-Ok-Some.field-0-is at c.in-Ok-Some.ensures.read in
    let x : PlacedStatement = placed c.in-Ok-Some.located c.read_located.new.lexer in
    let l = load_starts c.args.text.now c.over-lexer.result x c.in-Bootstrap.name _ c.over-lexer.ensures e c.in-Bootstrap.is (ap started c.in-Bootstrap.name-is) in
    rw l c.load_on.ensures.ok

pub returns-in-Bootstrap-clause-refused : goal.returns-in-Bootstrap-clause-refused
returns-in-Bootstrap-clause-refused c =
    let e = rw c.in-Ok-Some.field-0-is at c.in-Ok-Some.ensures.read in
    let x : PlacedStatement = placed c.in-Ok-Some.located c.read_located.new.lexer in
    let l = load_starts c.args.text.now c.over-lexer.result x c.in-Bootstrap.name _ c.over-lexer.ensures e c.in-Bootstrap.is (ap started c.in-Bootstrap.name-is) in
    rw l c.load_on.ensures.refused

pub returns : goal.returns
returns c =
    let e = rw c.in-Ok-Some.field-0-is at c.in-Ok-Some.ensures.read in
    let x : PlacedStatement = placed c.in-Ok-Some.located c.read_located.new.lexer in
    let made = c.unknown_at-in_default.ensures in
    record {
      ok = tt;
      refused = λ h. load_other c.args.text.now c.over-lexer.result x c.over-lexer.ensures e c.in_default.not-Bootstrap ∙ ap (λ (y : TextError). Err y) (sym made);
      memory = λ h. cc (ap (λ (y : TextError). y.cause) made);
      lacking = λ h. absurd (cc (ap (λ (y : TextError). y.cause) made, h));
    }
