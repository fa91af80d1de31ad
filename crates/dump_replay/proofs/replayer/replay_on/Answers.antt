use Rattle.std.proofs.Common.{Some, sym, ap, ◌∙◌}
use Rattle.dump_grammar.specs.declared.error.TextError.{TextError}
use Rattle.dump_read.specs.Reading.{PlacedStatement}
use Rattle.dump_read.specs.Placed.{placed}
use Rattle.dump_rules.specs.Rules.{State}
use Rattle.dump_rules.specs.Causes.{state_of}
use Rattle.dump_replay.proofs.ReadingLemmas.{read_cause}
use Rattle.dump_replay.proofs.SequenceLemmas.{leads_more}
use Rattle.dump_replay.proofs.ReplayLemmas.{goes_err, goes_none, goes_bad, goes_more}
use Rattle.dump_replay.proofs.replayer.replay_on.Goals as goal

pub returns-in-Err-clause-exact : goal.returns-in-Err-clause-exact
returns-in-Err-clause-exact c h =
    let i = c.statements.invariant in
    let s : State = state_of c.statements.catalog c.statements.session in
    goes_err i.fuel s c.statements.lexer c.in-Err.error _ i.enough (c.in-Err.ensures.refused h) i.so_far

pub returns-in-Err-clause-memory : goal.returns-in-Err-clause-memory
returns-in-Err-clause-memory c = read_cause c.statements.lexer c.in-Err.error c.in-Err.ensures.refused

pub returns-in-Ok-None-clause-exact : goal.returns-in-Ok-None-clause-exact
returns-in-Ok-None-clause-exact c =
    let i = c.statements.invariant in
    let s : State = state_of c.statements.catalog c.statements.session in
    let e = rw c.in-Ok-None.field-0-is at c.in-Ok-None.ensures.read in
    goes_none i.fuel s c.statements.lexer _ i.enough e i.so_far

pub returns-in-Err-apply-clause-exact : goal.returns-in-Err-apply-clause-exact
returns-in-Err-apply-clause-exact c h =
    let i = c.statements.invariant in
    let s : State = state_of c.statements.catalog c.statements.session in
    let e = rw c.in-Ok-Some.field-0-is at c.in-Ok-Some.ensures.read in
    let x : PlacedStatement = placed c.in-Ok-Some.located c.read_located.new.lexer in
    let told = c.error_at.ensures in
    let bad = goes_bad i.fuel s c.statements.lexer x c.in-Err-apply.cause _ _ i.enough e (c.in-Err-apply.ensures.refused (λ m. h (told.cause ∙ m))) c.in-Err-apply.ensures.unchanged.0 i.so_far in
    (bad.0 ∙ ap (λ (f : TextError). Some f) (sym (told.exact h)), bad.1)

pub statements-preserved : goal.statements-preserved
statements-preserved c =
    let i = c.statements.invariant in
    let s : State = state_of c.statements.catalog c.statements.session in
    let t : State = state_of c.apply.new.catalog c.apply.new.session in
    let e = rw c.in-Ok-Some.field-0-is at c.in-Ok-Some.ensures.read in
    let on = rw c.in-Ok-Some.field-0-is at c.in-Ok-Some.ensures.onward in
    let x : PlacedStatement = placed c.in-Ok-Some.located c.read_located.new.lexer in
    let made = c.in-Ok.ensures.ok in
    let more = goes_more i.fuel s t c.statements.lexer x _ i.enough e made on i.so_far in
    record {
      fuel = more.0;
      enough = more.1;
      so_far = more.2;
      leads = leads_more _ s t _ c.statements.lexer x i.leads e made;
    }
