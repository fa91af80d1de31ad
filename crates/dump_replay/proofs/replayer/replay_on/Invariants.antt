use Rattle.std.proofs.Common.{◌≡◌, ◌<◌, ℕ, length}
use Rattle.dump_lex.specs.Place.{rest_of}
use Rattle.dump_rules.specs.Rules.{opened}
use Rattle.dump_rules.specs.Causes.{state_of}
use Rattle.dump_replay.specs.Replay.{run_from, outcome_at}
use Rattle.dump_replay.proofs.SequenceLemmas.{Leads}
use Rattle.dump_replay.proofs.replayer.replay_on.Given as goal

abbrev pub invariant-statements : goal.invariant-statements
invariant-statements l =
    record {
      fuel : ℕ;
      enough : length (rest_of l.lexer) < fuel;
      so_far : run_from fuel (state_of l.catalog l.session) l.lexer ≡ outcome_at (opened l.fn.catalog) l.fn.lexer;
      leads : Leads (opened l.fn.catalog) l.fn.lexer (state_of l.catalog l.session) l.lexer;
    }

abbrev pub decreases-statements : goal.decreases-statements
decreases-statements l = length (rest_of l.lexer)
