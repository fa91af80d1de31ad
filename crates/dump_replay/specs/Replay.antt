-- Where the replay of a text ends, and why, and what a text loads as.
use Rattle.std.specs.Prelude.{◌≡◌, ◌≢◌, ℕ, zero, suc, List, length, Option, Some, None, Result, Ok, Err}
use Rattle.catalog.specs.Cluster.{Cluster, started}
use Rattle.dump_lex.specs.Place.{Place, rest_of}
use Rattle.dump_grammar.specs.declared.error.TextError.{TextError}
use Rattle.dump_grammar.specs.declared.error.TextCause.{TextCause}
use Rattle.dump_grammar.specs.declared.error.TextCause.TheVariants.{UnknownStatement, OutOfMemory}
use Rattle.dump_grammar.specs.declared.statement.Statement.{Statement}
use Rattle.dump_grammar.specs.declared.statement.Statement.TheVariants.{Bootstrap}
use Rattle.dump_rules.specs.Rules.{State, opened, step}
use Rattle.dump_read.specs.Reading.{PlacedStatement, statement_at}

abbrev pub start_of : List ℕ → Place
start_of text = record { source = text; start = 0 }

-- ---- replaying

-- where a replay ends, and why, if not at the end of the text
pub record Outcome : Type 0 where
  pub state : State
  pub fault : Option TextError

-- a statement that is refused makes the error of its line
abbrev pub stepped : (State → Place → Outcome) → State → PlacedStatement → Result State TextCause → Outcome
stepped go s x (Ok m) = go m x.after
stepped go s x (Err cause) = record { state = s; fault = Some (record { line = x.line; cause = cause }) }

abbrev pub resumed : (State → Place → Outcome) → State → Result (Option PlacedStatement) TextError → Outcome
resumed go s (Err e) = record { state = s; fault = Some e }
resumed go s (Ok None) = record { state = s; fault = None }
resumed go s (Ok (Some x)) = stepped go s x (step s x.statement)

-- the statements behind a place in turn, at most so many
unfoldable pub run_from : ℕ → State → Place → Outcome
run_from zero s p = record { state = s; fault = None }
run_from (suc n) s p = resumed (run_from n) s (statement_at p)

-- the statements behind a place in turn: each has a byte at least
abbrev pub outcome_at : State → Place → Outcome
outcome_at s p = run_from (suc (length (rest_of p))) s p

-- where the replay of a text over a catalog ends
abbrev pub outcome_of : Cluster → List ℕ → Outcome
outcome_of c text = outcome_at (opened c) (start_of text)

-- What a replay answered, and the catalog that it left, are those of the outcome, unless memory ran out.
abbrev pub Ends : {A : Type 0} → Outcome → Cluster → Result A TextError → Type 0
Ends o new (Ok x) = (o.fault ≡ None) × (new ≡ o.state.catalog)
Ends o new (Err e) = e.cause ≢ OutOfMemory → (o.fault ≡ Some e) × (new ≡ o.state.catalog)

-- ---- loading

-- the catalog of an outcome, unless it has a fault
abbrev pub settled : Option TextError → Cluster → Result Cluster TextError
settled None c = Ok c
settled (Some e) c = Err e

abbrev pub settled_outcome : Outcome → Result Cluster TextError
settled_outcome o = settled o.fault o.state.catalog

-- the first statement names the role that made the cluster
abbrev pub loaded : PlacedStatement → Statement → Result Cluster TextError
loaded x (Bootstrap name) = settled_outcome (outcome_at (opened (started name)) x.after)
loaded x _ = Err (record { line = x.line; cause = UnknownStatement })

abbrev pub load_on : Result (Option PlacedStatement) TextError → Result Cluster TextError
load_on (Err e) = Err e
load_on (Ok None) = Err (record { line = 1; cause = UnknownStatement })
load_on (Ok (Some x)) = loaded x x.statement

-- what a text loads as
unfoldable pub load_of : List ℕ → Result Cluster TextError
load_of text = load_on (statement_at (start_of text))
