-- A replay in the words of statements that stand one after another, and of the states that they lead to.
use Rattle.std.specs.Prelude.{◌≡◌, ℕ, List, ◌∷◌, map, ◌⊎◌, Option, Some, None, Ok, Err}
use Rattle.catalog.specs.Cluster.{Cluster, started}
use Rattle.dump_lex.specs.Place.{Place}
use Rattle.dump_grammar.specs.declared.error.TextError.{TextError}
use Rattle.dump_grammar.specs.declared.error.TextCause.{TextCause}
use Rattle.dump_grammar.specs.declared.statement.Statement.TheVariants.{Bootstrap}
use Rattle.dump_rules.specs.Rules.{State, opened, step, Replays}
use Rattle.dump_read.specs.Reading.{PlacedStatement, statement_at, statement_in, Stand}
use Rattle.dump_replay.specs.Replay.{start_of, Outcome, outcome_at, load_of}

-- the statement at a place is refused
pub record RefusedAt (s : State) (p : Place) (e : TextError) : Type 0 where
  pub placed : PlacedStatement
  pub cause : TextCause
  pub read : statement_at p ≡ Ok (Some placed)
  pub refused : step s placed.statement ≡ Err cause
  pub is : e ≡ record { line = placed.line; cause = cause }

-- why a replay stops at a place: the text ends there, it can't be read there, or the statement there is refused
abbrev pub Stops : Option TextError → State → Place → Type 0
Stops None s p = statement_at p ≡ Ok None
Stops (Some e) s p = (statement_at p ≡ Err e) ⊎ RefusedAt s p e

-- A replay ends with no fault exactly where each statement of the text is allowed. It ends with a fault at the first
-- statement that can't be read or is refused, in the state that the statements before it lead to.
pub record EndsAs (s : State) (p : Place) (o : Outcome) : Type 0 where
  pub before : List PlacedStatement
  pub place : Place
  pub stand : Stand p before place
  pub replays : Replays s (map statement_in before) o.state
  pub stops : Stops o.fault o.state place

-- a catalog is that of the state that some first statements behind a place lead to, up to another place
pub record AfterSome (s : State) (p : Place) (c : Cluster) : Type 0 where
  pub before : List PlacedStatement
  pub place : Place
  pub state : State
  pub stand : Stand p before place
  pub replays : Replays s (map statement_in before) state
  pub holds : c ≡ state.catalog

-- ---- laws

abbrev pub ReplayIsSequence : Type 0
ReplayIsSequence = (s : State) (p : Place) → EndsAs s p (outcome_at s p)

-- statements that are allowed, up to the end of the text, are replayed to where they lead; no others stand there
abbrev pub AllowedIsReplayed : Type 0
AllowedIsReplayed = (s t : State) (p q : Place) (xs : List PlacedStatement) → Stand p xs q → Replays s (map statement_in xs) t → statement_at q ≡ Ok None
    → outcome_at s p ≡ record { state = t; fault = None }

-- A text that is loaded begins with BOOTSTRAP, and each statement behind it is allowed.
pub record Loads (text : List ℕ) (c : Cluster) : Type 0 where
  pub name : List ℕ
  pub first : PlacedStatement
  pub more : List PlacedStatement
  pub end : Place
  pub state : State
  pub stand : Stand (start_of text) (first ∷ more) end
  pub begins : first.statement ≡ Bootstrap name
  pub replays : Replays (opened (started name)) (map statement_in more) state
  pub ends : statement_at end ≡ Ok None
  pub leads : c ≡ state.catalog

abbrev pub LoadedIsSequence : Type 0
LoadedIsSequence = (text : List ℕ) (c : Cluster) → load_of text ≡ Ok c → Loads text c

abbrev pub SequenceIsLoaded : Type 0
SequenceIsLoaded = (text : List ℕ) (c : Cluster) → Loads text c → load_of text ≡ Ok c
