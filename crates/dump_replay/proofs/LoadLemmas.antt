-- A text that is loaded, in the words of statements that stand one after another.
use Rattle.std.proofs.Common.{◌≡◌, ℕ, List, Option, Some, None, Result, Ok, Err, refl, sym, ap, subst, ◌∙◌}
use Rattle.catalog.specs.Cluster.{Cluster, started}
use Rattle.dump_grammar.specs.declared.error.TextError.{TextError}
use Rattle.dump_grammar.specs.declared.statement.Statement.{Statement}
use Rattle.dump_grammar.specs.declared.statement.Statement.TheVariants.{Bootstrap, SetNext, CreateRole, CreateTablespace, CreateDatabase, AlterDatabase, Connect, CreateSchema, CreateEnum, AddLabel, CreateTable, CreateIndex, CreateSequence}
use Rattle.dump_rules.specs.Rules.{opened}
use Rattle.dump_read.specs.Reading.{PlacedStatement, statement_at}
use Rattle.dump_replay.specs.Replay.{start_of, Outcome, outcome_at, settled, settled_outcome, loaded, load_on, load_of}
use Rattle.dump_replay.specs.Law.{Stops, EndsAs, Loads, LoadedIsSequence, SequenceIsLoaded}
use Rattle.dump_replay.proofs.SequenceLemmas.{replay_is_sequence, allowed_is_replayed}
use Rattle.dump_replay.proofs.ReplayLemmas.{load_starts}

settled_has : (f : Option TextError) (c d : Cluster) → settled f c ≡ Ok d → (f ≡ None) × (d ≡ c)
settled_has None c d e = (refl, let h : c ≡ d = cc in sym h)
settled_has (Some x) c d e = absurd cc

-- the statement is BOOTSTRAP, and what stands behind it is allowed
abbrev Begun : List ℕ → PlacedStatement → Statement → Cluster → Type 0
Begun text x s c = statement_at (start_of text) ≡ Ok (Some x) → x.statement ≡ s → Loads text c

begun : (text : List ℕ) (c : Cluster) (x : PlacedStatement) (name : List ℕ) (o : Outcome) → statement_at (start_of text) ≡ Ok (Some x) → x.statement ≡ Bootstrap name → (o.fault ≡ None) × (c ≡ o.state.catalog) → EndsAs (opened (started name)) x.after o → Loads text c
begun text c x name o read is h e =
    record {
      name = name;
      first = x;
      more = e.before;
      end = e.place;
      state = o.state;
      stand = (read, e.stand);
      begins = is;
      replays = e.replays;
      ends = subst (λ (f : Option TextError). Stops f o.state e.place) h.0 e.stops;
      leads = h.1;
    }

loaded_has : (text : List ℕ) (c : Cluster) (x : PlacedStatement) (s : Statement) → loaded x s ≡ Ok c → Begun text x s c
loaded_has text c x (Bootstrap name) e read is =
    let o : Outcome = outcome_at (opened (started name)) x.after in
    begun text c x name o read is (settled_has o.fault o.state.catalog c e) (replay_is_sequence (opened (started name)) x.after)
loaded_has text c x (SetNext kind n) e read is = absurd cc
loaded_has text c x (CreateRole name) e read is = absurd cc
loaded_has text c x (CreateTablespace name owner location) e read is = absurd cc
loaded_has text c x (CreateDatabase name owner) e read is = absurd cc
loaded_has text c x (AlterDatabase name on) e read is = absurd cc
loaded_has text c x (Connect name) e read is = absurd cc
loaded_has text c x (CreateSchema name owner) e read is = absurd cc
loaded_has text c x (CreateEnum schema name owner) e read is = absurd cc
loaded_has text c x (AddLabel schema name label) e read is = absurd cc
loaded_has text c x (CreateTable schema name owner tablespace columns) e read is = absurd cc
loaded_has text c x (CreateIndex name schema table tablespace keys) e read is = absurd cc
loaded_has text c x (CreateSequence schema name owner) e read is = absurd cc

read_has : (text : List ℕ) (c : Cluster) (r : Result (Option PlacedStatement) TextError) → statement_at (start_of text) ≡ r → load_on r ≡ Ok c → Loads text c
read_has text c (Err f) is e = absurd cc
read_has text c (Ok None) is e = absurd cc
read_has text c (Ok (Some x)) is e = loaded_has text c x x.statement e is refl

pub loaded_is_sequence : LoadedIsSequence
unfolding load_of
loaded_is_sequence text c e = read_has text c (statement_at (start_of text)) refl e

pub sequence_is_loaded : SequenceIsLoaded
sequence_is_loaded text c l =
    let o = allowed_is_replayed (opened (started l.name)) l.state (l.first).after l.end l.more l.stand.1 l.replays l.ends in
    load_starts text (start_of text) l.first l.name (started l.name) refl l.stand.0 l.begins refl
    ∙ ap settled_outcome o
    ∙ ap (λ (d : Cluster). Ok d) (sym l.leads)
