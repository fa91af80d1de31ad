-- The loop that applies the statements of a text, and the text that is loaded.
use Rattle.std.proofs.Common.{◌≡◌, ℕ, zero, suc, ◌<◌, List, length, Option, Some, None, Result, Ok, Err, refl, sym, ap, ◌∙◌, arith}
use Rattle.catalog.specs.Cluster.{Cluster, started}
use Rattle.dump_lex.specs.Place.{Place, rest_of}
use Rattle.dump_grammar.specs.declared.error.TextError.{TextError}
use Rattle.dump_grammar.specs.declared.error.TextCause.{TextCause}
use Rattle.dump_grammar.specs.declared.error.TextCause.TheVariants.{UnknownStatement}
use Rattle.dump_grammar.specs.declared.statement.Statement.{Statement}
use Rattle.dump_grammar.specs.declared.statement.Statement.TheVariants.{Bootstrap, SetNext, CreateRole, CreateTablespace, CreateDatabase, AlterDatabase, Connect, CreateSchema, CreateEnum, AddLabel, CreateTable, CreateIndex, CreateSequence}
use Rattle.dump_rules.specs.Rules.{State, opened, step}
use Rattle.dump_read.specs.Reading.{PlacedStatement, statement_at}
use Rattle.dump_replay.specs.Replay.{start_of, Outcome, stepped, resumed, run_from, outcome_at, settled_outcome, loaded, load_on, load_of}

ended : (total : Outcome) (s : State) (f : Option TextError) → total ≡ record { state = s; fault = f } → (total.fault ≡ f) × (s.catalog ≡ total.state.catalog)
ended total s f e = (ap (λ (o : Outcome). o.fault) e, sym (ap (λ (o : Outcome). o.state.catalog) e))

pub goes_err : (n : ℕ) (s : State) (p : Place) (e : TextError) (total : Outcome) → length (rest_of p) < n → statement_at p ≡ Err e → run_from n s p ≡ total → (total.fault ≡ Some e) × (s.catalog ≡ total.state.catalog)
unfolding run_from
goes_err zero s p e total lt h so_far = absurd (omega arith)
goes_err (suc n) s p e total lt h so_far = ended total s (Some e) (sym so_far ∙ ap (resumed (run_from n) s) h)

pub goes_none : (n : ℕ) (s : State) (p : Place) (total : Outcome) → length (rest_of p) < n → statement_at p ≡ Ok None → run_from n s p ≡ total → (total.fault ≡ None) × (s.catalog ≡ total.state.catalog)
unfolding run_from
goes_none zero s p total lt h so_far = absurd (omega arith)
goes_none (suc n) s p total lt h so_far = ended total s None (sym so_far ∙ ap (resumed (run_from n) s) h)

pub goes_bad : (n : ℕ) (s : State) (p : Place) (x : PlacedStatement) (cause : TextCause) (c : Cluster) (total : Outcome) → length (rest_of p) < n → statement_at p ≡ Ok (Some x) → step s x.statement ≡ Err cause → c ≡ s.catalog → run_from n s p ≡ total
    → (total.fault ≡ Some (record { line = x.line; cause = cause })) × (c ≡ total.state.catalog)
unfolding run_from
goes_bad zero s p x cause c total lt h bad same so_far = absurd (omega arith)
goes_bad (suc n) s p x cause c total lt h bad same so_far =
    let e = ended total s (Some (record { line = x.line; cause = cause })) (sym so_far ∙ ap (resumed (run_from n) s) h ∙ ap (stepped (run_from n) s x) bad) in
    (e.0, same ∙ e.1)

pub goes_more : (n : ℕ) (s m : State) (p : Place) (x : PlacedStatement) (total : Outcome) → length (rest_of p) < n → statement_at p ≡ Ok (Some x) → step s x.statement ≡ Ok m → length (rest_of x.after) < length (rest_of p) → run_from n s p ≡ total
    → (k : ℕ) × (length (rest_of x.after) < k) × (run_from k m x.after ≡ total)
unfolding run_from
goes_more zero s m p x total lt h ok on so_far = absurd (omega arith)
goes_more (suc n) s m p x total lt h ok on so_far = (n, omega arith, sym (ap (resumed (run_from n) s) h ∙ ap (stepped (run_from n) s x) ok) ∙ so_far)

-- ---- a text that is loaded

pub load_is : (text : List ℕ) (p : Place) (r : Result (Option PlacedStatement) TextError) → p ≡ start_of text → statement_at p ≡ r → load_of text ≡ load_on r
unfolding load_of
load_is text p r at e = ap (λ (q : Place). load_on (statement_at q)) (sym at) ∙ ap load_on e

pub load_starts : (text : List ℕ) (p : Place) (x : PlacedStatement) (name : List ℕ) (c : Cluster) → p ≡ start_of text → statement_at p ≡ Ok (Some x) → x.statement ≡ Bootstrap name → c ≡ started name
    → load_of text ≡ settled_outcome (outcome_at (opened c) x.after)
load_starts text p x name c at e is begins =
    load_is text p _ at e ∙ ap (loaded x) is ∙ ap (λ (d : Cluster). settled_outcome (outcome_at (opened d) x.after)) (sym begins)

other : (x : PlacedStatement) (s : Statement) → ((name : List ℕ) → s ≡ Bootstrap name → ⊥) → loaded x s ≡ Err (record { line = x.line; cause = UnknownStatement })
other x (Bootstrap name) h = absurd (h name refl)
other x (SetNext kind n) h = refl
other x (CreateRole name) h = refl
other x (CreateTablespace name owner location) h = refl
other x (CreateDatabase name owner) h = refl
other x (AlterDatabase name on) h = refl
other x (Connect name) h = refl
other x (CreateSchema name owner) h = refl
other x (CreateEnum schema name owner) h = refl
other x (AddLabel schema name text) h = refl
other x (CreateTable schema name owner tablespace columns) h = refl
other x (CreateIndex name schema table tablespace keys) h = refl
other x (CreateSequence schema name owner) h = refl

pub load_other : (text : List ℕ) (p : Place) (x : PlacedStatement) → p ≡ start_of text → statement_at p ≡ Ok (Some x) → ((name : List ℕ) → x.statement ≡ Bootstrap name → ⊥) → load_of text ≡ Err (record { line = x.line; cause = UnknownStatement })
load_other text p x at e h = load_is text p _ at e ∙ other x x.statement h
