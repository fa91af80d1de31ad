-- The canonical text of a valid catalog leads to it, and is loaded as it.
use Rattle.std.proofs.Common.{◌≡◌, ℕ, List, [], ◌∷◌, map, Option, Some, None, Result, Ok, refl, sym, ap, subst, ◌∙◌}
use Rattle.std.specs.Prelude.{option_map}
use Rattle.std.specs.List.{flat_map}
use Rattle.catalog.specs.Cluster.{Cluster, started}
use Rattle.dump_lex.specs.declared.token.LexError.{LexError}
use Rattle.dump_lex.specs.Place.{Place, PlacedToken}
use Rattle.dump_lex.specs.Reading.{Reads, why}
use Rattle.dump_lex.proofs.Parsing.{parsed}
use Rattle.dump_grammar.specs.declared.error.TextCause.{TextCause}
use Rattle.dump_grammar.specs.declared.statement.Statement.{Statement}
use Rattle.dump_grammar.specs.declared.statement.Statement.TheVariants.{Bootstrap}
use Rattle.dump_grammar.specs.Spelling.{Word, lines_of}
use Rattle.dump_grammar.specs.Canonical.{statements_of, more_statements, canonical}
use Rattle.dump_rules.specs.Rules.{State, opened, Replays}
use Rattle.dump_spelling.specs.Spelled.{words_of, AreWritable, AreSpelled}
use Rattle.dump_spelling.proofs.Lines.{lines_are_spelled}
use Rattle.dump_laws.specs.Replayed.{at}
use Rattle.dump_laws.proofs.Cluster.{step_bootstrap, statements_replay}
use Rattle.dump_laws.proofs.WritableObjects.{statements_writable}
use Rattle.dump_read.specs.Reading.{PlacedStatement, statement_at, statement_in, Stand}
use Rattle.dump_read.specs.Laws.{SpellAll, AreStatements}
use Rattle.dump_read.proofs.TextStands.{spelled_text_stands}
use Rattle.dump_replay.specs.Replay.{start_of, Outcome}
use Rattle.dump_replay.specs.Law.{Loads}
use Rattle.dump_replay.proofs.SequenceLemmas.{allowed_is_replayed}
use Rattle.dump_replay.proofs.LoadLemmas.{sequence_is_loaded}
use Rattle.dump_text.specs.Printed.{CanonicalLeads, CanonicalIsLoaded}

are_statements : (ss : List Statement) → AreWritable ss → AreStatements ss
are_statements [] h = tt
are_statements (s ∷ ss) h = (h.0.0, are_statements ss h.1)

spell_all : (ss : List Statement) → AreSpelled ss → SpellAll (flat_map words_of ss) ss
spell_all [] h = refl
spell_all (s ∷ ss) h = (words_of s, flat_map words_of ss, refl, h.0, spell_all ss h.1)

no_error : (p : Place) (tokens : List PlacedToken) (e : Option LexError) → Reads p tokens e → option_map why e ≡ None → Reads p tokens None
no_error p tokens None reads is = reads
no_error p tokens (Some e) reads is = absurd cc

-- the statements that stand in the text of statements that can be written
record Standing (p : Place) (ss : List Statement) : Type 0 where
  placed : List PlacedStatement
  end : Place
  stand : Stand p placed end
  are : map statement_in placed ≡ ss
  ends : statement_at end ≡ Ok None

lines_stand : (ss : List Statement) → AreWritable ss → Standing (start_of (lines_of ss)) ss
lines_stand ss h =
    let p = start_of (lines_of ss) in
    let spelled = lines_are_spelled ss h in
    let r = parsed (lines_of ss) (flat_map words_of ss) None spelled.0 p refl in
    let reads = no_error p r.0 r.1 r.2 r.4 in
    let spell = subst (λ (ws : List Word). SpellAll ws ss) (sym r.3) (spell_all ss spelled.1) in
    let s = spelled_text_stands p r.0 ss reads spell (are_statements ss h) in
    record { placed = s.0; end = s.1; stand = s.2; are = s.3; ends = s.4 }

pub canonical_leads : CanonicalLeads
canonical_leads c v w =
    let s = lines_stand (statements_of c) (statements_writable c v w) in
    let m = statements_replay c v in
    let begins = opened (started c.bootstrap) in
    let replays = subst (λ (ss : List Statement). Replays begins ss (at c m.0)) (sym s.are) m.1 in
    let outcome = allowed_is_replayed begins (at c m.0) (start_of (canonical c)) s.end s.placed s.stand replays s.ends in
    (ap (λ (o : Outcome). o.fault) outcome, ap (λ (o : Outcome). o.state.catalog) outcome)

same_state : (s t : State) → ◌≡◌ {A = Result State TextCause} (Ok s) (Ok t) → s ≡ t
same_state s t e = cc

loads : (c : Cluster) (m : Option ℕ) (placed : List PlacedStatement) (end : Place) → Stand (start_of (canonical c)) placed end → map statement_in placed ≡ statements_of c → statement_at end ≡ Ok None → Replays (opened (started c.bootstrap)) (statements_of c) (at c m) → Loads (canonical c) c
loads c m [] end stand are ends replays = absurd cc
loads c m (x ∷ xs) end stand are ends replays =
    let begins : x.statement ≡ Bootstrap c.bootstrap = cc in
    let rest : map statement_in xs ≡ more_statements c = cc in
    let same : opened (started c.bootstrap) ≡ replays.0 = same_state (opened (started c.bootstrap)) replays.0 (sym (step_bootstrap c) ∙ replays.1) in
    let later = subst (λ (s : State). Replays s (more_statements c) (at c m)) (sym same) replays.2 in
    record {
      name = c.bootstrap;
      first = x;
      more = xs;
      end = end;
      state = at c m;
      stand = stand;
      begins = begins;
      replays = subst (λ (ss : List Statement). Replays (opened (started c.bootstrap)) ss (at c m)) (sym rest) later;
      ends = ends;
      leads = refl;
    }

pub canonical_is_loaded : CanonicalIsLoaded
canonical_is_loaded c v w =
    let s = lines_stand (statements_of c) (statements_writable c v w) in
    let m = statements_replay c v in
    sequence_is_loaded (canonical c) c (loads c m.0 s.placed s.end s.stand s.are s.ends m.1)
