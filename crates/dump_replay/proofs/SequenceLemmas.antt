-- A replay in the words of statements that stand one after another.
use Rattle.std.proofs.Common.{◌≡◌, ℕ, zero, suc, ◌+◌, ◌<◌, ◌≤◌, List, [], ◌∷◌, ◌++◌, length, map, Option, Some, None, Result, Ok, Err, refl, ap, ◌∙◌, inl, inr, arith}
use Rattle.catalog.specs.Cluster.{Cluster}
use Rattle.dump_lex.specs.Place.{Place, rest_of}
use Rattle.dump_grammar.specs.declared.error.TextError.{TextError}
use Rattle.dump_grammar.specs.declared.error.TextCause.{TextCause}
use Rattle.dump_rules.specs.Rules.{State, step, Replays}
use Rattle.dump_read.specs.Reading.{PlacedStatement, statement_at, statement_in, Stand}
use Rattle.dump_replay.specs.Replay.{Outcome, stepped, resumed, run_from}
use Rattle.dump_replay.specs.Law.{EndsAs, AfterSome, ReplayIsSequence, AllowedIsReplayed}
use Rattle.dump_replay.proofs.ReadingLemmas.{Shrinks, shrinks}

stepped_as : (go : State → Place → Outcome) (s : State) (p : Place) (x : PlacedStatement) → statement_at p ≡ Ok (Some x) → ((m : State) → EndsAs m x.after (go m x.after)) → (r : Result State TextCause) → step s x.statement ≡ r → EndsAs s p (stepped go s x r)
stepped_as go s p x read on (Ok m) is =
    let e = on m in
    record { before = x ∷ e.before; place = e.place; stand = (read, e.stand); replays = (m, is, e.replays); stops = e.stops }
stepped_as go s p x read on (Err cause) is =
    record { before = []; place = p; stand = refl; replays = refl; stops = inr (record { placed = x; cause = cause; read = read; refused = is; is = refl }) }

went_on : (go : State → Place → Outcome) (s : State) (p : Place) (r : Result (Option PlacedStatement) TextError) → statement_at p ≡ r → ((x : PlacedStatement) → statement_at p ≡ Ok (Some x) → (m : State) → EndsAs m x.after (go m x.after)) → EndsAs s p (resumed go s r)
went_on go s p (Err e) is on = record { before = []; place = p; stand = refl; replays = refl; stops = inl is }
went_on go s p (Ok None) is on = record { before = []; place = p; stand = refl; replays = refl; stops = is }
went_on go s p (Ok (Some x)) is on = stepped_as go s p x is (on x is) (step s x.statement) refl

ends_as : Shrinks → (n : ℕ) (s : State) (p : Place) → length (rest_of p) < n → EndsAs s p (run_from n s p)
unfolding run_from
ends_as shrinks zero s p lt = absurd (omega arith)
ends_as shrinks (suc n) s p lt = went_on (run_from n) s p (statement_at p) refl (λ x is m. ends_as shrinks n m x.after (let h = shrinks p x is in omega arith))

pub replay_is_sequence : ReplayIsSequence
replay_is_sequence s p = ends_as shrinks (suc (length (rest_of p))) s p (omega arith)

goes_all : (n : ℕ) (s t : State) (p q : Place) (xs : List PlacedStatement) → length xs < n → Stand p xs q → Replays s (map statement_in xs) t → statement_at q ≡ Ok None → run_from n s p ≡ record { state = t; fault = None }
unfolding run_from
goes_all zero s t p q xs lt stand h end = absurd (omega arith)
goes_all (suc n) s t p q [] lt stand h end = ap (resumed (run_from n) s) (ap statement_at stand ∙ end) ∙ ap (λ (x : State). record { state = x; fault = None }) h
goes_all (suc n) s t p q (x ∷ xs) lt stand h end =
    ap (resumed (run_from n) s) stand.0 ∙ ap (stepped (run_from n) s x) h.1 ∙ goes_all n h.0 t x.after q xs (omega arith) stand.1 h.2 end

-- each statement takes a byte at least
stand_within : (p q : Place) (xs : List PlacedStatement) → Stand p xs q → length xs + length (rest_of q) ≤ length (rest_of p)
stand_within p q [] h = omega (arith, ap (λ (x : Place). length (rest_of x)) h)
stand_within p q (x ∷ xs) h = omega (arith, shrinks p x h.0, stand_within x.after q xs h.1)

pub allowed_is_replayed : AllowedIsReplayed
allowed_is_replayed s t p q xs stand h end = let le = stand_within p q xs stand in goes_all (suc (length (rest_of p))) s t p q xs (omega arith) stand h end

-- ---- one statement more

stand_more : (p q : Place) (xs : List PlacedStatement) (x : PlacedStatement) → Stand p xs q → statement_at q ≡ Ok (Some x) → Stand p (xs ++ x ∷ []) x.after
stand_more p q [] x h e = (ap statement_at h ∙ e, refl)
stand_more p q (y ∷ ys) x h e = (h.0, stand_more y.after q ys x h.1 e)

replays_more : (s t u : State) (xs : List PlacedStatement) (x : PlacedStatement) → Replays s (map statement_in xs) t → step t x.statement ≡ Ok u → Replays s (map statement_in (xs ++ x ∷ [])) u
replays_more s t u [] x h e = (u, ap (λ (v : State). step v x.statement) h ∙ e, refl)
replays_more s t u (y ∷ ys) x h e = (h.0, h.1, replays_more h.0 t u ys x h.2 e)

-- statements lead from one state and place to another
pub record Leads (s : State) (p : Place) (t : State) (q : Place) : Type 0 where
  pub before : List PlacedStatement
  pub stand : Stand p before q
  pub replays : Replays s (map statement_in before) t

pub leads_none : (s : State) (p : Place) → Leads s p s p
leads_none s p = record { before = []; stand = refl; replays = refl }

pub leads_more : (s t u : State) (p q : Place) (x : PlacedStatement) → Leads s p t q → statement_at q ≡ Ok (Some x) → step t x.statement ≡ Ok u → Leads s p u x.after
leads_more s t u p q x l read made =
    record { before = l.before ++ x ∷ []; stand = stand_more p q l.before x l.stand read; replays = replays_more s t u l.before x l.replays made }

pub leads_some : (s t : State) (p q : Place) (c : Cluster) → Leads s p t q → c ≡ t.catalog → AfterSome s p c
leads_some s t p q c l is = record { before = l.before; place = q; state = t; stand = l.stand; replays = l.replays; holds = is }
