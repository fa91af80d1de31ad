use Rattle.std.proofs.Common.{◌≤◌, ◌∙◌, inl, ◌+◌, [], ◌∷◌, drop, Some, None, length, sym, subst}
use Rattle.fs_model.specs.State.{FsState}
use Rattle.fs_model.specs.Trail.{unless_lack}
use Rattle.fs_model.specs.WellFormed.{WellFormed}
use Rattle.fs_model.proofs.Observing.{reads_then}
use Rattle.tree_checks.specs.Findings.{IsFirstAmong}
use Rattle.file_checks.specs.Tablespaces.{placed, IsBadTablespace}
use Rattle.file_checks.proofs.Locating.{placed_from, placed_end, none_first}
use Rattle.file_checks.proofs.tablespaces.first_bad.Goals as goal

pub returns-in-Ok-Some-clause-reads : goal.returns-in-Ok-Some-clause-reads
returns-in-Ok-Some-clause-reads g c = reads_then _ _ _ None None tt c.loop-i.invariant.reads c.in-Ok-Some.ensures.reads

pub returns-in-Err-clause-reads : goal.returns-in-Err-clause-reads
returns-in-Err-clause-reads g c = reads_then _ _ _ None (unless_lack (Some c.in-Err.error)) tt c.loop-i.invariant.reads c.in-Err.ensures.reads

pub returns-in-Ok-Some-clause-finds : goal.returns-in-Ok-Some-clause-finds
returns-in-Ok-Some-clause-finds g c told formed =
    let s : FsState = (g.F.Fs.trail c.args.fs.now).present in
    let same = (c.loop-i.invariant.reads.unchanged told).present in
    let ts = c.args.catalog.now.tablespaces in
    let t = c.in-Some.tablespace.now in
    let got : IsFirstAmong (IsBadTablespace s.names c.args.old.now c.args.new.now (placed ts)) (placed (t ∷ [])) (Some c.in-Ok-Some.path) =
    subst (IsFirstAmong (IsBadTablespace s.names c.args.old.now c.args.new.now (placed ts)) (placed (t ∷ []))) c.in-Ok-Some.field-0-is
    (subst (λ (u : FsState). IsFirstAmong (IsBadTablespace u.names c.args.old.now c.args.new.now (placed ts)) (placed (t ∷ [])) c.in-Ok-Some.field-0) same (c.in-Ok-Some.ensures.finds (c.loop-i.invariant.reads.told ∙ told) (subst WellFormed (sym same) formed))) in
    c.loop-i.invariant.rest told formed (Some c.in-Ok-Some.path) (placed_from (IsBadTablespace s.names c.args.old.now c.args.new.now (placed ts)) ts c.loop-i.i t (Some c.in-Ok-Some.path) (sym c.in-Some.ensures) (inl got))

pub loop-i-preserved : goal.loop-i-preserved
loop-i-preserved g c = record {
  reads = reads_then _ _ _ None None tt c.loop-i.invariant.reads c.in-Ok-None.ensures.reads;
  rest = λ told formed found later.
      let s : FsState = (g.F.Fs.trail c.args.fs.now).present in
      let same = (c.loop-i.invariant.reads.unchanged told).present in
      let ts = c.args.catalog.now.tablespaces in
      let t = c.in-Some.tablespace.now in
      let got : IsFirstAmong (IsBadTablespace s.names c.args.old.now c.args.new.now (placed ts)) (placed (t ∷ [])) None =
      subst (IsFirstAmong (IsBadTablespace s.names c.args.old.now c.args.new.now (placed ts)) (placed (t ∷ []))) c.in-Ok-None.field-0-is
      (subst (λ (u : FsState). IsFirstAmong (IsBadTablespace u.names c.args.old.now c.args.new.now (placed ts)) (placed (t ∷ [])) c.in-Ok-None.field-0) same (c.in-Ok-None.ensures.finds (c.loop-i.invariant.reads.told ∙ told) (subst WellFormed (sym same) formed))) in
      c.loop-i.invariant.rest told formed found (placed_from (IsBadTablespace s.names c.args.old.now c.args.new.now (placed ts)) ts c.loop-i.i t found (sym c.in-Some.ensures)
      (none_first (IsFirstAmong (IsBadTablespace s.names c.args.old.now c.args.new.now (placed ts)) (placed (t ∷ []))) (IsFirstAmong (IsBadTablespace s.names c.args.old.now c.args.new.now (placed ts)) (placed (drop (c.loop-i.i + 1) ts))) found got later));
}

pub returns-clause-finds : goal.returns-clause-finds
returns-clause-finds g c told formed =
    let all : length c.args.catalog.now.tablespaces ≤ c.loop-i.i = subst (λ n. n ≤ c.loop-i.i) c.tablespace_count-count.ensures c.loop-i-test.false in
    c.loop-i.invariant.rest told formed None (placed_end (IsBadTablespace (g.F.Fs.trail c.args.fs.now).present.names c.args.old.now c.args.new.now (placed c.args.catalog.now.tablespaces)) c.args.catalog.now.tablespaces c.loop-i.i all)
