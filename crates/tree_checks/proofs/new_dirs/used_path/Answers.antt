use Rattle.std.proofs.Common.{◌≡◌, ◌∙◌, ◌+◌, ◌++◌, ◌∷◌, [], take, get_or, Some, None, refl, sym, ap, subst, add-one}
use Rattle.std.proofs.Math.Seq.{take-suc}
use Rattle.std.proofs.lemmas.List.{take_all}
use Rattle.fs_model.specs.State.{FsState}
use Rattle.fs_model.specs.Trail.{unless_lack}
use Rattle.fs_model.specs.WellFormed.{WellFormed}
use Rattle.fs_model.proofs.Observing.{reads_then}
use Rattle.tree_checks.specs.declared.new_dirs.NewDir.{NewDir}
use Rattle.tree_checks.specs.declared.new_dirs.NewDir.TheVariants.{Base}
use Rattle.tree_checks.specs.Findings.{IsLeast}
use Rattle.tree_checks.specs.NewDirs.{IsNameIn, IsUsedIn, new_dir, new_dirs, is_in_way}
use Rattle.tree_checks.proofs.UsedNames.{used_next, used_all}
use Rattle.tree_checks.proofs.new_dirs.used_path.Goals as goal

pub returns-in-Err-clause-reads : goal.returns-in-Err-clause-reads
returns-in-Err-clause-reads g c = reads_then _ _ _ None (unless_lack (Some c.in-Err.error)) tt c.loop-dir.invariant.reads c.in-Err.ensures.reads

pub loop-dir-preserved : goal.loop-dir-preserved
loop-dir-preserved g c =
    let i = c.loop-dir.dir-index in
    let dir : NewDir = get_or new_dirs i Base in
    record {
      reads = reads_then _ _ _ None None tt c.loop-dir.invariant.reads c.in-Ok.ensures.reads;
      items = refl;
      least = λ told formed.
          let s : FsState = (g.F.Fs.trail c.args.fs.now).present in
          let same = (c.loop-dir.invariant.reads.unchanged told).present in
          let next : IsLeast (IsNameIn s.names (new_dir c.args.root.now dir) (is_in_way dir)) c.in-Ok.found =
          subst (λ (t : FsState). IsLeast (IsNameIn t.names (new_dir c.args.root.now dir) (is_in_way dir)) c.in-Ok.found) same
          (c.in-Ok.ensures.finds (c.loop-dir.invariant.reads.told ∙ told) (subst WellFormed (sym same) formed)) in
          let taken : take (i + 1) new_dirs ≡ take i new_dirs ++ dir ∷ [] = ap (λ n. take n new_dirs) (add-one i) ∙ take-suc new_dirs i Base c.loop-dir-test.true in
          subst (IsLeast (IsUsedIn s.names c.args.root.now (take (i + 1) new_dirs))) (sym c.lesser-least.ensures)
          (used_next s.names c.args.root.now (take i new_dirs) (take (i + 1) new_dirs) dir c.loop-dir.least c.in-Ok.found taken (c.loop-dir.invariant.least told formed) next);
    }

pub returns-clause-finds : goal.returns-clause-finds
returns-clause-finds g c told =
    used_all (g.F.Fs.trail c.args.fs.now).present.names c.args.root.now (take c.loop-dir.dir-index new_dirs) c.loop-dir.least (take_all c.loop-dir.dir-index new_dirs c.loop-dir-test.false)
    (c.loop-dir.invariant.least told (c.moment.ensures.well_formed told))
