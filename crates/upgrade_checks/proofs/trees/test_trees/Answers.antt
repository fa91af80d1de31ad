use Rattle.std.proofs.Common.{false, ◌∷◌, [], Ok}
use Rattle.compat_checks.specs.Order.{NewUsedIs, TablespaceDirIs, MissingFileIs, SharedInodeIs}
use Rattle.upgrade_checks.specs.Findings.{Readings}
use Rattle.upgrade_checks.proofs.Testing.{tested_on, tested_first, tested_then}
use Rattle.upgrade_checks.proofs.trees.test_trees.Goals as goal

pub returns-in_err-test_used : goal.returns-in_err-test_used
returns-in_err-test_used g c = record {
  tested = λ new.
      let readings : Readings = record { old = Ok c.args.old.now; new = new } in
      tested_on false c.args.job.now readings _ _ _ c.from_residual.result c.in_err-test_used.field-0.0 c.from_residual.ensures.1
      (tested_first false c.args.job.now readings (NewUsedIs ∷ []) (TablespaceDirIs ∷ MissingFileIs ∷ SharedInodeIs ∷ []) _ _ c.in_err-test_used.field-0.0 (c.in_err-test_used.ensures.tested readings));
}

pub returns-in_err-test_tablespaces : goal.returns-in_err-test_tablespaces
returns-in_err-test_tablespaces g c = record {
  tested = λ new.
      let readings : Readings = record { old = Ok c.args.old.now; new = new } in
      let stop = c.in_err-test_tablespaces.field-0.0 in
      tested_on false c.args.job.now readings _ _ _ c.from_residual-in_err-test_tablespaces.result stop c.from_residual-in_err-test_tablespaces.ensures.1
      (tested_then false c.args.job.now readings (NewUsedIs ∷ []) (TablespaceDirIs ∷ MissingFileIs ∷ SharedInodeIs ∷ []) _ _ _ _ _ (c.in_ok-test_used.ensures.tested readings)
      (tested_first false c.args.job.now readings (TablespaceDirIs ∷ []) (MissingFileIs ∷ SharedInodeIs ∷ []) _ _ stop (c.in_err-test_tablespaces.ensures.tested new)));
}

pub returns-in_err-test_missing : goal.returns-in_err-test_missing
returns-in_err-test_missing g c = record {
  tested = λ new.
      let readings : Readings = record { old = Ok c.args.old.now; new = new } in
      let stop = c.in_err-test_missing.field-0.0 in
      tested_on false c.args.job.now readings _ _ _ c.from_residual-in_err-test_missing.result stop c.from_residual-in_err-test_missing.ensures.1
      (tested_then false c.args.job.now readings (NewUsedIs ∷ []) (TablespaceDirIs ∷ MissingFileIs ∷ SharedInodeIs ∷ []) _ _ _ _ _ (c.in_ok-test_used.ensures.tested readings)
      (tested_then false c.args.job.now readings (TablespaceDirIs ∷ []) (MissingFileIs ∷ SharedInodeIs ∷ []) _ _ _ _ _ (c.in_ok-test_tablespaces.ensures.tested new)
      (tested_first false c.args.job.now readings (MissingFileIs ∷ []) (SharedInodeIs ∷ []) _ _ stop (c.in_err-test_missing.ensures.tested new))));
}

pub returns : goal.returns
returns g c = record {
  tested = λ new.
      let readings : Readings = record { old = Ok c.args.old.now; new = new } in
      tested_then false c.args.job.now readings (NewUsedIs ∷ []) (TablespaceDirIs ∷ MissingFileIs ∷ SharedInodeIs ∷ []) _ _ _ _ _ (c.in_ok-test_used.ensures.tested readings)
      (tested_then false c.args.job.now readings (TablespaceDirIs ∷ []) (MissingFileIs ∷ SharedInodeIs ∷ []) _ _ _ _ _ (c.in_ok-test_tablespaces.ensures.tested new)
      (tested_then false c.args.job.now readings (MissingFileIs ∷ []) (SharedInodeIs ∷ []) _ _ _ _ c.test_shared.result (c.in_ok-test_missing.ensures.tested new) (c.test_shared.ensures.tested readings)));
}
