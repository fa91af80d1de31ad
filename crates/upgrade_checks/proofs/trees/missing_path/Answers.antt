use Rattle.std.proofs.Common.{◌≡◌, ◌∙◌, None, inl, subst}
use Rattle.std.specs.Prelude.{IfOk}
use Rattle.fs_model.specs.State.{FsState}
use Rattle.fs_model.specs.Trail.{error_of, unless_lack}
use Rattle.fs_model.proofs.Observing.{reads_then}
use Rattle.tree_checks.specs.MissingDirs.{IsMissingDir}
use Rattle.file_checks.specs.RelationFiles.{IsMissingFile}
use Rattle.upgrade_checks.proofs.Testing.{found_then}
use Rattle.upgrade_checks.proofs.trees.missing_path.Goals as goal

pub returns-in-Ok-None-clause-reads : goal.returns-in-Ok-None-clause-reads
returns-in-Ok-None-clause-reads g c = reads_then _ _ _ None (unless_lack (error_of c.missing_file.result)) tt c.in-Ok-None.ensures.reads c.missing_file.ensures.reads

pub returns-in-Ok-None-clause-finds : goal.returns-in-Ok-None-clause-finds
returns-in-Ok-None-clause-finds g c told =
    let s : FsState = (g.F.Fs.trail c.args.fs.now).present in
    let t : FsState = (g.F.Fs.trail c.missing_dir.new.fs).present in
    let same : t ≡ s = (c.in-Ok-None.ensures.reads.unchanged told).present in
    found_then (IsMissingDir s.names c.args.job.now.old c.args.job.now.new) (IsMissingFile s c.args.job.now.old c.args.old.now) c.missing_file.result
    (subst (IsMissingDir s.names c.args.job.now.old c.args.job.now.new) c.in-Ok-None.field-0-is (c.in-Ok-None.ensures.finds told))
    (subst (λ u. IfOk c.missing_file.result (IsMissingFile u c.args.job.now.old c.args.old.now)) same (c.missing_file.ensures.finds (c.in-Ok-None.ensures.reads.told ∙ told)))

pub returns-in-Ok-Some-clause-finds : goal.returns-in-Ok-Some-clause-finds
returns-in-Ok-Some-clause-finds g c told =
    let s : FsState = (g.F.Fs.trail c.args.fs.now).present in
    inl (subst (IsMissingDir s.names c.args.job.now.old c.args.job.now.new) c.in-Ok-Some.field-0-is (c.in-Ok-Some.ensures.finds told))
