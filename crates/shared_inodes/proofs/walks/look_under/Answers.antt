use Rattle.std.proofs.Common.{◌∙◌, None, Result, Ok, Err, refl, sym, subst}
use Rattle.std.specs.Prelude.{OnOk, []}
use Rattle.fs_model.specs.declared.error.FsError.{FsError}
use Rattle.fs_model.specs.Trail.{error_of, unless_lack}
use Rattle.fs_model.proofs.Observing.{reads_then}
use Rattle.fs_tools.specs.Walked.{IsWalk}
use Rattle.shared_inodes.proofs.Looked.{walked_one, walked_none}
use Rattle.shared_inodes.proofs.walks.look_under.Goals as goal

ok_map : (P Q : Type 0) (result : Result (Unit {0}) FsError) → (P → Q) → OnOk result P → OnOk result Q
ok_map P Q (Ok value) to has = to has
ok_map P Q (Err error) to has = tt

pub returns-in-Ok-Some-clause-reads : goal.returns-in-Ok-Some-clause-reads
returns-in-Ok-Some-clause-reads g c = reads_then _ _ _ None (unless_lack (error_of c.walk_with.result)) tt c.in-Ok-Some.ensures.reads c.walk_with.ensures.reads

pub returns-in-Ok-Some-clause-walked : goal.returns-in-Ok-Some-clause-walked
returns-in-Ok-Some-clause-walked g c told formed =
    let same = (c.in-Ok-Some.ensures.reads.unchanged told).present in
    ok_map _ _ c.walk_with.result (λ walked. (walked.0, walked.1, walked_one _ c.args.top.now walked.0 (subst (λ s. IsWalk s c.args.top.now walked.0) same walked.2)))
    (c.walk_with.ensures.walked (c.in-Ok-Some.ensures.reads.told ∙ told))

pub returns-in-Ok-None-clause-walked : goal.returns-in-Ok-None-clause-walked
returns-in-Ok-None-clause-walked g c told formed =
    ([], refl, walked_none (g.F.Fs.trail c.args.fs.now).present c.args.top.now formed.tree (sym c.in-Ok-None.field-0-is ∙ c.in-Ok-None.ensures.shows told formed))
