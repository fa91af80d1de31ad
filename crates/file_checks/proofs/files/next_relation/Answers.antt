use Rattle.std.proofs.Common.{◌∙◌, None, sym, subst}
use Rattle.std.specs.Prelude.{IfOk}
use Rattle.fs_model.specs.State.{FsState}
use Rattle.fs_model.specs.Trail.{error_of, unless_lack}
use Rattle.fs_model.specs.WellFormed.{WellFormed}
use Rattle.fs_model.proofs.Observing.{reads_then}
use Rattle.relation_files.specs.Sites.{site_at}
use Rattle.file_checks.specs.RelationFiles.{IsBadRelation}
use Rattle.file_checks.specs.Kept.{AreListings}
use Rattle.file_checks.proofs.files.next_relation.Goals as goal

pub returns-in-Ok-clause-reads : goal.returns-in-Ok-clause-reads
returns-in-Ok-clause-reads g c = reads_then _ _ _ None (unless_lack (error_of c.bad_relation.result)) tt c.in-Ok.ensures.reads c.bad_relation.ensures.reads

pub returns-in-Ok-clause-finds : goal.returns-in-Ok-clause-finds
returns-in-Ok-clause-finds g c told formed listings =
    let s : FsState = (g.F.Fs.trail c.args.fs.now).present in
    let same = (c.in-Ok.ensures.reads.unchanged told).present in
    let site = site_at c.args.site.now in
    subst (λ (t : FsState). IfOk c.bad_relation.result (IsBadRelation t.names site c.args.relation)) same
    (c.bad_relation.ensures.finds (c.in-Ok.ensures.reads.told ∙ told) (subst WellFormed (sym same) formed)
    (subst (λ (t : FsState). AreListings t.names site c.list_once.new.listings) (sym same) (c.in-Ok.ensures.kept told formed listings)) c.in-Ok.ensures.listed)
