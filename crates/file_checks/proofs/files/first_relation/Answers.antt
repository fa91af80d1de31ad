use Rattle.std.proofs.Common.{◌∙◌, Some, None, get_or, sym, subst}
use Rattle.fs_model.specs.State.{FsState}
use Rattle.fs_model.specs.Trail.{unless_lack}
use Rattle.fs_model.specs.WellFormed.{WellFormed}
use Rattle.fs_model.proofs.Observing.{no_reads, reads_then}
use Rattle.relation_files.specs.declared.relation.Relation.{Relation}
use Rattle.relation_files.specs.Places.{relation_dir}
use Rattle.relation_files.specs.Sites.{site_at}
use Rattle.tree_checks.proofs.Firsts.{first_on, first_here}
use Rattle.file_checks.specs.declared.files.Listing.{Listing}
use Rattle.file_checks.specs.RelationFiles.{IsBadRelation}
use Rattle.file_checks.specs.Kept.{AreBadFiles, AreListings}
use Rattle.file_checks.proofs.Keeping.{each_first}
use Rattle.file_checks.proofs.Lists.{item_at}
use Rattle.file_checks.proofs.files.first_relation.Goals as goal

pub loop-relation-init : goal.loop-relation-init
loop-relation-init g c = record {
  reads = no_reads _;
  listings = λ told formed. each_first (λ tablespace (listing : Listing). AreBadFiles (g.F.Fs.trail c.args.fs.now).present.names (relation_dir (site_at c.args.site.now) (record { database = listing.database; tablespace = tablespace; file = 0 })) listing.bad) c.new-listings.result c.new-listings.ensures;
  rest = λ told formed found first. first;
}

pub returns-in-Ok-Some-clause-reads : goal.returns-in-Ok-Some-clause-reads
returns-in-Ok-Some-clause-reads g c = reads_then _ _ _ None None tt c.loop-relation.invariant.reads c.in-Ok-Some.ensures.reads

pub returns-in-Err-clause-reads : goal.returns-in-Err-clause-reads
returns-in-Err-clause-reads g c = reads_then _ _ _ None (unless_lack (Some c.in-Err.error)) tt c.loop-relation.invariant.reads c.in-Err.ensures.reads

pub returns-in-Ok-Some-clause-finds : goal.returns-in-Ok-Some-clause-finds
returns-in-Ok-Some-clause-finds g c told formed =
    let s : FsState = (g.F.Fs.trail c.args.fs.now).present in
    let same = (c.loop-relation.invariant.reads.unchanged told).present in
    let site = site_at c.args.site.now in
    let first : Relation = record { database = 0; tablespace = 0; file = 0 } in
    let item : Relation = get_or c.args.relations.now c.loop-relation.relation-index first in
    let got : IsBadRelation s.names site item c.in-Ok-Some.field-0 =
    subst (λ (t : FsState). IsBadRelation t.names site item c.in-Ok-Some.field-0) same
    (c.in-Ok-Some.ensures.finds (c.loop-relation.invariant.reads.told ∙ told) (subst WellFormed (sym same) formed) (subst (λ (t : FsState). AreListings t.names site c.loop-relation.listings) (sym same) (c.loop-relation.invariant.listings told formed))) in
    first_here c.args.relations.now c.loop-relation.relation-index item c.loop-relation-test.true (item_at c.args.relations.now c.loop-relation.relation-index first c.loop-relation-test.true) (IsBadRelation s.names site) c.in-Ok-Some.path (subst (IsBadRelation s.names site item) c.in-Ok-Some.field-0-is got) (c.loop-relation.invariant.rest told formed)

pub loop-relation-preserved : goal.loop-relation-preserved
loop-relation-preserved g c = record {
  reads = reads_then _ _ _ None None tt c.loop-relation.invariant.reads c.in-Ok-None.ensures.reads;
  listings = λ told formed.
      let same = (c.loop-relation.invariant.reads.unchanged told).present in
      let site = site_at c.args.site.now in
      subst (λ (t : FsState). AreListings t.names site c.next_relation.new.listings) same
      (c.in-Ok-None.ensures.kept (c.loop-relation.invariant.reads.told ∙ told) (subst WellFormed (sym same) formed) (subst (λ (t : FsState). AreListings t.names site c.loop-relation.listings) (sym same) (c.loop-relation.invariant.listings told formed)));
  rest = λ told formed.
      let s : FsState = (g.F.Fs.trail c.args.fs.now).present in
      let same = (c.loop-relation.invariant.reads.unchanged told).present in
      let site = site_at c.args.site.now in
      let first : Relation = record { database = 0; tablespace = 0; file = 0 } in
      let item : Relation = get_or c.args.relations.now c.loop-relation.relation-index first in
      let got : IsBadRelation s.names site item c.in-Ok-None.field-0 =
      subst (λ (t : FsState). IsBadRelation t.names site item c.in-Ok-None.field-0) same
      (c.in-Ok-None.ensures.finds (c.loop-relation.invariant.reads.told ∙ told) (subst WellFormed (sym same) formed) (subst (λ (t : FsState). AreListings t.names site c.loop-relation.listings) (sym same) (c.loop-relation.invariant.listings told formed))) in
      first_on c.args.relations.now c.loop-relation.relation-index item c.loop-relation-test.true (item_at c.args.relations.now c.loop-relation.relation-index first c.loop-relation-test.true) (IsBadRelation s.names site) (subst (IsBadRelation s.names site item) c.in-Ok-None.field-0-is got) (c.loop-relation.invariant.rest told formed);
}
