use Rattle.std.proofs.Common.{◌≡◌, ◌∙◌, Some, None, get_or, sym, subst}
use Rattle.fs_model.specs.State.{FsState}
use Rattle.fs_model.specs.Trail.{unless_lack}
use Rattle.fs_model.specs.WellFormed.{WellFormed}
use Rattle.fs_model.proofs.Observing.{no_reads, reads_then}
use Rattle.relation_files.specs.declared.relation.Relation.{Relation}
use Rattle.relation_files.specs.Sites.{site_at}
use Rattle.tree_checks.proofs.Firsts.{first_on, first_here}
use Rattle.file_checks.specs.Devices.{IsOtherDevice, ArePassed}
use Rattle.file_checks.proofs.Keeping.{each_first}
use Rattle.file_checks.proofs.Lists.{item_at}
use Rattle.file_checks.proofs.devices.first_device.Goals as goal

pub loop-relation-init : goal.loop-relation-init
loop-relation-init g c = record {
  reads = no_reads _;
  passed = λ told formed. each_first (λ tablespace database. IsOtherDevice (g.F.Fs.trail c.args.fs.now).present (site_at c.args.old.now) (site_at c.args.new.now) (record { database = database; tablespace = tablespace; file = 0 }) None) c.new-passed.result c.new-passed.ensures;
  rest = λ told formed found first. first;
}

pub returns-in-Ok-Some-clause-reads : goal.returns-in-Ok-Some-clause-reads
returns-in-Ok-Some-clause-reads g c = reads_then _ _ _ None None tt c.loop-relation.invariant.reads c.in-Ok-Some.ensures.reads

pub returns-in-Err-clause-reads : goal.returns-in-Err-clause-reads
returns-in-Err-clause-reads g c = reads_then _ _ _ None (unless_lack (Some c.in-Err.error)) tt c.loop-relation.invariant.reads c.in-Err.ensures.reads

pub returns-in-Ok-Some-clause-finds : goal.returns-in-Ok-Some-clause-finds
returns-in-Ok-Some-clause-finds g c told formed =
    let s : FsState = (g.F.Fs.trail c.args.fs.now).present in
    let same = (c.loop-relation.invariant.reads.unchanged told).present in
    let one = site_at c.args.old.now in
    let first : Relation = record { database = 0; tablespace = 0; file = 0 } in
    let item : Relation = get_or c.args.relations.now c.loop-relation.relation-index first in
    let two = site_at c.args.new.now in
    let got : IsOtherDevice s one two item c.in-Ok-Some.field-0 × (c.in-Ok-Some.field-0 ≡ None → ArePassed s one two c.next_device.new.passed) =
    subst (λ (t : FsState). IsOtherDevice t one two item c.in-Ok-Some.field-0 × (c.in-Ok-Some.field-0 ≡ None → ArePassed t one two c.next_device.new.passed)) same
    (c.in-Ok-Some.ensures.finds (c.loop-relation.invariant.reads.told ∙ told) (subst WellFormed (sym same) formed) (subst (λ (t : FsState). ArePassed t one two c.loop-relation.passed) (sym same) (c.loop-relation.invariant.passed told formed))) in
    first_here c.args.relations.now c.loop-relation.relation-index item c.loop-relation-test.true (item_at c.args.relations.now c.loop-relation.relation-index first c.loop-relation-test.true) (IsOtherDevice s one two) c.in-Ok-Some.path (subst (IsOtherDevice s one two item) c.in-Ok-Some.field-0-is got.0) (c.loop-relation.invariant.rest told formed)

pub loop-relation-preserved : goal.loop-relation-preserved
loop-relation-preserved g c = record {
  reads = reads_then _ _ _ None None tt c.loop-relation.invariant.reads c.in-Ok-None.ensures.reads;
  passed = λ told formed.
      let s : FsState = (g.F.Fs.trail c.args.fs.now).present in
      let same = (c.loop-relation.invariant.reads.unchanged told).present in
      let one = site_at c.args.old.now in
      let first : Relation = record { database = 0; tablespace = 0; file = 0 } in
      let item : Relation = get_or c.args.relations.now c.loop-relation.relation-index first in
      let two = site_at c.args.new.now in
      let got : IsOtherDevice s one two item c.in-Ok-None.field-0 × (c.in-Ok-None.field-0 ≡ None → ArePassed s one two c.next_device.new.passed) =
      subst (λ (t : FsState). IsOtherDevice t one two item c.in-Ok-None.field-0 × (c.in-Ok-None.field-0 ≡ None → ArePassed t one two c.next_device.new.passed)) same
      (c.in-Ok-None.ensures.finds (c.loop-relation.invariant.reads.told ∙ told) (subst WellFormed (sym same) formed) (subst (λ (t : FsState). ArePassed t one two c.loop-relation.passed) (sym same) (c.loop-relation.invariant.passed told formed))) in
      got.1 c.in-Ok-None.field-0-is;
  rest = λ told formed.
      let s : FsState = (g.F.Fs.trail c.args.fs.now).present in
      let same = (c.loop-relation.invariant.reads.unchanged told).present in
      let one = site_at c.args.old.now in
      let first : Relation = record { database = 0; tablespace = 0; file = 0 } in
      let item : Relation = get_or c.args.relations.now c.loop-relation.relation-index first in
      let two = site_at c.args.new.now in
      let got : IsOtherDevice s one two item c.in-Ok-None.field-0 × (c.in-Ok-None.field-0 ≡ None → ArePassed s one two c.next_device.new.passed) =
      subst (λ (t : FsState). IsOtherDevice t one two item c.in-Ok-None.field-0 × (c.in-Ok-None.field-0 ≡ None → ArePassed t one two c.next_device.new.passed)) same
      (c.in-Ok-None.ensures.finds (c.loop-relation.invariant.reads.told ∙ told) (subst WellFormed (sym same) formed) (subst (λ (t : FsState). ArePassed t one two c.loop-relation.passed) (sym same) (c.loop-relation.invariant.passed told formed))) in
      first_on c.args.relations.now c.loop-relation.relation-index item c.loop-relation-test.true (item_at c.args.relations.now c.loop-relation.relation-index first c.loop-relation-test.true) (IsOtherDevice s one two) (subst (IsOtherDevice s one two item) c.in-Ok-None.field-0-is got.0) (c.loop-relation.invariant.rest told formed);
}
