use Rattle.std.proofs.Common.{◌≡◌, ◌↔◌, ◌∙◌, ℕ, true, None, Some, sym, subst}
use Rattle.std.specs.Prelude.{IfOk}
use Rattle.std.specs.FinMap.{contains_key}
use Rattle.fs_model.specs.State.{FsState}
use Rattle.fs_model.specs.Trail.{error_of, unless_lack}
use Rattle.fs_model.specs.WellFormed.{WellFormed}
use Rattle.fs_model.proofs.Observing.{reads_then}
use Rattle.fs_tools.proofs.Answering.{reads_on_lack}
use Rattle.shared_inodes.specs.Counted.{AreShared}
use Rattle.shared_inodes.specs.Regions.{AreInTurn}
use Rattle.shared_inodes.specs.SharedInodes.{IsNamedIn}
use Rattle.shared_inodes.proofs.Both.{least_found, number_found}
use Rattle.shared_inodes.proofs.shared.shared_files.Goals as goal

pub returns-in_err-inodes-clause-reads : goal.returns-in_err-inodes-clause-reads
returns-in_err-inodes-clause-reads g c =
    reads_on_lack _ _ c.from_residual-in_err-inodes.result c.in_err-inodes.field-0.0 c.from_residual-in_err-inodes.ensures.1
    (reads_then _ _ _ None (unless_lack (Some c.in_err-inodes.field-0.0)) tt c.in_ok-regions.ensures.reads c.in_err-inodes.ensures.reads)

pub returns-clause-reads : goal.returns-clause-reads
returns-clause-reads g c =
    reads_then _ _ _ None (unless_lack (error_of c.shared_in.result)) tt (reads_then _ _ _ None None tt c.in_ok-regions.ensures.reads c.in_ok-inodes.ensures.reads) c.shared_in.ensures.reads

pub returns-clause-finds : goal.returns-clause-finds
returns-clause-finds g c told =
    let s : FsState = (g.F.Fs.trail c.args.fs.now).present in
    let formed = c.moment.ensures.well_formed told in
    let old_cover = c.in_ok-regions.ensures.old told formed in
    let new_cover = c.in_ok-regions.ensures.new told formed in
    let told_1 = c.in_ok-regions.ensures.reads.told ∙ told in
    let same_1 = (c.in_ok-regions.ensures.reads.unchanged told).present in
    let same_2 = (c.in_ok-inodes.ensures.reads.unchanged told_1).present ∙ same_1 in
    let named : (inode : ℕ) → (contains_key c.in_ok-inodes.inodes inode ≡ true) ↔ IsNamedIn s.names c.in_ok-regions.regions.old.items inode =
    subst (λ tops. (inode : ℕ) → (contains_key c.in_ok-inodes.inodes inode ≡ true) ↔ IsNamedIn s.names tops inode) c.deref.ensures.value
    (subst (λ (t : FsState). (inode : ℕ) → (contains_key c.in_ok-inodes.inodes inode ≡ true) ↔ IsNamedIn t.names c.deref.result.now inode) same_1
    (c.in_ok-inodes.ensures.exact told_1 (subst WellFormed (sym same_1) formed) (subst AreInTurn (sym c.deref.ensures.value) old_cover.in_turn))) in
    least_found s c.args.old.now c.args.new.now c.in_ok-regions.regions.old.items c.in_ok-regions.regions.new.items old_cover new_cover c.shared_in.result
    (subst (λ tops. IfOk c.shared_in.result (AreShared s.names tops c.in_ok-regions.regions.old.items)) c.deref-2.ensures.value
    (subst (λ (t : FsState). IfOk c.shared_in.result (AreShared t.names c.deref-2.result.now c.in_ok-regions.regions.old.items)) same_2
    (c.shared_in.ensures.exact (c.in_ok-inodes.ensures.reads.told ∙ told_1) (subst WellFormed (sym same_2) formed) (subst AreInTurn (sym c.deref-2.ensures.value) new_cover.in_turn) c.in_ok-regions.regions.old.items
    (subst (λ (t : FsState). (inode : ℕ) → (contains_key c.in_ok-inodes.inodes inode ≡ true) ↔ IsNamedIn t.names c.in_ok-regions.regions.old.items inode) (sym same_2) named))))

pub returns-clause-counts : goal.returns-clause-counts
returns-clause-counts g c told =
    let s : FsState = (g.F.Fs.trail c.args.fs.now).present in
    let formed = c.moment.ensures.well_formed told in
    let old_cover = c.in_ok-regions.ensures.old told formed in
    let new_cover = c.in_ok-regions.ensures.new told formed in
    let told_1 = c.in_ok-regions.ensures.reads.told ∙ told in
    let same_1 = (c.in_ok-regions.ensures.reads.unchanged told).present in
    let same_2 = (c.in_ok-inodes.ensures.reads.unchanged told_1).present ∙ same_1 in
    let named : (inode : ℕ) → (contains_key c.in_ok-inodes.inodes inode ≡ true) ↔ IsNamedIn s.names c.in_ok-regions.regions.old.items inode =
    subst (λ tops. (inode : ℕ) → (contains_key c.in_ok-inodes.inodes inode ≡ true) ↔ IsNamedIn s.names tops inode) c.deref.ensures.value
    (subst (λ (t : FsState). (inode : ℕ) → (contains_key c.in_ok-inodes.inodes inode ≡ true) ↔ IsNamedIn t.names c.deref.result.now inode) same_1
    (c.in_ok-inodes.ensures.exact told_1 (subst WellFormed (sym same_1) formed) (subst AreInTurn (sym c.deref.ensures.value) old_cover.in_turn))) in
    number_found s c.args.old.now c.args.new.now c.in_ok-regions.regions.old.items c.in_ok-regions.regions.new.items old_cover new_cover c.shared_in.result
    (subst (λ tops. IfOk c.shared_in.result (AreShared s.names tops c.in_ok-regions.regions.old.items)) c.deref-2.ensures.value
    (subst (λ (t : FsState). IfOk c.shared_in.result (AreShared t.names c.deref-2.result.now c.in_ok-regions.regions.old.items)) same_2
    (c.shared_in.ensures.exact (c.in_ok-inodes.ensures.reads.told ∙ told_1) (subst WellFormed (sym same_2) formed) (subst AreInTurn (sym c.deref-2.ensures.value) new_cover.in_turn) c.in_ok-regions.regions.old.items
    (subst (λ (t : FsState). (inode : ℕ) → (contains_key c.in_ok-inodes.inodes inode ≡ true) ↔ IsNamedIn t.names c.in_ok-regions.regions.old.items inode) (sym same_2) named))))
