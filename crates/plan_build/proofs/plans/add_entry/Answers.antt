use Rattle.std.proofs.Common.{◌∙◌, None, Some, OnOk, sym, subst}
use Rattle.fs_model.specs.State.{FsState}
use Rattle.fs_model.specs.Trail.{unless_lack, error_of}
use Rattle.fs_model.specs.WellFormed.{WellFormed}
use Rattle.fs_model.proofs.Observing.{reads_then}
use Rattle.relation_files.specs.declared.relation.Fork.TheVariants.{FreeSpace, Visibility}
use Rattle.relation_map.specs.Equal.{carriage_of}
use Rattle.plan_build.specs.Planned.{AddsFork}
use Rattle.plan_build.proofs.Adding.{three_forks, on_ok}
use Rattle.plan_build.proofs.plans.add_entry.Goals as goal

pub returns-in-Err-add_fork-clause-reads : goal.returns-in-Err-add_fork-clause-reads
returns-in-Err-add_fork-clause-reads g c = reads_then _ _ _ None (unless_lack (Some c.in-Err-add_fork.error)) tt c.in-Ok.ensures.reads c.in-Err-add_fork.ensures.reads

pub returns-clause-reads : goal.returns-clause-reads
returns-clause-reads g c =
    reads_then _ _ _ None (unless_lack (error_of c.add_fork-3.result)) tt (reads_then _ _ _ None None tt c.in-Ok.ensures.reads c.in-Ok-add_fork.ensures.reads) c.add_fork-3.ensures.reads

pub returns-clause-adds : goal.returns-clause-adds
returns-clause-adds g c told formed =
    let entry = carriage_of c.args.entry.now in
    let first = c.in-Ok.ensures.reads in
    let both = reads_then _ _ _ None None tt c.in-Ok.ensures.reads c.in-Ok-add_fork.ensures.reads in
    let one = (first.unchanged told).present in
    let two = (both.unchanged told).present in
    let main = c.in-Ok.ensures.adds told formed in
    let space = subst (λ s. AddsFork s entry FreeSpace c.add_fork.new.items.items c.add_fork-2.new.items.items) one
    (c.in-Ok-add_fork.ensures.adds (first.told ∙ told) (subst WellFormed (sym one) formed)) in
    let Adds : FsState → Type 0 = λ s. OnOk c.add_fork-3.result (AddsFork s entry Visibility c.add_fork-2.new.items.items c.add_fork-3.new.items.items) in
    let map = subst Adds two (c.add_fork-3.ensures.adds (both.told ∙ told) (subst WellFormed (sym two) formed)) in
    on_ok c.add_fork-3.result _ _
    (λ added. three_forks (g.F.Fs.trail c.args.fs.now).present entry c.args.items.now.items c.add_fork.new.items.items c.add_fork-2.new.items.items c.add_fork-3.new.items.items main space added) map
