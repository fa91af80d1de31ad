use Rattle.std.proofs.Common.{◌∙◌, None, ap, sym}
use Rattle.std.specs.Option.{option_map}
use Rattle.fs_model.specs.Trail.{error_of, unless_lack}
use Rattle.fs_model.proofs.Observing.{reads_then}
use Rattle.tree_checks.specs.Looks.{names_at}
use Rattle.shared_inodes.proofs.Linking.{linked_none}
use Rattle.shared_inodes.proofs.regions.add_locations.Goals as goal

pub returns-in-Ok-Some-clause-reads : goal.returns-in-Ok-Some-clause-reads
returns-in-Ok-Some-clause-reads g c = reads_then _ _ _ None (unless_lack (error_of c.add_links.result)) tt c.in-Ok-Some.ensures.reads c.add_links.ensures.reads

pub returns-in-Ok-None-clause-shows : goal.returns-in-Ok-None-clause-shows
returns-in-Ok-None-clause-shows g c told formed =
    let s = (g.F.Fs.trail c.args.fs.now).present in
    linked_none s.names c.args.root.now c.args.found.now.items formed.tree
    (ap (λ o. option_map (λ n. n.items) o) (sym c.in-Ok-None.field-0-is) ∙ c.in-Ok-None.ensures.shows told formed ∙ ap (names_at s.names) c.in-Ok.ensures.path)
