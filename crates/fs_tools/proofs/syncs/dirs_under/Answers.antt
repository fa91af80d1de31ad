use Rattle.std.proofs.Common.{◌++◌, ◌∙◌, sym, ap, subst}
use Rattle.std.specs.List.{flat_map}
use Rattle.fs_tools.specs.Walked.{dir_of, AreDirsUnder}
use Rattle.fs_tools.specs.declared.syncs.Dirs.{Dirs}
use Rattle.fs_tools.proofs.Gathering.{taken_all, walk_dirs}
use Rattle.fs_tools.proofs.syncs.dirs_under.Goals as goal

pub returns-clause-dirs : goal.returns-clause-dirs
returns-clause-dirs g c told =
    let s = (g.F.Fs.trail c.args.fs.now).present in
    let (items, taken, walk) = c.in_ok-walk_with.ensures.walked told in
    let start : Dirs = record { paths = c.new.result } in
    let kept = taken_all (λ (d : Dirs). d.paths.items) dir_of start c.walk_with.new.look items taken in
    subst (AreDirsUnder s c.args.top.now) (sym (kept ∙ ap (λ front. front ++ flat_map dir_of items) c.new.ensures.items)) (walk_dirs s c.args.top.now items walk)
