use Rattle.std.proofs.Common.{subst}
use Rattle.fs_model.specs.Calls.{MakesDir, MakesSymlink}
use Rattle.fs_model.specs.Trail.{error_of}
use Rattle.new_names.specs.Frame.{IsListed}
use Rattle.new_names.proofs.Runs.{one_listed, file_listed}
use Rattle.new_names.proofs.make.make_name.Goals as goal

pub returns-in-Dir-clause-calls : goal.returns-in-Dir-clause-calls
returns-in-Dir-clause-calls g c told listed is_listed =
    one_listed listed (MakesDir c.args.path.now) (error_of c.make_dir.result) (g.F.Fs.trail c.args.fs.now) (g.F.Fs.trail c.make_dir.new.self) (subst (IsListed listed c.args.path.now) c.in-Dir.is is_listed, c.moment.ensures.well_formed told) (c.make_dir.ensures.steps told)

pub returns-in-File-clause-calls : goal.returns-in-File-clause-calls
returns-in-File-clause-calls g c told listed is_listed =
    file_listed listed c.args.path.now c.in-File.bytes (g.F.Fs.trail c.args.fs.now) (g.F.Fs.trail c.make_file.new.fs) (subst (IsListed listed c.args.path.now) c.in-File.is is_listed) (c.make_file.ensures.calls told)

pub returns-in-Sym-clause-calls : goal.returns-in-Sym-clause-calls
returns-in-Sym-clause-calls g c told listed is_listed =
    one_listed listed (MakesSymlink c.args.path.now c.in-Sym.target) (error_of c.make_symlink.result) (g.F.Fs.trail c.args.fs.now) (g.F.Fs.trail c.make_symlink.new.self) (subst (IsListed listed c.args.path.now) c.in-Sym.is is_listed) (c.make_symlink.ensures.steps told)
