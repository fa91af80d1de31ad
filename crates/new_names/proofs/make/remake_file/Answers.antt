use Rattle.std.proofs.Common.{◌∙◌, subst}
use Rattle.fs_model.specs.Calls.{Unlinks}
use Rattle.fs_model.specs.Trail.{DecidedBy, error_of}
use Rattle.new_names.specs.declared.names.NewNode.TheVariants.{File}
use Rattle.new_names.proofs.Runs.{one_listed, file_listed, goes_joined, ok_remakes, removed_free}
use Rattle.new_names.proofs.make.remake_file.Goals as goal

pub returns-in_err-unlink-clause-calls : goal.returns-in_err-unlink-clause-calls
returns-in_err-unlink-clause-calls g c told listed is_listed =
    one_listed listed (Unlinks c.args.at.now) (error_of c.unlink.result) (g.F.Fs.trail c.args.fs.now) (g.F.Fs.trail c.unlink.new.self) (File c.args.bytes.now, is_listed) (c.unlink.ensures.steps told)

pub returns-clause-calls : goal.returns-clause-calls
returns-clause-calls g c told listed is_listed =
    goes_joined listed (g.F.Fs.trail c.args.fs.now) (g.F.Fs.trail c.unlink.new.self) (g.F.Fs.trail c.make_file.new.fs)
    (one_listed listed (Unlinks c.args.at.now) (error_of c.unlink.result) (g.F.Fs.trail c.args.fs.now) (g.F.Fs.trail c.unlink.new.self) (File c.args.bytes.now, is_listed) (c.unlink.ensures.steps told))
    (file_listed listed c.args.at.now c.args.bytes.now (g.F.Fs.trail c.unlink.new.self) (g.F.Fs.trail c.make_file.new.fs) is_listed (c.make_file.ensures.calls (c.unlink.ensures.told ∙ told)))

pub returns-clause-remade : goal.returns-clause-remade
returns-clause-remade g c told =
    ok_remakes c.make_file.result (g.F.Fs.trail c.args.fs.now) (g.F.Fs.trail c.unlink.new.self) c.args.at.now c.args.bytes.now (g.F.Fs.trail c.make_file.new.fs).present (c.in_ok-unlink.ensures.steps told) (c.make_file.ensures.made (c.unlink.ensures.told ∙ told))

pub returns-clause-decided : goal.returns-clause-decided
returns-clause-decided g c told =
    subst (λ refused. DecidedBy refused c.make_file.result) (removed_free (g.F.Fs.trail c.args.fs.now) (g.F.Fs.trail c.unlink.new.self) c.args.at.now (c.in_ok-unlink.ensures.steps told))
    (c.make_file.ensures.decided (c.unlink.ensures.told ∙ told))
