use Rattle.std.proofs.Common.{◌∙◌, refl}
use Rattle.fs_model.specs.Calls.{Creates}
use Rattle.fs_model.specs.Trail.{error_of}
use Rattle.fs_model.proofs.Going.{goes_one}
use Rattle.fs_model.proofs.Causes.{others_then}
use Rattle.fs_tools.specs.Made.{Makes}
use Rattle.fs_tools.proofs.Making.{both_made, write_decided, ok_made, after_create, refused_unchanged}
use Rattle.fs_tools.proofs.makes.make_file.Goals as goal

pub returns-in_err-create-clause-calls : goal.returns-in_err-create-clause-calls
returns-in_err-create-clause-calls g c told =
    let old = g.F.Fs.trail c.args.fs.now in
    goes_one (Makes c.args.at.now old.present) (Creates c.args.at.now) (error_of c.create.result) old (g.F.Fs.trail c.create.new.self) refl (c.create.ensures.steps told)

pub returns-in_err-create-clause-refused : goal.returns-in_err-create-clause-refused
returns-in_err-create-clause-refused g c told refused =
    refused_unchanged (Creates c.args.at.now) (error_of c.create.result) (g.F.Fs.trail c.args.fs.now) (g.F.Fs.trail c.create.new.self) refused (c.create.ensures.steps told)

pub returns-clause-calls : goal.returns-clause-calls
returns-clause-calls g c told =
    both_made c.args.at.now c.args.bytes.now (g.F.Fs.trail c.args.fs.now) (g.F.Fs.trail c.create.new.self) (c.in_ok-create.ensures.steps told) (error_of c.write_at.result) (g.F.Fs.trail c.write_at.new.self)
    (c.write_at.ensures.steps (c.create.ensures.told ∙ told))

pub returns-clause-decided : goal.returns-clause-decided
returns-clause-decided g c told =
    write_decided c.args.at.now c.args.bytes.now (g.F.Fs.trail c.args.fs.now) (g.F.Fs.trail c.create.new.self) (c.in_ok-create.ensures.steps told) c.write_at.result (g.F.Fs.trail c.write_at.new.self)
    (c.write_at.ensures.steps (c.create.ensures.told ∙ told))

pub returns-clause-refused : goal.returns-clause-refused
returns-clause-refused g c told refused =
    absurd (refused (after_create c.args.at.now c.args.bytes.now (g.F.Fs.trail c.args.fs.now) (g.F.Fs.trail c.create.new.self) (c.in_ok-create.ensures.steps told)).3)

pub returns-clause-made : goal.returns-clause-made
returns-clause-made g c told =
    ok_made c.args.at.now c.args.bytes.now (g.F.Fs.trail c.args.fs.now) (g.F.Fs.trail c.create.new.self) c.write_at.result (g.F.Fs.trail c.write_at.new.self) (c.in_ok-create.ensures.steps told)
    (c.write_at.ensures.steps (c.create.ensures.told ∙ told))

pub returns-clause-others : goal.returns-clause-others
returns-clause-others g c = others_then (g.F.Fs.counts c.args.fs.now) (g.F.Fs.counts c.create.new.self) (g.F.Fs.counts c.write_at.new.self) (error_of c.write_at.result) c.in_ok-create.ensures.others c.write_at.ensures.others
