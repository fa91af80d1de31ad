use Rattle.std.proofs.Common.{◌∙◌, Some, None, refl, subst, take}
use Rattle.fs_model.specs.Calls.{WritesAt, Stats, refusal}
use Rattle.fs_model.specs.Trail.{error_of, DecidedBy}
use Rattle.fs_model.proofs.Going.{goes_one, goes_then}
use Rattle.fs_tools.specs.Copied.{Copies}
use Rattle.fs_tools.proofs.Answering.{decided_on, decides_any, steps_decide}
use Rattle.fs_tools.proofs.Reruns.{unchanged_goes, stat_may_fail}
use Rattle.fs_tools.proofs.Copying.{made_since, writable, going_on, readable_then}
use Rattle.fs_tools.proofs.copies.next_piece.Goals as goal

pub returns-in_err-write_at-clause-calls : goal.returns-in_err-write_at-clause-calls
returns-in_err-write_at-clause-calls g c told start bytes copying =
    goes_one (Copies c.args.from.now c.args.to.now start) (WritesAt c.args.to.now c.args.done (take c.args.count c.args.buffer.now)) (error_of c.write_at.result) (g.F.Fs.trail c.args.fs.now) (g.F.Fs.trail c.write_at.new.self)
    (refl, made_since start c.args.from.now c.args.to.now bytes c.args.done c.args.count c.args.buffer.now (g.F.Fs.trail c.args.fs.now).present copying) (c.write_at.ensures.steps told)

pub returns-in_err-write_at-clause-free : goal.returns-in_err-write_at-clause-free
returns-in_err-write_at-clause-free g c told start bytes copying =
    let t = (g.F.Fs.trail c.args.fs.now).present in
    let free = writable start c.args.from.now c.args.to.now bytes c.args.done c.args.count c.args.buffer.now t copying c.args.done (take c.args.count c.args.buffer.now) in
    decided_on None c.from_residual.result c.in_err-write_at.field-0.0 c.from_residual.ensures.1
    (decides_any (refusal t (WritesAt c.args.to.now c.args.done (take c.args.count c.args.buffer.now))) None c.in_err-write_at.field-0.0 free
    (steps_decide (WritesAt c.args.to.now c.args.done (take c.args.count c.args.buffer.now)) (Some c.in_err-write_at.field-0.0) (g.F.Fs.trail c.args.fs.now) (g.F.Fs.trail c.write_at.new.self) (c.in_err-write_at.ensures.steps told)))

pub returns-clause-calls : goal.returns-clause-calls
returns-clause-calls g c told start bytes copying =
    let Allowed = Copies c.args.from.now c.args.to.now start in
    goes_then Allowed
    (goes_one Allowed (WritesAt c.args.to.now c.args.done (take c.args.count c.args.buffer.now)) None (g.F.Fs.trail c.args.fs.now) (g.F.Fs.trail c.write_at.new.self)
    (refl, made_since start c.args.from.now c.args.to.now bytes c.args.done c.args.count c.args.buffer.now (g.F.Fs.trail c.args.fs.now).present copying) (c.in_ok-write_at.ensures.steps told))
    (unchanged_goes Allowed (Stats c.args.from.now) (λ s. refl) (stat_may_fail c.args.from.now) (g.F.Fs.trail c.write_at.new.self) (g.F.Fs.trail c.read_piece.new.fs) (c.read_piece.ensures.reads.unchanged (c.write_at.ensures.told ∙ told)))

pub returns-clause-free : goal.returns-clause-free
returns-clause-free g c told start bytes copying =
    subst (λ refused. DecidedBy refused c.read_piece.result)
    (readable_then start c.args.from.now c.args.to.now bytes c.args.done c.args.count c.args.buffer.now (g.F.Fs.trail c.args.fs.now).present copying (g.F.Fs.trail c.args.fs.now) (g.F.Fs.trail c.write_at.new.self) refl
    (c.in_ok-write_at.ensures.steps told))
    (c.read_piece.ensures.decided (c.write_at.ensures.told ∙ told))

pub returns-clause-copied : goal.returns-clause-copied
returns-clause-copied g c told start bytes copying size =
    let old = g.F.Fs.trail c.args.fs.now in
    let mid = g.F.Fs.trail c.write_at.new.self in
    let new = g.F.Fs.trail c.read_piece.new.fs in
    let told_mid = c.write_at.ensures.told ∙ told in
    let same = (c.read_piece.ensures.reads.unchanged told_mid).present in
    going_on start c.args.from.now c.args.to.now bytes c.args.done c.args.count c.args.buffer.now old.present copying old mid refl (c.in_ok-write_at.ensures.steps told)
    c.requires.some c.args.size c.read_piece.new.buffer new.present same size c.read_piece.result (c.read_piece.ensures.piece told_mid)
