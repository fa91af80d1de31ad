use Rattle.std.proofs.Common.{◌≡◌, ◌∙◌, Some, None, refl, sym, ap, subst, length}
use Rattle.std.proofs.lemmas.Result.{IfOk-weaker}
use Rattle.fs_model.specs.Calls.{ReadsAt, Creates, Stats, refusal, or_else}
use Rattle.fs_model.specs.Reading.{file_bytes}
use Rattle.fs_model.specs.Trail.{Goes, DecidedBy, error_of}
use Rattle.fs_model.proofs.Runs.{unchanged_then}
use Rattle.fs_model.proofs.Going.{goes_one, goes_then}
use Rattle.fs_tools.specs.Made.{MakesFile}
use Rattle.fs_tools.specs.Copied.{Copies, CopiesFile}
use Rattle.fs_tools.proofs.Making.{refused_unchanged}
use Rattle.fs_tools.proofs.Reruns.{unchanged_goes, stat_may_fail}
use Rattle.fs_tools.proofs.Copying.{copying_starts}
use Rattle.fs_tools.proofs.copies.copy_file.Goals as goal

pub returns-in_err-size-clause-calls : goal.returns-in_err-size-clause-calls
returns-in_err-size-clause-calls g c told =
    let start = g.F.Fs.trail c.args.fs.now in
    unchanged_goes (Copies c.args.from.now c.args.to.now start.present) (Stats c.args.from.now) (λ s. refl) (stat_may_fail c.args.from.now) start (g.F.Fs.trail c.read_first.new.fs) (c.read_first.ensures.reads.unchanged told)

pub returns-in_err-create-clause-calls : goal.returns-in_err-create-clause-calls
returns-in_err-create-clause-calls g c told =
    let start = g.F.Fs.trail c.args.fs.now in
    let Allowed = Copies c.args.from.now c.args.to.now start.present in
    goes_then Allowed
    (unchanged_goes Allowed (Stats c.args.from.now) (λ s. refl) (stat_may_fail c.args.from.now) start (g.F.Fs.trail c.read_first.new.fs) (c.read_first.ensures.reads.unchanged told))
    (goes_one Allowed (Creates c.args.to.now) (error_of c.create.result) (g.F.Fs.trail c.read_first.new.fs) (g.F.Fs.trail c.create.new.self) refl (c.create.ensures.steps (c.read_first.ensures.reads.told ∙ told)))

pub returns-in_err-create-clause-refused : goal.returns-in_err-create-clause-refused
returns-in_err-create-clause-refused g c told refused =
    let start = g.F.Fs.trail c.args.fs.now in
    let read = g.F.Fs.trail c.read_first.new.fs in
    let same = (c.read_first.ensures.reads.unchanged told).present in
    let readable : refusal start.present (ReadsAt c.args.from.now) ≡ None = c.in_ok-size.ensures.decided told in
    unchanged_then start read (g.F.Fs.trail c.create.new.self) (c.read_first.ensures.reads.unchanged told)
    (refused_unchanged (Creates c.args.to.now) (error_of c.create.result) read (g.F.Fs.trail c.create.new.self)
    (λ free. refused (λ i. or_else (readable i) ((ap (λ s. refusal s (Creates c.args.to.now)) (sym same) ∙ free) i)))
    (c.create.ensures.steps (c.read_first.ensures.reads.told ∙ told)))

pub returns-clause-calls : goal.returns-clause-calls
returns-clause-calls g c told =
    let start = g.F.Fs.trail c.args.fs.now in
    let read = g.F.Fs.trail c.read_first.new.fs in
    let made = g.F.Fs.trail c.create.new.self in
    let Allowed = Copies c.args.from.now c.args.to.now start.present in
    let told_read = c.read_first.ensures.reads.told ∙ told in
    let same = (c.read_first.ensures.reads.unchanged told).present in
    let (bytes, source, size, piece) = c.in_ok-size.ensures.piece told in
    let readable : refusal read.present (ReadsAt c.args.from.now) ≡ None = ap (λ s. refusal s (ReadsAt c.args.from.now)) same ∙ c.in_ok-size.ensures.decided told in
    let copying = copying_starts c.args.from.now c.args.to.now bytes c.in_ok-size.first c.read_first.new.buffer read made readable (subst (λ s. file_bytes s c.args.from.now ≡ Some bytes) (sym same) source) piece (c.in_ok-create.ensures.steps told_read) in
    goes_then Allowed
    (goes_then Allowed
    (unchanged_goes Allowed (Stats c.args.from.now) (λ s. refl) (stat_may_fail c.args.from.now) start read (c.read_first.ensures.reads.unchanged told))
    (goes_one Allowed (Creates c.args.to.now) None read made refl (c.in_ok-create.ensures.steps told_read)))
    (subst (λ s. Goes (Copies c.args.from.now c.args.to.now s) made (g.F.Fs.trail c.write_pieces.new.fs)) same (c.write_pieces.ensures.calls (c.create.ensures.told ∙ told_read) read.present bytes copying size))

pub returns-clause-decided : goal.returns-clause-decided
returns-clause-decided g c told =
    let start = g.F.Fs.trail c.args.fs.now in
    let read = g.F.Fs.trail c.read_first.new.fs in
    let made = g.F.Fs.trail c.create.new.self in
    let told_read = c.read_first.ensures.reads.told ∙ told in
    let same = (c.read_first.ensures.reads.unchanged told).present in
    let (bytes, source, size, piece) = c.in_ok-size.ensures.piece told in
    let first : refusal start.present (ReadsAt c.args.from.now) ≡ None = c.in_ok-size.ensures.decided told in
    let readable : refusal read.present (ReadsAt c.args.from.now) ≡ None = ap (λ s. refusal s (ReadsAt c.args.from.now)) same ∙ first in
    let copying = copying_starts c.args.from.now c.args.to.now bytes c.in_ok-size.first c.read_first.new.buffer read made readable (subst (λ s. file_bytes s c.args.from.now ≡ Some bytes) (sym same) source) piece (c.in_ok-create.ensures.steps told_read) in
    let second : refusal start.present (Creates c.args.to.now) ≡ None = ap (λ s. refusal s (Creates c.args.to.now)) (sym same) ∙ copying.creatable in
    let both : or_else (refusal start.present (ReadsAt c.args.from.now)) (refusal start.present (Creates c.args.to.now)) ≡ None = λ i. or_else (first i) (second i) in
    subst (λ refused. DecidedBy refused c.write_pieces.result) (sym both) (c.write_pieces.ensures.free (c.create.ensures.told ∙ told_read) read.present bytes copying size)

pub returns-clause-copied : goal.returns-clause-copied
returns-clause-copied g c told =
    let start = g.F.Fs.trail c.args.fs.now in
    let read = g.F.Fs.trail c.read_first.new.fs in
    let made = g.F.Fs.trail c.create.new.self in
    let new = g.F.Fs.trail c.write_pieces.new.fs in
    let told_read = c.read_first.ensures.reads.told ∙ told in
    let same = (c.read_first.ensures.reads.unchanged told).present in
    let (bytes, source, size, piece) = c.in_ok-size.ensures.piece told in
    let readable : refusal read.present (ReadsAt c.args.from.now) ≡ None = ap (λ s. refusal s (ReadsAt c.args.from.now)) same ∙ c.in_ok-size.ensures.decided told in
    let copying = copying_starts c.args.from.now c.args.to.now bytes c.in_ok-size.first c.read_first.new.buffer read made readable (subst (λ s. file_bytes s c.args.from.now ≡ Some bytes) (sym same) source) piece (c.in_ok-create.ensures.steps told_read) in
    IfOk-weaker c.write_pieces.result (λ number. (number ≡ length bytes) × MakesFile read.present c.args.to.now bytes new.present) (λ number. CopiesFile start.present c.args.from.now c.args.to.now number new.present)
    (λ number both. (bytes, source, both.0, subst (λ s. MakesFile s c.args.to.now bytes new.present) same both.1))
    (c.write_pieces.ensures.copied (c.create.ensures.told ∙ told_read) read.present bytes copying size)
