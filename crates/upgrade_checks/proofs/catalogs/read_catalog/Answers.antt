use Rattle.fs_model.specs.State.{FsState}
use Rattle.catalog_server.specs.Profile.{profile_of}
use Rattle.upgrade_checks.proofs.Serving.{reading_tested, reading_read, reading_server}
use Rattle.upgrade_checks.proofs.catalogs.read_catalog.Goals as goal

pub returns-clause-tested : goal.returns-clause-tested
returns-clause-tested g c job readings same =
    let call = c.read_catalog-answer in
    reading_tested job readings c.args.side _ _ (λ s. g.S.Server.catalog_of c.args.root.now c.args.release (profile_of s c.args.root.now)) call.result c.judged_reading.result c.judged_reading.ensures
    call.ensures.told call.ensures.firm call.ensures.unchanged call.ensures.cause.files same call.ensures.catalog call.ensures.text call.ensures.unrefused

pub returns-clause-read : goal.returns-clause-read
returns-clause-read g c told =
    let call = c.read_catalog-answer in
    let s : FsState = (g.F.Fs.trail c.args.fs.now).present in
    reading_read c.args.side (g.S.Server.catalog_of c.args.root.now c.args.release (profile_of s c.args.root.now)) call.result c.judged_reading.result c.judged_reading.ensures (call.ensures.catalog told)

pub returns-clause-server : goal.returns-clause-server
returns-clause-server g c =
    let call = c.read_catalog-answer in
    reading_server _ _ _ _ _ c.args.side call.result c.judged_reading.result c.judged_reading.ensures call.ensures.cause
