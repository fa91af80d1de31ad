use Rattle.std.proofs.Common.{Ok, ◌++◌, ◌∙◌, refl, sym, ap, subst, true}
use Rattle.fs_model.specs.State.{FsState}
use Rattle.control_file.specs.declared.job.Job.{Job}
use Rattle.upgrade_checks.specs.Findings.{Reader, Readings, readings_in}
use Rattle.upgrade_checks.specs.Parts.{early_part, text_part, later_part}
use Rattle.upgrade_checks.specs.Answers.{is_server_stop, IsReadFrom}
use Rattle.upgrade_checks.proofs.Serving.{no_server_part, server_on, server_so_far}
use Rattle.upgrade_checks.proofs.Testing.{tested_on, tested_first, tested_then, tested_stop, tested_as, tested_served, tested_with}
use Rattle.upgrade_checks.proofs.checks.test_all.Goals as goal

pub returns-in_err-controls-clause-tested : goal.returns-in_err-controls-clause-tested
returns-in_err-controls-clause-tested g c =
    let readings : Readings = readings_in g.S.Server.catalog_of (g.F.Fs.trail c.args.fs.now).present c.args.job.now in
    let stop = c.in_err-controls.field-0.0 in
    tested_on true c.args.job.now readings _ _ _ c.from_residual.result stop c.from_residual.ensures.1
    (tested_first true c.args.job.now readings early_part (text_part ++ later_part) _ _ stop (tested_served c.args.job.now readings _ _ _ _ (c.in_err-controls.ensures.tested readings)))

pub returns-in_err-controls-clause-server : goal.returns-in_err-controls-clause-server
returns-in_err-controls-clause-server g c =
    let readings : Readings = readings_in g.S.Server.catalog_of (g.F.Fs.trail c.args.fs.now).present c.args.job.now in
    let stop = c.in_err-controls.field-0.0 in
    let counts = g.S.Server.counts c.args.server.now in
    server_on counts counts c.from_residual.result stop c.from_residual.ensures.1 (server_so_far (is_server_stop stop) counts counts ((c.in_err-controls.ensures.tested readings).quiet refl) (no_server_part counts))

pub returns-in_err-catalogs-clause-tested : goal.returns-in_err-catalogs-clause-tested
returns-in_err-catalogs-clause-tested g c =
    let job : Job = c.args.job.now in
    let read : Reader = g.S.Server.catalog_of in
    let readings : Readings = readings_in read (g.F.Fs.trail c.args.fs.now).present job in
    let stop = c.in_err-catalogs.field-0.0 in
    let first = tested_served job readings _ _ _ _ (c.in_ok-controls.ensures.tested readings) in
    tested_on true job readings _ _ _ c.from_residual-in_err-catalogs.result stop c.from_residual-in_err-catalogs.ensures.1
    (tested_then true job readings early_part (text_part ++ later_part) _ _ _ _ _ first
    (tested_first true job readings text_part later_part _ _ stop (c.in_err-catalogs.ensures.tested readings (λ on. ap (λ s. readings_in read s job) (sym (first.unchanged (sym first.told ∙ on)).present)))))

pub returns-in_err-catalogs-clause-server : goal.returns-in_err-catalogs-clause-server
returns-in_err-catalogs-clause-server g c = server_on _ _ c.from_residual-in_err-catalogs.result c.in_err-catalogs.field-0.0 c.from_residual-in_err-catalogs.ensures.1 c.in_err-catalogs.ensures.server

pub returns-in_err-test_later-clause-tested : goal.returns-in_err-test_later-clause-tested
returns-in_err-test_later-clause-tested g c =
    let job : Job = c.args.job.now in
    let read : Reader = g.S.Server.catalog_of in
    let readings : Readings = readings_in read (g.F.Fs.trail c.args.fs.now).present job in
    let stop = c.in_err-test_later.field-0.0 in
    let first = tested_served job readings _ _ _ _ (c.in_ok-controls.ensures.tested readings) in
    let second = c.in_ok-catalogs.ensures.tested readings (λ on. ap (λ s. readings_in read s job) (sym (first.unchanged (sym first.told ∙ on)).present)) in
    let catalogs = c.in_ok-catalogs.catalogs in
    let read_are : Readings = record { old = Ok catalogs.old; new = Ok catalogs.new } in
    tested_on true job readings _ _ _ c.from_residual-in_err-test_later.result stop c.from_residual-in_err-test_later.ensures.1
    (tested_stop true job readings _ _ _ stop
    (tested_then true job readings early_part (text_part ++ later_part) _ _ _ _ _ first
    (tested_then true job readings text_part later_part _ _ _ _ _ second
    (tested_with true job read_are readings _ _ _ _
    (λ on. let here = sym second.told ∙ on in sym (c.in_ok-catalogs.ensures.read here) ∙ ap (λ s. readings_in read s job) (first.unchanged (sym first.told ∙ here)).present)
    (tested_served job read_are _ _ _ _ c.in_err-test_later.ensures.tested)))))

pub returns-in_err-test_later-clause-server : goal.returns-in_err-test_later-clause-server
returns-in_err-test_later-clause-server g c =
    let stop = c.in_err-test_later.field-0.0 in
    server_on _ _ c.from_residual-in_err-test_later.result stop c.from_residual-in_err-test_later.ensures.1 (server_so_far (is_server_stop stop) _ _ (c.in_err-test_later.ensures.tested.quiet refl) c.in_ok-catalogs.ensures.server)

pub returns-clause-tested : goal.returns-clause-tested
returns-clause-tested g c =
    let job : Job = c.args.job.now in
    let read : Reader = g.S.Server.catalog_of in
    let readings : Readings = readings_in read (g.F.Fs.trail c.args.fs.now).present job in
    let first = tested_served job readings _ _ _ _ (c.in_ok-controls.ensures.tested readings) in
    let second = c.in_ok-catalogs.ensures.tested readings (λ on. ap (λ s. readings_in read s job) (sym (first.unchanged (sym first.told ∙ on)).present)) in
    let catalogs = c.in_ok-catalogs.catalogs in
    let read_are : Readings = record { old = Ok catalogs.old; new = Ok catalogs.new } in
    tested_as true job readings _ _ _ tt _
    (tested_then true job readings early_part (text_part ++ later_part) _ _ _ _ _ first
    (tested_then true job readings text_part later_part _ _ _ _ _ second
    (tested_with true job read_are readings _ _ _ _
    (λ on. let here = sym second.told ∙ on in sym (c.in_ok-catalogs.ensures.read here) ∙ ap (λ s. readings_in read s job) (first.unchanged (sym first.told ∙ here)).present)
    (tested_served job read_are _ _ _ _ c.in_ok-test_later.ensures.tested))))

pub returns-clause-read : goal.returns-clause-read
returns-clause-read g c told =
    let job : Job = c.args.job.now in
    let read : Reader = g.S.Server.catalog_of in
    let s : FsState = (g.F.Fs.trail c.args.fs.now).present in
    let readings : Readings = readings_in read s job in
    let first = c.in_ok-controls.ensures.tested readings in
    let controls = c.in_ok-controls.ensures.read told in
    let catalogs = ap (λ s. readings_in read s job) (sym (first.unchanged told).present) ∙ c.in_ok-catalogs.ensures.read (first.told ∙ told) in
    subst (IsReadFrom s job readings) (sym c.passed.ensures)
    (record {
      old_bytes = controls.old.bytes;
      old_file = controls.old.file;
      old_control = controls.old.record_is.says;
      new_bytes = controls.new.bytes;
      new_file = controls.new.file;
      new_record = controls.new.record_is.head;
      old_catalog = ap (λ r. r.old) catalogs;
    })
