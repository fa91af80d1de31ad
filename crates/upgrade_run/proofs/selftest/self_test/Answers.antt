use Rattle.std.proofs.Common.{refl}
use Rattle.fs_mem.specs.Tree.{opening_of}
use Rattle.server_profile.specs.Reading.{profile_catalog}
use Rattle.cluster_gen.specs.Tree.{pair_tree}
use Rattle.upgrade_run.proofs.Testing.{made_formed, made_tested, not_more}
use Rattle.upgrade_run.proofs.selftest.self_test.Goals as goal

pub test_pair-requires : goal.test_pair-requires
test_pair-requires c = record {
  small = not_more c.args.tables (λ more. cc (c.in-Ok.ensures.too_many.1 more));
  well_formed = λ told. made_formed c.in-Ok.made (opening_of (pair_tree c.args.tables)) c.in-Ok.ensures.tree c.in-Ok.ensures.well_formed;
}

pub returns-in-Ok-clause-tested : goal.returns-in-Ok-clause-tested
returns-in-Ok-clause-tested c = made_tested profile_catalog c.args.tables c.args.mode c.in-Ok.made (opening_of (pair_tree c.args.tables)) c.test_pair.result c.in-Ok.ensures.tree (c.test_pair.ensures.tested refl)
