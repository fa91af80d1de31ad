use Rattle.std.proofs.Common.{◌∙◌, ap, arith}
use Rattle.fs_model.specs.Names.{is_name}
use Rattle.server_profile.proofs.Numbers.{decimal_is_name}
use Rattle.server_profile.proofs.paths.numbered.Goals as goal

pub child-requires : goal.child-requires
child-requires c = ap is_name c.format.ensures.text ∙ decimal_is_name c.args.number (omega (arith, c.ranges.number))
