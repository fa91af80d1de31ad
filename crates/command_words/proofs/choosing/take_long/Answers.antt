use Rattle.std.proofs.Common.{sym}
use Rattle.std.specs.Prelude.{codes}
use Rattle.control_file.specs.declared.modes.Side.TheVariants.{New}
use Rattle.command_words.proofs.Starts.{after_front}
use Rattle.command_words.proofs.Lacking.{has_long}
use Rattle.command_words.proofs.choosing.take_long.Goals as goal

pub returns-in-Some-rest_after-clause-lacking : goal.returns-in-Some-rest_after-clause-lacking
returns-in-Some-rest_after-clause-lacking c =
    let rest = c.in-Some-rest_after.rest.now in
    has_long _ New c.args.word.now rest (after_front (codes "--new-datadir=") c.args.word.now rest (sym c.in-Some-rest_after.ensures)) c.take_dir-in-Some-rest_after.ensures.lacking
