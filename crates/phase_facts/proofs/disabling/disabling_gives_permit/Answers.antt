use Rattle.phase_facts.proofs.Permitted.{disabled_lacks}
use Rattle.phase_facts.proofs.disabling.disabling_gives_permit.Goals as goal

pub returns : goal.returns
returns c control renamed dir a b dir_is formed free goes done = disabled_lacks control renamed dir a b dir_is formed free goes done
