use Rattle.dump_read.proofs.TextStands as proved
use Rattle.dump_read.proofs.laws.spelled_text_stands.Goals as goal

pub returns : goal.returns
returns c = proved.spelled_text_stands
