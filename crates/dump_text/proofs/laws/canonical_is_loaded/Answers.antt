use Rattle.dump_text.proofs.Canonical as canonical
use Rattle.dump_text.proofs.laws.canonical_is_loaded.Goals as goal

pub returns : goal.returns
returns c = canonical.canonical_is_loaded
