use Rattle.dump_text.proofs.Canonical as canonical
use Rattle.dump_text.proofs.laws.canonical_leads.Goals as goal

pub returns : goal.returns
returns c = canonical.canonical_leads
