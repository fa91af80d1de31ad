use Rattle.crash_safety.proofs.Going.{safe_run, goes_sound, links_sound, rewrites_sound}
use Rattle.crash_safety.proofs.run_laws.runs_keep_sound.Goals as goal

pub returns : goal.returns
returns c = record {
  safe = λ u ready stage a b sound goes. safe_run u ready stage a b sound goes;
  makes = λ u ready stage tops inside still a b sound goes. goes_sound u ready stage tops inside still a b sound goes;
  links = λ u ready tops inside a b sound goes. links_sound u ready tops inside a b sound goes;
  rewrites = λ u ready stage at a b sound apart goes. rewrites_sound u ready stage at a b sound apart goes;
}
