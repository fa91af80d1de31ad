use Rattle.crash_safety.proofs.Needing.{goes_needs}
use Rattle.crash_safety.proofs.NeedRuns.{makes_need, links_need, rewrites_need}
use Rattle.crash_safety.proofs.Permitting.{disabled_needs}
use Rattle.crash_safety.proofs.disk_laws.runs_need_inside.Goals as goal

pub returns : goal.returns
returns c = record {
  keeps = λ tops holders rewritten inner apart inside a b tracked needs goes. goes_needs tops holders rewritten inner apart inside a b tracked needs goes;
  makes = λ tops holders rewritten inner apart inside a b tracked needs goes. makes_need tops holders rewritten inner apart inside a b tracked needs goes;
  links = λ tops holders rewritten inner apart inside a b tracked needs goes. links_need tops holders rewritten inner apart inside a b tracked needs goes;
  rewrites = λ tops holders rewritten a b needs goes. rewrites_need tops holders rewritten a b needs goes;
  renamed = λ tops holders rewritten control later a b t needs inside outside outside_later renames syncs. disabled_needs tops holders rewritten control later a b t renames syncs needs inside outside outside_later;
}
