use Rattle.std.proofs.Common.{[], ◌∷◌, sym, subst}
use Rattle.fs_tools.specs.Walked.{IsWalk}
use Rattle.fs_tools.specs.declared.walks.Listed.{Listed}
use Rattle.fs_tools.proofs.Gathering.{taken_all, listed}
use Rattle.fs_tools.proofs.walks.walk.Goals as goal

pub returns-clause-walked : goal.returns-clause-walked
returns-clause-walked g c told =
    let (items, taken, walk) = c.in_ok-walk_with.ensures.walked told in
    let start : Listed = record { items = c.new.result } in
    let kept = taken_all (λ (l : Listed). l.items.items) (λ item. item ∷ []) start c.walk_with.new.look items taken in
    subst (IsWalk (g.F.Fs.trail c.args.fs.now).present c.args.top.now) (sym (listed c.new.result.items c.walk_with.new.look.items.items items c.new.ensures.items kept)) walk
