use Rattle.std.proofs.Common.{◌≡◌, false, sym, ◌∙◌, ap, subst}
use Rattle.std.specs.Prelude.{nat_le}
use Rattle.fs_model.specs.Calls.{SyncsDir}
use Rattle.fs_model.specs.Trail.{OthersStay, error_of}
use Rattle.fs_untold.specs.Losing.{Losing, Passes, losing_counts}
use Rattle.fs_untold.proofs.Later.{before, others_before}
use Rattle.fs_untold.proofs.untold.UntoldFs.sync_dir.Goals as goal

pub returns-clause-passes : goal.returns-clause-passes
returns-clause-passes c =
    let call = SyncsDir c.args.at.now in
    let answer = error_of c.sync_dir-answer.result in
    let inside = c.self.inside in
    let old : Losing = record { inner = inside.inner; lose = inside.lose; calls = inside.calls; losses = inside.losses } in
    let earlier : nat_le old.lose old.calls ≡ false = ap (λ (u : Losing). nat_le u.lose u.calls) c.self.view_is ∙ sym c.loses.ensures ∙ c.if-loses.false in
    subst (λ u. Passes u call answer c.count.new.self) c.self.view_is (before old c.count.new.self call answer c.sync_dir-answer.new.self earlier c.sync_dir-answer.ensures.ends c.count.ensures)

pub returns-clause-others : goal.returns-clause-others
returns-clause-others c =
    let answer = error_of c.sync_dir-answer.result in
    let inside = c.self.inside in
    let old : Losing = record { inner = inside.inner; lose = inside.lose; calls = inside.calls; losses = inside.losses } in
    subst (λ u. OthersStay (losing_counts u) (losing_counts c.count.new.self) answer) c.self.view_is (others_before old c.count.new.self answer c.sync_dir-answer.new.self c.sync_dir-answer.ensures.others c.count.ensures)
