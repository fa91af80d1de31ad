use Rattle.std.proofs.Common.{◌≡◌, refl}
use Rattle.fs_model.proofs.Runs.{none_since}
use Rattle.phase_facts.proofs.Holding.{start_held}
use Rattle.phases.proofs.checked.Checked.new.Goals as goal

pub returns-clause-fact : goal.returns-clause-fact
returns-clause-fact c read opening opened =
    record { opened = opened; held = start_held c.args.job opening opened.can.begins; unchanged = none_since (λ s. s ≡ opening.present) opening refl }
