use Rattle.std.proofs.Common.{◌≤◌}
use Rattle.std.proofs.lemmas.Map.Views.{All-map-remove_entry}
use Rattle.fs_real.proofs.numbers.Numbers.forget.Goals as goal

pub invariant_of-self : goal.invariant_of-self
invariant_of-self c = record { given = rw c.remove.ensures.entries (All-map-remove_entry _ (λ e. e.1) (λ number. number ≤ c.args.self.now.last) c.args.self.now.known.entries c.args.self.now.given) }
