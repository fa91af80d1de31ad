use Rattle.std.proofs.Common.{◌≤◌, arith}
use Rattle.std.proofs.lemmas.Grind.{common_steps}
use Rattle.fs_real.proofs.Given.{all_after_insert}
use Rattle.fs_real.proofs.numbers.Numbers.number.Goals as goal

pub invariant_of-self : goal.invariant_of-self
invariant_of-self c =
    let above : c.args.self.now.last ≤ c.in_ok-number.number = grind (arith, common_steps) in
    record {
      given =
          all_after_insert c.insert.result c.args.self.now.known c.insert.new.self c.args.identity c.in_ok-number.number (λ number. number ≤ c.in_ok-number.number) (λ k d h. omega (arith, above, c.args.self.now.given k d h)) (omega arith)
          c.insert.ensures.entries c.insert.ensures.err;
    }
