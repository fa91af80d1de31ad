use Rattle.std.proofs.Common.{string_bytes, arith, ◌∙◌}
use Rattle.std.proofs.lemmas.Grind.{common_steps}
use Rattle.fs_real.proofs.Shown.{shown_root, shown_other}
use Rattle.fs_real.proofs.place.Place.text.Goals as goal

pub returns-then-is_root : goal.returns-then-is_root
returns-then-is_root c path is = shown_root path (string_bytes c.args.self.now.text) is (grind (arith, common_steps))

pub returns-else-is_root : goal.returns-else-is_root
returns-else-is_root c path is = c.as_str.ensures.value ∙ shown_other path (string_bytes c.args.self.now.text) is (grind (arith, common_steps))
