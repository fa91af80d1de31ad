use Rattle.std.proofs.Common.{◌≡◌, ◌∙◌, ap, arith}
use Rattle.std.proofs.lemmas.Grind.{common_steps}
use Rattle.fs_model.specs.Crash.{is_reached}
use Rattle.fs_state.specs.Images.{without_failing}
use Rattle.fs_state.proofs.Chosen.{retained}
use Rattle.fs_state.proofs.image.reached_names.Goals as goal

pub returns : goal.returns
returns c =
    let names = c.args.names.now in
    let all : c.loop-at.left ≡ without_failing (is_reached names) names c.in_ok-paths.paths.items = grind (arith, common_steps) in
    all ∙ ap (without_failing (is_reached names) names) c.in_ok-paths.ensures ∙ retained (is_reached names) names
