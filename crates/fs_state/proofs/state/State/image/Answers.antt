use Rattle.std.proofs.Common.{◌≡◌, ℕ, List, sym, subst, rules, arith}
use Rattle.std.proofs.lemmas.Grind.{common_steps}
use Rattle.std.specs.List.{AllByRecursion}
use Rattle.std.specs.FinMap as map
use Rattle.fs_model.specs.State.{FsState}
use Rattle.fs_model.specs.Calls.{AreBytes}
use Rattle.fs_model.specs.Crash.{Image}
use Rattle.fs_state.specs.Images.{left_bytes, image_of}
use Rattle.fs_state.proofs.Chosen.{is_image}
use Rattle.fs_state.proofs.state.State.image.Goals as goal

pub returns-clause-image : goal.returns-clause-image
returns-clause-image c =
    let s = c.args.self.now in
    let pick = c.args.pick.now in
    let is : c.in_ok-image.image ≡ image_of s pick = first_of (search rules, grind (arith, common_steps)) in
    let HasBytes : FsState → List (ℕ × List ℕ) → Type 0 = λ v named. AllByRecursion (λ inode. AreBytes (left_bytes v.bytes named inode)) (map.keys v.dirty) in
    let all : HasBytes s pick.bytes =
    subst (λ v. HasBytes v pick.bytes) c.self.view_is
    (subst (λ named. AllByRecursion (λ inode. AreBytes (left_bytes c.self.inside.bytes named inode)) (map.keys c.self.inside.dirty)) c.bytes.ensures c.in_ok-bytes.ensures.bytes) in
    subst (Image s) (sym is) (is_image s pick all)
