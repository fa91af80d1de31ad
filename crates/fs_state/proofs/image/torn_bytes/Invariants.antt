use Rattle.std.proofs.Common.{◌≡◌, drop}
use Rattle.std.specs.List.{AllByRecursion}
use Rattle.fs_model.specs.Calls.{AreBytes}
use Rattle.fs_state.specs.Images.{left_bytes, with_all}
use Rattle.fs_state.proofs.image.torn_bytes.Given as goal

abbrev pub invariant-loop-inode : goal.invariant-loop-inode
invariant-loop-inode l =
    let rest = drop l.inode-index l.inode-items in
    record {
      left : with_all (left_bytes l.now l.named) l.left rest ≡ with_all (left_bytes l.now l.named) l.kept l.inode-items;
      bytes : AllByRecursion (λ inode. AreBytes (left_bytes l.now l.named inode)) rest → AllByRecursion (λ inode. AreBytes (left_bytes l.now l.named inode)) l.inode-items;
    }
