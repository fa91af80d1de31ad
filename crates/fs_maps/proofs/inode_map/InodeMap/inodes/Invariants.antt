use Rattle.std.proofs.Common.{◌≡◌, ◌++◌}
use Rattle.fs_maps.proofs.inode_map.InodeMap.inodes.Given as goal

abbrev pub invariant-loop-inode : goal.invariant-loop-inode
invariant-loop-inode g l = l.inodes.items ++ l.inode-iterator ≡ l.initial.inode-iterator
