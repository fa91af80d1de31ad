use Rattle.std.proofs.Common.{◌≡◌, ◌≤◌, ◌+◌, ◌++◌, drop}
use Rattle.cluster_gen.specs.Tree.{numbered}
use Rattle.cluster_gen.proofs.tree.numbered.Given as goal

-- the parts that are left lead to where all of them lead
abbrev pub invariant-loop-part : goal.invariant-loop-part
invariant-loop-part l = record {
  entries : l.entries.items ++ numbered l.inode (drop l.part-index l.parts) ≡ numbered 1 l.parts;
  fits : l.inode ≤ l.part-index + 1;
}
