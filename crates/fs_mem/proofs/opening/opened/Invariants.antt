use Rattle.std.proofs.Common.{◌≡◌, drop}
use Rattle.fs_mem.specs.Tree.{names_from, contents_from, devices_from, fault_from, tree_fault, root_names, no_contents, root_devices}
use Rattle.fs_mem.proofs.opening.opened.Given as goal

-- the entries that are left lead to where all of them lead
abbrev pub invariant-loop-index : goal.invariant-loop-index
invariant-loop-index l =
    let left = drop l.index l.item-items in
    record {
      names : names_from l.names left ≡ names_from root_names l.tree;
      contents : contents_from l.contents left ≡ contents_from no_contents l.tree;
      devices : devices_from l.devices left ≡ devices_from root_devices l.tree;
      fault : fault_from l.names l.contents l.index left ≡ tree_fault l.tree;
    }
