-- The files of relations are such that a plan can be made of them.
use Rattle.std.proofs.Common.{◌≡◌, ℕ, sym, subst}
use Rattle.fs_model.specs.declared.node.Node.{Node}
use Rattle.fs_model.specs.declared.node.Node.TheVariants.{File}
use Rattle.plan_build.specs.Plannable.{IsFile}

pub is_file : (there : Node) (inode : ℕ) → there ≡ File inode → IsFile there
is_file there inode is = subst IsFile (sym is) tt
