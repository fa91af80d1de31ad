-- How the operating system's identities of files are ordered.
use Rattle.std.specs.Prelude.{ℕ}
use Rattle.std.specs.declared.cmp.Ordering.{Ordering}
use Rattle.std.specs.Ordering.{nat_cmp, ordering_then}

-- by device, and then by inode
abbrev pub identity_cmp : ℕ × ℕ → ℕ × ℕ → Ordering
identity_cmp a b = ordering_then (nat_cmp a.0 b.0) (nat_cmp a.1 b.1)
