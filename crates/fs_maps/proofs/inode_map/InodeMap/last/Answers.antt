use Rattle.std.proofs.Common.{◌≡◌, ◌<◌, true, false, ℕ, List, [], ◌∷◌, length, ap, sym, ◌∙◌, arith}
use Rattle.std.specs.Prelude.{is_some}
use Rattle.std.specs.FinMap as map
use Rattle.std.specs.Ordering.{nat_cmp}
use Rattle.std.specs.Cmp.{nat_cmp_total}
use Rattle.std.proofs.lemmas.Map.Keys.{ge_from_not_lt}
use Rattle.fs_maps.proofs.Entries.{get_lookup}
use Rattle.fs_maps.proofs.inode_map.InodeMap.last.Goals as goal

nothing : {V : Type 0} (es : List (ℕ × V)) → (0 < length es → false ≡ true) → (inode : ℕ) → map.contains_key (map.from_entries {R = nat_cmp} es) inode ≡ false
nothing [] none inode = ap is_some (map.get-empty nat_cmp inode)
nothing (e ∷ es) none inode = let some : false ≡ true = none (omega arith) in cc

pub returns-in-Some-clause-stands : goal.returns-in-Some-clause-stands
returns-in-Some-clause-stands g c =
    ap (λ m. map.contains_key m c.in-Some.inode.now) (sym c.self.view_is)
    ∙ ap is_some (get_lookup nat_cmp_total c.self.inside.entries.entries c.in-Some.inode.now ∙ c.in-Some.ensures.value)

pub returns-in-Some-clause-greatest : goal.returns-in-Some-clause-greatest
returns-in-Some-clause-greatest g c =
    λ inode stands. ge_from_not_lt c.in-Some.inode.now inode (c.in-Some.ensures.greatest inode
    (ap is_some (sym (get_lookup nat_cmp_total c.self.inside.entries.entries inode)) ∙ ap (λ m. map.contains_key m inode) c.self.view_is ∙ stands))

pub returns-in-None-clause-none : goal.returns-in-None-clause-none
returns-in-None-clause-none g c =
    λ inode. ap (λ m. map.contains_key m inode) (sym c.self.view_is) ∙ nothing c.self.inside.entries.entries (c.in-None.ensures.variant.1) inode
