-- Bytes that are taken out and put back in.
use Rattle.std.proofs.Common.{◌≡◌, ℕ, Bool, true, false, List, Option, Some, None, cond, refl, sym, ◌∙◌, ap}
use Rattle.std.specs.Ordering.{nat_cmp, eq_by_cmp}
use Rattle.std.specs.Cmp.{nat_cmp_total}
use Rattle.std.specs.FinMap as map
use Rattle.std.specs.FinMap.{get, insert, remove, get-insert, get-remove, same_map, nat_cmp-IsAntisymmetric}
use Rattle.fs_model.specs.State.{Contents, FsState}
use Rattle.fs_model.specs.Effects.{with_bytes}

either_way : (here : Bool) (bytes : List ℕ) (before : Option (List ℕ)) → cond here (Some bytes) (cond here None before) ≡ cond here (Some bytes) before
either_way true bytes before = refl
either_way false bytes before = refl

back_in : (contents : Contents) (inode : ℕ) (bytes : List ℕ) → insert (remove contents inode) inode bytes ≡ insert contents inode bytes
back_in contents inode bytes = same_map nat_cmp_total nat_cmp-IsAntisymmetric (insert (remove contents inode) inode bytes) (insert contents inode bytes) (λ q.
    get-insert nat_cmp_total (remove contents inode) inode bytes q ∙ ap (cond (eq_by_cmp nat_cmp q inode) (Some bytes)) (get-remove nat_cmp_total contents inode q)
    ∙ either_way (eq_by_cmp nat_cmp q inode) bytes (get contents q) ∙ sym (get-insert nat_cmp_total contents inode bytes q))

-- an inode that was taken out and gets bytes is one that gets them
pub written_back : (s : FsState) (inode : ℕ) (bytes : List ℕ) → with_bytes (record s { bytes = map.remove s.bytes inode }) inode bytes ≡ with_bytes s inode bytes
written_back s inode bytes = ap (λ contents. record s { bytes = contents; dirty = map.insert s.dirty inode tt }) (back_in s.bytes inode bytes)
