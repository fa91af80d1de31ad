-- What holds of each number that is known holds of each after a change of the map.
use Rattle.std.proofs.Common.{◌≡◌, ℕ, Option, Result, Ok, Err, OnOk, OnErr}
use Rattle.std.specs.List.{All}
use Rattle.std.specs.BTreeMap.{BTreeMap, values, insert_entry, IsUnchanged}
use Rattle.std.proofs.lemmas.Map.Views.{All-values-insert_entry}
use Rattle.fs_real.specs.Identities.{identity_cmp}

-- where it is put in, and where memory lacks for it
pub all_after_insert :
    {X : Type 0} (r : Result (Option ℕ) X) (m n : BTreeMap (ℕ × ℕ) ℕ) (k : ℕ × ℕ) (v : ℕ) (P : ℕ → Type 0) → All P (values m) → P v →
    OnOk r (n.entries ≡ insert_entry identity_cmp m.entries k v) → OnErr r (IsUnchanged m n) → All P (values n)
all_after_insert (Ok old) m n k v P each new entries same = rw entries (All-values-insert_entry identity_cmp k v P m.entries each new)
all_after_insert (Err back) m n k v P each new entries same = rw same each
