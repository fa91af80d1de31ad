-- The first update, by the members before it.
use Rattle.std.proofs.Common.{◌≡◌, ◌↔◌, ℕ, true, false, List, [], ◌∷◌, ◌++◌, Option, Some, None, refl, ap, ◌∙◌}
use Rattle.std.specs.List.{AllByRecursion}
use Rattle.multixact.specs.Update.{updater_among, is_update}
use Rattle.multixact.specs.First.{IsNoUpdate, IsFirstUpdate, IsUntold}
use Rattle.multixact.specs.declared.member.Member.{Member}

-- members that are there and are no updates don't count
skipped : (before rest : List (Option Member)) → AllByRecursion IsNoUpdate before → updater_among (before ++ rest) ≡ updater_among rest
skipped [] rest none = refl
skipped (None ∷ before) rest none = absurd none.0
skipped (Some member ∷ before) rest none = rw none.0 (skipped before rest none.1)

is_first : (members : List (Option Member)) (xid : ℕ) → updater_among members ≡ Some (Some xid) → IsFirstUpdate members xid
is_first [] xid e = cc
is_first (None ∷ members) xid e = cc
is_first (Some member ∷ members) xid e =
    elim (is_update member) as (λ b. is_update member ≡ b → IsFirstUpdate (Some member ∷ members) xid) [
      | true ↦ λ update. record { before = []; update = member; after = members; parts = refl; none_before = tt; counts = update; names = (let at = rw update at e in cc) }
      | false ↦ λ other.
          let rest = is_first members xid (rw other at e) in
          record { before = Some member ∷ rest.before; update = rest.update; after = rest.after; parts = ap (λ ms. Some member ∷ ms) rest.parts; none_before = (other, rest.none_before); counts = rest.counts; names = rest.names }
    ] refl

first_is : (members : List (Option Member)) (xid : ℕ) → IsFirstUpdate members xid → updater_among members ≡ Some (Some xid)
first_is members xid first =
    ap updater_among first.parts ∙ skipped first.before (Some first.update ∷ first.after) first.none_before ∙ rw (first.counts, first.names) refl

none_is : (members : List (Option Member)) → updater_among members ≡ Some None → AllByRecursion IsNoUpdate members
none_is [] e = tt
none_is (None ∷ members) e = cc
none_is (Some member ∷ members) e =
    elim (is_update member) as (λ b. is_update member ≡ b → AllByRecursion IsNoUpdate (Some member ∷ members)) [
      | true ↦ λ update. let at = rw update at e in cc
      | false ↦ λ other. (other, none_is members (rw other at e))
    ] refl

is_none : (members : List (Option Member)) → AllByRecursion IsNoUpdate members → updater_among members ≡ Some None
is_none [] none = refl
is_none (None ∷ members) none = absurd none.0
is_none (Some member ∷ members) none = rw none.0 (is_none members none.1)

pub update_law : (members : List (Option Member)) (xid : ℕ) → (updater_among members ≡ Some (Some xid)) ↔ IsFirstUpdate members xid
update_law members xid = (is_first members xid, first_is members xid)

pub no_update_law : (members : List (Option Member)) → (updater_among members ≡ Some None) ↔ AllByRecursion IsNoUpdate members
no_update_law members = (none_is members, is_none members)

misses : (members : List (Option Member)) → updater_among members ≡ None → IsUntold members
misses [] e = cc
misses (None ∷ members) e = record { before = []; after = members; parts = refl; none_before = tt }
misses (Some member ∷ members) e =
    elim (is_update member) as (λ b. is_update member ≡ b → IsUntold (Some member ∷ members)) [
      | true ↦ λ update. let at = rw update at e in cc
      | false ↦ λ other.
          let rest = misses members (rw other at e) in
          record { before = Some member ∷ rest.before; after = rest.after; parts = ap (λ ms. Some member ∷ ms) rest.parts; none_before = (other, rest.none_before) }
    ] refl

is_missed : (members : List (Option Member)) → IsUntold members → updater_among members ≡ None
is_missed members untold = ap updater_among untold.parts ∙ skipped untold.before (None ∷ untold.after) untold.none_before

pub untold_law : (members : List (Option Member)) → (updater_among members ≡ None) ↔ IsUntold members
untold_law members = (misses members, is_missed members)
