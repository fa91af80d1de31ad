use Rattle.std.proofs.Common.{◌≡◌, ◌||◌, ℕ, drop}
use Rattle.std.specs.List.{list_any}
use Rattle.std.specs.FinMap.{contains_key}
use Rattle.catalog_server.specs.ReplayNames.{relation_has, stands_in}
use Rattle.server_profile.proofs.known.Known.new.Given as goal

abbrev pub invariant-loop-i : goal.invariant-loop-i
invariant-loop-i l = record {
  oids : (oid : ℕ) → (contains_key l.oids oid || list_any (relation_has oid) (drop l.i l.fn.relations.items)) ≡ list_any (relation_has oid) l.fn.relations.items;
  tablespaces : (oid : ℕ) → (contains_key l.tablespaces oid || list_any (stands_in oid) (drop l.i l.fn.relations.items)) ≡ list_any (stands_in oid) l.fn.relations.items;
}
