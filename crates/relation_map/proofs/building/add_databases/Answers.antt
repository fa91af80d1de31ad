use Rattle.std.proofs.Common.{◌∙◌, ◌++◌, ◌≡◌, ℕ, sym, ap, arith}
use Rattle.catalog.specs.Cluster.{DatabaseObjects}
use Rattle.relation_files.specs.Sites.{site_at}
use Rattle.relation_map.specs.declared.map.MapEntry.{MapEntry}
use Rattle.relation_map.specs.Pairs.{database_entries, HasNoFault}
use Rattle.relation_map.proofs.Lists.{adding}
use Rattle.relation_map.proofs.Ordered.{all_next, all_end, same_entries, matched_here, fault_here}
use Rattle.relation_map.proofs.building.add_databases.Goals as goal

pub loop-i-preserved : goal.loop-i-preserved
loop-i-preserved c =
    let old = c.args.old_site.now.catalog.now in
    let new = c.args.new_site.now.catalog.now in
    let d : DatabaseObjects = c.in-Some.database.now in
    let from = site_at c.args.old_site.now in
    let to = site_at c.args.new_site.now in
    let made = c.in-Ok.ensures in
    let same : c.database.inside.oid ≡ d.oid = ap (λ (x : DatabaseObjects). x.oid) c.database.view_is in
    record {
      entries = adding (database_entries from to new) old.databases c.loop-i.i d c.loop-i.entries.items c.add_database.new.entries.items _ (sym c.in-Some.ensures)
          (made.entries ∙ ap (λ l. c.loop-i.entries.items ++ l) (same_entries old new c.bootstrap.ensures.valid c.loop-i.i d (sym c.in-Some.ensures) c.database.inside.oid same _ c.database-like.ensures from to)) c.loop-i.invariant.entries;
      matched = all_next (HasNoFault old new) old.databases c.loop-i.i d (sym c.in-Some.ensures)
          (matched_here old new c.bootstrap.ensures.valid c.loop-i.i d (sym c.in-Some.ensures) c.database.inside.oid same _ c.database-like.ensures made.matched) c.loop-i.invariant.matched;
    }

pub returns-in-Err-clause-fault : goal.returns-in-Err-clause-fault
returns-in-Err-clause-fault c other =
    let old = c.args.old_site.now.catalog.now in
    let new = c.args.new_site.now.catalog.now in
    let d : DatabaseObjects = c.in-Some.database.now in
    let same : c.database.inside.oid ≡ d.oid = ap (λ (x : DatabaseObjects). x.oid) c.database.view_is in
    fault_here old new c.bootstrap.ensures.valid c.loop-i.i d (sym c.in-Some.ensures) c.database.inside.oid same _ c.database-like.ensures _ c.loop-i.invariant.matched (c.in-Err.ensures.fault other)

pub returns-clause-matched : goal.returns-clause-matched
returns-clause-matched c = all_end (HasNoFault c.args.old_site.now.catalog.now c.args.new_site.now.catalog.now) c.args.old_site.now.catalog.now.databases c.loop-i.i (omega arith) c.loop-i.invariant.matched
