use Rattle.std.proofs.Common.{◌∙◌, ◌++◌, ap, Err}
use Rattle.std.specs.List.{flat_map}
use Rattle.catalog.specs.Spaces.{database_oids}
use Rattle.relation_map.specs.Pairs.{old_site, new_site, database_entries, fault_at, new_alone, entries_of}
use Rattle.relation_map.proofs.Ordered.{all_matched, first_front, first_back, only_memory}
use Rattle.relation_map.proofs.building.build.Goals as goal

pub returns-in-Ok-clause-map : goal.returns-in-Ok-clause-map
unfolding entries_of
returns-in-Ok-clause-map c =
    let old = c.args.old.now in
    let new = c.args.new.now in
    c.new.ensures ∙ c.in_default.ensures.entries
    ∙ ap (λ l. l ++ flat_map (database_entries (old_site c.args.job.now old) (new_site c.args.job.now new) new) old.databases) c.new-entries.ensures.items

pub returns-in-Ok-clause-matched : goal.returns-in-Ok-clause-matched
returns-in-Ok-clause-matched c = all_matched c.args.old.now c.args.new.now c.in_default.ensures.matched c.in-Ok.ensures.matched

pub returns-in-Err-clause-fault : goal.returns-in-Err-clause-fault
returns-in-Err-clause-fault c other =
    first_front (fault_at c.args.old.now c.args.new.now) (database_oids c.args.old.now.databases) (new_alone c.args.old.now c.args.new.now.databases) c.in-Err.error (c.in-Err.ensures.fault other)

pub returns-in-Err-clause-equal : goal.returns-in-Err-clause-equal
returns-in-Err-clause-equal c same = only_memory {T = Unit {0}} c.args.old.now c.args.new.now (Err c.in-Err.error) same (returns-in-Err-clause-fault c)

pub returns-in-Err-pass_new_databases-clause-fault : goal.returns-in-Err-pass_new_databases-clause-fault
returns-in-Err-pass_new_databases-clause-fault c other =
    first_back (fault_at c.args.old.now c.args.new.now) (database_oids c.args.old.now.databases) (new_alone c.args.old.now c.args.new.now.databases) c.in-Err-pass_new_databases.error c.in_default.ensures.matched (c.in-Err-pass_new_databases.ensures.fault other)

pub returns-in-Err-pass_new_databases-clause-equal : goal.returns-in-Err-pass_new_databases-clause-equal
returns-in-Err-pass_new_databases-clause-equal c same = only_memory {T = Unit {0}} c.args.old.now c.args.new.now (Err c.in-Err-pass_new_databases.error) same (returns-in-Err-pass_new_databases-clause-fault c)
