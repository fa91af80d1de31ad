use Rattle.std.proofs.Common.{◌∙◌, ◌≤◌, ◌++◌, length, sym, ap, subst, append-nil}
use Rattle.std.specs.List.{flat_map}
use Rattle.std.proofs.lemmas.List.{drop_all}
use Rattle.relation_files.specs.Relations.{relations_in, relations_of}
use Rattle.file_checks.proofs.Lists.{adding}
use Rattle.file_checks.proofs.places.relations_of.Goals as goal

pub loop-i-preserved : goal.loop-i-preserved
loop-i-preserved c =
    adding relations_in c.args.catalog.now.databases c.loop-i.i c.in-Some.database.now c.loop-i.relations.items c.add_database.new.relations.items _ (sym c.in-Some.ensures) c.in_ok-add_database-in-Some.ensures c.loop-i.invariant

pub returns : goal.returns
unfolding relations_of
returns c =
    let all : length c.args.catalog.now.databases ≤ c.loop-i.i = subst (λ n. n ≤ c.loop-i.i) c.database_count-count.ensures c.loop-i-test.false in
    sym (append-nil c.loop-i.relations.items) ∙ ap (λ l. c.loop-i.relations.items ++ flat_map relations_in l) (sym (drop_all c.loop-i.i c.args.catalog.now.databases all)) ∙ c.loop-i.invariant
