use Rattle.std.proofs.Common.{◌≡◌, ◌∙◌, ◌++◌, List, Result, Ok, Err, OnOk, ap, append_assoc}
use Rattle.relation_files.specs.declared.relation.Relation.{Relation}
use Rattle.file_checks.proofs.Relating.{relations_are}
use Rattle.file_checks.proofs.places.add_database.Goals as goal

by_parts : {T E : Type 0} (result : Result T E) (out one two three tables indexes sequences all : List Relation) → one ≡ out ++ tables → two ≡ one ++ indexes → OnOk result (three ≡ two ++ sequences) → tables ++ (indexes ++ sequences) ≡ all → OnOk result (three ≡ out ++ all)
by_parts (Ok value) out one two three tables indexes sequences all first second third are =
    third ∙ ap (λ l. l ++ sequences) (second ∙ ap (λ l. l ++ indexes) first) ∙ append_assoc (out ++ tables) indexes sequences ∙ append_assoc out tables (indexes ++ sequences) ∙ ap (λ l. out ++ l) are
by_parts (Err error) out one two three tables indexes sequences all first second third are = tt

pub returns : goal.returns
returns c =
    by_parts c.add_sequences.result c.args.relations.now.items c.add_tables.new.relations.items c.add_indexes.new.relations.items c.add_sequences.new.relations.items _ _ _ _
    c.in_ok-add_tables.ensures c.in_ok-add_indexes.ensures c.add_sequences.ensures (relations_are c.args.database.now)
