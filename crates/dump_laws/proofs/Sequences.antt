-- The statements of a database's sequences lead to them.
use Rattle.std.proofs.Common.{◌≡◌, true, List, [], Some, None, Ok, refl, ap, ◌∙◌}
use Rattle.std.specs.List.{flat_map}
use Rattle.catalog.specs.declared.relations.Sequence.{Sequence}
use Rattle.catalog.specs.Cluster.{DatabaseObjects, Cluster}
use Rattle.catalog.specs.Forms.{has_role}
use Rattle.catalog.specs.Refusals.{sequence_refusal}
use Rattle.catalog.specs.Changes.{with_sequence, add_sequence}
use Rattle.catalog.proofs.ListLemmas.{and_left, not_false}
use Rattle.catalog.proofs.CauseLemmas.{no_cause}
use Rattle.catalog_laws.specs.Unrefused.{EachBehind}
use Rattle.dump_grammar.specs.declared.statement.NextKind.TheVariants as kinds
use Rattle.dump_grammar.specs.declared.statement.Statement.TheVariants.{CreateSequence}
use Rattle.dump_grammar.specs.Canonical.{role_name, sequence_statements}
use Rattle.dump_rules.specs.declared.numbers.Numbers.{Numbers}
use Rattle.dump_rules.specs.Rules.{State, no_numbers, found, taken, role_oid, step, Replays}
use Rattle.dump_laws.proofs.Replaying.{each_replays}
use Rattle.dump_laws.proofs.Databases.{numbered_within, within, IsPlace, step_number, found_connected, found_role, changed_within}

abbrev sequence_numbers : Sequence → Numbers
sequence_numbers s = record no_numbers { sequence = Some s.oid; sequence_file = Some s.file }

step_sequence : (c : Cluster) (before after : List DatabaseObjects) (d : DatabaseObjects) (s : Sequence) → IsPlace c before d.oid → sequence_refusal c.roles d s ≡ None
    → step (numbered_within c before after d (sequence_numbers s)) (CreateSequence s.schema s.name (role_name c.roles s.owner)) ≡ Ok (within c before after (add_sequence s d))
unfolding step
step_sequence c before after d s place free =
    let here : State = within c before after d in
    let owned : has_role c.roles s.owner ≡ true = and_left _ _ (not_false _ (no_cause _ _ _ _ _ free).stands) in
    ap (taken here.session)
    (found_connected c before after d (sequence_numbers s) (λ (x : DatabaseObjects). found (role_oid here.catalog (role_name c.roles s.owner)) (λ o. with_sequence here.catalog x.oid (record s { owner = o }))) place.alone
    ∙ found_role here.catalog s.owner (λ o. with_sequence here.catalog d.oid (record s { owner = o })) place.roles_differ owned
    ∙ changed_within c before after d (λ (x : DatabaseObjects). sequence_refusal c.roles x s) (add_sequence s) place.alone free)

pub sequences_replay : (c : Cluster) (before after : List DatabaseObjects) (d : DatabaseObjects) → IsPlace c before d.oid
    → EachBehind (λ ss s. sequence_refusal c.roles (record d { sequences = ss }) s ≡ None) d.sequences
    → Replays (within c before after (record d { sequences = [] })) (flat_map (sequence_statements c.roles) d.sequences) (within c before after d)
sequences_replay c before after d place free =
    each_replays (λ ss. within c before after (record d { sequences = ss })) (sequence_statements c.roles) [] d.sequences
    (λ ss s more e.
    let here : DatabaseObjects = record d { sequences = ss } in (
      numbered_within c before after here (record no_numbers { sequence = Some s.oid }),
      step_number c before after here no_numbers kinds.Sequence s.oid,
      (
        numbered_within c before after here (sequence_numbers s),
        step_number c before after here (record no_numbers { sequence = Some s.oid }) kinds.SequenceFile s.file,
        (within c before after (add_sequence s here), step_sequence c before after here s place (free ss s more e), refl),
      ),
    ))
