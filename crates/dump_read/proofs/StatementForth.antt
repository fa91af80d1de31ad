-- Words that spell a statement are read as it.
use Rattle.std.proofs.Common.{◌≡◌, List, [], ◌∷◌, map, Option, Some, option_and_then, refl, ap, ◌∙◌}
use Rattle.std.specs.Prelude.{codes}
use Rattle.dump_grammar.specs.declared.statement.Statement.{Statement}
use Rattle.dump_grammar.specs.declared.statement.Statement.TheVariants.{Bootstrap, SetNext, CreateRole, CreateTablespace, CreateDatabase, AlterDatabase, Connect, CreateSchema, CreateEnum, AddLabel, CreateTable, CreateIndex, CreateSequence}
use Rattle.dump_grammar.specs.Pieces.{Piece, keyword, plain, mark, name, number, string, location, semicolon, kind_word, flag_word, column_pieces, key_pieces, listed, pieces}
use Rattle.dump_grammar.specs.Spelling.{Word, Spell, IsStatement}
use Rattle.dump_read.specs.declared.heads.Verb.{Verb}
use Rattle.dump_read.specs.declared.heads.Verb.TheVariants as verbs
use Rattle.dump_read.specs.declared.heads.Object.{Object}
use Rattle.dump_read.specs.declared.heads.Object.TheVariants as objects
use Rattle.dump_read.specs.Takes.{mark_at}
use Rattle.dump_read.specs.Form.{verb_word, object_word, bootstrap_at, next_at, role_at, tablespace_made_at, database_at, altered_at, connect_at, schema_at, enum_made_at, label_at, table_at, index_at, sequence_at, created_at, create_at, behind_verb, words_at, at_end, form}
use Rattle.dump_read.proofs.Steps.{Ends, mark_there, go_on, key_on}
use Rattle.dump_read.proofs.Readers.{name_reader, number_reader, string_reader, location_reader, kind_reader, flag_reader, verb_reader, object_reader, keyed_reader, qualified_reader}
use Rattle.dump_read.proofs.ListReader.{columns_forth, keys_forth}

abbrev end_of : List Piece
end_of = semicolon ∷ []

-- the statement is read, and its `;` stands behind it
abbrev IsRead : Option (Statement × List Word) → Statement → Type 0
IsRead read s = Ends read s end_of

verb_on : (verb : Verb) (ws : List Word) (more : List Piece) (s : Statement) → Spell ws (keyword (verb_word verb) ∷ more) → ((rest : List Word) → Spell rest more → IsRead (behind_verb verb rest) s) → IsRead (words_at ws) s
unfolding words_at
verb_on verb ws more s h go = go_on verb_reader (λ x. behind_verb x.0 x.1) ws verb more end_of s tt h go

create_on : (object : Object) (ws : List Word) (more : List Piece) (s : Statement) → Spell ws (keyword (codes "CREATE") ∷ keyword (object_word object) ∷ more) → ((rest : List Word) → Spell rest more → IsRead (created_at object rest) s) → IsRead (words_at ws) s
unfolding create_at
create_on object ws more s h go =
    verb_on verbs.Create ws (keyword (object_word object) ∷ more) s h (λ w1 h1. go_on object_reader (λ x. created_at x.0 x.1) w1 object more end_of s tt h1 go)

words_forth : (ws : List Word) (s : Statement) → IsStatement s → Spell ws (pieces s) → IsRead (words_at ws) s
unfolding bootstrap_at next_at role_at tablespace_made_at database_at altered_at connect_at schema_at enum_made_at label_at table_at index_at sequence_at
words_forth ws (Bootstrap n) valid h =
    verb_on verbs.Bootstrap ws _ (Bootstrap n) h (λ w0 h0.
    go_on name_reader _ w0 n end_of end_of (Bootstrap n) valid h0 (λ w1 h1.
    (w1, refl, h1)))
words_forth ws (SetNext kind n) valid h =
    verb_on verbs.Set ws _ (SetNext kind n) h (λ w0 h0.
    key_on (codes "NEXT") _ w0 (plain (kind_word kind) ∷ number n ∷ end_of) end_of (SetNext kind n) h0 (λ w1 h1.
    go_on kind_reader _ w1 kind (number n ∷ end_of) end_of (SetNext kind n) tt h1 (λ w2 h2.
    go_on number_reader _ w2 n end_of end_of (SetNext kind n) valid h2 (λ w3 h3.
    (w3, refl, h3)))))
words_forth ws (CreateRole n) valid h =
    create_on objects.Role ws _ (CreateRole n) h (λ w0 h0.
    go_on name_reader _ w0 n end_of end_of (CreateRole n) valid h0 (λ w1 h1.
    (w1, refl, h1)))
words_forth ws (CreateTablespace n owner path) valid h =
    create_on objects.Tablespace ws _ (CreateTablespace n owner path) h (λ w0 h0.
    go_on name_reader _ w0 n (keyword (codes "OWNER") ∷ name owner ∷ keyword (codes "LOCATION") ∷ location path ∷ end_of) end_of (CreateTablespace n owner path) valid.0 h0 (λ w1 h1.
    go_on (keyed_reader (codes "OWNER")) _ w1 owner (keyword (codes "LOCATION") ∷ location path ∷ end_of) end_of (CreateTablespace n owner path) valid.1 h1 (λ w2 h2.
    key_on (codes "LOCATION") _ w2 (location path ∷ end_of) end_of (CreateTablespace n owner path) h2 (λ w3 h3.
    go_on location_reader _ w3 path end_of end_of (CreateTablespace n owner path) valid.2 h3 (λ w4 h4.
    (w4, refl, h4))))))
words_forth ws (CreateDatabase n owner) valid h =
    create_on objects.Database ws _ (CreateDatabase n owner) h (λ w0 h0.
    go_on name_reader _ w0 n (keyword (codes "OWNER") ∷ name owner ∷ end_of) end_of (CreateDatabase n owner) valid.0 h0 (λ w1 h1.
    go_on (keyed_reader (codes "OWNER")) _ w1 owner end_of end_of (CreateDatabase n owner) valid.1 h1 (λ w2 h2.
    (w2, refl, h2))))
words_forth ws (AlterDatabase n on) valid h =
    verb_on verbs.Alter ws _ (AlterDatabase n on) h (λ w0 h0.
    go_on (keyed_reader (codes "DATABASE")) _ w0 n (keyword (codes "CONNECTIONS") ∷ keyword (flag_word on) ∷ end_of) end_of (AlterDatabase n on) valid h0 (λ w1 h1.
    key_on (codes "CONNECTIONS") _ w1 (keyword (flag_word on) ∷ end_of) end_of (AlterDatabase n on) h1 (λ w2 h2.
    go_on flag_reader _ w2 on end_of end_of (AlterDatabase n on) tt h2 (λ w3 h3.
    (w3, refl, h3)))))
words_forth ws (Connect n) valid h =
    verb_on verbs.Connect ws _ (Connect n) h (λ w0 h0.
    go_on name_reader _ w0 n end_of end_of (Connect n) valid h0 (λ w1 h1.
    (w1, refl, h1)))
words_forth ws (CreateSchema n owner) valid h =
    create_on objects.Schema ws _ (CreateSchema n owner) h (λ w0 h0.
    go_on name_reader _ w0 n (keyword (codes "OWNER") ∷ name owner ∷ end_of) end_of (CreateSchema n owner) valid.0 h0 (λ w1 h1.
    go_on (keyed_reader (codes "OWNER")) _ w1 owner end_of end_of (CreateSchema n owner) valid.1 h1 (λ w2 h2.
    (w2, refl, h2))))
words_forth ws (CreateEnum schema n owner) valid h =
    create_on objects.EnumType ws _ (CreateEnum schema n owner) h (λ w0 h0.
    go_on qualified_reader _ w0 (record { schema = schema; name = n }) (keyword (codes "OWNER") ∷ name owner ∷ end_of) end_of (CreateEnum schema n owner) (valid.0, valid.1) h0 (λ w1 h1.
    go_on (keyed_reader (codes "OWNER")) _ w1 owner end_of end_of (CreateEnum schema n owner) valid.2 h1 (λ w2 h2.
    (w2, refl, h2))))
words_forth ws (AddLabel schema n text) valid h =
    verb_on verbs.Add ws _ (AddLabel schema n text) h (λ w0 h0.
    key_on (codes "LABEL") _ w0 (name schema ∷ mark 46 ∷ name n ∷ string text ∷ end_of) end_of (AddLabel schema n text) h0 (λ w1 h1.
    go_on qualified_reader _ w1 (record { schema = schema; name = n }) (string text ∷ end_of) end_of (AddLabel schema n text) valid h1 (λ w2 h2.
    go_on string_reader _ w2 text end_of end_of (AddLabel schema n text) tt h2 (λ w3 h3.
    (w3, refl, h3)))))
words_forth ws (CreateTable schema n owner tablespace columns) valid h =
    create_on objects.Table ws _ (CreateTable schema n owner tablespace columns) h (λ w0 h0.
    go_on qualified_reader _ w0 (record { schema = schema; name = n }) (keyword (codes "OWNER") ∷ name owner ∷ keyword (codes "TABLESPACE") ∷ name tablespace ∷ listed (map column_pieces columns)) end_of (CreateTable schema n owner tablespace columns) (valid.0, valid.1) h0 (λ w1 h1.
    go_on (keyed_reader (codes "OWNER")) _ w1 owner (keyword (codes "TABLESPACE") ∷ name tablespace ∷ listed (map column_pieces columns)) end_of (CreateTable schema n owner tablespace columns) valid.2 h1 (λ w2 h2.
    go_on (keyed_reader (codes "TABLESPACE")) _ w2 tablespace (listed (map column_pieces columns)) end_of (CreateTable schema n owner tablespace columns) valid.3 h2 (λ w3 h3.
    let p = columns_forth w3 columns end_of valid.4 h3 in (p.0, ap (option_and_then (λ x. Some (CreateTable schema n owner tablespace x.0, x.1))) p.1, p.2)))))
words_forth ws (CreateIndex n schema table tablespace keys) valid h =
    create_on objects.Index ws _ (CreateIndex n schema table tablespace keys) h (λ w0 h0.
    go_on name_reader _ w0 n (keyword (codes "ON") ∷ name schema ∷ mark 46 ∷ name table ∷ keyword (codes "TABLESPACE") ∷ name tablespace ∷ listed (map key_pieces keys)) end_of (CreateIndex n schema table tablespace keys) valid.0 h0 (λ w1 h1.
    key_on (codes "ON") _ w1 (name schema ∷ mark 46 ∷ name table ∷ keyword (codes "TABLESPACE") ∷ name tablespace ∷ listed (map key_pieces keys)) end_of (CreateIndex n schema table tablespace keys) h1 (λ w2 h2.
    go_on qualified_reader _ w2 (record { schema = schema; name = table }) (keyword (codes "TABLESPACE") ∷ name tablespace ∷ listed (map key_pieces keys)) end_of (CreateIndex n schema table tablespace keys) (valid.1, valid.2) h2 (λ w3 h3.
    go_on (keyed_reader (codes "TABLESPACE")) _ w3 tablespace (listed (map key_pieces keys)) end_of (CreateIndex n schema table tablespace keys) valid.3 h3 (λ w4 h4.
    let p = keys_forth w4 keys end_of valid.4 h4 in (p.0, ap (option_and_then (λ x. Some (CreateIndex n schema table tablespace x.0, x.1))) p.1, p.2))))))
words_forth ws (CreateSequence schema n owner) valid h =
    create_on objects.Sequence ws _ (CreateSequence schema n owner) h (λ w0 h0.
    go_on qualified_reader _ w0 (record { schema = schema; name = n }) (keyword (codes "OWNER") ∷ name owner ∷ end_of) end_of (CreateSequence schema n owner) (valid.0, valid.1) h0 (λ w1 h1.
    go_on (keyed_reader (codes "OWNER")) _ w1 owner end_of end_of (CreateSequence schema n owner) valid.2 h1 (λ w2 h2.
    (w2, refl, h2))))

alone_is : (s : Statement) (ws : List Word) → Spell ws [] → at_end s ws ≡ Some s
alone_is s [] h = refl
alone_is s (w ∷ ws) h = absurd h

pub spelled_is_read : (s : Statement) (ws : List Word) → IsStatement s → Spell ws (pieces s) → form ws ≡ Some s
unfolding form
spelled_is_read s ws valid h =
    let p = words_forth ws s valid h in
    let m = mark_there 59 p.0 [] p.2 in
    ap (option_and_then (λ x. option_and_then (at_end x.0) (mark_at 59 x.1))) p.1 ∙ ap (option_and_then (at_end s)) m.1 ∙ alone_is s m.0 m.2
