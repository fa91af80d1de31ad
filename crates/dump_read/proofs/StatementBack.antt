-- What words that are read as a statement spell.
use Rattle.std.proofs.Common.{◌≡◌, List, [], ◌∷◌, ◌++◌, map, Some, refl, sym, ap, subst, ◌∙◌, append_assoc}
use Rattle.std.specs.Prelude.{codes}
use Rattle.std.proofs.lemmas.Option.{option_and_then_some, same_Some}
use Rattle.dump_grammar.specs.declared.statement.Statement.{Statement}
use Rattle.dump_grammar.specs.declared.statement.Statement.TheVariants.{Bootstrap, SetNext, CreateRole, CreateTablespace, CreateDatabase, AlterDatabase, Connect, CreateSchema, CreateEnum, AddLabel, CreateTable, CreateIndex, CreateSequence}
use Rattle.dump_grammar.specs.Pieces.{Piece, keyword, plain, mark, name, number, string, location, semicolon, kind_word, flag_word, items, column_pieces, key_pieces, pieces}
use Rattle.dump_grammar.specs.Spelling.{Word, Spell, IsStatement}
use Rattle.dump_read.specs.declared.heads.Verb.{Verb}
use Rattle.dump_read.specs.declared.heads.Verb.TheVariants as verbs
use Rattle.dump_read.specs.declared.heads.Object.{Object}
use Rattle.dump_read.specs.declared.heads.Object.TheVariants as objects
use Rattle.dump_read.specs.Form.{verb_word, object_word, bootstrap_at, next_at, role_at, tablespace_made_at, database_at, altered_at, connect_at, schema_at, enum_made_at, label_at, table_at, index_at, sequence_at, columns_at, keys_at, created_at, create_at, behind_verb, words_at, at_end, form}
use Rattle.dump_read.proofs.Steps.{Consumes, consumes_then, step, key_step, mark_step}
use Rattle.dump_read.proofs.Readers.{made, name_reader, number_reader, string_reader, location_reader, kind_reader, flag_reader, verb_reader, object_reader, keyed_reader, qualified_reader}
use Rattle.dump_read.proofs.ListReader.{parenthesized, columns_back, keys_back}

-- The words behind those heads are of the statement, up to its `;`.
record Behind (heads : List Piece) (ws : List Word) (s : Statement) (rest : List Word) : Type 0 where
  tail : List Piece
  is : pieces s ≡ heads ++ (tail ++ semicolon ∷ [])
  taken : Consumes ws tail rest
  valid : IsStatement s

behind_then : (heads ps : List Piece) (ws mid rest : List Word) (s : Statement) → Consumes ws ps mid → Behind (heads ++ ps) mid s rest → Behind heads ws s rest
behind_then heads ps ws mid rest s t b = record {
  tail = ps ++ b.tail;
  is = b.is ∙ append_assoc heads ps (b.tail ++ semicolon ∷ []) ∙ ap (λ more. heads ++ more) (sym (append_assoc ps b.tail (semicolon ∷ [])));
  taken = consumes_then ws mid rest ps b.tail t b.taken;
  valid = b.valid;
}

bootstrap_back : (ws rest : List Word) (s : Statement) → bootstrap_at ws ≡ Some (s, rest) → Behind (keyword (codes "BOOTSTRAP") ∷ []) ws s rest
unfolding bootstrap_at
bootstrap_back ws rest s e =
    step name_reader _ ws (s, rest) e (λ n w1 hn t1 e1.
    made (λ s rest. Behind (keyword (codes "BOOTSTRAP") ∷ []) ws s rest) (Bootstrap n) s w1 rest e1 (record {
      tail = name n ∷ [];
      is = refl;
      taken = t1;
      valid = hn;
    }))

next_back : (ws rest : List Word) (s : Statement) → next_at ws ≡ Some (s, rest) → Behind (keyword (codes "SET") ∷ []) ws s rest
unfolding next_at
next_back ws rest s e =
    key_step (codes "NEXT") _ ws (s, rest) e (λ w1 t1 e1.
    step kind_reader _ w1 (s, rest) e1 (λ k w2 _ t2 e2.
    step number_reader _ w2 (s, rest) e2 (λ m w3 hm t3 e3.
    made (λ s rest. Behind (keyword (codes "SET") ∷ []) ws s rest) (SetNext k m) s w3 rest e3 (record {
      tail = keyword (codes "NEXT") ∷ plain (kind_word k) ∷ number m ∷ [];
      is = refl;
      taken = consumes_then ws w1 w3 _ _ t1 (consumes_then w1 w2 w3 _ _ t2 t3);
      valid = hm;
    }))))

role_back : (ws rest : List Word) (s : Statement) → role_at ws ≡ Some (s, rest) → Behind (keyword (codes "CREATE") ∷ keyword (codes "ROLE") ∷ []) ws s rest
unfolding role_at
role_back ws rest s e =
    step name_reader _ ws (s, rest) e (λ n w1 hn t1 e1.
    made (λ s rest. Behind (keyword (codes "CREATE") ∷ keyword (codes "ROLE") ∷ []) ws s rest) (CreateRole n) s w1 rest e1 (record {
      tail = name n ∷ [];
      is = refl;
      taken = t1;
      valid = hn;
    }))

tablespace_back : (ws rest : List Word) (s : Statement) → tablespace_made_at ws ≡ Some (s, rest) → Behind (keyword (codes "CREATE") ∷ keyword (codes "TABLESPACE") ∷ []) ws s rest
unfolding tablespace_made_at
tablespace_back ws rest s e =
    step name_reader _ ws (s, rest) e (λ n w1 hn t1 e1.
    step (keyed_reader (codes "OWNER")) _ w1 (s, rest) e1 (λ o w2 ho t2 e2.
    key_step (codes "LOCATION") _ w2 (s, rest) e2 (λ w3 t3 e3.
    step location_reader _ w3 (s, rest) e3 (λ p w4 hp t4 e4.
    made (λ s rest. Behind (keyword (codes "CREATE") ∷ keyword (codes "TABLESPACE") ∷ []) ws s rest) (CreateTablespace n o p) s w4 rest e4 (record {
      tail = name n ∷ keyword (codes "OWNER") ∷ name o ∷ keyword (codes "LOCATION") ∷ location p ∷ [];
      is = refl;
      taken = consumes_then ws w1 w4 _ _ t1 (consumes_then w1 w2 w4 _ _ t2 (consumes_then w2 w3 w4 _ _ t3 t4));
      valid = (hn, ho, hp);
    })))))

database_back : (ws rest : List Word) (s : Statement) → database_at ws ≡ Some (s, rest) → Behind (keyword (codes "CREATE") ∷ keyword (codes "DATABASE") ∷ []) ws s rest
unfolding database_at
database_back ws rest s e =
    step name_reader _ ws (s, rest) e (λ n w1 hn t1 e1.
    step (keyed_reader (codes "OWNER")) _ w1 (s, rest) e1 (λ o w2 ho t2 e2.
    made (λ s rest. Behind (keyword (codes "CREATE") ∷ keyword (codes "DATABASE") ∷ []) ws s rest) (CreateDatabase n o) s w2 rest e2 (record {
      tail = name n ∷ keyword (codes "OWNER") ∷ name o ∷ [];
      is = refl;
      taken = consumes_then ws w1 w2 _ _ t1 t2;
      valid = (hn, ho);
    })))

altered_back : (ws rest : List Word) (s : Statement) → altered_at ws ≡ Some (s, rest) → Behind (keyword (codes "ALTER") ∷ []) ws s rest
unfolding altered_at
altered_back ws rest s e =
    step (keyed_reader (codes "DATABASE")) _ ws (s, rest) e (λ n w1 hn t1 e1.
    key_step (codes "CONNECTIONS") _ w1 (s, rest) e1 (λ w2 t2 e2.
    step flag_reader _ w2 (s, rest) e2 (λ b w3 _ t3 e3.
    made (λ s rest. Behind (keyword (codes "ALTER") ∷ []) ws s rest) (AlterDatabase n b) s w3 rest e3 (record {
      tail = keyword (codes "DATABASE") ∷ name n ∷ keyword (codes "CONNECTIONS") ∷ keyword (flag_word b) ∷ [];
      is = refl;
      taken = consumes_then ws w1 w3 _ _ t1 (consumes_then w1 w2 w3 _ _ t2 t3);
      valid = hn;
    }))))

connect_back : (ws rest : List Word) (s : Statement) → connect_at ws ≡ Some (s, rest) → Behind (keyword (codes "CONNECT") ∷ []) ws s rest
unfolding connect_at
connect_back ws rest s e =
    step name_reader _ ws (s, rest) e (λ n w1 hn t1 e1.
    made (λ s rest. Behind (keyword (codes "CONNECT") ∷ []) ws s rest) (Connect n) s w1 rest e1 (record {
      tail = name n ∷ [];
      is = refl;
      taken = t1;
      valid = hn;
    }))

schema_back : (ws rest : List Word) (s : Statement) → schema_at ws ≡ Some (s, rest) → Behind (keyword (codes "CREATE") ∷ keyword (codes "SCHEMA") ∷ []) ws s rest
unfolding schema_at
schema_back ws rest s e =
    step name_reader _ ws (s, rest) e (λ n w1 hn t1 e1.
    step (keyed_reader (codes "OWNER")) _ w1 (s, rest) e1 (λ o w2 ho t2 e2.
    made (λ s rest. Behind (keyword (codes "CREATE") ∷ keyword (codes "SCHEMA") ∷ []) ws s rest) (CreateSchema n o) s w2 rest e2 (record {
      tail = name n ∷ keyword (codes "OWNER") ∷ name o ∷ [];
      is = refl;
      taken = consumes_then ws w1 w2 _ _ t1 t2;
      valid = (hn, ho);
    })))

enum_back : (ws rest : List Word) (s : Statement) → enum_made_at ws ≡ Some (s, rest) → Behind (keyword (codes "CREATE") ∷ keyword (codes "ENUM") ∷ []) ws s rest
unfolding enum_made_at
enum_back ws rest s e =
    step qualified_reader _ ws (s, rest) e (λ q w1 hq t1 e1.
    step (keyed_reader (codes "OWNER")) _ w1 (s, rest) e1 (λ o w2 ho t2 e2.
    made (λ s rest. Behind (keyword (codes "CREATE") ∷ keyword (codes "ENUM") ∷ []) ws s rest) (CreateEnum q.schema q.name o) s w2 rest e2 (record {
      tail = name q.schema ∷ mark 46 ∷ name q.name ∷ keyword (codes "OWNER") ∷ name o ∷ [];
      is = refl;
      taken = consumes_then ws w1 w2 _ _ t1 t2;
      valid = (hq.0, hq.1, ho);
    })))

label_back : (ws rest : List Word) (s : Statement) → label_at ws ≡ Some (s, rest) → Behind (keyword (codes "ADD") ∷ []) ws s rest
unfolding label_at
label_back ws rest s e =
    key_step (codes "LABEL") _ ws (s, rest) e (λ w1 t1 e1.
    step qualified_reader _ w1 (s, rest) e1 (λ q w2 hq t2 e2.
    step string_reader _ w2 (s, rest) e2 (λ t w3 _ t3 e3.
    made (λ s rest. Behind (keyword (codes "ADD") ∷ []) ws s rest) (AddLabel q.schema q.name t) s w3 rest e3 (record {
      tail = keyword (codes "LABEL") ∷ name q.schema ∷ mark 46 ∷ name q.name ∷ string t ∷ [];
      is = refl;
      taken = consumes_then ws w1 w3 _ _ t1 (consumes_then w1 w2 w3 _ _ t2 t3);
      valid = hq;
    }))))

table_back : (ws rest : List Word) (s : Statement) → table_at ws ≡ Some (s, rest) → Behind (keyword (codes "CREATE") ∷ keyword (codes "TABLE") ∷ []) ws s rest
unfolding table_at
table_back ws rest s e =
    step qualified_reader _ ws (s, rest) e (λ q w1 hq t1 e1.
    step (keyed_reader (codes "OWNER")) _ w1 (s, rest) e1 (λ o w2 ho t2 e2.
    step (keyed_reader (codes "TABLESPACE")) _ w2 (s, rest) e2 (λ a w3 ha t3 e3.
    option_and_then_some _ (columns_at w3) (s, rest) e3 (λ x found e4. let cs = x.0 in let w4 = x.1 in let back = columns_back w3 w4 cs found in let hcs = back.0 in let t4 = back.1 in
    made (λ s rest. Behind (keyword (codes "CREATE") ∷ keyword (codes "TABLE") ∷ []) ws s rest) (CreateTable q.schema q.name o a cs) s w4 rest e4 (record {
      tail = name q.schema ∷ mark 46 ∷ name q.name ∷ keyword (codes "OWNER") ∷ name o ∷ keyword (codes "TABLESPACE") ∷ name a ∷ parenthesized (map column_pieces cs) [];
      is = ap (λ ps. keyword (codes "CREATE") ∷ keyword (codes "TABLE") ∷ name q.schema ∷ mark 46 ∷ name q.name ∷ keyword (codes "OWNER") ∷ name o ∷ keyword (codes "TABLESPACE") ∷ name a ∷ mark 40 ∷ ps) (sym (append_assoc (items (map column_pieces cs)) (mark 41 ∷ []) (semicolon ∷ [])));
      taken = consumes_then ws w1 w4 _ _ t1 (consumes_then w1 w2 w4 _ _ t2 (consumes_then w2 w3 w4 _ _ t3 t4));
      valid = (hq.0, hq.1, ho, ha, hcs);
    })))))

index_back : (ws rest : List Word) (s : Statement) → index_at ws ≡ Some (s, rest) → Behind (keyword (codes "CREATE") ∷ keyword (codes "INDEX") ∷ []) ws s rest
unfolding index_at
index_back ws rest s e =
    step name_reader _ ws (s, rest) e (λ n w1 hn t1 e1.
    key_step (codes "ON") _ w1 (s, rest) e1 (λ w2 t2 e2.
    step qualified_reader _ w2 (s, rest) e2 (λ q w3 hq t3 e3.
    step (keyed_reader (codes "TABLESPACE")) _ w3 (s, rest) e3 (λ a w4 ha t4 e4.
    option_and_then_some _ (keys_at w4) (s, rest) e4 (λ x found e5. let ks = x.0 in let w5 = x.1 in let back = keys_back w4 w5 ks found in let hks = back.0 in let t5 = back.1 in
    made (λ s rest. Behind (keyword (codes "CREATE") ∷ keyword (codes "INDEX") ∷ []) ws s rest) (CreateIndex n q.schema q.name a ks) s w5 rest e5 (record {
      tail = name n ∷ keyword (codes "ON") ∷ name q.schema ∷ mark 46 ∷ name q.name ∷ keyword (codes "TABLESPACE") ∷ name a ∷ parenthesized (map key_pieces ks) [];
      is = ap (λ ps. keyword (codes "CREATE") ∷ keyword (codes "INDEX") ∷ name n ∷ keyword (codes "ON") ∷ name q.schema ∷ mark 46 ∷ name q.name ∷ keyword (codes "TABLESPACE") ∷ name a ∷ mark 40 ∷ ps) (sym (append_assoc (items (map key_pieces ks)) (mark 41 ∷ []) (semicolon ∷ [])));
      taken = consumes_then ws w1 w5 _ _ t1 (consumes_then w1 w2 w5 _ _ t2 (consumes_then w2 w3 w5 _ _ t3 (consumes_then w3 w4 w5 _ _ t4 t5)));
      valid = (hn, hq.0, hq.1, ha, hks);
    }))))))

sequence_back : (ws rest : List Word) (s : Statement) → sequence_at ws ≡ Some (s, rest) → Behind (keyword (codes "CREATE") ∷ keyword (codes "SEQUENCE") ∷ []) ws s rest
unfolding sequence_at
sequence_back ws rest s e =
    step qualified_reader _ ws (s, rest) e (λ q w1 hq t1 e1.
    step (keyed_reader (codes "OWNER")) _ w1 (s, rest) e1 (λ o w2 ho t2 e2.
    made (λ s rest. Behind (keyword (codes "CREATE") ∷ keyword (codes "SEQUENCE") ∷ []) ws s rest) (CreateSequence q.schema q.name o) s w2 rest e2 (record {
      tail = name q.schema ∷ mark 46 ∷ name q.name ∷ keyword (codes "OWNER") ∷ name o ∷ [];
      is = refl;
      taken = consumes_then ws w1 w2 _ _ t1 t2;
      valid = (hq.0, hq.1, ho);
    })))

-- ---- whole statements

created_back : (ws rest : List Word) (object : Object) (s : Statement) → created_at object ws ≡ Some (s, rest) → Behind (keyword (codes "CREATE") ∷ keyword (object_word object) ∷ []) ws s rest
created_back ws rest objects.Role s e = role_back ws rest s e
created_back ws rest objects.Tablespace s e = tablespace_back ws rest s e
created_back ws rest objects.Database s e = database_back ws rest s e
created_back ws rest objects.Schema s e = schema_back ws rest s e
created_back ws rest objects.EnumType s e = enum_back ws rest s e
created_back ws rest objects.Table s e = table_back ws rest s e
created_back ws rest objects.Index s e = index_back ws rest s e
created_back ws rest objects.Sequence s e = sequence_back ws rest s e

create_back : (ws rest : List Word) (s : Statement) → create_at ws ≡ Some (s, rest) → Behind (keyword (codes "CREATE") ∷ []) ws s rest
unfolding create_at
create_back ws rest s e = step object_reader _ ws (s, rest) e (λ object w1 _ t e1. behind_then _ _ ws w1 rest s t (created_back w1 rest object s e1))

led_back : (ws rest : List Word) (verb : Verb) (s : Statement) → behind_verb verb ws ≡ Some (s, rest) → Behind (keyword (verb_word verb) ∷ []) ws s rest
led_back ws rest verbs.Bootstrap s e = bootstrap_back ws rest s e
led_back ws rest verbs.Set s e = next_back ws rest s e
led_back ws rest verbs.Create s e = create_back ws rest s e
led_back ws rest verbs.Alter s e = altered_back ws rest s e
led_back ws rest verbs.Connect s e = connect_back ws rest s e
led_back ws rest verbs.Add s e = label_back ws rest s e

words_back : (ws rest : List Word) (s : Statement) → words_at ws ≡ Some (s, rest) → Behind [] ws s rest
unfolding words_at
words_back ws rest s e = step verb_reader _ ws (s, rest) e (λ verb w1 _ t e1. behind_then _ _ ws w1 rest s t (led_back w1 rest verb s e1))

alone_back : (x s : Statement) (ws : List Word) → at_end x ws ≡ Some s → (x ≡ s) × Spell ws []
alone_back x s [] e = (same_Some x s e, tt)
alone_back x s (w ∷ ws) e = absurd cc

pub read_is_spelled : (ws : List Word) (s : Statement) → form ws ≡ Some s → Spell ws (pieces s) × IsStatement s
unfolding form
read_is_spelled ws s e =
    option_and_then_some _ (words_at ws) s e (λ x ex e1.
    mark_step 59 _ x.1 s e1 (λ end t e2.
    let p = alone_back x.0 s end e2 in
    let b = words_back ws x.1 x.0 ex in
    subst (λ s. Spell ws (pieces s) × IsStatement s) p.0 (subst (λ ps. Spell ws ps) (sym b.is) (b.taken.spells (semicolon ∷ []) (t.spells [] p.1)), b.valid)))
