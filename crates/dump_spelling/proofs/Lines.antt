-- The lines of statements are their words.
use Rattle.std.proofs.Common.{◌≡◌, ℕ, Bool, true, false, cond, List, [], ◌∷◌, ◌++◌, map, Option, None, refl, sym, ap, subst, ◌∙◌, append_assoc}
use Rattle.std.specs.Prelude.{◌||◌}
use Rattle.std.specs.List.{flat_map}
use Rattle.dump_lex.specs.declared.token.LexKind.{LexKind}
use Rattle.dump_lex.specs.Bytes.{is_separator}
use Rattle.dump_lex.specs.Grammar.{Separates, nothing, one, Stands}
use Rattle.dump_lex.specs.Reading.{Parses, at_end, at_error, at_token}
use Rattle.dump_grammar.specs.declared.statement.Statement.{Statement}
use Rattle.dump_grammar.specs.Pieces.{Piece, pieces}
use Rattle.dump_grammar.specs.Spelling.{Word, written, text_of, opens, closes, gap, behind, spelled, lines_of}
use Rattle.dump_spelling.specs.Spelled.{words_of, AreWritable, AreSpelled, LinesAreSpelled}
use Rattle.dump_spelling.proofs.Tokens.{ArePieces, is_token, spell_written, longest}
use Rattle.dump_spelling.proofs.Statements.{are_pieces}

-- a separator before a text
blank_first : (b : ℕ) → is_separator b ≡ true → (bytes : List ℕ) (words : List Word) (end : Option LexKind) → Parses bytes words end → Parses (b ∷ bytes) words end
blank_first b h _ _ _ (at_end s sep) = at_end (b ∷ s) (one b s h sep)
blank_first b h _ _ _ (at_error s rest kind sep stops lt fails) = at_error (b ∷ s) rest kind (one b s h sep) stops lt fails
blank_first b h _ _ _ (at_token s t rest kind words end sep stands later) = at_token (b ∷ s) t rest kind words end (one b s h sep) stands later

gap_separates : (rest : List ℕ) (b : Bool) → Separates rest (cond b [] (32 ∷ []))
gap_separates rest true = nothing
gap_separates rest false = one 32 [] refl nothing

stands : (p : Piece) (ps : List Piece) (rest : List ℕ) → ArePieces (p ∷ ps) → Stands (written p).0 (written p).1 (behind p ps ++ rest)
stands p ps rest h = record { is_token = is_token p h.0; is_longest = longest p ps rest h.1 }

-- what stands behind a piece, and then the rest
behind_parses : (p : Piece) (ps : List Piece) (rest : List ℕ) (more : List Word) → ArePieces ps → Parses rest more None → Parses (behind p ps ++ rest) (map written ps ++ more) None
behind_parses p [] rest more h k = blank_first 10 refl rest more None k
behind_parses p (q ∷ qs) rest more h k =
    let regrouped : behind p (q ∷ qs) ++ rest ≡ gap p q ++ (text_of q ++ (behind q qs ++ rest)) =
    append_assoc (gap p q) (text_of q ++ behind q qs) rest ∙ ap (λ (l : List ℕ). gap p q ++ l) (append_assoc (text_of q) (behind q qs) rest) in
    let later = behind_parses q qs rest more h.1 k in
    subst (λ (l : List ℕ). Parses l (map written (q ∷ qs) ++ more) None) (sym regrouped)
    (at_token (gap p q) (text_of q) (behind q qs ++ rest) (written q).0 (map written qs ++ more) None (gap_separates (text_of q ++ (behind q qs ++ rest)) (opens p || closes q)) (stands q qs rest h) later)

line_parses : (ps : List Piece) (rest : List ℕ) (more : List Word) → ArePieces ps → Parses rest more None → Parses (spelled ps ++ rest) (map written ps ++ more) None
line_parses [] rest more h k = k
line_parses (p ∷ ps) rest more h k =
    let later = behind_parses p ps rest more h.1 k in
    subst (λ (l : List ℕ). Parses l (map written (p ∷ ps) ++ more) None) (sym (append_assoc (text_of p) (behind p ps) rest))
    (at_token [] (text_of p) (behind p ps ++ rest) (written p).0 (map written ps ++ more) None nothing (stands p ps rest h) later)

lines_parse : (ss : List Statement) → AreWritable ss → Parses (lines_of ss) (flat_map words_of ss) None
lines_parse [] h = at_end [] nothing
lines_parse (s ∷ ss) h = line_parses (pieces s) (lines_of ss) (flat_map words_of ss) (are_pieces s h.0.0 h.0.1) (lines_parse ss h.1)

are_spelled : (ss : List Statement) → AreWritable ss → AreSpelled ss
are_spelled [] h = tt
are_spelled (s ∷ ss) h = (spell_written (pieces s) (are_pieces s h.0.0 h.0.1), are_spelled ss h.1)

pub lines_are_spelled : LinesAreSpelled
lines_are_spelled ss h = (lines_parse ss h, are_spelled ss h)
