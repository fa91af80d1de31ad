-- The text of a path reads as that path.
use Rattle.std.proofs.Common.{◌≡◌, ℕ, Bool, true, false, cond, List, [], ◌∷◌, ◌++◌, length, Option, Some, None, refl, ap, ◌∙◌}
use Rattle.std.specs.Prelude.{◌==◌, ◌&&◌, ◌||◌, not, nat_le, codes, bytes_eq}
use Rattle.std.specs.List.{list_all, slice_split}
use Rattle.std.proofs.lemmas.List.{append-nil}
use Rattle.std.proofs.lemmas.List.Splits.{slice_split-cons_no}
use Rattle.fs_model.specs.Names.{Path, slash, is_name_byte, is_name}
use Rattle.fs_model.specs.PathText.{filled, parts, path_in, joined, text_of}

both_true : (a b : Bool) → (a && b) ≡ true → (a ≡ true) × (b ≡ true)
both_true true b e = (refl, e)
both_true false b e = absurd cc

not_true : (a : Bool) → not a ≡ true → a ≡ false
not_true true e = absurd cc
not_true false e = refl

-- a part without a slash stays whole
split_whole : (name : List ℕ) → list_all is_name_byte name ≡ true → slice_split (λ b. b == slash) name ≡ name ∷ []
split_whole [] h = refl
split_whole (b ∷ bs) h =
    let t = both_true (is_name_byte b) (list_all is_name_byte bs) h in
    let u = both_true (not (b == slash)) (not (b == 0)) t.0 in
    rw (slice_split-cons_no (λ (c : ℕ). c == slash) b bs (not_true (b == slash) u.0), split_whole bs t.1) refl

-- and is cut at the slash behind it
split_part : (name rest : List ℕ) → list_all is_name_byte name ≡ true → slice_split (λ b. b == slash) (name ++ slash ∷ rest) ≡ name ∷ slice_split (λ b. b == slash) rest
split_part [] rest h = refl
split_part (b ∷ bs) rest h =
    let t = both_true (is_name_byte b) (list_all is_name_byte bs) h in
    let u = both_true (not (b == slash)) (not (b == 0)) t.0 in
    rw (slice_split-cons_no (λ (c : ℕ). c == slash) b (bs ++ slash ∷ rest) (not_true (b == slash) u.0), split_part bs rest t.1) refl

-- what a name is
record Named (name : List ℕ) : Type 0 where
  some : (length name == 0) ≡ false
  bytes : list_all is_name_byte name ≡ true

named : (name : List ℕ) → is_name name ≡ true → Named name
named name h =
    let a = both_true (not (length name == 0) && nat_le (length name) 255 && list_all is_name_byte name) (not (bytes_eq name (codes ".") || bytes_eq name (codes ".."))) h in
    let b = both_true (not (length name == 0) && nat_le (length name) 255) (list_all is_name_byte name) a.0 in
    let c = both_true (not (length name == 0)) (nat_le (length name) 255) b.0 in
    record { some = not_true (length name == 0) c.0; bytes = b.1 }

filled_name : (name : List ℕ) (names : List (List ℕ)) → (length name == 0) ≡ false → filled (name ∷ names) ≡ name ∷ filled names
filled_name name names h = ap (λ (b : Bool). cond (not b) (name ∷ filled names) (filled names)) h

-- the names of a path are the parts of its text behind the first slash
parts_again : (name : List ℕ) (names : Path) → list_all is_name (name ∷ names) ≡ true → parts (name ++ joined names) ≡ name ∷ names
parts_again name [] h =
    let t = both_true (is_name name) true h in
    let n = named name t.0 in
    rw (append-nil name, split_whole name n.bytes) (filled_name name [] n.some)
parts_again name (next ∷ names) h =
    let t = both_true (is_name name) (list_all is_name (next ∷ names)) h in
    let n = named name t.0 in
    ap filled (split_part name (next ++ joined names) n.bytes) ∙ filled_name name (slice_split (λ b. b == slash) (next ++ joined names)) n.some ∙ ap (λ (ns : Path). name ∷ ns) (parts_again next names t.1)

pub text_again : (path : Path) → list_all is_name path ≡ true → path_in (text_of path) ≡ Some path
text_again [] h = refl
text_again (name ∷ names) h =
    let p = parts_again name names h in
    let made : Path → Option Path = λ ns. cond (list_all is_name ns) (Some ns) None in
    ap made p ∙ ap (λ (b : Bool). cond b (Some (name ∷ names)) None) h
