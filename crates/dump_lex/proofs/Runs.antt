-- Tests of bytes, and runs of bytes.
use Rattle.std.proofs.Common.{◌≡◌, ℕ, suc, ◌+◌, ◌≤◌, Bool, true, false, cond, List, [], ◌∷◌, ◌++◌, length, take, drop, refl, ap, ◌∙◌, arith}
use Rattle.std.specs.Prelude.{◌⊎◌, ◌&&◌, nat_le}
use Rattle.std.specs.List.{prefix_len, list_all}
use Rattle.std.proofs.Common.{inl, inr}
use Rattle.std.proofs.lemmas.Bool.{leb-true, and_parts}
use Rattle.dump_lex.specs.Bytes.{begins, is_between}

-- what a choice was
pub chosen : {A : Type 0} (b : Bool) (x y z : A) → cond b x y ≡ z → ((b ≡ true) × (x ≡ z)) ⊎ ((b ≡ false) × (y ≡ z))
chosen true x y z e = inl (refl, e)
chosen false x y z e = inr (refl, e)

pub between : (low high b : ℕ) → is_between low high b ≡ true → (low ≤ b) × (b ≤ high)
between low high b h = let t = and_parts (nat_le low b) (nat_le b high) h in (leb-true low b t.0, leb-true b high t.1)

-- a whole run and what stops it, from its length
pub record RunParts (p : ℕ → Bool) (xs : List ℕ) (n : ℕ) : Type 0 where
  pub passes : list_all p (take n xs) ≡ true
  pub stops : begins p (drop n xs) ≡ false

pub run_parts : (p : ℕ → Bool) (xs : List ℕ) → RunParts p xs (prefix_len p xs)
run_parts p [] = record { passes = refl; stops = refl }
run_parts p (x ∷ xs) =
    let n = prefix_len p xs in
    let one : 1 + n ≡ suc n = omega arith in
    let P : Bool → Type 0 = λ b. p x ≡ b → RunParts p (x ∷ xs) (cond b (1 + n) 0) in
    elim (p x) as P [
      | true ↦ λ e. record {
        passes = ap (λ (k : ℕ). list_all p (take k (x ∷ xs))) one ∙ ap (λ (b : Bool). b && list_all p (take n xs)) e ∙ (run_parts p xs).passes;
        stops = ap (λ (k : ℕ). begins p (drop k (x ∷ xs))) one ∙ (run_parts p xs).stops;
      }
      | false ↦ λ e. record { passes = refl; stops = e }
    ] refl

-- the length of a whole run, from its bytes
pub run_len_is : (p : ℕ → Bool) (t rest : List ℕ) → list_all p t ≡ true → begins p rest ≡ false → prefix_len p (t ++ rest) ≡ length t
run_len_is p [] [] h stops = refl
run_len_is p [] (c ∷ cs) h stops = rw stops refl
run_len_is p (b ∷ bs) rest h stops = let s = and_parts (p b) (list_all p bs) h in rw (s.0, run_len_is p bs rest s.1 stops) (omega arith)
