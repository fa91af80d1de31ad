-- The ways of paths.
use Rattle.std.proofs.Common.{◌≡◌, ◌≢◌, ℕ, List, [], ◌∷◌, ◌++◌, length, Option, Some, None, refl, sym, ◌∙◌, ap, append_assoc, arith}
use Rattle.std.specs.Prelude.{is_some}
use Rattle.std.specs.FinMap.{get}
use Rattle.fs_model.specs.declared.node.Node.{Node}
use Rattle.fs_model.specs.declared.node.Node.TheVariants.{Dir, File, Sym}
use Rattle.fs_model.specs.declared.error.FsError.{FsError}
use Rattle.fs_model.specs.Names.{Path}
use Rattle.fs_model.specs.State.{Names}
use Rattle.fs_model.specs.Effects.{set_name}
use Rattle.fs_model.specs.Calls.{blocked, blocked_from, or_else, no_dir}
use Rattle.fs_model.specs.WellFormed.{IsTree}
use Rattle.fs_model.proofs.Lookups.{set_name_other}

or_else_assoc : (a b c : Option FsError) → or_else (or_else a b) c ≡ or_else a (or_else b c)
or_else_assoc None b c = refl
or_else_assoc (Some error) b c = refl

or_else_none : (a : Option FsError) → or_else a None ≡ a
or_else_none None = refl
or_else_none (Some error) = refl

pub none_first : (a b : Option FsError) → or_else a b ≡ None → a ≡ None
none_first None b e = refl
none_first (Some error) b e = absurd (cc e)

pub none_second : (a b : Option FsError) → or_else a b ≡ None → b ≡ None
none_second None b e = e
none_second (Some error) b e = absurd (cc e)

pub no_dir_none : (node : Option Node) → no_dir node ≡ None → node ≡ Some Dir
no_dir_none None e = absurd (cc e)
no_dir_none (Some Dir) e = refl
no_dir_none (Some (File inode)) e = absurd (cc e)
no_dir_none (Some (Sym target)) e = absurd (cc e)

-- the way of a path with one name more
blocked_from_push : (names : Names) (done rest : Path) (name : List ℕ) → blocked_from names done (rest ++ name ∷ []) ≡ or_else (blocked_from names done rest) (no_dir (get names (done ++ rest)))
blocked_from_push names done [] name = or_else_none (no_dir (get names done)) ∙ ap (λ p. no_dir (get names p)) (sym (append-nil done))
  where
    append-nil : (p : Path) → p ++ [] ≡ p
    append-nil [] = refl
    append-nil (n ∷ p) = ap (λ rest. n ∷ rest) (append-nil p)
blocked_from_push names done (first ∷ rest) name =
    ap (or_else (no_dir (get names done))) (blocked_from_push names (done ++ first ∷ []) rest name)
    ∙ sym (or_else_assoc (no_dir (get names done)) (blocked_from names (done ++ first ∷ []) rest) (no_dir (get names ((done ++ first ∷ []) ++ rest))))
    ∙ ap (λ p. or_else (or_else (no_dir (get names done)) (blocked_from names (done ++ first ∷ []) rest)) (no_dir (get names p))) (append_assoc done (first ∷ []) rest)

pub blocked_push : (names : Names) (dir : Path) (name : List ℕ) → blocked names (dir ++ name ∷ []) ≡ or_else (blocked names dir) (no_dir (get names dir))
blocked_push names dir name = blocked_from_push names [] dir name

-- in a tree, the way into a directory that stands is free
pub free_below : (names : Names) → IsTree names → (dir : Path) (name : List ℕ) → get names dir ≡ Some Dir → blocked names (dir ++ name ∷ []) ≡ None
free_below names tree dir name is = blocked_push names dir name ∙ (λ i. or_else (tree dir (ap is_some is) i) (no_dir (is i)))

-- a name that is no part of the way leaves the way
blocked_from_set : (names : Names) (p : Path) (change : Option Node) (done rest : Path) → ((front back : Path) → rest ≡ front ++ back → 0 ≢ length back → done ++ front ≢ p) → blocked_from (set_name names p change) done rest ≡ blocked_from names done rest
blocked_from_set names p change done [] apart = refl
blocked_from_set names p change done (name ∷ rest) apart =
    (λ i. or_else (no_dir (set_name_other names p change done (λ e. apart [] (name ∷ rest) refl (λ z. absurd (omega arith)) (append-nil done ∙ e)) i)) (blocked_from (set_name names p change) (done ++ name ∷ []) rest))
    ∙ ap (or_else (no_dir (get names done))) (blocked_from_set names p change (done ++ name ∷ []) rest (λ front back e filled same. apart (name ∷ front) back (ap (λ l. name ∷ l) e) filled (sym (append_assoc done (name ∷ []) front) ∙ same)))
  where
    append-nil : (q : Path) → q ++ [] ≡ q
    append-nil [] = refl
    append-nil (n ∷ q) = ap (λ l. n ∷ l) (append-nil q)

pub blocked_set : (names : Names) (p : Path) (node : Option Node) (q : Path) → ((front back : Path) → q ≡ front ++ back → 0 ≢ length back → front ≢ p) → blocked (set_name names p node) q ≡ blocked names q
blocked_set names p node q apart = blocked_from_set names p node [] q apart
