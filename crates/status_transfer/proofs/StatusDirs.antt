-- The directories of transaction status: which are others, and what is outside them.
use Rattle.std.proofs.Common.{◌≡◌, ◌≢◌, ◌++◌, ◌∙◌, ℕ, true, false, inl, inr, List, [], ◌∷◌, refl, sym, ap, append_assoc}
use Rattle.std.proofs.lemmas.List.{append_cancel_left, append_cancel_right}
use Rattle.std.specs.Prelude.{◌==◌, codes, slice_index}
use Rattle.std.specs.List.{AllByRecursion}
use Rattle.fs_model.specs.Names.{Path, IsUnder, parent}
use Rattle.fs_model.specs.Calls.{is_root}
use Rattle.crash_safety.specs.Frame.{IsInside, IsOutside}
use Rattle.crash_safety.specs.Synced.{IsHeld}
use Rattle.crash_safety.specs.Places.{control_at}
use Rattle.crash_safety.proofs.Needing.{below_stands}
use Rattle.status_transfer.specs.Status.{commit_log_dir, offsets_dir, members_dir, multixact_dirs, status_dirs}

abbrev last : Path → List ℕ
last [] = []
last (name ∷ []) = name
last (name ∷ next ∷ rest) = last (next ∷ rest)

last_below : (root : Path) (name : List ℕ) (rest : Path) → last (root ++ name ∷ rest) ≡ last (name ∷ rest)
last_below [] name rest = refl
last_below (a ∷ []) name rest = refl
last_below (a ∷ b ∷ root) name rest = last_below (b ∷ root) name rest

-- names that begin with other letters are others
begin_differ : (letter : ℕ) (m n : List ℕ) → (slice_index m 0 == letter) ≡ true → (slice_index n 0 == letter) ≡ false → m ≢ n
begin_differ letter m n is isnt same = (let moved = ap (λ (name : List ℕ). slice_index name 0 == letter) same in cc (is, isnt, moved))

-- paths that end in other names are others
ends_differ : (p q : Path) (m n : List ℕ) (ms ns : Path) (x y : List ℕ) → last (m ∷ ms) ≡ x → last (n ∷ ns) ≡ y → x ≢ y → p ++ m ∷ ms ≢ q ++ n ∷ ns
ends_differ p q m n ms ns x y ends end differ same = differ (sym ends ∙ sym (last_below p m ms) ∙ ap last same ∙ last_below q n ns ∙ end)

-- each directory of transaction status is none of the others, of whatever cluster
module _ (p q : Path) where
  pub commit_log_apart : AllByRecursion (λ dir. commit_log_dir p ≢ dir) (multixact_dirs q)
  commit_log_apart = (
    ends_differ p q (codes "pg_xact") (codes "pg_multixact") [] (codes "offsets" ∷ []) (codes "pg_xact") (codes "offsets") refl refl (λ same. begin_differ 112 (codes "pg_xact") (codes "offsets") refl refl same),
    (ends_differ p q (codes "pg_xact") (codes "pg_multixact") [] (codes "members" ∷ []) (codes "pg_xact") (codes "members") refl refl (λ same. begin_differ 112 (codes "pg_xact") (codes "members") refl refl same), tt),
  )

  pub offsets_apart : AllByRecursion (λ dir. offsets_dir p ≢ dir) (members_dir q ∷ [])
  offsets_apart = (ends_differ p q (codes "pg_multixact") (codes "pg_multixact") (codes "offsets" ∷ []) (codes "members" ∷ []) (codes "offsets") (codes "members") refl refl (λ same. begin_differ 111 (codes "offsets") (codes "members") refl refl same), tt)

  pub members_apart : AllByRecursion (λ dir. members_dir p ≢ dir) (offsets_dir q ∷ [])
  members_apart = (ends_differ p q (codes "pg_multixact") (codes "pg_multixact") (codes "members" ∷ []) (codes "offsets" ∷ []) (codes "members") (codes "offsets") refl refl (λ same. begin_differ 109 (codes "members") (codes "offsets") refl refl same), tt)

  pub offsets_beside : AllByRecursion (λ dir. offsets_dir p ≢ dir) (commit_log_dir q ∷ [])
  offsets_beside = (ends_differ p q (codes "pg_multixact") (codes "pg_xact") (codes "offsets" ∷ []) [] (codes "offsets") (codes "pg_xact") refl refl (λ same. begin_differ 111 (codes "offsets") (codes "pg_xact") refl refl same), tt)

  pub members_beside : AllByRecursion (λ dir. members_dir p ≢ dir) (commit_log_dir q ∷ [])
  members_beside = (ends_differ p q (codes "pg_multixact") (codes "pg_xact") (codes "members" ∷ []) [] (codes "members") (codes "pg_xact") refl refl (λ same. begin_differ 109 (codes "members") (codes "pg_xact") refl refl same), tt)

-- names below two roots differ
pub roots_differ : (p q names : Path) → p ≢ q → p ++ names ≢ q ++ names
roots_differ p q names differ same = differ (append_cancel_right p q names same)

-- ---- what is inside the directories, and what isn't

under_inside : (tops : List Path) (root path : Path) → IsInside tops root → IsUnder root path → IsInside tops path
under_inside [] root path none under = none
under_inside (top ∷ tops) root path (inl (rest, is)) (more, below) = inl (rest ++ more, below ∙ ap (λ p. p ++ more) is ∙ append_assoc top rest more)
under_inside (top ∷ tops) root path (inr inside) under = inr (under_inside tops root path inside under)

module _ (tops holders : List Path) (root : Path) (inside : IsInside tops root) where
  one_held : (name : List ℕ) (rest path : Path) → IsUnder (root ++ name ∷ rest) path → IsInside tops path × IsHeld tops holders (parent path) × (is_root path ≡ false)
  one_held name rest path (more, is) =
      let below : path ≡ root ++ name ∷ (rest ++ more) = is ∙ append_assoc root (name ∷ rest) more in
      let (under, no_root) = below_stands root path name (rest ++ more) below in
      (under_inside tops root path inside (name ∷ (rest ++ more), below), inl (under_inside tops root (parent path) inside under), no_root)

  pub dirs_held : (path : Path) → IsInside (status_dirs root) path → IsInside tops path × IsHeld tops holders (parent path) × (is_root path ≡ false)
  dirs_held path (inl under) = one_held (codes "pg_xact") [] path under
  dirs_held path (inr (inl under)) = one_held (codes "pg_multixact") (codes "offsets" ∷ []) path under
  dirs_held path (inr (inr (inl under))) = one_held (codes "pg_multixact") (codes "members" ∷ []) path under
  dirs_held path (inr (inr (inr none))) = absurd none

-- what is below the root by one name isn't inside what is below it by another
beside : (root : Path) (m n : List ℕ) (ms ns : Path) → n ≢ m → IsUnder (root ++ m ∷ ms) (root ++ n ∷ ns) → ⊥
beside root m n ms ns differ (more, is) =
    let same : n ∷ ns ≡ m ∷ (ms ++ more) = append_cancel_left root (n ∷ ns) (m ∷ (ms ++ more)) (is ∙ append_assoc root (m ∷ ms) more) in
    differ (cc same)

pub dirs_outside : (root : Path) (name : List ℕ) (rest : Path) → name ≢ codes "pg_xact" → name ≢ codes "pg_multixact" → IsOutside (status_dirs root) (root ++ name ∷ rest)
dirs_outside root name rest other others (inl under) = beside root (codes "pg_xact") name [] rest other under
dirs_outside root name rest other others (inr (inl under)) = beside root (codes "pg_multixact") name (codes "offsets" ∷ []) rest others under
dirs_outside root name rest other others (inr (inr (inl under))) = beside root (codes "pg_multixact") name (codes "members" ∷ []) rest others under
dirs_outside root name rest other others (inr (inr (inr none))) = none

pub control_outside : (root : Path) → IsOutside (status_dirs root) (control_at root)
control_outside root = dirs_outside root (codes "global") (codes "pg_control" ∷ []) (λ same. cc same) (λ same. cc same)
