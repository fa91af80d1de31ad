-- The nearest directory on the way to a path.
use Rattle.std.proofs.Common.{◌≡◌, ◌≢◌, ◌∙◌, ℕ, ◌+◌, ◌-◌, ◌<◌, Bool, true, false, [], ◌∷◌, ◌++◌, length, drop, Option, Some, None, refl, sym, ap, subst, arith, append_assoc, append-nil, length-append, length-take, eqb}
use Rattle.std.specs.Option.{option_eq}
use Rattle.std.proofs.lemmas.Bool.{eqb-true, eq-eqb}
use Rattle.std.specs.Prelude.{if◌then◌else◌}
use Rattle.std.specs.FinMap.{get}
use Rattle.std.proofs.lemmas.List.{take-append-drop}
use Rattle.fs_model.specs.declared.node.Node.{Node}
use Rattle.fs_model.specs.declared.node.Node.TheVariants.{Dir, File, Sym}
use Rattle.fs_model.specs.Names.{Path, IsUnder, parent}
use Rattle.fs_model.specs.State.{Names, FsState}
use Rattle.fs_model.specs.Calls.{device_of}
use Rattle.crash_safety.proofs.Needing.{below_stands}
use Rattle.tree_checks.specs.Looks.{kind_of, kind_at, is_dir}
use Rattle.file_checks.specs.Devices.{device_at, IsNearestDevice, IsDifferingDir}

is_directory : (node : Option Node) → is_dir (kind_of node) ≡ true → node ≡ Some Dir
is_directory None is = absurd (cc is)
is_directory (Some Dir) is = refl
is_directory (Some (File inode)) is = absurd (cc is)
is_directory (Some (Sym target)) is = absurd (cc is)

pub device_there : (s : FsState) (at : Path) (device : ℕ) → Some device ≡ device_at s at → (get s.names at ≡ Some Dir) × (device ≡ device_of s at)
device_there s at device = by (is_dir (kind_at s.names at)) refl
  where
    by : (b : Bool) → is_dir (kind_at s.names at) ≡ b → Some device ≡ (if b then Some (device_of s at) else None) → (get s.names at ≡ Some Dir) × (device ≡ device_of s at)
    by true is e = (is_directory (get s.names at) is, cc e)
    by false is e = absurd (cc e)

pub device_of_dir : (s : FsState) (at : Path) → get s.names at ≡ Some Dir → device_at s at ≡ Some (device_of s at)
device_of_dir s at is = ap (λ node. if is_dir (kind_of node) then Some (device_of s at) else None) is

pub no_device : (s : FsState) (at : Path) → None ≡ device_at s at → get s.names at ≢ Some Dir
no_device s at none is = absurd (let e = none ∙ device_of_dir s at is in cc e)

-- how far the way to a path was followed back
abbrev pub IsNextOn : Names → Path → Path → Type 0
IsNextOn names path at = IsUnder at path × ((other : Path) → IsUnder other path → get names other ≡ Some Dir → IsUnder other at)

pub first_on_way : (names : Names) (path at : Path) → at ≡ path → IsNextOn names path at
first_on_way names path at is = (([], sym is ∙ sym (append-nil at)), λ other under there. subst (IsUnder other) (sym is) under)

pub next_on_way : (names : Names) (path at above : Path) → above ≡ parent at → get names at ≢ Some Dir → IsNextOn names path at → IsNextOn names path above
next_on_way names path at above is none (on_way, all) =
    subst (IsNextOn names path) (sym is) ((drop (length at - 1) at ++ on_way.0, on_way.1 ∙ ap (λ (l : Path). l ++ on_way.0) (sym (take-append-drop (length at - 1) at)) ∙ append_assoc (parent at) (drop (length at - 1) at) on_way.0), λ other under there. above_it other there (all other under there))
  where
    above_it : (other : Path) → get names other ≡ Some Dir → IsUnder other at → IsUnder other (parent at)
    above_it other there ([], whole) = absurd (none (ap (get names) (whole ∙ append-nil other) ∙ there))
    above_it other there (name ∷ rest, whole) = (below_stands other at name rest whole).0

pub nearest_here : (s : FsState) (path at : Path) (device : ℕ) → Some device ≡ device_at s at → IsNextOn s.names path at → IsNearestDevice s path (Some device)
nearest_here s path at device is (on_way, all) =
    let (there, same) = device_there s at device is in
    (at, record { on_way = on_way; stands = there; nearest = all }, ap (λ d. Some d) same)

-- the root is a directory
pub nearest_root : (s : FsState) (path at : Path) (device : Option ℕ) → get s.names [] ≡ Some Dir → length at ≡ 0 → device ≡ device_at s at → IsNextOn s.names path at → IsNearestDevice s path device
nearest_root s path [] device root none is (on_way, all) = ([], record { on_way = on_way; stands = root; nearest = all }, is ∙ device_of_dir s [] root)
nearest_root s path (name ∷ at) device root none is on = absurd (omega (arith, none))

under_both : (a b : Path) → IsUnder a b → IsUnder b a → a ≡ b
under_both a b ([], is) (y, back) = sym (is ∙ append-nil a)
under_both a b (name ∷ x, is) (y, back) =
    absurd (let one : length b ≡ length a + length (name ∷ x) = ap length is ∙ length-append a (name ∷ x) in let two : length a ≡ length b + length y = ap length back ∙ length-append b y in omega (arith, one, two))

pub same_device : (s : FsState) (old new : Path) (device : Option ℕ) → device ≡ device_at s old → IsNearestDevice s new device → IsDifferingDir s old new None
same_device s old new device from (dir, near, to) (other, nearest, differs) =
    let same : dir ≡ other = under_both dir other (nearest.nearest dir near.on_way near.stands) (near.nearest other nearest.on_way nearest.stands) in
    differs (sym from ∙ to ∙ ap (λ d. Some (device_of s d)) same)

pub other_device : (s : FsState) (old new : Path) (from to : Option ℕ) → from ≡ device_at s old → IsNearestDevice s new to → from ≢ to → IsDifferingDir s old new (Some old)
other_device s old new from to is (dir, near, device) differs = (refl, (dir, near, λ same. differs (is ∙ same ∙ sym device)))

pub parent_length : (at : Path) (passed count : ℕ) → length at + passed ≡ count → passed < count → length (parent at) + (passed + 1) ≡ count
parent_length at passed count is more = omega (arith, length-take (length at - 1) at, is, more)

pub same_option : (a b : Option ℕ) → true ≡ option_eq eqb a b → a ≡ b
same_option None None e = refl
same_option None (Some y) e = absurd (cc e)
same_option (Some x) None e = absurd (cc e)
same_option (Some x) (Some y) e = ap (λ n. Some n) (eqb-true x y (sym e))

pub other_option : (a b : Option ℕ) → false ≡ option_eq eqb a b → a ≢ b
other_option None None e is = absurd (cc e)
other_option None (Some y) e is = absurd (cc is)
other_option (Some x) None e is = absurd (cc is)
other_option (Some x) (Some y) e is = absurd (let same : x ≡ y = cc is in let two = e ∙ eq-eqb x y same in cc two)
