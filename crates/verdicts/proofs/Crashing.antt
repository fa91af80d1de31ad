-- What a crash leaves has a safe verdict.
use Rattle.std.proofs.Common.{◌≡◌, ◌≢◌, ◌<◌, ◌-◌, ◌^◌, ◌∙◌, ◌⊎◌, inl, inr, ℕ, Bool, true, false, cond, min, List, [], ◌∷◌, ◌++◌, length, map, Option, Some, None, refl, sym, ap, subst, arith}
use Rattle.std.specs.Prelude.{is_some, codes}
use Rattle.std.specs.List.{AllByRecursion, filter_map, cons_option}
use Rattle.std.specs.FinMap.{get}
use Rattle.fs_model.specs.declared.node.Node.{Node}
use Rattle.fs_model.specs.declared.node.Node.TheVariants.{Dir, File, Sym}
use Rattle.fs_model.specs.Names.{Path, IsUnder}
use Rattle.fs_model.specs.State.{Names, FsState}
use Rattle.fs_model.specs.Effects.{set_name, all_changed}
use Rattle.fs_model.specs.Calls.{children}
use Rattle.fs_model.specs.Crash.{Image, is_reached, reached}
use Rattle.fs_model.specs.WellFormed.{Each, EachPair}
use Rattle.fs_model.proofs.Lookups.{each_all_changed, set_name_here, set_name_other}
use Rattle.control_file.specs.Version.{dir_name_of}
use Rattle.control_file.specs.declared.releases.Release.TheVariants.{V15, V16}
use Rattle.crash_safety.specs.Crashes.{IsSafe}
use Rattle.crash_safety.specs.Frame.{IsInside}
use Rattle.crash_safety.specs.Places.{locations, tops_at, links_at, control_at, disabled_at, target_at, target_of, IsAtLocation}
use Rattle.crash_safety.specs.Sound.{IsNoOldFile}
use Rattle.crash_safety.specs.Upgrade.{IsReady, names_of}
use Rattle.crash_safety.proofs.Placing.{inside_region, region_inside}
use Rattle.crash_safety.proofs.WithinImages.{picked_all, get-reached}
use Rattle.fs_tools.specs.Walked.{IsAmong}
use Rattle.fs_tools.proofs.Walking.{among_left}
use Rattle.shared_inodes.specs.SharedInodes.{IsShared, IsNumberOf, IsSharedInode}
use Rattle.tree_checks.specs.Shared.{old_regions, new_regions}
use Rattle.verdicts.specs.declared.verdict.Verdict.{Verdict}
use Rattle.verdicts.specs.declared.verdict.Verdict.TheVariants.{Finished, Untouched, Disabled, Linked, Unsafe, NoControl}
use Rattle.verdicts.specs.Crashed.{upgrade_to_16, LinksToKnown, IsKnownLink, MakesKnownLinks}
use Rattle.verdicts.specs.Verdicts.{Stands, IsVerdict, IsSafeVerdict}

front_same : (root a b : Path) → root ++ a ≡ root ++ b → a ≡ b
front_same [] a b same = same
front_same (x ∷ root) a b same = front_same root a b (cc same)

-- a link of a cluster is none of its control files
link_control : (root : Path) (name : List ℕ) → links_at root ++ name ∷ [] ≡ root ++ codes "pg_tblspc" ∷ name ∷ []
link_control [] name = refl
link_control (x ∷ root) name = ap (λ p. x ∷ p) (link_control root name)

not_control : (root : Path) (name last : List ℕ) → links_at root ++ name ∷ [] ≢ root ++ codes "global" ∷ last ∷ []
not_control root name last same = absurd (let e = front_same root (codes "pg_tblspc" ∷ name ∷ []) (codes "global" ∷ last ∷ []) (sym (link_control root name) ∙ same) in cc e)

-- a path is inside the directories of locations exactly if it is in that of one
one_location : (release : List ℕ) (found : List Path) (path : Path) → IsInside (map (λ location. location ++ release ∷ []) found) path → (location : Path) × IsAmong found location × IsUnder (location ++ release ∷ []) path
one_location release [] path none = absurd none
one_location release (first ∷ found) path (inl here) = (first, inl refl, here)
one_location release (first ∷ found) path (inr there) = let (location, among, under) = one_location release found path there in (location, inr among, under)

location_one : (release : List ℕ) (found : List Path) (path location : Path) → IsAmong found location → IsUnder (location ++ release ∷ []) path → IsInside (map (λ location. location ++ release ∷ []) found) path
location_one release [] path location none under = absurd none
location_one release (first ∷ found) path location (inl same) under = inl (subst (λ l. IsUnder (l ++ release ∷ []) path) (sym same) under)
location_one release (first ∷ found) path location (inr among) under = inr (location_one release found path location among under)

among_either : (xs ys : List Path) (x : Path) → IsAmong (xs ++ ys) x → IsAmong xs x ⊎ IsAmong ys x
among_either [] ys x among = inr among
among_either (y ∷ xs) ys x (inl same) = inl (inl same)
among_either (y ∷ xs) ys x (inr among) = elim (among_either xs ys x among) [ inl here ↦ inl (inr here) | inr there ↦ inr there ]

module _ (start : FsState) (old new : Path) (disables : Bool) (ready : IsReady (upgrade_to_16 start old new disables)) (x : FsState) (safe : IsSafe (upgrade_to_16 start old new disables) x) where
  -- the links of the old cluster are those of the start
  links_stay : (name : List ℕ) → get x.names (links_at old ++ name ∷ []) ≡ get start.names (links_at old ++ name ∷ [])
  links_stay name =
      let path = links_at old ++ name ∷ [] in
      safe.old_kept.names path (ready.apart path (inl (codes "pg_tblspc" ∷ name ∷ [], link_control old name))) ∙ of safe.old_kept.moved
    where
      of : (moved : Bool) → get (names_of (upgrade_to_16 start old new disables) moved) (links_at old ++ name ∷ []) ≡ get start.names (links_at old ++ name ∷ [])
      of false = refl
      of true =
          set_name_other (set_name start.names (control_at old) None) (disabled_at old) (get start.names (control_at old)) (links_at old ++ name ∷ []) (not_control old name (codes "pg_control.old"))
          ∙ set_name_other start.names (control_at old) None (links_at old ++ name ∷ []) (not_control old name (codes "pg_control"))

  at_start : (release : List ℕ) (path : Path) → IsAtLocation x.names old release path → IsAtLocation start.names old release path
  at_start release path (name, location, is, under) = (name, location, sym (links_stay name) ∙ is, under)

  -- so are its places
  old_place : (path : Path) → IsInside (old_regions x.names old) path → IsInside (tops_at (locations start.names old) (dir_name_of V15) old) path
  old_place path inside =
      region_inside start.names old (dir_name_of V15) path old
      (elim (inside_region x.names old (dir_name_of V15) path old inside) [ inl under ↦ inl under | inr there ↦ inr (at_start (dir_name_of V15) path there) ])

  new_place : LinksToKnown start.names old x.names new → (path : Path) → IsInside (new_regions x.names old new) path → IsInside (tops_at (locations start.names old) (dir_name_of V16) new) path
  new_place known path (inl under) = inl under
  new_place known path (inr there) =
      let (location, among, under) = one_location (dir_name_of V16) (locations x.names old ++ locations x.names new) path there in
      elim (among_either (locations x.names old) (locations x.names new) location among) [
        | inl here ↦
            region_inside start.names old (dir_name_of V16) path new
            (elim (inside_region x.names old (dir_name_of V16) path new (inr (location_one (dir_name_of V16) (locations x.names old) path location here under))) [ inl top ↦ inl top | inr link ↦ inr (at_start (dir_name_of V16) path link) ])
        | inr here ↦ inr (location_one (dir_name_of V16) (locations start.names old) path location (known location here) under)
      ]

  -- while the old control file stands, no file is shared
  none_shared : LinksToKnown start.names old x.names new → Stands x (control_at old) → (number : ℕ) → IsNumberOf (IsShared x.names old new) number → 0 < number → ⊥
  none_shared known stands number (paths, all, is) more = of paths all.each is
    where
      apart : (path : Path) → IsShared x.names old new path → ⊥
      apart path (inode, there, at_path, (other, inside, at_other)) = safe.apart stands other path inode (old_place other inside) (new_place known path there) at_other at_path

      of : (paths : List Path) → AllByRecursion (IsShared x.names old new) paths → number ≡ min (length paths) (2 ^ 64 - 1) → ⊥
      of [] each is = absurd (omega (arith, is, more))
      of (path ∷ paths) each is = apart path each.0

  -- the control file stands under one of its names
  control_stands : Stands start (control_at old) → is_some (get x.names (control_at old)) ≡ false → is_some (get x.names (disabled_at old)) ≡ false → ⊥
  control_stands stood gone other = of safe.old_kept.moved
      (safe.old_kept.names (control_at old) (ready.apart (control_at old) (inl (codes "global" ∷ codes "pg_control" ∷ [], refl))))
      (safe.old_kept.names (disabled_at old) (ready.apart (disabled_at old) (inl (codes "global" ∷ codes "pg_control.old" ∷ [], refl))))
    where
      of : (moved : Bool) → get x.names (control_at old) ≡ get (names_of (upgrade_to_16 start old new disables) moved) (control_at old)
          → get x.names (disabled_at old) ≡ get (names_of (upgrade_to_16 start old new disables) moved) (disabled_at old) → ⊥
      of false here there = absurd (let is = ap is_some here in cc (is, gone, stood))
      of true here there =
          let back : get x.names (disabled_at old) ≡ get start.names (control_at old) = there ∙ set_name_here (set_name start.names (control_at old) None) (disabled_at old) (get start.names (control_at old)) in
          absurd (let is = ap is_some back in cc (is, other, stood))

  pub safe_verdict : Stands start (control_at old) → LinksToKnown start.names old x.names new → (verdict : Verdict) → IsVerdict x old new verdict → IsSafeVerdict verdict
  safe_verdict stood known Finished is = tt
  safe_verdict stood known Untouched is = tt
  safe_verdict stood known (Unsafe number) is = none_shared known is.0.control number is.0.shared is.1
  safe_verdict stood known Disabled is = tt
  safe_verdict stood known (Linked number) is = tt
  safe_verdict stood known NoControl is = control_stands stood is.control is.disabled

-- a location is that of a link
linked : (names : Names) (dir : Path) (found : List (List ℕ)) (location : Path) → IsAmong (filter_map (target_at names dir) found) location → (name : List ℕ) × (get names (dir ++ name ∷ []) ≡ Some (Sym location))
linked names dir [] location none = absurd none
linked names dir (name ∷ found) location among = of (get names (dir ++ name ∷ [])) refl among (λ later. linked names dir found location later)
  where
    of : (node : Option Node) → get names (dir ++ name ∷ []) ≡ node → IsAmong (cons_option (target_of node) (filter_map (target_at names dir) found)) location
        → (IsAmong (filter_map (target_at names dir) found) location → (name : List ℕ) × (get names (dir ++ name ∷ []) ≡ Some (Sym location))) → (name : List ℕ) × (get names (dir ++ name ∷ []) ≡ Some (Sym location))
    of None is among later = later among
    of (Some Dir) is among later = later among
    of (Some (File inode)) is among later = later among
    of (Some (Sym target)) is (inl same) later = (name, is ∙ ap (λ t. Some (Sym t)) same)
    of (Some (Sym target)) is (inr among) later = later among

was_there : (b : Bool) (found : Option Node) (node : Node) → cond b found None ≡ Some node → found ≡ Some node
was_there true found node e = e
was_there false found node e = absurd (cc e)

-- each crash links to known locations alone
pub known_links : (start : Names) (old new : Path) (s x : FsState) → MakesKnownLinks start old new s → Image s x → LinksToKnown start old x.names new
known_links start old new s x makes image location among =
    let P : Path → Option Node → Type 0 = IsKnownLink (locations start old) (links_at new) in
    let left = all_changed s.names_kept image.picked in
    let each : Each P left = each_all_changed P s.names_kept image.picked makes.kept (picked_all (EachPair P) image.some makes.waiting) in
    let (name, is) = linked x.names (links_at new) (children x.names (links_at new)) location among in
    let path = links_at new ++ name ∷ [] in
    let here : get (reached left) path ≡ Some (Sym location) = ap (λ (m : Names). get m path) (sym image.names) ∙ is in
    each path name location refl (was_there (is_reached left path) (get left path) (Sym location) (sym (get-reached left path) ∙ here))

-- where no file is shared, no place of the new cluster has one of the old cluster
pub unshared_apart : (start : FsState) (old new : Path) (disables : Bool) → IsSharedInode start old new None → Each (IsNoOldFile (upgrade_to_16 start old new disables)) start.names
unshared_apart start old new disables none path inside inode is named = none path (inode, wider inside, is, named)
  where
    wider : IsInside (tops_at (locations start.names old) (dir_name_of V16) new) path → IsInside (new_regions start.names old new) path
    wider (inl under) = inl under
    wider (inr there) =
        let (location, among, under) = one_location (dir_name_of V16) (locations start.names old) path there in
        inr (location_one (dir_name_of V16) (locations start.names old ++ locations start.names new) path location (among_left (locations start.names old) (locations start.names new) location among) under)
