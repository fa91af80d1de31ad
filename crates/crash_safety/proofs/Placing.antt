-- The places of an upgrade, path by path, and when two clusters' places are apart.
use Rattle.std.proofs.Common.{false, ◌≡◌, ◌∙◌, ◌++◌, ◌∷◌, [], ◌-◌, ◌⊎◌, inl, inr, ℕ, true, List, length, Option, Some, None, refl, sym, ap, subst, arith, length-append}
use Rattle.std.specs.Prelude.{map, slice_get, is_some, ◌||◌, if◌then◌else◌}
use Rattle.std.specs.List.{AllByRecursion, filter_map, cons_option, list_any}
use Rattle.std.specs.FinMap.{get, keys, contains_key-keys}
use Rattle.fs_model.specs.declared.node.Node.{Node}
use Rattle.fs_model.specs.declared.node.Node.TheVariants.{Dir, File, Sym}
use Rattle.fs_model.specs.Names.{Path, IsUnder, same_path, parent}
use Rattle.fs_model.specs.PathLaws.{same_path_refl}
use Rattle.fs_model.specs.State.{Names}
use Rattle.fs_model.specs.Calls.{child_name, children, is_root}
use Rattle.fs_model.proofs.Lookups.{same_path_or}
use Rattle.crash_safety.specs.Frame.{IsInside, IsOutside}
use Rattle.crash_safety.specs.Synced.{IsHeld}
use Rattle.crash_safety.specs.Places.{links_at, target_of, target_at, locations, tops_at, IsAtLocation, StandApart}
use Rattle.crash_safety.proofs.Needing.{parent_of, below_stands, no_root}

symlink_there : (node : Option Node) (target : Path) → target_of node ≡ Some target → node ≡ Some (Sym target)
symlink_there None target is = absurd (cc is)
symlink_there (Some Dir) target is = absurd (cc is)
symlink_there (Some (File inode)) target is = absurd (cc is)
symlink_there (Some (Sym other)) target is = (let same : other ≡ target = cc is in λ i. Some (Sym (same i)))

last_name : (dir : Path) (name : List ℕ) → slice_get (dir ++ name ∷ []) (length dir) ≡ Some name
last_name [] name = refl
last_name (first ∷ dir) name = last_name dir name

child_of : (dir : Path) (name : List ℕ) → child_name dir (dir ++ name ∷ []) ≡ Some name
child_of dir name =
    ap (λ p. if same_path p dir then slice_get (dir ++ name ∷ []) (length (dir ++ name ∷ []) - 1) else None) (parent_of dir name)
    ∙ ap (λ b. if b then slice_get (dir ++ name ∷ []) (length (dir ++ name ∷ []) - 1) else None) (same_path_refl dir)
    ∙ ap (slice_get (dir ++ name ∷ [])) (omega (arith, length-append dir (name ∷ []))) ∙ last_name dir name

module _ (names : Names) (root : Path) (release : List ℕ) (path : Path) where
  abbrev region : Path → Path
  region location = location ++ release ∷ []

  -- the regions of some names' links
  abbrev regions : List (List ℕ) → List Path
  regions found = map region (filter_map (target_at names (links_at root)) found)

  grown : (found : List (List ℕ)) (name : Option (List ℕ)) → IsInside (regions found) path → IsInside (regions (cons_option name found)) path
  grown found None inside = inside
  grown found (Some name) inside = more (target_at names (links_at root) name)
    where
      more : (target : Option Path) → IsInside (map region (cons_option target (filter_map (target_at names (links_at root)) found))) path
      more None = inside
      more (Some location) = inr inside

  here : (found : List (List ℕ)) (name : List ℕ) (location : Path) → target_at names (links_at root) name ≡ Some location → IsUnder (region location) path → IsInside (regions (cons_option (Some name) found)) path
  here found name location is under = subst (λ target. IsInside (map region (cons_option target (filter_map (target_at names (links_at root)) found))) path) (sym is) (inl under)

  listed : (keys : List Path) (name : List ℕ) (location : Path) → target_at names (links_at root) name ≡ Some location → IsUnder (region location) path → list_any (same_path (links_at root ++ name ∷ [])) keys ≡ true → IsInside (regions (filter_map (child_name (links_at root)) keys)) path
  listed [] name location is under found = absurd (cc found)
  listed (key ∷ keys) name location is under found =
      same_path_or (links_at root ++ name ∷ []) key (λ b. (b || list_any (same_path (links_at root ++ name ∷ [])) keys) ≡ true → IsInside (regions (cons_option (child_name (links_at root) key) (filter_map (child_name (links_at root)) keys))) path)
      (λ same _. subst (λ child. IsInside (regions (cons_option child (filter_map (child_name (links_at root)) keys))) path) (sym (child_of (links_at root) name) ∙ ap (child_name (links_at root)) same) (here (filter_map (child_name (links_at root)) keys) name location is under))
      (λ later. grown (filter_map (child_name (links_at root)) keys) (child_name (links_at root) key) (listed keys name location is under later)) found

  at_link : (found : List (List ℕ)) → IsInside (regions found) path → IsAtLocation names root release path
  at_link [] inside = absurd inside
  at_link (name ∷ found) inside =
      elim (target_at names (links_at root) name) as (λ target. target_at names (links_at root) name ≡ target → IsInside (map region (cons_option target (filter_map (target_at names (links_at root)) found))) path → IsAtLocation names root release path) [
        | None ↦ λ _ later. at_link found later
        | Some location ↦ λ is there. elim there [ inl under ↦ (name, location, symlink_there (get names (links_at root ++ name ∷ [])) location is, under) | inr later ↦ at_link found later ]
      ] refl inside

  pub inside_region : (top : Path) → IsInside (tops_at (locations names root) release top) path → IsUnder top path ⊎ IsAtLocation names root release path
  inside_region top (inl under) = inl under
  inside_region top (inr inside) = inr (at_link (children names (links_at root)) inside)

  pub region_inside : (top : Path) → IsUnder top path ⊎ IsAtLocation names root release path → IsInside (tops_at (locations names root) release top) path
  region_inside top (inl under) = inl under
  region_inside top (inr (name, location, is, under)) =
      inr (listed (keys names) name location (ap target_of is) under (sym (contains_key-keys names (links_at root ++ name ∷ [])) ∙ ap is_some is))

-- of two paths with a name in common below them, one is under the other
under_either : (a b r t : Path) → a ++ r ≡ b ++ t → IsUnder a b ⊎ IsUnder b a
under_either [] b r t same = inl (b, refl)
under_either (x ∷ a) [] r t same = inr (x ∷ a, refl)
under_either (x ∷ a) (y ∷ b) r t same =
    let head : x ≡ y = cc same in
    elim (under_either a b r t (cc same)) as (λ _. IsUnder (x ∷ a) (y ∷ b) ⊎ IsUnder (y ∷ b) (x ∷ a)) [
      | inl (rest, is) ↦ inl (rest, (λ i. sym head i ∷ is i))
      | inr (rest, is) ↦ inr (rest, (λ i. head i ∷ is i))
    ]

-- what is inside one of two lists of directories that stand apart is outside the other
pub apart_outside : (tops others : List Path) → StandApart tops others → (path : Path) → IsInside tops path → IsOutside others path
apart_outside [] others apart path inside = absurd inside
apart_outside (top ∷ tops) others apart path (inl (rest, is)) = one others apart.0
  where
    one : (others : List Path) → AllByRecursion (λ other. (IsUnder top other → ⊥) × (IsUnder other top → ⊥)) others → IsOutside others path
    one [] all inside = inside
    one (other ∷ others) all (inl (more, same)) = elim (under_either top other rest more (sym is ∙ same)) [ inl under ↦ all.0.0 under | inr under ↦ all.0.1 under ]
    one (other ∷ others) all (inr inside) = one others all.1 inside
apart_outside (top ∷ tops) others apart path (inr inside) = apart_outside tops others apart.1 path inside

-- the directory of each place at a location is one too, or the location
pub region_held : (locations : List Path) (release : List ℕ) (path : Path) → IsInside (map (λ location. location ++ release ∷ []) locations) path
    → IsHeld (map (λ location. location ++ release ∷ []) locations) locations (parent path) × (is_root path ≡ false)
region_held [] release path inside = absurd inside
region_held (location ∷ locations) release path (inl ([], is)) =
    let here : path ≡ location ++ release ∷ [] = is ∙ append-nil (location ++ release ∷ []) in
    (inr (inl (ap parent here ∙ parent_of location release)), ap is_root here ∙ no_root location release)
  where
    append-nil : (path : Path) → path ++ [] ≡ path
    append-nil [] = refl
    append-nil (name ∷ path) = ap (λ rest. name ∷ rest) (append-nil path)
region_held (location ∷ locations) release path (inl (name ∷ rest, is)) =
    let (under, below) = below_stands (location ++ release ∷ []) path name rest is in
    (inl (inl under), below)
region_held (location ∷ locations) release path (inr inside) =
    let (held, below) = region_held locations release path inside in
    (elim held [ inl in_it ↦ inl (inr in_it) | inr one ↦ inr (inr one) ], below)

pub place_held : (locations : List Path) (release : List ℕ) (top path : Path) → IsInside (map (λ location. location ++ release ∷ []) locations) path → IsHeld (tops_at locations release top) locations (parent path) × (is_root path ≡ false)
place_held locations release top path inside =
    let (held, below) = region_held locations release path inside in
    (elim held [ inl in_it ↦ inl (inr in_it) | inr one ↦ inr one ], below)
