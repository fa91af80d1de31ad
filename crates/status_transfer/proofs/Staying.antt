-- What was carried stays while other directories change, and was carried since earlier states.
use Rattle.std.proofs.Common.{◌≡◌, ◌≢◌, ◌∙◌, ℕ, true, inl, inr, List, [], ◌∷◌, Option, Some, None, refl, sym, ap, subst}
use Rattle.std.specs.Prelude.{is_some}
use Rattle.std.specs.Option.{option_map, unwrap_or}
use Rattle.std.specs.List.{AllByRecursion}
use Rattle.std.specs.FinMap.{get}
use Rattle.fs_model.specs.declared.node.Node.{Node}
use Rattle.fs_model.specs.declared.node.Node.TheVariants.{Dir, File, Sym}
use Rattle.fs_model.specs.Names.{Path}
use Rattle.fs_model.specs.State.{FsState}
use Rattle.fs_model.specs.Effects.{bytes_of}
use Rattle.fs_model.specs.Reading.{file_bytes, inode_of_node}
use Rattle.fs_model.specs.WellFormed.{WellFormed}
use Rattle.fs_tools.specs.Children.{child_of}
use Rattle.status_transfer.specs.Carried.{IsInOne, ChangesOnlyIn, CarriesNode, CarriesDir, IsFileOrNone, HoldsFiles}
use Rattle.status_transfer.specs.Counted.{KeepsAllBut}
use Rattle.status_transfer.specs.Status.{commit_log_dir, offsets_dir, members_dir, status_dirs, CarriesStatus}
use Rattle.status_transfer.proofs.Carrying.{outside, file_known}

-- the state has each inode of a, with its bytes
abbrev pub KeepsInodes : FsState → FsState → Type 0
KeepsInodes a s = (inode : ℕ) → is_some (get a.bytes inode) ≡ true → get s.bytes inode ≡ get a.bytes inode

-- an inode that s has not, a had not
none_kept : (a s : FsState) → KeepsInodes a s → (inode : ℕ) → get s.bytes inode ≡ None → get a.bytes inode ≡ None
none_kept a s kept inode none =
    elim (get a.bytes inode) as (λ o. get a.bytes inode ≡ o → o ≡ None) [
      | None ↦ λ _. refl
      | Some bytes ↦ λ e. (let same = kept inode (ap is_some e) in absurd (cc (same, none, e)))
    ] refl

module _ (from to : Path) where
  pub dir_since : (a s t : FsState) → WellFormed a → ((name : List ℕ) → get s.names (child_of from name) ≡ get a.names (child_of from name)) → KeepsInodes a s → CarriesDir s from to t → CarriesDir a from to t
  dir_since a s t well same kept carried name =
      by_node (get a.names (child_of from name)) refl (subst (λ node. CarriesNode s t node (get t.names (child_of to name))) (same name) (carried name))
    where
      by_node : (node : Option Node) → get a.names (child_of from name) ≡ node → CarriesNode s t node (get t.names (child_of to name)) → CarriesNode a t node (get t.names (child_of to name))
      by_node None e was = was
      by_node (Some Dir) e was = absurd was
      by_node (Some (File inode)) e (made, is, unused, has) =
          (made, is, none_kept a s kept made unused, has ∙ ap (λ found. Some (unwrap_or found [])) (kept inode (file_known a well (child_of from name) inode e)))
      by_node (Some (Sym target)) e was = absurd was

  pub dir_stays : (s m t : FsState) → ((name : List ℕ) → get t.names (child_of to name) ≡ get m.names (child_of to name)) → ((inode : ℕ) → get s.bytes inode ≡ None → is_some (get m.bytes inode) ≡ true → get t.bytes inode ≡ get m.bytes inode) → CarriesDir s from to m → CarriesDir s from to t
  dir_stays s m t same kept carried name =
      subst (CarriesNode s t (get s.names (child_of from name))) (sym (same name)) (later (get s.names (child_of from name)) (get m.names (child_of to name)) (carried name))
    where
      later : (node found : Option Node) → CarriesNode s m node found → CarriesNode s t node found
      later None found was = was
      later (Some Dir) found was = absurd was
      later (Some (File inode)) found (made, is, unused, has) = (made, is, unused, kept made unused (ap is_some has) ∙ has)
      later (Some (Sym target)) found was = absurd was

  -- the files have equal bytes
  pub dir_equal : (s t : FsState) → CarriesDir s from to t → (name : List ℕ) → file_bytes t (child_of to name) ≡ file_bytes s (child_of from name)
  dir_equal s t carried name = by_node (get s.names (child_of from name)) (get t.names (child_of to name)) (carried name)
    where
      by_node : (node found : Option Node) → CarriesNode s t node found → option_map (bytes_of t.bytes) (inode_of_node found) ≡ option_map (bytes_of s.bytes) (inode_of_node node)
      by_node None found is = ap (λ node. option_map (bytes_of t.bytes) (inode_of_node node)) is
      by_node (Some Dir) found was = absurd was
      by_node (Some (File inode)) found (made, is, unused, has) = ap (λ node. option_map (bytes_of t.bytes) (inode_of_node node)) is ∙ ap (λ bytes. Some (unwrap_or bytes [])) has
      by_node (Some (Sym target)) found was = absurd was

-- a name of a directory is none of others
pub none_in : (from : Path) (dirs : List Path) → AllByRecursion (λ dir. from ≢ dir) dirs → (name : List ℕ) → IsInOne dirs (child_of from name) → ⊥
none_in from [] apart name within = within
none_in from (dir ∷ dirs) apart name (inl within) = outside from dir apart.0 name (inl within)
none_in from (dir ∷ dirs) apart name (inr within) = none_in from dirs apart.1 name within

-- over a run that changes other directories
module _ (dirs : List Path) (m t : FsState) (keeps : ChangesOnlyIn dirs m t) where
  pub stays_over : (from to : Path) → AllByRecursion (λ dir. to ≢ dir) dirs → (s : FsState) → CarriesDir s from to m → CarriesDir s from to t
  stays_over from to apart s carried = dir_stays from to s m t (λ name. keeps.names (child_of to name) (none_in to dirs apart name)) (λ inode unused some. keeps.bytes inode some) carried

  pub since_over : (from to : Path) → AllByRecursion (λ dir. from ≢ dir) dirs → WellFormed m → (end : FsState) → CarriesDir t from to end → CarriesDir m from to end
  since_over from to apart well end carried = dir_since from to m t end well (λ name. keeps.names (child_of from name) (none_in from dirs apart name)) keeps.bytes carried

  -- a directory is no file of one that holds files alone
  stands_over : (dirs : List Path) → AllByRecursion (HoldsFiles m.names) dirs → (dir : Path) → get m.names dir ≡ Some Dir → IsInOne dirs dir → ⊥
  stands_over [] hold dir stands within = within
  stands_over (other ∷ others) hold dir stands (inl (name, is)) = subst IsFileOrNone (ap (get m.names) (sym is) ∙ stands) (hold.0.files name)
  stands_over (other ∷ others) hold dir stands (inr within) = stands_over others hold.1 dir stands within

  pub holds_over : (dir : Path) → AllByRecursion (λ other. dir ≢ other) dirs → AllByRecursion (HoldsFiles m.names) dirs → HoldsFiles m.names dir → HoldsFiles t.names dir
  holds_over dir apart hold holds = record {
    stands = keeps.names dir (stands_over dirs hold dir holds.stands) ∙ holds.stands;
    files = λ name. subst IsFileOrNone (sym (keeps.names (child_of dir name) (none_in dir dirs apart name))) (holds.files name);
  }

-- a file that isn't in the directories stays, with its bytes
pub file_stays : (dirs : List Path) (a s : FsState) → WellFormed a → ChangesOnlyIn dirs a s → (path : Path) → (IsInOne dirs path → ⊥) → file_bytes s path ≡ file_bytes a path
file_stays dirs a s well keeps path outside = ap (λ node. option_map (bytes_of s.bytes) (inode_of_node node)) (keeps.names path outside) ∙ by_node (get a.names path) refl
  where
    by_node : (node : Option Node) → get a.names path ≡ node → option_map (bytes_of s.bytes) (inode_of_node node) ≡ option_map (bytes_of a.bytes) (inode_of_node node)
    by_node None e = refl
    by_node (Some Dir) e = refl
    by_node (Some (File inode)) e = ap (λ bytes. Some (unwrap_or bytes [])) (keeps.bytes inode (file_known a well path inode e))
    by_node (Some (Sym target)) e = refl

-- the three directories, over states before and after
module _ (old new : Path) where
  pub status_since : (a s t : FsState) → WellFormed a → ((path : Path) → IsInOne (status_dirs old) path → get s.names path ≡ get a.names path) → KeepsInodes a s → CarriesStatus s old new t → CarriesStatus a old new t
  status_since a s t well same kept carried = record {
    commit_log = dir_since (commit_log_dir old) (commit_log_dir new) a s t well (λ name. same (child_of (commit_log_dir old) name) (inl (name, refl))) kept carried.commit_log;
    multixacts = record {
      offsets = dir_since (offsets_dir old) (offsets_dir new) a s t well (λ name. same (child_of (offsets_dir old) name) (inr (inl (name, refl)))) kept carried.multixacts.offsets;
      members = dir_since (members_dir old) (members_dir new) a s t well (λ name. same (child_of (members_dir old) name) (inr (inr (inl (name, refl))))) kept carried.multixacts.members;
    };
  }

  pub status_stays : (s m t : FsState) → ((path : Path) → IsInOne (status_dirs new) path → get t.names path ≡ get m.names path) → ((inode : ℕ) → get s.bytes inode ≡ None → is_some (get m.bytes inode) ≡ true → get t.bytes inode ≡ get m.bytes inode) → CarriesStatus s old new m → CarriesStatus s old new t
  status_stays s m t same kept carried = record {
    commit_log = dir_stays (commit_log_dir old) (commit_log_dir new) s m t (λ name. same (child_of (commit_log_dir new) name) (inl (name, refl))) kept carried.commit_log;
    multixacts = record {
      offsets = dir_stays (offsets_dir old) (offsets_dir new) s m t (λ name. same (child_of (offsets_dir new) name) (inr (inl (name, refl)))) kept carried.multixacts.offsets;
      members = dir_stays (members_dir old) (members_dir new) s m t (λ name. same (child_of (members_dir new) name) (inr (inr (inl (name, refl))))) kept carried.multixacts.members;
    };
  }

  -- the file that the counters are written into stood before, so it is none of those that were made
  pub stays_under_counters : (at : Path) (s m t : FsState) → WellFormed s → ChangesOnlyIn (status_dirs new) s m → (IsInOne (status_dirs new) at → ⊥) → KeepsAllBut at m t → CarriesStatus s old new m → CarriesStatus s old new t
  stays_under_counters at s m t well keeps outside counted carried = status_stays s m t (λ path within. ap (λ names. get names path) counted.names) (λ inode unused some. counted.bytes inode (other inode unused)) carried
    where
      other : (inode : ℕ) → get s.bytes inode ≡ None → get m.names at ≢ Some (File inode)
      other inode unused named =
          let known = file_known s well at inode (sym (keeps.names at outside) ∙ named) in
          let none = ap is_some unused in
          cc (known, none)
