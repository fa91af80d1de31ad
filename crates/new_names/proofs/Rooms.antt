-- Where there is room for names that are made in turn, none is refused.
use Rattle.std.proofs.Common.{◌≡◌, ◌≢◌, ◌∙◌, ◌<◌, ◌+◌, ◌⊎◌, inl, inr, ℕ, List, [], ◌∷◌, ◌++◌, drop, length, slice_index_or, Option, Some, None, Result, Err, sym, ap, subst}
use Rattle.std.specs.Prelude.{is_some, IsErrAnd}
use Rattle.std.specs.FinMap.{get}
use Rattle.std.proofs.lemmas.List.{drop_more}
use Rattle.std.proofs.lemmas.Result.{err_from_is_err_and}
use Rattle.fs_model.specs.declared.error.FsError.{FsError}
use Rattle.fs_model.specs.Trail.{DecidedBy}
use Rattle.fs_model.specs.declared.node.Node.TheVariants as node
use Rattle.fs_model.specs.Names.{Path, parent}
use Rattle.fs_model.specs.State.{FsState}
use Rattle.fs_model.specs.Calls.{Creates, Unlinks, refusal, blocked, or_else, taken, no_leaf}
use Rattle.fs_model.specs.WellFormed.{WellFormed}
use Rattle.fs_model.proofs.Lookups.{set_name_other}
use Rattle.fs_model.proofs.Ways.{free_below}
use Rattle.new_names.specs.declared.names.NewName.{NewName}
use Rattle.new_names.specs.declared.names.NewNode.{NewNode}
use Rattle.new_names.specs.declared.names.NewNode.TheVariants.{Dir, File, Sym}
use Rattle.new_names.specs.Room.{IsApart, HasDirectory, HasRoomAfter, HasRoomFor}
use Rattle.new_names.specs.Standing.{Has, Makes, Adds}
use Rattle.new_names.proofs.Making.{last_name}

-- a free name in a directory that stands may be made
pub free_to_make : (s : FsState) → WellFormed s → (path : Path) → get s.names path ≡ None → get s.names (parent path) ≡ Some node.Dir → refusal s (Creates path) ≡ None
free_to_make s formed path absent above = (λ i. or_else (way (last_name path) i) (taken (absent i)))
  where
    way : (path ≡ []) ⊎ ((name : List ℕ) × (path ≡ parent path ++ name ∷ [])) → blocked s.names path ≡ None
    way (inl root) = ap (blocked s.names) root
    way (inr (name, is)) = ap (blocked s.names) is ∙ free_below s.names formed.tree (parent path) name above

-- a file that stands may be removed
pub free_to_remove : (s : FsState) → WellFormed s → (path : Path) (inode : ℕ) → get s.names path ≡ Some (node.File inode) → refusal s (Unlinks path) ≡ None
free_to_remove s formed path inode stands = (λ i. or_else (formed.tree path (ap is_some stands) i) (no_leaf (stands i)))

-- one name is made
module _ (s t : FsState) (n : NewName) (adds : Adds s t) (has : Has t n.path n.node) (others : (path : Path) → path ≢ n.path → get t.names path ≡ get s.names path) where
  apart_next : (earlier : List NewName) (path : Path) → IsApart (earlier ++ n ∷ []) path → IsApart earlier path × (path ≢ n.path)
  apart_next [] path apart = (tt, apart.0)
  apart_next (m ∷ earlier) path apart = let (rest, last) = apart_next earlier path apart.1 in ((apart.0, rest), last)

  directory_next : (earlier : List NewName) (path : Path) → HasDirectory s (earlier ++ n ∷ []) path → HasDirectory t earlier path
  directory_next [] path (inl is) = subst (λ (m : NewName). Has t m.path m.node) is has
  directory_next [] path (inr stood) = adds.names path node.Dir stood
  directory_next (m ∷ earlier) path (inl is) = inl is
  directory_next (m ∷ earlier) path (inr rest) = inr (directory_next earlier path rest)

  room_next : (earlier names : List NewName) → HasRoomAfter s (earlier ++ n ∷ []) names → HasRoomAfter t earlier names
  room_next earlier [] room = tt
  room_next earlier (m ∷ names) (free, apart, above, rest) =
      let (apart_there, other) = apart_next earlier m.path apart in (
        others m.path other ∙ free,
        apart_there,
        directory_next earlier (parent m.path) above,
        room_next (m ∷ earlier) names rest,
      )

  pub room_for_rest : (names : List NewName) → HasRoomFor s (n ∷ names) → HasRoomFor t names
  room_for_rest names (free, apart, above, rest) = room_next [] names rest

-- what is made leaves all other names
pub makes_others : (s : FsState) (path : Path) (what : NewNode) (t : FsState) → Makes s path what t → (other : Path) → other ≢ path → get t.names other ≡ get s.names other
makes_others s path Dir t is other apart = ap (λ x. get x.names other) is ∙ set_name_other s.names path (Some node.Dir) other apart
makes_others s path (File bytes) t (inode, none, is) other apart = ap (λ x. get x.names other) is ∙ set_name_other s.names path (Some (node.File inode)) other apart
makes_others s path (Sym target) t is other apart = ap (λ x. get x.names other) is ∙ set_name_other s.names path (Some (node.Sym target)) other apart

-- the names that are left begin with the one at the index
pub left_at : (names : List NewName) (index : ℕ) (item : NewName) → index < length names → item ≡ slice_index_or names index item → drop index names ≡ item ∷ drop (index + 1) names
left_at names index item below is = drop_more names index item below ∙ ap (λ x. x ∷ drop (index + 1) names) (sym is)

-- an error that is handed on
pub decided_on : {T : Type 0} (refused : Option FsError) (result : Result T FsError) (error : FsError) → IsErrAnd result (λ e. e ≡ error) → DecidedBy {T = T} refused (Err error) → DecidedBy refused result
decided_on refused result error is decided =
    let p = err_from_is_err_and result is in
    subst (DecidedBy refused) (sym (p.1 ∙ ap Err p.2)) decided
