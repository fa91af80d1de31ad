-- The inodes of the files of a walk are those that have a name there.
use Rattle.std.proofs.Common.{◌≡◌, ◌↔◌, ◌∙◌, ◌⊎◌, inl, inr, ℕ, true, false, cond, List, [], ◌∷◌, Option, Some, None, refl, sym, ap, subst}
use Rattle.std.specs.Prelude.{is_some}
use Rattle.std.specs.Option.{unwrap_or}
use Rattle.std.specs.Ordering.{nat_cmp}
use Rattle.std.specs.Cmp.{nat_cmp_total}
use Rattle.std.specs.FinMap.{get, empty, insert, get-empty, get-insert, contains_key}
use Rattle.fs_model.specs.declared.node.Node.{Node}
use Rattle.fs_model.specs.declared.node.Node.TheVariants.{Dir, File, Sym}
use Rattle.fs_model.specs.declared.node.Kind.{Kind}
use Rattle.fs_model.specs.declared.node.Kind.TheVariants.{Dir as DirKind, File as FileKind, Sym as SymKind}
use Rattle.fs_model.specs.declared.node.Stat.{Stat}
use Rattle.fs_model.specs.Names.{Path}
use Rattle.fs_model.specs.State.{FsState}
use Rattle.fs_model.specs.Reading.{stat_of, stat_of_node}
use Rattle.fs_model.proofs.Lookups.{insert_here, same_number_or}
use Rattle.fs_tools.specs.Walked.{IsAmong, TakesAll}
use Rattle.fs_tools.proofs.Naming.{among_all}
use Rattle.shared_inodes.specs.Counted.{Inodes, with_kind, with_inode}
use Rattle.shared_inodes.specs.Regions.{IsNameIn, IsWalkIn}
use Rattle.shared_inodes.specs.SharedInodes.{IsNamedIn}
use Rattle.shared_inodes.specs.declared.inodes.Seen.{Seen}

-- what `stat` says of a file, and that it says so of none but a file
pub file_stat : (s : FsState) (path : Path) (stat : Stat) → stat_of s path ≡ Some stat → stat.kind ≡ FileKind → get s.names path ≡ Some (File stat.identity.inode)
file_stat s path stat found is = of (get s.names path) refl found
  where
    kinds : (other : Stat) → Some other ≡ Some stat → other.kind ≡ stat.kind
    kinds other e = ap (λ (o : Option Stat). (unwrap_or o stat).kind) e

    inodes : (other : Stat) → Some other ≡ Some stat → other.identity.inode ≡ stat.identity.inode
    inodes other e = ap (λ (o : Option Stat). (unwrap_or o stat).identity.inode) e

    of : (node : Option Node) → get s.names path ≡ node → stat_of_node s path node ≡ Some stat → get s.names path ≡ Some (File stat.identity.inode)
    of None same e = absurd (cc e)
    of (Some Dir) same e = absurd (let k = kinds _ e in cc (k, is))
    of (Some (File inode)) same e = same ∙ ap (λ n. Some (File n)) (inodes _ e)
    of (Some (Sym target)) same e = absurd (let k = kinds _ e in cc (k, is))

pub stat_file : (s : FsState) (path : Path) (inode : ℕ) → get s.names path ≡ Some (File inode) → (stat : Stat) × (stat_of s path ≡ Some stat) × (stat.kind ≡ FileKind) × (stat.identity.inode ≡ inode)
stat_file s path inode is = (_, ap (stat_of_node s path) is, refl, refl)

-- the inodes with those of more names
abbrev pub all_inodes : Inodes → List (Path × Stat) → Inodes
all_inodes inodes [] = inodes
all_inodes inodes (item ∷ items) = all_inodes (with_inode inodes item.1) items

pub seen_all : (a b : Seen) (items : List (Path × Stat)) → TakesAll (λ (before : Seen) at stat (after : Seen). after.inodes ≡ with_inode before.inodes stat) a items b → b.inodes ≡ all_inodes a.inodes items
seen_all a b [] same = ap (λ (x : Seen). x.inodes) same
seen_all a b (item ∷ items) (next, took, rest) = seen_all next b items rest ∙ ap (λ m. all_inodes m items) took

-- it is the inode of a file
abbrev IsFileOf : ℕ → Stat → Type 0
IsFileOf inode stat = (stat.kind ≡ FileKind) × (stat.identity.inode ≡ inode)

stays_in : (inodes : Inodes) (more inode : ℕ) → contains_key inodes inode ≡ true → contains_key (insert inodes more tt) inode ≡ true
stays_in inodes more inode here =
    ap is_some (get-insert nat_cmp_total inodes more tt inode) ∙ same_number_or inode more (λ b. is_some (cond b (Some tt) (get inodes inode)) ≡ true) (λ _. refl) here

one_in : (inodes : Inodes) (kind : Kind) (more inode : ℕ) → contains_key (with_kind inodes kind more) inode ≡ true ↔ ((contains_key inodes inode ≡ true) ⊎ ((kind ≡ FileKind) × (more ≡ inode)))
one_in inodes DirKind more inode = (λ here. inl here, λ there. elim there [ inl here ↦ here | inr other ↦ absurd (let k = other.0 in cc k) ])
one_in inodes SymKind more inode = (λ here. inl here, λ there. elim there [ inl here ↦ here | inr other ↦ absurd (let k = other.0 in cc k) ])
one_in inodes FileKind more inode = (
  λ here. same_number_or inode more (λ b. is_some (cond b (Some tt) (get inodes inode)) ≡ true → (contains_key inodes inode ≡ true) ⊎ ((FileKind ≡ FileKind) × (more ≡ inode))) (λ same _. inr (refl, sym same)) (λ there. inl there)
      (sym (ap is_some (get-insert nat_cmp_total inodes more tt inode)) ∙ here),
  λ there. elim there [ inl here ↦ stays_in inodes more inode here | inr same ↦ ap (λ n. is_some (get (insert inodes more tt) n)) (sym same.1) ∙ ap is_some (insert_here inodes more tt) ],
)

pub all_in : (inodes : Inodes) (items : List (Path × Stat)) (inode : ℕ) → contains_key (all_inodes inodes items) inode ≡ true → (contains_key inodes inode ≡ true) ⊎ ((item : Path × Stat) × IsAmong items item × IsFileOf inode item.1)
all_in inodes [] inode here = inl here
all_in inodes (item ∷ items) inode here =
    elim (all_in (with_inode inodes item.1) items inode here) [
      | inl first ↦ elim ((one_in inodes item.1.kind item.1.identity.inode inode).0 first) [ inl before ↦ inl before | inr is ↦ inr (item, inl refl, is) ]
      | inr (other, among, is) ↦ inr (other, inr among, is)
    ]

pub in_all : (inodes : Inodes) (items : List (Path × Stat)) (inode : ℕ) → (contains_key inodes inode ≡ true) ⊎ ((item : Path × Stat) × IsAmong items item × IsFileOf inode item.1) → contains_key (all_inodes inodes items) inode ≡ true
in_all inodes [] inode (inl here) = here
in_all inodes [] inode (inr (item, none, is)) = absurd none
in_all inodes (item ∷ items) inode (inl here) = in_all (with_inode inodes item.1) items inode (inl ((one_in inodes item.1.kind item.1.identity.inode inode).1 (inl here)))
in_all inodes (item ∷ items) inode (inr (other, inl same, is)) =
    in_all (with_inode inodes item.1) items inode (inl ((one_in inodes item.1.kind item.1.identity.inode inode).1 (inr (subst (λ it. IsFileOf inode it.1) (sym same) is))))
in_all inodes (item ∷ items) inode (inr (other, inr among, is)) = in_all (with_inode inodes item.1) items inode (inr (other, among, is))

pub none_in : (inodes : Inodes) → inodes ≡ empty → (inode : ℕ) → contains_key inodes inode ≡ false
none_in inodes is inode = ap (λ m. is_some (get m inode)) is ∙ ap is_some (get-empty nat_cmp inode)

-- from no inode at all, a walk leads to those that have a name there
pub named_in : (s : FsState) (tops : List Path) (items : List (Path × Stat)) (start inodes : Inodes) → ((inode : ℕ) → contains_key start inode ≡ false) → inodes ≡ all_inodes start items → IsWalkIn s tops items
    → (inode : ℕ) → (contains_key inodes inode ≡ true) ↔ IsNamedIn s.names tops inode
named_in s tops items start inodes none are walk inode = (
  λ here. elim (all_in start items inode (sym (ap (λ m. contains_key m inode) are) ∙ here)) [
    | inl before ↦ absurd (let nothing = none inode in cc (nothing, before))
    | inr (item, among, is) ↦
        let there : IsNameIn s tops item = among_all (IsNameIn s tops) items walk.each item among in
        (item.0, there.0, file_stat s item.0 item.1 there.1 is.0 ∙ ap (λ n. Some (File n)) is.1)
  ],
  λ named.
      let (path, there, is) = named in
      let (stat, found, file, same) = stat_file s path inode is in
      ap (λ m. contains_key m inode) are ∙ in_all start items inode (inr ((path, stat), walk.whole path stat there found, (file, same))),
)
