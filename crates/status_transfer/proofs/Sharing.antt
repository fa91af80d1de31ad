-- Runs that carry files into directories share none: each file that they make has an inode of its own.
use Rattle.std.proofs.Common.{◌≡◌, ◌⊎◌, ◌∙◌, ℕ, inl, inr, List, [], ◌∷◌, Option, Some, None, cond, sym, subst}
use Rattle.std.specs.FinMap.{get}
use Rattle.fs_model.specs.declared.node.Node.{Node}
use Rattle.fs_model.specs.declared.node.Node.TheVariants.{File}
use Rattle.fs_model.specs.declared.effect.Effect.{Effect}
use Rattle.fs_model.specs.declared.effect.Effect.TheVariants.{NewFile}
use Rattle.fs_model.specs.declared.error.FsError.{FsError}
use Rattle.fs_model.specs.Names.{Path}
use Rattle.fs_model.specs.State.{FsState}
use Rattle.fs_model.specs.Effects.{apply, with_change}
use Rattle.fs_model.specs.Calls.{Call, MayDo}
use Rattle.fs_model.specs.Trail.{Trail, Goes, Since}
use Rattle.fs_model.proofs.Lookups.{get-set_name, same_path_or}
use Rattle.fs_model.proofs.Going.{goes_since}
use Rattle.fs_model.proofs.Runs.{since_weaker}
use Rattle.status_transfer.specs.Carried.{IsInOne, CarriesInto, ChangesOnlyIn, SharesNone}
use Rattle.status_transfer.proofs.Framing.{none_before, keeps_itself, each, each_keeps}

file_is : (inode other : ℕ) → Some (File inode) ≡ Some (File other) → inode ≡ other
file_is inode other same = cc same

module _ (a : FsState) where
  shares_name : (s : FsState) (path : Path) (what : Option Node) → ((inode : ℕ) → what ≡ Some (File inode) → get a.bytes inode ≡ None) → SharesNone a s → SharesNone a (with_change s ((path, what) ∷ []))
  shares_name s path what new shares q inode named =
      same_path_or q path (λ b. cond b what (get s.names q) ≡ Some (File inode) → (get a.names q ≡ Some (File inode)) ⊎ (get a.bytes inode ≡ None))
      (λ same is. inr (new inode is)) (λ is. shares q inode is) (sym (get-set_name s.names path what q) ∙ named)

  module _ (dirs : List Path) (s : FsState) (keeps : ChangesOnlyIn dirs a s) (shares : SharesNone a s) where
    gone_shares : (path : Path) → IsInOne dirs path → SharesNone a (with_change s ((path, None) ∷ []))
    gone_shares path within = shares_name s path None (λ inode is. absurd (cc is)) shares

    made_shares : (path : Path) (inode : ℕ) → IsInOne dirs path → get s.bytes inode ≡ None → SharesNone a (apply s (NewFile path inode))
    made_shares path inode within none = shares_name s path (Some (File inode)) (λ other is. subst (λ i. get a.bytes i ≡ None) (file_is inode other is) (none_before dirs a s keeps inode none)) shares

    each_shares : (call : Call) (answer : Option FsError) (effect : Effect) → CarriesInto dirs a s call → MayDo s call answer effect → SharesNone a (apply s effect)
    each_shares call answer effect allowed may = each dirs a s (SharesNone a) shares gone_shares made_shares (λ inode bytes none. shares) call answer effect allowed may

pub carries_share_none : (dirs : List Path) (a b : Trail) → Goes (CarriesInto dirs a.present) a b → Since (SharesNone a.present) a b
carries_share_none dirs a b goes =
    let both : FsState → Type 0 = (λ s. ChangesOnlyIn dirs a.present s × SharesNone a.present s) in
    since_weaker both (SharesNone a.present) (λ s has. has.1) a b
    (goes_since (CarriesInto dirs a.present) both
    (λ s call answer effect has allowed may. (each_keeps dirs a.present s has.0 call answer effect allowed may, each_shares a.present dirs s has.0 has.1 call answer effect allowed may))
    (keeps_itself dirs a.present, λ path inode named. inl named) goes)
