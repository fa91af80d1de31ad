-- What `updater_among` answers, as a relation.
use Rattle.std.specs.Prelude.{◌≡◌, ℕ, true, false, List, ◌∷◌, ◌++◌, Option, Some, None}
use Rattle.std.specs.List.{AllByRecursion}
use Rattle.multixact.specs.Update.{is_update}
use Rattle.multixact.specs.declared.member.Member.{Member}

-- a member is there, and is no update
abbrev pub IsNoUpdate : Option Member → Type 0
IsNoUpdate None = ⊥
IsNoUpdate (Some member) = is_update member ≡ false

-- the id is that of an update, and each member before it is there and is none
pub record IsFirstUpdate (members : List (Option Member)) (xid : ℕ) : Type 0 where
  pub before : List (Option Member)
  pub update : Member
  pub after : List (Option Member)
  pub parts : members ≡ before ++ Some update ∷ after
  pub none_before : AllByRecursion IsNoUpdate before
  pub counts : is_update update ≡ true
  pub names : update.xid ≡ xid

-- a member isn't there, and each before it is there and is no update
pub record IsUntold (members : List (Option Member)) : Type 0 where
  pub before : List (Option Member)
  pub after : List (Option Member)
  pub parts : members ≡ before ++ None ∷ after
  pub none_before : AllByRecursion IsNoUpdate before
