-- A plan is of each state that calls lead through which spare its relations.
use Rattle.std.proofs.Common.{◌≡◌, inl, inr, List, [], ◌∷◌, Option, Some, None, MatchOption, refl, subst, sym}
use Rattle.std.specs.Option.{option_map}
use Rattle.std.specs.List.{AllByRecursion}
use Rattle.std.specs.FinMap.{get}
use Rattle.fs_model.specs.declared.effect.Effect.{Effect}
use Rattle.fs_model.specs.declared.effect.Effect.TheVariants.{Nothing}
use Rattle.fs_model.specs.declared.error.FsError.{FsError}
use Rattle.fs_model.specs.declared.error.FsError.TheVariants.{Failed}
use Rattle.fs_model.specs.Names.{Path}
use Rattle.fs_model.specs.State.{FsState}
use Rattle.fs_model.specs.Effects.{apply, bytes_of}
use Rattle.fs_model.specs.Reading.{inode_of_node}
use Rattle.fs_model.specs.Calls.{Call, Stats, Lists, ReadsAt, ReadsLink, Creates, WritesAt, MakesDir, MakesSymlink, Links, Renames, Unlinks, RemovesDir, SyncsFile, SyncsDir, MayDo, MayFail, Does, refusal}
use Rattle.fs_model.specs.Trail.{Trail, Goes, Since}
use Rattle.fs_model.proofs.Going.{goes_since}
use Rattle.transfer_plan.specs.declared.plan.PlanItem.{PlanItem}
use Rattle.transfer_plan.specs.Carriable.{SparesName}
use Rattle.transfer_plan.proofs.Staying.{spared}
use Rattle.relation_map.specs.declared.map.MapEntry.{MapEntry}
use Rattle.relation_map.specs.Equal.{Carriage}
use Rattle.plan_build.specs.Planned.{file_at, carriages}
use Rattle.plan_build.specs.Plannable.{IsPlanOf}
use Rattle.plan_build.specs.Carrying.{HaveSame, IsNameOf, LeavesBytes, SparesRelations}
use Rattle.plan_build.proofs.Holding.{plan_still}

-- such a call leaves the bytes of all files
module _ (s : FsState) where
  abbrev SameBytes : Effect → Type 0
  SameBytes effect = (apply s effect).bytes ≡ s.bytes

  at_effect : (effect is : Effect) → effect ≡ is → SameBytes is → SameBytes effect
  at_effect effect is same holds = subst SameBytes (sym same) holds

  does : (call : Call) (effect : Effect) → LeavesBytes call → Does s call effect → SameBytes effect
  does (Stats path) effect leaves is = at_effect effect Nothing is refl
  does (Lists path) effect leaves is = at_effect effect Nothing is refl
  does (ReadsAt path) effect leaves is = at_effect effect Nothing is refl
  does (ReadsLink path) effect leaves is = at_effect effect Nothing is refl
  does (Creates path) effect none is = absurd none
  does (WritesAt path from bytes) effect none is = absurd none
  does (MakesDir path) effect leaves is = at_effect effect _ is refl
  does (MakesSymlink path target) effect leaves is = at_effect effect _ is refl
  does (Links from to) effect leaves (inode, named, is) = at_effect effect _ is refl
  does (Renames from to) effect leaves (inode, named, is) = at_effect effect _ is refl
  does (Unlinks path) effect leaves is = at_effect effect _ is refl
  does (RemovesDir path) effect leaves is = at_effect effect _ is refl
  does (SyncsFile path) effect leaves (inode, named, is) = at_effect effect _ is refl
  does (SyncsDir path) effect leaves is = at_effect effect _ is refl

  fails : (call : Call) (effect : Effect) → LeavesBytes call → MayFail s call effect → SameBytes effect
  fails (WritesAt path from bytes) effect none may = absurd none
  fails call effect leaves may = elim may [ inl nothing ↦ at_effect effect Nothing nothing refl | inr is ↦ does call effect leaves is ]

  refused : (call : Call) (effect : Effect) (found : Option FsError) → LeavesBytes call → MatchOption found (MayFail s call effect) (λ _. effect ≡ Nothing) → SameBytes effect
  refused call effect None leaves may = fails call effect leaves may
  refused call effect (Some error) leaves may = at_effect effect Nothing may refl

  bytes_left : (call : Call) (answer : Option FsError) (effect : Effect) → LeavesBytes call → MayDo s call answer effect → SameBytes effect
  bytes_left call None effect leaves may = does call effect leaves may.1
  bytes_left call (Some Failed) effect leaves may = refused call effect (refusal s call) leaves may
  bytes_left call (Some error) effect leaves may = at_effect effect Nothing may.1 refl

  relation_left : (entry : Carriage) (call : Call) (answer : Option FsError) (effect : Effect) → LeavesBytes call → ((path : Path) → IsNameOf entry path → SparesName path call) → MayDo s call answer effect → HaveSame s (apply s effect) entry
  relation_left entry call answer effect leaves spares may =
      let t = apply s effect in
      let still : (path : Path) → IsNameOf entry path → get t.names path ≡ get s.names path = λ path is. (spared path s call answer effect (spares path is) may).0 in
      let bytes : t.bytes ≡ s.bytes = bytes_left call answer effect leaves may in
      record {
        dir = still entry.to_dir (inl refl);
        old = λ fork segment. still (file_at entry.from_dir entry.file fork segment) (inr (fork, segment, inl refl));
        files = λ fork segment.
            (let named = still (file_at entry.from_dir entry.file fork segment) (inr (fork, segment, inl refl)) in
            λ i. option_map (bytes_of (bytes i)) (inode_of_node (named i)));
        new = λ fork segment. still (file_at entry.to_dir entry.file fork segment) (inr (fork, segment, inr refl));
      }

  all_left : (entries : List Carriage) (call : Call) (answer : Option FsError) (effect : Effect) → LeavesBytes call → AllByRecursion (λ entry. (path : Path) → IsNameOf entry path → SparesName path call) entries
      → MayDo s call answer effect → AllByRecursion (HaveSame s (apply s effect)) entries
  all_left [] call answer effect leaves spares may = tt
  all_left (entry ∷ entries) call answer effect leaves spares may = (relation_left entry call answer effect leaves spares.0 may, all_left entries call answer effect leaves spares.1 may)

pub plan_since : (a b : Trail) (entries : List MapEntry) (items : List PlanItem) → Goes (SparesRelations (carriages entries)) a b → IsPlanOf a.present entries items → Since (λ s. IsPlanOf s entries items) a b
plan_since a b entries items goes plan =
    goes_since (SparesRelations (carriages entries)) (λ s. IsPlanOf s entries items)
    (λ s call answer effect here spares may. plan_still s (apply s effect) entries items (all_left s (carriages entries) call answer effect spares.0 spares.1 may) here) plan goes
