use Rattle.std.proofs.Common.{◌≡◌, ◌∙◌, ◌++◌, ◌∷◌, [], None, Err, OnOk, List, subst, sym}
use Rattle.std.specs.List.{Contains}
use Rattle.fs_model.specs.declared.node.Node.TheVariants as node
use Rattle.fs_model.specs.Trail.{DecidedBy}
use Rattle.new_names.specs.declared.names.NewName.{NewName}
use Rattle.new_names.specs.declared.names.NewNode.TheVariants.{File}
use Rattle.new_names.specs.Frame.{IsListed}
use Rattle.new_names.specs.Room.{HasRoomFor}
use Rattle.new_names.specs.Standing.{AllStand, Remakes}
use Rattle.new_names.proofs.Runs.{goes_joined}
use Rattle.new_names.proofs.Rooms.{decided_on, free_to_remove}
use Rattle.server_profile.proofs.Listing.{contains_left, contains_last}
use Rattle.server_profile.proofs.Replays.{ok_all_stand, seen_inode}
use Rattle.server_profile.proofs.replaying.carry_out.Goals as goal

pub returns-in_err-make_names-clause-calls : goal.returns-in_err-make_names-clause-calls
returns-in_err-make_names-clause-calls g c told =
    let names = c.args.plan.now.names.items in
    let last : NewName = record { path = c.args.at.now; node = File c.args.plan.now.text.items } in
    c.make_names.ensures.calls told (names ++ last ∷ []) (λ name among. contains_left names (last ∷ []) name (subst (λ xs. Contains xs name) c.deref.ensures.value among))

pub returns-clause-calls : goal.returns-clause-calls
returns-clause-calls g c told =
    let names = c.args.plan.now.names.items in
    let last : NewName = record { path = c.args.at.now; node = File c.args.plan.now.text.items } in
    let listed : List NewName = names ++ last ∷ [] in
    goes_joined listed (g.F.Fs.trail c.args.fs.now) (g.F.Fs.trail c.make_names.new.fs) (g.F.Fs.trail c.remake_file.new.fs)
    (c.make_names.ensures.calls told listed (λ name among. contains_left names (last ∷ []) name (subst (λ xs. Contains xs name) c.deref.ensures.value among)))
    (c.remake_file.ensures.calls (c.make_names.ensures.told ∙ told) listed (subst (λ content. IsListed listed c.args.at.now (File content)) (sym c.deref-2.ensures.value) (contains_last names last)))

pub returns-in_err-make_names-clause-unrefused : goal.returns-in_err-make_names-clause-unrefused
returns-in_err-make_names-clause-unrefused g c told found stood room =
    decided_on None c.from_residual.result c.in_err-make_names.field-0.0 c.from_residual.ensures.1
    (c.in_err-make_names.ensures.unrefused told (subst (HasRoomFor (g.F.Fs.trail c.args.fs.now).present) (sym c.deref.ensures.value) room))

pub returns-clause-unrefused : goal.returns-clause-unrefused
returns-clause-unrefused g c told found stood room =
    let later = c.make_names.ensures.told ∙ told in
    let (inode, named) = seen_inode (g.F.Fs.trail c.args.fs.now).present c.args.at.now found stood in
    let still = (c.in_ok-make_names.ensures.adds told).names c.args.at.now (node.File inode) named in
    subst (λ refused. DecidedBy refused c.remake_file.result) (free_to_remove (g.F.Fs.trail c.make_names.new.fs).present (c.remake_file.ensures.well_formed later) c.args.at.now inode still) (c.remake_file.ensures.decided later)

pub returns-clause-stands : goal.returns-clause-stands
returns-clause-stands g c told found stood =
    let names = c.args.plan.now.names.items in
    let s = (g.F.Fs.trail c.args.fs.now).present in
    let mid = (g.F.Fs.trail c.make_names.new.fs).present in
    let t = (g.F.Fs.trail c.remake_file.new.fs).present in
    ok_all_stand c.remake_file.result s mid t names c.args.at.now c.args.plan.now.text.items found stood
    (λ name among. c.in_ok-make_names.ensures.were_absent told name (subst (λ xs. Contains xs name) (sym c.deref.ensures.value) among))
    (subst (AllStand mid) c.deref.ensures.value (c.in_ok-make_names.ensures.stands told))
    (subst (λ content. OnOk c.remake_file.result (Remakes mid c.args.at.now content t)) c.deref-2.ensures.value (c.remake_file.ensures.remade (c.make_names.ensures.told ∙ told)))
