use Rattle.std.proofs.Common.{◌≡◌, ◌∙◌, ◌++◌, ap, refl}
use Rattle.std.specs.List.{flat_map}
use Rattle.catalog.specs.Cluster.{DatabaseObjects}
use Rattle.catalog_server.specs.ReplayNames.{relations_of, relations_in, holding_names, relation_names}
use Rattle.server_profile.specs.Directories.{relation_in}
use Rattle.server_profile.proofs.Directories.{relations_same, ok_both_added}
use Rattle.server_profile.proofs.held.add_database.Goals as goal

pub returns : goal.returns
returns c =
    let d = c.args.database.now in
    let ts = c.args.after.now.tablespaces in
    let oid_is : c.database.inside.oid ≡ d.oid = ap (λ (x : DatabaseObjects). x.oid) c.database.view_is in
    let earlier_is : c.in_ok-earlier.earlier ≡ relations_in c.args.before.now d.oid = c.in_ok-earlier.ensures ∙ c.in_ok-held_before.ensures ∙ ap (relations_in c.args.before.now) oid_is in
    let relations_are : c.in_ok-relations.relations ≡ relations_of d = c.in_ok-relations.ensures ∙ c.in_ok-held_now.ensures in
    ok_both_added c.add_relations.result c.args.names.now.items c.add_holdings.new.names.items c.add_relations.new.names.items _ _ _
    (c.in_ok-add_holdings.ensures ∙ (λ i. c.args.names.now.items ++ flat_map (holding_names c.args.root.now c.args.release (oid_is i) (earlier_is i) (relations_are i)) ts))
    c.add_relations.ensures
    ((λ i. flat_map (relation_in c.args.directories.now (oid_is i) (earlier_is i)) (relations_are i)) ∙ relations_same c.args.root.now c.args.release ts c.args.directories.now c.requires d.oid (relations_in c.args.before.now d.oid) (relations_of d))
