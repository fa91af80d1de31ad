use Rattle.std.proofs.Common.{◌∙◌, refl, ap, subst}
use Rattle.std.proofs.lemmas.Bool.{eq-eqb}
use Rattle.fs_model.specs.Names.{Path}
use Rattle.fs_model.specs.State.{Names}
use Rattle.relation_files.specs.Sites.{site_at}
use Rattle.relation_files.specs.Places.{relation_dir}
use Rattle.file_checks.specs.declared.files.Listing.{Listing}
use Rattle.file_checks.specs.Kept.{AreBadFiles, listing_is}
use Rattle.file_checks.proofs.Keeping.{each_more, now_there}
use Rattle.file_checks.proofs.files.list_once.Goals as goal

pub returns-in-Ok-insert-clause-kept : goal.returns-in-Ok-insert-clause-kept
returns-in-Ok-insert-clause-kept g c told formed listings =
    let names : Names = (g.F.Fs.trail c.args.fs.now).present.names in
    let made : Listing = record { database = c.args.relation.database; bad = c.in-Ok-bad_files.bad } in
    each_more (λ tablespace (listing : Listing). AreBadFiles names (relation_dir (site_at c.args.site.now) (record { database = listing.database; tablespace = tablespace; file = 0 })) listing.bad)
    c.args.listings.now c.insert.new.self c.args.relation.tablespace made c.in-Ok-insert.ensures
    (subst (λ (dir : Path). AreBadFiles names dir c.in-Ok-bad_files.bad) c.in-Ok.ensures.path (c.in-Ok-bad_files.ensures.found told formed)) listings

pub returns-in-Ok-insert-clause-listed : goal.returns-in-Ok-insert-clause-listed
returns-in-Ok-insert-clause-listed g c =
    let made : Listing = record { database = c.args.relation.database; bad = c.in-Ok-bad_files.bad } in
    ap (listing_is c.args.relation.database) (now_there c.args.listings.now c.insert.new.self c.args.relation.tablespace made c.in-Ok-insert.ensures) ∙ eq-eqb c.args.relation.database c.args.relation.database refl
