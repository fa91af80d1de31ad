use Rattle.std.proofs.Common.{◌≡◌, ◌∙◌, ◌++◌, ◌∷◌, [], ap, refl, append_assoc}
use Rattle.std.specs.Prelude.{codes}
use Rattle.std.specs.Fmt.{decimal}
use Rattle.fs_model.specs.Names.{Path}
use Rattle.control_file.specs.Version.{version_text_of}
use Rattle.new_names.specs.declared.names.NewName.{NewName}
use Rattle.new_names.specs.declared.names.NewNode.TheVariants.{Dir, File}
use Rattle.catalog_server.specs.ReplayNames.{base_path}
use Rattle.server_profile.proofs.Adding.{two_more, named}
use Rattle.server_profile.proofs.names.add_directory.Goals as goal

pub returns : goal.returns
returns c =
    let directory : c.in_ok-directory.directory ≡ base_path c.args.root.now ++ decimal c.args.oid ∷ [] =
    c.in_ok-directory.ensures ∙ ap (λ (p : Path). p ++ decimal c.args.oid ∷ []) c.in_ok-base.ensures in
    let version : c.in_ok-version.version ≡ base_path c.args.root.now ++ decimal c.args.oid ∷ codes "PG_VERSION" ∷ [] =
    c.in_ok-version.ensures ∙ ap (λ (p : Path). p ++ codes "PG_VERSION" ∷ []) directory ∙ append_assoc (base_path c.args.root.now) (decimal c.args.oid ∷ []) (codes "PG_VERSION" ∷ []) in
    two_more c.args.names.now.items c.push.new.self.items c.push-2.new.self.items _ _ _ _ c.in_ok-push.ensures.items c.in_ok-push-2.ensures.items
    (ap (λ p. let x : NewName = record { path = p; node = Dir } in x) directory)
    (named version (c.new-text.ensures ∙ c.in_ok-from_slice.ensures.items ∙ c.version_text.ensures))
