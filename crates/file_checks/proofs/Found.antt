-- The finding of a relation whose directory was listed.
use Rattle.std.proofs.Common.{◌≡◌, ◌∙◌, ◌<◌, ◌^◌, true, not, Option, Some, None, refl, sym, ap, subst, append-nil}
use Rattle.std.specs.Prelude.{if◌then◌else◌}
use Rattle.std.specs.Ordering.{nat_cmp}
use Rattle.std.specs.FinMap.{FinMap, get}
use Rattle.std.specs.Fmt.{decimal}
use Rattle.std.proofs.lemmas.Bool.{eqb-true}
use Rattle.fs_model.specs.Names.{Path}
use Rattle.fs_model.specs.State.{Names}
use Rattle.fs_tools.specs.Children.{child_of}
use Rattle.relation_files.specs.declared.relation.Relation.{Relation}
use Rattle.relation_files.specs.declared.relation.Fork.TheVariants.{Main}
use Rattle.relation_files.specs.Places.{Site, relation_dir, segment_path}
use Rattle.tree_checks.specs.Findings.{IsLeast}
use Rattle.tree_checks.specs.Looks.{kind_at, is_file}
use Rattle.file_checks.specs.declared.files.Listing.{Listing}
use Rattle.file_checks.specs.RelationFiles.{IsNoFile, IsBadFile, IsBadRelation}
use Rattle.file_checks.specs.Kept.{AreListings, is_listed, listing_is, listed_bad}
use Rattle.file_checks.proofs.Locating.{none_first}

-- the first segment of the main fork has the file number for a name
first_path : (site : Site) (relation : Relation) → segment_path site relation Main 0 ≡ child_of (relation_dir site relation) (decimal relation.file)
unfolding segment_path
first_path site relation = ap (child_of (relation_dir site relation)) (append-nil (decimal relation.file))

pub relation_found : (names : Names) (site : Site) (relation : Relation) (listings : FinMap nat_cmp Listing) (first : Path) (found : Option Path) → relation.file < 2 ^ 32 → first ≡ segment_path site relation Main 0 → is_file (kind_at names first) ≡ true
    → AreListings names site listings → is_listed listings relation ≡ true → found ≡ listed_bad (get listings relation.tablespace) first → IsBadRelation names site relation found
relation_found names site relation listings first found small path file all listed is =
    none_first (IsNoFile names (segment_path site relation Main 0)) (IsLeast (IsBadFile names (relation_dir site relation) relation.file)) found
    (subst (λ p. IsNoFile names p None) path (ap (λ b. if not b then Some first else None) (sym file)))
    (of (get listings relation.tablespace) refl listed is)
  where
    here : first ≡ child_of (relation_dir site relation) (decimal relation.file)
    here = path ∙ first_path site relation

    of : (o : Option Listing) → get listings relation.tablespace ≡ o → listing_is relation.database o ≡ true → found ≡ listed_bad o first → IsLeast (IsBadFile names (relation_dir site relation) relation.file) found
    of None at listed is = absurd (cc listed)
    of (Some listing) at listed is =
        let same : listing.database ≡ relation.database = eqb-true listing.database relation.database listed in
        let dir : relation_dir site (record { database = listing.database; tablespace = relation.tablespace; file = 0 }) ≡ relation_dir site relation =
        ap (λ d. relation_dir site (record { database = d; tablespace = relation.tablespace; file = 0 })) same in
        let least = all relation.tablespace listing at relation.file small in
        subst (IsLeast (IsBadFile names (relation_dir site relation) relation.file)) (sym (is ∙ ap (get listing.bad) here))
        (subst (λ (d : Path). IsLeast (IsBadFile names d relation.file) (get listing.bad (child_of d (decimal relation.file)))) dir least)
