-- The conditions in the parts in which they are tested.
use Rattle.std.specs.Prelude.{List, [], ◌∷◌, ◌++◌, map}
use Rattle.control_file.specs.declared.modes.Side.TheVariants.{Old, New}
use Rattle.control_checks.specs.Findings.{order as control_order}
use Rattle.compat_checks.specs.Controls.{lifted_condition}
use Rattle.compat_checks.specs.Order.{Condition, PreparedIs, CatalogTextIs, TooManyIs, InstallUserIs, NewRolesIs, ConnectFlagIs, RegColumnIs, AclColumnIs, NewNotEmptyIs, NewUsedIs, TablespaceDirIs, MissingFileIs, SharedInodeIs, DeviceDiffersIs, ControlOldExistsIs}

-- data directories, releases and control files
abbrev pub control_part : List Condition
control_part = map lifted_condition control_order

abbrev pub prepared_part : List Condition
prepared_part = PreparedIs Old ∷ PreparedIs New ∷ []

-- those that are tested before a server reads anything
abbrev pub early_part : List Condition
early_part = control_part ++ prepared_part

-- what a server reads
abbrev pub text_part : List Condition
text_part = CatalogTextIs Old ∷ CatalogTextIs New ∷ []

abbrev pub owner_part : List Condition
owner_part = TooManyIs ∷ InstallUserIs ∷ NewRolesIs ∷ []

abbrev pub column_part : List Condition
column_part = ConnectFlagIs ∷ RegColumnIs ∷ AclColumnIs ∷ NewNotEmptyIs ∷ []

-- both catalogs
abbrev pub catalog_part : List Condition
catalog_part = owner_part ++ column_part

-- directories and files
abbrev pub tree_part : List Condition
tree_part = NewUsedIs ∷ TablespaceDirIs ∷ MissingFileIs ∷ SharedInodeIs ∷ []

-- those for links alone
abbrev pub link_part : List Condition
link_part = DeviceDiffersIs ∷ ControlOldExistsIs ∷ []

-- all that come behind the catalogs' reading
abbrev pub later_part : List Condition
later_part = catalog_part ++ (tree_part ++ link_part)
