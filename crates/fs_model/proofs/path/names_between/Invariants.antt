use Rattle.std.proofs.Common.{◌≡◌, ◌++◌, length}
use denote.Text.{Utf8}
use denote.Shadow.{shadow}
use Rattle.std.specs.List.{list_all}
use Rattle.fs_model.specs.Names.{is_name}
use Rattle.fs_model.specs.PathText.{parts}
use Rattle.fs_model.proofs.path.names_between.Given as goal

abbrev pub invariant-loop-part : goal.invariant-loop-part
invariant-loop-part l = shadow (Utf8 l.rest) × (l.names.items ++ parts l.rest ≡ parts l.text) × (list_all is_name (parts l.text) ≡ list_all is_name (parts l.rest))

abbrev pub decreases-loop-part : goal.decreases-loop-part
decreases-loop-part l = length l.rest
