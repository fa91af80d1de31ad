use Rattle.std.proofs.Common.{◌≡◌, ◌-◌, ◌^◌, ◌<◌, ◌≤◌, ℕ, true, false, min, length, sym, arith}
use Rattle.std.proofs.lemmas.Bool.{lt-ltb, le-ltb}
use Rattle.fs_model.specs.PathText.{text_of}
use Rattle.catalog_checks.specs.Limits.{is_long}
use Rattle.catalog_checks.proofs.Searching.{any_here, any_more}
use Rattle.catalog_checks.proofs.limits.has_long_location.Goals as goal

pub returns-then-text_length-gt-MOST_LOCATION_BYTES :
    goal.returns-then-text_length-gt-MOST_LOCATION_BYTES
returns-then-text_length-gt-MOST_LOCATION_BYTES c =
    any_here is_long c.args.catalog.now.tablespaces c.loop-i.i c.in-Some.tablespace.now _ (sym c.in-Some.ensures) (lt-ltb 1024 (length (text_of c.in-Some.tablespace.now.location)) (omega arith)) c.loop-i.invariant

pub loop-i-preserved : goal.loop-i-preserved
loop-i-preserved c =
    any_more is_long c.args.catalog.now.tablespaces c.loop-i.i c.in-Some.tablespace.now _ (sym c.in-Some.ensures) (le-ltb 1024 (length (text_of c.in-Some.tablespace.now.location)) (omega arith)) c.loop-i.invariant
