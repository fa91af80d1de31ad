-- What stands in place of a trail that is not told.
use Rattle.std.specs.Prelude.{[]}
use Rattle.std.specs.FinMap.{empty}
use Rattle.fs_model.specs.Trail.{Trail}

abbrev pub no_trail : Trail
no_trail = record {
  present = record { names = empty; bytes = empty; names_kept = empty; bytes_kept = empty; pending = []; dirty = empty; devices = empty };
  past = [];
}
