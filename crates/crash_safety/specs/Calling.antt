-- The tables of calls that runs of an upgrade are allowed to make.
use Rattle.std.specs.Prelude.{◌≡◌, List}
use Rattle.fs_model.specs.Names.{Path}
use Rattle.fs_model.specs.State.{FsState}
use Rattle.fs_model.specs.Calls.{Call, Stats, Lists, ReadsAt, ReadsLink, WritesAt, Links, Unlinks, RemovesDir, SyncsFile, SyncsDir}
use Rattle.crash_safety.specs.Frame.{IsInside, StaysWithin}

-- any call at all
abbrev pub AnyCall : FsState → Call → Type 0
AnyCall s call = Unit {0}

-- it removes no directory
abbrev pub KeepsDirs : Call → Type 0
KeepsDirs (RemovesDir path) = ⊥
KeepsDirs call = Unit {0}

-- it gives no file a further name, and removes no directory
abbrev pub IsPlain : Call → Type 0
IsPlain (Links from to) = ⊥
IsPlain (RemovesDir path) = ⊥
IsPlain call = Unit {0}

-- A call of a run that began in a, which keeps within these directories and removes no directory.
abbrev pub KeepsWithin : List Path → FsState → FsState → Call → Type 0
KeepsWithin tops a s call = StaysWithin tops a s call × KeepsDirs call

-- A call of a run that began in a, which makes and removes names inside these directories alone, writes to new files alone, and shares none.
abbrev pub MakesWithin : List Path → FsState → FsState → Call → Type 0
MakesWithin tops a s call = StaysWithin tops a s call × IsPlain call

-- a call that reads or puts on the disk
abbrev pub Syncs : FsState → Call → Type 0
Syncs s (Stats path) = Unit {0}
Syncs s (Lists path) = Unit {0}
Syncs s (ReadsAt path) = Unit {0}
Syncs s (ReadsLink path) = Unit {0}
Syncs s (SyncsFile path) = Unit {0}
Syncs s (SyncsDir path) = Unit {0}
Syncs s call = ⊥

-- a call that reads, writes to the file at the path, or puts a file on the disk
abbrev pub Rewrites : Path → FsState → Call → Type 0
Rewrites at s (Stats path) = Unit {0}
Rewrites at s (Lists path) = Unit {0}
Rewrites at s (ReadsAt path) = Unit {0}
Rewrites at s (ReadsLink path) = Unit {0}
Rewrites at s (WritesAt path from bytes) = path ≡ at
Rewrites at s (SyncsFile path) = Unit {0}
Rewrites at s call = ⊥

-- a call that reads, or gives a file a further name in one of the directories, or removes a name there
abbrev pub LinksInside : List Path → FsState → Call → Type 0
LinksInside tops s (Stats path) = Unit {0}
LinksInside tops s (Lists path) = Unit {0}
LinksInside tops s (ReadsAt path) = Unit {0}
LinksInside tops s (ReadsLink path) = Unit {0}
LinksInside tops s (Links from to) = IsInside tops to
LinksInside tops s (Unlinks path) = IsInside tops path
LinksInside tops s call = ⊥
