-- Which of the operating system's kinds of files the product knows.
use Rattle.std.specs.Prelude.{ℕ}
use Rattle.std.specs.declared.fs.FileType.{FileType}
use Rattle.std.specs.declared.fs.Metadata.{Metadata}
use Rattle.std.specs.Fs.{IsDir, IsFile, IsSymlink, metadata_len}
use Rattle.fs_model.specs.declared.node.Kind.{Kind}
use Rattle.fs_model.specs.declared.node.Kind.TheVariants.{Dir, File, Sym}

-- what the operating system calls a kind
abbrev pub IsOfKind : Kind → FileType → Type 0
IsOfKind Dir t = IsDir t
IsOfKind File t = IsFile t
IsOfKind Sym t = IsSymlink t

-- sockets, devices and the like
abbrev pub IsUnknown : FileType → Type 0
IsUnknown t = (kind : Kind) → IsOfKind kind t → ⊥

-- the size that is told of what was found: only a file has one
abbrev pub size_as : Kind → Metadata → ℕ
size_as File found = metadata_len found
size_as _ found = 0
