-- The blocks of a piece that was read are those of the file.
use Rattle.std.proofs.Common.{◌≡◌, ◌∙◌, true, ℕ, ◌-◌, ◌*◌, ◌<◌, List, [], length, take, drop, min, Option, Some, None, Result, Ok, Err, IfOk, refl, ap, sym, subst, arith}
use Rattle.std.specs.Option.{unwrap_or, option_map}
use Rattle.std.specs.FinMap as map
use Rattle.std.specs.Prelude.{is_some}
use Rattle.fs_model.specs.declared.node.Node.{Node}
use Rattle.fs_model.specs.declared.node.Node.TheVariants.{Dir, File, Sym}
use Rattle.fs_model.specs.declared.error.FsError.{FsError}
use Rattle.fs_model.specs.Names.{Path}
use Rattle.fs_model.specs.State.{FsState}
use Rattle.fs_model.specs.WellFormed.{WellFormed}
use Rattle.fs_model.specs.Calls.{ReadsAt, refusal, or_else, no_file}
use Rattle.fs_model.specs.Effects.{bytes_of}
use Rattle.fs_model.specs.Reading.{Reads, file_bytes, inode_of_node}
use Rattle.cluster_meaning.specs.Blocks.{blocks_in}
use Rattle.fork_read.specs.Extents.{file_blocks, piece_blocks}
use Rattle.fork_read.proofs.Pieces.{piece_is}

named_bytes : (s : FsState) (path : Path) (inode : ℕ) → map.get s.names path ≡ Some (File inode) → file_bytes s path ≡ Some (bytes_of s.bytes inode)
named_bytes s path inode named = ap (λ node. option_map (bytes_of s.bytes) (inode_of_node node)) named

pub piece_read : (s : FsState) (path : Path) (n count : ℕ) (into : List ℕ) → length into ≡ 1048576 → Reads s path (n * 8192) count into → blocks_in (take count into) ≡ piece_blocks s path n
piece_read s path n count into whole reads =
    let bytes : List ℕ = bytes_of s.bytes reads.inode in
    let file : unwrap_or (file_bytes s path) [] ≡ bytes = ap (λ o. unwrap_or o []) (named_bytes s path reads.inode reads.file) in
    ap blocks_in reads.bytes
    ∙ piece_is bytes n count (reads.count_is ∙ ap (λ k. min k (length bytes - n * 8192)) whole)
    ∙ ap (λ b. take 128 (drop n (blocks_in b))) (sym file)

pub piece_read_ok : (s : FsState) (path : Path) (n : ℕ) (into : List ℕ) (answer : Result ℕ FsError) → length into ≡ 1048576 → IfOk answer (λ count. Reads s path (n * 8192) count into)
    → IfOk answer (λ count. blocks_in (take count into) ≡ piece_blocks s path n)
piece_read_ok s path n into (Ok count) whole reads = piece_read s path n count into whole reads
piece_read_ok s path n into (Err error) whole reads = tt

-- ---- a file that has a block

no_blocks : (n : ℕ) → n < length (blocks_in []) → ⊥
no_blocks n lt = omega (arith, lt)

has_file : (s : FsState) (path : Path) (n : ℕ) (node : Option Node) → map.get s.names path ≡ node → n < length (file_blocks s path) → (no_file node ≡ None) × (is_some node ≡ true)
has_file s path n (Some (File inode)) is lt = (refl, refl)
has_file s path n (Some Dir) is lt = absurd (no_blocks n (subst (λ (o : Option Node). n < length (blocks_in (unwrap_or (option_map (bytes_of s.bytes) (inode_of_node o)) []))) is lt))
has_file s path n (Some (Sym target)) is lt = absurd (no_blocks n (subst (λ (o : Option Node). n < length (blocks_in (unwrap_or (option_map (bytes_of s.bytes) (inode_of_node o)) []))) is lt))
has_file s path n None is lt = absurd (no_blocks n (subst (λ (o : Option Node). n < length (blocks_in (unwrap_or (option_map (bytes_of s.bytes) (inode_of_node o)) []))) is lt))

-- what has a block is read without a refusal
pub has_block : (s : FsState) (path : Path) (n : ℕ) → WellFormed s → n < length (file_blocks s path) → refusal s (ReadsAt path) ≡ None
has_block s path n formed lt =
    let file = has_file s path n (map.get s.names path) refl lt in
    let way = formed.tree path file.1 in
    λ i. or_else (way i) (file.0 i)
