-- A slice that is filled by one read after another.
use Rattle.std.proofs.Common.{◌≡◌, ◌≤◌, ◌+◌, ◌-◌, ◌++◌, ◌∙◌, ℕ, List, length, take, drop, min, Option, Some, None, Result, Ok, Err, IfOk, ap, refl, sym, subst, arith, length-take, inl, inr, ◌⊎◌, true}
use Rattle.std.specs.Prelude.{IfSome, is_some}
use Rattle.std.proofs.Math.Seq.{take-append-add, take-add}
use Rattle.std.proofs.lemmas.List.{take-append-le, take_all}
use Rattle.std.specs.FinMap.{get}
use Rattle.fs_model.specs.declared.node.Node.TheVariants.{File}
use Rattle.fs_model.specs.declared.error.FsError.{FsError}
use Rattle.fs_model.specs.Names.{Path}
use Rattle.fs_model.specs.State.{FsState}
use Rattle.fs_model.specs.Effects.{bytes_of}
use Rattle.fs_model.specs.Reading.{Reads, file_bytes, inode_of_node}
use Rattle.fs_tools.specs.Filled.{Filled, AllFilled}

pub named_bytes : (s : FsState) (path : Path) (inode : ℕ) → get s.names path ≡ Some (File inode) → file_bytes s path ≡ Some (bytes_of s.bytes inode)
named_bytes s path inode named = ap (λ node. Rattle.std.specs.Option.option_map (bytes_of s.bytes) (inode_of_node node)) named

more : (bytes into part : List ℕ) (filled count : ℕ) → filled ≤ length into → take filled into ≡ take filled bytes → take count part ≡ take count (drop filled bytes) → take (filled + count) (take filled into ++ part) ≡ take (filled + count) bytes
more bytes into part filled count within front back =
    let len : length (take filled into) ≡ filled = omega (arith, length-take filled into) in
    ap (λ n. take (n + count) (take filled into ++ part)) (sym len)
    ∙ take-append-add (take filled into) part count
    ∙ (λ i. front i ++ back i)
    ∙ sym (take-add filled count bytes)

filled_more : (s : FsState) (path : Path) (into part : List ℕ) (room filled count inode : ℕ) → filled ≤ length into → Filled s path filled into → get s.names path ≡ Some (File inode)
    → take count part ≡ take count (drop filled (bytes_of s.bytes inode)) → count ≡ min room (length (bytes_of s.bytes inode) - filled) → Filled s path (filled + count) (take filled into ++ part)
filled_more s path into part room filled count inode within front named back count_is =
    let bytes = bytes_of s.bytes inode in
    let is : file_bytes s path ≡ Some bytes = named_bytes s path inode named in
    let P : Option (List ℕ) → Type 0 = λ o. IfSome o (λ b. (filled ≤ length b) × (take filled into ≡ take filled b)) in
    let so_far : (filled ≤ length bytes) × (take filled into ≡ take filled bytes) = subst P is front in
    let Q : Option (List ℕ) → Type 0 = λ o. IfSome o (λ b. (filled + count ≤ length b) × (take (filled + count) (take filled into ++ part) ≡ take (filled + count) b)) in
    let below : filled + count ≤ length bytes = (let front_below = so_far.0 in omega arith) in
    subst Q (sym is) (below, more bytes into part filled count within so_far.1 back)

-- the slice after a read into its part behind what was filled
pub filled_ok : (s : FsState) (path : Path) (into part rest after : List ℕ) (filled : ℕ) (result : Result ℕ FsError) → after ≡ take filled into ++ (part ++ rest) → filled ≤ length into → Filled s path filled into
    → IfOk result (λ count. Reads s path filled count part) → IfOk result (λ count. Filled s path (filled + count) after)
filled_ok s path into part rest after filled (Ok count) is within front reads =
    let inside : count ≤ length part = (let count_is = reads.count_is in omega arith) in
    subst (Filled s path (filled + count)) (sym is) (filled_more s path into (part ++ rest) (length part) filled count reads.inode within front reads.file (take-append-le count part rest inside ∙ reads.bytes) reads.count_is)
filled_ok s path into part rest after filled (Err error) is within front reads = tt

-- a file that was read to its end, or into a slice of its size
pub whole_file : (s : FsState) (path : Path) (size count : ℕ) (into : List ℕ) → (IfSome (file_bytes s path) (λ bytes. size ≡ length bytes)) → length into ≡ size → Filled s path count into
    → ((count ≡ length into) ⊎ AllFilled s path count) → is_some (file_bytes s path) ≡ true → file_bytes s path ≡ Some (take count into)
whole_file s path size count into of_size is_size filled ended stands = of (file_bytes s path) of_size filled (elim ended [ inl full ↦ inl full | inr all ↦ inr all ]) stands
  where
    of : (found : Option (List ℕ)) → IfSome found (λ bytes. size ≡ length bytes) → IfSome found (λ bytes. (count ≤ length bytes) × (take count into ≡ take count bytes)) → ((count ≡ length into) ⊎ IfSome found (λ bytes. length bytes ≤ count)) → is_some found ≡ true → found ≡ Some (take count into)
    of None of_size filled ended stands = absurd (cc stands)
    of (Some bytes) of_size filled ended stands =
        let all : length bytes ≤ count = elim ended [ inl full ↦ omega arith | inr all ↦ all ] in
        ap (λ b. Some b) (sym (filled.1 ∙ take_all count bytes all))

pub filled_none : (s : FsState) (path : Path) (into : List ℕ) → Filled s path 0 into
filled_none s path into = of (file_bytes s path)
  where
    of : (found : Option (List ℕ)) → IfSome found (λ bytes. (0 ≤ length bytes) × (take 0 into ≡ take 0 bytes))
    of None = tt
    of (Some bytes) = (omega arith, refl)
