-- A file that is copied a piece at a time.
use Rattle.std.proofs.Common.{◌≡◌, ◌≢◌, ◌≤◌, ◌<◌, ◌+◌, ◌-◌, ◌++◌, ◌∙◌, ℕ, Bool, true, false, cond, List, [], ◌∷◌, length, take, drop, replicate, Option, Some, None, Result, Ok, Err, IfOk, refl, sym, ap, subst, arith, append_assoc, length-take}
use Rattle.std.proofs.Math.Seq.{take-add}
use Rattle.std.proofs.lemmas.List.{take_all, drop_all}
use Rattle.std.specs.Option.{unwrap_or}
use Rattle.std.specs.Ordering.{nat_cmp, eq_by_cmp}
use Rattle.std.specs.Cmp.{nat_cmp_total}
use Rattle.std.specs.FinMap.{FinMap, get, insert, get-insert, same_map, nat_cmp-IsAntisymmetric}
use Rattle.fs_model.specs.declared.node.Node.{Node}
use Rattle.fs_model.specs.declared.node.Node.TheVariants.{Dir, File, Sym}
use Rattle.fs_model.specs.declared.effect.Effect.TheVariants.{NewFile}
use Rattle.fs_model.specs.declared.error.FsError.{FsError}
use Rattle.fs_model.specs.Names.{Path}
use Rattle.fs_model.specs.State.{FsState, Names}
use Rattle.fs_model.specs.Effects.{apply, with_bytes, with_change, set_name, bytes_of}
use Rattle.fs_model.specs.Calls.{Creates, WritesAt, ReadsAt, refusal, blocked, blocked_from, or_else, no_file, no_dir, taken, overwritten}
use Rattle.fs_model.specs.Reading.{file_bytes}
use Rattle.fs_model.specs.Trail.{Trail, Steps}
use Rattle.fs_model.proofs.Lookups.{set_name_here, set_name_other, insert_here, insert_other}
use Rattle.fs_model.proofs.Runs.{present_after}
use Rattle.fs_model.proofs.Ways.{blocked_set, none_first, none_second, no_dir_none}
use Rattle.crash_safety.specs.Frame.{IsMadeSince}
use Rattle.fs_tools.specs.Made.{MakesFile}
use Rattle.fs_tools.specs.Copied.{IsPiece, Copying}
use Rattle.fs_tools.proofs.Filling.{named_bytes}
use Rattle.fs_tools.proofs.Making.{after_create, append-nil, append-nil-bytes, created_writable}

-- on a free way each proper prefix is a directory
prefix_from : (names : Names) (done front back : Path) → 0 ≢ length back → blocked_from names done (front ++ back) ≡ None → get names (done ++ front) ≡ Some Dir
prefix_from names done [] [] some free = absurd (some refl)
prefix_from names done [] (name ∷ back) some free = ap (get names) (append-nil done) ∙ no_dir_none (get names done) (none_first (no_dir (get names done)) _ free)
prefix_from names done (name ∷ front) back some free =
    ap (get names) (sym (append_assoc done (name ∷ []) front)) ∙ prefix_from names (done ++ name ∷ []) front back some (none_second (no_dir (get names done)) _ free)

pub prefix_is_dir : (names : Names) (front back : Path) → 0 ≢ length back → blocked names (front ++ back) ≡ None → get names front ≡ Some Dir
prefix_is_dir names front back some free = prefix_from names [] front back some free

taken_none : (node : Option Node) → taken node ≡ None → node ≡ None
taken_none None e = refl
taken_none (Some node) e = absurd (cc e)

pub file_there : (node : Option Node) → no_file node ≡ None → (inode : ℕ) × (node ≡ Some (File inode))
file_there None e = absurd (cc e)
file_there (Some Dir) e = absurd (cc e)
file_there (Some (File inode)) e = (inode, refl)
file_there (Some (Sym target)) e = absurd (cc e)

-- a file that stands can be read still, when another name is made
module _ (s : FsState) (from to : Path) (readable : refusal s (ReadsAt from) ≡ None) (creatable : refusal s (Creates to) ≡ None) where
  named : (inode : ℕ) × (get s.names from ≡ Some (File inode))
  named = file_there (get s.names from) (none_second (blocked s.names from) (no_file (get s.names from)) readable)

  free_name : get s.names to ≡ None
  free_name = taken_none (get s.names to) (none_second (blocked s.names to) (taken (get s.names to)) creatable)

  differs : from ≢ to
  differs same = let is = named.1 in let none = free_name in let e : get s.names from ≡ get s.names to = ap (get s.names) same in cc (is, none, e)

  pub still_readable : (node : Option Node) → or_else (blocked (set_name s.names to node) from) (no_file (get (set_name s.names to node) from)) ≡ None
  still_readable node =
      (λ i. or_else (blocked_set s.names to node from apart i) (no_file (set_name_other s.names to node from differs i))) ∙ readable
    where
      apart : (front back : Path) → from ≡ front ++ back → 0 ≢ length back → front ≢ to
      apart front back whole some same =
          let dir = prefix_is_dir s.names front back some (ap (blocked s.names) (sym whole) ∙ none_first (blocked s.names from) (no_file (get s.names from)) readable) in
          let none = free_name in
          let e : get s.names front ≡ get s.names to = ap (get s.names) same in
          cc (dir, none, e)

  pub source_stays : (inode : ℕ) (bytes any : List ℕ) → get s.bytes inode ≡ None → file_bytes s from ≡ Some bytes → 0 < length bytes → file_bytes (with_bytes (apply s (NewFile to inode)) inode any) from ≡ Some bytes
  source_stays inode bytes any none source some =
      let (k, is) = named in
      let same : bytes ≡ bytes_of s.bytes k = (let e = named_bytes s from k is in cc (e, source)) in
      let apart : k ≢ inode = λ e.
      let empty : bytes ≡ [] = same ∙ (λ i. unwrap_or (get s.bytes (e i)) []) ∙ ap (λ found. unwrap_or found []) none in
      (let no = ap length empty in absurd (omega (arith, no, some)))
      in
      named_bytes (with_bytes (apply s (NewFile to inode)) inode any) from k (set_name_other s.names to (Some (File inode)) from differs ∙ is)
      ∙ ap (λ found. Some (unwrap_or found [])) (insert_other (insert s.bytes inode []) inode any k apart ∙ insert_other s.bytes inode [] k apart)
      ∙ ap (λ b. Some b) (sym same)

-- the bytes of an inode that are set twice
shadowed : {X : Type 0} (b : Bool) (x y z : X) → cond b x (cond b y z) ≡ cond b x z
shadowed true x y z = refl
shadowed false x y z = refl

insert_twice : {X : Type 0} (m : FinMap nat_cmp X) (j : ℕ) (x y : X) → insert (insert m j x) j y ≡ insert m j y
insert_twice m j x y =
    same_map nat_cmp_total nat_cmp-IsAntisymmetric (insert (insert m j x) j y) (insert m j y) (λ q.
    get-insert nat_cmp_total (insert m j x) j y q
    ∙ ap (λ found. cond (eq_by_cmp nat_cmp q j) (Some y) found) (get-insert nat_cmp_total m j x q)
    ∙ shadowed (eq_by_cmp nat_cmp q j) (Some y) (Some x) (get m q)
    ∙ sym (get-insert nat_cmp_total m j y q))

with_bytes_twice : (s : FsState) (inode : ℕ) (a b : List ℕ) → with_bytes (with_bytes s inode a) inode b ≡ with_bytes s inode b
with_bytes_twice s inode a b = λ i. record s { bytes = insert_twice s.bytes inode a b i; dirty = insert_twice s.dirty inode tt tt i }

pub overwritten_end : (old piece : List ℕ) (n : ℕ) → n ≡ length old → overwritten old n piece ≡ old ++ piece
overwritten_end old piece n is =
    let front : take n old ≡ old = take_all n old (omega (arith, is)) in
    let none : n - length old ≡ 0 = omega (arith, is) in
    let back : drop (n + length piece) old ≡ [] = drop_all (n + length piece) old (omega (arith, is)) in
    (λ i. front i ++ replicate (none i) 0 ++ piece ++ back i)
    ∙ append-nil-bytes ((old ++ []) ++ piece)
    ∙ ap (λ front. front ++ piece) (append-nil-bytes old)

-- a copy that has come so far
module _ (start : FsState) (from to : Path) (bytes : List ℕ) (done count : ℕ) (buffer : List ℕ) (t : FsState) (copying : Copying start from to bytes done count buffer t) where
  pub made_since : IsMadeSince start t to
  made_since inode is =
      let (made, none, whole) = copying.made in
      let here : get t.names to ≡ Some (File made) = ap (λ s. get s.names to) whole ∙ set_name_here start.names to (Some (File made)) in
      let same : inode ≡ made = (let e = sym is ∙ here in cc) in
      ap (get start.bytes) same ∙ none

  pub writable : (at : ℕ) (piece : List ℕ) → refusal t (WritesAt to at piece) ≡ None
  writable at piece = ap (λ s. refusal s (WritesAt to at piece)) copying.made.2 ∙ created_writable start to copying.made.0 at piece copying.creatable

  pub readable_still : refusal t (ReadsAt from) ≡ None
  readable_still = ap (λ s. refusal s (ReadsAt from)) copying.made.2 ∙ still_readable start from to copying.readable copying.creatable (Some (File copying.made.0))

  -- how many bytes the piece has
  pub inside : done + count ≤ length bytes
  inside = (let is = copying.next.count_is in let below = copying.inside in omega arith)

  pub source_still : 0 < count → file_bytes t from ≡ Some bytes
  source_still some =
      ap (λ s. file_bytes s from) copying.made.2
      ∙ source_stays start from to copying.readable copying.creatable copying.made.0 bytes (take done bytes) copying.made.1 copying.source (let below = inside in omega arith)

  -- the piece is written behind what is done
  pub piece_written : (old new : Trail) → t ≡ old.present → Steps (WritesAt to done (take count buffer)) None old new → MakesFile start to (take (done + count) bytes) new.present
  piece_written old new here steps =
      let (effect, free, (inode, is_named, is), present) = present_after (WritesAt to done (take count buffer)) old new steps in
      let (made, none, whole) = copying.made in
      let now : old.present ≡ with_bytes (apply start (NewFile to made)) made (take done bytes) = sym here ∙ whole in
      let there : get old.present.names to ≡ Some (File made) = ap (λ s. get s.names to) now ∙ set_name_here start.names to (Some (File made)) in
      let same : inode ≡ made = (let e = sym is_named ∙ there in cc) in
      let has : bytes_of old.present.bytes inode ≡ take done bytes =
      ap (bytes_of old.present.bytes) same ∙ ap (λ s. bytes_of s.bytes made) now ∙ ap (λ found. unwrap_or found []) (insert_here (insert start.bytes made []) made (take done bytes)) in
      let long : done ≡ length (take done bytes) = (let below = copying.inside in omega (arith, length-take done bytes)) in
      let written : overwritten (bytes_of old.present.bytes inode) done (take count buffer) ≡ take (done + count) bytes =
      (λ i. overwritten (has i) done (copying.next.piece i))
      ∙ overwritten_end (take done bytes) (take count (drop done bytes)) done long
      ∙ sym (take-add done count bytes) in
      (made, none, present ∙ ap (apply old.present) is ∙ (λ i. with_bytes (now i) (same i) (written i)) ∙ with_bytes_twice (apply start (NewFile to made)) made (take done bytes) (take (done + count) bytes))

  -- the piece behind the last has no bytes
  pub all_done : count ≡ 0 → 0 < length buffer → (done ≡ length bytes) × MakesFile start to bytes t
  all_done none room =
      let is = copying.next.count_is in
      let below = copying.inside in
      let end : done ≡ length bytes = omega arith in
      (end, subst (λ b. MakesFile start to b t) (take_all done bytes (omega arith)) copying.made)

-- after the piece was written, and the next was read
module _ (start : FsState) (from to : Path) (bytes : List ℕ) (done count : ℕ) (buffer : List ℕ) (t : FsState) (copying : Copying start from to bytes done count buffer t)
    (old mid : Trail) (here : t ≡ old.present) (steps : Steps (WritesAt to done (take count buffer)) None old mid) where
  made_mid : MakesFile start to (take (done + count) bytes) mid.present
  made_mid = piece_written start from to bytes done count buffer t copying old mid here steps

  pub readable_then : refusal mid.present (ReadsAt from) ≡ None
  readable_then = ap (λ s. refusal s (ReadsAt from)) made_mid.2 ∙ still_readable start from to copying.readable copying.creatable (Some (File made_mid.0))

  source_mid : 0 < count → file_bytes mid.present from ≡ Some bytes
  source_mid some =
      ap (λ s. file_bytes s from) made_mid.2
      ∙ source_stays start from to copying.readable copying.creatable made_mid.0 bytes (take (done + count) bytes) made_mid.1 copying.source (let below = inside start from to bytes done count buffer t copying in omega arith)

  pub going_on : 0 < count → (size : ℕ) (after : List ℕ) (new : FsState) → new ≡ mid.present → size ≡ length bytes → (result : Result ℕ FsError)
      → IfOk result (λ next. (b : List ℕ) → file_bytes mid.present from ≡ Some b → size ≡ length b → IsPiece b (done + count) next after)
      → IfOk result (λ next. Copying start from to bytes (done + count) next after new)
  going_on some size after new same is (Ok next) read = record {
    readable = copying.readable;
    creatable = copying.creatable;
    source = copying.source;
    made = subst (MakesFile start to (take (done + count) bytes)) (sym same) made_mid;
    inside = inside start from to bytes done count buffer t copying;
    next = read bytes (source_mid some) is;
  }
  going_on some size after new same is (Err error) read = tt

-- the copy begins with a new file that has no bytes
pub copying_starts : (from to : Path) (bytes : List ℕ) (first : ℕ) (buffer : List ℕ) (old mid : Trail) → refusal old.present (ReadsAt from) ≡ None → file_bytes old.present from ≡ Some bytes → IsPiece bytes 0 first buffer
    → Steps (Creates to) None old mid → Copying old.present from to bytes 0 first buffer mid.present
copying_starts from to bytes first buffer old mid readable source piece created =
    let (inode, none, whole, free) = after_create to bytes old mid created in
    record {
      readable = readable;
      creatable = free;
      source = source;
      made = (inode, none, whole ∙ sym (with_bytes_twice (with_change old.present ((to, Some (File inode)) ∷ [])) inode [] []));
      inside = omega arith;
      next = piece;
    }
