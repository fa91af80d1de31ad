-- Runs that make names.
use Rattle.std.proofs.Common.{◌≡◌, ◌≢◌, ◌≤◌, ◌<◌, ◌+◌, arith, length, slice_index_or, ◌⊎◌, inl, inr, ℕ, List, [], ◌∷◌, Option, Some, None, Result, Ok, Err, OnOk, refl, sym, ◌∙◌, ap, subst}
use Rattle.std.proofs.Math.Nat.{eq-or-lt_of_le}
use Rattle.std.proofs.lemmas.List.{get_or_default}
use Rattle.std.specs.FinMap.{get}
use Rattle.fs_model.specs.declared.node.Node.{Node}
use Rattle.fs_model.specs.declared.node.Node.TheVariants as node
use Rattle.fs_model.specs.declared.effect.Effect.TheVariants.{NewFile}
use Rattle.fs_model.specs.declared.error.FsError.{FsError}
use Rattle.fs_model.specs.Names.{Path}
use Rattle.fs_model.specs.State.{FsState}
use Rattle.fs_model.specs.Effects.{apply, with_change}
use Rattle.fs_model.specs.Calls.{Call, Stats, Lists, ReadsAt, ReadsLink, Creates, WritesAt, MakesDir, MakesSymlink, Links, Renames, Unlinks, RemovesDir, SyncsFile, SyncsDir, refusal, blocked, taken, no_leaf, or_else}
use Rattle.fs_model.specs.Trail.{Trail, Steps, Goes, Since, Unchanged, DecidedBy}
use Rattle.fs_model.proofs.Lookups.{set_name_here, set_name_other, insert_here, insert_other}
use Rattle.fs_model.proofs.Runs.{since_weaker, present_after}
use Rattle.fs_model.proofs.Going.{goes_one, goes_then, goes_since, goes_weaker}
use Rattle.crash_safety.specs.Frame.{IsInside}
use Rattle.crash_safety.specs.Calling.{MakesWithin}
use Rattle.fs_model.proofs.Ways.{none_first, none_second}
use Rattle.fs_tools.proofs.Making.{own_way}
use Rattle.fs_tools.specs.Made.{MakesFile, Makes as MakesAt}
use Rattle.new_names.specs.declared.names.NewName.{NewName}
use Rattle.new_names.specs.declared.names.NewNode.{NewNode}
use Rattle.new_names.specs.declared.names.NewNode.TheVariants.{Dir, File, Sym}
use Rattle.new_names.specs.Frame.{IsListed, MakesOnly, MakesListed}
use Rattle.new_names.specs.Standing.{Has, Makes, Adds, Remakes}
use Rattle.new_names.proofs.Making.{call_only, none_before, free_name, only_start}

-- every state of a run of such calls
pub goes_make_only : (listed : List NewName) (a b : Trail) → Goes (MakesListed listed a.present) a b → Since (MakesOnly listed a.present) a b
goes_make_only listed a b goes =
    goes_since (MakesListed listed a.present) (MakesOnly listed a.present) (λ s call answer effect only makes may. call_only listed a.present s only call answer effect makes may) (only_start listed a.present) goes

-- what is listed of a later beginning is listed of an earlier one
rebased : (listed : List NewName) (a b : FsState) → MakesOnly listed a b → (s : FsState) (call : Call) → MakesListed listed b s call → MakesListed listed a s call
rebased listed a b only s (Stats path) makes = tt
rebased listed a b only s (Lists path) makes = tt
rebased listed a b only s (ReadsAt path) makes = tt
rebased listed a b only s (ReadsLink path) makes = tt
rebased listed a b only s (Creates path) makes = makes
rebased listed a b only s (WritesAt path from bytes) makes = λ inode named. none_before listed a b only inode (makes inode named)
rebased listed a b only s (MakesDir path) makes = makes
rebased listed a b only s (MakesSymlink path target) makes = makes
rebased listed a b only s (Links from to) makes = makes
rebased listed a b only s (Renames from to) makes = makes
rebased listed a b only s (Unlinks path) makes = makes
rebased listed a b only s (RemovesDir path) makes = makes
rebased listed a b only s (SyncsFile path) makes = tt
rebased listed a b only s (SyncsDir path) makes = tt

pub goes_joined : (listed : List NewName) (a b c : Trail) → Goes (MakesListed listed a.present) a b → Goes (MakesListed listed b.present) b c → Goes (MakesListed listed a.present) a c
goes_joined listed a b c front back =
    let only = (goes_make_only listed a b front).present in
    goes_then (MakesListed listed a.present) front (goes_weaker (MakesListed listed b.present) (MakesListed listed a.present) (rebased listed a.present b.present only) back)

-- one call
pub one_listed : (listed : List NewName) (call : Call) (answer : Option FsError) (old new : Trail) → MakesListed listed old.present old.present call → Steps call answer old new → Goes (MakesListed listed old.present) old new
one_listed listed call answer old new makes steps = goes_one (MakesListed listed old.present) call answer old new makes steps

-- the calls that make a listed file
makes_listed : (listed : List NewName) (at : Path) (content : List ℕ) → IsListed listed at (File content) → (a s : FsState) (call : Call) → MakesAt at a s call → MakesListed listed a s call
makes_listed listed at content is_listed a s (Creates path) makes = (content, subst (λ p. IsListed listed p (File content)) (sym makes) is_listed)
makes_listed listed at content is_listed a s (WritesAt path from bytes) makes = makes.1
makes_listed listed at content is_listed a s call makes = absurd makes

pub file_listed : (listed : List NewName) (at : Path) (content : List ℕ) (old new : Trail) → IsListed listed at (File content) → Goes (MakesAt at old.present) old new → Goes (MakesListed listed old.present) old new
file_listed listed at content old new is_listed goes = goes_weaker (MakesAt at old.present) (MakesListed listed old.present) (makes_listed listed at content is_listed old.present) goes

-- where each listed name is inside some directories, each call stays within these
module _ (listed : List NewName) (tops : List Path) (inside : (path : Path) (what : NewNode) → IsListed listed path what → IsInside tops path) (start s : FsState) where
  pub listed_within : (call : Call) → MakesListed listed start s call → MakesWithin tops start s call
  listed_within (Stats path) makes = (tt, tt)
  listed_within (Lists path) makes = (tt, tt)
  listed_within (ReadsAt path) makes = (tt, tt)
  listed_within (ReadsLink path) makes = (tt, tt)
  listed_within (Creates path) (bytes, is_listed) = (inside path (File bytes) is_listed, tt)
  listed_within (WritesAt path from bytes) makes = (makes, tt)
  listed_within (MakesDir path) (is_listed, formed) = (inside path Dir is_listed, tt)
  listed_within (MakesSymlink path target) makes = (inside path (Sym target) makes, tt)
  listed_within (Links from to) makes = absurd makes
  listed_within (Renames from to) makes = absurd makes
  listed_within (Unlinks path) (what, is_listed) = (inside path what is_listed, tt)
  listed_within (RemovesDir path) makes = absurd makes
  listed_within (SyncsFile path) makes = (tt, tt)
  listed_within (SyncsDir path) makes = (tt, tt)

-- ---- what stands

pub has_adds : (s t : FsState) → Adds s t → (path : Path) (what : NewNode) → Has s path what → Has t path what
has_adds s t adds path Dir has = adds.names path node.Dir has
has_adds s t adds path (File bytes) (inode, named, is) = (inode, adds.names path (node.File inode) named, adds.bytes inode bytes is)
has_adds s t adds path (Sym target) has = adds.names path (node.Sym target) has

pub adds_itself : (s : FsState) → Adds s s
adds_itself s = record { names = λ path found is. is; bytes = λ inode bytes is. is }

pub adds_then : (s t u : FsState) → Adds s t → Adds t u → Adds s u
adds_then s t u front back = record { names = λ path found is. back.names path found (front.names path found is); bytes = λ inode bytes is. back.bytes inode bytes (front.bytes inode bytes is) }

module _ (s : FsState) (path : Path) (absent : get s.names path ≡ None) where
  kept_name : (found : Option Node) (q : Path) (stood : Node) → get s.names q ≡ Some stood → get (with_change s ((path, found) ∷ [])).names q ≡ Some stood
  kept_name found q stood is =
      set_name_other s.names path found q (λ same. absurd (let none : get s.names q ≡ None = ap (get s.names) same ∙ absent in cc (none, is))) ∙ is

  other : (inode i : ℕ) (bytes : List ℕ) → get s.bytes inode ≡ None → get s.bytes i ≡ Some bytes → i ≢ inode
  other inode i bytes none is same = let gone : get s.bytes i ≡ None = ap (get s.bytes) same ∙ none in cc (gone, is)

  file_adds : (bytes : List ℕ) (t : FsState) → MakesFile s path bytes t → Adds s t
  file_adds bytes t (inode, none, is) = record {
    names = λ q stood named. ap (λ x. get x.names q) is ∙ kept_name (Some (node.File inode)) q stood named;
    bytes = λ i found has. ap (λ x. get x.bytes i) is
        ∙ insert_other (apply s (NewFile path inode)).bytes inode bytes i (other inode i found none has)
        ∙ insert_other s.bytes inode [] i (other inode i found none has) ∙ has;
  }

  pub makes_adds : (what : NewNode) (t : FsState) → Makes s path what t → Adds s t
  makes_adds Dir t is = record { names = λ q stood named. ap (λ x. get x.names q) is ∙ kept_name (Some node.Dir) q stood named; bytes = λ i found has. ap (λ x. get x.bytes i) is ∙ has }
  makes_adds (File bytes) t makes = file_adds bytes t makes
  makes_adds (Sym target) t is = record { names = λ q stood named. ap (λ x. get x.names q) is ∙ kept_name (Some (node.Sym target)) q stood named; bytes = λ i found has. ap (λ x. get x.bytes i) is ∙ has }

pub file_stands : (s : FsState) (path : Path) (bytes : List ℕ) (t : FsState) → MakesFile s path bytes t → Has t path (File bytes)
file_stands s path bytes t (inode, none, is) = (
  inode,
  ap (λ x. get x.names path) is ∙ set_name_here s.names path (Some (node.File inode)),
  ap (λ x. get x.bytes inode) is ∙ insert_here (apply s (NewFile path inode)).bytes inode bytes,
)

pub makes_stands : (s : FsState) (path : Path) (what : NewNode) (t : FsState) → Makes s path what t → Has t path what
makes_stands s path Dir t is = ap (λ x. get x.names path) is ∙ set_name_here s.names path (Some node.Dir)
makes_stands s path (File bytes) t makes = file_stands s path bytes t makes
makes_stands s path (Sym target) t is = ap (λ x. get x.names path) is ∙ set_name_here s.names path (Some (node.Sym target))

pub free_absent : (s : FsState) (path : Path) → refusal s (Creates path) ≡ None → get s.names path ≡ None
free_absent s path free = free_name (get s.names path) (none_second (blocked s.names path) (taken (get s.names path)) free)

pub remakes : (old mid : Trail) (path : Path) (bytes : List ℕ) (t : FsState) → Steps (Unlinks path) None old mid → MakesFile mid.present path bytes t → Remakes old.present path bytes t
remakes old mid path bytes t unlinked made =
    let (effect, free, does, present) = present_after (Unlinks path) old mid unlinked in
    let gone : mid.present ≡ with_change old.present ((path, None) ∷ []) = present ∙ ap (apply old.present) does in
    record {
      file = file_stands mid.present path bytes t made;
      names = λ q apart. ap (λ x. get x.names q) made.2 ∙ set_name_other mid.present.names path (Some (node.File made.0)) q apart ∙ ap (λ x. get x.names q) gone ∙ set_name_other old.present.names path None q apart;
      bytes = λ i found has.
          let there : get mid.present.bytes i ≡ Some found = ap (λ x. get x.bytes i) gone ∙ has in
          let apart : i ≢ made.0 = λ same. (let none : get mid.present.bytes i ≡ None = ap (get mid.present.bytes) same ∙ made.1 in cc (none, there)) in
          ap (λ x. get x.bytes i) made.2
          ∙ insert_other (apply mid.present (NewFile path made.0)).bytes made.0 bytes i apart
          ∙ insert_other mid.present.bytes made.0 [] i apart ∙ there;
    }

pub ok_remakes : {T : Type 0} (result : Result T FsError) (old mid : Trail) (path : Path) (bytes : List ℕ) (t : FsState) → Steps (Unlinks path) None old mid → OnOk result (MakesFile mid.present path bytes t) → OnOk result (Remakes old.present path bytes t)
ok_remakes (Ok value) old mid path bytes t unlinked made = remakes old mid path bytes t unlinked made
ok_remakes (Err error) old mid path bytes t unlinked made = tt

-- what was just removed may be made anew
pub removed_free : (old mid : Trail) (path : Path) → Steps (Unlinks path) None old mid → refusal mid.present (Creates path) ≡ refusal old.present (Unlinks path)
removed_free old mid path unlinked =
    let (effect, free, does, present) = present_after (Unlinks path) old mid unlinked in
    let gone : mid.present ≡ with_change old.present ((path, None) ∷ []) = present ∙ ap (apply old.present) does in
    let way : blocked old.present.names path ≡ None = none_first (blocked old.present.names path) (no_leaf (get old.present.names path)) free in
    ap (λ s. refusal s (Creates path)) gone
    ∙ (λ i. or_else (own_way old.present.names path None i) (taken (set_name_here old.present.names path None i)))
    ∙ ap (λ w. or_else w None) way ∙ sym free

pub ok_free : {T : Type 0} (result : Result T FsError) (s : FsState) (path : Path) → DecidedBy (refusal s (Creates path)) result → OnOk result (get s.names path ≡ None)
ok_free (Ok value) s path decided = free_absent s path decided
ok_free (Err error) s path decided = tt

-- one name more
pub stands_next : (names : List NewName) (index : ℕ) (s t : FsState) (item : NewName) → index < length names → item ≡ slice_index_or names index item → Adds s t → Has t item.path item.node
    → ((k : ℕ) (name : NewName) → k < index → slice_index_or names k name ≡ name → Has s name.path name.node)
    → (k : ℕ) (name : NewName) → k < index + 1 → slice_index_or names k name ≡ name → Has t name.path name.node
stands_next names index s t item below is adds here before k name under at =
    let within : k ≤ index = omega (arith, under) in by (eq-or-lt_of_le within)
  where
    by : (k ≡ index) ⊎ (k < index) → Has t name.path name.node
    by (inr earlier) = has_adds s t adds name.path name.node (before k name earlier at)
    by (inl same) =
        let one : name ≡ item = sym at ∙ ap (λ j. slice_index_or names j name) same ∙ get_or_default names index name item below ∙ sym is in
        subst (λ n. Has t n.path n.node) (sym one) here

-- what isn't there now wasn't there before
absent_before : (s t : FsState) → Adds s t → (path : Path) → get t.names path ≡ None → get s.names path ≡ None
absent_before s t adds path gone = was (get s.names path) (adds.names path)
  where
    was : (found : Option Node) → ((stood : Node) → found ≡ Some stood → get t.names path ≡ Some stood) → found ≡ None
    was None kept = refl
    was (Some stood) kept = absurd (let e = kept stood refl in cc (e, gone))

pub absent_next : (names : List NewName) (index : ℕ) (start s : FsState) (item : NewName) → index < length names → item ≡ slice_index_or names index item → Adds start s → get s.names item.path ≡ None
    → ((k : ℕ) (name : NewName) → k < index → slice_index_or names k name ≡ name → get start.names name.path ≡ None)
    → (k : ℕ) (name : NewName) → k < index + 1 → slice_index_or names k name ≡ name → get start.names name.path ≡ None
absent_next names index start s item below is adds gone before k name under at =
    let within : k ≤ index = omega (arith, under) in by (eq-or-lt_of_le within)
  where
    by : (k ≡ index) ⊎ (k < index) → get start.names name.path ≡ None
    by (inr earlier) = before k name earlier at
    by (inl same) =
        let one : name ≡ item = sym at ∙ ap (λ j. slice_index_or names j name) same ∙ get_or_default names index name item below ∙ sym is in
        ap (λ (n : NewName). get start.names n.path) one ∙ absent_before start s adds item.path gone
