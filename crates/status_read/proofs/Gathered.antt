-- The parts that a pass over the names of a directory has gathered.
use Rattle.std.proofs.Math.Seq.{drop-cons}
use Rattle.std.proofs.Common.{◌≡◌, ◌∙◌, ℕ, suc, ◌+◌, length, drop, get_or, ◌<◌, ◌^◌, ◌++◌, ◌∷◌, [], Bool, true, false, cond, if◌then◌else◌, ◌||◌, List, inl, inr, Option, Some, None, refl, ap, sym, subst, eq-eqb, ne_eqb, lt-ltb, le-ltb, arith}
use Rattle.std.specs.Prelude.{is_some, MatchOption, IfSome, nat_lt}
use Rattle.std.specs.List.{AllByRecursion, filter_map, cons_option}
use Rattle.std.specs.Option.{option_map}
use Rattle.std.specs.Ordering.{nat_cmp, eq_by_cmp}
use Rattle.std.specs.Cmp.{nat_cmp_total, unsigned_tied}
use Rattle.std.specs.FinMap as map
use Rattle.std.specs.FinMap.{FinMap, get-from_entries}
use Rattle.std.proofs.lemmas.Bool.{cases_eq, cases_lt}
use Rattle.fs_model.specs.declared.node.Node.{Node}
use Rattle.fs_model.specs.declared.node.Node.TheVariants.{Dir, File, Sym}
use Rattle.fs_model.specs.Names.{Path}
use Rattle.fs_model.specs.State.{Names, FsState}
use Rattle.fs_model.specs.Effects.{bytes_of}
use Rattle.fs_model.specs.Reading.{file_bytes, inode_of_node}
use Rattle.fs_model.specs.Calls.{child_name, children}
use Rattle.xact_status.specs.Files.{SegmentFiles}
use Rattle.fs_tools.specs.Walked.{IsAmong}
use Rattle.fs_tools.proofs.Naming.{key_among, name_of_child, among_all}
use Rattle.cluster_meaning.specs.Status.{segment_name, status_files}
use Rattle.status_read.specs.Segments.{segment_number, AddsNumbered, IsPart, HasPart, Gathers}
use Rattle.status_read.proofs.SegmentNames.{named, name_of}

-- ---- look-ups among parts

found_in : (P : ℕ × List ℕ → Type 0) (parts : List (ℕ × List ℕ)) (n : ℕ) → AllByRecursion P parts → IfSome (map.find nat_cmp n parts) (λ bytes. P (n, bytes))
found_in P [] n all = tt
found_in P (part ∷ parts) n all =
    elim (cases_eq n part.0) [
      | inl same ↦ subst (λ b. IfSome (cond b (Some part.1) (map.find nat_cmp n parts)) (λ bytes. P (n, bytes))) (sym (unsigned_tied n part.0 ∙ eq-eqb n part.0 same)) (subst (λ k. P (k, part.1)) (sym same) all.0)
      | inr apart ↦ subst (λ b. IfSome (cond b (Some part.1) (map.find nat_cmp n parts)) (λ bytes. P (n, bytes))) (sym (unsigned_tied n part.0 ∙ ne_eqb n part.0 apart)) (found_in P parts n all.1)
    ]

either : (b : Bool) (o : Option (List ℕ)) (x : List ℕ) → is_some o ≡ true → is_some (cond b (Some x) o) ≡ true
either true o x is = refl
either false o x is = is

still : (parts more : List (ℕ × List ℕ)) (n : ℕ) → is_some (map.find nat_cmp n parts) ≡ true → is_some (map.find nat_cmp n (parts ++ more)) ≡ true
still [] more n is = absurd (cc is)
still (part ∷ parts) more n is =
    elim (eq_by_cmp nat_cmp n part.0) as (λ b. is_some (cond b (Some part.1) (map.find nat_cmp n parts)) ≡ true → is_some (cond b (Some part.1) (map.find nat_cmp n (parts ++ more))) ≡ true) [
      | true ↦ λ _. refl
      | false ↦ λ found. still parts more n found
    ] is

last_found : (parts : List (ℕ × List ℕ)) (n : ℕ) (bytes : List ℕ) → is_some (map.find nat_cmp n (parts ++ (n, bytes) ∷ [])) ≡ true
last_found [] n bytes = ap (λ b. is_some (cond b (Some bytes) None)) (unsigned_tied n n ∙ eq-eqb n n refl)
last_found (part ∷ parts) n bytes = either (eq_by_cmp nat_cmp n part.0) (map.find nat_cmp n (parts ++ (n, bytes) ∷ [])) part.1 (last_found parts n bytes)

all_weaker : (P Q : List ℕ → Type 0) → ((x : List ℕ) → P x → Q x) → (xs : List (List ℕ)) → AllByRecursion P xs → AllByRecursion Q xs
all_weaker P Q goes [] all = tt
all_weaker P Q goes (x ∷ xs) all = (goes x all.0, all_weaker P Q goes xs all.1)

all_push : {X : Type 0} (P : X → Type 0) (xs : List X) (x : X) → AllByRecursion P xs → P x → AllByRecursion P (xs ++ x ∷ [])
all_push P [] x all holds = (holds, tt)
all_push P (y ∷ ys) x all holds = (all.0, all_push P ys x all.1 holds)

-- the names that are left, from the next one on
pub drop_one : {X : Type 0} (xs : List X) (i : ℕ) (x : X) → i < length xs → x ≡ get_or xs i x → drop i xs ≡ x ∷ drop (i + 1) xs
drop_one xs i x lt is =
    let next : suc i ≡ i + 1 = omega arith in
    drop-cons xs i x lt ∙ ap (λ j. get_or xs i x ∷ drop j xs) next ∙ ap (λ y. y ∷ drop (i + 1) xs) (sym is)

-- ---- one name more

module _ (s : FsState) (dir : Path) where
  pub gathers_none : (parts : List (ℕ × List ℕ)) → parts ≡ [] → Gathers s dir [] parts
  gathers_none parts none = record { parts_are = subst (AllByRecursion (IsPart s dir)) (sym none) tt; each = tt }

  gathers_by : (names : List (List ℕ)) (name : List ℕ) (number : Option ℕ) (old new : List (ℕ × List ℕ)) → segment_number name ≡ number
      → Gathers s dir names old → AddsNumbered s dir name number old new → Gathers s dir (names ++ name ∷ []) new
  gathers_by names name None old new is so_far same =
      subst (Gathers s dir (names ++ name ∷ [])) (sym same)
      (record { parts_are = so_far.parts_are; each = all_push (HasPart old) names name so_far.each (λ n e. absurd (cc (is, e))) })
  gathers_by names name (Some n) old new is so_far added =
      let (bytes, file, same) = added in
      let from = name_of n name is in
      subst (Gathers s dir (names ++ name ∷ [])) (sym same)
      (record {
        parts_are = all_push (IsPart s dir) old (n, bytes) so_far.parts_are (from.0, ap (λ part. file_bytes s (dir ++ part ∷ [])) from.1 ∙ file);
        each = all_push (HasPart (old ++ (n, bytes) ∷ [])) names name
            (all_weaker (HasPart old) (HasPart (old ++ (n, bytes) ∷ [])) (λ other has k e. still old ((n, bytes) ∷ []) k (has k e)) names so_far.each)
            (λ k e. let same_number : n ≡ k = cc (is, e) in subst (λ m. is_some (map.find nat_cmp m (old ++ (n, bytes) ∷ [])) ≡ true) same_number (last_found old n bytes));
      })

  pub gathers_more : (names : List (List ℕ)) (name : List ℕ) (old new : List (ℕ × List ℕ)) → Gathers s dir names old → AddsNumbered s dir name (segment_number name) old new → Gathers s dir (names ++ name ∷ []) new
  gathers_more names name old new so_far added = gathers_by names name (segment_number name) old new refl so_far added

  -- ---- all names

  named_node : (f : ℕ → List ℕ) (node : Option Node) (bytes : List ℕ) → option_map f (inode_of_node node) ≡ Some bytes → is_some node ≡ true
  named_node f None bytes e = absurd (cc e)
  named_node f (Some node) bytes e = refl

  kept : (o : Option (List ℕ)) (names : List (List ℕ)) (x : List ℕ) → IsAmong names x → IsAmong (cons_option o names) x
  kept None names x among = among
  kept (Some y) names x among = inr among

  among_names : (f : Path → Option (List ℕ)) (keys : List Path) (q : Path) (x : List ℕ) → f q ≡ Some x → IsAmong keys q → IsAmong (filter_map f keys) x
  among_names f [] q x is none = absurd none
  among_names f (k ∷ keys) q x is (inl same) = subst (λ o. IsAmong (cons_option o (filter_map f keys)) x) (sym (ap f same ∙ is)) (inl refl)
  among_names f (k ∷ keys) q x is (inr among) = kept (f k) (filter_map f keys) x (among_names f keys q x is among)

  -- a file in the directory is among its names
  file_named : (name bytes : List ℕ) → file_bytes s (dir ++ name ∷ []) ≡ Some bytes → IsAmong (children s.names dir) name
  file_named name bytes file =
      let path : Path = dir ++ name ∷ [] in
      among_names (child_name dir) (map.keys s.names) path name (name_of_child dir name) (key_among s.names path (named_node (bytes_of s.bytes) (map.get s.names path) bytes file))

  absent : (parts : List (ℕ × List ℕ)) (n : ℕ) (file : Option (List ℕ)) → n < 2 ^ 32 → file_bytes s (dir ++ segment_name n ∷ []) ≡ file → Gathers s dir (children s.names dir) parts
      → map.find nat_cmp n parts ≡ None → file ≡ None
  absent parts n None lt is all none = refl
  absent parts n (Some bytes) lt is all none =
      let has : HasPart parts (segment_name n) = among_all (HasPart parts) (children s.names dir) all.each (segment_name n) (file_named (segment_name n) bytes is) in
      absurd (cc (has n (named n (segment_name n) lt refl), ap is_some none))

  found_is : (parts : List (ℕ × List ℕ)) (n : ℕ) (found : Option (List ℕ)) → map.find nat_cmp n parts ≡ found → Gathers s dir (children s.names dir) parts → found ≡ status_files s dir n
  found_is parts n (Some bytes) is all =
      let part : IsPart s dir (n, bytes) = subst (λ o. IfSome o (λ b. IsPart s dir (n, b))) is (found_in (IsPart s dir) parts n all.parts_are) in
      sym (ap (λ b. if b then file_bytes s (dir ++ segment_name n ∷ []) else None) (lt-ltb n (2 ^ 32) part.0) ∙ part.1)
  found_is parts n None is all =
      elim (cases_lt n (2 ^ 32)) [
        | inl lt ↦ sym (ap (λ b. if b then file_bytes s (dir ++ segment_name n ∷ []) else None) (lt-ltb n (2 ^ 32) lt) ∙ absent parts n _ lt refl all is)
        | inr le ↦ sym (ap (λ b. if b then file_bytes s (dir ++ segment_name n ∷ []) else None) (le-ltb n (2 ^ 32) le))
      ]

  -- the parts of all names are the segments of the directory
  pub gathered_all : (parts : List (ℕ × List ℕ)) (segments : FinMap nat_cmp (List ℕ)) → segments ≡ map.from_entries parts → Gathers s dir (children s.names dir) parts
      → ◌≡◌ {A = SegmentFiles} (map.get segments) (status_files s dir)
  gathered_all parts segments is all = λ i n. each n i
    where
      each : (n : ℕ) → map.get segments n ≡ status_files s dir n
      each n = ap (λ (m : FinMap nat_cmp (List ℕ)). map.get m n) is ∙ get-from_entries nat_cmp_total parts n ∙ found_is parts n (map.find nat_cmp n parts) refl all
