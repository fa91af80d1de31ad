-- What a replay makes of the files.
use Rattle.std.proofs.Common.{◌≡◌, ◌≢◌, ◌∙◌, ◌⊎◌, inl, inr, ℕ, true, List, [], ◌∷◌, ◌++◌, Option, Some, None, Result, Ok, Err, OnOk, refl, sym, ap, subst}
use Rattle.std.specs.Prelude.{option_map}
use Rattle.std.specs.List.{Contains}
use Rattle.std.specs.Option.{unwrap_or}
use Rattle.std.specs.FinMap.{get}
use Rattle.fs_model.specs.declared.node.Node.{Node}
use Rattle.fs_model.specs.declared.node.Node.TheVariants as node
use Rattle.fs_model.specs.Names.{Path}
use Rattle.fs_model.specs.State.{FsState}
use Rattle.fs_model.specs.Trail.{Trail, Goes, Unchanged, DecidedBy}
use Rattle.fs_model.specs.declared.error.FsError.{FsError}
use Rattle.fs_model.specs.declared.error.FsError.TheVariants as error
use Rattle.control_file.specs.declared.releases.Release.{Release}
use Rattle.catalog.specs.Cluster.{Cluster}
use Rattle.dump_grammar.specs.declared.error.TextError.{TextError}
use Rattle.dump_grammar.specs.Canonical.{canonical}
use Rattle.new_names.specs.declared.names.NewName.{NewName}
use Rattle.new_names.specs.declared.names.NewNode.{NewNode}
use Rattle.new_names.specs.declared.names.NewNode.TheVariants.{Dir, File, Sym}
use Rattle.new_names.specs.Frame.{MakesListed}
use Rattle.new_names.specs.Room.{HasRoomFor}
use Rattle.new_names.specs.Standing.{Has, AllStand, Adds, Remakes}
use Rattle.new_names.proofs.Runs.{goes_joined}
use Rattle.new_names.proofs.Looking.{unchanged_listed}
use Rattle.catalog_server.specs.Profile.{catalog_path, profile_of, seen, seen_at, Seen, DirSeen, FileSeen, LinkSeen}
use Rattle.catalog_server.specs.ReplayNames.{new_names, listed_names}
use Rattle.catalog_server.specs.Replayed.{if_it_fits, replayed, replayed_over}
use Rattle.catalog_server.specs.ServerFrame.{names_between, ReplayCalls}
use Rattle.catalog_server.specs.Answers.{IsUnrefused}
use Rattle.server_profile.specs.Reading.{if_short, text_of, text_in, catalog_in, server_error}
use Rattle.server_profile.specs.Planned.{IsPlanOf}
use Rattle.server_profile.proofs.ReadTexts.{text_of_profile}
use Rattle.server_profile.proofs.Listing.{contains_left, contains_last, contains_or_last}

-- the file's content is seen
pub seen_content : (s : FsState) (path : Path) (content : List ℕ) → Has s path (File content) → seen_at s path ≡ Some (FileSeen content)
seen_content s path content (inode, named, is) = ap (option_map (seen s.bytes)) named ∙ ap (λ found. Some (FileSeen (unwrap_or found []))) is

-- where a file is seen, one stands
file_stands : (s : FsState) (path : Path) (content : List ℕ) → seen_at s path ≡ Some (FileSeen content) → get s.names path ≢ None
file_stands s path content is gone = let e : None ≡ seen_at s path = sym (ap (option_map (seen s.bytes)) gone) in cc (e, is)

-- what stood beside a file still stands once that was made anew
has_remade : (s t : FsState) (at : Path) (content : List ℕ) → Remakes s at content t → (path : Path) (what : NewNode) → path ≢ at → Has s path what → Has t path what
has_remade s t at content r path Dir apart has = r.names path apart ∙ has
has_remade s t at content r path (File bytes) apart (inode, named, is) = (inode, r.names path apart ∙ named, r.bytes inode bytes is)
has_remade s t at content r path (Sym target) apart has = r.names path apart ∙ has

pub all_stand : (start mid t : FsState) (names : List NewName) (at : Path) (content found : List ℕ) → seen_at start at ≡ Some (FileSeen found) → ((name : NewName) → Contains names name → get start.names name.path ≡ None)
    → AllStand mid names → Remakes mid at content t → AllStand t (names ++ record { path = at; node = File content } ∷ [])
all_stand start mid t names at content found stood absent stands r name among = by (contains_or_last names (record { path = at; node = File content }) name among)
  where
    by : Contains names name ⊎ (name ≡ record { path = at; node = File content }) → Has t name.path name.node
    by (inl first) = has_remade mid t at content r name.path name.node (λ same. absurd (file_stands start at found stood (ap (get start.names) (sym same) ∙ absent name first))) (stands name first)
    by (inr last) = subst (λ (n : NewName). Has t n.path n.node) (sym last) r.file

-- ---- the plan

module _ (root : Path) (release : Release) (standing text : List ℕ) (names : List NewName) (content : List ℕ) (plan : IsPlanOf root release standing text names content) (s : FsState) (stood : text_of (profile_of s root) ≡ Ok standing) where
  pub read_before : catalog_in (text_of (profile_of s root)) ≡ Ok plan.before
  read_before = ap catalog_in stood ∙ plan.loaded

  pub read_after : replayed_over (catalog_in (text_of (profile_of s root))) text ≡ Ok plan.after
  read_after = ap (λ r. replayed_over r text) read_before ∙ plan.leads

  pub planned_names : names ++ record { path = catalog_path root; node = File content } ∷ [] ≡ listed_names root release plan.before plan.after
  planned_names = λ i. plan.names_are i ++ record { path = catalog_path root; node = File (plan.content_is i) } ∷ []

  pub frame_names : names_between root release (catalog_in (text_of (profile_of s root))) (replayed_over (catalog_in (text_of (profile_of s root))) text) ≡ names ++ record { path = catalog_path root; node = File content } ∷ []
  frame_names = (λ i. names_between root release (read_before i) (read_after i)) ∙ sym planned_names

  -- the catalogs are those of the plan
  pub planned_pair : (before after : Cluster) → catalog_in (text_of (profile_of s root)) ≡ Ok before → replayed before text ≡ Ok after → names ++ record { path = catalog_path root; node = File content } ∷ [] ≡ listed_names root release before after
  planned_pair before after is leads =
      let same_before : plan.before ≡ before = (let e = sym read_before ∙ is in cc e) in
      let same_after : plan.after ≡ after = (let e = sym plan.leads ∙ ap (λ c. replayed c text) same_before ∙ leads in cc e) in
      planned_names ∙ (λ i. listed_names root release (same_before i) (same_after i))

  pub read_anew : (t : FsState) → seen_at t (catalog_path root) ≡ Some (FileSeen content) → catalog_in (text_of (profile_of t root)) ≡ Ok plan.after
  read_anew t is = ap catalog_in (text_of_profile t root ∙ ap text_in is ∙ plan.short) ∙ plan.loads

pub ok_all_stand : {T E : Type 0} (result : Result T E) (start mid t : FsState) (names : List NewName) (at : Path) (content found : List ℕ) → seen_at start at ≡ Some (FileSeen found) → ((name : NewName) → Contains names name → get start.names name.path ≡ None)
    → AllStand mid names → OnOk result (Remakes mid at content t) → OnOk result (AllStand t (names ++ record { path = at; node = File content } ∷ []))
ok_all_stand (Ok value) start mid t names at content found stood absent stands r = all_stand start mid t names at content found stood absent stands r
ok_all_stand (Err error) start mid t names at content found stood absent stands r = tt

-- where a text is read a file stands
pub text_stands : (found : Option Seen) (text : List ℕ) → text_in found ≡ Ok text → (content : List ℕ) × (found ≡ Some (FileSeen content))
text_stands None text e = absurd (cc e)
text_stands (Some DirSeen) text e = absurd (cc e)
text_stands (Some (FileSeen content)) text e = (content, refl)
text_stands (Some (LinkSeen target)) text e = absurd (cc e)

module _ (root : Path) (release : Release) (standing text : List ℕ) (names : List NewName) (content : List ℕ) (plan : IsPlanOf root release standing text names content) (old mid : Trail) (unchanged : Unchanged old mid) (stood : text_of (profile_of old.present root) ≡ Ok standing) (at : Path) (at_is : at ≡ catalog_path root) where
  pub file_there : (found : List ℕ) × (seen_at mid.present at ≡ Some (FileSeen found))
  file_there =
      let there : text_in (seen_at old.present (catalog_path root)) ≡ Ok standing = sym (text_of_profile old.present root) ∙ stood in
      let (found, is) = text_stands (seen_at old.present (catalog_path root)) standing there in
      (found, (λ i. seen_at (unchanged.present i) (at_is i)) ∙ is)

  pub replay_calls : (new : Trail) → Goes (MakesListed (names ++ record { path = at; node = File content } ∷ []) mid.present) mid new
      → Goes (ReplayCalls root release (catalog_in (text_of (profile_of old.present root))) text old.present) old new
  replay_calls new goes =
      let listed : List NewName = names ++ record { path = catalog_path root; node = File content } ∷ [] in
      let back : Goes (MakesListed listed mid.present) mid new = subst (λ p. Goes (MakesListed (names ++ record { path = p; node = File content } ∷ []) mid.present) mid new) at_is goes in
      subst (λ l. Goes (MakesListed l old.present) old new) (sym (frame_names root release standing text names content plan old.present stood)) (goes_joined listed old mid new (unchanged_listed listed old mid unchanged) back)

  pub read_calls : Goes (ReplayCalls root release (catalog_in (text_of (profile_of old.present root))) text old.present) old mid
  read_calls = unchanged_listed (names_between root release (catalog_in (text_of (profile_of old.present root))) (replayed_over (catalog_in (text_of (profile_of old.present root))) text)) old mid unchanged

  pub replay_room : (before after : Cluster) → catalog_in (text_of (profile_of old.present root)) ≡ Ok before → replayed before text ≡ Ok after → HasRoomFor old.present (new_names root release before after) → HasRoomFor mid.present names
  replay_room before after is leads room =
      let same_before : plan.before ≡ before = (let e = sym (read_before root release standing text names content plan old.present stood) ∙ is in cc e) in
      let same_after : plan.after ≡ after = (let e = sym plan.leads ∙ ap (λ c. replayed c text) same_before ∙ leads in cc e) in
      let all : names ≡ new_names root release before after = plan.names_are ∙ (λ i. new_names root release (same_before i) (same_after i)) in
      subst (HasRoomFor mid.present) (sym all) (subst (λ s. HasRoomFor s (new_names root release before after)) (sym unchanged.present) room)

  pub replay_made : (t : FsState) → AllStand t (names ++ record { path = at; node = File content } ∷ []) → (before after : Cluster) → catalog_in (text_of (profile_of old.present root)) ≡ Ok before → replayed before text ≡ Ok after → AllStand t (listed_names root release before after)
  replay_made t stand before after is leads =
      subst (AllStand t) (planned_pair root release standing text names content plan old.present stood before after is leads) (subst (λ p. AllStand t (names ++ record { path = p; node = File content } ∷ [])) at_is stand)

  pub replay_leads : (t : FsState) → seen_at t at ≡ Some (FileSeen content) → (c : Cluster) × (replayed_over (catalog_in (text_of (profile_of old.present root))) text ≡ Ok c) × (catalog_in (text_of (profile_of t root)) ≡ Ok c)
  replay_leads t is = (
    plan.after,
    read_after root release standing text names content plan old.present stood,
    read_anew root release standing text names content plan old.present stood t (ap (seen_at t) (sym at_is) ∙ is),
  )

-- where a file is seen, an inode has the name
pub seen_inode : (s : FsState) (path : Path) (content : List ℕ) → seen_at s path ≡ Some (FileSeen content) → (inode : ℕ) × (get s.names path ≡ Some (node.File inode))
seen_inode s path content is = by (get s.names path) is
  where
    by : (found : Option Node) → option_map (seen s.bytes) found ≡ Some (FileSeen content) → (inode : ℕ) × (found ≡ Some (node.File inode))
    by None e = absurd (cc e)
    by (Some node.Dir) e = absurd (cc e)
    by (Some (node.File inode)) e = (inode, refl)
    by (Some (node.Sym target)) e = absurd (cc e)

-- an error that is no refusal isn't told as one
pub unrefused : (T : Type 0) (e : FsError) → DecidedBy {T = Unit {0}} None (Err e) → IsUnrefused {T = T} (Err (server_error e))
unrefused T error.NotFound decided = absurd (cc decided)
unrefused T error.Exists decided = absurd (cc decided)
unrefused T error.NotDir decided = absurd (cc decided)
unrefused T error.WrongKind decided = absurd (cc decided)
unrefused T error.NotEmpty decided = absurd (cc decided)
unrefused T error.CrossDevice decided = absurd (cc decided)
unrefused T error.CrossDir decided = absurd (cc decided)
unrefused T error.Failed decided = refl
unrefused T error.OutOfMemory decided = tt
