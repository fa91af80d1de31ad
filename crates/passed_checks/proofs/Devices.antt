-- Where the check of devices finds nothing, each relation's directories have one device.
use Rattle.std.proofs.Common.{◌≡◌, ◌≢◌, ℕ, Bool, true, false, if◌then◌else◌, Option, Some, None, refl, sym, ◌∙◌, ap}
use Rattle.std.specs.Prelude.{◌==◌}
use Rattle.std.specs.List.{Contains}
use Rattle.std.proofs.lemmas.Bool.{eqb-true, eq-eqb}
use Rattle.fs_model.specs.Names.{Path}
use Rattle.fs_model.specs.State.{FsState}
use Rattle.fs_model.specs.Calls.{device_of}
use Rattle.control_file.specs.declared.job.Job.{Job}
use Rattle.catalog.specs.Cluster.{Cluster}
use Rattle.catalog_server.proofs.Members.{to_in}
use Rattle.relation_files.specs.declared.relation.Relation.{Relation}
use Rattle.relation_files.specs.Places.{relation_dir}
use Rattle.relation_files.specs.Relations.{relations_of}
use Rattle.tree_checks.specs.Looks.{kind_at, is_dir}
use Rattle.file_checks.specs.Clusters.{old_site, new_site}
use Rattle.file_checks.specs.Devices.{device_at, IsOtherDevice, IsDeviceDiffers}
use Rattle.phase_facts.specs.CanUpgrade.{HasOneDevice}
use Rattle.passed_checks.proofs.Located.{no_first}

-- what isn't another than Some n is it
same_device : (found : Option ℕ) (n : ℕ) → ((found ≢ Some n) → ⊥) → found ≡ Some n
same_device None n no_other = absurd (no_other (λ e. cc e))
same_device (Some m) n no_other = by (m == n) refl
  where
    by : (b : Bool) → (m == n) ≡ b → Some m ≡ Some n
    by true is = ap Some (eqb-true m n is)
    by false is = absurd (no_other (λ e. (let same : m ≡ n = cc e in let f = eq-eqb m n same in cc (f, is))))

at_dir : (s : FsState) (path : Path) (n : ℕ) → device_at s path ≡ Some n → device_of s path ≡ n
at_dir s path n e = by (is_dir (kind_at s.names path)) e
  where
    by : (b : Bool) → (if b then Some (device_of s path) else None) ≡ Some n → device_of s path ≡ n
    by true e = cc e
    by false e = absurd (cc e)

pub one_device : (s : FsState) (job : Job) (catalog : Cluster) → IsDeviceDiffers s job.old job.new catalog None → (relation : Relation) → Contains (relations_of catalog) relation → HasOneDevice job catalog s relation
one_device s job catalog none relation found dir nearest =
    let alike = no_first (IsOtherDevice s (old_site job.old catalog) (new_site job.new catalog)) (relations_of catalog) none relation (to_in (relations_of catalog) relation found) in
    let old = relation_dir (old_site job.old catalog) relation in
    at_dir s old (device_of s dir) (same_device (device_at s old) (device_of s dir) (λ other. alike (dir, record { on_way = nearest.on_way; stands = nearest.stands; nearest = nearest.nearest }, other)))
