use Rattle.std.proofs.Common.{◌≡◌, true, drop, Option, None}
use Rattle.fs_model.specs.Names.{Path}
use Rattle.fs_model.specs.WellFormed.{WellFormed}
use Rattle.fs_model.specs.Observed.{OnlyReads}
use Rattle.relation_files.specs.Sites.{site_at}
use Rattle.tree_checks.specs.Findings.{IsFirstAmong}
use Rattle.file_checks.specs.RelationFiles.{IsBadRelation}
use Rattle.file_checks.specs.Kept.{AreListings}
use Rattle.file_checks.proofs.files.first_relation.Given as goal

abbrev pub invariant-loop-relation : goal.invariant-loop-relation
invariant-loop-relation g l = record {
  reads : OnlyReads (record { told = g.F.Fs.told l.fn.fs; firm = g.F.Fs.firm l.fn.fs; depth = g.F.Fs.depth l.fn.fs; trail = g.F.Fs.trail l.fn.fs; counts = g.F.Fs.counts l.fn.fs })
      (record { told = g.F.Fs.told l.fs; firm = g.F.Fs.firm l.fs; depth = g.F.Fs.depth l.fs; trail = g.F.Fs.trail l.fs; counts = g.F.Fs.counts l.fs }) None;
  listings : g.F.Fs.told l.fn.fs ≡ true → WellFormed (g.F.Fs.trail l.fn.fs).present → AreListings (g.F.Fs.trail l.fn.fs).present.names (site_at l.site) l.listings;
  rest : g.F.Fs.told l.fn.fs ≡ true → WellFormed (g.F.Fs.trail l.fn.fs).present → (found : Option Path) → IsFirstAmong (IsBadRelation (g.F.Fs.trail l.fn.fs).present.names (site_at l.site)) (drop l.relation-index l.relations) found
      → IsFirstAmong (IsBadRelation (g.F.Fs.trail l.fn.fs).present.names (site_at l.site)) l.relations found;
}
