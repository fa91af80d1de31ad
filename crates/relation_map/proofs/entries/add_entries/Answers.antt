use Rattle.std.proofs.Common.{◌∙◌, ◌++◌, ◌∷◌, [], sym, refl, ap}
use Rattle.relation_files.specs.Sites.{site_at}
use Rattle.relation_map.specs.declared.map.MapEntry.{MapEntry}
use Rattle.relation_map.specs.Pairs.{entry_among, entry_with}
use Rattle.relation_map.proofs.Lists.{adding_one}
use Rattle.relation_map.proofs.Knowing.{none_known}
use Rattle.relation_map.proofs.entries.add_entries.Goals as goal

pub loop-i-init : goal.loop-i-init
loop-i-init c = record {
  entries = refl;
  from = none_known (site_at c.args.old_site.now) c.args.database c.new-from.result c.new-from.ensures;
  to = none_known (site_at c.args.new_site.now) c.args.database c.new-to.result c.new-to.ensures;
}

pub loop-i-preserved : goal.loop-i-preserved
loop-i-preserved c =
    let from = site_at c.args.old_site.now in
    let to = site_at c.args.new_site.now in
    let x = c.in-Some.named.now in
    let made = c.in_ok-entry_of-in-Some.ensures in
    record {
      entries = adding_one (entry_among from to c.args.database c.args.new.now) c.args.old.now c.loop-i.i x c.loop-i.entries.items c.push.new.self.items _ (sym c.in-Some.ensures)
          (c.in_ok-push-in-Some.ensures.items ∙ ap (λ (e : MapEntry). c.loop-i.entries.items ++ e ∷ []) (made.entry ∙ ap (entry_with from to c.args.database x) c.of.ensures)) c.loop-i.invariant.entries;
      from = made.from;
      to = made.to;
    }
