use Rattle.cluster_gen.proofs.Clusters.{old_joined}
use Rattle.cluster_gen.proofs.pair.put_old.Goals as goal

pub returns : goal.returns
returns c = old_joined c.args.tables c.in_ok-cluster.cluster c.args.parts.now.items c.put_places.new.parts.items c.put_app.new.parts.items c.put_places-2.new.parts.items c.in_ok-cluster.ensures c.in_ok-put_places.ensures c.in_ok-put_app.ensures c.in_ok-put_places-2.ensures
