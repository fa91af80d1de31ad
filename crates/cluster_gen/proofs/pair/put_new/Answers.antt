use Rattle.cluster_gen.proofs.Clusters.{new_joined}
use Rattle.cluster_gen.proofs.pair.put_new.Goals as goal

pub returns : goal.returns
returns c = new_joined c.in_ok-cluster.cluster c.args.parts.now.items c.put_places.new.parts.items c.put_places-2.new.parts.items c.in_ok-cluster.ensures c.in_ok-put_places.ensures c.in_ok-put_places-2.ensures
