-- The flow stays labelled, and no unit comes to the givers.
use Rattle.std.proofs.Common.{◌≤◌, take}
use Rattle.search.specs.Demands.{wants_of, gives_of}
use Rattle.search.specs.Labels.{label_at}
use Rattle.search.specs.Networks.{units}
use Rattle.search.specs.Priced.{priced}
use Rattle.solve.specs.Chains.{Labelled, Onward, total}
use Rattle.solve.proofs.fill_nodes.Given as goal

abbrev pub invariant-loop-v : goal.invariant-loop-v
invariant-loop-v g l =
    let w = priced g.T.Price.Price.ops g.T.Tariff.rate l.network in
    let n = l.network.nodes in
    record {
      labelled : Labelled g.T.Price.Price.ops n w (label_at g.T.Price.Price.ops (take n l.labels.places.now)) (units l.flow);
      onward : Onward n w (wants_of l.initial.left) (gives_of l.initial.left) (units l.initial.flow) (wants_of l.left) (gives_of l.left) (units l.flow);
      less : total n (gives_of l.left) ≤ total n (gives_of l.initial.left);
    }
