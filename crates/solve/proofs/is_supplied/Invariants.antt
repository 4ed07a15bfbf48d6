-- A way back from here would be one from v.
use Rattle.std.proofs.Common.{◌<◌, take}
use Rattle.search.specs.Demands.{gives_of}
use Rattle.search.specs.Labels.{label_at}
use Rattle.search.specs.Networks.{units}
use Rattle.search.specs.Priced.{priced}
use Rattle.solve.specs.Chains.{Supplied}
use Rattle.solve.proofs.is_supplied.Given as goal

abbrev pub invariant-loop : goal.invariant-loop
invariant-loop g l =
    let w = priced g.T.Price.Price.ops g.T.Tariff.rate l.network in
    let label = label_at g.T.Price.Price.ops (take (l.network.nodes) l.labels.places.now) in
    (l.at < l.network.nodes)
    × (Supplied g.T.Price.Price.ops w (units l.came_by) label (units l.flow) (gives_of l.left) l.at → Supplied g.T.Price.Price.ops w (units l.came_by) label (units l.flow) (gives_of l.left) l.v)
