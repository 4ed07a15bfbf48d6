-- A unit is on its way.
use Rattle.std.proofs.Common.{ℕ, take}
use Rattle.search.specs.Labels.{label_at}
use Rattle.search.specs.Networks.{units}
use Rattle.search.specs.Priced.{priced}
use Rattle.solve.proofs.Ways.{On}
use Rattle.solve.proofs.send.Given as goal

abbrev pub invariant-loop : goal.invariant-loop
invariant-loop g l =
    (u : ℕ) × On g.T.Price.Price.ops l.network.nodes (priced g.T.Price.Price.ops g.T.Tariff.rate l.network) (units l.came_by) (label_at g.T.Price.Price.ops (take l.network.nodes l.labels.places.now)) (units l.initial.flow) (units l.flow) l.v u l.at l.counter
