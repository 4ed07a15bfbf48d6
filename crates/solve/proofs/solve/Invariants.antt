-- The flow is underway, and what it leaves is told in the demands' places; each search sends a unit.
use Rattle.std.proofs.Common.{◌≡◌, ◌≤◌, length}
use Rattle.search.specs.Demands.{wants_of, gives_of}
use Rattle.search.specs.Networks.{units}
use Rattle.search.specs.Priced.{priced}
use Rattle.solve.specs.Solutions.{Leaves}
use Rattle.solve.specs.Chains.{Underway, total}
use Rattle.solve.proofs.solve.Given as goal

abbrev pub invariant-loop-came_by : goal.invariant-loop-came_by
invariant-loop-came_by g l =
    let w = priced g.T.Price.Price.ops g.T.Tariff.rate l.network in
    let n = l.network.nodes in
    record {
      underway : Underway g.T.Price.Price.ops n w (units l.flow);
      leaves : Leaves n w (wants_of l.initial.left) (gives_of l.initial.left) (wants_of l.left) (gives_of l.left) (units l.flow);
      used : n ≤ l.labels.used;
      long : length l.labels.places.now ≡ length l.initial.labels.places.now;
      lender : l.labels.places.ghost_name ≡ l.initial.labels.places.ghost_name;
    }

abbrev pub decreases-loop-came_by : goal.decreases-loop-came_by
decreases-loop-came_by g l = total (l.network.nodes) (gives_of l.left)
