-- The sides so far are indexed.
use Rattle.std.proofs.Common.{◌≡◌, ℕ, ◌<◌, take}
use Rattle.search.specs.Labels.{label_at}
use Rattle.search.specs.Networks.{units}
use Rattle.search.specs.Sides.{side_at, CanOpen}
use Rattle.solve.proofs.index_sides.Given as goal

abbrev pub invariant-loop-s : goal.invariant-loop-s
invariant-loop-s g l = (k : ℕ) → k < l.s → CanOpen l.network.sides.now k → (label_at g.T.Price.Price.ops (take l.network.nodes l.labels.places.now) (side_at l.network.sides.now k).node).end ≡ (side_at l.network.sides.now k).end → units l.came_by (side_at l.network.sides.now k).node ≡ k
