-- The labels of the rounds so far, among the first so many places.
use Rattle.std.proofs.Common.{◌≡◌, length, take}
use Rattle.search.specs.Labels.{Lower, Roots}
use Rattle.search.specs.Sides.{residual}
use Rattle.search.proofs.Going.{Going}
use Rattle.search.proofs.network.Network.settle.Given as goal

abbrev pub invariant-loop : goal.invariant-loop
invariant-loop g l =
    Lower g.T.Price.Price.ops (take l.self.nodes l.initial.labels.places.now) (take l.self.nodes l.labels.places.now)
    × Roots g.T.Price.Price.ops (take l.self.nodes l.initial.labels.places.now) (take l.self.nodes l.labels.places.now)
    × Going g.met.T.Price.Price.laws (length l.self.sides.now) (residual g.T.Price.Price.ops (g.T.Tariff.rate l.self.tariff.now) l.self.sides.now l.flow) l.self.nodes l.counter (take l.self.nodes l.labels.places.now)
    × (l.labels.used ≡ l.initial.labels.used)
    × (length l.labels.places.now ≡ length l.initial.labels.places.now)
    × (l.labels.places.ghost_name ≡ l.initial.labels.places.ghost_name)
