-- The labels are those of the tries so far.
use Rattle.std.proofs.Common.{◌≡◌, false}
use Rattle.search.specs.Moves.{swept}
use Rattle.search.specs.Sides.{residual}
use Rattle.search.proofs.network.Network.round.Given as goal

abbrev pub invariant-loop-s : goal.invariant-loop-s
invariant-loop-s g l =
    (record { changed = l.changed; labels = l.labels.places.now } ≡ swept g.T.Price.Price.ops (record { changed = false; labels = l.initial.labels.places.now }) (residual g.T.Price.Price.ops (g.T.Tariff.rate l.self.tariff.now) l.self.sides.now l.flow) l.s)
    × (l.labels.used ≡ l.initial.labels.used)
    × (l.labels.places.ghost_name ≡ l.initial.labels.places.ghost_name)
