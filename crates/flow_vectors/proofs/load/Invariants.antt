-- The sides so far are those of the network.
use Rattle.std.proofs.Common.{◌≡◌, ℕ, ◌<◌}
use Rattle.search.specs.Sides.{side_at}
use Rattle.flow_vectors.specs.Networks.{side_from_lem}
use Rattle.flow_vectors.proofs.load.Given as goal

abbrev pub invariant-loop-s : goal.invariant-loop-s
invariant-loop-s l = (k : ℕ) → k < l.s → side_at l.sides k ≡ side_from_lem l.numbers l.nodes k
