-- The sum so far.
use Rattle.std.proofs.Common.{◌≡◌, ◌*◌, ◌≤◌}
use Rattle.duality.specs.Sums.{times}
use Rattle.draw.proofs.pricing.multiply.Given as goal

abbrev pub invariant-loop-k : goal.invariant-loop-k
invariant-loop-k g l = (l.total ≡ times g.P.Price.ops.zero g.P.Price.ops.plus l.k l.price) × (g.P.Price.ops.size l.total ≤ 1000 * l.k)
