-- The price of the legs before the index.
use Rattle.std.proofs.Common.{◌≡◌, ◌+◌, ◌*◌, ◌≤◌, get_or}
use Rattle.duality.specs.Sums.{sum, times}
use Rattle.shape.specs.Shapes.{leg_at}
use Rattle.draw.specs.Tables.{straight}
use Rattle.draw.proofs.pricing.price_bends.Given as goal

abbrev pub invariant-loop-i : goal.invariant-loop-i
invariant-loop-i g l =
    let o = g.T.Price.Price.ops in
    (l.total ≡ sum o.zero o.plus l.i (λ i. times o.zero o.plus ((get_or l.bends i straight).left + (get_or l.bends i straight).right) (g.T.Tariff.rate l.tariff (leg_at l.cave.legs.now i).weight (leg_at l.cave.legs.now i).wet)))
    × (o.size l.total ≤ 4000000 * l.i)
