-- The bends of the legs before the index are added up.
use Rattle.std.proofs.Common.{◌≡◌, ◌+◌, ◌*◌, ◌≤◌, get_or}
use Rattle.duality.specs.Sums.{sum}
use Rattle.draw.specs.Tables.{straight}
use Rattle.draw.proofs.drawings.Drawing.bends.Given as goal

abbrev pub invariant-loop-bends : goal.invariant-loop-bends
invariant-loop-bends l = (l.total ≡ sum 0 ◌+◌ l.bends-index (λ i. (get_or l.self.bends i straight).left + (get_or l.self.bends i straight).right)) × (l.total ≤ 131070 * l.bends-index)
