-- The best end is the nearest of those that the rest of the chain does not hold.
use Rattle.rotation.proofs.Chain.{bound}
use Rattle.rotation.proofs.Passed.{Nearest}
use Rattle.rotation.proofs.nearest.Given as goal

abbrev pub invariant-loop-rest : goal.invariant-loop-rest
invariant-loop-rest l = Nearest l.cave.legs.now l.e l.rest l.best l.least

abbrev pub decreases-loop-rest : goal.decreases-loop-rest
decreases-loop-rest l = bound l.rest
