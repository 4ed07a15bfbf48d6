-- Visits stay sound; while nothing changed no leg before the index has just one station visited.
use Rattle.plan_check.proofs.Spreading.{Kept}
use Rattle.plan_check.proofs.connect.spread.Given as goal

abbrev pub invariant-loop-leg : goal.invariant-loop-leg
invariant-loop-leg l = Kept l.legs l.initial.visited l.leg-index l.changed l.visited
