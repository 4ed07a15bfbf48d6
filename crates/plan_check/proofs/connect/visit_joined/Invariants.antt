-- Visits stay sound; each round has fewer legs without both stations visited.
use Rattle.plan_check.specs.Visits.{Sound, open_legs}
use Rattle.plan_check.proofs.connect.visit_joined.Given as goal

abbrev pub invariant-loop : goal.invariant-loop
invariant-loop l = Sound l.legs l.visited

abbrev pub decreases-loop : goal.decreases-loop
decreases-loop l = open_legs l.legs l.visited
