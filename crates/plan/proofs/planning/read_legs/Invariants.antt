-- The legs before the index are read.
use Rattle.std.proofs.Common.{◌≡◌, take}
use Rattle.plan.proofs.planning.read_legs.Given as goal

abbrev pub invariant-loop-i : goal.invariant-loop-i
invariant-loop-i g l = l.legs.items ≡ take l.i (g.S.Survey.legs l.survey)
