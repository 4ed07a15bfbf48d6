-- So many steps of the walk are taken, and what was met has its name.
use Rattle.cycles.proofs.Naming.{Walked}
use Rattle.cycles.proofs.name_cycle.Given as goal

abbrev pub invariant-loop-k : goal.invariant-loop-k
invariant-loop-k l = Walked l.steps l.n l.e l.k l.at l.initial.names l.names
