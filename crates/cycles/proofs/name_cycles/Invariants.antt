-- The cycles whose least number is before the index are named.
use Rattle.embedding.specs.Tables.{Holds}
use Rattle.cycles.specs.Cycles.{named_below}
use Rattle.cycles.proofs.name_cycles.Given as goal

abbrev pub invariant-loop-e : goal.invariant-loop-e
invariant-loop-e l = Holds 0 (named_below l.steps l.n l.e) l.names l.n
