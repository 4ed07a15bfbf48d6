-- The numbers before the index are tallied.
use Rattle.std.proofs.Common.{length}
use Rattle.embedding.specs.Tables.{Holds}
use Rattle.cycles.specs.Cycles.{tallied}
use Rattle.cycles.proofs.tally.Given as goal

abbrev pub invariant-loop-k : goal.invariant-loop-k
invariant-loop-k l = Holds 0 (tallied l.keys l.chosen l.k) l.tallies (length l.initial.tallies)
