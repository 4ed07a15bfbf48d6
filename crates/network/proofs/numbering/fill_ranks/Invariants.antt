-- The numbers before the index have their ranks.
use Rattle.std.proofs.Common.{◌≡◌, ◌≤◌}
use Rattle.embedding.specs.Tables.{Holds}
use Rattle.network.specs.Tables.{rank}
use Rattle.network.proofs.numbering.fill_ranks.Given as goal

abbrev pub invariant-loop-k : goal.invariant-loop-k
invariant-loop-k l = Holds 0 (rank l.marks) l.ranks l.k × (l.total ≡ rank l.marks l.k) × (l.total ≤ l.k)
