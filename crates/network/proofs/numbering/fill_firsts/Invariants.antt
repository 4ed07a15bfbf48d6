-- The lowest ends of the stations, among the ends from the index on.
use Rattle.std.proofs.Common.{◌≡◌, length}
use Rattle.embedding.specs.Tables.{Holds}
use Rattle.network.specs.Tables.{lowest_from}
use Rattle.network.proofs.numbering.fill_firsts.Given as goal

abbrev pub invariant-loop-e : goal.invariant-loop-e
invariant-loop-e l = record { long : length l.firsts ≡ 10000; lowest : Holds 0 (lowest_from l.cave.legs.now l.e) l.firsts 10000 }
