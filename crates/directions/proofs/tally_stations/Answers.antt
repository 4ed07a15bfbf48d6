-- The keys are stations, and the tally counts by them.
use Rattle.std.proofs.Common.{ap, ◌∙◌, arith}
use Rattle.embedding.proofs.Distinct.{station_lt}
use Rattle.cycles.specs.Cycles.{tallied}
use Rattle.directions.proofs.Chosen.{tallied_at}
use Rattle.directions.proofs.tally_stations.Goals as goal

pub tally-requires-clause-inside : goal.tally-requires-clause-inside
tally-requires-clause-inside c k l =
    let cave = c.args.cave.now in
    let a = c.stations.ensures k (omega arith) in
    let b = station_lt cave.legs.now k cave.valid (omega arith) in
    omega arith

pub tally-requires-clause-blank : goal.tally-requires-clause-blank
tally-requires-clause-blank c e l = c.requires.blank e (omega arith)

pub returns : goal.returns
returns c e l = c.tally.ensures e (omega arith) ∙ ap (λ n. tallied c.stations.result c.args.chosen.now n e) c.ends.ensures ∙ tallied_at c.args.cave.now.legs.now c.stations.result c.args.chosen.now c.stations.ensures e
