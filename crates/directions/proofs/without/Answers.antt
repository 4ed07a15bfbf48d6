-- Fresh places hold 0, and the table holds what its closure says.
use Rattle.std.proofs.Common.{false, eqb, arith, rules}
use Rattle.std.proofs.lemmas.List.{get_or-replicate}
use Rattle.survey.specs.Ends.{station}
use Rattle.embedding.proofs.Telling.{holds_told}
use Rattle.directions.specs.Tallies.{chosen_at}
use Rattle.directions.proofs.without.Goals as goal

pub tally_stations-requires-clause-blank : goal.tally_stations-requires-clause-blank
tally_stations-requires-clause-blank c e l = get_or-replicate 10000 e 0 0 l

pub returns : goal.returns
returns c =
    let legs = c.args.cave.now.legs.now in
    holds_told false (λ e. eqb (chosen_at legs c.args.chosen.now (station legs e)) 0) _ (omega arith) c.table.ensures.told (λ e v l p. search rules)
