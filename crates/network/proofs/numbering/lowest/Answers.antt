-- Fresh places hold the number of ends, and the table of stations tells the lowest end of an end's station.
use Rattle.std.proofs.Common.{◌≡◌, get_or, ◌∙◌, arith, rules}
use Rattle.std.proofs.lemmas.List.{get_or-replicate}
use Rattle.survey.specs.Ends.{station}
use Rattle.embedding.proofs.Distinct.{station_lt}
use Rattle.embedding.proofs.Telling.{holds_told}
use Rattle.shape.specs.Nodes.{lowest_at}
use Rattle.network.proofs.Lowest.{from_first}
use Rattle.network.proofs.numbering.lowest.Goals as goal

pub fill_firsts-requires-clause-blank : goal.fill_firsts-requires-clause-blank
fill_firsts-requires-clause-blank c e l = get_or-replicate 10000 e c.ends-n.result 0 l ∙ c.ends-n.ensures

pub returns : goal.returns
returns c =
    let cave = c.args.cave.now in
    let legs = cave.legs.now in
    holds_told 0 (lowest_at legs) _ (omega arith) c.table.ensures.told (λ e v l p.
    let said : v ≡ get_or c.fill_firsts.new.firsts (station legs e) 0 = search rules in
    said ∙ c.fill_firsts.ensures (station legs e) (station_lt legs e cave.valid (omega arith)) ∙ from_first legs e)
