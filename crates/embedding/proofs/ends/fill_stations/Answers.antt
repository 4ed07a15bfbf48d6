-- The table holds what its closure says.
use Rattle.std.proofs.Common.{arith, rules}
use Rattle.survey.specs.Ends.{station}
use Rattle.embedding.proofs.Telling.{holds_told}
use Rattle.embedding.proofs.ends.fill_stations.Goals as goal

pub returns : goal.returns
returns c = holds_told 0 (station c.args.legs.now) _ (omega arith) c.fill.ensures.told (λ e v l p. search rules)
