-- The table holds what its closure says, and no bends past the legs.
use Rattle.std.proofs.Common.{◌+◌, ◌*◌, rules}
use Rattle.search.specs.Networks.{units}
use Rattle.embedding.proofs.Telling.{held_everywhere}
use Rattle.draw.specs.Tables.{straight, doubled}
use Rattle.draw.proofs.filling.bends_of.Goals as goal

pub returns : goal.returns
returns c = held_everywhere straight (λ i. doubled (units c.args.flow.now (2 * i + 1)) (units c.args.flow.now (2 * i))) c.table.ensures.told (λ i l. search rules) (λ i v l p. search rules)
