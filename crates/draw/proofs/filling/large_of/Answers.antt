-- The table holds what its closure says, and nothing past the ends.
use Rattle.std.proofs.Common.{◌+◌, ◌*◌, false, ltb, rules}
use Rattle.search.specs.Networks.{units}
use Rattle.embedding.proofs.Telling.{held_everywhere}
use Rattle.draw.proofs.filling.large_of.Goals as goal

pub returns : goal.returns
returns c = held_everywhere false (λ e. ltb 0 (units c.args.flow.now (c.args.ends + 2 * e))) c.table.ensures.told c.table.ensures.rest (λ e v l p. search rules)
