-- The table holds what its closure says.
use Rattle.std.proofs.Common.{false, arith, rules}
use Rattle.embedding.specs.Demands.{turns_over}
use Rattle.embedding.proofs.Telling.{holds_told}
use Rattle.directions.proofs.turns.Goals as goal

pub returns : goal.returns
returns c = holds_told false (turns_over c.args.rotation.now.cave.legs.now) _ (omega arith) c.table.ensures.told (λ e v l p. search rules)
