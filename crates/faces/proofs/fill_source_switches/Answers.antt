-- The table holds what its closure says.
use Rattle.std.proofs.Common.{false, arith, rules}
use Rattle.embedding.specs.Demands.{source_switch}
use Rattle.embedding.proofs.Telling.{holds_told}
use Rattle.faces.proofs.fill_source_switches.Goals as goal

pub returns : goal.returns
returns c = holds_told false (source_switch c.args.legs.now) _ (omega arith) c.fill.ensures.told (λ e v l p. search rules)
