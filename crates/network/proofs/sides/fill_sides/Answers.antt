-- The sides are what the closure makes of their numbers.
use Rattle.std.proofs.Common.{arith, rules}
use Rattle.embedding.proofs.Telling.{holds_told}
use Rattle.search.specs.Sides.{no_side}
use Rattle.shape.specs.Units.{plan_side}
use Rattle.network.proofs.sides.fill_sides.Goals as goal

pub returns : goal.returns
returns c = record {
  count = omega arith;
  each = holds_told no_side (plan_side c.args.nodes.now.faces.rotation.cave.legs.now) _ (omega arith) c.fill.ensures.told (λ e v l p. search rules);
}
