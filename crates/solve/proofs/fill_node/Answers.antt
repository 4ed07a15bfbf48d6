-- A unit more leaves the flow labelled.
use Rattle.std.proofs.Common.{arith}
use Rattle.solve.proofs.fill_node.Goals as goal

pub loop-left-preserved : goal.loop-left-preserved
loop-left-preserved g c = record {
  labelled = c.ship.ensures.labelled;
  onward = λ p q h. c.ship.ensures.onward p q (c.loop-left.invariant.onward p q h);
  less = omega arith;
}
