-- One node more is filled.
use Rattle.std.proofs.Common.{arith}
use Rattle.solve.proofs.fill_nodes.Goals as goal

pub loop-v-preserved : goal.loop-v-preserved
loop-v-preserved g c = record {
  labelled = c.fill_node.ensures.labelled;
  onward = λ p q h. c.fill_node.ensures.onward p q (c.loop-v.invariant.onward p q h);
  less = omega arith;
}
