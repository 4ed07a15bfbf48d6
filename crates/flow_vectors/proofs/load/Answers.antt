-- One side more, and in the end all.
use Rattle.std.proofs.Common.{sym, ap, ◌∙◌, ⊎_elim, arith}
use Rattle.search.specs.Sides.{no_side}
use Rattle.search.proofs.Sweep.{at_set}
use Rattle.flow_vectors.specs.Networks.{side_from_lem}
use Rattle.flow_vectors.proofs.Loaded.{proper}
use Rattle.flow_vectors.proofs.load.Goals as goal

pub loop-s-preserved : goal.loop-s-preserved
loop-s-preserved c k h =
    ⊎_elim
    (λ e. e.1 ∙ c.side_from.ensures ∙ ap (side_from_lem c.args.numbers.now c.args.nodes) (sym e.0))
    (λ e. let ne = e.0 in e.1 ∙ c.loop-s.invariant k (omega arith))
    (at_set c.loop-s.sides c.loop-s.s k c.side_from.result no_side (omega (arith, c.loop-s-test.true, c.loop-s.auto.sides)))

pub returns : goal.returns
returns c =
    proper c.args.numbers.now c.args.nodes c.loop-s.sides c.requires.0 (omega (arith, c.loop-s.auto.sides, c.requires.2)) (let e = c.loop-s.auto.sides in omega (arith, c.requires.3))
    (λ k b. c.loop-s.invariant k (omega (arith, c.loop-s-test.false, c.loop-s.auto.sides)))
