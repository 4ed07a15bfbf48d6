-- One price more is added.
use Rattle.std.proofs.Common.{sym, ap, ◌∙◌, add-one, arith}
use Rattle.duality.specs.Sums.{times}
use Rattle.draw.proofs.pricing.multiply.Goals as goal

pub loop-k-init : goal.loop-k-init
loop-k-init g c = let z = ap g.P.Price.ops.size c.zero-total.ensures in let s = g.met.P.Price.laws.size_zero in (c.zero-total.ensures, omega arith)

pub loop-k-preserved : goal.loop-k-preserved
loop-k-preserved g c =
    let o = g.P.Price.ops in
    let p = c.args.price in
    let k = c.loop-k.k in
    let e = c.add-total.ensures in
    let s = ap o.size e in
    let b = g.met.P.Price.laws.size_plus c.loop-k.total p in
    let i = c.loop-k.invariant.1 in
    let m = c.requires.small in (
      e ∙ ap (λ (t : g.row.P.Denot). o.plus t p) c.loop-k.invariant.0 ∙ sym (ap (λ n. times o.zero o.plus n p) (add-one k)),
      omega arith,
    )
