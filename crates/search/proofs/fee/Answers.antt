-- Two bends are of a size at most twice that of one.
use Rattle.std.proofs.Common.{◌≤◌, sym, ap, subst, arith, rules}
use Rattle.search.proofs.fee.Goals as goal

pub returns-in-Some-clause-small : goal.returns-in-Some-clause-small
returns-in-Some-clause-small g c =
    let size = g.T.Price.Price.ops.size in
    let p = c.bend_price-price.result in
    let one : size p ≤ 1000 =
    subst (λ z. size z ≤ 1000) (sym c.bend_price-price.ensures) (g.met.T.Tariff.small _ _ _ (search rules)) in
    omega (arith, ap size c.add.ensures, g.met.T.Price.Price.laws.size_plus p p, one)
