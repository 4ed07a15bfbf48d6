-- The price of one leg more is added.
use Rattle.std.proofs.Common.{◌≡◌, ℕ, ◌+◌, get_or, sym, ap, ◌∙◌, add-one, arith}
use Rattle.duality.specs.Sums.{sum, times}
use Rattle.network.proofs.Ranges.{weight_le}
use Rattle.shape.specs.Shapes.{leg_at}
use Rattle.draw.specs.Tables.{straight}
use Rattle.draw.proofs.pricing.price_bends.Goals as goal

pub multiply-requires : goal.multiply-requires
multiply-requires g c =
    let i = c.loop-i.i in
    let cave = c.args.cave.now in
    let b = c.requires.few i (omega arith) in
    let w = weight_le cave.legs.now i cave.valid (omega arith) in
    let k = c.total.ensures.both in
    let e = ap g.T.Price.Price.ops.size c.bend_price-bend.ensures in
    let s = g.met.T.Tariff.small c.args.tariff.now (leg_at cave.legs.now i).weight (leg_at cave.legs.now i).wet w in
    record { count = omega arith; small = omega arith }

pub loop-i-init : goal.loop-i-init
loop-i-init g c = let z = ap g.T.Price.Price.ops.size c.zero-total.ensures in let s = g.met.T.Price.Price.laws.size_zero in (c.zero-total.ensures, omega arith)

pub add-total-requires : goal.add-total-requires
add-total-requires g c =
    let b = c.requires.few c.loop-i.i (omega arith) in
    let k = c.total.ensures.both in
    let s = c.multiply.ensures.small in
    let i = c.loop-i.invariant.1 in
    omega arith

-- the bends counted are the leg's, by arithmetic
pub loop-i-preserved : goal.loop-i-preserved
loop-i-preserved g c =
    let o = g.T.Price.Price.ops in
    let legs = c.args.cave.now.legs.now in
    let i = c.loop-i.i in
    let n : ℕ → ℕ = λ i. (get_or c.args.bends.now i straight).left + (get_or c.args.bends.now i straight).right in
    let f : ℕ → g.row.T-Price.Denot = λ i. times o.zero o.plus (n i) (g.T.Tariff.rate c.args.tariff.now (leg_at legs i).weight (leg_at legs i).wet) in
    let b = c.requires.few i (omega arith) in
    let k = c.total.ensures.both in
    let m : c.multiply.result ≡ f i = c.multiply.ensures.value ∙ ap (λ (count : ℕ). times o.zero o.plus count c.bend_price-bend.result) (omega arith) ∙ ap (λ (p : g.row.T-Price.Denot). times o.zero o.plus (n i) p) c.bend_price-bend.ensures in
    let e = c.add-total.ensures in
    let s = ap o.size e in
    let z = g.met.T.Price.Price.laws.size_plus c.loop-i.total c.multiply.result in
    let y = c.multiply.ensures.small in
    let x = c.loop-i.invariant.1 in (
      e ∙ (λ t. o.plus (c.loop-i.invariant.0 t) (m t)) ∙ sym (ap (λ n. sum o.zero o.plus n f) (add-one i)),
      omega arith,
    )
