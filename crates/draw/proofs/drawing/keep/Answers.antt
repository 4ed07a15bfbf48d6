-- The tables hold the shape that the units make.
use Rattle.std.proofs.Common.{List, [], length, ap, sym, subst, ◌∙◌, arith}
use Rattle.survey.specs.declared.leg.Leg.{Leg}
use Rattle.plan.specs.States.{plan_legs, outer_face}
use Rattle.search.specs.Networks.{units}
use Rattle.shape.specs.Shapes.{Shape, shape_price}
use Rattle.draw.specs.Tables.{shape_of}
use Rattle.draw.specs.Shapes.{LeastShape}
use Rattle.draw.proofs.Kept.{units_small, Filled, bends_small, tables_valid, least_shape}
use Rattle.draw.proofs.drawing.keep.Goals as goal
use Rattle.draw.proofs.drawing.keep.Goals.{After-price_bends-price}

pub bends_of-bends-requires-clause-small : goal.bends_of-bends-requires-clause-small
bends_of-bends-requires-clause-small g c =
    let p = c.args.plan in
    let n = c.count-count.ensures in
    λ k l. units_small (plan_legs p) (outer_face p) (units c.args.flow.now) p.valid c.requires.least.valid k (omega arith)

pub price_bends-price-requires-clause-few : goal.price_bends-price-requires-clause-few
price_bends-price-requires-clause-few g c =
    let p = c.args.plan in
    let s = c.cave.ensures in
    let filled : Filled c.count-count.result (units c.args.flow.now) c.large_of-large.result c.bends_of-bends.result = record { large_at = c.large_of-large.ensures; bends_at = c.bends_of-bends.ensures } in
    λ i l. bends_small (plan_legs p) c.count-count.result c.count-count.ensures (units c.args.flow.now) c.large_of-large.result c.bends_of-bends.result filled (outer_face p) p.valid c.requires.least.valid i (omega (arith, l, ap length s))

pub drawing_of-requires-clause-angles : goal.drawing_of-requires-clause-angles
drawing_of-requires-clause-angles g c =
    let p = c.args.plan in
    let filled : Filled c.count-count.result (units c.args.flow.now) c.large_of-large.result c.bends_of-bends.result = record { large_at = c.large_of-large.ensures; bends_at = c.bends_of-bends.ensures } in
    (tables_valid (plan_legs p) c.count-count.result c.count-count.ensures (units c.args.flow.now) c.large_of-large.result c.bends_of-bends.result filled (outer_face p) c.requires.least.valid).angles

pub returns-clause-shape : goal.returns-clause-shape
returns-clause-shape g c =
    let p = c.args.plan in
    let rate = g.T.Tariff.rate c.args.tariff.now in
    let filled : Filled c.count-count.result (units c.args.flow.now) c.large_of-large.result c.bends_of-bends.result = record { large_at = c.large_of-large.ensures; bends_at = c.bends_of-bends.ensures } in
    let least = least_shape (plan_legs p) c.count-count.result c.count-count.ensures (units c.args.flow.now) c.large_of-large.result c.bends_of-bends.result filled g.met.T.Price.Price.laws rate (outer_face p) c.price_bends-price.result c.requires.least
    (c.price_bends-price.ensures ∙ ap (λ (xs : List Leg). shape_price g.T.Price.Price.ops rate xs (shape_of [] c.bends_of-bends.result)) c.cave.ensures) in
    subst (λ (z : Shape). LeastShape g.T.Price.Price.ops rate (plan_legs p) (outer_face p) z c.price_bends-price.result) (sym c.drawing_of.ensures.shape) least
