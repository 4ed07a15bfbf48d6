-- A root ends the way, and a tight side leads it on.
use Rattle.std.proofs.Common.{suc, ◌<◌, take, sym, ap, ◌∙◌, subst, arith, ltb-true}
use Rattle.search.specs.declared.Label.{Label}
use Rattle.search.specs.Labels.{label_at}
use Rattle.search.specs.Networks.{units}
use Rattle.search.specs.Priced.{priced}
use Rattle.solve.specs.Chains.{Way, root, back}
use Rattle.solve.proofs.Held.{label_read}
use Rattle.solve.proofs.is_supplied.Goals as goal

pub returns-then-label_at : goal.returns-then-label_at
returns-then-label_at g c h =
    let e = label_read g.T.Price.Price.ops c.args.network.now.nodes c.args.labels.now.places.now c.loop.at c.label_at.result c.loop.invariant.0 (c.label_at.ensures.held (omega (arith, c.loop.invariant.0, c.requires.labels.0))) in
    c.loop.invariant.1 (record { from = c.loop.at; sides = 0; way = root (ap (λ (m : Label g.row.T-Price.Denot). m.end) (sym e) ∙ c.if-label_at.true); some = ltb-true _ _ h })

pub loop-preserved : goal.loop-preserved
loop-preserved g c =
    let o = g.T.Price.Price.ops in
    let n = c.args.network.now.nodes in
    let w = priced o g.T.Tariff.rate c.args.network.now in
    let label = label_at o (take n c.args.labels.now.places.now) in
    let side = units c.args.came_by.now in
    let tight = c.is_tight.ensures c.if-not-is_tight.false in
    let low : (label c.loop.at).end < 65534 = (let b = tight.by in let l = c.args.network.now.proper.low (side c.loop.at) tight.inside in omega arith) in (
      c.args.network.now.proper.inside c.twin.result c.twin.ensures.inside,
      λ on. c.loop.invariant.1 (record {
        from = on.from;
        sides = suc on.sides;
        way = back low tight (subst (λ z. Way o w side label (units c.args.flow.now) (w.node z) on.from on.sides) c.twin.ensures.value on.way);
        some = on.some;
      }),
    )
