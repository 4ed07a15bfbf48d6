-- A side that passes every test is tight: the order settles the price both ways.
use Rattle.std.proofs.Common.{◌≡◌, ◌<◌, take, sym, ap, ◌∙◌, subst, inl, inr, arith}
use Rattle.search.specs.declared.Label.{Label}
use Rattle.search.specs.Labels.{label_at}
use Rattle.search.specs.Networks.{twin, units, cost_of, cost_by}
use Rattle.search.specs.Priced.{priced}
use Rattle.search.proofs.Residual.{cost_is}
use Rattle.solve.proofs.Held.{label_read}
use Rattle.solve.proofs.is_tight.Goals as goal
use Rattle.solve.proofs.is_tight.Goals.{else-came-eq0-via-then-came-eq0+else-flow-s, else-came-eq0-via-else-came-eq0}

pub returns-then-at_most : goal.returns-then-at_most
returns-then-at_most g c r =
    let o = g.T.Price.Price.ops in
    let L = g.met.T.Price.Price.laws in
    let n = c.args.network.now.nodes in
    let w = priced o g.T.Tariff.rate c.args.network.now in
    let places = c.args.labels.now.places.now in
    let s = c.args.s in
    let f = units c.args.flow.now in
    let e = c.twin-back.ensures.value in
    let from = c.args.network.now.proper.inside c.twin-back.result c.twin-back.ensures.inside in
    let here = label_read o n places c.args.at c.label_at-label.result c.requires.inside.1 (c.label_at-label.ensures.held (omega (arith, c.requires.labels.0))) in
    let there = label_read o n places (w.node c.twin-back.result) c.label_at.result from (c.label_at.ensures.held (omega (arith, c.requires.labels.0))) in
    let cost : c.step_cost-cost.result ≡ cost_by o w s (f (twin s)) = c.step_cost-cost.ensures.value ∙ ap (λ z. cost_of o (w.fee s) (f z)) e ∙ sym (cost_is o w s (f (twin s))) in
    let same : c.label_at-label.result.price ≡ c.add-price.result = L.antisym _ _ (sym c.at_most-then-at_most.ensures ∙ r) (sym c.at_most.ensures ∙ c.if-at_most.true) in
    record {
      inside = c.if-s-network.false;
      to = c.if-side-at.false;
      by = c.if-side-label.false ∙ ap (λ (m : Label g.row.T-Price.Denot). m.end) here;
      free = elim c.else-came-eq0.branch [
        | else-came-eq0-via-then-came-eq0+else-flow-s y ↦ inr (omega (arith, y.if-flow-s.false))
        | else-came-eq0-via-else-came-eq0 y ↦ inl (subst (λ z. 0 < f z) e (let ne = y.if-came-eq0.false in omega arith))
      ];
      held = ap (λ (m : Label g.row.T-Price.Denot). m.price) (sym here) ∙ same ∙ c.add-price.ensures ∙ (λ i. o.plus (there i).price (cost i)) ∙ ap (λ z. o.plus (label_at o (take n places) (w.node z)).price (cost_by o w s (f (twin s)))) e;
    }
