-- The move over a side, by the units on it and on its twin.
use Rattle.std.proofs.Common.{◌≡◌, ◌<◌, sym, refl, ap, ◌∙◌, subst, inl, inr, arith}
use Rattle.search.specs.Moves.{Move, better, moved}
use Rattle.search.specs.Networks.{twin, units, cost_of, cost_by, Open}
use Rattle.search.specs.Sides.{side_at, network, residual}
use Rattle.search.proofs.Residual.{cost_is, open_move, move_none, self_quiet, self_moved}
use Rattle.search.proofs.network.Network.try_side.Goals as goal
use Rattle.search.proofs.network.Network.try_side.Goals.{else-came-eq0-via-then-came-eq0+else-flow-s, else-came-eq0-via-else-came-eq0}

pub returns-then-flow-s : goal.returns-then-flow-s
returns-then-flow-s g c =
    let o = g.T.Price.Price.ops in
    let w = network o (g.T.Tariff.rate c.args.self.now.tariff.now) c.args.self.now.sides.now in
    let f = units c.args.flow.now in
    let none : f (twin c.args.s) ≡ 0 = ap f (sym c.twin-back.ensures.value) ∙ c.if-came-eq0.true in
    let same = sym (move_none o w c.args.s _ (f c.args.s) none c.if-flow-s.true) in
    record {
      told = sym (self_quiet g.met.T.Price.Price.laws c.args.labels.now.places.now (w.node c.args.s) 65533) ∙ ap (better o c.args.labels.now.places.now) same;
      left = sym (self_moved g.met.T.Price.Price.laws c.args.labels.now.places.now (w.node c.args.s) 65533) ∙ ap (moved o c.args.labels.now.places.now) same;
      used = refl;
      lender = refl;
    }

pub returns : goal.returns
returns g c =
    let o = g.T.Price.Price.ops in
    let sides = c.args.self.now.sides.now in
    let w = network o (g.T.Tariff.rate c.args.self.now.tariff.now) sides in
    let e = c.twin-back.ensures.value in
    let d = side_at sides c.args.s in
    let f = units c.args.flow.now in
    let free : Open w f c.args.s =
    elim c.else-came-eq0.branch [
      | else-came-eq0-via-then-came-eq0+else-flow-s x ↦ inr (omega (arith, x.if-flow-s.false))
      | else-came-eq0-via-else-came-eq0 x ↦ inl (subst (λ z. 0 < f z) e (let ne = x.if-came-eq0.false in omega arith))
    ] in
    let cost : c.step_cost-cost.result ≡ cost_by o w c.args.s (f (twin c.args.s)) =
    c.step_cost-cost.ensures.value ∙ (λ i. cost_of o (w.fee c.args.s) (f (e i))) ∙ sym (cost_is o w c.args.s (f (twin c.args.s))) in
    let same : ◌≡◌ {A = Move g.row.T-Price.Denot} (record { origin = (side_at sides c.twin-back.result).node; target = d.node; cost = c.step_cost-cost.result; end = d.end }) (residual o (g.T.Tariff.rate c.args.self.now.tariff.now) sides c.args.flow.now c.args.s) =
    (λ i. record { origin = (side_at sides (e i)).node; target = d.node; cost = cost i; end = d.end }) ∙ sym (open_move o w f c.args.s free) in
    record {
      told = c.try_move.ensures.told ∙ ap (better o c.args.labels.now.places.now) same;
      left = c.try_move.ensures.left ∙ ap (moved o c.args.labels.now.places.now) same;
      used = c.try_move.ensures.used;
      lender = c.try_move.ensures.lender;
    }
