-- One try more, and whether it changed a label.
use Rattle.std.proofs.Common.{◌≡◌, ◌+◌, ◌*◌, ◌^◌, ◌≤◌, ◌||◌, length, sym, ap, ◌∙◌, subst, add-one, arith}
use Rattle.search.specs.Labels.{label_at}
use Rattle.search.specs.Moves.{State, better, step, swept}
use Rattle.search.specs.Networks.{units}
use Rattle.search.specs.Sides.{network, residual}
use Rattle.search.proofs.Sweep.{start, sized_sweep}
use Rattle.search.proofs.Keys.{key}
use Rattle.search.proofs.Residual.{sound, all_fit}
use Rattle.search.proofs.network.Network.round.Goals as goal

pub try_side-changed-requires : goal.try_side-changed-requires
try_side-changed-requires g c =
    let o = g.T.Price.Price.ops in
    let L = g.met.T.Price.Price.laws in
    let t = c.args.self.now.tariff.now in
    let n = c.args.self.now.nodes in
    let sides = c.args.self.now.sides.now in
    let places = c.args.labels.now.places.now in
    let moves = residual o (g.T.Tariff.rate t) sides c.args.flow.now in
    let pr = c.args.self.now.proper in
    let sd = sound L n (g.T.Tariff.rate t) sides pr (g.met.T.Tariff.low t) (g.met.T.Tariff.small t) in
    let fit = all_fit L n (network o (g.T.Tariff.rate t) sides) (key sides) sd (units c.args.flow.now) in
    let z = sized_sweep L n (2 ^ 38) (start places) (length sides) moves c.requires.labels.1 c.requires.small fit c.loop-s.s (omega (arith, c.loop-s-test.true)) in
    let long : length c.loop-s.labels.places.now ≡ length places = subst (λ (x : State g.row.T-Price.Denot). length x.labels ≡ length places) (sym c.loop-s.invariant.0) z.1 in
    record {
      inside = (c.loop-s-test.true, c.requires.inside);
      labels = (omega (arith, c.loop-s.invariant.1, c.requires.labels.0), omega (arith, c.requires.labels.1));
      small = λ v lt.
          let q = subst (λ (x : State g.row.T-Price.Denot). o.size (label_at o x.labels v).price ≤ 2 ^ 38 + 2000 * c.loop-s.s) (sym c.loop-s.invariant.0) (z.0 v lt) in
          let few = pr.few in
          omega (arith, c.loop-s-test.true);
    }

pub loop-s-preserved : goal.loop-s-preserved
loop-s-preserved g c =
    let o = g.T.Price.Price.ops in
    let mv = residual o (g.T.Tariff.rate c.args.self.now.tariff.now) c.args.self.now.sides.now c.args.flow.now in
    let before = c.loop-s.labels.places.now in
    let s0 : State g.row.T-Price.Denot = start c.args.labels.now.places.now in
    let flag : c.try_side-changed.result ≡ better o before (mv c.loop-s.s) = c.try_side-changed.ensures.told in
    let one : ◌≡◌ {A = State g.row.T-Price.Denot} (record { changed = c.loop-s.changed || c.try_side-changed.result; labels = c.try_side-changed.new.labels.places.now }) (step o (record { changed = c.loop-s.changed; labels = before }) (mv c.loop-s.s)) = λ i. record { changed = c.loop-s.changed || flag i; labels = c.try_side-changed.ensures.left i } in (
      one ∙ ap (λ (x : State g.row.T-Price.Denot). step o x (mv c.loop-s.s)) c.loop-s.invariant.0 ∙ ap (swept o s0 mv) (sym (add-one c.loop-s.s)),
      c.try_side-changed.ensures.used ∙ c.loop-s.invariant.1,
      c.try_side-changed.ensures.lender ∙ c.loop-s.invariant.2,
    )
