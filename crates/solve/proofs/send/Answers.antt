-- Each step goes over the side that the label came by, which is open and tight; the way ends at a root.
use Rattle.std.proofs.Common.{◌≡◌, ℕ, ◌+◌, ◌<◌, ◌≤◌, List, take, sym, ap, ◌∙◌, subst, arith}
use Rattle.std.proofs.lemmas.List.{length-take-le}
use Rattle.price.specs.Laws.{Ops}
use Rattle.search.specs.declared.Label.{Label}
use Rattle.search.specs.Labels.{label_at}
use Rattle.search.specs.Networks.{Network, units}
use Rattle.search.specs.Priced.{priced}
use Rattle.search.proofs.Keys.{key}
use Rattle.solve.specs.Chains.{Tight}
use Rattle.solve.proofs.Held.{label_read, net_sound}
use Rattle.solve.proofs.Ways.{On, on_start, first_side, on_step, at_root, on_end}
use Rattle.solve.proofs.send.Goals as goal

pub loop-init : goal.loop-init
loop-init g c =
    let o = g.T.Price.Price.ops in
    let L = g.met.T.Price.Price.laws in
    let n = c.args.network.now.nodes in
    let sides = c.args.network.now.sides.now in
    let w = priced o g.T.Tariff.rate c.args.network.now in
    let sd = net_sound L g.T.Tariff.rate g.met.T.Tariff.low g.met.T.Tariff.small c.args.network.now in
    let places = c.args.labels.now.places.now in
    (c.requires.way.0, on_start L n w (key sides) sd (units c.args.came_by.now) (take n places) (length-take-le n places c.requires.labels.1) (units c.args.flow.now) c.args.v c.requires.way.0 c.requires.way.1 c.requires.inside.1 c.requires.fits.0 c.requires.fits.1 c.requires.way.2)

pub returns-then-label_at : goal.returns-then-label_at
returns-then-label_at g c =
    let o = g.T.Price.Price.ops in
    let L = g.met.T.Price.Price.laws in
    let n = c.args.network.now.nodes in
    let sides = c.args.network.now.sides.now in
    let w = priced o g.T.Tariff.rate c.args.network.now in
    let sd = net_sound L g.T.Tariff.rate g.met.T.Tariff.low g.met.T.Tariff.small c.args.network.now in
    let places = c.args.labels.now.places.now in
    let u = c.loop.invariant.0 in
    let on = c.loop.invariant.1 in
    let e = label_read o n places c.loop.at c.label_at.result on.inside (c.label_at.ensures.held (omega (arith, on.inside, c.requires.labels.0))) in
    let end = at_root on.way (ap (λ (m : Label g.row.T-Price.Denot). m.end) (sym e) ∙ c.if-label_at.true) in
    record {
      sent = on_end L n w (key sides) sd (units c.args.came_by.now) (take n places) (length-take-le n places c.requires.labels.1) (units c.args.flow.now) c.args.v u (units c.loop.flow) c.loop.at c.loop.counter on;
      root = λ u' k way. end ∙ on.first u' k way;
    }

-- x is no root, so that an open and tight side leads to it
record Lead {P : Type 0} (ops : Ops P) (w : Network P) (side : ℕ → ℕ) (label : ℕ → Label P) (f : ℕ → ℕ) (x : ℕ) : Type 0 where
  no_root : (label x).end ≡ 65534 → ⊥
  tight : Tight ops w label f x (side x)

lead : {P : Type 0} {ops : Ops P} {n : ℕ} {w : Network P} {side : ℕ → ℕ} {f₀ f : ℕ → ℕ} {v u x i : ℕ} (places : List (Label P)) (used : ℕ) → n ≤ used → On ops n w side (label_at ops (take n places)) f₀ f v u x i → (r : Label P) → (x < used → r ≡ label_at ops places x) → (r.end ≡ 65534 → ⊥) → Lead ops w side (label_at ops (take n places)) f x
lead {P} {ops} {n} {x = x} places used le on r held ne =
    let b = on.inside in
    let e = label_read ops n places x r b (held (omega arith)) in
    let no = λ (z : (label_at ops (take n places) x).end ≡ 65534). ne (ap (λ (m : Label P). m.end) e ∙ z) in
    record { no_root = no; tight = (first_side on.way no).3 }

pub push-requires : goal.push-requires
push-requires g c =
    let t = (lead c.args.labels.now.places.now c.args.labels.now.used c.requires.labels.0 c.loop.invariant.1 c.label_at.result c.label_at.ensures.held c.if-label_at.false).tight in
    record { inside = (t.inside, c.loop.auto.flow ∙ c.requires.inside.0); free = t.free }

pub twin-requires : goal.twin-requires
twin-requires g c = (lead c.args.labels.now.places.now c.args.labels.now.used c.requires.labels.0 c.loop.invariant.1 c.label_at.result c.label_at.ensures.held c.if-label_at.false).tight.inside

pub loop-preserved : goal.loop-preserved
loop-preserved g c =
    let o = g.T.Price.Price.ops in
    let L = g.met.T.Price.Price.laws in
    let n = c.args.network.now.nodes in
    let sides = c.args.network.now.sides.now in
    let w = priced o g.T.Tariff.rate c.args.network.now in
    let sd = net_sound L g.T.Tariff.rate g.met.T.Tariff.low g.met.T.Tariff.small c.args.network.now in
    let places = c.args.labels.now.places.now in
    let side = units c.args.came_by.now in
    let l = lead places c.args.labels.now.used c.requires.labels.0 c.loop.invariant.1 c.label_at.result c.label_at.ensures.held c.if-label_at.false in
    let next = on_step L n w (key sides) sd side (take n places) (length-take-le n places c.requires.labels.1) (units c.args.flow.now) c.args.v c.loop.invariant.0 (units c.loop.flow) (units c.push.new.flow) c.loop.at c.loop.counter l.no_root c.push.ensures c.loop.invariant.1 in
    (c.loop.invariant.0, subst (λ z. On o n w side (label_at o (take n places)) (units c.args.flow.now) (units c.push.new.flow) c.args.v c.loop.invariant.0 (w.node z) (c.loop.counter + 1)) (sym c.twin.ensures.value) next)
