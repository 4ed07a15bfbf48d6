-- After a search: no labelled node wants a unit, or one is sent to one that does.
use Rattle.std.proofs.Common.{◌≡◌, ◌<◌, true, Result, OnErr, rules, sym, take, subst, arith}
use Rattle.search.specs.Demands.{wants_of, gives_of}
use Rattle.search.specs.Labels.{label_at, reached}
use Rattle.search.specs.Networks.{units}
use Rattle.search.specs.Priced.{priced}
use Rattle.search.proofs.Keys.{key}
use Rattle.solve.specs.Chains.{Seeded}
use Rattle.solve.proofs.Held.{net_sound, none_held}
use Rattle.solve.proofs.Progress.{seeded_fresh, stuck, supplied, labelled}
use Rattle.solve.proofs.advance.Goals as goal

on_err : {A E P : Type 0} (r : Result A E) → P → OnErr r P
on_err r h = search rules

pub settle-requires-clause-fresh : goal.settle-requires-clause-fresh
settle-requires-clause-fresh g c =
    let o = g.T.Price.Price.ops in
    let n = c.args.network.now.nodes in
    let seeds = subst (λ k. Seeded o (gives_of c.args.left.now) (take k c.seed.new.labels.places.now)) c.requires.inside.1 c.seed.ensures.seeded in
    seeded_fresh o (gives_of c.args.left.now) (take n c.seed.new.labels.places.now) seeds

pub ship-requires-clause-labelled : goal.ship-requires-clause-labelled
ship-requires-clause-labelled g c =
    let o = g.T.Price.Price.ops in
    let L = g.met.T.Price.Price.laws in
    let n = c.args.network.now.nodes in
    let sides = c.args.network.now.sides.now in
    let w = priced o g.T.Tariff.rate c.args.network.now in
    let sd = net_sound L g.T.Tariff.rate g.met.T.Tariff.low g.met.T.Tariff.small c.args.network.now in
    let seeded = take n c.seed.new.labels.places.now in
    let seeds = subst (λ k. Seeded o (gives_of c.args.left.now) (take k c.seed.new.labels.places.now)) c.requires.inside.1 c.seed.ensures.seeded in
    let labels = take n c.settle.new.labels.places.now in
    let en = c.settle.ensures in
    let f = units c.args.flow.now in
    labelled L n w (key sides) sd (wants_of c.args.left.now) (gives_of c.args.left.now) f c.requires.underway seeded labels seeds en.lower en.roots en.settled

pub ship-requires-clause-some : goal.ship-requires-clause-some
ship-requires-clause-some g c =
    let o = g.T.Price.Price.ops in
    let L = g.met.T.Price.Price.laws in
    let n = c.args.network.now.nodes in
    let sides = c.args.network.now.sides.now in
    let w = priced o g.T.Tariff.rate c.args.network.now in
    let sd = net_sound L g.T.Tariff.rate g.met.T.Tariff.low g.met.T.Tariff.small c.args.network.now in
    let seeded = take n c.seed.new.labels.places.now in
    let seeds = subst (λ k. Seeded o (gives_of c.args.left.now) (take k c.seed.new.labels.places.now)) c.requires.inside.1 c.seed.ensures.seeded in
    let labels = take n c.settle.new.labels.places.now in
    let en = c.settle.ensures in
    let f = units c.args.flow.now in
    let some = subst (λ k. (0 < wants_of c.args.left.now c.in_ok-v.v) × (reached (label_at o (take k c.settle.new.labels.places.now) c.in_ok-v.v) ≡ true)) c.requires.inside.1 (rw c.in_ok-v.ensures.ok_part at c.taker.ensures.some) in
    (some.0, supplied L n w (key sides) sd (wants_of c.args.left.now) (gives_of c.args.left.now) f c.requires.underway seeded labels seeds en.lower en.roots en.settled (units c.index_sides.new.came_by) c.index_sides.ensures c.in_ok-v.v some.1)

pub returns-in_err-v-clause-stuck : goal.returns-in_err-v-clause-stuck
returns-in_err-v-clause-stuck g c =
    let o = g.T.Price.Price.ops in
    let L = g.met.T.Price.Price.laws in
    let n = c.args.network.now.nodes in
    let sides = c.args.network.now.sides.now in
    let w = priced o g.T.Tariff.rate c.args.network.now in
    let sd = net_sound L g.T.Tariff.rate g.met.T.Tariff.low g.met.T.Tariff.small c.args.network.now in
    let seeded = take n c.seed.new.labels.places.now in
    let seeds = subst (λ k. Seeded o (gives_of c.args.left.now) (take k c.seed.new.labels.places.now)) c.requires.inside.1 c.seed.ensures.seeded in
    let labels = take n c.settle.new.labels.places.now in
    let en = c.settle.ensures in
    let f = units c.args.flow.now in
    let none = none_held c.taker.result (sym c.in_err-v.ensures.variant) c.taker.ensures.none in
    on_err c.from_residual.result (stuck L n w (key sides) sd (wants_of c.args.left.now) (gives_of c.args.left.now) f c.requires.underway seeded labels seeds en.lower en.roots en.settled
    (λ v b r. none v (omega (arith, c.requires.inside.1)) (subst (λ k. reached (label_at o (take k c.settle.new.labels.places.now) v) ≡ true) (sym c.requires.inside.1) r)) c.requires.some.0 c.requires.some.1 c.requires.some.2)

pub returns-clause-onward : goal.returns-clause-onward
returns-clause-onward g c = λ p q h. c.fill_nodes.ensures.onward p q (c.ship.ensures.onward p q h)
