-- What a unit sent and taken off the demands keeps.
use Rattle.std.proofs.Common.{◌<◌, take, sym, subst, arith}
use Rattle.search.specs.Demands.{gives_of}
use Rattle.search.specs.Labels.{label_at}
use Rattle.search.specs.Networks.{units}
use Rattle.search.specs.Priced.{priced}
use Rattle.search.proofs.Keys.{key}
use Rattle.solve.proofs.Held.{net_sound}
use Rattle.solve.proofs.Progress.{labelled_next, onward_next, less_next}
use Rattle.solve.proofs.ship.Goals as goal

pub returns : goal.returns
returns g c =
    let o = g.T.Price.Price.ops in
    let L = g.met.T.Price.Price.laws in
    let n = c.args.network.now.nodes in
    let sides = c.args.network.now.sides.now in
    let w = priced o g.T.Tariff.rate c.args.network.now in
    let sd = net_sound L g.T.Tariff.rate g.met.T.Tariff.low g.met.T.Tariff.small c.args.network.now in
    let label = label_at o (take n c.args.labels.now.places.now) in
    let f = units c.args.flow.now in
    let f' = units c.send-u.new.flow in
    let u = c.send-u.result in
    let sent = c.send-u.ensures.sent in
    record {
      labelled = labelled_next L n w (key sides) sd label f f' c.args.v u sent c.requires.labelled;
      onward = onward_next L n w (key sides) sd label f f' c.args.v u sent _ _ _ _ c.take_unit.ensures.wants c.take_unit.ensures.gives;
      want = c.take_unit.ensures.wants;
      less = less_next L n w (key sides) sd label f f' c.args.v u sent _ _ c.take_unit.ensures.gives;
    }

pub take_unit-requires-clause-given : goal.take_unit-requires-clause-given
take_unit-requires-clause-given g c =
    let supply = c.requires.some.1 in
    (omega (arith, c.send-u.ensures.sent.inside, c.requires.inside.1), subst (λ z. 0 < gives_of c.args.left.now z) (sym (c.send-u.ensures.root supply.from supply.sides supply.way)) supply.some)
