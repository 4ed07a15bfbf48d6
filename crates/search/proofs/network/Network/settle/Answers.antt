-- A round that changed nothing leaves the labels at rest, and any other is followed by one more.
use Rattle.std.proofs.Common.{◌≡◌, ◌≤◌, length, take, refl, ◌∙◌, subst, arith}
use Rattle.std.proofs.lemmas.List.{length-take-le}
use Rattle.search.specs.Sides.{residual}
use Rattle.search.proofs.Sweep.{lower_refl, lower_trans}
use Rattle.search.proofs.Going.{Going, going_start}
use Rattle.search.proofs.Settles.{rounded}
use Rattle.search.proofs.network.Network.settle.Goals as goal

pub loop-init : goal.loop-init
loop-init g c =
    let o = g.T.Price.Price.ops in
    let L = g.met.T.Price.Price.laws in
    let n = c.args.self.now.nodes in
    let places = c.args.labels.now.places.now in
    let moves = residual o (g.T.Tariff.rate c.args.self.now.tariff.now) c.args.self.now.sides.now c.args.flow.now in
    let long : length (take n places) ≡ n = length-take-le n places c.requires.labels.1 in (
      lower_refl L (take n places),
      λ v h. h,
      subst (λ k. Going L (length c.args.self.now.sides.now) moves k 0 (take n places)) long (going_start L (length c.args.self.now.sides.now) moves (take n places) (omega (arith, c.requires.inside.1)) c.requires.fresh),
      refl,
      refl,
      refl,
    )

pub returns-then-not-round : goal.returns-then-not-round
returns-then-not-round g c =
    let L = g.met.T.Price.Price.laws in
    let t = c.args.self.now.tariff.now in
    let n = c.args.self.now.nodes in
    let sides = c.args.self.now.sides.now in
    let first = c.args.labels.now.places.now in
    let places = c.loop.labels.places.now in
    let after = c.round.new.labels.places.now in
    let long : n ≤ length places = omega (arith, c.loop.invariant.4, c.requires.labels.1) in
    let done = rounded L n (g.T.Tariff.rate t) sides c.args.self.now.proper (g.met.T.Tariff.low t) (g.met.T.Tariff.small t) c.args.flow.now c.requires.room c.requires.safe.0 c.requires.safe.1 c.loop.counter places after c.round.result long c.loop.invariant.2 c.round.ensures.swept in
    record {
      settled = done.rest c.if-not-round.true;
      lower = lower_trans L (take n first) (take n places) (take n after) c.loop.invariant.0 done.lower;
      roots = λ v h. c.loop.invariant.1 v (done.roots v h);
      small = done.small _ (let i = c.loop.invariant.2.inside in omega (arith, c.requires.inside.2));
      used = c.round.ensures.used ∙ c.loop.invariant.3;
      long = done.long ∙ c.loop.invariant.4;
      lender = c.round.ensures.lender ∙ c.loop.invariant.5;
    }

pub loop-preserved : goal.loop-preserved
loop-preserved g c =
    let L = g.met.T.Price.Price.laws in
    let t = c.args.self.now.tariff.now in
    let n = c.args.self.now.nodes in
    let sides = c.args.self.now.sides.now in
    let first = c.args.labels.now.places.now in
    let places = c.loop.labels.places.now in
    let after = c.round.new.labels.places.now in
    let long : n ≤ length places = omega (arith, c.loop.invariant.4, c.requires.labels.1) in
    let done = rounded L n (g.T.Tariff.rate t) sides c.args.self.now.proper (g.met.T.Tariff.low t) (g.met.T.Tariff.small t) c.args.flow.now c.requires.room c.requires.safe.0 c.requires.safe.1 c.loop.counter places after c.round.result long c.loop.invariant.2 c.round.ensures.swept in (
      lower_trans L (take n first) (take n places) (take n after) c.loop.invariant.0 done.lower,
      λ v h. c.loop.invariant.1 v (done.roots v h),
      done.next c.if-not-round.false,
      c.round.ensures.used ∙ c.loop.invariant.3,
      done.long ∙ c.loop.invariant.4,
      c.round.ensures.lender ∙ c.loop.invariant.5,
    )
