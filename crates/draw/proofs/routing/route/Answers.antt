-- The nodes are few, and what the solve finds of the network it finds of the shapes.
use Rattle.std.proofs.Common.{◌≡◌, ℕ, List, take, sym, ap, ◌∙◌, subst, arith, length-take-le, get_or-take}
use Rattle.search.specs.declared.Demand.{Demand}
use Rattle.search.specs.Demands.{no_demand, wants_of, gives_of}
use Rattle.search.specs.Networks.{units}
use Rattle.search.specs.Sides.{network, Proper}
use Rattle.solve.specs.Solutions.{Answered}
use Rattle.survey.specs.declared.leg.Leg.{Leg}
use Rattle.embedding.specs.Rotation.{face}
use Rattle.shape.specs.Nodes.{nodes}
use Rattle.shape.specs.Statements.{HoldsDemands}
use Rattle.shape.proofs.Places.{few_nodes}
use Rattle.shape.proofs.ProperSides.{proper}
use Rattle.draw.proofs.Solved.{routed}
use Rattle.draw.proofs.routing.route.Goals as goal

-- what the front holds, the nodes want and give
front_demands : (legs : List Leg) (outer n : ℕ) (demands : List Demand) → n ≡ nodes legs → HoldsDemands legs outer (wants_of demands) (gives_of demands) → HoldsDemands legs outer (wants_of (take n demands)) (gives_of (take n demands))
front_demands legs outer n demands q h = record {
  wants = λ v l. ap (λ (d : Demand). d.wants) (get_or-take n demands v no_demand (omega arith)) ∙ h.wants v l;
  gives = λ v l. ap (λ (d : Demand). d.gives) (get_or-take n demands v no_demand (omega arith)) ∙ h.gives v l;
}

pub invariant_of-network : goal.invariant_of-network
invariant_of-network g c = record {
  proper = subst (λ (k : ℕ). Proper k c.fill_network-nodes.new.sides) (sym c.fill_network-nodes.ensures.nodes) (proper c.args.cave.now.legs.now c.args.cave.now.valid c.fill_network-nodes.new.sides c.fill_network-nodes.ensures.sides c.args.cave.now.few);
}

pub slice_bounds-demands-end : goal.slice_bounds-demands-end
slice_bounds-demands-end g c = let f = few_nodes c.args.cave.now.legs.now c.requires.planar in omega (arith, c.fill_network-nodes.ensures.nodes, c.args.cave.now.few)

pub slice_bounds-solve-end : goal.slice_bounds-solve-end
slice_bounds-solve-end g c = sym (length-take-le _ c.fill_network-nodes.new.demands (let f = few_nodes c.args.cave.now.legs.now c.requires.planar in omega (arith, c.fill_network-nodes.ensures.nodes, c.args.cave.now.few)))

pub solve-requires : goal.solve-requires
solve-requires g c =
    let f = few_nodes c.args.cave.now.legs.now c.requires.planar in
    record {
      inside = (
        c.requires.flow ∙ sym c.fill_network-nodes.ensures.sides.count,
        length-take-le _ c.fill_network-nodes.new.demands (omega (arith, c.fill_network-nodes.ensures.nodes, c.args.cave.now.few)),
        omega (arith, c.fill_network-nodes.ensures.nodes, c.args.cave.now.few),
      );
      labels = omega (arith, c.fill_network-nodes.ensures.nodes, c.requires.labels);
    }

pub returns-clause-routed : goal.returns-clause-routed
returns-clause-routed g c =
    let o = g.T.Price.Price.ops in
    let legs = c.args.cave.now.legs.now in
    let rate = g.T.Tariff.rate c.args.tariff.now in
    let outer = face legs c.args.outer in
    let n = c.fill_network-nodes.result in
    let sides = c.fill_network-nodes.new.sides in
    let P = wants_of (take n c.fill_network-nodes.new.demands) in
    let Q = gives_of (take n c.fill_network-nodes.new.demands) in
    let held = front_demands legs outer n c.fill_network-nodes.new.demands c.fill_network-nodes.ensures.nodes c.fill_network-nodes.ensures.demands in
    routed g.met.T.Price.Price.laws rate (g.met.T.Tariff.low c.args.tariff.now) legs outer sides P Q c.args.cave.now.valid c.requires.planar c.args.cave.now.few c.fill_network-nodes.ensures.sides held (units c.solve.new.flow) c.solve.result
    (subst (λ (k : ℕ). Answered o k (network o rate sides) P Q (units c.solve.new.flow) c.solve.result) c.fill_network-nodes.ensures.nodes c.solve.ensures.answered)
