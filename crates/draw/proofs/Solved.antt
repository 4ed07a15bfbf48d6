-- What a solve of the plan's network says of the plan's shapes.
use Rattle.std.proofs.Common.{◌≡◌, ℕ, ◌≤◌, true, List, length, Result, Ok, Err, sym, subst}
use Rattle.std.specs.Prelude.{⊤}
use Rattle.price.specs.Laws.{Ops, Laws}
use Rattle.duality.specs.Flows.{price_of}
use Rattle.search.specs.declared.Side.{Side}
use Rattle.search.specs.Sides.{network}
use Rattle.solve.specs.declared.Infeasible.{Infeasible}
use Rattle.solve.specs.Solutions.{arcs, Answered}
use Rattle.survey.specs.declared.leg.Leg.{Leg}
use Rattle.survey.specs.Model.{valid_legs}
use Rattle.embedding.specs.Demands.{planar}
use Rattle.shape.specs.Shapes.{shape_price}
use Rattle.shape.specs.Nodes.{nodes}
use Rattle.shape.specs.Units.{shape_units}
use Rattle.shape.specs.Statements.{HoldsNetwork, HoldsDemands, NetworkLaws}
use Rattle.shape.proofs.Places.{few_nodes}
use Rattle.shape.proofs.ProperSides.{proper}
use Rattle.shape.proofs.ToFlow.{to_flow}
use Rattle.shape.proofs.ToShape.{to_shape}
use Rattle.draw.specs.Routes.{Routed}

module _ {P : Type 0} {ops : Ops P} (L : Laws ops) (rate : ℕ → ℕ → P) (low : (w f : ℕ) → ops.leq ops.zero (rate w f) ≡ true) (legs : List Leg) (outer : ℕ) (sides : List Side) (p q : ℕ → ℕ) (valid : valid_legs legs ≡ true) (flat : planar legs ≡ true) (few : length legs ≤ 256) (held : HoldsNetwork legs sides) (demands : HoldsDemands legs outer p q) where
  pub laws : NetworkLaws ops rate legs outer sides p q
  laws = record {
    proper = proper legs valid sides held few;
    few = few_nodes legs flat;
    to_flow = to_flow L rate low legs outer sides p q valid held demands;
    to_shape = to_shape L rate legs outer sides p q valid held demands;
  }

  pub routed : (f : ℕ → ℕ) (r : Result ⊤ Infeasible) → Answered ops (nodes legs) (network ops rate sides) p q f r → Routed ops rate legs outer f r
  routed f (Ok done) best =
      let made = laws.to_shape f best.fits best.one_way best.meets in
      let w = network ops rate sides in
      record {
        valid = made.valid;
        least = λ z v.
            let sent = laws.to_flow z v in
            subst (λ (x : P). ops.leq x (shape_price ops rate legs z) ≡ true) (sym made.costs)
            (L.trans (price_of ops (arcs (nodes legs) w) w.fee f) (price_of ops (arcs (nodes legs) w) w.fee (shape_units legs z)) (shape_price ops rate legs z) (best.least (shape_units legs z) sent.fits sent.meets) sent.costs);
        one_sided = made.one_sided;
      }
  routed f (Err e) none = λ z v. let sent = laws.to_flow z v in none (shape_units legs z) sent.fits sent.meets
