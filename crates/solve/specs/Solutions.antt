-- What a least flow over paired sides is, and when there is none.
use Rattle.std.specs.Prelude.{◌≡◌, ℕ, ◌+◌, ◌<◌, true, Option, Some, None, Result, Ok, Err, ⊤}
use Rattle.price.specs.Laws.{Ops}
use Rattle.duality.specs.Flows.{Net, into, out_of, Fits, Meets, price_of}
use Rattle.search.specs.Networks.{twin, Network}
use Rattle.solve.specs.declared.Infeasible.{Infeasible}

-- the sides as arcs between n nodes: side s leads from the node of its twin to its own
abbrev pub arcs : {P : Type 0} → ℕ → Network P → Net
arcs n w = record { nodes = n; arcs = w.count; from = λ s. w.node (twin s); to = w.node; room = w.room }

-- no pair carries both ways
abbrev pub OneWay : {P : Type 0} → Network P → (ℕ → ℕ) → Type 0
OneWay w f = (s : ℕ) → s < w.count → 0 < f s → f (twin s) ≡ 0

-- a flow within the rooms and never both ways that meets the demands, at a price that no other within the rooms goes below;
-- node v wants p v units and gives q v
pub record Best {P : Type 0} (ops : Ops P) (n : ℕ) (w : Network P) (p q f : ℕ → ℕ) : Type 0 where
  pub fits : Fits (arcs n w) f
  pub one_way : OneWay w f
  pub meets : Meets (arcs n w) p q f
  pub least : (f' : ℕ → ℕ) → Fits (arcs n w) f' → Meets (arcs n w) p q f' → ops.leq (price_of ops (arcs n w) w.fee f) (price_of ops (arcs n w) w.fee f') ≡ true

-- no flow within the rooms meets the demands
abbrev pub NoFlow : {P : Type 0} → ℕ → Network P → (ℕ → ℕ) → (ℕ → ℕ) → Type 0
NoFlow n w p q = (f' : ℕ → ℕ) → Fits (arcs n w) f' → Meets (arcs n w) p q f' → ⊥

-- what an outcome says of the flow f
abbrev pub Answered : {P : Type 0} → Ops P → ℕ → Network P → (p q f : ℕ → ℕ) → Result ⊤ Infeasible → Type 0
Answered ops n w p q f (Ok done) = Best ops n w p q f
Answered ops n w p q f (Err e) = NoFlow n w p q

-- of the demands p and q, f leaves `short` wanted and `over` ungiven
abbrev pub Leaves : {P : Type 0} → ℕ → Network P → (p q short over f : ℕ → ℕ) → Type 0
Leaves n w p q short over f = (v : ℕ) → v < n → into (arcs n w) f v + q v + short v ≡ out_of (arcs n w) f v + p v + over v

-- the outcome where nothing is left to give: least, unless a node still wants a unit; `unmet` is the first that does
abbrev pub judged : (unmet : Option ℕ) → Result ⊤ Infeasible
judged None = Ok tt
judged (Some v) = Err (record {})
