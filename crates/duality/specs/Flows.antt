-- Flows of whole units on numbered arcs between numbered nodes, what they leave at the nodes and what they cost.
use Rattle.std.specs.Prelude.{◌≡◌, Bool, true, ℕ, ◌+◌, ◌≤◌, ◌<◌}
use Rattle.price.specs.Laws.{Ops}
use Rattle.duality.specs.Sums.{sum, times, at}

-- arcs between nodes, each with room for so many units
pub record Net : Type 0 where
  pub nodes : ℕ
  pub arcs : ℕ
  pub from : ℕ → ℕ
  pub to : ℕ → ℕ
  pub room : ℕ → ℕ

-- the ends of the arcs are nodes
pub record Within (w : Net) : Type 0 where
  pub from : (a : ℕ) → a < w.arcs → w.from a < w.nodes
  pub to : (a : ℕ) → a < w.arcs → w.to a < w.nodes

abbrev pub into : Net → (ℕ → ℕ) → ℕ → ℕ
into w f n = at w.arcs w.to f n

abbrev pub out_of : Net → (ℕ → ℕ) → ℕ → ℕ
out_of w f n = at w.arcs w.from f n

-- no arc carries more than its room
abbrev pub Fits : Net → (ℕ → ℕ) → Type 0
Fits w f = (a : ℕ) → a < w.arcs → f a ≤ w.room a

-- the two flows leave the same at every node
abbrev pub Same : Net → (ℕ → ℕ) → (ℕ → ℕ) → Type 0
Same w f f' = (n : ℕ) → n < w.nodes → into w f n + out_of w f' n ≡ into w f' n + out_of w f n

-- node n wants p n units and gives q n
abbrev pub Meets : Net → (ℕ → ℕ) → (ℕ → ℕ) → (ℕ → ℕ) → Type 0
Meets w p q f = (n : ℕ) → n < w.nodes → into w f n + q n ≡ out_of w f n + p n

-- each unit on arc a costs c a
abbrev pub price_of : {P : Type 0} → Ops P → Net → (ℕ → P) → (ℕ → ℕ) → P
price_of ops w c f = sum ops.zero ops.plus w.arcs (λ a. times ops.zero ops.plus (f a) (c a))

-- potentials g by which one unit more or one unit less on an arc gains nothing
pub record Certificate {P : Type 0} (add : P → P → P) (le : P → P → Type 0) (w : Net) (c g : ℕ → P) (f : ℕ → ℕ) : Type 0 where
  pub more : (a : ℕ) → a < w.arcs → f a < w.room a → le (g (w.to a)) (add (g (w.from a)) (c a))
  pub less : (a : ℕ) → a < w.arcs → 0 < f a → le (add (g (w.from a)) (c a)) (g (w.to a))

-- a set of nodes that one unit more or one unit less on an arc never leads out of
pub record Closed (w : Net) (inside : ℕ → Bool) (f : ℕ → ℕ) : Type 0 where
  pub more : (a : ℕ) → a < w.arcs → f a < w.room a → inside (w.from a) ≡ true → inside (w.to a) ≡ true
  pub less : (a : ℕ) → a < w.arcs → 0 < f a → inside (w.to a) ≡ true → inside (w.from a) ≡ true
