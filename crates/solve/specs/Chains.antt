-- Units sent over a side, and along a chain of open sides back to a root.
use Rattle.std.specs.Prelude.{◌≡◌, ℕ, zero, suc, ◌+◌, ◌<◌, true, cond, List, length, ◌==◌, ◌≢◌, nat_lt}
use Rattle.price.specs.Laws.{Ops}
use Rattle.duality.specs.Sums.{sum}
use Rattle.duality.specs.Flows.{into, out_of, Fits}
use Rattle.search.specs.declared.Label.{Label}
use Rattle.search.specs.declared.Side.{Side}
use Rattle.search.specs.Labels.{label_at, reached}
use Rattle.search.specs.Paths.{Safe}
use Rattle.search.specs.Networks.{twin, Network, cost_by, move, Open}
use Rattle.search.specs.Sides.{side_at, CanOpen}
use Rattle.solve.specs.Solutions.{arcs, OneWay, Leaves}

-- one unit over side s: it takes back one that came the other way, or else adds one
pub data Push (room f f' : ℕ → ℕ) (s : ℕ) : Type 0 where
  added : f (twin s) ≡ 0 → f s < room s → f' s ≡ f s + 1 → ((z : ℕ) → (z ≢ s) → f' z ≡ f z) → Push room f f' s
  taken : 0 < f (twin s) → f' (twin s) + 1 ≡ f (twin s) → ((z : ℕ) → (z ≢ twin s) → f' z ≡ f z) → Push room f f' s

-- side s leads to v by the end of v's label, is open, and leads there at just the label's price
pub record Tight {P : Type 0} (ops : Ops P) (w : Network P) (label : ℕ → Label P) (f : ℕ → ℕ) (v s : ℕ) : Type 0 where
  pub inside : s < w.count
  pub to : w.node s ≡ v
  pub by : w.end s ≡ (label v).end
  pub free : Open w f s
  pub held : (label v).price ≡ ops.plus (label (w.node (twin s))).price (cost_by ops w s (f (twin s)))

-- k such sides lead back from v to the root u; `side v` is the one that leads to v
pub data Way {P : Type 0} (ops : Ops P) (w : Network P) (side : ℕ → ℕ) (label : ℕ → Label P) (f : ℕ → ℕ) : ℕ → ℕ → ℕ → Type 0 where
  root : {v : ℕ} → (label v).end ≡ 65534 → Way ops w side label f v v zero
  back : {v u k : ℕ} → (label v).end < 65534 → Tight ops w label f v (side v) → Way ops w side label f (w.node (twin (side v))) u k → Way ops w side label f v u (suc k)

-- a way back from v to some root that has a unit left to give
pub record Supplied {P : Type 0} (ops : Ops P) (w : Network P) (side : ℕ → ℕ) (label : ℕ → Label P) (f over : ℕ → ℕ) (v : ℕ) : Type 0 where
  pub from : ℕ
  pub sides : ℕ
  pub way : Way ops w side label f v from sides
  pub some : 0 < over from

abbrev pub one_at : ℕ → ℕ → ℕ
one_at u m = cond (u == m) 1 0

-- one unit more leads from u to v
abbrev pub Shift : {P : Type 0} → ℕ → Network P → (ℕ → ℕ) → (ℕ → ℕ) → ℕ → ℕ → Type 0
Shift n w f f' u v = (m : ℕ) → m < n → into (arcs n w) f' m + out_of (arcs n w) f m + one_at u m ≡ into (arcs n w) f m + out_of (arcs n w) f' m + one_at v m

-- the potential of a labelled node is its price
abbrev pub Priced : {P : Type 0} → (ℕ → Label P) → (ℕ → P) → Type 0
Priced {P} label pot = (v : ℕ) → reached (label v) ≡ true → pot v ≡ (label v).price

-- a unit was sent from u to v: the flow stays within the rooms and one_way, and every potential of the labels stays one
pub record Sent {P : Type 0} (ops : Ops P) (n : ℕ) (w : Network P) (label : ℕ → Label P) (f f' : ℕ → ℕ) (v u : ℕ) : Type 0 where
  pub inside : u < n
  pub fits : Fits (arcs n w) f'
  pub one_way : OneWay w f'
  pub kept : (pot : ℕ → P) → Priced label pot → Safe ops w.count (move ops w f) pot → Safe ops w.count (move ops w f') pot
  pub shift : Shift n w f f' u v

-- roots at price zero where units are left to give, and no price elsewhere
abbrev pub Seeded : {P : Type 0} → Ops P → (over : ℕ → ℕ) → List (Label P) → Type 0
Seeded ops over labels = (v : ℕ) → ((label_at ops labels v).price ≡ ops.zero) × ((label_at ops labels v).end ≡ cond (nat_lt 0 (over v)) 65534 65535)

-- `side v` is the side by whose end the label of v came, among those that can ever be open
abbrev pub Indexed : {P : Type 0} → List Side → (ℕ → ℕ) → (ℕ → Label P) → Type 0
Indexed sides side label = (s : ℕ) → s < length sides → CanOpen sides s → (label (side_at sides s).node).end ≡ (side_at sides s).end → side (side_at sides s).node ≡ s

-- a flow on its way to a least one: within the rooms, one_way, and with a potential
pub record Underway {P : Type 0} (ops : Ops P) (n : ℕ) (w : Network P) (f : ℕ → ℕ) : Type 0 where
  pub fits : Fits (arcs n w) f
  pub one_way : OneWay w f
  pub safe : (pot : ℕ → P) × Safe ops w.count (move ops w f) pot

-- the same with a potential that the labels tell
pub record Labelled {P : Type 0} (ops : Ops P) (n : ℕ) (w : Network P) (label : ℕ → Label P) (f : ℕ → ℕ) : Type 0 where
  pub fits : Fits (arcs n w) f
  pub one_way : OneWay w f
  pub pot : ℕ → P
  pub priced : Priced label pot
  pub safe : Safe ops w.count (move ops w f) pot

-- whatever the demands were, what is left of them after f' follows from what was left after f
abbrev pub Onward : {P : Type 0} → ℕ → Network P → (short over f short' over' f' : ℕ → ℕ) → Type 0
Onward n w short over f short' over' f' = (p q : ℕ → ℕ) → Leaves n w p q short over f → Leaves n w p q short' over' f'

-- one unit less at v
abbrev pub OneLess : (f f' : ℕ → ℕ) (v : ℕ) → Type 0
OneLess f f' v = (m : ℕ) → f' m + one_at v m ≡ f m

-- the units of the first n nodes
abbrev pub total : ℕ → (ℕ → ℕ) → ℕ
total n f = sum 0 ◌+◌ n f
