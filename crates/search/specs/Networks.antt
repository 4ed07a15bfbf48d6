-- Paired sides by number, the units on them, and the moves that are open.
use Rattle.std.specs.Prelude.{ℕ, ◌<◌, cond, ◌⊎◌, List, nat_lt, slice_index}
use Rattle.pairs.specs.Pairs.{twin as other_of}
use Rattle.price.specs.Laws.{Ops}
use Rattle.search.specs.Moves.{Move}

-- the two sides of a pair are 2k and 2k + 1; kept shut in proofs
unfoldable pub twin : ℕ → ℕ
twin s = other_of s

-- how many units side s carries
abbrev pub units : List ℕ → ℕ → ℕ
units xs s = slice_index xs s

-- side s leads from the node of its twin to its own, has room for so many units, and asks a fee for each
pub record Network (P : Type 0) : Type 0 where
  pub count : ℕ
  pub node : ℕ → ℕ
  pub end : ℕ → ℕ
  pub room : ℕ → ℕ
  pub fee : ℕ → P

-- what one unit costs at this fee, where a units came the other way: it first takes back one that came
abbrev pub cost_of : {P : Type 0} → Ops P → P → ℕ → P
cost_of ops fee a = cond (nat_lt 0 a) (ops.minus fee) fee

-- what one unit over side s costs
unfoldable pub cost_by : {P : Type 0} → Ops P → Network P → ℕ → ℕ → P
cost_by ops w s a = cost_of ops (w.fee s) a

-- the move over side s, where a units came the other way and b went this way; a side that is not open leads nowhere, by the end 65533
unfoldable pub move_by : {P : Type 0} → Ops P → Network P → ℕ → ℕ → ℕ → Move P
move_by ops w s a b = cond (nat_lt 0 a) (record { origin = w.node (twin s); target = w.node s; cost = ops.minus (w.fee s); end = w.end s })
    (cond (nat_lt b (w.room s)) (record { origin = w.node (twin s); target = w.node s; cost = w.fee s; end = w.end s }) (record { origin = w.node s; target = w.node s; cost = ops.zero; end = 65533 }))

abbrev pub move : {P : Type 0} → Ops P → Network P → (ℕ → ℕ) → ℕ → Move P
move ops w f s = move_by ops w s (f (twin s)) (f s)

-- a unit can go over side s: it takes one back, or there is room
abbrev pub Open : {P : Type 0} → Network P → (ℕ → ℕ) → ℕ → Type 0
Open w f s = (0 < f (twin s)) ⊎ (f s < w.room s)

-- a side that can ever be open
abbrev pub Usable : {P : Type 0} → Network P → ℕ → Type 0
Usable w s = (0 < w.room s) ⊎ (0 < w.room (twin s))
