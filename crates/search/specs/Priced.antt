-- The network that sides make at the prices of their tariff.
use Rattle.std.specs.Prelude.{ℕ}
use Rattle.price.specs.Laws.{Ops}
use Rattle.search.specs.declared.network.Network.{Network}
use Rattle.search.specs.Networks as paired
use Rattle.search.specs.Sides.{network}

abbrev pub priced : {P T : Type 0} → Ops P → (T → ℕ → ℕ → P) → Network T → paired.Network P
priced ops rate w = network ops (rate w.tariff.now) w.sides.now
