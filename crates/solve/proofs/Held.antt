-- The label of one of the first n nodes, as a read gives it, and what the proofs use of a network.
use Rattle.std.proofs.Common.{◌≡◌, ℕ, ◌<◌, ◌≤◌, true, false, List, Option, Some, None, is_some, IfNone, take, sym, ◌∙◌}
use Rattle.price.specs.Laws.{Ops, Laws}
use Rattle.search.specs.declared.Label.{Label}
use Rattle.search.specs.declared.network.Network.{Network}
use Rattle.search.specs.Labels.{label_at}
use Rattle.search.specs.Priced.{priced}
use Rattle.search.proofs.Sweep.{front_at}
use Rattle.search.proofs.Keys.{key}
use Rattle.search.proofs.Residual.{Sound, sound}

pub label_read : {P : Type 0} (ops : Ops P) (n : ℕ) (places : List (Label P)) (v : ℕ) (r : Label P) → v < n → r ≡ label_at ops places v → r ≡ label_at ops (take n places) v
label_read ops n places v r lt e = e ∙ sym (front_at ops n places v lt)

pub net_sound : {P T : Type 0} {ops : Ops P} (L : Laws ops) (rate : T → ℕ → ℕ → P) → ((t : T) (a b : ℕ) → ops.leq ops.zero (rate t a b) ≡ true) → ((t : T) (a b : ℕ) → a ≤ 1000 → ops.size (rate t a b) ≤ 1000) → (w : Network T) → Sound ops w.nodes (priced ops rate w) (key w.sides.now)
net_sound L rate low small w = sound L w.nodes (rate w.tariff.now) w.sides.now w.proper (low w.tariff.now) (small w.tariff.now)

-- what holds where there is no value, where there is none
pub none_held : (o : Option ℕ) {P : Type 0} → is_some o ≡ false → IfNone o P → P
none_held None e h = h
none_held (Some v) e h = cc
