-- Chains of labels back to a root, potentials, and labels at rest.
use Rattle.std.specs.Prelude.{◌≡◌, ℕ, zero, suc, ◌<◌, true, ◌⊎◌, List}
use Rattle.price.specs.Laws.{Ops}
use Rattle.search.specs.declared.Label.{Label}
use Rattle.search.specs.Labels.{reached, label_at}
use Rattle.search.specs.Moves.{Move}

-- k moves lead back from v to a root; `from v e` is where the move to v by end e starts
pub data Chain {P : Type 0} (from : ℕ → ℕ → ℕ) (at : ℕ → Label P) : ℕ → ℕ → Type 0 where
  root : {v : ℕ} → (at v).end ≡ 65534 → Chain from at v zero
  back : {v k : ℕ} → (at v).end < 65534 → Chain from at (from v (at v).end) k → Chain from at v (suc k)

-- a potential: no move leads to a node at less than the node's potential
abbrev pub Safe : {P : Type 0} → Ops P → ℕ → (ℕ → Move P) → (ℕ → P) → Type 0
Safe ops count moves pot = (i : ℕ) → i < count → ops.leq (pot (moves i).target) (ops.plus (pot (moves i).origin) (moves i).cost) ≡ true

-- the target and the end of a move tell its origin
abbrev pub Named : {P : Type 0} → ℕ → (ℕ → Move P) → (ℕ → ℕ → ℕ) → Type 0
Named count moves from = (i : ℕ) → i < count → from (moves i).target (moves i).end ≡ (moves i).origin

-- labels at rest: no move offers less, and the price of each label is that of a chain from a root
pub record Settled {P : Type 0} (ops : Ops P) (from : ℕ → ℕ → ℕ) (count : ℕ) (moves : ℕ → Move P) (labels : List (Label P)) : Type 0 where
  pub relaxed : (i : ℕ) → i < count → reached (label_at ops labels (moves i).origin) ≡ true →
      (reached (label_at ops labels (moves i).target) ≡ true) × (ops.leq (label_at ops labels (moves i).target).price (ops.plus (label_at ops labels (moves i).origin).price (moves i).cost) ≡ true)
  pub chained : (v : ℕ) → reached (label_at ops labels v) ≡ true → (k : ℕ) × Chain from (label_at ops labels) v k
  pub exact : (v : ℕ) → reached (label_at ops labels v) ≡ true →
      ((label_at ops labels v).end ≡ 65534)
      ⊎ ((i : ℕ) × (i < count) × ((moves i).target ≡ v) × ((moves i).end ≡ (label_at ops labels v).end) × (reached (label_at ops labels (moves i).origin) ≡ true) × ((label_at ops labels v).price ≡ ops.plus (label_at ops labels (moves i).origin).price (moves i).cost))
