-- What every kind of price has, and the laws that it keeps.
use Rattle.std.specs.Prelude.{◌≡◌, ℕ, ◌+◌, ◌≤◌, Bool, true, ◌⊎◌}

-- the operations of a kind of price; `leq x y` says that x is at most y
pub record Ops (P : Type 0) : Type 0 where
  pub zero : P
  pub plus : P → P → P
  pub minus : P → P
  pub leq : P → P → Bool
  pub size : P → ℕ

-- an ordered commutative group, with a size that sums do not exceed
pub record Laws {P : Type 0} (o : Ops P) : Type 0 where
  pub assoc : (x y z : P) → o.plus (o.plus x y) z ≡ o.plus x (o.plus y z)
  pub comm : (x y : P) → o.plus x y ≡ o.plus y x
  pub unit : (x : P) → o.plus x o.zero ≡ x
  pub inverse : (x : P) → o.plus x (o.minus x) ≡ o.zero
  pub total : (x y : P) → (o.leq x y ≡ true) ⊎ (o.leq y x ≡ true)
  pub trans : (x y z : P) → o.leq x y ≡ true → o.leq y z ≡ true → o.leq x z ≡ true
  pub antisym : (x y : P) → o.leq x y ≡ true → o.leq y x ≡ true → x ≡ y
  pub kept : (x y z : P) → o.leq x y ≡ true → o.leq (o.plus x z) (o.plus y z) ≡ true
  pub size_zero : o.size o.zero ≡ 0
  pub size_plus : (x y : P) → o.size (o.plus x y) ≤ o.size x + o.size y
  pub size_minus : (x : P) → o.size (o.minus x) ≡ o.size x
