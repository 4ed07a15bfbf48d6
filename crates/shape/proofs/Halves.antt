-- Bends in pairs: the rule of the faces in bends and in units.
use Rattle.std.proofs.Common.{◌≡◌, ℕ, zero, suc, ◌+◌, ◌*◌, ◌/◌, ◌%◌, ◌<◌, Bool, true, false, cond, eqb, List, length, ℤ, pos, negsuc, ◌+ℤ◌, ◌-ℤ◌, refl, ap, add-zero, arith}
use Rattle.std.proofs.lemmas.Int.{ints}
use Rattle.survey.specs.declared.leg.Leg.{Leg}
use Rattle.embedding.specs.Rotation.{face}
use Rattle.duality.specs.Sums.{sum}
use Rattle.duality.proofs.Exchange.{sum_ext}
use Rattle.duality.proofs.Theorems.{numbers}
use Rattle.shape.specs.Shapes.{Shape, large_in, along}
use Rattle.shape.specs.Nodes.{above, beneath}
use Rattle.shape.proofs.AtNodes.{ins, outs}

-- equations term by term, summed
sum_equal : (k : ℕ) (a b c d x y : ℕ → ℕ) → ((i : ℕ) → i < k → a i + b i + 2 * x i ≡ c i + d i + 2 * y i) →
    sum 0 ◌+◌ k a + sum 0 ◌+◌ k b + 2 * sum 0 ◌+◌ k x ≡ sum 0 ◌+◌ k c + sum 0 ◌+◌ k d + 2 * sum 0 ◌+◌ k y
sum_equal zero a b c d x y h = refl
sum_equal (suc k) a b c d x y h = let s = sum_equal k a b c d x y (λ i l. h i (omega arith)) in let t = h k (omega arith) in omega arith

-- on each leg, the bends that turn towards a face less those that turn away are twice the units that come less those that leave
abbrev pub Halved : List Leg → Shape → (ℕ → ℕ) → Type 0
Halved legs z f = (i : ℕ) → i < length legs → (g : ℕ) →
    cond (eqb (face legs (2 * i)) g) (z.right i) 0 + cond (eqb (face legs (2 * i + 1)) g) (z.left i) 0 + 2 * (cond (eqb (face legs (2 * i + 1)) g) (f (2 * i)) 0 + cond (eqb (face legs (2 * i)) g) (f (2 * i + 1)) 0)
    ≡ cond (eqb (face legs (2 * i)) g) (z.left i) 0 + cond (eqb (face legs (2 * i + 1)) g) (z.right i) 0 + 2 * (cond (eqb (face legs (2 * i)) g) (f (2 * i)) 0 + cond (eqb (face legs (2 * i + 1)) g) (f (2 * i + 1)) 0)

-- bends that are just the units, twice
pub halved_double : (b c : Bool) (r l x y : ℕ) → r ≡ 2 * x → l ≡ 2 * y →
    cond b r 0 + cond c l 0 + 2 * (cond c x 0 + cond b y 0) ≡ cond b l 0 + cond c r 0 + 2 * (cond b x 0 + cond c y 0)
halved_double true true r l x y p q = omega arith
halved_double true false r l x y p q = omega arith
halved_double false true r l x y p q = omega arith
halved_double false false r l x y p q = omega arith

-- an even number of bends, in units
pub halved_even : (b c : Bool) (r l x y : ℕ) → (l + r) % 2 ≡ 0 → x ≡ r / 2 → y ≡ l / 2 →
    cond b r 0 + cond c l 0 + 2 * (cond c x 0 + cond b y 0) ≡ cond b l 0 + cond c r 0 + 2 * (cond b x 0 + cond c y 0)
halved_even true true r l x y h p q = omega arith
halved_even true false r l x y h p q = omega arith
halved_even false true r l x y h p q = omega arith
halved_even false false r l x y h p q = omega arith

-- a leg with one face on both sides
pub halved_same : (b c : Bool) (r l x y : ℕ) → b ≡ c →
    cond b r 0 + cond c l 0 + 2 * (cond c x 0 + cond b y 0) ≡ cond b l 0 + cond c r 0 + 2 * (cond b x 0 + cond c y 0)
halved_same b c r l x y h = rw h (omega arith)

on_left : (legs : List Leg) (g : ℕ) (x : ℕ → ℕ) → along legs 0 g x ≡ sum 0 ◌+◌ (length legs) (λ i. cond (eqb (face legs (2 * i)) g) (x i) 0)
on_left legs g x = sum_ext numbers (length legs) _ _ (λ i l. ap (λ (k : ℕ). cond (eqb (face legs k) g) (x i) 0) (add-zero (2 * i)))

module _ (legs : List Leg) (z : Shape) (f : ℕ → ℕ) (halved : Halved legs z f) where
  all_legs : (g : ℕ) → along legs 0 g z.right + along legs 1 g z.left + 2 * outs legs f g ≡ along legs 0 g z.left + along legs 1 g z.right + 2 * ins legs f g
  all_legs g = let a = on_left legs g z.right in let b = on_left legs g z.left in let s = sum_equal (length legs) _ _ _ _ _ _ (λ i l. halved i l g) in omega arith

  -- the rule of a face in bends, from the rule in units
  pub in_bends : (g : ℕ) (d : ℤ) → ins legs f g + large_in legs z g + beneath d ≡ outs legs f g + above d →
      pos (2 * large_in legs z g) +ℤ (pos (along legs 0 g z.right) -ℤ pos (along legs 0 g z.left)) +ℤ (pos (along legs 1 g z.left) -ℤ pos (along legs 1 g z.right)) ≡ d +ℤ d
  in_bends g (pos k) h = let s = all_legs g in omega (arith, ints)
  in_bends g (negsuc k) h = let s = all_legs g in omega (arith, ints)

  -- and back
  pub in_units : (g : ℕ) (d : ℤ) →
      pos (2 * large_in legs z g) +ℤ (pos (along legs 0 g z.right) -ℤ pos (along legs 0 g z.left)) +ℤ (pos (along legs 1 g z.left) -ℤ pos (along legs 1 g z.right)) ≡ d +ℤ d →
      ins legs f g + large_in legs z g + beneath d ≡ outs legs f g + above d
  in_units g (pos k) h = let s = all_legs g in omega (arith, ints)
  in_units g (negsuc k) h = let s = all_legs g in omega (arith, ints)
