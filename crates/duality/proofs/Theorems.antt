-- A flow with a certificate is least, and a closed set that holds a surplus and no shortage refutes the demands.
use mathlib.Core.Path.{◌≡◌, refl, ap}
use mathlib.Core.Bool.{Bool, true, false, cond}
use mathlib.Core.Logic.{⊎_elim}
use Prim.Native.Nat.{ℕ, zero, suc, ◌+◌, ◌≤◌, ◌<◌}
use native.Mathlib.Decide.{ℕ_discrete}
use native.Mathlib.Omega.{arith}
use Rattle.price.specs.Laws.{Ops, Laws}
use Rattle.duality.specs.Sums.{Ordered, sum, times}
use Rattle.duality.specs.Flows.{Net, Within, into, out_of, Fits, Same, Meets, price_of, Certificate, Closed}
use Rattle.duality.proofs.Exchange.{sum_ext, sum_mono, sum_zero}
use Rattle.duality.proofs.Duality.{linear, worth_add}

-- every kind of price is such a monoid
pub prices : {P : Type 0} {ops : Ops P} → Laws ops → Ordered ops.zero ops.plus (λ x y. ops.leq x y ≡ true)
prices {ops = ops} L = record {
  assoc = L.assoc;
  comm = L.comm;
  unit = L.unit;
  trans = L.trans;
  mono = L.kept;
  refl = λ x. ⊎_elim (λ h. h) (λ h. h) (L.total x x);
  cancel = λ x y z h. simp (L.assoc, L.inverse, L.unit) at (L.kept _ _ (ops.minus z) h);
}

-- and so are the natural numbers
pub numbers : Ordered 0 ◌+◌ ◌≤◌
numbers = record {
  assoc = λ x y z. omega arith;
  comm = λ x y. omega arith;
  unit = λ x. omega arith;
  refl = λ x. omega arith;
  trans = λ x y z h k. omega arith;
  mono = λ x y z h. omega arith;
  cancel = λ x y z h. omega arith;
}

pub least : {P : Type 0} {ops : Ops P} → Laws ops → (w : Net) (c g : ℕ → P) (f f' : ℕ → ℕ) → Within w → Fits w f' → Same w f f' →
    Certificate ops.plus (λ x y. ops.leq x y ≡ true) w c g f → ops.leq (price_of ops w c f) (price_of ops w c f') ≡ true
least {ops = ops} L w c g f f' within fits same settled =
    let laws = prices L in
    laws.cancel _ _ _ (rw (
      ← worth_add laws w.nodes (into w f') (out_of w f) g,
      ← worth_add laws w.nodes (into w f) (out_of w f') g,
      sum_ext laws w.nodes _ _ (λ n b. ap (λ k. times ops.zero ops.plus k (g n)) (same n b)),
    ) at
    (linear laws w.nodes w.nodes w.arcs w.from w.to f f' w.room g g c within.from within.to fits settled.more settled.less))

abbrev pub one_if : Bool → ℕ
one_if b = cond b 1 0

pub below : (x y : Bool) → (x ≡ true → y ≡ true) → one_if x ≤ one_if y + 0
below true y h = rw (h refl) (omega arith)
below false y h = omega arith

pub above : (x y : Bool) → (x ≡ true → y ≡ true) → one_if x + 0 ≤ one_if y
above x y h = omega (arith, below x y h)

pub ones : (k : ℕ) → times 0 ◌+◌ k 1 ≡ k
ones zero = refl
ones (suc k) = omega (arith, ones k)

none : (k : ℕ) → times 0 ◌+◌ k 0 ≡ 0
none k = sum_zero numbers k (λ i. 0) (λ i b. refl)

pub kept : (b : Bool) (k l : ℕ) → (b ≡ true → k ≤ l) → times 0 ◌+◌ k (one_if b) ≤ times 0 ◌+◌ l (one_if b)
kept true k l h = simp ones (h refl)
kept false k l h = simp none (omega arith)

pub sum_strict : (n m : ℕ) (f g : ℕ → ℕ) → ((i : ℕ) → i < n → f i ≤ g i) → m < n → f m < g m → sum 0 ◌+◌ n f < sum 0 ◌+◌ n g
sum_strict zero m f g h b s = absurd (omega arith)
sum_strict (suc n) m f g h b s = elim (ℕ_discrete n m) [
  | yes e ↦ let t : f n < g n = rw e s in omega (arith, sum_mono numbers n f g (λ i c. h i (omega arith)))
  | no e ↦ omega (arith, sum_strict n m f g (λ i c. h i (omega arith)) (omega arith) s, h n (omega arith))
]

pub free : (A : ℕ) (x : ℕ → ℕ) → sum 0 ◌+◌ A (λ a. times 0 ◌+◌ (x a) 0) ≡ 0
free A x = sum_zero numbers A _ (λ a b. none (x a))

-- a closed set lets go no more than it does: the duality at numbers, against the arcs
cut : (w : Net) (inside : ℕ → Bool) (f f' : ℕ → ℕ) → Within w → Fits w f' → Closed w inside f →
    sum 0 ◌+◌ w.nodes (λ n. times 0 ◌+◌ (out_of w f' n + into w f n) (one_if (inside n)))
    ≤ sum 0 ◌+◌ w.nodes (λ n. times 0 ◌+◌ (out_of w f n + into w f' n) (one_if (inside n)))
cut w inside f f' within fits closed =
    let g : ℕ → ℕ = λ n. one_if (inside n) in
    omega (
      arith,
      free w.arcs f,
      free w.arcs f',
      worth_add numbers w.nodes (out_of w f') (into w f) g,
      worth_add numbers w.nodes (out_of w f) (into w f') g,
      linear numbers w.nodes w.nodes w.arcs w.to w.from f f' w.room g g (λ a. 0) within.to within.from fits
          (λ a b h. below _ _ (closed.more a b h)) (λ a b h. above _ _ (closed.less a b h)),
    )

pub impossible : (w : Net) (p q short over : ℕ → ℕ) (inside : ℕ → Bool) (f f' : ℕ → ℕ) → Within w → Fits w f' → Meets w p q f' → Closed w inside f →
    ((n : ℕ) → n < w.nodes → into w f n + q n + short n ≡ out_of w f n + p n + over n) →
    ((n : ℕ) → n < w.nodes → inside n ≡ true → short n ≡ 0) →
    (m : ℕ) → m < w.nodes → inside m ≡ true → 0 < over m → ⊥
impossible w p q short over inside f f' within fits meets closed state no_short m b i o =
    omega (
      arith,
      cut w inside f f' within fits closed,
      sum_strict w.nodes m _ _
          (λ n c. kept (inside n) (out_of w f n + into w f' n) (out_of w f' n + into w f n) (λ e. omega (arith, meets n c, state n c, no_short n c e)))
          b (rw i (simp ones (omega (arith, meets m b, state m b, no_short m b i)))),
    )
