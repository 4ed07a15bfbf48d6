-- The three theorems, as statements: exchange, certificate and cut.
use Rattle.std.specs.Prelude.{◌≡◌, Bool, true, ℕ, ◌+◌, ◌<◌}
use Rattle.price.specs.Laws.{Ops}
use Rattle.duality.specs.Sums.{sum, times, at}
use Rattle.duality.specs.Flows.{Net, Within, into, out_of, Fits, Same, Meets, price_of, Certificate, Closed}

-- what the nodes hold, each at its price, is what the arcs carry, each at the price of its end
abbrev pub Exchange : {P : Type 0} → Ops P → Type 0
Exchange {P} ops = (N A : ℕ) (end f : ℕ → ℕ) (g : ℕ → P) → ((a : ℕ) → a < A → end a < N) →
    sum ops.zero ops.plus N (λ n. times ops.zero ops.plus (at A end f n) (g n)) ≡ sum ops.zero ops.plus A (λ a. times ops.zero ops.plus (f a) (g (end a)))

-- a flow with a certificate costs at most what any other costs that leaves the same at every node
abbrev pub Least : {P : Type 0} → Ops P → Type 0
Least {P} ops = (w : Net) (c g : ℕ → P) (f f' : ℕ → ℕ) → Within w → Fits w f' → Same w f f' →
    Certificate ops.plus (λ x y. ops.leq x y ≡ true) w c g f → ops.leq (price_of ops w c f) (price_of ops w c f') ≡ true

-- a closed set in which a unit is left over at m, and none is wanted, shows that no flow meets the demands
abbrev pub Impossible : Type 0
Impossible = (w : Net) (p q short over : ℕ → ℕ) (inside : ℕ → Bool) (f f' : ℕ → ℕ) → Within w → Fits w f' → Meets w p q f' → Closed w inside f →
    ((n : ℕ) → n < w.nodes → into w f n + q n + short n ≡ out_of w f n + p n + over n) →
    ((n : ℕ) → n < w.nodes → inside n ≡ true → short n ≡ 0) →
    (m : ℕ) → m < w.nodes → inside m ≡ true → 0 < over m → ⊥
