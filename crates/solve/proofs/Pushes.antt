-- What one unit over a side keeps: the rooms, one way a pair, the potentials, and the units at the other nodes.
use Rattle.std.proofs.Common.{◌≡◌, ℕ, zero, suc, ◌+◌, ◌%◌, ◌<◌, Bool, true, false, cond, eqb, sym, refl, ap, ◌∙◌, subst, ⊎_elim, arith}
use Rattle.std.proofs.lemmas.Bool.{cases_eq}
use Rattle.price.specs.Laws.{Ops, Laws}
use Rattle.duality.specs.Sums.{at}
use Rattle.duality.specs.Flows.{Fits}
use Rattle.search.specs.Moves.{Move}
use Rattle.search.specs.Paths.{Safe}
use Rattle.search.specs.Networks.{twin, Network, cost_by, move_by, move}
use Rattle.search.proofs.Twins.{twin_twin, twin_apart, twin_inside}
use Rattle.search.proofs.Residual.{Sound}
use Rattle.solve.specs.Solutions.{arcs, OneWay}
use Rattle.solve.specs.Chains.{Push, added, taken, one_at, Shift}
use Rattle.solve.proofs.Steady.{held, steady_here, steady_twin}

-- away from the pair nothing changes
pub apart : (room f f' : ℕ → ℕ) (s z : ℕ) → Push room f f' s → (z ≡ s → ⊥) → (z ≡ twin s → ⊥) → f' z ≡ f z
apart room f f' s z (added a b c o) p q = o z p
apart room f f' s z (taken a c o) p q = o z q

pub apart_twin : (room f f' : ℕ → ℕ) (s z : ℕ) → Push room f f' s → (z ≡ s → ⊥) → (z ≡ twin s → ⊥) → f' (twin z) ≡ f (twin z)
apart_twin room f f' s z h p q = apart room f f' s (twin z) h (λ e. q (sym (twin_twin z) ∙ ap twin e)) (λ e. p (sym (twin_twin z) ∙ ap twin e ∙ twin_twin s))

pub fits_on : {P : Type 0} (n : ℕ) (w : Network P) (f f' : ℕ → ℕ) (s : ℕ) → Fits (arcs n w) f → Push w.room f f' s → Fits (arcs n w) f'
fits_on n w f f' s h (added a b c o) z lt = ⊎_elim (λ e. let x = ap f' e in let y = ap w.room e in omega arith) (λ ne. let x = o z ne in let y = h z lt in omega arith) (cases_eq z s)
fits_on n w f f' s h (taken a c o) z lt = ⊎_elim (λ e. let x = ap f' e in let y = ap f e in let k = h z lt in omega arith) (λ ne. let x = o z ne in let y = h z lt in omega arith) (cases_eq z (twin s))

pub one_way_on : {P : Type 0} (w : Network P) (f f' : ℕ → ℕ) (s : ℕ) → w.count % 2 ≡ 0 → s < w.count → OneWay w f → Push w.room f f' s → OneWay w f'
one_way_on w f f' s even inside h (added a b c o) z lt some =
    ⊎_elim
    (λ e. ap (λ x. f' (twin x)) e ∙ o (twin s) (twin_apart s) ∙ a)
    (λ ne. ⊎_elim
    (λ e. absurd (let x = ap f' e in let y = o (twin s) (twin_apart s) in omega arith))
    (λ no. apart_twin w.room f f' s z (added a b c o) ne no ∙ h z lt (let y = o z ne in omega arith))
    (cases_eq z (twin s)))
    (cases_eq z s)
one_way_on w f f' s even inside h (taken a c o) z lt some =
    let none : f s ≡ 0 = sym (ap f (twin_twin s)) ∙ h (twin s) (twin_inside w.count s even inside) a in
    let same : f' s ≡ f s = o s (λ q. twin_apart s (sym q)) in
    ⊎_elim
    (λ e. absurd (let x = ap f' e in omega arith))
    (λ ne. ⊎_elim
    (λ e. ap (λ x. f' (twin x)) e ∙ ap f' (twin_twin s) ∙ same ∙ none)
    (λ no. apart_twin w.room f f' s z (taken a c o) ne no ∙ h z lt (let y = o z no in omega arith))
    (cases_eq z (twin s)))
    (cases_eq z s)

-- one more on s counts once, where s leads
same_at : (A : ℕ) (end f f' : ℕ → ℕ) (m : ℕ) → ((z : ℕ) → z < A → f' z ≡ f z) → at A end f' m ≡ at A end f m
same_at zero end f f' m h = refl
same_at (suc A) end f f' m h = rw (same_at A end f f' m (λ z b. h z (omega arith)), h A (omega arith))

split : (b : Bool) (x : ℕ) → cond b (x + 1) 0 ≡ cond b x 0 + cond b 1 0
split true x = refl
split false x = omega arith

pub more_at : (A : ℕ) (end f f' : ℕ → ℕ) (s m : ℕ) → s < A → f' s ≡ f s + 1 → ((z : ℕ) → (z ≡ s → ⊥) → f' z ≡ f z) → at A end f' m ≡ at A end f m + one_at (end s) m
more_at zero end f f' s m b e o = absurd (omega arith)
more_at (suc A) end f f' s m b e o =
    ⊎_elim
    (λ q.
    let x = same_at A end f f' m (λ z c. o z (λ r. omega arith)) in
    let y = split (eqb (end s) m) (f s) in
    let u : cond (eqb (end A) m) (f' A) 0 ≡ cond (eqb (end s) m) (f s + 1) 0 = ap (λ z. cond (eqb (end z) m) (f' z) 0) q ∙ ap (λ z. cond (eqb (end s) m) z 0) e in
    let v : cond (eqb (end A) m) (f A) 0 ≡ cond (eqb (end s) m) (f s) 0 = ap (λ z. cond (eqb (end z) m) (f z) 0) q in
    omega arith)
    (λ q.
    let x = more_at A end f f' s m (omega arith) e o in
    let u = ap (λ z. cond (eqb (end A) m) z 0) (o A q) in
    omega arith)
    (cases_eq A s)

pub shift_on : {P : Type 0} (n : ℕ) (w : Network P) (f f' : ℕ → ℕ) (s : ℕ) → w.count % 2 ≡ 0 → s < w.count → Push w.room f f' s → Shift n w f f' (w.node (twin s)) (w.node s)
shift_on n w f f' s even inside (added a b c o) m lt =
    let x = more_at w.count w.node f f' s m inside c o in
    let y = more_at w.count (λ z. w.node (twin z)) f f' s m inside c o in
    omega arith
shift_on n w f f' s even inside (taken a c o) m lt =
    let t = twin_inside w.count s even inside in
    let x = more_at w.count w.node f' f (twin s) m t (sym c) (λ z ne. sym (o z ne)) in
    let y = more_at w.count (λ z. w.node (twin z)) f' f (twin s) m t (sym c) (λ z ne. sym (o z ne)) in
    let q = ap (λ z. one_at (w.node z) m) (twin_twin s) in
    omega arith

pub shift_trans : {P : Type 0} (n : ℕ) (w : Network P) (f g h : ℕ → ℕ) (a b c : ℕ) → Shift n w f g b c → Shift n w g h a b → Shift n w f h a c
shift_trans n w f g h a b c x y m lt = let p = x m lt in let q = y m lt in omega arith

module _ {P : Type 0} {ops : Ops P} (L : Laws ops) where
  move_same : (w : Network P) (f f' : ℕ → ℕ) (z : ℕ) → f' (twin z) ≡ f (twin z) → f' z ≡ f z → move ops w f' z ≡ move ops w f z
  move_same w f f' z p q = λ i. move_by ops w z (p i) (q i)

  pub safe_on : (n : ℕ) (w : Network P) (side : ℕ → ℕ → ℕ) → Sound ops n w side → (pot : ℕ → P) (f f' : ℕ → ℕ) (s : ℕ) → OneWay w f → s < w.count → pot (w.node s) ≡ ops.plus (pot (w.node (twin s))) (cost_by ops w s (f (twin s))) → Push w.room f f' s →
      Safe ops w.count (move ops w f) pot → Safe ops w.count (move ops w f') pot
  safe_on n w side sound pot f f' s one_way inside tight push safe z lt =
      ⊎_elim
      (λ q. subst (λ i. ops.leq (pot (move ops w f' i).target) (ops.plus (pot (move ops w f' i).origin) (move ops w f' i).cost) ≡ true) (sym q) (held L w pot f' s (steady_here L n w side sound pot f f' s one_way inside tight push)))
      (λ ne. ⊎_elim
      (λ q. subst (λ i. ops.leq (pot (move ops w f' i).target) (ops.plus (pot (move ops w f' i).origin) (move ops w f' i).cost) ≡ true) (sym q) (held L w pot f' (twin s) (steady_twin L n w side sound pot f f' s one_way inside tight push)))
      (λ no. subst (λ (x : Move P). ops.leq (pot x.target) (ops.plus (pot x.origin) x.cost) ≡ true) (sym (move_same w f f' z (apart_twin w.room f f' s z push ne no) (apart w.room f f' s z push ne no))) (safe z lt))
      (cases_eq z (twin s)))
      (cases_eq z s)
