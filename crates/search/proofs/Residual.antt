-- The moves that a flow leaves, side by side: which move a side is, that every move can be tried, and that its end names it.
use Rattle.std.proofs.Common.{◌≡◌, ℕ, ◌%◌, ◌<◌, ◌≤◌, Bool, true, false, cond, not, ◌&&◌, ◌||◌, eqb, ◌⊎◌, List, sym, refl, ap, ◌∙◌, subst, inl, inr, ⊎_elim, Option, Some, None, arith}
use Rattle.std.specs.Option.{ForSome}
use Rattle.std.proofs.lemmas.Bool.{cases_lt, cond-true, cond-false, ne_eqb, lt-ltb, le-ltb}
use Rattle.price.specs.Laws.{Ops, Laws}
use Rattle.price.proofs.Order.{le_refl}
use Rattle.search.specs.declared.Label.{Label}
use Rattle.search.specs.declared.Bend.{Bend}
use Rattle.search.specs.declared.Side.{Side}
use Rattle.search.specs.Labels.{label_at}
use Rattle.search.specs.Moves.{Move, better, moved}
use Rattle.search.specs.Paths.{Named}
use Rattle.search.specs.Networks.{twin, Network, cost_of, cost_by, move_by, move, Open, Usable}
use Rattle.search.specs.Sides.{side_at, bends_fee, network, Proper}
use Rattle.search.proofs.Keys.{key, key_is}
use Rattle.search.proofs.Sweep.{Fit, AllFit}
use Rattle.search.proofs.Twins.{twin_inside}

pub move_back : {P : Type 0} (ops : Ops P) (w : Network P) (s a b : ℕ) → 0 < a → move_by ops w s a b ≡ record { origin = w.node (twin s); target = w.node s; cost = ops.minus (w.fee s); end = w.end s }
unfolding move_by
move_back ops w s a b h = cond-true _ _ _ (lt-ltb 0 a h)

pub move_on : {P : Type 0} (ops : Ops P) (w : Network P) (s a b : ℕ) → a ≡ 0 → b < w.room s → move_by ops w s a b ≡ record { origin = w.node (twin s); target = w.node s; cost = w.fee s; end = w.end s }
unfolding move_by
move_on ops w s a b h k = cond-false _ _ _ (le-ltb 0 a (omega arith)) ∙ cond-true _ _ _ (lt-ltb b (w.room s) k)

pub move_none : {P : Type 0} (ops : Ops P) (w : Network P) (s a b : ℕ) → a ≡ 0 → w.room s ≤ b → move_by ops w s a b ≡ record { origin = w.node s; target = w.node s; cost = ops.zero; end = 65533 }
unfolding move_by
move_none ops w s a b h k = cond-false _ _ _ (le-ltb 0 a (omega arith)) ∙ cond-false _ _ _ (le-ltb b (w.room s) k)

pub cost_is : {P : Type 0} (ops : Ops P) (w : Network P) (s a : ℕ) → cost_by ops w s a ≡ cost_of ops (w.fee s) a
unfolding cost_by
cost_is ops w s a = refl

pub cost_back : {P : Type 0} (ops : Ops P) (w : Network P) (s a : ℕ) → 0 < a → cost_by ops w s a ≡ ops.minus (w.fee s)
unfolding cost_by
cost_back ops w s a h = cond-true _ _ _ (lt-ltb 0 a h)

pub cost_on : {P : Type 0} (ops : Ops P) (w : Network P) (s a : ℕ) → a ≡ 0 → cost_by ops w s a ≡ w.fee s
unfolding cost_by
cost_on ops w s a h = cond-false _ _ _ (le-ltb 0 a (omega arith))

-- the three cases of a side
pub side_cases : {P : Type 0} (w : Network P) (f : ℕ → ℕ) (s : ℕ) → (0 < f (twin s)) ⊎ (((f (twin s) ≡ 0) × (f s < w.room s)) ⊎ ((f (twin s) ≡ 0) × (w.room s ≤ f s)))
side_cases w f s =
    ⊎_elim inl (λ z. inr (⊎_elim (λ l. inl (omega arith, l)) (λ g. inr (omega arith, g)) (cases_lt (f s) (w.room s)))) (cases_lt 0 (f (twin s)))

pub open_move : {P : Type 0} (ops : Ops P) (w : Network P) (f : ℕ → ℕ) (s : ℕ) → Open w f s → move ops w f s ≡ record { origin = w.node (twin s); target = w.node s; cost = cost_by ops w s (f (twin s)); end = w.end s }
open_move {P} ops w f s o =
    ⊎_elim
    (λ h. move_back ops w s _ _ h ∙ ap (λ z. record { origin = w.node (twin s); target = w.node s; cost = z; end = w.end s }) (sym (cost_back ops w s _ h)))
    (λ z. move_on ops w s _ _ z (⊎_elim (λ k. absurd (omega arith)) (λ k. k) o) ∙ ap (λ z. record { origin = w.node (twin s); target = w.node s; cost = z; end = w.end s }) (sym (cost_on ops w s _ z)))
    (⊎_elim inl (λ z. inr (omega arith)) (cases_lt 0 (f (twin s))))

-- what the proofs use of a network of n nodes; `side` names a side by where it leads and its end
pub record Sound {P : Type 0} (ops : Ops P) (n : ℕ) (w : Network P) (side : ℕ → ℕ → ℕ) : Type 0 where
  pub even : w.count % 2 ≡ 0
  pub inside : (s : ℕ) → s < w.count → w.node s < n
  pub low : (s : ℕ) → s < w.count → w.end s < 65533
  pub keyed : (s : ℕ) → s < w.count → Usable w s → side (w.node s) (w.end s) ≡ s
  pub paired : (s : ℕ) → s < w.count → w.fee (twin s) ≡ w.fee s
  pub cheap : (s : ℕ) → s < w.count → ops.size (w.fee s) ≤ 2000
  pub paid : (s : ℕ) → s < w.count → ops.leq ops.zero (w.fee s) ≡ true

pub or_none : (x y : Bool) → y ≡ false → (x || y) ≡ x
or_none true y e = refl
or_none false y e = e

still : (r x : Bool) → x ≡ true → (r && not (r && x)) ≡ false
still true x h = ap not h
still false x h = refl

module _ {P : Type 0} {ops : Ops P} (L : Laws ops) where
  pub self_quiet : (labels : List (Label P)) (v e : ℕ) → better ops labels (record { origin = v; target = v; cost = ops.zero; end = e }) ≡ false
  self_quiet labels v e = still _ _ (subst (λ z. ops.leq (label_at ops labels v).price z ≡ true) (sym (L.unit _)) (le_refl L _))

  pub self_moved : (labels : List (Label P)) (v e : ℕ) → moved ops labels (record { origin = v; target = v; cost = ops.zero; end = e }) ≡ labels
  self_moved labels v e = cond-false _ _ _ (self_quiet labels v e)

  module _ (n : ℕ) (rate : ℕ → ℕ → P) (sides : List Side) (proper : Proper n sides) (low : (a b : ℕ) → ops.leq ops.zero (rate a b) ≡ true) (small : (a b : ℕ) → a ≤ 1000 → ops.size (rate a b) ≤ 1000) where
    fee_paid : (b : Option Bend) → ops.leq ops.zero (bends_fee ops rate b) ≡ true
    fee_paid None = le_refl L ops.zero
    fee_paid (Some b) = L.trans _ _ _ (low b.weight b.wet) (subst (λ z. ops.leq z (ops.plus (rate b.weight b.wet) (rate b.weight b.wet)) ≡ true) (L.comm ops.zero _ ∙ L.unit _) (L.kept ops.zero (rate b.weight b.wet) (rate b.weight b.wet) (low b.weight b.wet)))

    fee_cheap : (b : Option Bend) → ForSome b (λ x. x.weight ≤ 1000) → ops.size (bends_fee ops rate b) ≤ 2000
    fee_cheap None h = let z = L.size_zero in omega arith
    fee_cheap (Some b) h = let a = L.size_plus (rate b.weight b.wet) (rate b.weight b.wet) in let c = small b.weight b.wet (h b refl) in omega arith

    pub sound : Sound ops n (network ops rate sides) (key sides)
    sound = record {
      even = proper.even;
      inside = proper.inside;
      low = proper.low;
      keyed = key_is sides proper.keyed;
      paired = λ s b. ap (bends_fee ops rate) (proper.paired s b);
      cheap = λ s b. fee_cheap (side_at sides s).bend (proper.light s b);
      paid = λ s b. fee_paid (side_at sides s).bend;
    }

  pub all_fit : (n : ℕ) (w : Network P) (side : ℕ → ℕ → ℕ) → Sound ops n w side → (f : ℕ → ℕ) → AllFit ops n w.count (move ops w f)
  all_fit n w side sound f s b =
      let t = sound.inside (twin s) (twin_inside w.count s sound.even b) in
      let c = sound.cheap s b in
      ⊎_elim
      (λ k. subst (Fit ops n) (sym (move_back ops w s _ _ k)) (record { from = t; to = sound.inside s b; cheap = (let q = L.size_minus (w.fee s) in omega arith); named = (let q = sound.low s b in omega arith) }))
      (⊎_elim
      (λ k. subst (Fit ops n) (sym (move_on ops w s _ _ k.0 k.1)) (record { from = t; to = sound.inside s b; cheap = c; named = (let q = sound.low s b in omega arith) }))
      (λ k. subst (Fit ops n) (sym (move_none ops w s _ _ k.0 k.1)) (record { from = sound.inside s b; to = sound.inside s b; cheap = (let q = L.size_zero in omega arith); named = omega arith })))
      (side_cases w f s)

-- where the move to v by end e starts
abbrev pub from_at : {P : Type 0} → Ops P → Network P → (ℕ → ℕ → ℕ) → (ℕ → ℕ) → ℕ → ℕ → ℕ
from_at ops w side f v e = cond (eqb e 65533) v (move ops w f (side v e)).origin

module _ {P : Type 0} (ops : Ops P) (n : ℕ) (w : Network P) (side : ℕ → ℕ → ℕ) (sound : Sound ops n w side) (f : ℕ → ℕ) (fits : (s : ℕ) → s < w.count → f s ≤ w.room s) where
  pub usable : (s : ℕ) → s < w.count → Open w f s → Usable w s
  usable s b = ⊎_elim (λ k. inr (let h = fits (twin s) (twin_inside w.count s sound.even b) in omega arith)) (λ k. inl (omega arith))

  pub from_open : (s : ℕ) → s < w.count → Open w f s → from_at ops w side f (w.node s) (w.end s) ≡ (move ops w f s).origin
  from_open s b o =
      cond-false _ _ _ (ne_eqb (w.end s) 65533 (λ e. let h = sound.low s b in omega arith)) ∙ ap (λ z. (move ops w f z).origin) (sound.keyed s b (usable s b o))

  named_open : (s : ℕ) → s < w.count → Open w f s → from_at ops w side f (move ops w f s).target (move ops w f s).end ≡ (move ops w f s).origin
  named_open s b o =
      let e = open_move ops w f s o in
      (λ i. from_at ops w side f (e i).target (e i).end) ∙ from_open s b o

  pub named : Named w.count (move ops w f) (from_at ops w side f)
  named s b =
      ⊎_elim
      (λ k. named_open s b (inl k))
      (⊎_elim
      (λ k. named_open s b (inr k.1))
      (λ k.
      let e = move_none ops w s (f (twin s)) (f s) k.0 k.1 in
      (λ i. from_at ops w side f (e i).target (e i).end) ∙ ap (λ (m : Move P). m.origin) (sym e)))
      (side_cases w f s)
