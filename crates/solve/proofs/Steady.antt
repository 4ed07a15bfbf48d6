-- Potentials that no move undercuts, side by side, and what one unit over a tight side does to them.
use Rattle.std.proofs.Common.{◌≡◌, ℕ, ◌<◌, true, sym, ap, ◌∙◌, subst, ⊎_elim, arith}
use Rattle.price.specs.Laws.{Ops, Laws}
use Rattle.price.proofs.Order.{le_refl, add_sub, sub_add, kept_left}
use Rattle.search.specs.Moves.{Move}
use Rattle.search.specs.Networks.{twin, Network, cost_by, move}
use Rattle.search.proofs.Twins.{twin_twin, twin_apart, twin_inside}
use Rattle.search.proofs.Residual.{Sound, move_back, move_on, move_none, cost_back, cost_on, side_cases}
use Rattle.solve.specs.Solutions.{OneWay}
use Rattle.solve.specs.Chains.{Push, added, taken}

module _ {P : Type 0} {ops : Ops P} (L : Laws ops) where
  pub neg_low : (x : P) → ops.leq ops.zero x ≡ true → ops.leq (ops.minus x) x ≡ true
  neg_low x h =
      let a : ops.leq (ops.minus x) ops.zero ≡ true = subst (λ z. ops.leq z ops.zero ≡ true) (L.comm ops.zero (ops.minus x) ∙ L.unit (ops.minus x)) (subst (λ z. ops.leq (ops.plus ops.zero (ops.minus x)) z ≡ true) (L.inverse x) (L.kept ops.zero x (ops.minus x) h)) in
      L.trans _ _ _ a h

  -- per side: where units came the other way, and where none did and there is room
  pub record Steady (w : Network P) (pot : ℕ → P) (f : ℕ → ℕ) (s : ℕ) : Type 0 where
    pub less : 0 < f (twin s) → ops.leq (pot (w.node s)) (ops.plus (pot (w.node (twin s))) (ops.minus (w.fee s))) ≡ true
    pub more : f (twin s) ≡ 0 → f s < w.room s → ops.leq (pot (w.node s)) (ops.plus (pot (w.node (twin s))) (w.fee s)) ≡ true

  abbrev Held : (ℕ → P) → Move P → Type 0
  Held pot m = ops.leq (pot m.target) (ops.plus (pot m.origin) m.cost) ≡ true

  pub steady : (w : Network P) (pot : ℕ → P) (f : ℕ → ℕ) (s : ℕ) → Held pot (move ops w f s) → Steady w pot f s
  steady w pot f s h = record { less = λ k. subst (Held pot) (move_back ops w s _ _ k) h; more = λ k l. subst (Held pot) (move_on ops w s _ _ k l) h }

  pub held : (w : Network P) (pot : ℕ → P) (f : ℕ → ℕ) (s : ℕ) → Steady w pot f s → Held pot (move ops w f s)
  held w pot f s h =
      ⊎_elim
      (λ k. subst (Held pot) (sym (move_back ops w s _ _ k)) (h.less k))
      (λ r. ⊎_elim
      (λ k. subst (Held pot) (sym (move_on ops w s _ _ k.0 k.1)) (h.more k.0 k.1))
      (λ k. subst (Held pot) (sym (move_none ops w s _ _ k.0 k.1)) (subst (λ z. ops.leq (pot (w.node s)) z ≡ true) (sym (L.unit _)) (le_refl L _)))
      r)
      (side_cases w f s)

  module _ (n : ℕ) (w : Network P) (side : ℕ → ℕ → ℕ) (sound : Sound ops n w side) (pot : ℕ → P) (f f' : ℕ → ℕ) (s : ℕ) (one_way : OneWay w f) (inside : s < w.count) (tight : pot (w.node s) ≡ ops.plus (pot (w.node (twin s))) (cost_by ops w s (f (twin s)))) where
    here : f (twin s) ≡ 0 → pot (w.node s) ≡ ops.plus (pot (w.node (twin s))) (w.fee s)
    here z = tight ∙ ap (ops.plus (pot (w.node (twin s)))) (cost_on ops w s _ z)

    back : 0 < f (twin s) → pot (w.node s) ≡ ops.plus (pot (w.node (twin s))) (ops.minus (w.fee s))
    back z = tight ∙ ap (ops.plus (pot (w.node (twin s)))) (cost_back ops w s _ z)

    abbrev t : ℕ
    t = twin s

    tw : twin t ≡ s
    tw = twin_twin s

    fee_t : w.fee t ≡ w.fee s
    fee_t = sound.paired s inside

    f_tt : f' (twin t) ≡ f' s
    f_tt = ap f' tw

    -- the other way is undone exactly
    pub steady_here : Push w.room f f' s → Steady w pot f' s
    steady_here (added z r a o) = record {
      less = λ k. absurd (let q = o t (λ q. twin_apart s q) in omega arith);
      more = λ k l. subst (λ x. ops.leq x (ops.plus (pot (w.node t)) (w.fee s)) ≡ true) (sym (here z)) (le_refl L _);
    }
    steady_here (taken z a o) = record {
      less = λ k. subst (λ x. ops.leq x (ops.plus (pot (w.node t)) (ops.minus (w.fee s))) ≡ true) (sym (back z)) (le_refl L _);
      more = λ k l. subst (λ x. ops.leq x (ops.plus (pot (w.node t)) (w.fee s)) ≡ true) (sym (back z)) (kept_left L _ _ _ (neg_low (w.fee s) (sound.paid s inside)));
    }

    pub steady_twin : Push w.room f f' s → Steady w pot f' t
    steady_twin (added z r a o) = record {
      less = λ k.
          let eq : ops.plus (pot (w.node (twin t))) (ops.minus (w.fee t)) ≡ pot (w.node t) =
          ap (λ x. ops.plus (pot (w.node x)) (ops.minus (w.fee t))) tw ∙ ap (λ x. ops.plus (pot (w.node s)) (ops.minus x)) fee_t ∙ ap (λ x. ops.plus x (ops.minus (w.fee s))) (here z) ∙ add_sub L _ _ in
          subst (λ x. ops.leq (pot (w.node t)) x ≡ true) (sym eq) (le_refl L _);
      more = λ k l. absurd (let q = f_tt in omega arith);
    }
    steady_twin (taken z a o) = record {
      less = λ k. absurd (
          let q = f_tt in
          let b = o s (λ q. twin_apart s (sym q)) in
          let c = one_way t (twin_inside w.count s sound.even inside) z in
          let d = ap f tw in
          omega arith);
      more = λ k l.
          let eq : ops.plus (pot (w.node (twin t))) (w.fee t) ≡ pot (w.node t) =
          ap (λ x. ops.plus (pot (w.node x)) (w.fee t)) tw ∙ ap (ops.plus (pot (w.node s))) fee_t ∙ ap (λ x. ops.plus x (w.fee s)) (back z) ∙ sub_add L _ _ in
          subst (λ x. ops.leq (pot (w.node t)) x ≡ true) (sym eq) (le_refl L _);
    }
