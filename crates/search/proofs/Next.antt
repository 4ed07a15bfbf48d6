-- The prices of labels at rest are a potential, lifted where there are none.
use Rattle.std.proofs.Common.{◌≡◌, ℕ, zero, suc, ◌<◌, true, false, cond, List, sym, ap, ◌∙◌, subst, ⊎_elim, arith}
use Rattle.std.proofs.lemmas.Bool.{cases_Bool, cases_eq, cond-true, cond-false}
use Rattle.price.specs.Laws.{Ops, Laws}
use Rattle.search.specs.declared.Label.{Label}
use Rattle.search.specs.Labels.{reached, label_at}
use Rattle.search.specs.Moves.{Move}
use Rattle.search.specs.Paths.{Safe, Settled}
use Rattle.price.proofs.Order.{le_refl, sub_add, kept_left}

module _ {P : Type 0} {ops : Ops P} (L : Laws ops) where
  -- some price is over f of each move
  pub over : (f : Move P → P) (n : ℕ) (ms : ℕ → Move P) → (k : P) × ((i : ℕ) → i < n → ops.leq (f (ms i)) k ≡ true)
  over f zero ms = (ops.zero, λ i h. absurd (omega arith))
  over f (suc n) ms =
      let r = over f n ms in
      ⊎_elim
      (λ h. (r.0, λ i b. ⊎_elim (λ e. subst (λ z. ops.leq (f (ms z)) r.0 ≡ true) (sym e) h) (λ ne. r.1 i (omega arith)) (cases_eq i n)))
      (λ h. (f (ms n), λ i b. ⊎_elim (λ e. subst (λ z. ops.leq (f (ms z)) (f (ms n)) ≡ true) (sym e) (le_refl L (f (ms n)))) (λ ne. L.trans _ _ _ (r.1 i (omega arith)) h) (cases_eq i n)))
      (L.total (f (ms n)) r.0)

  swap_last : (a b c : P) → ops.plus (ops.plus a b) c ≡ ops.plus (ops.plus a c) b
  swap_last a b c = L.assoc a b c ∙ ap (ops.plus a) (L.comm b c) ∙ sym (L.assoc a c b)

  module _ (from : ℕ → ℕ → ℕ) (count : ℕ) (moves : ℕ → Move P) (labels : List (Label P)) (pot : ℕ → P) (settled : Settled ops from count moves labels) (safe : Safe ops count moves pot) where
    abbrev here : ℕ → Label P
    here = label_at ops labels

    -- how far the unreached must be lifted
    abbrev lift_of : Move P → P
    lift_of m = ops.plus (here m.target).price (ops.minus (ops.plus (pot m.origin) m.cost))

    abbrev lift : P
    lift = (over lift_of count moves).0

    abbrev pub next_pot : ℕ → P
    next_pot v = cond (reached (here v)) (here v).price (ops.plus (pot v) lift)

    pub pot_reached : (v : ℕ) → reached (here v) ≡ true → next_pot v ≡ (here v).price
    pot_reached v h = cond-true _ _ _ h

    pot_other : (v : ℕ) → reached (here v) ≡ false → next_pot v ≡ ops.plus (pot v) lift
    pot_other v h = cond-false _ _ _ h

    pub next_safe : Safe ops count moves next_pot
    next_safe i lt =
        let m : Move P = moves i in
        ⊎_elim
        (λ o. let r = settled.relaxed i lt o in
        subst (λ z. ops.leq z (ops.plus (next_pot m.origin) m.cost) ≡ true) (sym (pot_reached m.target r.0))
        (subst (λ z. ops.leq (here m.target).price (ops.plus z m.cost) ≡ true) (sym (pot_reached m.origin o)) r.1))
        (λ o.
        subst (λ z. ops.leq (next_pot m.target) (ops.plus z m.cost) ≡ true) (sym (pot_other m.origin o))
        (subst (λ z. ops.leq (next_pot m.target) z ≡ true) (swap_last (pot m.origin) m.cost lift)
        (⊎_elim
        (λ t. subst (λ z. ops.leq z (ops.plus (ops.plus (pot m.origin) m.cost) lift) ≡ true) (sym (pot_reached m.target t))
        (let far = kept_left L (lift_of m) lift (ops.plus (pot m.origin) m.cost) ((over lift_of count moves).1 i lt) in
        subst (λ z. ops.leq z (ops.plus (ops.plus (pot m.origin) m.cost) lift) ≡ true) (L.comm _ _ ∙ sub_add L (here m.target).price (ops.plus (pot m.origin) m.cost)) far))
        (λ t. subst (λ z. ops.leq z (ops.plus (ops.plus (pot m.origin) m.cost) lift) ≡ true) (sym (pot_other m.target t)) (L.kept _ _ lift (safe i lt)))
        (cases_Bool (reached (here m.target))))))
        (cases_Bool (reached (here m.origin)))
