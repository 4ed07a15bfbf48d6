-- What the laws of prices give: an order that adding keeps, and differences.
use Rattle.std.proofs.Common.{◌≡◌, true, false, sym, ap, ◌∙◌, ⊎_elim}
use Rattle.std.proofs.lemmas.Bool.{both_ways, cases_Bool}
use Rattle.price.specs.Laws.{Ops, Laws}

module _ {P : Type 0} {ops : Ops P} (L : Laws ops) where
  pub le_refl : (x : P) → ops.leq x x ≡ true
  le_refl x = ⊎_elim (λ h. h) (λ h. h) (L.total x x)

  pub le_flip : (x y : P) → ops.leq x y ≡ false → ops.leq y x ≡ true
  le_flip x y h = ⊎_elim (λ k. absurd (both_ways _ h k)) (λ k. k) (L.total x y)

  pub le_false : (x y : P) → (ops.leq x y ≡ true → ⊥) → ops.leq x y ≡ false
  le_false x y h = ⊎_elim (λ k. absurd (h k)) (λ k. k) (cases_Bool (ops.leq x y))

  pub add_sub : (z y : P) → ops.plus (ops.plus z y) (ops.minus y) ≡ z
  add_sub z y = L.assoc z y (ops.minus y) ∙ ap (ops.plus z) (L.inverse y) ∙ L.unit z

  pub sub_add : (z y : P) → ops.plus (ops.plus z (ops.minus y)) y ≡ z
  sub_add z y = L.assoc z (ops.minus y) y ∙ ap (ops.plus z) (L.comm (ops.minus y) y ∙ L.inverse y) ∙ L.unit z

  pub across : (a x c : P) → ops.plus (ops.plus a (ops.minus x)) (ops.plus x c) ≡ ops.plus a c
  across a x c = sym (L.assoc (ops.plus a (ops.minus x)) x c) ∙ ap (λ z. ops.plus z c) (sub_add a x)

  pub kept_left : (x y z : P) → ops.leq x y ≡ true → ops.leq (ops.plus z x) (ops.plus z y) ≡ true
  kept_left x y z h = rw (L.comm z x, L.comm z y) (L.kept x y z h)

  -- how far a price lies above a potential: it does not fall along a move that holds back no price
  pub along : (a b x y c : P) → ops.leq (ops.plus a c) b ≡ true → ops.leq y (ops.plus x c) ≡ true → ops.leq (ops.plus a (ops.minus x)) (ops.plus b (ops.minus y)) ≡ true
  along a b x y c h k =
      let up : ops.leq (ops.plus (ops.plus a (ops.minus x)) y) b ≡ true = L.trans _ _ _ (kept_left y (ops.plus x c) (ops.plus a (ops.minus x)) k) (rw (across a x c) h) in
      let down : ops.leq (ops.plus (ops.plus (ops.plus a (ops.minus x)) y) (ops.minus y)) (ops.plus b (ops.minus y)) ≡ true = L.kept _ _ (ops.minus y) up in
      rw (add_sub (ops.plus a (ops.minus x)) y) at down

  pub strictly : (a b x y c : P) → ops.leq b (ops.plus a c) ≡ false → ops.leq y (ops.plus x c) ≡ true → ops.leq (ops.plus b (ops.minus y)) (ops.plus a (ops.minus x)) ≡ false
  strictly a b x y c h k =
      le_false _ _ (λ over.
      let up : ops.leq (ops.plus (ops.plus b (ops.minus y)) y) (ops.plus (ops.plus a (ops.minus x)) y) ≡ true = L.kept _ _ y over in
      let low : ops.leq b (ops.plus (ops.plus a (ops.minus x)) y) ≡ true = rw (sub_add b y) at up in
      let far : ops.leq (ops.plus (ops.plus a (ops.minus x)) y) (ops.plus a c) ≡ true = rw (across a x c) at (kept_left y (ops.plus x c) (ops.plus a (ops.minus x)) k) in
      both_ways _ h (L.trans _ _ _ low far))

  -- at most, then strictly below
  pub le_lt : (a b c : P) → ops.leq a b ≡ true → ops.leq c b ≡ false → ops.leq c a ≡ false
  le_lt a b c h k = le_false _ _ (λ over. both_ways _ k (L.trans _ _ _ over h))
