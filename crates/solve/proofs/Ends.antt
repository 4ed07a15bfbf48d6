-- What a search at rest says of the flow: it is least, or no flow meets the demands, or a unit can be sent.
use Rattle.std.proofs.Common.{◌≡◌, ℕ, ◌+◌, ◌<◌, true, List, sym, ap, ◌∙◌, subst, inl, inr, ⊎_elim, arith}
use Rattle.std.proofs.lemmas.Bool.{cases_lt}
use Rattle.price.specs.Laws.{Ops, Laws}
use Rattle.price.proofs.Order.{sub_add, kept_left}
use Rattle.duality.specs.Sums.{sum, at}
use Rattle.duality.specs.Flows.{Within, into, out_of, Fits, Meets, Certificate}
use Rattle.duality.proofs.Exchange.{sum_ext, sum_add, exchange}
use Rattle.duality.proofs.Theorems.{numbers, ones, least, impossible, sum_strict}
use Rattle.search.specs.declared.Label.{Label}
use Rattle.search.specs.Labels.{label_at, reached}
use Rattle.search.specs.Moves.{Move}
use Rattle.search.specs.Paths.{Safe, Settled, Chain, root, back}
use Rattle.search.specs.Networks.{twin, Network, move, Open, Usable}
use Rattle.search.proofs.Twins.{twin_twin, twin_inside}
use Rattle.search.proofs.Tree.{low_reached}
use Rattle.search.proofs.Rounds.{det}
use Rattle.search.proofs.Residual.{Sound, side_cases, open_move, move_none, from_at, usable, from_open, named}
use Rattle.solve.specs.Solutions.{arcs, OneWay, Best, NoFlow, Leaves}
use Rattle.solve.specs.Chains.{Tight, Way}
use Rattle.solve.specs.Chains as chains
use Rattle.solve.proofs.Steady.{Steady, steady, neg_low}

-- no label came by a move from its own node
no_loop : {P : Type 0} (from : ℕ → ℕ → ℕ) (label : ℕ → Label P) (v k : ℕ) → Chain from label v k → (label v).end < 65534 → from v (label v).end ≡ v → ⊥
no_loop from label v _ (root e) h q = omega arith
no_loop from label v _ (back {k = k} g c) h q = let d = det from label (back g c) (subst (λ z. Chain from label z k) q c) in omega arith

all_at : (N A : ℕ) (end f : ℕ → ℕ) → ((a : ℕ) → a < A → end a < N) → sum 0 ◌+◌ N (λ n. at A end f n) ≡ sum 0 ◌+◌ A f
all_at N A end f h =
    sum_ext numbers N _ _ (λ n b. sym (ones (at A end f n))) ∙ exchange numbers N A end f (λ _. 1) h ∙ sum_ext numbers A _ _ (λ a b. ones (f a))

module _ {P : Type 0} {ops : Ops P} (L : Laws ops) (n : ℕ) (w : Network P) (key : ℕ → ℕ → ℕ) (sound : Sound ops n w key) where
  in_twin : (s : ℕ) → s < w.count → twin s < w.count
  in_twin s b = twin_inside w.count s sound.even b

  within : Within (arcs n w)
  within = record { from = λ a b. sound.inside (twin a) (in_twin a b); to = sound.inside }

  certificate : (pot : ℕ → P) (f : ℕ → ℕ) → ((s : ℕ) → s < w.count → Steady L w pot f s) → Certificate ops.plus (λ x y. ops.leq x y ≡ true) (arcs n w) w.fee pot f
  certificate pot f st = record {
    more = λ a b r. ⊎_elim
        (λ h. L.trans _ _ _ ((st a b).less h) (kept_left L _ _ _ (neg_low L (w.fee a) (sound.paid a b))))
        (λ h. (st a b).more (omega arith) r)
        (cases_lt 0 (f (twin a)));
    less = λ a b r.
        let h = (st (twin a) (in_twin a b)).less (let q = ap f (twin_twin a) in omega arith) in
        let eq : ops.plus (ops.plus (pot (w.node (twin (twin a)))) (ops.minus (w.fee (twin a)))) (w.fee a) ≡ pot (w.node a) =
        ap (λ z. ops.plus (ops.plus (pot (w.node z)) (ops.minus (w.fee (twin a)))) (w.fee a)) (twin_twin a) ∙ ap (λ z. ops.plus (ops.plus (pot (w.node a)) (ops.minus z)) (w.fee a)) (sound.paired a b) ∙ sub_add L _ _ in
        subst (λ z. ops.leq (ops.plus (pot (w.node (twin a))) (w.fee a)) z ≡ true) eq (L.kept _ _ (w.fee a) h);
  }

  pub best : (pot : ℕ → P) (p q f : ℕ → ℕ) → Safe ops w.count (move ops w f) pot → Fits (arcs n w) f → OneWay w f → Meets (arcs n w) p q f → Best ops n w p q f
  best pot p q f safe fits one_way meets = record {
    fits = fits;
    one_way = one_way;
    meets = meets;
    least = λ f' fits' meets'. least L (arcs n w) w.fee pot f f' within fits' (λ v b. let x = meets v b in let y = meets' v b in omega arith) (certificate pot f (λ s b. steady L w pot f s (safe s b)));
  }

  -- demands whose sums differ are met by no flow
  pub uneven : (p q short f : ℕ → ℕ) → ((v : ℕ) → v < n → into (arcs n w) f v + q v + short v ≡ out_of (arcs n w) f v + p v) → (m : ℕ) → m < n → 0 < short m → NoFlow n w p q
  uneven p q short f state m b some f' fits meets =
      let a₁ = all_at n w.count w.node f sound.inside in
      let a₂ = all_at n w.count (λ s. w.node (twin s)) f (λ s h. sound.inside (twin s) (in_twin s h)) in
      let b₁ = all_at n w.count w.node f' sound.inside in
      let b₂ = all_at n w.count (λ s. w.node (twin s)) f' (λ s h. sound.inside (twin s) (in_twin s h)) in
      let c₁ = sum_ext numbers n _ _ state in
      let c₂ = sum_ext numbers n _ _ meets in
      let d₁ = sum_add numbers n (λ v. into (arcs n w) f v + q v) short in
      let d₂ = sum_add numbers n (λ v. into (arcs n w) f v) q in
      let d₃ = sum_add numbers n (λ v. out_of (arcs n w) f v) p in
      let d₄ = sum_add numbers n (λ v. into (arcs n w) f' v) q in
      let d₅ = sum_add numbers n (λ v. out_of (arcs n w) f' v) p in
      let e = sum_strict n m (λ _. 0) short (λ i h. omega arith) b some in
      omega arith

  module _ (f : ℕ → ℕ) (fits : Fits (arcs n w) f) (labels : List (Label P)) (settled : Settled ops (from_at ops w key f) w.count (move ops w f) labels) where
    abbrev label : ℕ → Label P
    label = label_at ops labels

    onward : (s : ℕ) → s < w.count → Open w f s → reached (label (w.node (twin s))) ≡ true → reached (label (w.node s)) ≡ true
    onward s b o i =
        let e = open_move ops w f s o in
        subst (λ (m : Move P). reached (label m.target) ≡ true) e (settled.relaxed s b (subst (λ (m : Move P). reached (label m.origin) ≡ true) (sym e) i)).0

    pub cut : (p q short over : ℕ → ℕ) → Leaves n w p q short over f → ((v : ℕ) → v < n → reached (label v) ≡ true → short v ≡ 0) → (m : ℕ) → m < n → reached (label m) ≡ true → 0 < over m → NoFlow n w p q
    cut p q short over state no_short m b i o f' fits' meets =
        impossible (arcs n w) p q short over (λ v. reached (label v)) f f' within fits' meets
        (record {
          more = λ a c r. onward a c (inr r);
          less = λ a c r h. onward (twin a) (in_twin a c) (inl (let q = ap f (twin_twin a) in omega arith)) (subst (λ z. reached (label (w.node z)) ≡ true) (sym (twin_twin a)) h);
        })
        state no_short m b i o

    -- the side that a label came by
    pub record By (v s : ℕ) : Type 0 where
      pub tight : Tight ops w label f v s
      pub from : from_at ops w key f v (label v).end ≡ w.node (twin s)

    pub by_side : (v : ℕ) → (label v).end < 65534 → (s : ℕ) × By v s
    by_side v low =
        let r = low_reached (label v) low in
        ⊎_elim
        (λ e. absurd (omega arith))
        (λ x.
        let i : ℕ = x.0 in
        let lt : i < w.count = x.1 in
        let free : Open w f i =
        ⊎_elim inl (⊎_elim (λ k. inr k.1) (λ k.
        let c = settled.chained v r in
        let e = move_none ops w i (f (twin i)) (f i) k.0 k.1 in
        let stay : from_at ops w key f v (label v).end ≡ v =
        (λ j. from_at ops w key f (sym x.2 j) (sym x.3 j)) ∙ named ops n w key sound f fits i lt ∙ (λ j. (e j).origin) ∙ (λ j. (sym e j).target) ∙ x.2 in
        absurd (no_loop (from_at ops w key f) label v c.0 c.1 low stay))) (side_cases w f i) in
        let e = open_move ops w f i free in
        let to : w.node i ≡ v = ap (λ (m : Move P). m.target) (sym e) ∙ x.2 in
        let by : w.end i ≡ (label v).end = ap (λ (m : Move P). m.end) (sym e) ∙ x.3 in (
          i,
          record {
            tight = record { inside = lt; to = to; by = by; free = free; held = subst (λ (m : Move P). (label v).price ≡ ops.plus (label m.origin).price m.cost) e x.5 };
            from = (λ j. from_at ops w key f (sym to j) (sym by j)) ∙ from_open ops n w key sound f fits i lt free ∙ ap (λ (m : Move P). m.origin) e;
          },
        ))
        (settled.exact v r)

    -- where `side` tells the side that each label came by, every labelled node has a way back
    module _ (side : ℕ → ℕ) (indexed : (s : ℕ) → s < w.count → Usable w s → (label (w.node s)).end ≡ w.end s → side (w.node s) ≡ s) where
      pub way : {v k : ℕ} → Chain (from_at ops w key f) label v k → (u : ℕ) × Way ops w side label f v u k
      way {v} (root e) = (v, chains.root e)
      way {v} (back {k = k} h c) =
          let b = by_side v h in
          let t = b.1.tight in
          let is : side v ≡ b.0 = ap side (sym t.to) ∙ indexed b.0 t.inside (usable ops n w key sound f fits b.0 t.inside t.free) (ap (λ z. (label z).end) t.to ∙ sym t.by) in
          let on = way c in
          (on.0, chains.back h (subst (Tight ops w label f v) (sym is) t) (subst (λ z. Way ops w side label f z on.0 k) (b.1.from ∙ ap (λ z. w.node (twin z)) (sym is)) on.1))
