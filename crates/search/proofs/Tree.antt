-- What the search keeps, try by try: the chains end in roots, and are long where a label changed late.
use Rattle.std.proofs.Common.{◌≡◌, ℕ, zero, suc, ◌+◌, ◌<◌, ◌≤◌, true, false, ◌⊎◌, sym, refl, ap, ◌∙◌, subst, inl, inr, ⊎_elim, arith}
use Rattle.std.proofs.lemmas.Bool.{cases_eq, both_ways, ne_eqb, not_from_false}
use Rattle.price.specs.Laws.{Ops, Laws}
use Rattle.search.specs.declared.Label.{Label}
use Rattle.search.specs.Labels.{reached}
use Rattle.search.specs.Moves.{Move}
use Rattle.search.specs.Paths.{Chain, root, back, Safe, Named}
use Rattle.price.proofs.Order.{le_refl, le_flip, along, strictly, le_lt}

-- moves with a potential
pub record Guarded (P : Type 0) : Type 0 where
  pub ops : Ops P
  pub laws : Laws ops
  pub count : ℕ
  pub moves : ℕ → Move P
  pub from : ℕ → ℕ → ℕ
  pub pot : ℕ → P
  pub named : Named count moves from
  pub low : (i : ℕ) → i < count → (moves i).end < 65534
  pub safe : Safe ops count moves pot

abbrev pub mv : {P : Type 0} → Guarded P → ℕ → Move P
mv N i = N.moves i

pub record Tight {P : Type 0} (N : Guarded P) (last : ℕ → ℕ) (at : ℕ → Label P) (v i : ℕ) : Type 0 where
  pub inside : i < N.count
  pub to : (mv N i).target ≡ v
  pub by : (mv N i).end ≡ (at v).end
  pub got : reached (at (mv N i).origin) ≡ true
  pub held : N.ops.leq (N.ops.plus (at (mv N i).origin).price (mv N i).cost) (at v).price ≡ true
  pub late : last v ≤ last (mv N i).origin + 1

abbrev pub Relaxed : {P : Type 0} → Guarded P → (ℕ → Label P) → ℕ → Type 0
Relaxed N at i = (reached (at (mv N i).target) ≡ true) × (N.ops.leq (at (mv N i).target).price (N.ops.plus (at (mv N i).origin).price (mv N i).cost) ≡ true)

abbrev pub Recent : {P : Type 0} → Guarded P → ℕ → ℕ → (ℕ → ℕ) → ℕ → Type 0
Recent N r j last i = (i < j → r ≤ last (mv N i).origin) × (j ≤ i → r ≤ last (mv N i).origin + 1)

-- in round r, before the try of move j; last says in which round a label changed last
pub record Inv {P : Type 0} (N : Guarded P) (r j : ℕ) (last : ℕ → ℕ) (at : ℕ → Label P) : Type 0 where
  pub tight : (v : ℕ) → reached (at v) ≡ true → ((at v).end ≡ 65534) ⊎ ((i : ℕ) × Tight N last at v i)
  pub chain : (v : ℕ) → reached (at v) ≡ true → (k : ℕ) × Chain N.from at v k
  pub rooted : (v : ℕ) → (at v).end ≡ 65534 → last v ≡ 0
  pub bound : (v : ℕ) → last v ≤ r
  pub relaxed : (i : ℕ) → i < N.count → reached (at (mv N i).origin) ≡ true → Relaxed N at i ⊎ Recent N r j last i

pub low_reached : {P : Type 0} (m : Label P) → m.end < 65534 → reached m ≡ true
low_reached m h = not_from_false _ (ne_eqb m.end 65535 (λ e. omega arith))

-- the origin of the move that a tight label came by
pub came_from : {P : Type 0} (N : Guarded P) (last : ℕ → ℕ) (at : ℕ → Label P) (v i : ℕ) → Tight N last at v i → N.from v (at v).end ≡ (mv N i).origin
came_from N last at v i t = ap (λ w. N.from w (at v).end) (sym t.to) ∙ ap (N.from (mv N i).target) (sym t.by) ∙ N.named i t.inside

back_at : {P : Type 0} (from : ℕ → ℕ → ℕ) (at at' : ℕ → Label P) (x k : ℕ) → at' x ≡ at x → (at x).end < 65534 → Chain from at' (from x (at x).end) k → Chain from at' x (suc k)
back_at {P} from at at' x k e h ch =
    back (subst (λ (z : Label P). z.end < 65534) (sym e) h) (subst (λ (z : Label P). Chain from at' (from x z.end) k) (sym e) ch)

module _ {P : Type 0} (N : Guarded P) (r j : ℕ) (last last' : ℕ → ℕ) (at at' : ℕ → Label P) (inv : Inv N r j last at) (inside : j < N.count) (got : reached (at (mv N j).origin) ≡ true) (worse : reached (at (mv N j).target) ≡ true → N.ops.leq (at (mv N j).target).price (N.ops.plus (at (mv N j).origin).price (mv N j).cost) ≡ false) (new : at' (mv N j).target ≡ record { price = N.ops.plus (at (mv N j).origin).price (mv N j).cost; end = (mv N j).end }) (other : (w : ℕ) → (w ≡ (mv N j).target → ⊥) → at' w ≡ at w) (this : last' (mv N j).target ≡ r) (rest : (w : ℕ) → (w ≡ (mv N j).target → ⊥) → last' w ≡ last w) where
  abbrev gap : ℕ → P
  gap w = N.ops.plus (at w).price (N.ops.minus (N.pot w))

  -- x lies lower above the potential than the target
  abbrev Under : ℕ → Type 0
  Under x = reached (at (mv N j).target) ≡ true → N.ops.leq (gap (mv N j).target) (gap x) ≡ false

  under_origin : Under (mv N j).origin
  under_origin h = strictly N.laws _ _ _ _ _ (worse h) (N.safe j inside)

  under_apart : (x : ℕ) → reached (at x) ≡ true → Under x → x ≡ (mv N j).target → ⊥
  under_apart x h u e =
      both_ways _ (u (subst (λ w. reached (at w) ≡ true) e h)) (subst (λ w. N.ops.leq (gap (mv N j).target) (gap w) ≡ true) (sym e) (le_refl N.laws (gap (mv N j).target)))

  under_back : (x i : ℕ) → Tight N last at x i → Under x → Under (mv N i).origin
  under_back x i t u h =
      let safe : N.ops.leq (N.pot x) (N.ops.plus (N.pot (mv N i).origin) (mv N i).cost) ≡ true = subst (λ w. N.ops.leq (N.pot w) (N.ops.plus (N.pot (mv N i).origin) (mv N i).cost) ≡ true) t.to (N.safe i t.inside) in
      le_lt N.laws _ _ _ (along N.laws _ _ _ _ _ t.held safe) (u h)

  -- where a chain leads back by one move, from a node that lies lower than the target
  before : (x : ℕ) → (at x).end < 65534 → Under x → reached (at x) ≡ true → (reached (at (N.from x (at x).end)) ≡ true) × Under (N.from x (at x).end)
  before x h u g =
      ⊎_elim
      (λ e. absurd (omega arith))
      (λ t.
      let e = came_from N last at x t.0 t.1 in
      (subst (λ w. reached (at w) ≡ true) (sym e) t.1.got, subst Under (sym e) (under_back x t.0 t.1 u)))
      (inv.tight x g)

  -- the chain of a node that lies lower than the target stays
  keep : {x k : ℕ} → Chain N.from at x k → reached (at x) ≡ true → Under x → Chain N.from at' x k
  keep {x} (root e) g u = root (ap (λ (z : Label P). z.end) (other x (under_apart x g u)) ∙ e)
  keep {x} (back {k = k} h ch) g u =
      let b = before x h u g in
      back_at N.from at at' x k (other x (under_apart x g u)) h (keep ch b.0 b.1)

  new_low : (at' (mv N j).target).end < 65534
  new_low = subst (λ (z : Label P). z.end < 65534) (sym new) (N.low j inside)

  new_chain : (k : ℕ) × Chain N.from at' (mv N j).target k
  new_chain =
      let c = inv.chain (mv N j).origin got in
      let e : N.from (mv N j).target (at' (mv N j).target).end ≡ (mv N j).origin = ap (λ (z : Label P). N.from (mv N j).target z.end) new ∙ N.named j inside in
      (suc c.0, back new_low (subst (λ w. Chain N.from at' w c.0) (sym e) (keep c.1 got under_origin)))

  rechain : {w k : ℕ} → Chain N.from at w k → (l : ℕ) × Chain N.from at' w l
  rechain {w} (root e) =
      ⊎_elim (λ q. subst (λ z. (l : ℕ) × Chain N.from at' z l) (sym q) new_chain) (λ ne. (zero, root (ap (λ (z : Label P). z.end) (other w ne) ∙ e))) (cases_eq w (mv N j).target)
  rechain {w} (back h ch) =
      let c = rechain ch in
      ⊎_elim (λ q. subst (λ z. (l : ℕ) × Chain N.from at' z l) (sym q) new_chain) (λ ne. (suc c.0, back_at N.from at at' w c.0 (other w ne) h c.1)) (cases_eq w (mv N j).target)

  apart : (mv N j).origin ≡ (mv N j).target → ⊥
  apart = under_apart (mv N j).origin got under_origin

  lower : (w : ℕ) → reached (at w) ≡ true → N.ops.leq (at' w).price (at w).price ≡ true
  lower w g =
      ⊎_elim
      (λ e. subst (λ z. N.ops.leq (at' z).price (at z).price ≡ true) (sym e) (subst (λ (z : Label P). N.ops.leq z.price (at (mv N j).target).price ≡ true) (sym new) (le_flip N.laws _ _ (worse (subst (λ z. reached (at z) ≡ true) e g)))))
      (λ ne. subst (λ (z : Label P). N.ops.leq z.price (at w).price ≡ true) (sym (other w ne)) (le_refl N.laws (at w).price))
      (cases_eq w (mv N j).target)

  still : (w : ℕ) → reached (at w) ≡ true → reached (at' w) ≡ true
  still w g =
      ⊎_elim (λ e. subst (λ z. reached (at' z) ≡ true) (sym e) (low_reached (at' (mv N j).target) new_low)) (λ ne. subst (λ (z : Label P). reached z ≡ true) (sym (other w ne)) g) (cases_eq w (mv N j).target)

  later : (w : ℕ) → last w ≤ last' w
  later w = ⊎_elim (λ e. let a = ap last' e ∙ this in let b = inv.bound w in omega arith) (λ ne. let a = rest w ne in omega arith) (cases_eq w (mv N j).target)

  -- the origin changed in this round or the one before
  fresh : r ≤ last (mv N j).origin + 1
  fresh = ⊎_elim (λ q. absurd (both_ways _ (worse q.0) q.1)) (λ q. q.1 (omega arith)) (inv.relaxed j inside got)

  new_tight : Tight N last' at' (mv N j).target j
  new_tight = record {
    inside = inside;
    to = refl;
    by = ap (λ (z : Label P). z.end) (sym new);
    got = still (mv N j).origin got;
    held = subst (λ (z : Label P). N.ops.leq (N.ops.plus z.price (mv N j).cost) (at' (mv N j).target).price ≡ true) (sym (other (mv N j).origin apart)) (subst (λ (z : Label P). N.ops.leq (N.ops.plus (at (mv N j).origin).price (mv N j).cost) z.price ≡ true) (sym new) (le_refl N.laws _));
    late = (let a = rest (mv N j).origin apart in let f = fresh in let t = this in omega arith);
  }

  old_tight : (w i : ℕ) → (w ≡ (mv N j).target → ⊥) → Tight N last at w i → Tight N last' at' w i
  old_tight w i ne t = record {
    inside = t.inside;
    to = t.to;
    by = t.by ∙ ap (λ (z : Label P). z.end) (sym (other w ne));
    got = still (mv N i).origin t.got;
    held = subst (λ (z : Label P). N.ops.leq (N.ops.plus (at' (mv N i).origin).price (mv N i).cost) z.price ≡ true) (sym (other w ne)) (N.laws.trans _ _ _ (N.laws.kept _ _ (mv N i).cost (lower (mv N i).origin t.got)) t.held);
    late = (let a = rest w ne in let b = later (mv N i).origin in let c = t.late in omega arith);
  }

  was_reached : (w : ℕ) → (w ≡ (mv N j).target → ⊥) → reached (at' w) ≡ true → reached (at w) ≡ true
  was_reached w ne g = subst (λ (z : Label P). reached z ≡ true) (other w ne) g

  relaxed_on : (i : ℕ) → ((mv N i).origin ≡ (mv N j).target → ⊥) → Relaxed N at i → Relaxed N at' i
  relaxed_on i ne h = (
    still (mv N i).target h.0,
    subst (λ (z : Label P). N.ops.leq (at' (mv N i).target).price (N.ops.plus z.price (mv N i).cost) ≡ true) (sym (other (mv N i).origin ne)) (N.laws.trans _ _ _ (lower (mv N i).target h.0) h.1),
  )

  relaxed_here : Relaxed N at' j
  relaxed_here = (low_reached (at' (mv N j).target) new_low, subst (λ (z : Label P). N.ops.leq (at' (mv N j).target).price (N.ops.plus z.price (mv N j).cost) ≡ true) (sym (other (mv N j).origin apart)) (subst (λ (z : Label P). N.ops.leq z.price (N.ops.plus (at (mv N j).origin).price (mv N j).cost) ≡ true) (sym new) (le_refl N.laws _)))

  relaxed_next : (i : ℕ) → i < N.count → reached (at' (mv N i).origin) ≡ true → Relaxed N at' i ⊎ Recent N r (j + 1) last' i
  relaxed_next i lt g =
      ⊎_elim
      (λ e. let a = ap last' e ∙ this in inr (λ _. omega arith, λ _. omega arith))
      (λ ne.
      ⊎_elim
      (λ h. inl (relaxed_on i ne h))
      (λ h.
      ⊎_elim
      (λ q. inl (subst (Relaxed N at') (sym q) relaxed_here))
      (λ off. let l = later (mv N i).origin in inr (λ b. let k = h.0 (omega arith) in omega arith, λ b. let k = h.1 (omega arith) in omega arith))
      (cases_eq i j))
      (inv.relaxed i lt (was_reached (mv N i).origin ne g)))
      (cases_eq (mv N i).origin (mv N j).target)

  pub improved : Inv N r (j + 1) last' at'
  improved = record {
    tight = λ w g. ⊎_elim
        (λ e. subst (λ z. ((at' z).end ≡ 65534) ⊎ ((i : ℕ) × Tight N last' at' z i)) (sym e) (inr (j, new_tight)))
        (λ ne. ⊎_elim (λ h. inl (ap (λ (z : Label P). z.end) (other w ne) ∙ h)) (λ t. inr (t.0, old_tight w t.0 ne t.1)) (inv.tight w (was_reached w ne g)))
        (cases_eq w (mv N j).target);
    chain = λ w g. ⊎_elim
        (λ e. subst (λ z. (k : ℕ) × Chain N.from at' z k) (sym e) new_chain)
        (λ ne. rechain (inv.chain w (was_reached w ne g)).1)
        (cases_eq w (mv N j).target);
    rooted = λ w h. ⊎_elim
        (λ e. let a = ap (λ z. (at' z).end) e in let b = new_low in absurd (omega arith))
        (λ ne. let a = inv.rooted w (ap (λ (z : Label P). z.end) (sym (other w ne)) ∙ h) in let b = rest w ne in omega arith)
        (cases_eq w (mv N j).target);
    bound = λ w. ⊎_elim (λ e. let a = ap last' e ∙ this in omega arith) (λ ne. let a = rest w ne in let b = inv.bound w in omega arith) (cases_eq w (mv N j).target);
    relaxed = relaxed_next;
  }
