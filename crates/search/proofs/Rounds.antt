-- Rounds of tries: each that changes a label makes a longer chain, so there are fewer of them than labels.
use Rattle.std.proofs.Common.{◌≡◌, ℕ, zero, suc, ◌+◌, ◌<◌, ◌≤◌, Bool, true, false, cond, not, ◌&&◌, ◌||◌, eqb, List, [], ◌∷◌, length, set, sym, refl, ap, ◌∙◌, subst, inl, inr, ⊎_elim, add-one, arith, length-set, get_or-set_other, get_or-set_same}
use Rattle.std.specs.List.{AllByRecursion as All}
use Rattle.std.proofs.lemmas.List.{get_or_past}
use Rattle.std.proofs.lemmas.Bool.{cases_eq, cases_lt, cases_Bool, both_ways, eq-eqb, ne_eqb, and_parts, and_from, not-true, cond-true, cond-false}
use Rattle.search.specs.declared.Label.{Label}
use Rattle.search.specs.Labels.{reached, label_at, blank, came}
use Rattle.search.specs.Moves.{State, better, step, swept}
use Rattle.search.specs.Paths.{Chain, root, back, Settled}
use Rattle.search.proofs.Pigeon.{Distinct, pigeon}
use Rattle.price.specs.Laws.{Ops}
use Rattle.search.proofs.Sweep.{start}
use Rattle.search.proofs.Tree.{Guarded, mv, Tight, Relaxed, Inv, improved, came_from, low_reached}

-- chains do not branch
pub det : {P : Type 0} (from : ℕ → ℕ → ℕ) (at : ℕ → Label P) {v k l : ℕ} → Chain from at v k → Chain from at v l → k ≡ l
det from at (root e) (root f) = refl
det from at (root e) (back h c) = absurd (omega arith)
det from at (back h c) (root e) = absurd (omega arith)
det from at (back h c) (back g d) = ap suc (det from at c d)

nodes : {P : Type 0} {from : ℕ → ℕ → ℕ} {at : ℕ → Label P} {v k : ℕ} → Chain from at v k → List ℕ
nodes {v = v} (root e) = v ∷ []
nodes {v = v} (back h c) = v ∷ nodes c

long : {P : Type 0} {from : ℕ → ℕ → ℕ} {at : ℕ → Label P} {v k : ℕ} → (c : Chain from at v k) → length (nodes c) ≡ suc k
unfolding nodes
long (root e) = refl
long (back h c) = ap suc (long c)

-- each node of a chain has a chain that is no longer
parts : {P : Type 0} {from : ℕ → ℕ → ℕ} {at : ℕ → Label P} {v k : ℕ} → (c : Chain from at v k) (m : ℕ) → k ≤ m → All (λ y. (l : ℕ) × (l ≤ m) × Chain from at y l) (nodes c)
unfolding nodes
parts {k = k} (root e) m h = ((zero, h, root e), tt)
parts {k = k} (back {k = l} g c) m h = ((suc l, h, back g c), parts c m (omega arith))

all_map : (P Q : ℕ → Type 0) (xs : List ℕ) → ((y : ℕ) → P y → Q y) → All P xs → All Q xs
all_map P Q [] f h = tt
all_map P Q (x ∷ xs) f h = (f x h.0, all_map P Q xs f h.1)

distinct : {P : Type 0} {from : ℕ → ℕ → ℕ} {at : ℕ → Label P} {v k : ℕ} → (c : Chain from at v k) → Distinct (nodes c)
unfolding nodes
distinct (root e) = (tt, tt)
distinct {P} {from} {at} {v} (back {k = l} g c) = (
  all_map _ _ (nodes c) (λ y p e. let d = det from at (subst (λ z. Chain from at z p.0) e p.2) (back g c) in let b = p.1 in omega arith) (parts c l (omega arith)),
  distinct c,
)

chain_held : {P : Type 0} {from : ℕ → ℕ → ℕ} {at : ℕ → Label P} {v k : ℕ} → Chain from at v k → (at v).end ≤ 65534
chain_held (root e) = omega arith
chain_held (back h c) = omega arith

inside : {P : Type 0} (ops : Ops P) (labels : List (Label P)) (v : ℕ) → (label_at ops labels v).end ≤ 65534 → v < length labels
inside ops labels v h = ⊎_elim (λ k. k) (λ k. absurd (let e = ap (λ (m : Label _). m.end) (get_or_past labels v (blank ops) k) in omega arith)) (cases_lt v (length labels))

-- a chain has fewer moves than there are labels
pub short : {P : Type 0} (ops : Ops P) (from : ℕ → ℕ → ℕ) (labels : List (Label P)) (v k : ℕ) → Chain from (label_at ops labels) v k → k < length labels
short ops from labels v k c =
    let p = pigeon (length labels) (nodes c) (distinct c) (all_map _ _ (nodes c) (λ y q. inside ops labels y (chain_held q.2)) (parts c k (omega arith))) in
    let l = long c in
    omega arith

-- a label that changed in a late round has a long chain
pub deep : {P : Type 0} (N : Guarded P) (r j : ℕ) (last : ℕ → ℕ) (at : ℕ → Label P) → Inv N r j last at → {v k : ℕ} → Chain N.from at v k → reached (at v) ≡ true → last v ≤ k
deep N r j last at inv {v} (root e) g = let z = inv.rooted v e in omega arith
deep N r j last at inv {v} (back {k = k} h c) g =
    ⊎_elim
    (λ e. absurd (omega arith))
    (λ t.
    let e = came_from N last at v t.0 t.1 in
    let d = deep N r j last at inv c (subst (λ w. reached (at w) ≡ true) (sym e) t.1.got) in
    let s = ap last e in
    let b = t.1.late in
    omega arith)
    (inv.tight v g)

-- in round r, before the try of move i: the labels, and whether one has changed in this round
pub record Mid {P : Type 0} (N : Guarded P) (n r i : ℕ) (s : State P) : Type 0 where
  pub last : ℕ → ℕ
  pub inv : Inv N r i last (label_at N.ops s.labels)
  pub sized : length s.labels ≡ n
  pub hit : s.changed ≡ true → (v : ℕ) × (reached (label_at N.ops s.labels v) ≡ true) × (last v ≡ r)
  pub calm : s.changed ≡ false → (v : ℕ) → last v < r

abbrev pub took : {P : Type 0} → Guarded P → State P → ℕ → State P
took N s i = step N.ops s (mv N i)

same_state : {P : Type 0} (s : State P) (b : Bool) (ms : List (Label P)) → b ≡ false → ms ≡ s.labels → record { changed = s.changed || b; labels = ms } ≡ s
same_state {P} s b ms e f = λ k. record { changed = (or_none s.changed b e) k; labels = f k }
  where
    or_none : (x y : Bool) → y ≡ false → (x || y) ≡ x
    or_none true y h = refl
    or_none false y h = h

or_true : (x y : Bool) → y ≡ true → (x || y) ≡ true
or_true true y h = refl
or_true false y h = h

module _ {P : Type 0} (N : Guarded P) (n r i : ℕ) (s : State P) (mid : Mid N n r i s) (lt : i < N.count) (fit : (mv N i).target < n) where
  abbrev here : ℕ → Label P
  here = label_at N.ops s.labels

  quiet_relaxed : better N.ops s.labels (mv N i) ≡ false → reached (here (mv N i).origin) ≡ true → Relaxed N here i
  quiet_relaxed h g =
      ⊎_elim
      (λ k. absurd (both_ways _ h (and_from _ _ g (ap not k))))
      (λ k. k)
      (⊎_elim (λ t. inr (and_parts _ _ t)) (λ f. inl f) (cases_Bool (reached (here (mv N i).target) && N.ops.leq (here (mv N i).target).price (N.ops.plus (here (mv N i).origin).price (mv N i).cost))))

  quiet : better N.ops s.labels (mv N i) ≡ false → Mid N n r (i + 1) s
  quiet h = record {
    last = mid.last;
    inv = record {
      tight = mid.inv.tight;
      chain = mid.inv.chain;
      rooted = mid.inv.rooted;
      bound = mid.inv.bound;
      relaxed = λ k below g. ⊎_elim
          (λ e. inl (subst (Relaxed N here) (sym e) (quiet_relaxed h (subst (λ z. reached (here (mv N z).origin) ≡ true) e g))))
          (λ ne. ⊎_elim inl (λ q. inr (λ b. q.0 (omega arith), λ b. q.1 (omega arith))) (mid.inv.relaxed k below g))
          (cases_eq k i);
    };
    sized = mid.sized;
    hit = mid.hit;
    calm = mid.calm;
  }

  abbrev fresh_label : Label P
  fresh_label = came N.ops (here (mv N i).origin) (mv N i).cost (mv N i).end

  abbrev next_last : ℕ → ℕ
  next_last w = cond (eqb w (mv N i).target) r (mid.last w)

  stirred : better N.ops s.labels (mv N i) ≡ true → Mid N n r (i + 1) (record { changed = true; labels = set s.labels (mv N i).target fresh_label })
  stirred h =
      let p = and_parts _ _ h in
      let no = not-true _ p.1 in
      let at_Target = get_or-set_same s.labels (mv N i).target fresh_label (blank N.ops) (let e = mid.sized in omega arith) in
      let now_last : next_last (mv N i).target ≡ r = cond-true _ _ _ (eq-eqb (mv N i).target (mv N i).target refl) in
      record {
        last = next_last;
        inv =
            improved N r i mid.last next_last here (label_at N.ops (set s.labels (mv N i).target fresh_label)) mid.inv lt p.0
            (λ g. ⊎_elim (λ k. absurd (both_ways _ no (and_from _ _ g k))) (λ k. k) (cases_Bool _))
            at_Target
            (λ w ne. get_or-set_other s.labels (mv N i).target w fresh_label (blank N.ops) ne)
            now_last
            (λ w ne. cond-false _ _ _ (ne_eqb w (mv N i).target ne));
        sized = length-set s.labels (mv N i).target fresh_label ∙ mid.sized;
        hit = λ _. ((mv N i).target, subst (λ (z : Label P). reached z ≡ true) (sym at_Target) (low_reached fresh_label (N.low i lt)), now_last);
        calm = λ e. absurd (both_ways _ e refl);
      }

  pub mid_step : Mid N n r (i + 1) (took N s i)
  mid_step =
      ⊎_elim
      (λ t. subst (Mid N n r (i + 1)) (λ k. record { changed = sym (or_true s.changed _ t) k; labels = sym (cond-true (better N.ops s.labels (mv N i)) (set s.labels (mv N i).target fresh_label) s.labels t) k }) (stirred t))
      (λ f. subst (Mid N n r (i + 1)) (sym (same_state s _ _ f (cond-false (better N.ops s.labels (mv N i)) (set s.labels (mv N i).target fresh_label) s.labels f))) (quiet f))
      (cases_Bool (better N.ops s.labels (mv N i)))

pub mid_sweep : {P : Type 0} (N : Guarded P) (n r : ℕ) (s : State P) → Mid N n r 0 s → ((i : ℕ) → i < N.count → (mv N i).target < n) → (i : ℕ) → i ≤ N.count → Mid N n r i (swept N.ops s N.moves i)
mid_sweep N n r s m fit zero h = m
mid_sweep N n r s m fit (suc i) h =
    let lt : i < N.count = h in
    subst (λ k. Mid N n r k (swept N.ops s N.moves (suc i))) (add-one i) (mid_step N n r i _ (mid_sweep N n r s m fit i (omega arith)) lt (fit i lt))

-- nothing but roots has a price
pub first_round : {P : Type 0} (N : Guarded P) (labels : List (Label P)) → ((v : ℕ) → reached (label_at N.ops labels v) ≡ true → (label_at N.ops labels v).end ≡ 65534) → Mid N (length labels) 1 0 (start labels)
first_round N labels fresh = record {
  last = λ _. 0;
  inv = record {
    tight = λ v g. inl (fresh v g);
    chain = λ v g. (zero, root (fresh v g));
    rooted = λ v h. refl;
    bound = λ v. omega arith;
    relaxed = λ i lt g. inr (λ b. absurd (omega arith), λ b. omega arith);
  };
  sized = refl;
  hit = λ e. absurd (both_ways _ refl e);
  calm = λ e v. omega arith;
}

-- a round that changed a label is followed by another, and the rounds so far are fewer than the labels
pub next_round : {P : Type 0} (N : Guarded P) (n r : ℕ) (s : State P) → Mid N n r N.count s → s.changed ≡ true → (r < n) × Mid N n (r + 1) 0 (start s.labels)
next_round N n r s mid e =
    let h = mid.hit e in
    let c = mid.inv.chain h.0 h.1 in
    let d = deep N r N.count mid.last _ mid.inv c.1 h.1 in
    let b = short N.ops N.from s.labels h.0 c.0 c.1 in
    let z = mid.sized in
    let l = h.2 in (
      omega arith,
      record {
        last = mid.last;
        inv = record {
          tight = mid.inv.tight;
          chain = mid.inv.chain;
          rooted = mid.inv.rooted;
          bound = λ v. let k = mid.inv.bound v in omega arith;
          relaxed = λ i lt g. ⊎_elim inl (λ q. inr (λ k. absurd (omega arith), λ k. let m = q.0 lt in omega arith)) (mid.inv.relaxed i lt g);
        };
        sized = mid.sized;
        hit = λ f. absurd (both_ways _ refl f);
        calm = λ f v. let k = mid.inv.bound v in omega arith;
      },
    )

resting : {P : Type 0} (N : Guarded P) (n r : ℕ) (s : State P) (mid : Mid N n r N.count s) → s.changed ≡ false → (i : ℕ) → i < N.count → reached (label_at N.ops s.labels (mv N i).origin) ≡ true → Relaxed N (label_at N.ops s.labels) i
resting N n r s mid e i lt g = ⊎_elim (λ q. q) (λ q. absurd (let a = q.0 lt in let b = mid.calm e (mv N i).origin in omega arith)) (mid.inv.relaxed i lt g)

exactly : {P : Type 0} (N : Guarded P) (last : ℕ → ℕ) (at : ℕ → Label P) (i v : ℕ) → Tight N last at v i → Relaxed N at i → (at v).price ≡ N.ops.plus (at (mv N i).origin).price (mv N i).cost
exactly N last at i v t q =
    N.laws.antisym _ _ (subst (λ w. N.ops.leq (at w).price (N.ops.plus (at (mv N i).origin).price (mv N i).cost) ≡ true) t.to q.1) t.held

-- after a round that changed nothing
pub at_rest : {P : Type 0} (N : Guarded P) (n r : ℕ) (s : State P) → Mid N n r N.count s → s.changed ≡ false → Settled N.ops N.from N.count N.moves s.labels
at_rest N n r s mid e = record {
  relaxed = resting N n r s mid e;
  chained = mid.inv.chain;
  exact = λ v g. ⊎_elim inl (λ t. inr (t.0, t.1.inside, t.1.to, t.1.by, t.1.got, exactly N mid.last _ t.0 v t.1 (resting N n r s mid e t.0 t.1.inside t.1.got))) (mid.inv.tight v g);
}
