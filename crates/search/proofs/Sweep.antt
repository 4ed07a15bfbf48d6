-- What one try, and a round of tries, do to the labels.
use Rattle.std.proofs.Common.{◌≡◌, ℕ, zero, suc, ◌+◌, ◌*◌, ◌<◌, ◌≤◌, Bool, true, false, cond, ◌&&◌, ◌||◌, ◌⊎◌, List, [], ◌∷◌, length, get_or, take, set, sym, refl, ap, ◌∙◌, subst, inl, inr, ⊎_elim, arith, length-set, get_or-set_other, get_or-set_same}
use Rattle.std.proofs.lemmas.List.{get_or-take}
use Rattle.std.proofs.lemmas.Bool.{cases_eq, cond_both, and_cases, and_parts, not-true, both_ways, ne_eqb, not_from_false}
use Rattle.price.specs.Laws.{Ops, Laws}
use Rattle.price.proofs.Order.{le_refl, le_flip}
use Rattle.search.specs.declared.Label.{Label}
use Rattle.search.specs.Labels.{label_at, reached, improves, came, blank, Lower, Roots, Sized}
use Rattle.search.specs.Moves.{Move, State, better, moved, step, swept}

-- the move can be tried on n labels
pub record Fit {P : Type 0} (ops : Ops P) (n : ℕ) (m : Move P) : Type 0 where
  pub from : m.origin < n
  pub to : m.target < n
  pub cheap : ops.size m.cost ≤ 2000
  pub named : m.end < 65534

abbrev pub AllFit : {P : Type 0} → Ops P → ℕ → ℕ → (ℕ → Move P) → Type 0
AllFit ops n count moves = (k : ℕ) → k < count → Fit ops n (moves k)

abbrev pub start : {P : Type 0} → List (Label P) → State P
start labels = record { changed = false; labels = labels }

-- where a label was put, and where none was
pub at_set : {A : Type 0} (ms : List A) (v w : ℕ) (x d : A) → v < length ms → ((w ≡ v) × (get_or (set ms v x) w d ≡ x)) ⊎ ((w ≡ v → ⊥) × (get_or (set ms v x) w d ≡ get_or ms w d))
at_set ms v w x d h =
    ⊎_elim (λ e. inl (e, ap (λ k. get_or (set ms v x) k d) e ∙ get_or-set_same ms v x d h)) (λ ne. inr (ne, get_or-set_other ms v w x d ne)) (cases_eq w v)

module _ {P : Type 0} {ops : Ops P} (L : Laws ops) where
  pub sized_moved : (n b : ℕ) (labels : List (Label P)) (m : Move P) → n ≤ length labels → Sized ops n b labels → Fit ops n m → Sized ops n (b + 2000) (moved ops labels m)
  sized_moved n b labels m long h f =
      let new : Label P = came ops (label_at ops labels m.origin) m.cost m.end in
      let small : ops.size new.price ≤ b + 2000 = (let s = L.size_plus (label_at ops labels m.origin).price m.cost in let o = h m.origin f.from in let k = f.cheap in omega arith) in
      cond_both (better ops labels m) (set labels m.target new) labels (Sized ops n (b + 2000))
      (λ _ v lt.
      ⊎_elim
      (λ e. let q = e.1 in subst (λ (k : Label P). ops.size k.price ≤ b + 2000) (sym q) small)
      (λ e. let q = e.1 in subst (λ (k : Label P). ops.size k.price ≤ b + 2000) (sym q) (let o = h v lt in omega arith))
      (at_set labels m.target v new (blank ops) (let t = f.to in omega arith)))
      (λ _ v lt. let o = h v lt in omega arith)

pub length_moved : {P : Type 0} (ops : Ops P) (labels : List (Label P)) (m : Move P) → length (moved ops labels m) ≡ length labels
length_moved ops labels m =
    cond_both (better ops labels m) (set labels m.target (came ops (label_at ops labels m.origin) m.cost m.end)) labels (λ l. length l ≡ length labels) (λ _. length-set labels m.target _) (λ _. refl)

-- prices never rise
module _ {P : Type 0} {ops : Ops P} (L : Laws ops) where
  pub lower_refl : (labels : List (Label P)) → Lower ops labels labels
  lower_refl labels v h = (h, le_refl L _)

  pub lower_trans : (a b c : List (Label P)) → Lower ops a b → Lower ops b c → Lower ops a c
  lower_trans a b c h k v r = let p = h v r in let q = k v p.0 in (q.0, L.trans _ _ _ q.1 p.1)

  pub lower_moved : (labels : List (Label P)) (m : Move P) → Fit ops (length labels) m → Lower ops labels (moved ops labels m)
  lower_moved labels m f =
      let new : Label P = came ops (label_at ops labels m.origin) m.cost m.end in
      cond_both (better ops labels m) (set labels m.target new) labels (Lower ops labels)
      (λ b v r.
      let no : (reached (label_at ops labels m.target) && ops.leq (label_at ops labels m.target).price new.price) ≡ false = not-true _ (and_parts _ _ b).1 in
      ⊎_elim
      (λ e.
      let r' : reached (label_at ops labels m.target) ≡ true = subst (λ w. reached (label_at ops labels w) ≡ true) e.0 r in
      let over : ops.leq (label_at ops labels m.target).price new.price ≡ false = ⊎_elim (λ t. absurd (both_ways _ t r')) (λ t. t) (and_cases _ _ no) in
      subst (λ (z : Label P). (reached z ≡ true) × (ops.leq z.price (label_at ops labels v).price ≡ true)) (sym e.1) (
        not_from_false _ (ne_eqb m.end 65535 (λ q. let n = f.named in omega arith)),
        subst (λ w. ops.leq new.price (label_at ops labels w).price ≡ true) (sym e.0) (le_flip L _ _ over),
      ))
      (λ e. subst (λ (z : Label P). (reached z ≡ true) × (ops.leq z.price (label_at ops labels v).price ≡ true)) (sym e.1) (r, le_refl L _))
      (at_set labels m.target v new (blank ops) f.to))
      (λ _. lower_refl labels)

  roots_moved : (labels : List (Label P)) (m : Move P) → Fit ops (length labels) m → Roots ops labels (moved ops labels m)
  roots_moved labels m f =
      cond_both (better ops labels m) (set labels m.target (came ops (label_at ops labels m.origin) m.cost m.end)) labels (Roots ops labels)
      (λ _ v h. ⊎_elim
      (λ e. absurd (let a = ap (λ (z : Label P). z.end) e.1 in let b = f.named in omega arith))
      (λ e. ap (λ (z : Label P). z.end) (sym e.1) ∙ h)
      (at_set labels m.target v (came ops (label_at ops labels m.origin) m.cost m.end) (blank ops) f.to))
      (λ _ v h. h)

  -- what a round keeps: prices do not rise, and there are no new roots
  pub swept_keeps : (n count : ℕ) (s : State P) (moves : ℕ → Move P) → length s.labels ≡ n → AllFit ops n count moves → (i : ℕ) → i ≤ count → (length (swept ops s moves i).labels ≡ n) × Lower ops s.labels (swept ops s moves i).labels × Roots ops s.labels (swept ops s moves i).labels
  swept_keeps n count s moves e fit zero h = (e, lower_refl s.labels, λ v q. q)
  swept_keeps n count s moves e fit (suc i) h =
      let ih = swept_keeps n count s moves e fit i (omega arith) in
      let t : State P = swept ops s moves i in
      let f : Fit ops (length t.labels) (moves i) = subst (λ l. Fit ops l (moves i)) (sym ih.0) (fit i h) in (
        length_moved ops t.labels (moves i) ∙ ih.0,
        lower_trans s.labels t.labels (moved ops t.labels (moves i)) ih.1 (lower_moved t.labels (moves i) f),
        λ v q. ih.2 v (roots_moved t.labels (moves i) f v q),
      )

  pub sized_sweep : (n b : ℕ) (s : State P) (count : ℕ) (moves : ℕ → Move P) → n ≤ length s.labels → Sized ops n b s.labels → AllFit ops n count moves → (i : ℕ) → i ≤ count → Sized ops n (b + 2000 * i) (swept ops s moves i).labels × (length (swept ops s moves i).labels ≡ length s.labels)
  sized_sweep n b s count moves long h fit zero k = (λ v lt. let q = h v lt in omega arith, refl)
  sized_sweep n b s count moves long h fit (suc i) k =
      let ih = sized_sweep n b s count moves long h fit i (omega arith) in
      let t : State P = swept ops s moves i in
      let same = ih.1 in
      let one = sized_moved L n (b + 2000 * i) t.labels (moves i) (omega arith) ih.0 (fit i k) in
      (λ v lt. let q = one v lt in omega arith, length_moved ops t.labels (moves i) ∙ ih.1)

-- ---- the first n labels alone
take_set_in : {A : Type 0} (n : ℕ) (xs : List A) (i : ℕ) (x : A) → i < n → take n (set xs i x) ≡ set (take n xs) i x
take_set_in zero xs i x h = absurd (omega arith)
take_set_in (suc n) [] i x h = refl
take_set_in (suc n) (y ∷ xs) zero x h = refl
take_set_in (suc n) (y ∷ xs) (suc i) x h = ap (λ zs. y ∷ zs) (take_set_in n xs i x (omega arith))

abbrev pub front : {P : Type 0} → ℕ → State P → State P
front n s = record { changed = s.changed; labels = take n s.labels }

module _ {P : Type 0} (ops : Ops P) (n : ℕ) where
  pub front_at : (labels : List (Label P)) (v : ℕ) → v < n → label_at ops (take n labels) v ≡ label_at ops labels v
  front_at labels v h = get_or-take n labels v (blank ops) h

  front_better : (labels : List (Label P)) (m : Move P) → Fit ops n m → better ops (take n labels) m ≡ better ops labels m
  front_better labels m f = λ i. improves ops (front_at labels m.origin f.from i) (front_at labels m.target f.to i) m.cost

  front_moved : (labels : List (Label P)) (m : Move P) → Fit ops n m → moved ops (take n labels) m ≡ take n (moved ops labels m)
  front_moved labels m f =
      let new : Label P = came ops (label_at ops labels m.origin) m.cost m.end in
      let put : Bool → List (Label P) → List (Label P) = λ b xs. cond b (set xs m.target new) xs in
      let both : (b : Bool) → put b (take n labels) ≡ take n (put b labels) = λ b. elim b as (λ z. put z (take n labels) ≡ take n (put z labels)) [ true ↦ sym (take_set_in n labels m.target new f.to) | false ↦ refl ] in
      (λ i. cond (front_better labels m f i) (set (take n labels) m.target (came ops (front_at labels m.origin f.from i) m.cost m.end)) (take n labels)) ∙ both (better ops labels m)

  -- a round of tries on the first labels is the round on all, as far as they go
  pub swept_front : (count : ℕ) (s : State P) (moves : ℕ → Move P) → AllFit ops n count moves → (i : ℕ) → i ≤ count → swept ops (front n s) moves i ≡ front n (swept ops s moves i)
  swept_front count s moves fit zero h = refl
  swept_front count s moves fit (suc i) h =
      let t : State P = swept ops s moves i in
      ap (λ (z : State P). step ops z (moves i)) (swept_front count s moves fit i (omega arith))
      ∙ (λ j. record { changed = t.changed || front_better t.labels (moves i) (fit i h) j; labels = front_moved t.labels (moves i) (fit i h) j })
