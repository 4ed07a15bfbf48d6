-- Visits that spread stay sound, and closed ones are at just the joined legs.
use Rattle.std.proofs.Common.{◌≡◌, ℕ, ◌+◌, ◌<◌, Bool, true, false, not, ◌&&◌, ◌||◌, eqb, ◌≢◌, ◌⊎◌, List, length, set, sym, refl, ap, ◌∙◌, subst, inl, inr, ⊎_elim, arith, length-set, get_or-set_other, get_or-set_same, below_more}
use mathlib.Core.Bool.{beq}
use Rattle.std.proofs.lemmas.Bool.{cases_eq, cases_Bool, both_ways, eq-eqb, eqb-true, or_cases, or_left, or_right, and_from, and_parts, and_left, and_right, not-true, not_from_true, not_from_false}
use Rattle.survey.specs.declared.leg.Leg.{Leg}
use Rattle.embedding.specs.Joins.{touch_at, Joined, joined}
use Rattle.embedding.specs.Joins.Joined.{first, along}
use Rattle.embedding.proofs.Reached.{count_lt, joined_lt, decides_joined}
use Rattle.plan_check.specs.Visits.{visited_at, from_at, to_at, Sound, Closed, open_legs}

-- two stations visited

abbrev both : List Bool → ℕ → ℕ → List Bool
both ms a b = set (set ms a true) b true

module _ (ms : List Bool) (a b : ℕ) (la : a < length ms) (lb : b < length ms) where
  one : (s : ℕ) → (s ≡ a) ⊎ (visited_at ms s ≡ true) → visited_at (set ms a true) s ≡ true
  one s h = ⊎_elim
      (λ (q : s ≡ a). subst (λ (x : ℕ). visited_at (set ms a true) x ≡ true) (sym q) (get_or-set_same ms a true false la))
      (λ (ne : s ≢ a). get_or-set_other ms a s true false ne ∙ ⊎_elim (λ (q : s ≡ a). absurd (ne q)) (λ t. t) h)
      (cases_eq s a)

  two : (s : ℕ) → (s ≡ b) ⊎ (visited_at (set ms a true) s ≡ true) → visited_at (both ms a b) s ≡ true
  two s h = ⊎_elim
      (λ (q : s ≡ b). subst (λ (x : ℕ). visited_at (both ms a b) x ≡ true) (sym q) (get_or-set_same (set ms a true) b true false (let n = length-set ms a true in omega arith)))
      (λ (ne : s ≢ b). get_or-set_other (set ms a true) b s true false ne ∙ ⊎_elim (λ (q : s ≡ b). absurd (ne q)) (λ t. t) h)
      (cases_eq s b)

  kept : (s : ℕ) → visited_at ms s ≡ true → visited_at (both ms a b) s ≡ true
  kept s h = two s (inr (one s (inr h)))

  new_a : visited_at (both ms a b) a ≡ true
  new_a = two a (inr (one a (inl refl)))

  new_b : visited_at (both ms a b) b ≡ true
  new_b = two b (inl refl)

  was : (s : ℕ) → visited_at (both ms a b) s ≡ true → (s ≡ a) ⊎ ((s ≡ b) ⊎ (visited_at ms s ≡ true))
  was s h = ⊎_elim
      (λ (q : s ≡ b). inr (inl q))
      (λ (nb : s ≢ b). ⊎_elim
      (λ (q : s ≡ a). inl q)
      (λ (na : s ≢ a). inr (inr (sym (get_or-set_other ms a s true false na) ∙ sym (get_or-set_other (set ms a true) b s true false nb) ∙ h)))
      (cases_eq s a))
      (cases_eq s b)

-- legs that touch

module _ (legs : List Leg) (i j : ℕ) where
  near : Bool
  near = eqb (from_at legs i) (from_at legs j) || eqb (from_at legs i) (to_at legs j)

  far : Bool
  far = eqb (to_at legs i) (from_at legs j) || eqb (to_at legs i) (to_at legs j)

  at_from : (s : ℕ) → (s ≡ from_at legs j) ⊎ (s ≡ to_at legs j) → s ≡ from_at legs i → touch_at legs i j ≡ true
  unfolding near far
  at_from s h q = or_left near far (⊎_elim
      (λ (e : s ≡ from_at legs j). or_left _ (eqb (from_at legs i) (to_at legs j)) (eq-eqb (from_at legs i) (from_at legs j) (sym q ∙ e)))
      (λ (e : s ≡ to_at legs j). or_right (eqb (from_at legs i) (from_at legs j)) _ (eq-eqb (from_at legs i) (to_at legs j) (sym q ∙ e))) h)

  at_to : (s : ℕ) → (s ≡ from_at legs j) ⊎ (s ≡ to_at legs j) → s ≡ to_at legs i → touch_at legs i j ≡ true
  unfolding near far
  at_to s h q = or_right near far (⊎_elim
      (λ (e : s ≡ from_at legs j). or_left _ (eqb (to_at legs i) (to_at legs j)) (eq-eqb (to_at legs i) (from_at legs j) (sym q ∙ e)))
      (λ (e : s ≡ to_at legs j). or_right (eqb (to_at legs i) (from_at legs j)) _ (eq-eqb (to_at legs i) (to_at legs j) (sym q ∙ e))) h)

  -- a station of leg j that is one of leg i
  shared : touch_at legs i j ≡ true → (visited : List Bool) → visited_at visited (from_at legs i) ≡ true → visited_at visited (to_at legs i) ≡ true → (visited_at visited (from_at legs j) ≡ true) ⊎ (visited_at visited (to_at legs j) ≡ true)
  unfolding near far
  shared t visited f g =
      let moved : (s s' : ℕ) → eqb s s' ≡ true → visited_at visited s ≡ true → visited_at visited s' ≡ true = λ s s' e m. subst (λ (x : ℕ). visited_at visited x ≡ true) (eqb-true s s' e) m in
      ⊎_elim
      (λ (n : near ≡ true). ⊎_elim
      (λ (e : eqb (from_at legs i) (from_at legs j) ≡ true). inl (moved _ _ e f))
      (λ (e : eqb (from_at legs i) (to_at legs j) ≡ true). inr (moved _ _ e f))
      (or_cases _ _ n))
      (λ (n : far ≡ true). ⊎_elim
      (λ (e : eqb (to_at legs i) (from_at legs j) ≡ true). inl (moved _ _ e g))
      (λ (e : eqb (to_at legs i) (to_at legs j) ≡ true). inr (moved _ _ e g))
      (or_cases _ _ n))
      (or_cases near far t)

module _ (legs : List Leg) where
  -- leg 0's stations visited, and no others
  pub sound_none : (ms : List Bool) → 0 < length legs → from_at legs 0 < length ms → to_at legs 0 < length ms → ((s : ℕ) → visited_at ms s ≡ false) → Sound legs (both ms (from_at legs 0) (to_at legs 0))
  sound_none ms some la lb blank =
      let a = from_at legs 0 in
      let b = to_at legs 0 in
      let meets : (j s : ℕ) → j < length legs → (s ≡ from_at legs j) ⊎ (s ≡ to_at legs j) → visited_at (both ms a b) s ≡ true → Joined legs j =
      λ j s l at m. ⊎_elim
      (λ (q : s ≡ a). along 0 j first (at_from legs 0 j s at q) l)
      (⊎_elim (λ (q : s ≡ b). along 0 j first (at_to legs 0 j s at q) l) (λ (q : visited_at ms s ≡ true). absurd (both_ways (visited_at ms s) (blank s) q)))
      (was ms a b la lb s m) in
      record {
        start_from = new_a ms a b la lb;
        start_to = new_b ms a b la lb;
        at_from = λ j l m. meets j (from_at legs j) l (inl refl) m;
        at_to = λ j l m. meets j (to_at legs j) l (inr refl) m;
      }

  module _ (ms : List Bool) (i : ℕ) (inside : i < length legs) (la : from_at legs i < length ms) (lb : to_at legs i < length ms) (s : Sound legs ms) (half : visited_at ms (from_at legs i) ≡ visited_at ms (to_at legs i) → ⊥) where
    half_joined : Joined legs i
    half_joined = ⊎_elim
        (λ (f : visited_at ms (from_at legs i) ≡ true). s.at_from i inside f)
        (λ (f : visited_at ms (from_at legs i) ≡ false). ⊎_elim
        (λ (g : visited_at ms (to_at legs i) ≡ true). s.at_to i inside g)
        (λ (g : visited_at ms (to_at legs i) ≡ false). absurd (half (f ∙ sym g)))
        (cases_Bool (visited_at ms (to_at legs i))))
        (cases_Bool (visited_at ms (from_at legs i)))

    -- a leg with one station visited gets both
    pub sound_more : Sound legs (both ms (from_at legs i) (to_at legs i))
    sound_more =
        let c = half_joined in
        let meets : (j s' : ℕ) → j < length legs → (s' ≡ from_at legs j) ⊎ (s' ≡ to_at legs j) → (visited_at ms s' ≡ true → Joined legs j) → visited_at (both ms (from_at legs i) (to_at legs i)) s' ≡ true → Joined legs j =
        λ j s' l at old m. ⊎_elim
        (λ (q : s' ≡ from_at legs i). along i j c (at_from legs i j s' at q) l)
        (⊎_elim (λ (q : s' ≡ to_at legs i). along i j c (at_to legs i j s' at q) l) (λ (q : visited_at ms s' ≡ true). old q))
        (was ms (from_at legs i) (to_at legs i) la lb s' m) in
        record {
          start_from = kept ms (from_at legs i) (to_at legs i) la lb _ s.start_from;
          start_to = kept ms (from_at legs i) (to_at legs i) la lb _ s.start_to;
          at_from = λ j l m. meets j (from_at legs j) l (inl refl) (s.at_from j l) m;
          at_to = λ j l m. meets j (to_at legs j) l (inr refl) (s.at_to j l) m;
        }

    pub open_falls : open_legs legs (both ms (from_at legs i) (to_at legs i)) < open_legs legs ms
    open_falls =
        let ms' = both ms (from_at legs i) (to_at legs i) in
        let keep = kept ms (from_at legs i) (to_at legs i) la lb in
        count_lt
        (λ k. not (visited_at ms' (from_at legs k) && visited_at ms' (to_at legs k)))
        (λ k. not (visited_at ms (from_at legs k) && visited_at ms (to_at legs k)))
        (λ k h. ⊎_elim
        (λ (t : (visited_at ms (from_at legs k) && visited_at ms (to_at legs k)) ≡ true).
        let p = and_parts (visited_at ms (from_at legs k)) (visited_at ms (to_at legs k)) t in
        absurd (both_ways _ (not-true _ h) (and_from (visited_at ms' (from_at legs k)) (visited_at ms' (to_at legs k)) (keep _ p.0) (keep _ p.1))))
        (λ (t : (visited_at ms (from_at legs k) && visited_at ms (to_at legs k)) ≡ false). not_from_false _ t)
        (cases_Bool (visited_at ms (from_at legs k) && visited_at ms (to_at legs k))))
        i
        (not_from_true _ (and_from (visited_at ms' (from_at legs i)) (visited_at ms' (to_at legs i)) (new_a ms _ _ la lb) (new_b ms _ _ la lb)))
        (not_from_false _ (⊎_elim
        (λ (f : visited_at ms (from_at legs i) ≡ true). ⊎_elim
        (λ (g : visited_at ms (to_at legs i) ≡ true). absurd (half (f ∙ sym g)))
        (λ (g : visited_at ms (to_at legs i) ≡ false). and_right (visited_at ms (from_at legs i)) (visited_at ms (to_at legs i)) g)
        (cases_Bool (visited_at ms (to_at legs i))))
        (λ (f : visited_at ms (from_at legs i) ≡ false). and_left (visited_at ms (from_at legs i)) (visited_at ms (to_at legs i)) f)
        (cases_Bool (visited_at ms (from_at legs i)))))
        (length legs) inside

  module _ (ms : List Bool) (some : 0 < length legs) (s : Sound legs ms) (c : Closed legs ms) where
    visits_joined : {i : ℕ} → Joined legs i → visited_at ms (from_at legs i) ≡ true
    visits_joined first = s.start_from
    visits_joined (along i j p t l) =
        let f = visits_joined p in
        let g = sym (c i (joined_lt legs some p)) ∙ f in
        ⊎_elim (λ (h : visited_at ms (from_at legs j) ≡ true). h) (λ (h : visited_at ms (to_at legs j) ≡ true). c j l ∙ h) (shared legs i j t ms f g)

    pub visited_is : (i : ℕ) → i < length legs → joined legs i ≡ visited_at ms (from_at legs i)
    visited_is i l =
        let d = decides_joined legs i l in
        ⊎_elim
        (λ (m : visited_at ms (from_at legs i) ≡ true). d.1 (s.at_from i l m) ∙ sym m)
        (λ (m : visited_at ms (from_at legs i) ≡ false). ⊎_elim
        (λ (t : joined legs i ≡ true). absurd (both_ways _ m (visits_joined (d.0 t))))
        (λ (t : joined legs i ≡ false). t ∙ sym m)
        (cases_Bool (joined legs i)))
        (cases_Bool (visited_at ms (from_at legs i)))

pub differ : (x y : Bool) → not (beq x y) ≡ true → x ≡ y → ⊥
differ true true h e = both_ways true (sym h) refl
differ true false h e = both_ways true e refl
differ false true h e = both_ways true (sym e) refl
differ false false h e = both_ways true (sym h) refl

pub agree : (x y : Bool) → not (beq x y) ≡ false → x ≡ y
agree true true h = refl
agree true false h = absurd (both_ways true h refl)
agree false true h = absurd (both_ways true h refl)
agree false false h = refl

-- what lasts from leg to leg: visits stay sound, and while nothing changed no leg before the index has just one station visited
pub record Kept (legs : List Leg) (was : List Bool) (i : ℕ) (changed : Bool) (visited : List Bool) : Type 0 where
  pub sound : Sound legs visited
  pub long : length visited ≡ length was
  pub more : changed ≡ true → open_legs legs visited < open_legs legs was
  pub same : changed ≡ false → visited ≡ was
  pub closed : changed ≡ false → (j : ℕ) → j < i → visited_at visited (from_at legs j) ≡ visited_at visited (to_at legs j)

pub takes : (legs : List Leg) (was visited : List Bool) (i : ℕ) (changed : Bool) → Kept legs was i changed visited → i < length legs → from_at legs i < length visited → to_at legs i < length visited → (visited_at visited (from_at legs i) ≡ visited_at visited (to_at legs i) → ⊥) → Kept legs was (i + 1) true (set (set visited (from_at legs i) true) (to_at legs i) true)
takes legs was visited i changed k l la lb half =
    let f = open_falls legs visited i l la lb k.sound half in
    record {
      sound = sound_more legs visited i l la lb k.sound half;
      long = simp length-set k.long;
      more = λ t. ⊎_elim
          (λ (c : changed ≡ true). let g = k.more c in omega arith)
          (λ (c : changed ≡ false). let g = ap (open_legs legs) (k.same c) in omega arith)
          (cases_Bool changed);
      same = λ t. absurd (both_ways true t refl);
      closed = λ t. absurd (both_ways true t refl);
    }

pub keeps : (legs : List Leg) (was visited : List Bool) (i : ℕ) (changed : Bool) → Kept legs was i changed visited → visited_at visited (from_at legs i) ≡ visited_at visited (to_at legs i) → Kept legs was (i + 1) changed visited
keeps legs was visited i changed k e = record { sound = k.sound; long = k.long; more = k.more; same = k.same; closed = λ c. below_more _ _ (k.closed c) e }

pub as_is : (legs : List Leg) (was visited visited' : List Bool) (i : ℕ) (changed changed' : Bool) → visited' ≡ visited → changed' ≡ changed → Kept legs was i changed visited → Kept legs was i changed' visited'
as_is legs was visited visited' i changed changed' p q k = rw (p, q) k
