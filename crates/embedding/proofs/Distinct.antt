-- A list that a survey can hold has bearings below 3600, and no two ends of one station with equal ones.
use Rattle.std.proofs.Common.{◌≡◌, ℕ, zero, suc, ◌/◌, ◌<◌, ◌≤◌, Bool, true, false, cond, not, ◌||◌, List, [], ◌∷◌, length, get_or, sym, refl, ap, ◌∙◌, ⊎_elim, arith}
use Rattle.std.proofs.lemmas.Bool.{cases_lt, cases_order, cases_Bool, cond_both, eqb-true, eqb-false, eq-eqb, both_ways, not-true, and_from, or_left, or_right, ltb-false}
use Rattle.std.proofs.lemmas.Bool.Decides.{nat_tests}
use Rattle.std.proofs.lemmas.List.{get_or_past}
use Rattle.survey.specs.declared.leg.Leg.{Leg}
use Rattle.survey.specs.Ends.{no_leg, ends, outgoing, leg_of, station, bearing, far_bearing}
use Rattle.survey.specs.Model.{coincide, clash, apart, no_station, valid_leg, valid_legs}
use Rattle.survey.proofs.Accepted.{in_range}
use Rattle.std.proofs.lemmas.Bool.{and_parts}
use Rattle.survey.proofs.Valid.{first, valid_at}
use Rattle.embedding.specs.Laws.{Distinct}

apart_at : (xs : List Leg) (a : Leg) (j : ℕ) → apart a xs ≡ true → j < length xs → clash a (get_or xs j no_leg) ≡ false
apart_at [] a j h l = absurd (omega arith)
apart_at (x ∷ xs) a zero h l = not-true (clash a x) (and_parts (not (clash a x)) (apart a xs) h).0
apart_at (x ∷ xs) a (suc j) h l = apart_at xs a j (and_parts (not (clash a x)) (apart a xs) h).1 (omega arith)

-- two legs of the list do not clash
no_clash : (xs : List Leg) (i j : ℕ) → valid_legs xs ≡ true → i < j → j < length xs → clash (get_or xs i no_leg) (get_or xs j no_leg) ≡ false
no_clash [] i j h p l = absurd (omega arith)
no_clash (x ∷ xs) zero zero h p l = absurd (omega arith)
no_clash (x ∷ xs) zero (suc j) h p l = apart_at xs x j (first x xs h).apart_from (omega arith)
no_clash (x ∷ xs) (suc i) zero h p l = absurd (omega arith)
no_clash (x ∷ xs) (suc i) (suc j) h p l = no_clash xs i j (first x xs h).others (omega arith) (omega arith)

-- the station and the bearing of an end of a leg, outgoing or not
abbrev at : Bool → Leg → ℕ
at o a = cond o a.from a.to

abbrev to : Bool → Leg → ℕ
to o a = cond o a.bearing (far_bearing a)

-- these ends of two legs coincide
abbrev meet : Leg → Bool → Leg → Bool → Bool
meet a o l q = coincide (at o a) (to o a) (at q l) (to q l)

met : (a : Leg) (o : Bool) (l : Leg) (q : Bool) → at o a ≡ at q l → to o a ≡ to q l → meet a o l q ≡ true
met a o l q s b = and_from _ _ (eq-eqb (at o a) (at q l) s) (eq-eqb (to o a) (to q l) b)

-- ends that coincide make their legs clash
ends_clash : (a l : Leg) (o q : Bool) → at o a ≡ at q l → to o a ≡ to q l → clash a l ≡ true
ends_clash a l o q s b = clashes o q (met a o l q s b)
  where
    near : Bool
    near = meet a true l true || meet a true l false

    far : Bool
    far = meet a false l true || meet a false l false

    clashes : (o q : Bool) → meet a o l q ≡ true → clash a l ≡ true
    clashes true true h = or_left near far (or_left (meet a true l true) (meet a true l false) h)
    clashes true false h = or_left near far (or_right (meet a true l true) (meet a true l false) h)
    clashes false true h = or_right near far (or_left (meet a false l true) (meet a false l false) h)
    clashes false false h = or_right near far (or_right (meet a false l true) (meet a false l false) h)

-- the two ends of one leg stand at two stations
same_leg : (a : Leg) (o q : Bool) → valid_leg a ≡ true → at o a ≡ at q a → o ≡ q
same_leg a true true v s = refl
same_leg a true false v s = absurd (eqb-false _ _ (in_range a v).differ s)
same_leg a false true v s = absurd (eqb-false _ _ (in_range a v).differ (sym s))
same_leg a false false v s = refl

same_parity : (d e : ℕ) → d / 2 ≡ e / 2 → outgoing d ≡ outgoing e → d ≡ e
same_parity d e h p =
    ⊎_elim
    (λ (o : outgoing d ≡ true). let x = eqb-true _ _ o in let y = eqb-true _ _ (sym p ∙ o) in omega arith)
    (λ (o : outgoing d ≡ false). let x = eqb-false _ _ o in let y = eqb-false _ _ (sym p ∙ o) in omega arith)
    (cases_Bool (outgoing d))

valid_bearing : (a : Leg) → valid_leg a ≡ true → a.bearing < 3600
valid_bearing a v = let h = ltb-false _ _ (in_range a v).bearing in omega arith

module _ (legs : List Leg) (valid : valid_legs legs ≡ true) where
  leg_bearing : (i : ℕ) → (get_or legs i no_leg).bearing < 3600
  leg_bearing i = ⊎_elim
      (λ (l : i < length legs). valid_bearing (get_or legs i no_leg) (valid_at legs i no_leg valid l))
      (λ (l : length legs ≤ i). let e = ap (λ (a : Leg). a.bearing) (get_or_past legs i no_leg l) in omega arith)
      (cases_lt i (length legs))

  below : (e : ℕ) → bearing legs e < 3600
  below e = let h = leg_bearing (e / 2) in cond_both (outgoing e) _ _ (λ (x : ℕ). x < 3600) (λ q. h) (λ q. omega arith)

  apart_ends : (d e : ℕ) → d < ends legs → e < ends legs → station legs d ≡ station legs e → bearing legs d ≡ bearing legs e → d ≡ e
  apart_ends d e ld le s b =
      let a = leg_of legs d in
      let l = leg_of legs e in
      ⊎_elim
      (λ (h : d / 2 ≡ e / 2).
      let same : at (outgoing d) a ≡ at (outgoing e) a = s ∙ ap (λ (i : ℕ). at (outgoing e) (get_or legs i no_leg)) (sym h) in
      same_parity d e h (same_leg a (outgoing d) (outgoing e) (valid_at legs (d / 2) no_leg valid (omega arith)) same))
      (⊎_elim
      (λ (h : d / 2 < e / 2). absurd (both_ways _ (no_clash legs (d / 2) (e / 2) valid h (omega arith)) (ends_clash a l (outgoing d) (outgoing e) s b)))
      (λ (h : e / 2 < d / 2). absurd (both_ways _ (no_clash legs (e / 2) (d / 2) valid h (omega arith)) (ends_clash l a (outgoing e) (outgoing d) (sym s) (sym b)))))
      (cases_order (d / 2) (e / 2))

  pub distinct : Distinct legs
  distinct = record { below = below; apart = apart_ends }

in_stations : (a : Leg) → (no_station a.from || no_station a.to) ≡ false → (a.from < 10000) × (a.to < 10000)
in_stations a h = (grind (arith, nat_tests), grind (arith, nat_tests))

-- the stations of a leg of a valid list
pub leg_stations : (legs : List Leg) (i : ℕ) → valid_legs legs ≡ true → i < length legs → ((get_or legs i no_leg).from < 10000) × ((get_or legs i no_leg).to < 10000)
leg_stations legs i valid l = in_stations (get_or legs i no_leg) (in_range (get_or legs i no_leg) (valid_at legs i no_leg valid l)).stations

pub station_lt : (legs : List Leg) (e : ℕ) → valid_legs legs ≡ true → e < ends legs → station legs e < 10000
station_lt legs e valid l =
    let a = leg_of legs e in
    let h = leg_stations legs (e / 2) valid (omega arith) in
    cond_both (outgoing e) a.from a.to (λ (x : ℕ). x < 10000) (λ q. h.0) (λ q. h.1)
