-- What keeps a list of legs valid: a leg entered, a stretch struck, a stretch amended.
use Rattle.std.proofs.Common.{◌≡◌, ℕ, zero, suc, ◌-◌, ◌<◌, ◌≤◌, Bool, true, false, not, ◌&&◌, List, [], ◌∷◌, ◌++◌, map, length, get_or, take, drop, sym, refl, ap, ◌∙◌, arith}
use Rattle.std.specs.Prelude.{None}
use Rattle.std.proofs.lemmas.Bool.Decides.{nat_tests as tests}
use Rattle.std.proofs.lemmas.List.Edits.{split_between}
use Rattle.survey.specs.declared.leg.Leg.{Leg}
use Rattle.survey.specs.declared.leg.Attributes.{Attributes}
use Rattle.survey.specs.Model.{is_accepted, attributes_answer, valid_leg, apart, valid_legs, clash, first_clash, enter_answer, entered, strike_answer, struck, amend_answer, with_attributes, amended}
use Rattle.survey.proofs.Accepted.{in_range, entering, striking, amending}
use Rattle.refusal.specs.Answers.{accepted}

-- what a valid list says of its first leg and of the rest
pub record First (a : Leg) (rest : List Leg) : Type 0 where
  pub valid : valid_leg a ≡ true
  pub apart_from : apart a rest ≡ true
  pub others : valid_legs rest ≡ true

pub first : (a : Leg) (rest : List Leg) → valid_legs (a ∷ rest) ≡ true → First a rest
first a rest h =
    record { valid = grind (arith, tests); apart_from = grind (arith, tests); others = grind (arith, tests) }

pub join : (a : Leg) (rest : List Leg) → First a rest → valid_legs (a ∷ rest) ≡ true
join a rest f = grind (arith, tests)

-- a leg entered

apart_entered : (a : Leg) (xs : List Leg) (l : Leg) → apart a xs ≡ true → clash a l ≡ false → apart a (entered xs l) ≡ true
apart_entered a [] l h e = rw e refl
apart_entered a (x ∷ xs) l h e = let r = apart_entered a xs l in grind (arith, tests)

-- none of the list clashes with l: not the first leg, and none of the rest
first_free : (x : Leg) (xs : List Leg) (l : Leg) → first_clash (x ∷ xs) l ≡ None → (clash x l ≡ false) × (first_clash xs l ≡ None)
first_free x xs l e = grind (arith, tests)

pub valid_entered : (xs : List Leg) (l : Leg) → valid_legs xs ≡ true → valid_leg l ≡ true → first_clash xs l ≡ None → valid_legs (entered xs l) ≡ true
valid_entered [] l h v e = join l [] (record { valid = v; apart_from = refl; others = refl })
valid_entered (x ∷ xs) l h v e =
    let f = first x xs h in
    let n = first_free x xs l e in
    join x (entered xs l) (record { valid = f.valid; apart_from = apart_entered x xs l f.apart_from n.0; others = valid_entered xs l f.others v n.1 })

-- a stretch taken out

apart_without : (a : Leg) (xs ys zs : List Leg) → apart a (xs ++ (ys ++ zs)) ≡ true → apart a (xs ++ zs) ≡ true
apart_without a [] [] zs h = h
apart_without a [] (y ∷ ys) zs h = let r = apart_without a [] ys zs in grind (arith, tests)
apart_without a (x ∷ xs) ys zs h = let r = apart_without a xs ys zs in grind (arith, tests)

valid_without : (xs ys zs : List Leg) → valid_legs (xs ++ (ys ++ zs)) ≡ true → valid_legs (xs ++ zs) ≡ true
valid_without [] [] zs h = h
valid_without [] (y ∷ ys) zs h = valid_without [] ys zs (first y (ys ++ zs) h).others
valid_without (x ∷ xs) ys zs h =
    let f = first x (xs ++ (ys ++ zs)) h in
    join x (xs ++ zs) (record { valid = f.valid; apart_from = apart_without x xs ys zs f.apart_from; others = valid_without xs ys zs f.others })

pub valid_struck : (xs : List Leg) (start end : ℕ) → start ≤ end → valid_legs xs ≡ true → valid_legs (struck xs start end) ≡ true
valid_struck xs start end h v = valid_without (take start xs) (take (end - start) (drop start xs)) (drop end xs) (ap valid_legs (sym (split_between xs start end h)) ∙ v)

-- a stretch given other attributes

module _ (x : Attributes) (ok : is_accepted (attributes_answer x) ≡ true) where
  valid_with : (l : Leg) → valid_leg l ≡ true → valid_leg (with_attributes x l) ≡ true
  valid_with l h = let r = in_range l h in grind (arith, tests)

  apart_amended : (a : Leg) (ps qs rs : List Leg) → apart a (ps ++ (map (with_attributes x) qs ++ rs)) ≡ apart a (ps ++ (qs ++ rs))
  apart_amended a [] [] rs = refl
  apart_amended a [] (q ∷ qs) rs = ap (λ (b : Bool). not (clash a q) && b) (apart_amended a [] qs rs)
  apart_amended a (p ∷ ps) qs rs = ap (λ (b : Bool). not (clash a p) && b) (apart_amended a ps qs rs)

  valid_between : (ps qs rs : List Leg) → valid_legs (ps ++ (qs ++ rs)) ≡ true → valid_legs (ps ++ (map (with_attributes x) qs ++ rs)) ≡ true
  valid_between [] [] rs h = h
  valid_between [] (q ∷ qs) rs h =
      let f = first q (qs ++ rs) h in
      join (with_attributes x q) (map (with_attributes x) qs ++ rs) (record { valid = valid_with q f.valid; apart_from = apart_amended q [] qs rs ∙ f.apart_from; others = valid_between [] qs rs f.others })
  valid_between (p ∷ ps) qs rs h =
      let f = first p (ps ++ (qs ++ rs)) h in
      join p (ps ++ (map (with_attributes x) qs ++ rs)) (record { valid = f.valid; apart_from = apart_amended p ps qs rs ∙ f.apart_from; others = valid_between ps qs rs f.others })

  pub valid_amended : (start end : ℕ) (xs : List Leg) → start ≤ end → valid_legs xs ≡ true → valid_legs (amended xs start end x) ≡ true
  valid_amended start end xs h v = valid_between (take start xs) (take (end - start) (drop start xs)) (drop end xs) (ap valid_legs (sym (split_between xs start end h)) ∙ v)

-- a call that is accepted leaves a valid list

pub enter_valid : (xs : List Leg) (may : Bool) (l : Leg) → valid_legs xs ≡ true → accepted ≡ enter_answer xs may l → valid_legs (entered xs l) ≡ true
enter_valid xs may l v d = let t = entering xs may l d in valid_entered xs l v t.valid t.free

pub strike_valid : (xs : List Leg) (may : Bool) (start end : ℕ) → valid_legs xs ≡ true → accepted ≡ strike_answer (length xs) may start end → valid_legs (struck xs start end) ≡ true
strike_valid xs may start end v d = valid_struck xs start end (striking (length xs) may start end d).ordered v

pub amend_valid : (xs : List Leg) (may : Bool) (start end : ℕ) (x : Attributes) → valid_legs xs ≡ true → accepted ≡ amend_answer (length xs) may start end x → valid_legs (amended xs start end x) ≡ true
amend_valid xs may start end x v d = let t = amending (length xs) may start end x d in valid_amended x t.0 start end xs t.1.ordered v

-- each leg of a valid list is valid
pub valid_at : (xs : List Leg) (i : ℕ) (d : Leg) → valid_legs xs ≡ true → i < length xs → valid_leg (get_or xs i d) ≡ true
valid_at [] i d h l = absurd (omega arith)
valid_at (x ∷ xs) zero d h l = (first x xs h).valid
valid_at (x ∷ xs) (suc i) d h l = valid_at xs i d (first x xs h).others (omega arith)
