-- What an answer tells of the call and of the list.
use Rattle.std.proofs.Common.{◌≡◌, ℕ, suc, ◌<◌, ◌≤◌, Bool, true, false, cond, ◌||◌, eqb, ltb, List, length, get_or, sym, refl, arith}
use Rattle.std.specs.Prelude.{None, Option}
use Rattle.std.specs.Option.{option_map_or}
use Rattle.std.proofs.lemmas.Bool.Decides.{nat_tests as tests}
use Rattle.refusal.specs.declared.Refusal.{Refusal}
use Rattle.refusal.specs.Answers.{Answer, accepted, refuses, refused}
use Rattle.survey.specs.declared.leg.Leg.{Leg}
use Rattle.survey.specs.declared.leg.Attributes.{Attributes}
use Rattle.survey.specs.Ends.{no_leg}
use Rattle.survey.specs.Model.{is_accepted, or_else, no_station, attributes_answer, attributes_of, leg_answer, valid_leg, first_clash, clash_answer, range_answer, allowed_answer, enter_answer, strike_answer, amend_answer, if_accepted, leg_told, query_answer}

-- a refusal is no acceptance
pub refused_not : (e : Refusal) → is_accepted (refused e) ≡ false
refused_not e = grind arith

-- an accepted call changes it
pub passes : (a : Answer) (next legs : List Leg) → accepted ≡ a → next ≡ if_accepted a next legs
passes a next legs h = rw (sym h) refl

-- where neither of two causes is met
pub both_pass : (x y : Answer) → accepted ≡ or_else x y → (is_accepted x ≡ true) × (accepted ≡ y)
both_pass x y h = grind (arith, tests)

-- a cause that is not met
pub not_met : (b : Bool) (n v : ℕ) (a : Answer) → is_accepted (cond b (refuses (suc n) v) a) ≡ true → (b ≡ false) × (is_accepted a ≡ true)
not_met b n v a h = grind (arith, tests)

no_clash : (found : Option ℕ) → is_accepted (option_map_or (refuses 5) found accepted) ≡ true → found ≡ None
no_clash found e = grind (arith, tests)

allowed : (may : Bool) (n : ℕ) → accepted ≡ allowed_answer n may → may ≡ true
allowed may n h = grind (arith, tests)

range_in : (n start end : ℕ) → is_accepted (range_answer n start end) ≡ true → (start ≤ end) × (end ≤ n)
range_in n start end e = (grind (arith, tests), grind (arith, tests))

pub record Entering (legs : List Leg) (may : Bool) (l : Leg) : Type 0 where
  pub valid : valid_leg l ≡ true
  pub free : first_clash legs l ≡ None
  pub may_enter : may ≡ true

pub entering : (legs : List Leg) (may : Bool) (l : Leg) → accepted ≡ enter_answer legs may l → Entering legs may l
entering legs may l h =
    let a = both_pass (leg_answer l) _ h in
    let b = both_pass (clash_answer legs l) _ a.1 in
    record {
      valid = a.0;
      free = no_clash (first_clash legs l) b.0;
      may_enter = allowed may (length legs) b.1;
    }

pub record Ranging (count : ℕ) (may : Bool) (start end : ℕ) : Type 0 where
  pub ordered : start ≤ end
  pub inside : end ≤ count
  pub may_amend : may ≡ true

pub striking : (count : ℕ) (may : Bool) (start end : ℕ) → accepted ≡ strike_answer count may start end → Ranging count may start end
striking count may start end h =
    let s = both_pass (range_answer count start end) _ h in
    let r = range_in count start end s.0 in
    record { ordered = r.0; inside = r.1; may_amend = allowed may count s.1 }

pub amending : (count : ℕ) (may : Bool) (start end : ℕ) (x : Attributes) → accepted ≡ amend_answer count may start end x → (is_accepted (attributes_answer x) ≡ true) × Ranging count may start end
amending count may start end x h =
    let s = both_pass (attributes_answer x) _ h in
    (s.0, striking count may start end s.1)

-- what a valid leg's own numbers are
pub record InRange (l : Leg) : Type 0 where
  pub stations : (no_station l.from || no_station l.to) ≡ false
  pub differ : eqb l.from l.to ≡ false
  pub bearing : ltb 3599 l.bearing ≡ false
  pub attributes : is_accepted (attributes_answer (attributes_of l)) ≡ true

pub in_range : (l : Leg) → valid_leg l ≡ true → InRange l
in_range l h =
    let a = not_met (no_station l.from || no_station l.to) 0 0 _ h in
    let b = not_met (eqb l.from l.to) 1 l.from _ a.1 in
    let c = not_met (ltb 3599 l.bearing) 2 l.bearing _ b.1 in
    record { stations = a.0; differ = b.0; bearing = c.0; attributes = c.1 }

pub found_answer : (legs : List Leg) (i : ℕ) → i < length legs → leg_told (get_or legs i no_leg) ≡ query_answer legs i
found_answer legs i h = grind (arith, tests)
