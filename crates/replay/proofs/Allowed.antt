-- An accepted change is allowed, and leaves a valid list.
use Rattle.std.proofs.Common.{◌≡◌, ℕ, Bool, true, List, length, sym, ap, ◌∙◌}
use Rattle.refusal.specs.Answers.{accepted}
use Rattle.survey.specs.declared.leg.Leg.{Leg}
use Rattle.survey.specs.declared.leg.Attributes.{Attributes}
use Rattle.survey.specs.declared.leg.Change.{Change}
use Rattle.survey.specs.declared.leg.Change.TheVariants.{Enter, Strike, Amend}
use Rattle.survey.specs.Model.{valid_legs, enter_answer, strike_answer, amend_answer}
use Rattle.survey.proofs.Accepted.{entering, striking, amending, passes}
use Rattle.survey.proofs.Valid.{enter_valid, strike_valid, amend_valid}
use Rattle.replay.specs.Replay.{changed}

abbrev pub Allowed : List Leg → Bool → Change → Type 0
Allowed xs may c = (may ≡ true) × (valid_legs (changed xs c) ≡ true)

pub enter_allowed : (xs : List Leg) (may : Bool) (l : Leg) → valid_legs xs ≡ true → accepted ≡ enter_answer xs may l → Allowed xs may (Enter l)
enter_allowed xs may l v d = ((entering xs may l d).may_enter, enter_valid xs may l v d)

pub strike_allowed : (xs : List Leg) (may : Bool) (start end : ℕ) → valid_legs xs ≡ true → accepted ≡ strike_answer (length xs) may start end → Allowed xs may (Strike start end)
strike_allowed xs may start end v d =
    let t = striking (length xs) may start end d in
    let e : accepted ≡ strike_answer (length xs) true start end = d ∙ ap (λ (m : Bool). strike_answer (length xs) m start end) t.may_amend in
    (t.may_amend, ap valid_legs (sym (passes _ _ _ e)) ∙ strike_valid xs may start end v d)

pub amend_allowed : (xs : List Leg) (may : Bool) (start end : ℕ) (x : Attributes) → valid_legs xs ≡ true → accepted ≡ amend_answer (length xs) may start end x → Allowed xs may (Amend start end x)
amend_allowed xs may start end x v d =
    let t = (amending (length xs) may start end x d).1 in
    let e : accepted ≡ amend_answer (length xs) true start end x = d ∙ ap (λ (m : Bool). amend_answer (length xs) m start end x) t.may_amend in
    (t.may_amend, ap valid_legs (sym (passes _ _ _ e)) ∙ amend_valid xs may start end x v d)
