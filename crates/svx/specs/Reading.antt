-- A text read into a survey: a relation between the survey before, the outcome and the survey after.
use Rattle.std.specs.Prelude.{◌≡◌, ℕ, Bool, true, false, ◌⊎◌, List, [], ◌∷◌, MatchBool, ◌≢◌, slice_index}
use Rattle.refusal.specs.Answers.{Answer}
use Rattle.survey.specs.declared.leg.Leg.{Leg}
use Rattle.survey.specs.declared.leg.Change.{Change}
use Rattle.survey.specs.declared.leg.Change.TheVariants.{Enter}
use Rattle.survey.specs.Model.{is_accepted, enter_answer, enter_legs}
use Rattle.survey.specs.Changes.{changes}
use Rattle.svx.specs.declared.fault.Layer.{Layer}
use Rattle.svx.specs.declared.fault.Layer.TheVariants.{Text, Survey}
use Rattle.svx.specs.Script.{Script, ends, flaw, offer, offered, keeps_rules}

-- read through, or stopped at a fault
pub data Outcome : Type 0 where
  through : Outcome
  stopped : (number value line place : ℕ) → Layer → Outcome

-- how a kind of survey says what it holds
pub record Meaning (S : Type 0) : Type 1 where
  pub legs : S → List Leg
  pub enters : S → Bool
  pub amends : S → Bool
  pub leads : S → List Change → S → Type 0

abbrev pub means : {S : Type 0} → (S → List Leg) → (S → Bool) → (S → Bool) → (S → List Change → S → Type 0) → Meaning S
means l e a d = record { legs = l; enters = e; amends = a; leads = d }

-- the survey's answer to a leg that is entered
abbrev pub answer_to : {S : Type 0} → Meaning S → S → Leg → Answer
answer_to m s l = enter_answer (m.legs s) (m.enters s) l

-- the survey takes the leg
abbrev pub takes : {S : Type 0} → Meaning S → S → Leg → Bool
takes m s l = is_accepted (answer_to m s l)

-- the leg is entered into s, which leaves u
pub record Entering {S : Type 0} (m : Meaning S) (s : S) (l : Leg) (u : S) : Type 0 where
  pub list : m.legs u ≡ enter_legs (m.legs s) (m.enters s) l
  pub facts : takes m s l ≡ false → (m.enters u ≡ m.enters s) × (m.amends u ≡ m.amends s)
  pub led : m.leads s (changes (answer_to m s l) (Enter l)) u

-- the survey's own refusal, at a line and the place of its first field
abbrev pub refused_at : ℕ → ℕ → Answer → Outcome
refused_at k p a = stopped a.number (slice_index a.values 0) k p Survey

-- legs are entered in their order until the survey refuses one, the text has a flaw or ends
abbrev pub Reads : {S : Type 0} → Meaning S → Script → S → Outcome → S → Type 0
Reads m ends s o t = (o ≡ through) × (s ≡ t)
Reads m (flaw n v k p) s o t = (o ≡ stopped n v k p Text) × (s ≡ t)
Reads {S} m (offer k p l rest) s o t =
    (u : S) × Entering m s l u × MatchBool (takes m s l) (Reads m rest u o t) ((o ≡ refused_at k p (answer_to m s l)) × (u ≡ t))

-- each of these legs is entered in turn, and the survey takes them all
abbrev pub TakesAll : {S : Type 0} → Meaning S → List Leg → S → S → Type 0
TakesAll m [] s t = s ≡ t
TakesAll {S} m (l ∷ ls) s t = (u : S) × Entering m s l u × (takes m s l ≡ true) × TakesAll m ls u t

-- they are entered in turn, and the survey refuses one, the last
abbrev pub RefusesOne : {S : Type 0} → Meaning S → List Leg → S → S → Type 0
RefusesOne m [] s t = ⊥
RefusesOne {S} m (l ∷ ls) s t = (u : S) × Entering m s l u × MatchBool (takes m s l) (RefusesOne m ls u t) (u ≡ t)

-- a text is read through exactly when it keeps the text rules and the survey takes every leg
pub record Exactly {S : Type 0} (m : Meaning S) (sc : Script) (s : S) (o : Outcome) (t : S) : Type 0 where
  pub if_through : o ≡ through → (keeps_rules sc ≡ true) × TakesAll m (offered sc) s t
  pub if_stopped : (o ≢ through) → (keeps_rules sc ≡ false) ⊎ RefusesOne m (offered sc) s t
