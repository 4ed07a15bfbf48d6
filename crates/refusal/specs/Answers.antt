-- Answers as a user sees them: a number, 0 where the call is accepted, and the values returned.
use Rattle.std.specs.Prelude.{ℕ, List, [], ◌∷◌, Ok, Err, Result}
use Rattle.refusal.specs.declared.Attribute.{Attribute}
use Rattle.refusal.specs.declared.Attribute.TheVariants.{Weight, Flag, Limit}
use Rattle.refusal.specs.declared.Refusal.{Refusal}
use Rattle.refusal.specs.declared.Refusal.TheVariants.{StationRange, SameStation, BearingRange, AttributeRange, EndTaken, LegRange, NotAllowed, NoSuchLeg, NoLegs, TooManyLegs, NoSuchSide, NotConnected, NotBimodal, NotPlanar, FewLabels, NoShape, ShortBuffer, VectorFull, PastCount, OtherCommand, FieldCount, BadStation, BadReading, LongText}

pub record Answer : Type 0 where
  pub number : ℕ
  pub values : List ℕ

abbrev pub answers : ℕ → List ℕ → Answer
answers n vs = record { number = n; values = vs }

-- a number of the table, and the one value returned with it
abbrev pub refuses : ℕ → ℕ → Answer
refuses n v = answers n (v ∷ [])

-- accepted, with nothing else to tell
abbrev pub accepted : Answer
accepted = answers 0 (0 ∷ [])

-- accepted, with one number to tell
abbrev pub tells : ℕ → Answer
tells v = answers 0 (v ∷ [])

abbrev pub number_of : Refusal → ℕ
number_of StationRange = 1
number_of (SameStation s) = 2
number_of (BearingRange b) = 3
number_of (AttributeRange a) = 4
number_of (EndTaken i) = 5
number_of (LegRange n) = 6
number_of (NotAllowed n) = 7
number_of (NoSuchLeg n) = 8
number_of NoLegs = 9
number_of (TooManyLegs n) = 10
number_of (NoSuchSide n) = 11
number_of (NotConnected i) = 12
number_of (NotBimodal s) = 13
number_of (NotPlanar f) = 14
number_of (FewLabels n) = 15
number_of NoShape = 16
number_of (ShortBuffer n) = 17
number_of (VectorFull n) = 18
number_of (PastCount n) = 19
number_of OtherCommand = 20
number_of (FieldCount n) = 21
number_of BadStation = 22
number_of BadReading = 23
number_of (LongText n) = 24

-- weight, flag and limit, as they are told
abbrev pub attribute_number : Attribute → ℕ
attribute_number Weight = 1
attribute_number Flag = 2
attribute_number Limit = 3

abbrev pub value_of : Refusal → ℕ
value_of StationRange = 0
value_of (SameStation s) = s
value_of (BearingRange b) = b
value_of (AttributeRange a) = attribute_number a
value_of (EndTaken i) = i
value_of (LegRange n) = n
value_of (NotAllowed n) = n
value_of (NoSuchLeg n) = n
value_of NoLegs = 0
value_of (TooManyLegs n) = n
value_of (NoSuchSide n) = n
value_of (NotConnected i) = i
value_of (NotBimodal s) = s
value_of (NotPlanar f) = f
value_of (FewLabels n) = n
value_of NoShape = 0
value_of (ShortBuffer n) = n
value_of (VectorFull n) = n
value_of (PastCount n) = n
value_of OtherCommand = 0
value_of (FieldCount n) = n
value_of BadStation = 0
value_of BadReading = 0
value_of (LongText n) = n

abbrev pub refused : Refusal → Answer
refused e = refuses (number_of e) (value_of e)

-- what a result tells, given what its value tells
abbrev pub told_by : {A : Type 0} → (A → Answer) → Result A Refusal → Answer
told_by f (Ok a) = f a
told_by f (Err e) = refused e

abbrev pub told : {A : Type 0} → Result A Refusal → Answer
told r = told_by (λ _. accepted) r
