-- What a vector over lent places answers, and what its places hold afterwards, given its places and its count in use.
use Rattle.std.specs.Prelude.{ℕ, ◌+◌, Bool, cond, ◌&&◌, List, [], ◌∷◌, length, take, drop, Ok, Err, Result, nat_lt, slice_set}
use Rattle.refusal.specs.declared.Refusal.{Refusal}
use Rattle.refusal.specs.Answers.{Answer, accepted, refuses}

-- the record that was read, if any
abbrev pub item_read : {A : Type 0} → Result A Refusal → List A
item_read (Ok a) = a ∷ []
item_read (Err e) = []

-- appending is refused where every place is in use
abbrev pub append_answer : (used room : ℕ) → Answer
append_answer used room = cond (nat_lt used room) accepted (refuses 18 used)

abbrev pub append_used : (used room : ℕ) → ℕ
append_used used room = cond (nat_lt used room) (used + 1) used

abbrev pub append_places : {A : Type 0} → List A → ℕ → A → List A
append_places places used x = cond (nat_lt used (length places)) (slice_set places used x) places

-- an index that is in use
abbrev pub in_use : (used room i : ℕ) → Bool
in_use used room i = nat_lt i used && nat_lt i room

-- reading and replacing are refused at or past the count in use
abbrev pub at_answer : (used room i : ℕ) → Answer
at_answer used room i = cond (in_use used room i) accepted (refuses 19 used)

abbrev pub at_item : {A : Type 0} → List A → ℕ → ℕ → List A
at_item places used i = take 1 (drop i (take used places))

abbrev pub replace_places : {A : Type 0} → List A → ℕ → ℕ → A → List A
replace_places places used i x = cond (in_use used (length places) i) (slice_set places i x) places
