-- What a line means, given its fields: nothing to enter, a leg to offer, or a flaw.
use Rattle.std.specs.Prelude.{ℕ, Bool, true, false, cond, not, ◌&&◌, List, [], ◌∷◌, length, Some, None, codes, Option, ◌==◌}
use Rattle.std.specs.Str.{bytes_eq}
use Rattle.survey.specs.declared.leg.Leg.{Leg}
use Rattle.survey.specs.Model.{plain_leg}
use Rattle.svx_fields.specs.Fields.{station_field, compass_field, reading_field}
use Rattle.svx_line.specs.Spans.{Span, field}

-- a leg with the place of the line's first field; a flaw's number, the value returned and its place
pub data Verdict : Type 0 where
  nothing : Verdict
  offers : ℕ → Leg → Verdict
  bad : ℕ → ℕ → ℕ → Verdict

abbrev pub starred : List ℕ → Bool
starred [] = false
starred (b ∷ bs) = b == 42

abbrev pub reads : List Span → ℕ → List ℕ → Bool
reads fs i w = bytes_eq (field fs i).bytes w

-- the words of the one known command
abbrev pub data_normal : List Span → Bool
data_normal fs =
    reads fs 0 (codes "*data") && (reads fs 1 (codes "normal") && (reads fs 2 (codes "from") && (reads fs 3 (codes "to")
    && (reads fs 4 (codes "tape") && (reads fs 5 (codes "compass") && reads fs 6 (codes "clino"))))))

abbrev pub is_some : Option ℕ → Bool
is_some None = false
is_some (Some n) = true

abbrev pub value_or_0 : Option ℕ → ℕ
value_or_0 None = 0
value_or_0 (Some n) = n

-- from, to, tape, compass and clino, checked from left to right
abbrev pub five_verdict : (from to tape compass clino : Span) → Verdict
five_verdict f t a c k =
    cond (not (is_some (station_field f.bytes))) (bad 22 0 f.place)
    (cond (not (is_some (station_field t.bytes))) (bad 22 0 t.place)
    (cond (not (reading_field a.bytes)) (bad 23 0 a.place)
    (cond (not (is_some (compass_field c.bytes))) (bad 23 0 c.place)
    (cond (not (reading_field k.bytes)) (bad 23 0 k.place)
    (offers f.place (plain_leg (value_or_0 (station_field f.bytes)) (value_or_0 (station_field t.bytes)) (value_or_0 (compass_field c.bytes))))))))

-- so many fields, the first at a place, of a line that starts with no star
abbrev pub leg_verdict : List Span → (count place : ℕ) → Verdict
leg_verdict fs n p = cond (n == 5) (five_verdict (field fs 0) (field fs 1) (field fs 2) (field fs 3) (field fs 4)) (bad 21 n p)

-- the same of a line that starts with a star
abbrev pub command_verdict : List Span → (count place : ℕ) → Verdict
command_verdict fs n p = cond (n == 7 && data_normal fs) nothing (bad 20 0 p)

abbrev pub verdict : List Span → Verdict
verdict [] = nothing
verdict (f ∷ fs) =
    cond (starred f.bytes) (command_verdict (f ∷ fs) (length (f ∷ fs)) f.place) (leg_verdict (f ∷ fs) (length (f ∷ fs)) f.place)
