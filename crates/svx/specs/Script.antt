-- What a text offers: its legs in their order, up to the end of the text or to its first flaw.
use Rattle.std.specs.Prelude.{ℕ, ◌+◌, Bool, true, false, cond, List, [], ◌∷◌, length, nat_lt}
use Rattle.survey.specs.declared.leg.Leg.{Leg}
use Rattle.svx_line.specs.Spans.{Span, fields}
use Rattle.svx_line.specs.Verdicts.{Verdict, nothing, offers, bad, verdict}
use Rattle.svx.specs.Lines.{lines}

-- the end of the text; a flaw with its number, value, line and place; a leg with its line and the place of the line's first field
pub data Script : Type 0 where
  ends : Script
  flaw : (number value line place : ℕ) → Script
  offer : (line place : ℕ) → Leg → Script → Script

-- line k with its verdict, and the script of the lines after it
abbrev pub follow : Verdict → ℕ → Script → Script
follow nothing k rest = rest
follow (offers p l) k rest = offer k p l rest
follow (bad n v p) k rest = flaw n v k p

-- the script of these lines, the first having number k
abbrev pub script_from : ℕ → List Span → Script
script_from k [] = ends
script_from k (l ∷ ls) = follow (verdict (fields l)) k (script_from (k + 1) ls)

-- a text of more than 65,536 bytes is refused before all else
abbrev pub script : List ℕ → Script
script text = cond (nat_lt 65536 (length text)) (flaw 24 (length text) 0 0) (script_from 1 (lines text))

-- the legs offered, in their order
abbrev pub offered : Script → List Leg
offered ends = []
offered (flaw n v k p) = []
offered (offer k p l rest) = l ∷ offered rest

-- the text has no flaw
abbrev pub keeps_rules : Script → Bool
keeps_rules ends = true
keeps_rules (flaw n v k p) = false
keeps_rules (offer k p l rest) = keeps_rules rest
