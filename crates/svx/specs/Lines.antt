-- The lines of a survey text, each with its place.
use Rattle.std.specs.Prelude.{ℕ, ◌+◌, ◌-◌, ◌≤◌, cond, List, [], ◌∷◌, ◌++◌, length, drop, Some, None, Option, ◌==◌, nat_lt}
use Rattle.svx_line.specs.declared.part.Part.{Part}
use Rattle.svx_line.specs.Spans.{Span, span}
use Rattle.svx_line.specs.Parts.{span_of}

-- the lines from place p on, `begun` being the bytes of a line already begun; a line feed is byte 10
abbrev pub lines_from : (p : ℕ) (begun bytes : List ℕ) → List Span
lines_from p begun [] = span begun (p - length begun) ∷ []
lines_from p begun (b ∷ bs) =
    cond (b == 10) (span begun (p - length begun) ∷ lines_from (p + 1) [] bs) (lines_from (p + 1) (begun ++ (b ∷ [])) bs)

-- a line ends at a line feed or at the end of the text
abbrev pub lines : List ℕ → List Span
lines text = lines_from 0 [] text

-- the lines that a reader at place p has before it
abbrev pub lines_left : ℕ → List ℕ → List Span
lines_left p text = cond (nat_lt (length text) p) [] (lines_from p [] (drop p text))

-- the lines left before a reader gave this one
abbrev pub with_line : Option Part → List Span → List Span
with_line None ls = ls
with_line (Some x) ls = span_of x ∷ ls

abbrev pub lines_given : Option Part → ℕ
lines_given None = 0
lines_given (Some x) = 1

-- the line ends by place n
abbrev pub Within : Option Part → ℕ → Type 0
Within None n = Unit {0}
Within (Some x) n = x.place + length x.bytes.now ≤ n
