-- The outputs, byte by byte, and what a supplied buffer holds after one is written.
use Rattle.std.specs.Prelude.{ℕ, ◌+◌, cond, List, [], ◌∷◌, ◌++◌, length, take, drop, codes, decimal, Result, nat_lt}
use Rattle.refusal.specs.declared.Refusal.{Refusal}
use Rattle.refusal.specs.Answers.{Answer, tells, refuses, told_by}

-- one line: words, a number in base ten, a line feed
abbrev pub line : List ℕ → ℕ → List ℕ
line words n = words ++ (decimal n ++ (10 ∷ []))

-- the summary of a drawing
abbrev pub summary_text : (stations legs faces bends : ℕ) → List ℕ
summary_text stations legs faces bends = line (codes "stations ") stations ++ (line (codes "legs ") legs ++ (line (codes "faces ") faces ++ line (codes "bends ") bends))

-- a refusal with its number and line
abbrev pub refusal_text : (number line : ℕ) → List ℕ
refusal_text n k = codes "refused " ++ (decimal n ++ line (codes " line ") k)

-- the buffer with bytes put at a place
abbrev pub put : List ℕ → ℕ → List ℕ → List ℕ
put out at bytes = take at out ++ (bytes ++ drop (at + length bytes) out)

-- the bytes written, or the bytes needed where the buffer is shorter
abbrev pub write_answer : (room : ℕ) → List ℕ → Answer
write_answer room text = cond (nat_lt room (length text)) (refuses 17 (length text)) (tells (length text))

-- the text at the buffer's start, the rest as it was; a short buffer as it was
abbrev pub written : List ℕ → List ℕ → List ℕ
written out text = cond (nat_lt (length out) (length text)) out (put out 0 text)

abbrev pub told_bytes : Result ℕ Refusal → Answer
told_bytes r = told_by tells r
