-- Changes written into the entries of a journal, one to an entry.
use Rattle.std.specs.Prelude.{ℕ, ◌+◌, min, Bool, List, [], ◌∷◌, nat_lt, slice_set}
use Rattle.survey.specs.declared.leg.Change.{Change}

-- an entry is free: of the supplied ones, the first 4,096 are used
abbrev pub free_entry : (taken supplied : ℕ) → Bool
free_entry taken supplied = nat_lt taken (min supplied 4096)

-- changes written one to an entry, from entry n on; the other entries stay
abbrev pub written : List Change → ℕ → List Change → List Change
written entries n [] = entries
written entries n (c ∷ cs) = written (slice_set entries n c) (n + 1) cs
