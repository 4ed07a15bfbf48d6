-- Changes written, and then more of them.
use Rattle.std.proofs.Common.{◌≡◌, ℕ, ◌+◌, List, [], ◌∷◌, ◌++◌, length, set, ap, arith}
use Rattle.survey.specs.declared.leg.Change.{Change}
use Rattle.replay.specs.Entries.{written}

pub written_on : (entries : List Change) (m n : ℕ) (cs ds : List Change) → n ≡ m + length cs → written entries m (cs ++ ds) ≡ written (written entries m cs) n ds
written_on entries m n [] ds e = let f : m ≡ n = omega arith in ap (λ (k : ℕ). written entries k ds) f
written_on entries m n (c ∷ cs) ds e = written_on (set entries m c) (m + 1) n cs ds (omega arith)
