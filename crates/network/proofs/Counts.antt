-- Marked numbers and their ranks, as tables and as counts.
use Rattle.std.proofs.Common.{◌≡◌, ℕ, ◌<◌, ◌≤◌, Bool, false, List, get_or, ◌∙◌, arith}
use Rattle.survey.specs.Counting.{count}
use Rattle.embedding.specs.Tables.{Holds}
use Rattle.embedding.proofs.Reached.{count_bound}
use Rattle.cycles.proofs.Tables.{count_same}
use Rattle.network.specs.Tables.{rank}

-- ranks by marks are counts of what is marked
rank_is : (p : ℕ → Bool) (marks : List Bool) (n : ℕ) → Holds false p marks n → (k : ℕ) → k ≤ n → rank marks k ≡ count p k
rank_is p marks n h k l = count_same (λ j. get_or marks j false) p k (λ i b. h i (omega arith))

module _ (p : ℕ → Bool) (marks : List Bool) (n : ℕ) (marked : Holds false p marks n) where
  pub rank_all : rank marks n ≡ count p n
  rank_all = rank_is p marks n marked n (omega arith)

  pub ranked : (ranks : List ℕ) (k : ℕ) → Holds 0 (rank marks) ranks n → k < n → get_or ranks k 0 ≡ count p k
  ranked ranks k r l = r k l ∙ rank_is p marks n marked k (omega arith)

  -- a rank is at most the number of places
  pub rank_le : (ranks : List ℕ) (k : ℕ) → Holds 0 (rank marks) ranks n → k < n → get_or ranks k 0 ≤ n
  rank_le ranks k r l = let a = r k l in let b = count_bound (λ j. get_or marks j false) k in omega arith
