-- The place of the first byte that passes, or the length where none does.
use Rattle.std.proofs.Common.{◌≡◌, ℕ, Bool, List, length, Option, arith}
use Rattle.std.proofs.lemmas.Bool.Decides.{nat_tests}
use Rattle.std.proofs.lemmas.List.Sums.{prefix_len-le-length}
use Rattle.std.specs.List.{position, position_or_len}
use Rattle.std.specs.Option.{unwrap_or}

pub place_or_length : (p : ℕ → Bool) (xs : List ℕ) (r : Option ℕ) (k : ℕ) → r ≡ position p xs → k ≡ unwrap_or r (length xs) → k ≡ position_or_len p xs
place_or_length p xs r k e h = grind (arith, nat_tests, prefix_len-le-length {X = ℕ})
