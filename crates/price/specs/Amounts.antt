-- The two kinds of price: a whole number, and two that are ordered by the first and then by the second.
use Rattle.std.specs.Prelude.{max, Bool, true, false, cond, ℤ, pos, ◌+ℤ◌, neg_ℤ, int_le, int_lt, unsigned_abs}
use Rattle.price.specs.declared.Plain.{Plain}
use Rattle.price.specs.declared.Ranked.{Ranked}
use Rattle.price.specs.Laws.{Ops}

abbrev pub plain : ℤ → Plain
plain z = record { value = z }

-- whole numbers, in their own order; the size is the absolute value
abbrev pub plain_ops : Ops Plain
plain_ops = record {
  zero = plain (pos 0);
  plus = λ x y. plain (x.value +ℤ y.value);
  minus = λ x. plain (neg_ℤ x.value);
  leq = λ x y. int_le x.value y.value;
  size = λ x. unsigned_abs x.value;
}

abbrev pub ranked : ℤ → ℤ → Ranked
ranked a b = record { first = a; second = b }

-- the first number decides, and the second where the first are equal
abbrev pub ranked_leq : Ranked → Ranked → Bool
ranked_leq x y = cond (int_lt x.first y.first) true (cond (int_lt y.first x.first) false (int_le x.second y.second))

-- pairs, added part by part; the size is the greater absolute part
abbrev pub ranked_ops : Ops Ranked
ranked_ops = record {
  zero = ranked (pos 0) (pos 0);
  plus = λ x y. ranked (x.first +ℤ y.first) (x.second +ℤ y.second);
  minus = λ x. ranked (neg_ℤ x.first) (neg_ℤ x.second);
  leq = ranked_leq;
  size = λ x. max (unsigned_abs x.first) (unsigned_abs x.second);
}
