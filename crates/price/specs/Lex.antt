-- The laws of ranked prices.
use Rattle.std.specs.Prelude.{◌≡◌, refl}
use Rattle.std.proofs.Common.{arith}
use Rattle.std.proofs.Math.IntN.{+ℤ_assoc, +ℤ_comm, +ℤ_idr, +ℤ_invr}
use Rattle.std.proofs.lemmas.Int.{ints}
use Rattle.price.specs.Laws.{Laws}
use Rattle.price.specs.Amounts.{ranked, ranked_ops}

pub ranked_laws : Laws ranked_ops
ranked_laws = record {
  assoc = λ x y z. λ i. ranked (+ℤ_assoc x.first y.first z.first i) (+ℤ_assoc x.second y.second z.second i);
  comm = λ x y. λ i. ranked (+ℤ_comm x.first y.first i) (+ℤ_comm x.second y.second i);
  unit = λ x. λ i. ranked (+ℤ_idr x.first i) (+ℤ_idr x.second i);
  inverse = λ x. λ i. ranked (+ℤ_invr x.first i) (+ℤ_invr x.second i);
  total = λ x y. grind (arith, ints);
  trans = λ x y z h k. grind (arith, ints);
  antisym = λ x y h k.
      let p : x.first ≡ y.first = grind (arith, ints) in
      let q : x.second ≡ y.second = grind (arith, ints) in
      λ i. ranked (p i) (q i);
  kept = λ x y z h. grind (arith, ints);
  size_zero = refl;
  size_plus = λ x y. omega (arith, ints);
  size_minus = λ x. omega (arith, ints);
}
