-- What the loop over rounds keeps.
use Rattle.std.proofs.Common.{◌≡◌, ℕ, ◌+◌, ◌*◌, ◌<◌, ◌≤◌, true, false, List, length, sym, refl, ap, ◌∙◌, subst, arith}
use Rattle.price.specs.Laws.{Ops, Laws}
use Rattle.search.specs.declared.Label.{Label}
use Rattle.search.specs.Labels.{label_at, Sized, Fresh}
use Rattle.search.specs.Moves.{Move, State, swept}
use Rattle.search.specs.Paths.{Safe, Named, Settled}
use Rattle.search.proofs.Sweep.{AllFit, start, sized_sweep}
use Rattle.search.proofs.Tree.{Guarded}
use Rattle.search.proofs.Rounds.{Mid, first_round, mid_sweep, next_round, at_rest}

abbrev pub Low : {P : Type 0} → ℕ → (ℕ → Move P) → Type 0
Low count moves = (i : ℕ) → i < count → (moves i).end < 65534

module _ {P : Type 0} {ops : Ops P} (L : Laws ops) (count : ℕ) (moves : ℕ → Move P) where
  abbrev pub net : (from : ℕ → ℕ → ℕ) (pot : ℕ → P) → Named count moves from → Low count moves → Safe ops count moves pot → Guarded P
  net from pot a b c = record { ops = ops; laws = L; count = count; moves = moves; from = from; pot = pot; named = a; low = b; safe = c }

  pub record Going (n r : ℕ) (labels : List (Label P)) : Type 0 where
    pub long : length labels ≡ n
    pub inside : r < n
    pub small : Sized ops n (8190000 * r) labels
    pub mid : (from : ℕ → ℕ → ℕ) (pot : ℕ → P) (a : Named count moves from) (b : Low count moves) (c : Safe ops count moves pot) → Mid (net from pot a b c) n (r + 1) 0 (start labels)

  pub going_start : (labels : List (Label P)) → 0 < length labels → Fresh ops labels → Going (length labels) 0 labels
  going_start labels some fresh = record {
    long = refl;
    inside = some;
    small = λ v _. let e = ap ops.size (fresh v).0 in let z = L.size_zero in omega arith;
    mid = λ from pot a b c. first_round (net from pot a b c) labels (λ v. (fresh v).1);
  }

  module _ (n r : ℕ) (labels : List (Label P)) (going : Going n r labels) (fit : AllFit ops n count moves) (few : count ≤ 4095) where
    pub lows : Low count moves
    lows i lt = (fit i lt).named

    swept_mid : (from : ℕ → ℕ → ℕ) (pot : ℕ → P) (a : Named count moves from) (b : Low count moves) (c : Safe ops count moves pot) (s : State P) → s ≡ swept ops (start labels) moves count → Mid (net from pot a b c) n (r + 1) count s
    swept_mid from pot a b c s e =
        subst (Mid (net from pot a b c) n (r + 1) count) (sym e)
        (mid_sweep (net from pot a b c) n (r + 1) (start labels) (going.mid from pot a b c) (λ i lt. (fit i lt).to) count (omega arith))

    swept_small : (s : State P) → s ≡ swept ops (start labels) moves count → Sized ops n (8190000 * (r + 1)) s.labels × (length s.labels ≡ n)
    swept_small s e =
        let q = sized_sweep L n (8190000 * r) (start labels) count moves (let l = going.long in omega arith) going.small fit count (omega arith) in (
          λ v lt. let k = subst (λ (z : State P). ops.size (label_at ops z.labels v).price ≤ 8190000 * r + 2000 * count) (sym e) (q.0 v lt) in omega arith,
          subst (λ (z : State P). length z.labels ≡ n) (sym e) (q.1 ∙ going.long),
        )

    pub going_next : (from : ℕ → ℕ → ℕ) (pot : ℕ → P) → Named count moves from → Safe ops count moves pot → (s : State P) → s ≡ swept ops (start labels) moves count → s.changed ≡ true → Going n (r + 1) s.labels
    going_next from pot a c s e hit = record {
      long = (swept_small s e).1;
      inside = (next_round (net from pot a lows c) n (r + 1) s (swept_mid from pot a lows c s e) hit).0;
      small = (swept_small s e).0;
      mid = λ from' pot' a' b' c'. (next_round (net from' pot' a' b' c') n (r + 1) s (swept_mid from' pot' a' b' c' s e) hit).1;
    }

    pub going_end : (from : ℕ → ℕ → ℕ) (pot : ℕ → P) → Named count moves from → Safe ops count moves pot → (s : State P) → s ≡ swept ops (start labels) moves count → s.changed ≡ false → Settled ops from count moves s.labels
    going_end from pot a c s e calm = at_rest (net from pot a lows c) n (r + 1) s (swept_mid from pot a lows c s e) calm
