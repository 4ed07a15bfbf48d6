-- Tables that are filled place by place, and counts one number on.
use Rattle.std.proofs.Common.{◌≡◌, ℕ, zero, suc, ◌+◌, ◌<◌, ◌∙◌, Bool, true, false, cond, ◌≢◌, List, length, set, refl, ap, add-one, arith, get_or-set_other, get_or-set_same, below_more}
use Rattle.std.proofs.lemmas.Bool.{cond-true, cond-false}
use Rattle.std.specs.List.{fold, count_by, range_with_len}
use Rattle.survey.specs.Counting.{count}
use Rattle.embedding.specs.Tables.{Holds}

-- one place more is written
pub holds_more : {A : Type 0} (d : A) (f : ℕ → A) (xs : List A) (k : ℕ) (v : A) → k < length xs → Holds d f xs k → v ≡ f k → Holds d f (set xs k v) (k + 1)
holds_more d f xs k v l h q = below_more _ _ (λ j lt. let n : j ≢ k = omega arith in rw get_or-set_other (h j lt)) (rw get_or-set_same q)

pub count_yes : (p : ℕ → Bool) (k : ℕ) → p k ≡ true → count p (k + 1) ≡ count p k + 1
count_yes p k t = let m : count p (k + 1) ≡ cond (p k) 1 0 + count p k = ap (count p) (add-one k) in let s = cond-true {A = ℕ} (p k) 1 0 t in omega arith

pub count_no : (p : ℕ → Bool) (k : ℕ) → p k ≡ false → count p (k + 1) ≡ count p k
count_no p k t = let m : count p (k + 1) ≡ cond (p k) 1 0 + count p k = ap (count p) (add-one k) in let s = cond-false {A = ℕ} (p k) 1 0 t in omega arith

-- tests that agree below k count the same
pub count_same : (p q : ℕ → Bool) (k : ℕ) → ((i : ℕ) → i < k → p i ≡ q i) → count p k ≡ count q k
count_same p q zero h = refl
count_same p q (suc k) h = λ t. cond (h k (omega arith) t) 1 0 + count_same p q k (λ i l. h i (omega arith)) t

-- the numbers from a on, counted on from those below
count_from : (p : ℕ → Bool) (a n b : ℕ) → b ≡ count p a → fold (λ s x. s + cond (p x) 1 0) b (range_with_len a n) ≡ count p (a + n)
count_from p a zero b h = let q : a ≡ a + 0 = omega arith in h ∙ ap (count p) q
count_from p a (suc n) b h =
    let q : (a + 1) + n ≡ a + suc n = omega arith in
    let s : count p (a + 1) ≡ cond (p a) 1 0 + count p a = ap (count p) (add-one a) in
    count_from p (a + 1) n (b + cond (p a) 1 0) (omega arith) ∙ ap (count p) q

-- a chain over a range that counts the numbers that pass
pub count_range : (p : ℕ → Bool) (n : ℕ) → count_by p (range_with_len 0 n) ≡ count p n
count_range p n = let q : 0 + n ≡ n = omega arith in count_from p 0 n 0 refl ∙ ap (count p) q
