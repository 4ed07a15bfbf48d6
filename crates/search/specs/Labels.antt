-- Labels, and what one try of a move does to them. The end 65535 says that there is no price, 65534 that the node is a root.
use Rattle.std.specs.Prelude.{◌≡◌, ℕ, ◌<◌, ◌≤◌, Bool, true, cond, not, ◌&&◌, List, [], ◌∷◌, ◌==◌, slice_index_or, slice_set}
use Rattle.price.specs.Laws.{Ops}
use Rattle.search.specs.declared.Label.{Label}

-- the first of a list, or x where it is empty
abbrev pub first_of : {A : Type 0} → A → List A → A
first_of x [] = x
first_of x (y ∷ ys) = y

-- a label without a price
abbrev pub blank : {P : Type 0} → Ops P → Label P
blank ops = record { price = ops.zero; end = 65535 }

-- the label of node v; a node past the last label has no price
abbrev pub label_at : {P : Type 0} → Ops P → List (Label P) → ℕ → Label P
label_at ops labels v = slice_index_or labels v (blank ops)

abbrev pub reached : {P : Type 0} → Label P → Bool
reached m = not (m.end == 65535)

-- a price is better than a label: it has none, or a higher one
abbrev pub below : {P : Type 0} → Ops P → Label P → P → Bool
below ops b price = not (reached b && ops.leq b.price price)

-- a move from a to b is worth storing: a has a price, and b has none or a higher one
abbrev pub improves : {P : Type 0} → Ops P → Label P → Label P → P → Bool
improves ops a b cost = reached a && below ops b (ops.plus a.price cost)

-- the label that is come by from a, at this cost and by this end
abbrev pub came : {P : Type 0} → Ops P → Label P → P → ℕ → Label P
came ops a cost e = record { price = ops.plus a.price cost; end = e }

-- the labels after a try to move from u to v
abbrev pub tried : {P : Type 0} → Ops P → List (Label P) → ℕ → ℕ → P → ℕ → List (Label P)
tried ops labels u v cost e = cond (improves ops (label_at ops labels u) (label_at ops labels v) cost) (slice_set labels v (came ops (label_at ops labels u) cost e)) labels

-- what had a price has one, and no higher
abbrev pub Lower : {P : Type 0} → Ops P → List (Label P) → List (Label P) → Type 0
Lower ops before after = (v : ℕ) → reached (label_at ops before v) ≡ true → (reached (label_at ops after v) ≡ true) × (ops.leq (label_at ops after v).price (label_at ops before v).price ≡ true)

-- no new roots
abbrev pub Roots : {P : Type 0} → Ops P → List (Label P) → List (Label P) → Type 0
Roots ops before after = (v : ℕ) → (label_at ops after v).end ≡ 65534 → (label_at ops before v).end ≡ 65534

-- no price among the first n labels is of a size over b
abbrev pub Sized : {P : Type 0} → Ops P → ℕ → ℕ → List (Label P) → Type 0
Sized ops n b labels = (v : ℕ) → v < n → ops.size (label_at ops labels v).price ≤ b

-- only roots have a price, and it is zero
abbrev pub Fresh : {P : Type 0} → Ops P → List (Label P) → Type 0
Fresh ops labels = (v : ℕ) → ((label_at ops labels v).price ≡ ops.zero) × (reached (label_at ops labels v) ≡ true → (label_at ops labels v).end ≡ 65534)
