-- The fields of a line, each with its place in the text.
use Rattle.std.specs.Prelude.{ℕ, ◌+◌, ◌-◌, cond, List, [], ◌∷◌, ◌++◌, length, ◌==◌, slice_index_or}
use Rattle.svx_fields.specs.Bytes.{blank}

-- a part of the text: its bytes and the place of the first of them
pub record Span : Type 0 where
  pub bytes : List ℕ
  pub place : ℕ

abbrev pub span : List ℕ → ℕ → Span
span bs p = record { bytes = bs; place = p }

-- the span of these bytes that ends before place p; none if it is empty
abbrev pub ending_at : List ℕ → ℕ → List Span
ending_at [] p = []
ending_at (b ∷ bs) p = span (b ∷ bs) (p - length (b ∷ bs)) ∷ []

-- the fields from place p on, `begun` being the bytes of a field already begun; a semicolon (59) ends the line's fields
abbrev pub fields_from : (p : ℕ) (begun bytes : List ℕ) → List Span
fields_from p begun [] = ending_at begun p
fields_from p begun (b ∷ bs) =
    cond (b == 59) (ending_at begun p)
    (cond (blank b) (ending_at begun p ++ fields_from (p + 1) [] bs) (fields_from (p + 1) (begun ++ (b ∷ [])) bs))

-- the fields of a line that stands at a place
abbrev pub fields : Span → List Span
fields l = fields_from l.place [] l.bytes

-- field i, an empty one where there is none
abbrev pub field : List Span → ℕ → Span
field fs i = slice_index_or fs i (span [] 0)
