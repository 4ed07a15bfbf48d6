-- The first token of a rest of a line.
use Rattle.std.specs.Prelude.{ℕ, ◌+◌, ◌-◌, cond, List, [], ◌∷◌, length, drop, Some, None, Option, ◌==◌}
use Rattle.std.specs.List.{before_first, position_or_len}
use Rattle.svx_fields.specs.Bytes.{ends_blanks, ends_field}
use Rattle.svx_line.specs.declared.token.Token.{Token}
use Rattle.svx_line.specs.declared.token.Token.TheVariants.{Field, Command, Comment, LineEnd}
use Rattle.svx_line.specs.Spans.{Span, span}
use Rattle.svx_line.specs.Parts.{span_of}

-- a token by its bytes and place
pub data Sign : Type 0 where
  word : Span → Sign
  command : Span → Sign
  comment : Sign
  end : Sign

abbrev pub sign : Token → Sign
sign (Field x) = word (span_of x)
sign (Command x) = command (span_of x)
sign Comment = comment
sign LineEnd = end

-- the token that starts with the first byte
abbrev pub sign_at : ℕ → List ℕ → Sign
sign_at p [] = end
sign_at p (b ∷ bs) =
    cond (b == 59) comment
    (cond (b == 42) (command (span (before_first ends_field (b ∷ bs)) p)) (word (span (before_first ends_field (b ∷ bs)) p)))

-- the first token after blanks
abbrev pub sign_of : ℕ → List ℕ → Sign
sign_of p bs = sign_at (p + position_or_len ends_blanks bs) (drop (position_or_len ends_blanks bs) bs)

-- what stands after a field, in a rest of a line
abbrev pub after_field : Span → Span → Span
after_field x rest = span (drop ((x.place + length x.bytes) - rest.place) rest.bytes) (x.place + length x.bytes)

-- the rest after a token: after the field or the command, or the same where no field is left
abbrev pub rest_after : Sign → Span → Span
rest_after (word x) rest = after_field x rest
rest_after (command x) rest = after_field x rest
rest_after comment rest = rest
rest_after end rest = rest

-- a field or a command as a span
abbrev pub span_found : Sign → Option Span
span_found (word x) = Some x
span_found (command x) = Some x
span_found comment = None
span_found end = None
