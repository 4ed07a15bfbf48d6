-- The first field of the rest, and one field fewer after it.
use Rattle.std.proofs.Common.{◌≡◌, [], ◌∷◌, length, Some, None, Option, ap, rules}
use Rattle.std.specs.Option.{MatchOption}
use Rattle.std.specs.Iterator.{MakesProgress, item_count}
use Rattle.std.specs.declared.iter.Iterator.{can_next-default}
use Rattle.svx_line.specs.declared.lexer.Lexer.{Lexer}
use Rattle.svx_line.specs.declared.part.Part.{Part}
use Rattle.svx_line.specs.Spans.{Span, fields}
use Rattle.svx_line.specs.Parts.{span_of}
use Rattle.svx_line.proofs.Splitting.{first_field}
use Rattle.svx_line.proofs.lexer.LexerIterator.next.Goals as goal

pub returns-clause-steps : goal.returns-clause-steps
returns-clause-steps c = first_field _ _ _ _ c.next_token.ensures.token c.next_token.ensures.rest c.part.ensures

fewer : (s t : Lexer) (r : Option Part) → MatchOption r ((fields (span_of s.rest) ≡ []) × (fields (span_of t.rest) ≡ [])) (λ x. fields (span_of s.rest) ≡ span_of x ∷ fields (span_of t.rest))
    → MakesProgress (can_next-default Lexer Part) (item_count {S = Lexer} {A = Span} (λ u. fields (span_of u.rest))) s r t
fewer s t None m = search rules
fewer s t (Some x) m = let shorter = ap length m in search rules

pub returns-clause-goes : goal.returns-clause-goes
returns-clause-goes c = fewer _ _ _ (returns-clause-steps c)
