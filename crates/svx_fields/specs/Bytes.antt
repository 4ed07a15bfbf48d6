-- Bytes of a survey text: their classes, and which of them end a line, a field and the blanks before a field.
use Rattle.std.specs.Prelude.{ℕ, Bool, cond, not, ◌||◌, ◌==◌}
use Rattle.svx_fields.specs.declared.bytes.ByteClass.{ByteClass}
use Rattle.svx_fields.specs.declared.bytes.ByteClass.TheVariants.{Blank, Semicolon, Star, LineFeed, Other}

-- a space, a tab or a carriage return
abbrev pub blank : ℕ → Bool
blank b = b == 32 || (b == 9 || b == 13)

abbrev pub class_of : ℕ → ByteClass
class_of b = cond (blank b) Blank (cond (b == 59) Semicolon (cond (b == 42) Star (cond (b == 10) LineFeed Other)))

-- a line feed
abbrev pub ends_line : ℕ → Bool
ends_line b = b == 10

-- what is no blank
abbrev pub ends_blanks : ℕ → Bool
ends_blanks b = not (blank b)

-- a blank or a semicolon
abbrev pub ends_field : ℕ → Bool
ends_field b = b == 59 || blank b
