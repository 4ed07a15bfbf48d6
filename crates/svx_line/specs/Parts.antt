-- A part of the text as a span.
use Rattle.svx_line.specs.declared.part.Part.{Part}
use Rattle.svx_line.specs.Spans.{Span, span}

abbrev pub span_of : Part → Span
span_of x = span x.bytes.now x.place
