-- Where the bytes of a commit lie.
use Rattle.std.specs.Prelude.{ℕ}
use Rattle.protocol.specs.declared.{Answer.{Answer, TheVariants.{Refused, Done, Commit}}, Kind.{Kind, TheVariants.{Load, Store, Fence}}}
use Rattle.tables.specs.declared.Span.{Span}

abbrev pub nowhere : Span
nowhere = record { start = 0; count = 0 }

-- a load's and a store's are the line's, a fence has none
abbrev pub kind_span : Kind → ℕ → ℕ → Span
kind_span (Load l) start width = record { start = start; count = width }
kind_span (Store l) start width = record { start = start; count = width }
kind_span Fence start width = nowhere

-- the bytes beside an answer, `count` of them from `start` in the private buffer: those of the commit of a load or of a store; none, 0 and 0,
-- for any other answer
abbrev pub span_of : Answer → ℕ → ℕ → Span
span_of (Refused n) start width = nowhere
span_of (Done d) start width = nowhere
span_of (Commit c t k) start width = kind_span k start width
