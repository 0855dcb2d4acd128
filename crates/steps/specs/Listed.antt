-- What `steps` does, for an input and an output whose bytes are known.
use Rattle.std.specs.Prelude.{Option, Result}
use Rattle.protocol.specs.Buffers.{Bytes}
use Rattle.playing.specs.Listing.{Listing}
use Rattle.runner.specs.{Runs.Runs, declared.streams.Fault.Fault}

-- the text is the listing of the journal
abbrev pub Lists : {T : Type 0} → Option Bytes → Option Bytes → Option Bytes → Option Bytes → Result T Fault → Type 0
Lists old new before after r = Runs (λ journal v text. Listing journal text) old new before after r
