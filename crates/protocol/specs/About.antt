-- What a call is about: the core, the line, and what it does to the core's clocks, read off the headings of 01's "Steps". Everything that asks
-- which core or line a call looks at, what 3 to 6 refuse of it, or what it commits goes by this one definition.
use Rattle.std.specs.Prelude.{ℕ}
use Rattle.protocol.specs.declared.Call.{Call, TheVariants.{Load, Store, Fence, Evict, Drop, Writeback as WriteBack, Advance}}
use Rattle.protocol.specs.declared.Call.TheVariants.{Serve, Receive, Yield, Take, Victim}
use Rattle.protocol.specs.declared.Who.{Who, TheVariants.{Named as NamedCore, Owner, Nobody}}
use Rattle.protocol.specs.declared.Which.{Which, TheVariants.{Named as NamedLine, Asked, Answered, Nothing, Victim as OfVictim}}
use Rattle.protocol.specs.declared.Act.{Act, TheVariants.{Load as Loads, Store as Stores, Fence as Fences, Advance as Advances, Transfer}}
use Rattle.protocol.specs.declared.About.{About}

abbrev pub concerns : Who → Which → Act → About
concerns c l a = record { core = c; line = l; act = a }

-- "load (core, line)", "store (core, line, bytes)", "fence (core)", "evict (core, line)", "advance (core, by)", "serve (core with an asked
-- slot)", "receive (core)", "yield (line): the owner's ..", "take (line)". 02, Two: "Split evict into drop (shared copies) and writeback (owned
-- copies)". Four: "`op=victim core=N`"
abbrev pub about : Call → About
about (Load c l) = concerns (NamedCore c) (NamedLine l) Loads
about (Store g c l) = concerns (NamedCore c) (NamedLine l) (Stores g)
about (Fence c) = concerns (NamedCore c) Nothing Fences
about (Evict c l) = concerns (NamedCore c) (NamedLine l) Transfer
about (Drop c l) = concerns (NamedCore c) (NamedLine l) Transfer
about (WriteBack c l) = concerns (NamedCore c) (NamedLine l) Transfer
about (Advance c by) = concerns (NamedCore c) Nothing (Advances by)
about (Serve c) = concerns (NamedCore c) Asked Transfer
about (Receive c) = concerns (NamedCore c) Answered Transfer
about (Yield l) = concerns Owner (NamedLine l) Transfer
about (Take l) = concerns Nobody (NamedLine l) Transfer
about (Victim c) = concerns (NamedCore c) OfVictim Transfer

-- the core that a call names, and the line; 0 where it names none
abbrev pub named_core : Who → ℕ
named_core (NamedCore c) = c
named_core Owner = 0
named_core Nobody = 0

abbrev pub named_line : Which → ℕ
named_line (NamedLine l) = l
named_line Asked = 0
named_line Answered = 0
named_line Nothing = 0
named_line OfVictim = 0
