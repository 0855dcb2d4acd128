-- A core's pair of clocks after a step: "Each core's pair of clocks takes a step and comes back as the new pair."
use Rattle.protocol.specs.{Stamps.later, declared.{Stamp.Stamp, Clocks.Clocks}}

-- load: lts becomes max(lts, wts)
abbrev pub loaded : Clocks → Stamp → Clocks
loaded k w = record { lts = later k.lts w; sts = k.sts }

-- store: ts = max(lts, sts, t), where t is the earliest that the copy's lease allows
abbrev pub store_time : Clocks → Stamp → Stamp
store_time k t = later (later k.lts k.sts) t

-- store: sts becomes ts
abbrev pub stored : Clocks → Stamp → Clocks
stored k t = record { lts = k.lts; sts = store_time k t }

-- fence: lts becomes max(lts, sts)
abbrev pub fenced : Clocks → Clocks
fenced k = record { lts = later k.lts k.sts; sts = k.sts }

-- advance: lts becomes t
abbrev pub advanced : Clocks → Stamp → Clocks
advanced k t = record { lts = t; sts = k.sts }
