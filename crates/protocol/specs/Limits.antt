-- The limits of an opening: "An engine has 1 to 16 cores, 1 to 64 lines, a width of 1 to 64 bytes a line, a lease of 1 to 1,000." 02, Four:
-- "a capacity, 1 to lines".
use Rattle.std.specs.Prelude.{ℕ, Bool, leb}
use Rattle.protocol.specs.{Pick.both, declared.Opening.Opening}

-- the greatest sizes, and the longest lease
abbrev pub most_cores : ℕ
most_cores = 16

abbrev pub most_lines : ℕ
most_lines = 64

abbrev pub most_width : ℕ
most_width = 64

abbrev pub most_lease : ℕ
most_lease = 1000

-- n lies from 1 to most
abbrev pub within : ℕ → ℕ → Bool
within n most = both (leb 1 n) (leb n most)

-- the sizes, the lease and the capacity lie inside the limits
unfoldable pub opening_fits : Opening → Bool
opening_fits o =
    both (within o.cores most_cores)
    (both (within o.lines most_lines) (both (within o.width most_width) (both (within o.lease most_lease) (within o.cap o.lines))))
