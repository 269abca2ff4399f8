-- What one read or write moves, and how it is counted.
use Rattle.std.specs.Prelude.{ℕ, ◌<◌, ◌≤◌, List, [], length, take, Option, ⊤}
use Rattle.std.specs.Io.KnownBytes.{Appends, Consumes, IsAtEnd, Keeps}
use Rattle.nomos_base.specs.Faults.{next_count}
use Rattle.nomos_base.specs.declared.source.Got.{Got}
use Rattle.nomos_base.specs.declared.source.Got.TheVariants as got
use Rattle.nomos_base.specs.declared.sink.Put.{Put}
use Rattle.nomos_base.specs.declared.sink.Put.TheVariants as put

-- a read that got bytes got at least one, and no more than the buffer has
abbrev pub GetsSome : Got → List ℕ → Type 0
GetsSome (got.Got count) buffer = (0 < count) × (count ≤ length buffer)
GetsSome got.End buffer = ⊤
GetsSome got.Failed buffer = ⊤

-- the count of faults after a read with this answer
abbrev pub count_after_read : Got → ℕ → ℕ
count_after_read (got.Got count) faults = faults
count_after_read got.End faults = faults
count_after_read got.Failed faults = next_count faults

-- a write that put bytes put at least one, and no more than were given
abbrev pub PutsSome : Put → List ℕ → Type 0
PutsSome (put.Wrote count) bytes = (0 < count) × (count ≤ length bytes)
PutsSome put.Failed bytes = ⊤

-- the count of faults after a write with this answer
abbrev pub count_after_write : Put → ℕ → ℕ
count_after_write (put.Wrote count) faults = faults
count_after_write put.Failed faults = next_count faults

-- what a read with this answer took from what a reader was known to give
abbrev pub TakesBy : Got → List ℕ → Option (List ℕ) → Option (List ℕ) → Type 0
TakesBy (got.Got count) buffer before now = Consumes before now (take count buffer)
TakesBy got.End buffer before now = Consumes before now [] × IsAtEnd now
TakesBy got.Failed buffer before now = Keeps before now

-- what a write with this answer added to what a writer was known to have
abbrev pub AddsBy : Put → List ℕ → Option (List ℕ) → Option (List ℕ) → Type 0
AddsBy (put.Wrote count) bytes before now = Appends before now (take count bytes)
AddsBy put.Failed bytes before now = Keeps before now
