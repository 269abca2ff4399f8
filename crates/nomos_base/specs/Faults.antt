-- Counts of faults: how often a source or a sink has failed.
use Rattle.std.specs.Prelude.{◌≡◌, ◌⊎◌, ℕ, ◌+◌, ◌-◌, ◌^◌, ◌<◌, min}

-- the last value of a count, at which it stays
abbrev pub last_count : ℕ
last_count = 2 ^ 64 - 1

-- the count after one more
abbrev pub next_count : ℕ → ℕ
next_count count = min (count + 1) last_count

-- a count rose, or it stands at its last value
abbrev pub Rose : ℕ → ℕ → Type 0
Rose before now = (before < now) ⊎ (now ≡ last_count)
