-- So many Dths, a number of 128 bits, in two numbers of 64 bits.
use Rattle.std.specs.Prelude.{◌+◌, ◌*◌, ◌/◌, ◌%◌, ◌^◌, ◌<◌, ℕ}
use Rattle.nomos_state.specs.declared.purse.Purse.TheInside.{Inside}

-- what two numbers make, and the numbers of it
abbrev pub dths_of : Inside → ℕ
dths_of purse = purse.high * 2 ^ 64 + purse.low

abbrev pub longs_of : ℕ → Inside
longs_of dths = record { high = dths / 2 ^ 64; low = dths % 2 ^ 64 }

-- each number has 64 bits
abbrev pub IsOfLongs : Inside → Type 0
IsOfLongs purse = (purse.high < 2 ^ 64) × (purse.low < 2 ^ 64)
