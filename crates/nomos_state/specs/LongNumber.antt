-- A number of 64 bits in two words of 32 bits.
use Rattle.std.specs.Prelude.{◌+◌, ◌*◌, ◌/◌, ◌%◌, ◌^◌, ◌<◌, ℕ}
use Rattle.nomos_state.specs.declared.long.Long.TheInside.{Inside}

-- the number that two words make, and the words of a number
abbrev pub number_of : Inside → ℕ
number_of words = words.high * 2 ^ 32 + words.low

abbrev pub words_of : ℕ → Inside
words_of number = record { high = number / 2 ^ 32; low = number % 2 ^ 32 }

-- each word has 32 bits
abbrev pub IsOfWords : Inside → Type 0
IsOfWords words = (words.high < 2 ^ 32) × (words.low < 2 ^ 32)
