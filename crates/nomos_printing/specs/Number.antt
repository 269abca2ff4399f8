-- The numbers and the amounts of gas that are read.
use Rattle.std.specs.Prelude.{◌<◌, ◌≤◌, ◌^◌, ℕ, List, Option, decimal}
use Rattle.nomos_base.specs.Gas.{gas_text}
use Rattle.nomos_printing.specs.ReadAs.{ReadsAs}

-- a text is read as a number up to this one: in decimal, without leading zeros
abbrev pub ReadsNumber : ℕ → List ℕ → Option ℕ → Type 0
ReadsNumber most text answer = ReadsAs (λ n. n ≤ most) decimal text answer

-- the same of a number of so many bits
abbrev pub ReadsBits : ℕ → List ℕ → Option ℕ → Type 0
ReadsBits bits text answer = ReadsAs (λ n. n < 2 ^ bits) decimal text answer

-- a text is read as an amount of gas in Dths, of which a unit has so many
abbrev pub ReadsGas : ℕ → List ℕ → Option ℕ → Type 0
ReadsGas unit text answer = ReadsAs (λ n. n < 2 ^ 128) (λ n. gas_text n unit) text answer
