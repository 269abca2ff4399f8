-- Among which variables the channels of a process may stand.
use Rattle.std.specs.Prelude.{◌≡◌, ◌≤◌, ◌==◌, ◌+◌, ◌*◌, ◌/◌, ◌%◌, ◌^◌, ℕ, Bool, true, Option, Some, None}
use Rattle.std.specs.Int.{bit_at}
use Rattle.nomos_state.specs.declared.kept.Kept.{Kept}
use Rattle.nomos_state.specs.declared.kept.Kept.TheVariants as kept
use Rattle.nomos_state.specs.declared.span.Span.{Span}

-- whether a word has a bit
abbrev pub has_bit : ℕ → ℕ → Bool
has_bit word i = bit_at word i == 1

-- The bit of the row of a variable: 128 that follow one another are in one row, and rows 64 apart have one bit.
abbrev pub row_bit : ℕ → ℕ
row_bit v = v / 128 % 64

-- the bits of the rows of a span
abbrev pub rows_of : Span → ℕ
rows_of span = span.high_rows * 2 ^ 32 + span.low_rows

-- the variable is in the span, where there is one
abbrev pub HasVariable : Option Span → ℕ → Type 0
HasVariable None v = ⊥
HasVariable (Some span) v = (span.low ≤ v) × (v ≤ span.high) × (has_bit (rows_of span) (row_bit v) ≡ true)

-- a process stands there, in whose span the variable is
abbrev pub Spans : Option Kept → ℕ → Type 0
Spans (Some (kept.Process k)) v = HasVariable k.span v
Spans _ v = ⊥
