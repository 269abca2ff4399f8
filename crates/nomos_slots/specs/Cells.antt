-- Names by process and variable, in cells.
use Rattle.std.specs.Prelude.{◌≡◌, ◌≤◌, ◌<◌, ◌==◌, ◌&&◌, ◌⊎◌, ◌+◌, ◌*◌, ◌/◌, ◌%◌, ◌^◌, ℕ, Bool, true, false, cond, List, [], ◌∷◌, length, slice_index_or, count_by, bit_xor, Option, Some, None, MatchOption, is_some}
use Rattle.nomos_slots.specs.declared.cells.NamedVariable.{NamedVariable}

-- a cell, which is empty or has an entry
abbrev pub Cell : Type 0
Cell = Option NamedVariable

-- what stands in a cell: nothing past the last one
abbrev pub cell_at : List Cell → ℕ → Cell
cell_at cells place = slice_index_or cells place None

abbrev pub is_filled : List Cell → ℕ → Bool
is_filled cells place = is_some (cell_at cells place)

-- whether the entry is of this variable of this process
abbrev pub is_of : ℕ → ℕ → NamedVariable → Bool
is_of process variable e = e.process == process && e.variable == variable

-- the name that a variable of a process has: that of the first entry which is of it
abbrev pub name_in : List Cell → ℕ → ℕ → Option ℕ
name_in [] process variable = None
name_in (None ∷ cells) process variable = name_in cells process variable
name_in (Some e ∷ cells) process variable = cond (is_of process variable e) (Some e.name)
    (name_in cells process variable)

-- the name, where that of an entry of the same variable of the process comes first
abbrev pub with_cell : Cell → ℕ → ℕ → Option ℕ → Option ℕ
with_cell None process variable name = name
with_cell (Some e) process variable name = cond (is_of process variable e) (Some e.name) name

-- how many entries there are
abbrev pub entries : List Cell → ℕ
entries cells = count_by is_some cells

-- the block of a variable: sixteen that follow one another are of one block
abbrev pub block : ℕ → ℕ
block variable = variable / 16

-- a process and a block as one number of 64 bits, scattered so that processes in any steps do not come together
abbrev pub scattered : ℕ → ℕ → ℕ
scattered process number =
    let sum = (process * 11400714819323198485 + number) % 2 ^ 64 in
    (bit_xor sum (sum / 2 ^ 32) * 11400714819323198485) % 2 ^ 64

-- The home of an entry: the first cell in which it may stand, of so many that are homes. Variables of one block have
-- one, so that the names of a whole block are found together. The high bits tell it, so that how many homes there are
-- has no part in which entries come together.
abbrev pub home : ℕ → ℕ → ℕ → ℕ
home homes process variable = scattered process (block variable) * homes / 2 ^ 64

abbrev pub home_of : ℕ → NamedVariable → ℕ
home_of homes e = home homes e.process e.variable

-- No two entries are of the same variable of a process.
abbrev pub IsOnce : List Cell → Type 0
IsOnce cells = (one other : ℕ) (e f : NamedVariable) → cell_at cells one ≡ Some e → cell_at cells other ≡ Some f
    → is_of e.process e.variable f ≡ true → one ≡ other

-- Each entry stands at its home or after it, with no empty cell between, and no two are of the same variable of a
-- process.
pub record IsProbed (homes : ℕ) (cells : List Cell) : Type 0 where
  pub near : (place : ℕ) (e : NamedVariable) → cell_at cells place ≡ Some e → home_of homes e ≤ place
  pub full : (at place : ℕ) (e : NamedVariable) → cell_at cells place ≡ Some e → home_of homes e ≤ at → at < place
      → is_filled cells at ≡ true
  pub once : IsOnce cells

-- The same but for one empty cell, the hole: what stands between it and `next` is at home after it.
pub record IsGap (homes : ℕ) (cells : List Cell) (hole next : ℕ) : Type 0 where
  pub before : hole < next
  pub empty : cell_at cells hole ≡ None
  pub near : (place : ℕ) (e : NamedVariable) → cell_at cells place ≡ Some e → home_of homes e ≤ place
  pub full : (at place : ℕ) (e : NamedVariable) → cell_at cells place ≡ Some e → home_of homes e ≤ at → at < place
      → (at ≡ hole) ⊎ (is_filled cells at ≡ true)
  pub once : IsOnce cells
  pub clear : (place : ℕ) (e : NamedVariable) → hole < place → place < next → cell_at cells place ≡ Some e
      → hole < home_of homes e

-- the place of the entry of a variable of a process, and no place where there is none
abbrev pub IsPlaceIn : List Cell → ℕ → ℕ → Option ℕ → Type 0
IsPlaceIn cells process variable result =
    MatchOption
    result
    ((place : ℕ) (e : NamedVariable) → cell_at cells place ≡ Some e → is_of process variable e ≡ false)
    (λ place. (e : NamedVariable) × (cell_at cells place ≡ Some e) × (is_of process variable e ≡ true))

-- the first empty cell from a place on, and none where all are filled
abbrev pub IsEmptyFrom : List Cell → ℕ → Option ℕ → Type 0
IsEmptyFrom cells from result =
    MatchOption
    result
    ((place : ℕ) → from ≤ place → place < length cells → is_filled cells place ≡ true)
    (λ place. (from ≤ place) × (place < length cells) × (cell_at cells place ≡ None)
    × ((at : ℕ) → from ≤ at → at < place → is_filled cells at ≡ true))
