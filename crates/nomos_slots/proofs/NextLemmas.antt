-- Variables of one block that have no name.
use Rattle.std.proofs.Common.{◌≡◌, ◌<◌, ◌≤◌, ◌*◌, ◌/◌, ◌^◌, ℕ, false, List, None, Some, length, ap, arith}
use Rattle.std.proofs.lemmas.Bool.{false_from_ne_true}
use Rattle.nomos_slots.specs.Cells.{Cell, IsProbed, block, cell_at, home, is_of, name_in, scattered}
use Rattle.nomos_slots.specs.declared.cells.NamedVariable.{NamedVariable}
use Rattle.nomos_slots.proofs.EntryLemmas.{nothing-named}
use Rattle.nomos_slots.proofs.ProbeLemmas.{none-past, none-there, same-process, same-variable}

-- Of the cells from the home of a block on, before this one, none has an entry of the process between two variables.
abbrev pub IsClearTo : ℕ → ℕ → ℕ → ℕ → List Cell → ℕ → Type 0
IsClearTo homes p from next cells at =
    (i : ℕ) (e : NamedVariable) → home homes p from ≤ i → i < at → cell_at cells i ≡ Some e → e.process ≡ p
    → from ≤ e.variable → next ≤ e.variable

module _ (homes p from next : ℕ) (cells : List Cell) (probed : IsProbed homes cells) where
  other-key : (v : ℕ) (e : NamedVariable) → from ≤ v → v < next
      → (e.process ≡ p → from ≤ e.variable → next ≤ e.variable) → is_of p v e ≡ false
  other-key v e from_on below clear =
      false_from_ne_true (is_of p v e)
      (λ is.
      let same = same-variable p v e is in
      let over = clear (same-process p v e is) (omega arith) in
      absurd (omega arith))

  one-home : (v : ℕ) → block v ≡ block from → home homes p v ≡ home homes p from
  one-home v same = ap (λ b. scattered p b * homes / 2 ^ 64) same

  pub none-before : (at : ℕ) → IsClearTo homes p from next cells at → home homes p from ≤ at → cell_at cells at ≡ None
      → (v : ℕ) → from ≤ v → v < next → block v ≡ block from → name_in cells p v ≡ None
  none-before at clear over empty v from_on below same =
      let one = one-home v same in
      nothing-named cells p v
      (none-there homes p v at cells probed
      (λ i e home_on before stands.
      other-key v e from_on below (clear i e (omega (arith, one, home_on)) before stands))
      (omega (arith, one, over)) empty)

  pub none-to_end : (at : ℕ) → IsClearTo homes p from next cells at → length cells ≤ at
      → (v : ℕ) → from ≤ v → v < next → block v ≡ block from → name_in cells p v ≡ None
  none-to_end at clear past v from_on below same =
      let one = one-home v same in
      nothing-named cells p v
      (none-past homes p v cells probed
      (λ i e home_on within stands.
      other-key v e from_on below (clear i e (omega (arith, one, home_on)) (omega (arith, past, within)) stands)))
