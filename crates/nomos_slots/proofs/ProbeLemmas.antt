-- Look-ups in cells.
use Rattle.std.proofs.Common.{◌≡◌, ◌<◌, ◌≤◌, ℕ, true, false, eqb, List, Some, None, length, sym, ap, ◌∙◌, inl, inr, arith}
use Rattle.std.specs.Option.{is_some}
use Rattle.std.proofs.lemmas.Bool.{and_parts, both_ways, cases_eq, cases_lt, eqb-true, false_from_ne_true, false≢true}
use Rattle.std.proofs.lemmas.List.{get_or_past}
use Rattle.nomos_slots.specs.Cells.{Cell, IsProbed, cell_at, home, home_of, is_filled, is_of}
use Rattle.nomos_slots.specs.declared.cells.NamedVariable.{NamedVariable}

-- ---- keys

pub same-process : (p v : ℕ) (e : NamedVariable) → is_of p v e ≡ true → e.process ≡ p
same-process p v e is = eqb-true e.process p (and_parts _ _ is).0

pub same-variable : (p v : ℕ) (e : NamedVariable) → is_of p v e ≡ true → e.variable ≡ v
same-variable p v e is = eqb-true e.variable v (and_parts (eqb e.process p) _ is).1

pub same-home : (homes p v : ℕ) (e : NamedVariable) → is_of p v e ≡ true → home_of homes e ≡ home homes p v
same-home homes p v e is =
    ap (λ q. home homes q e.variable) (same-process p v e is) ∙ ap (home homes p) (same-variable p v e is)

-- ---- cells

pub filled-some : (cells : List Cell) (place : ℕ) (e : NamedVariable) → cell_at cells place ≡ Some e
    → is_filled cells place ≡ true
filled-some cells place e is = ap is_some is

pub filled-within : (cells : List Cell) (place : ℕ) → is_filled cells place ≡ true → place < length cells
filled-within cells place is =
    elim (cases_lt place (length cells)) [
      | inl l ↦ l
      | inr past ↦ absurd (false≢true (sym (ap is_some (get_or_past cells place None past)) ∙ is))
    ]

-- where the cells from the home of a key up to an empty one have other keys, no cell has the key
pub none-there : (homes p v at : ℕ) (cells : List Cell) → IsProbed homes cells
    → ((i : ℕ) (e : NamedVariable) → home homes p v ≤ i → i < at → cell_at cells i ≡ Some e → is_of p v e ≡ false)
    → home homes p v ≤ at → cell_at cells at ≡ None
    → (place : ℕ) (e : NamedVariable) → cell_at cells place ≡ Some e → is_of p v e ≡ false
none-there homes p v at cells probed others over empty place e stands =
    false_from_ne_true (is_of p v e)
    (λ is.
    let same = same-home homes p v e is in
    let near : home_of homes e ≤ place = probed.near place e stands in
    elim (cases_lt place at) [
      | inl before ↦ both_ways _ (others place e (omega arith) before stands) is
      | inr after ↦
          elim (cases_eq place at) [
            | inl here ↦
                both_ways _ (ap is_some (ap (cell_at cells) here ∙ empty)) (filled-some cells place e stands)
            | inr apart ↦
                both_ways _ (ap is_some empty) (probed.full at place e stands (omega arith) (omega arith))
          ]
    ])

-- where all cells from the home of a key on have other keys, no cell has the key
pub none-past : (homes p v : ℕ) (cells : List Cell) → IsProbed homes cells
    → ((i : ℕ) (e : NamedVariable) → home homes p v ≤ i → i < length cells → cell_at cells i ≡ Some e
    → is_of p v e ≡ false)
    → (place : ℕ) (e : NamedVariable) → cell_at cells place ≡ Some e → is_of p v e ≡ false
none-past homes p v cells probed others place e stands =
    false_from_ne_true (is_of p v e)
    (λ is.
    let same = same-home homes p v e is in
    let near : home_of homes e ≤ place = probed.near place e stands in
    let within = filled-within cells place (filled-some cells place e stands) in
    both_ways _ (others place e (omega arith) within stands) is)
