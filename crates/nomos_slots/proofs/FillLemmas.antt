-- Cells that are emptied, and filled from others.
use Rattle.std.proofs.Common.{◌≡◌, ◌<◌, ◌≤◌, ◌+◌, zero, suc, ℕ, Bool, true, false, cond, List, [], ◌∷◌, ◌++◌, Option, Some, None, length, set, take, refl, sym, ap, ◌∙◌, inl, inr, arith}
use Rattle.std.specs.Option.{is_some}
use Rattle.std.proofs.lemmas.Bool.{both_ways, cases_eq, cases_lt}
use Rattle.std.proofs.lemmas.List.{get_or_past, get_or-take, length-take, take_more}
use Rattle.std.proofs.lemmas.List.Sums.{sum_by-append, sum_by-cons, sum_by-take-le}
use Rattle.nomos_slots.specs.Cells.{Cell, IsOnce, IsProbed, cell_at, entries, is_of, name_in, with_cell}
use Rattle.nomos_slots.specs.declared.cells.NamedVariable.{NamedVariable}
use Rattle.nomos_slots.proofs.CellLemmas.{cell-set_at, cell-set_other, name-has, one-key, true_or_false, weight}
use Rattle.nomos_slots.proofs.ProbeLemmas.{filled-some, filled-within}

-- no cell has an entry
abbrev pub AreEmpty : List Cell → Type 0
AreEmpty cells = (place : ℕ) → cell_at cells place ≡ None

never : (cells : List Cell) → AreEmpty cells → (place : ℕ) (e : NamedVariable) → cell_at cells place ≡ Some e → ⊥
never cells empty place e is = both_ways _ (ap is_some (empty place)) (filled-some cells place e is)

pub empty-push : (cells : List Cell) → AreEmpty cells → AreEmpty (cells ++ None ∷ [])
empty-push [] empty zero = refl
empty-push [] empty (suc place) = refl
empty-push (c ∷ cells) empty zero = empty 0
empty-push (c ∷ cells) empty (suc place) = empty-push cells (λ i. empty (suc i)) place

pub empty-more : (cells : List Cell) (at : ℕ) → at < length cells
    → ((place : ℕ) → place < at → cell_at cells place ≡ None)
    → (place : ℕ) → place < at + 1 → cell_at (set cells at None) place ≡ None
empty-more cells at within empty place before =
    elim (cases_eq place at) [
      | inl same ↦ ap (cell_at (set cells at None)) same ∙ cell-set_at cells at None within
      | inr apart ↦ cell-set_other cells at place None apart ∙ empty place (omega arith)
    ]

pub empty-whole : (cells : List Cell) (at : ℕ) → length cells ≤ at
    → ((place : ℕ) → place < at → cell_at cells place ≡ None) → AreEmpty cells
empty-whole cells at whole empty place =
    elim (cases_lt place at) [
      | inl l ↦ empty place l
      | inr past ↦ get_or_past cells place None (omega arith)
    ]

pub probed-empty : (homes : ℕ) (cells : List Cell) → AreEmpty cells → IsProbed homes cells
probed-empty homes cells empty = record {
  near = λ place e is. absurd (never cells empty place e is);
  full = λ at place e is from before. absurd (never cells empty place e is);
  once = λ one other e f is has key. absurd (never cells empty one e is);
}

pub names-empty : (cells : List Cell) (p v : ℕ) → AreEmpty cells → name_in cells p v ≡ None
names-empty cells p v empty = at (name_in cells p v) refl
  where
    at : (o : Option ℕ) → name_in cells p v ≡ o → o ≡ None
    at None found = refl
    at (Some n) found =
        let (place, e, is, of, named) = name-has cells p v n found in
        absurd (never cells empty place e is)

pub entries-empty : (cells : List Cell) → AreEmpty cells → entries cells ≡ 0
entries-empty [] empty = refl
entries-empty (c ∷ cells) empty =
    let rest : entries cells ≡ 0 = entries-empty cells (λ i. empty (suc i)) in
    let first : weight c ≡ 0 = ap weight (empty 0) in
    omega (arith, rest, first, sum_by-cons weight c cells)

-- ---- one cell more

pub name-push_none : (cells : List Cell) (p v : ℕ) → name_in (cells ++ None ∷ []) p v ≡ name_in cells p v
name-push_none [] p v = refl
name-push_none (None ∷ cells) p v = name-push_none cells p v
name-push_none (Some f ∷ cells) p v = ap (cond (is_of p v f) (Some f.name)) (name-push_none cells p v)

-- the order of two tests of which one at most passes
either-first : (a b : Bool) (x y z : Option ℕ) → ((a ≡ true) → (b ≡ true) → ⊥)
    → cond a x (cond b y z) ≡ cond b y (cond a x z)
either-first true true x y z not = absurd (not refl refl)
either-first true false x y z not = refl
either-first false b x y z not = refl

pub name-push : (cells : List Cell) (e : NamedVariable) (p v : ℕ)
    → ((place : ℕ) (f : NamedVariable) → cell_at cells place ≡ Some f → is_of e.process e.variable f ≡ false)
    → name_in (cells ++ Some e ∷ []) p v ≡ cond (is_of p v e) (Some e.name) (name_in cells p v)
name-push [] e p v apart = refl
name-push (None ∷ cells) e p v apart = name-push cells e p v (λ place f is. apart (suc place) f is)
name-push (Some f ∷ cells) e p v apart =
    ap (cond (is_of p v f) (Some f.name)) (name-push cells e p v (λ place k is. apart (suc place) k is))
    ∙ either-first (is_of p v f) (is_of p v e) (Some f.name) (Some e.name) (name_in cells p v)
    (λ one other. both_ways _ (apart 0 f refl) (one-key p v e f other one))

-- the cells before a place have other keys than the entry there
pub apart-before : (cells : List Cell) (at : ℕ) (e : NamedVariable) → IsOnce cells → cell_at cells at ≡ Some e
    → (place : ℕ) (f : NamedVariable) → cell_at (take at cells) place ≡ Some f → is_of e.process e.variable f ≡ false
apart-before cells at e once is place f has =
    elim (cases_lt place at) [
      | inl l ↦
          let there : cell_at cells place ≡ Some f = sym (get_or-take at cells place None l) ∙ has in
          elim (true_or_false (is_of e.process e.variable f)) [
            | inl key ↦ let same : at ≡ place = once at place e f is there key in absurd (omega arith)
            | inr not ↦ not
          ]
      | inr past ↦
          let within : place < length (take at cells) = filled-within (take at cells) place
          (filled-some (take at cells) place f has) in
          absurd (omega (arith, within, length-take at cells))
    ]

name-next : (cells : List Cell) (c : Cell) (p v : ℕ)
    → ((e : NamedVariable) → c ≡ Some e → (place : ℕ) (f : NamedVariable) → cell_at cells place ≡ Some f
    → is_of e.process e.variable f ≡ false)
    → name_in (cells ++ c ∷ []) p v ≡ with_cell c p v (name_in cells p v)
name-next cells None p v apart = name-push_none cells p v
name-next cells (Some e) p v apart = name-push cells e p v (apart e refl)

pub names-more : (cells : List Cell) (at p v : ℕ) → IsOnce cells → at < length cells
    → name_in (take (at + 1) cells) p v ≡ with_cell (cell_at cells at) p v (name_in (take at cells) p v)
names-more cells at p v once within =
    ap (λ (cs : List Cell). name_in cs p v) (take_more cells at None within)
    ∙ name-next (take at cells) (cell_at cells at) p v (λ e is. apart-before cells at e once is)

pub entries-more : (cells : List Cell) (at : ℕ) → at < length cells
    → entries (take (at + 1) cells) ≡ entries (take at cells) + entries (cell_at cells at ∷ [])
entries-more cells at within =
    ap entries (take_more cells at None within) ∙ sum_by-append weight (take at cells) (cell_at cells at ∷ [])

pub entries-take : (cells : List Cell) (at : ℕ) → entries (take at cells) ≤ entries cells
entries-take cells at = sum_by-take-le weight cells at
