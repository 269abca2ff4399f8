-- What becomes of all entries of a process.
use Rattle.std.proofs.Common.{◌≡◌, ◌+◌, ◌&&◌, zero, suc, ℕ, Bool, true, false, cond, eqb, eq-eqb, ne_eqb, List, [], ◌∷◌, Option, Some, None, map, refl, sym, subst, ap, ◌∙◌, inl, inr, arith}
use Rattle.std.specs.Option.{option_map, IsSome}
use Rattle.std.proofs.lemmas.Bool.{and_from, both_ways, cases_eq}
use Rattle.std.proofs.lemmas.List.Sums.{sum_by-cons}
use Rattle.nomos_slots.specs.Cells.{Cell, IsOnce, IsProbed, cell_at, entries, home, home_of, is_filled, is_of, name_in}
use Rattle.nomos_slots.specs.Sweeps.{instead_of, renamed_cell}
use Rattle.nomos_slots.specs.declared.cells.NamedVariable.{NamedVariable}
use Rattle.nomos_slots.proofs.CellLemmas.{none-name, true_or_false, weight}
use Rattle.nomos_slots.proofs.EntryLemmas.{nothing-named}
use Rattle.nomos_slots.proofs.ProbeLemmas.{same-process}

-- ---- all entries of a process go

-- where no entry is of the process, its variables have no names
pub nobody-named : (cells : List Cell) (process : ℕ)
    → ((place : ℕ) (e : NamedVariable) → cell_at cells place ≡ Some e → eqb e.process process ≡ false)
    → (p v : ℕ) → process ≡ p → name_in cells p v ≡ None
nobody-named cells process none p v same =
    nothing-named cells p v
    (λ place e is.
    ap (λ b. b && eqb e.variable v) (subst (λ q. eqb e.process q ≡ false) same (none place e is)))

-- an entry of the process that is there names its variable
pub entry-named : (cells : List Cell) (place : ℕ) (e : NamedVariable) (process : ℕ) → cell_at cells place ≡ Some e
    → eqb e.process process ≡ true → IsSome (name_in cells process e.variable)
entry-named cells place e process is of = at (name_in cells process e.variable) refl
  where
    at : (o : Option ℕ) → name_in cells process e.variable ≡ o → IsSome o
    at (Some n) found = refl
    at None none =
        absurd (both_ways _ (none-name cells process e.variable none place e is)
        (and_from _ _ of (eq-eqb e.variable e.variable refl)))

-- ---- entries of a process under another name

module _ (process old new : ℕ) where
  abbrev pub renamed_cells : List Cell → List Cell
  renamed_cells cells = map (renamed_cell process old new) cells

  -- the entry under the other name
  abbrev renamed_entry : Bool → NamedVariable → NamedVariable
  renamed_entry b e = cond b (record e { name = new }) e

  renamed-process : (b : Bool) (e : NamedVariable) → (renamed_entry b e).process ≡ e.process
  renamed-process true e = refl
  renamed-process false e = refl

  renamed-variable : (b : Bool) (e : NamedVariable) → (renamed_entry b e).variable ≡ e.variable
  renamed-variable true e = refl
  renamed-variable false e = refl

  renamed-name : (b : Bool) (e : NamedVariable) → (renamed_entry b e).name ≡ cond b new e.name
  renamed-name true e = refl
  renamed-name false e = refl

  renamed-key : (b : Bool) (e : NamedVariable) (p v : ℕ) → is_of p v (renamed_entry b e) ≡ is_of p v e
  renamed-key true e p v = refl
  renamed-key false e p v = refl

  -- the name of an entry of a process of which this is asked
  name-of : (e : NamedVariable) (p v : ℕ) → is_of p v e ≡ true
      → (renamed_entry (eqb e.process process && eqb e.name old) e).name
      ≡ cond (eqb process p) (instead_of old new e.name) e.name
  name-of e p v is =
      let of = same-process p v e is in
      renamed-name _ e
      ∙ elim (cases_eq process p) [
        | inl same ↦
            ap (λ b. cond (b && eqb e.name old) new e.name) (eq-eqb e.process process (of ∙ sym same))
            ∙ sym (ap (λ b. cond b (instead_of old new e.name) e.name) (eq-eqb process p same))
        | inr apart ↦
            ap (λ b. cond (b && eqb e.name old) new e.name) (ne_eqb e.process process (λ h. apart (sym h ∙ of)))
            ∙ sym (ap (λ b. cond b (instead_of old new e.name) e.name) (ne_eqb process p apart))
      ]

  under : (b : Bool) (n : ℕ) → Some (cond b (instead_of old new n) n)
      ≡ cond b (option_map (instead_of old new) (Some n)) (Some n)
  under true n = refl
  under false n = refl

  none-under : (b : Bool) → None ≡ cond b (option_map (instead_of old new) None) None
  none-under true = refl
  none-under false = refl

  pub names-renamed : (cells : List Cell) (p v : ℕ) → name_in (renamed_cells cells) p v
      ≡ cond (eqb process p) (option_map (instead_of old new) (name_in cells p v)) (name_in cells p v)
  names-renamed [] p v = none-under (eqb process p)
  names-renamed (None ∷ cells) p v = names-renamed cells p v
  names-renamed (Some e ∷ cells) p v =
      let next = renamed_entry (eqb e.process process && eqb e.name old) e in
      let rest = name_in (renamed_cells cells) p v in
      let key = renamed-key (eqb e.process process && eqb e.name old) e p v in
      let told : ℕ → Option ℕ → Option ℕ = λ q o. cond (eqb process q) (option_map (instead_of old new) o) o in
      elim (true_or_false (is_of p v e)) [
        | inl is ↦
            ap (λ b. cond b (Some next.name) rest) (key ∙ is)
            ∙ ap Some (name-of e p v is)
            ∙ under (eqb process p) e.name
            ∙ sym (ap (λ b. told p (cond b (Some e.name) (name_in cells p v))) is)
        | inr not ↦
            ap (λ b. cond b (Some next.name) rest) (key ∙ not)
            ∙ names-renamed cells p v
            ∙ sym (ap (λ b. told p (cond b (Some e.name) (name_in cells p v))) not)
      ]

  -- ---- the cells stay in order

  filled-renamed : (cells : List Cell) (place : ℕ) → is_filled (renamed_cells cells) place ≡ is_filled cells place
  filled-renamed [] place = refl
  filled-renamed (None ∷ cells) zero = refl
  filled-renamed (Some e ∷ cells) zero = refl
  filled-renamed (c ∷ cells) (suc place) = filled-renamed cells place

  -- the entry from which a renamed one comes
  pub record CameFrom (cells : List Cell) (place : ℕ) (e : NamedVariable) : Type 0 where
    pub before : NamedVariable
    pub stood : cell_at cells place ≡ Some before
    pub its_process : before.process ≡ e.process
    pub its_variable : before.variable ≡ e.variable

  came-first : (c : Cell) (cells : List Cell) (e : NamedVariable) → renamed_cell process old new c ≡ Some e
      → CameFrom (c ∷ cells) zero e
  came-first None cells e is = absurd cc
  came-first (Some k) cells e is =
      let b = eqb k.process process && eqb k.name old in
      let same : renamed_entry b k ≡ e = cc in
      record {
        before = k;
        stood = refl;
        its_process = sym (renamed-process b k) ∙ ap (λ (x : NamedVariable). x.process) same;
        its_variable = sym (renamed-variable b k) ∙ ap (λ (x : NamedVariable). x.variable) same;
      }

  came-from : (cells : List Cell) (place : ℕ) (e : NamedVariable) → cell_at (renamed_cells cells) place ≡ Some e
      → CameFrom cells place e
  came-from [] place e is = absurd cc
  came-from (c ∷ cells) zero e is = came-first c cells e is
  came-from (c ∷ cells) (suc place) e is =
      let rest = came-from cells place e is in
      record {
        before = rest.before;
        stood = rest.stood;
        its_process = rest.its_process;
        its_variable =
            rest.its_variable;
      }

  home-from : (homes : ℕ) (cells : List Cell) (place : ℕ) (e : NamedVariable) (from : CameFrom cells place e)
      → home_of homes from.before ≡ home_of homes e
  home-from homes cells place e from =
      ap (λ p. home homes p from.before.variable) from.its_process ∙ ap (λ v. home homes e.process v) from.its_variable

  pub once-renamed : (cells : List Cell) → IsOnce cells → IsOnce (renamed_cells cells)
  once-renamed cells once one other e f has also key =
      let first = came-from cells one e has in
      let second = came-from cells other f also in
      once one other first.before second.before first.stood second.stood
      (ap (λ p. eqb p first.before.process && eqb second.before.variable first.before.variable) second.its_process
      ∙ ap (λ p. eqb f.process p && eqb second.before.variable first.before.variable) first.its_process
      ∙ ap (λ v. eqb f.process e.process && eqb v first.before.variable) second.its_variable
      ∙ ap (λ v. eqb f.process e.process && eqb f.variable v) first.its_variable
      ∙ key)

  pub probed-renamed : (homes : ℕ) (cells : List Cell) → IsProbed homes cells → IsProbed homes (renamed_cells cells)
  probed-renamed homes cells probed = record {
    near = λ place e has.
        let from = came-from cells place e has in
        let near = probed.near place from.before from.stood in
        omega (arith, near, home-from homes cells place e from);
    full = λ at place e has after before.
        let from = came-from cells place e has in
        filled-renamed cells at
        ∙ probed.full at place from.before from.stood (omega (arith, home-from homes cells place e from)) before;
    once = once-renamed cells probed.once;
  }

  weight-renamed : (c : Cell) → weight (renamed_cell process old new c) ≡ weight c
  weight-renamed None = refl
  weight-renamed (Some e) = refl

  pub entries-renamed_cells : (cells : List Cell) → entries (renamed_cells cells) ≡ entries cells
  entries-renamed_cells [] = refl
  entries-renamed_cells (c ∷ cells) =
      sum_by-cons weight (renamed_cell process old new c) (renamed_cells cells)
      ∙ ap (λ n. n + entries (renamed_cells cells)) (weight-renamed c)
      ∙ ap (λ n. weight c + n) (entries-renamed_cells cells)
      ∙ sym (sum_by-cons weight c cells)
