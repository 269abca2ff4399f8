-- An entry comes into a cell, and one goes out of it.
use Rattle.std.proofs.Common.{◌≡◌, ◌<◌, ◌≤◌, ◌+◌, ◌&&◌, zero, suc, ℕ, true, false, cond, eqb, List, [], ◌∷◌, Option, Some, None, length, get_or, set, refl, sym, subst, ap, ◌∙◌, inl, inr, arith}
use Rattle.std.specs.Option.{is_some}
use Rattle.std.proofs.lemmas.Bool.{both_ways, cases_eq, cond_both, eq-eqb, eqb-true, and_from, and_parts, false_from_ne_true}
use Rattle.std.proofs.lemmas.List.Sums.{sum_by-cons, sum_by-set}
use Rattle.nomos_slots.specs.Cells.{Cell, IsGap, IsProbed, cell_at, entries, home_of, is_filled, is_of, name_in}
use Rattle.nomos_slots.specs.declared.cells.NamedVariable.{NamedVariable}
use Rattle.nomos_slots.proofs.CellLemmas.{cell-set_at, cell-set_other, has-name, name-has, one-key, same-entry, same-names, true_or_false, weight}
use Rattle.nomos_slots.proofs.ProbeLemmas.{filled-some, same-process, same-variable}

-- the other way about
key-back : (e f : NamedVariable) → is_of e.process e.variable f ≡ true → is_of f.process f.variable e ≡ true
key-back e f is =
    and_from _ _ (eq-eqb _ _ (sym (same-process e.process e.variable f is)))
    (eq-eqb _ _ (sym (same-variable e.process e.variable f is)))

-- an entry of this key has the key of the other
of-key : (q w : ℕ) (e f : NamedVariable) → is_of q w e ≡ true → is_of e.process e.variable f ≡ true → is_of q w f ≡ true
of-key q w e f is has =
    subst (λ p. is_of p w f ≡ true) (same-process q w e is)
    (subst (λ v. is_of e.process v f ≡ true) (same-variable q w e is) has)

-- ---- an entry comes

module _ (homes : ℕ) (cells : List Cell) (at : ℕ) (e : NamedVariable) (probed : IsProbed homes cells)
    (within : at < length cells)
    (others : (place : ℕ) (f : NamedVariable) → (place ≡ at → ⊥) → cell_at cells place ≡ Some f
    → is_of e.process e.variable f ≡ false) where
  abbrev pub with_entry : List Cell
  with_entry = set cells at (Some e)

  here : cell_at with_entry at ≡ Some e
  here = cell-set_at cells at (Some e) within

  there : (place : ℕ) → (place ≡ at → ⊥) → cell_at with_entry place ≡ cell_at cells place
  there place apart = cell-set_other cells at place (Some e) apart

  still : (place : ℕ) → is_filled cells place ≡ true → is_filled with_entry place ≡ true
  still place filled =
      elim (cases_eq place at) [
        | inl same ↦ ap is_some (ap (cell_at with_entry) same ∙ here)
        | inr apart ↦ ap is_some (there place apart) ∙ filled
      ]

  pub once-come : (one other : ℕ) (f k : NamedVariable) → cell_at with_entry one ≡ Some f
      → cell_at with_entry other ≡ Some k
      → is_of f.process f.variable k ≡ true → one ≡ other
  once-come one other f k has also key =
      elim (cases_eq one at) [
        | inl first ↦
            elim (cases_eq other at) [
              | inl second ↦ first ∙ sym second
              | inr apart ↦
                  let same : f ≡ e = same-entry with_entry one at f e first has here in
                  let no = others other k apart (sym (there other apart) ∙ also) in
                  absurd (both_ways _ no (subst (λ (x : NamedVariable). is_of x.process x.variable k ≡ true) same key))
            ]
        | inr apart ↦
            elim (cases_eq other at) [
              | inl second ↦
                  let same : k ≡ e = same-entry with_entry other at k e second also here in
                  let no = others one f apart (sym (there one apart) ∙ has) in
                  absurd (both_ways _ no
                  (key-back f e (subst (λ (x : NamedVariable). is_of f.process f.variable x ≡ true) same key)))
              | inr also_apart ↦
                  probed.once one other f k (sym (there one apart) ∙ has) (sym (there other also_apart) ∙ also) key
            ]
      ]

  pub probed-come : home_of homes e ≤ at → ((i : ℕ) → home_of homes e ≤ i → i < at → is_filled cells i ≡ true)
      → IsProbed homes with_entry
  probed-come from filled = record {
    near = λ place f has.
        elim (cases_eq place at) [
          | inl same ↦
              let k : home_of homes f ≡ home_of homes e =
              ap (home_of homes) (same-entry with_entry place at f e same has here) in
              omega arith
          | inr apart ↦ probed.near place f (sym (there place apart) ∙ has)
        ];
    full = λ i place f has after before.
        elim (cases_eq place at) [
          | inl same ↦
              let k : home_of homes f ≡ home_of homes e =
              ap (home_of homes) (same-entry with_entry place at f e same has here) in
              still i (filled i (omega arith) (omega arith))
          | inr apart ↦ still i (probed.full i place f (sym (there place apart) ∙ has) after before)
        ];
    once = once-come;
  }

  -- where the cell was empty, or had the key
  pub names-come : ((f : NamedVariable) → cell_at cells at ≡ Some f → is_of e.process e.variable f ≡ true) → (q w : ℕ)
      → name_in with_entry q w ≡ cond (is_of q w e) (Some e.name) (name_in cells q w)
  names-come was q w =
      elim (true_or_false (is_of q w e)) [
        | inl is ↦
            has-name with_entry q w e.name once-come (at, e, here, is, refl)
            ∙ sym (ap (λ b. cond b (Some e.name) (name_in cells q w)) is)
        | inr not ↦
            same-names cells with_entry q w probed.once once-come
            (λ n has. elim (cases_eq has.0 at) [
              | inl same ↦
                  absurd (both_ways _ not (subst (λ (x : NamedVariable). is_of q w x ≡ true)
                  (same-entry with_entry has.0 at has.1 e same has.2 here) has.3))
              | inr apart ↦ (has.0, has.1, sym (there has.0 apart) ∙ has.2, has.3, has.4)
            ])
            (λ n has. elim (cases_eq has.0 at) [
              | inl same ↦
                  absurd (both_ways _ not (of-key q w has.1 e has.3
                  (key-back e has.1 (was has.1 (ap (cell_at cells) (sym same) ∙ has.2)))))
              | inr apart ↦ (has.0, has.1, there has.0 apart ∙ has.2, has.3, has.4)
            ])
            ∙ sym (ap (λ b. cond b (Some e.name) (name_in cells q w)) not)
      ]

  pub entries-renamed : (f : NamedVariable) → cell_at cells at ≡ Some f → entries with_entry ≡ entries cells
  entries-renamed f some =
      let step = sum_by-set weight cells at (Some e) None within in
      let was : weight (get_or cells at None) ≡ 1 = ap weight some in
      omega (arith, step, was)

-- ---- an entry goes

module _ (homes : ℕ) (cells : List Cell) (at : ℕ) (e : NamedVariable) (probed : IsProbed homes cells)
    (is : cell_at cells at ≡ Some e) (within : at < length cells) where
  abbrev pub without_entry : List Cell
  without_entry = set cells at None

  gone : cell_at without_entry at ≡ None
  gone = cell-set_at cells at None within

  left : (place : ℕ) (f : NamedVariable) → cell_at without_entry place ≡ Some f → (place ≡ at → ⊥)
      × (cell_at cells place ≡ Some f)
  left place f has =
      let apart = λ (same : place ≡ at).
      both_ways _ (ap is_some (ap (cell_at without_entry) same ∙ gone)) (filled-some without_entry place f has) in
      (apart, sym (cell-set_other cells at place None apart) ∙ has)

  pub once-left : (one other : ℕ) (f k : NamedVariable) → cell_at without_entry one ≡ Some f
      → cell_at without_entry other ≡ Some k
      → is_of f.process f.variable k ≡ true → one ≡ other
  once-left one other f k has also key = probed.once one other f k (left one f has).1 (left other k also).1 key

  pub gap-opened : IsGap homes without_entry at (at + 1)
  gap-opened = record {
    before = omega arith;
    empty = gone;
    near = λ place f has. probed.near place f (left place f has).1;
    full = λ i place f has after before.
        elim (cases_eq i at) [
          | inl same ↦ inl same
          | inr apart ↦
              inr (ap is_some (cell-set_other cells at i None apart) ∙ probed.full i place f (left place f has).1 after
              before)
        ];
    once = once-left;
    clear = λ place f from before has. absurd (omega arith);
  }

  pub names-gone : (q w : ℕ) → name_in without_entry q w ≡ cond (is_of q w e) None (name_in cells q w)
  names-gone q w =
      elim (true_or_false (is_of q w e)) [
        | inl key ↦
            none (name_in without_entry q w) refl key ∙ sym (ap (λ b. cond b None (name_in cells q w)) key)
        | inr not ↦
            same-names cells without_entry q w probed.once once-left
            (λ n has. (has.0, has.1, (left has.0 has.1 has.2).1, has.3, has.4))
            (λ n has. elim (cases_eq has.0 at) [
              | inl same ↦
                  absurd (both_ways _ not (subst (λ (x : NamedVariable). is_of q w x ≡ true)
                  (same-entry cells has.0 at has.1 e same has.2 is) has.3))
              | inr apart ↦ (has.0, has.1, cell-set_other cells at has.0 None apart ∙ has.2, has.3, has.4)
            ])
            ∙ sym (ap (λ b. cond b None (name_in cells q w)) not)
      ]
    where
      none : (o : Option ℕ) → name_in without_entry q w ≡ o → is_of q w e ≡ true → o ≡ None
      none None found key = refl
      none (Some n) found key =
          let has = name-has without_entry q w n found in
          let rest = left has.0 has.1 has.2 in
          absurd (rest.0 (sym (probed.once at has.0 e has.1 is rest.1 (one-key q w e has.1 key has.3))))

  pub entries-gone : entries without_entry + 1 ≡ entries cells
  entries-gone =
      let step = sum_by-set weight cells at None None within in
      let was : weight (get_or cells at None) ≡ 1 = ap weight is in
      omega (arith, step, was)

-- the other cells have other keys than one that has this key
pub others-apart : (homes p v at : ℕ) (cells : List Cell) (e : NamedVariable) → IsProbed homes cells
    → cell_at cells at ≡ Some e
    → is_of p v e ≡ true → (place : ℕ) (f : NamedVariable) → (place ≡ at → ⊥) → cell_at cells place ≡ Some f
    → is_of p v f ≡ false
others-apart homes p v at cells e probed is of place f apart has =
    false_from_ne_true (is_of p v f) (λ key. apart (sym (probed.once at place e f is has (one-key p v e f of key))))

-- ---- where all are filled

pub all-filled : (cells : List Cell) (from : ℕ) → ((place : ℕ) → from ≤ place → place < length cells
    → is_filled cells place ≡ true)
    → length cells ≤ from + entries cells
all-filled [] from filled = omega arith
all-filled (None ∷ cells) zero filled = absurd (both_ways _ refl (filled 0 (omega arith) (omega arith)))
all-filled (Some e ∷ cells) zero filled =
    let rest : length cells ≤ 0 + entries cells =
    all-filled cells 0 (λ place after before. filled (suc place) (omega arith) (omega arith)) in
    omega (arith, rest, sum_by-cons weight (Some e) cells)
all-filled (c ∷ cells) (suc from) filled =
    let rest : length cells ≤ from + entries cells =
    all-filled cells from (λ place after before. filled (suc place) (omega arith) (omega arith)) in
    omega (arith, rest, sum_by-cons weight c cells)

-- ---- keys

-- an entry of a key has another key exactly where the two are one
pub key-same : (p v q w : ℕ) (e : NamedVariable) → is_of p v e ≡ true → is_of q w e ≡ (eqb p q && eqb v w)
key-same p v q w e of =
    ap (λ k. eqb k q && eqb e.variable w) (same-process p v e of)
    ∙ ap (λ k. eqb p q && eqb k w) (same-variable p v e of)

-- where no cell has the key, the name of a variable stays though that is unbound
pub none-name_in : (cells : List Cell) (p v q w : ℕ)
    → ((place : ℕ) (e : NamedVariable) → cell_at cells place ≡ Some e → is_of p v e ≡ false)
    → name_in cells q w ≡ cond (eqb p q && eqb v w) None (name_in cells q w)
none-name_in cells p v q w none = at (name_in cells q w) refl
  where
    at : (o : Option ℕ) → name_in cells q w ≡ o → o ≡ cond (eqb p q && eqb v w) None o
    at None found = cond_both (eqb p q && eqb v w) None None (λ (x : Option ℕ). None ≡ x) (λ _. refl) (λ _. refl)
    at (Some n) found =
        cond_both (eqb p q && eqb v w) None (Some n) (λ (x : Option ℕ). Some n ≡ x)
        (λ same.
        let (place, e, is, of, named) = name-has cells q w n found in
        let parts = and_parts _ _ same in
        let key : is_of p v e ≡ true =
        subst (λ k. is_of k v e ≡ true) (sym (eqb-true p q parts.0))
        (subst (λ k. is_of q k e ≡ true) (sym (eqb-true v w parts.1)) of) in
        absurd (both_ways _ (none place e is) key))
        (λ _. refl)

-- where no cell has the key, the variable has no name
pub nothing-named : (cells : List Cell) (p v : ℕ)
    → ((place : ℕ) (e : NamedVariable) → cell_at cells place ≡ Some e → is_of p v e ≡ false) → name_in cells p v ≡ None
nothing-named cells p v none = at (name_in cells p v) refl
  where
    at : (o : Option ℕ) → name_in cells p v ≡ o → o ≡ None
    at None found = refl
    at (Some n) found =
        let (place, e, is, of, named) = name-has cells p v n found in
        absurd (both_ways _ (none place e is) of)
