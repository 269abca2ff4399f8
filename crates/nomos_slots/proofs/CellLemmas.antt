-- How cells change: an entry comes, moves up, and goes.
use Rattle.std.proofs.Common.{◌≡◌, ◌<◌, ◌≤◌, ◌+◌, ◌⊎◌, zero, suc, ℕ, Bool, true, false, cond, List, [], ◌∷◌, Option, Some, None, length, get_or, set, refl, sym, subst, ap, ◌∙◌, inl, inr, arith}
use Rattle.std.specs.Option.{is_some}
use Rattle.std.proofs.lemmas.Bool.{both_ways, cases_eq, cases_lt}
use Rattle.std.proofs.lemmas.List.{get_or-set_same, get_or-set_other, length-set}
use Rattle.std.proofs.lemmas.List.Sums.{sum_by-set}
use Rattle.nomos_slots.specs.Cells.{Cell, IsGap, IsOnce, IsProbed, cell_at, entries, home_of, is_filled, is_of, name_in}
use Rattle.nomos_slots.specs.declared.cells.NamedVariable.{NamedVariable}
use Rattle.nomos_slots.proofs.ProbeLemmas.{filled-some, filled-within, same-process, same-variable}

-- one for an entry, and nothing for an empty cell
abbrev pub weight : Cell → ℕ
weight c = cond (is_some c) 1 0

-- ---- one cell

pub cell-set_at : (cells : List Cell) (at : ℕ) (x : Cell) → at < length cells → cell_at (set cells at x) at ≡ x
cell-set_at cells at x within = get_or-set_same cells at x None within

pub cell-set_other : (cells : List Cell) (at place : ℕ) (x : Cell) → (place ≡ at → ⊥)
    → cell_at (set cells at x) place ≡ cell_at cells place
cell-set_other cells at place x apart = get_or-set_other cells at place x None apart

pub some-within : (cells : List Cell) (place : ℕ) (e : NamedVariable) → cell_at cells place ≡ Some e
    → place < length cells
some-within cells place e is = filled-within cells place (filled-some cells place e is)

-- it has the same entry at a place
pub same-entry : (cells : List Cell) (one other : ℕ) (e f : NamedVariable) → one ≡ other → cell_at cells one ≡ Some e
    → cell_at cells other ≡ Some f → e ≡ f
same-entry cells one other e f same is has = same_Some (sym is ∙ ap (cell_at cells) same ∙ has)
  where
    same_Some : Some e ≡ Some f → e ≡ f
    same_Some h = cc

-- ---- the name of a variable of a process

-- a cell has an entry of it, with this name
abbrev pub Has : List Cell → ℕ → ℕ → ℕ → Type 0
Has cells p v n = (place : ℕ) × (e : NamedVariable) × (cell_at cells place ≡ Some e) × (is_of p v e ≡ true)
    × (e.name ≡ n)

pub true_or_false : (b : Bool) → (b ≡ true) ⊎ (b ≡ false)
true_or_false true = inl refl
true_or_false false = inr refl

name-step : (e : NamedVariable) (cells : List Cell) (p v : ℕ) (b : Bool) → is_of p v e ≡ b
    → name_in (Some e ∷ cells) p v ≡ cond b (Some e.name) (name_in cells p v)
name-step e cells p v b is = ap (λ b. cond b (Some e.name) (name_in cells p v)) is

has-later : (c : Cell) (cells : List Cell) (p v n : ℕ) → Has cells p v n → Has (c ∷ cells) p v n
has-later c cells p v n (place, e, is, of, named) = (suc place, e, is, of, named)

pub name-has : (cells : List Cell) (p v n : ℕ) → name_in cells p v ≡ Some n → Has cells p v n
name-has [] p v n is = absurd (cc)
name-has (None ∷ cells) p v n is = has-later None cells p v n (name-has cells p v n is)
name-has (Some e ∷ cells) p v n is =
    elim (true_or_false (is_of p v e)) [
      | inl here ↦
          let same : Some e.name ≡ Some n = sym (name-step e cells p v true here) ∙ is in
          (0, e, refl, here, cc)
      | inr other ↦
          has-later (Some e) cells p v n (name-has cells p v n (sym (name-step e cells p v false other) ∙ is))
    ]

-- the first cell, or one of the others
first-or_other : (c : Cell) (cells : List Cell) (place : ℕ) (e : NamedVariable) → cell_at (c ∷ cells) place ≡ Some e
    → (c ≡ Some e) ⊎ ((other : ℕ) × (cell_at cells other ≡ Some e))
first-or_other c cells zero e is = inl is
first-or_other c cells (suc place) e is = inr (place, is)

pub none-name : (cells : List Cell) (p v : ℕ) → name_in cells p v ≡ None
    → (place : ℕ) (e : NamedVariable) → cell_at cells place ≡ Some e → is_of p v e ≡ false
none-name [] p v none place e is = absurd (cc)
none-name (None ∷ cells) p v none place e is =
    elim (first-or_other None cells place e is) [
      | inl same ↦ absurd (cc)
      | inr rest ↦ none-name cells p v none rest.0 e rest.1
    ]
none-name (Some f ∷ cells) p v none place e is =
    elim (true_or_false (is_of p v f)) [
      | inl here ↦
          let some : Some f.name ≡ None = sym (name-step f cells p v true here) ∙ none in absurd (cc)
      | inr other ↦
          elim (first-or_other (Some f) cells place e is) [
            | inl same ↦ let k : f ≡ e = cc in subst (λ k. is_of p v k ≡ false) k other
            | inr rest ↦ none-name cells p v (sym (name-step f cells p v false other) ∙ none) rest.0 e rest.1
          ]
    ]

-- two entries of one variable of a process have one key
pub one-key : (p v : ℕ) (e f : NamedVariable) → is_of p v e ≡ true → is_of p v f ≡ true
    → is_of e.process e.variable f ≡ true
one-key p v e f is has =
    subst (λ q. is_of q e.variable f ≡ true) (sym (same-process p v e is))
    (subst (λ w. is_of p w f ≡ true) (sym (same-variable p v e is)) has)

pub has-name : (cells : List Cell) (p v n : ℕ) → IsOnce cells → Has cells p v n → name_in cells p v ≡ Some n
has-name cells p v n once (place, e, is, of, named) = at (name_in cells p v) refl
  where
    at : (o : Option ℕ) → name_in cells p v ≡ o → o ≡ Some n
    at (Some m) found =
        let (other, f, has, key, name) = name-has cells p v m found in
        let same : e ≡ f = same-entry cells place other e f (once place other e f is has (one-key p v e f of key)) is
        has in
        ap Some (sym name ∙ ap (λ (k : NamedVariable). k.name) (sym same) ∙ named)
    at None none = absurd (both_ways _ (none-name cells p v none place e is) of)

-- cells with the same entries have the same names
pub same-names : (before after : List Cell) (p v : ℕ) → IsOnce before → IsOnce after
    → ((n : ℕ) → Has after p v n → Has before p v n) → ((n : ℕ) → Has before p v n → Has after p v n)
    → name_in after p v ≡ name_in before p v
same-names before after p v once again back forth = at (name_in after p v) refl
  where
    none : (o : Option ℕ) → name_in before p v ≡ o → name_in after p v ≡ None → None ≡ o
    none (Some n) found gone =
        let is = has-name after p v n again (forth n (name-has before p v n found)) in absurd (cc)
    none None found gone = refl

    at : (o : Option ℕ) → name_in after p v ≡ o → o ≡ name_in before p v
    at (Some n) found = sym (has-name before p v n once (back n (name-has after p v n found)))
    at None gone = none (name_in before p v) refl gone

-- ---- the gap

module _ (homes : ℕ) (cells : List Cell) (hole next : ℕ) (gap : IsGap homes cells hole next) where
  -- the cell there is empty too: then there is no gap
  pub gap-closed : cell_at cells next ≡ None → IsProbed homes cells
  gap-closed none = record {
    near = gap.near;
    full = λ at place e is from before.
        elim (gap.full at place e is from before) [
          | inl there ↦
              elim (cases_lt place next) [
                | inl within ↦
                    let late : hole < home_of homes e = gap.clear place e (omega arith) within is in
                    absurd (omega arith)
                | inr past ↦
                    elim (cases_eq place next) [
                      | inl same ↦
                          absurd (both_ways _ (ap is_some (ap (cell_at cells) same ∙ none))
                          (filled-some cells place e is))
                      | inr apart ↦
                          let b = gap.before in
                          elim (gap.full next place e is (omega arith) (omega arith)) [
                            | inl same ↦ absurd (omega arith)
                            | inr filled ↦ absurd (both_ways _ (ap is_some none) filled)
                          ]
                    ]
              ]
          | inr filled ↦ filled
        ];
    once = gap.once;
  }

  -- the entry there moves into the gap
  module _ (e : NamedVariable) (is : cell_at cells next ≡ Some e) (early : home_of homes e ≤ hole)
      (within : hole < length cells) where
    abbrev pub moved : List Cell
    moved = set (set cells hole (Some e)) next None

    next-within : next < length cells
    next-within = some-within cells next e is

    at-hole : cell_at moved hole ≡ Some e
    at-hole =
        let b = gap.before in
        cell-set_other (set cells hole (Some e)) next hole None (λ same. absurd (omega arith))
        ∙ cell-set_at cells hole (Some e) within

    at-next : cell_at moved next ≡ None
    at-next = cell-set_at (set cells hole (Some e)) next None (rw length-set next-within)

    elsewhere : (place : ℕ) → (place ≡ hole → ⊥) → (place ≡ next → ⊥) → cell_at moved place ≡ cell_at cells place
    elsewhere place other apart =
        cell-set_other (set cells hole (Some e)) next place None apart ∙ cell-set_other cells hole place (Some e) other

    -- an entry stands where it stood, or it is the one that moved
    from-moved : (place : ℕ) (f : NamedVariable) → cell_at moved place ≡ Some f
        → ((place ≡ hole) × (f ≡ e)) ⊎ ((place ≡ hole → ⊥) × (place ≡ next → ⊥) × (cell_at cells place ≡ Some f))
    from-moved place f has =
        elim (cases_eq place hole) [
          | inl same ↦ inl (same, same-entry moved place hole f e same has at-hole)
          | inr other ↦
              elim (cases_eq place next) [
                | inl same ↦
                    absurd (both_ways _ (ap is_some (ap (cell_at moved) same ∙ at-next))
                    (filled-some moved place f has))
                | inr apart ↦ inr (other, apart, sym (elsewhere place other apart) ∙ has)
              ]
        ]

    still-filled : (at : ℕ) → is_filled cells at ≡ true → (at ≡ next) ⊎ (is_filled moved at ≡ true)
    still-filled at filled =
        elim (cases_eq at next) [
          | inl same ↦ inl same
          | inr apart ↦
              elim (cases_eq at hole) [
                | inl same ↦ inr (ap is_some (ap (cell_at moved) same ∙ at-hole))
                | inr other ↦ inr (ap is_some (elsewhere at other apart) ∙ filled)
              ]
        ]

    still-full : (at place : ℕ) (f : NamedVariable) → cell_at cells place ≡ Some f → home_of homes f ≤ at → at < place
        → (at ≡ next) ⊎ (is_filled moved at ≡ true)
    still-full at place f has from before =
        elim (gap.full at place f has from before) [
          | inl same ↦ inr (ap is_some (ap (cell_at moved) same ∙ at-hole))
          | inr filled ↦ still-filled at filled
        ]

    -- where two entries of one key stood
    place-before : (place : ℕ) (f : NamedVariable) → cell_at moved place ≡ Some f
        → (was : ℕ) × (cell_at cells was ≡ Some f)
        × ((place ≡ hole) × (was ≡ next) ⊎ ((place ≡ was) × (place ≡ hole → ⊥)))
    place-before place f has =
        elim (from-moved place f has) [
          | inl here ↦ (next, is ∙ ap Some (sym here.1), inl (here.0, refl))
          | inr there ↦ (place, there.2, inr (refl, there.0))
        ]

    not-next : (place : ℕ) (f : NamedVariable) → cell_at moved place ≡ Some f → place ≡ next → ⊥
    not-next place f has same =
        both_ways _ (ap is_some (ap (cell_at moved) same ∙ at-next)) (filled-some moved place f has)

    pub once-moved : IsOnce moved
    once-moved one other f k has also key =
        let (w1, is1, from1) = place-before one f has in
        let (w2, is2, from2) = place-before other k also in
        let same : w1 ≡ w2 = gap.once w1 w2 f k is1 is2 key in
        elim from1 [
          | inl h1 ↦ elim from2 [
            | inl h2 ↦ h1.0 ∙ sym h2.0
            | inr t2 ↦ absurd (not-next other k also (t2.0 ∙ sym same ∙ h1.1))
          ]
          | inr t1 ↦ elim from2 [
            | inl h2 ↦ absurd (not-next one f has (t1.0 ∙ same ∙ h2.1))
            | inr t2 ↦ t1.0 ∙ same ∙ sym t2.0
          ]
        ]

    pub gap-moved : IsGap homes moved next (next + 1)
    gap-moved = record {
      before = omega arith;
      empty = at-next;
      near = λ place f has.
          elim (from-moved place f has) [
            | inl here ↦
                let same : home_of homes f ≡ home_of homes e = ap (home_of homes) here.1 in
                let h = here.0 in omega arith
            | inr there ↦ gap.near place f there.2
          ];
      full = λ at place f has from before.
          elim (from-moved place f has) [
            | inl here ↦
                let same : home_of homes f ≡ home_of homes e = ap (home_of homes) here.1 in
                let h = here.0 in
                let b = gap.before in
                still-full at next e is (omega arith) (omega arith)
            | inr there ↦ still-full at place f there.2 from before
          ];
      once = once-moved;
      clear = λ place f from before has. absurd (omega arith);
    }

    has-before : (p v n : ℕ) → Has moved p v n → Has cells p v n
    has-before p v n (place, f, has, of, named) =
        let (was, at, from) = place-before place f has in
        (was, f, at, of, named)

    has-after : (p v n : ℕ) → Has cells p v n → Has moved p v n
    has-after p v n (place, f, has, of, named) =
        elim (cases_eq place next) [
          | inl same ↦
              let k : e ≡ f = same-entry cells next place e f (sym same) is has in
              (hole, f, at-hole ∙ ap Some k, of, named)
          | inr apart ↦
              let other = λ (same : place ≡ hole).
              absurd (both_ways _ (ap is_some (ap (cell_at cells) same ∙ gap.empty)) (filled-some cells place f has)) in
              (place, f, elsewhere place other apart ∙ has, of, named)
        ]

    pub names-moved : (p v : ℕ) → name_in moved p v ≡ name_in cells p v
    names-moved p v = same-names cells moved p v gap.once once-moved (has-before p v) (has-after p v)

    pub entries-moved : entries moved ≡ entries cells
    entries-moved =
        let first = sum_by-set weight cells hole (Some e) None within in
        let second = sum_by-set weight (set cells hole (Some e)) next None None (rw length-set next-within) in
        let b = gap.before in
        let kept : get_or (set cells hole (Some e)) next None ≡ Some e =
        get_or-set_other cells hole next (Some e) None (λ same. absurd (omega arith)) ∙ is in
        let was : weight (get_or (set cells hole (Some e)) next None) ≡ 1 = ap weight kept in
        let none : weight (get_or cells hole None) ≡ 0 = ap weight gap.empty in
        omega (arith, first, second, was, none)
