-- What tallies say where one of them becomes another.
use Rattle.std.proofs.Common.{◌≡◌, ◌≢◌, ◌∙◌, ℕ, ◌+◌, List, [], ◌∷◌, ◌++◌, ◌<◌, All, Contains, false, ◌≤◌, Some, None, refl, sym, ap, arith, inl, inr, ne_eqb, subst}
use Rattle.std.proofs.lemmas.Bool.{cases_eq}
use Rattle.std.proofs.lemmas.List.Elements.{All-cons, All-head, All-nil, All-tail}
use Rattle.std.specs.List.{slice_get}
use Rattle.nomos_ir.specs.Order.{count_of}
use Rattle.nomos_types.proofs.OccurrenceLaws.{count-elsewhere, count-here}
use Rattle.nomos_slots.specs.Numbers.{IsAscending, numbers, put_at}
use Rattle.nomos_slots.specs.declared.numbered.Slot.{Slot}
use Rattle.nomos_slots.proofs.NumberLaws.{found-at, found-none, found-push, found-push_other, found-put_at, found-put_at_other}
use Rattle.nomos_state.specs.Suspecting.{IsIdle, KeepsSuspects, Suspicion}
use Rattle.nomos_state.specs.Tallying.{counted, counted_in, one_if, only, tallied}
use Rattle.nomos_state.specs.declared.tally.NameUse.{NameUse}
use Rattle.nomos_state.specs.declared.tally.NameUse.TheVariants as doing
use Rattle.nomos_state.specs.declared.tally.Tally.{Tally}

-- the name is counted once where both are the same
one-counted : (a d : NameUse) (name : ℕ) → count_of name (only a (name ∷ []) d) ≡ one_if a d
one-counted doing.Provides doing.Provides name = count-here name name [] refl
one-counted doing.Uses doing.Uses name = count-here name name [] refl
one-counted doing.Bases doing.Bases name = count-here name name [] refl
one-counted doing.Provides doing.Uses name = refl
one-counted doing.Provides doing.Bases name = refl
one-counted doing.Uses doing.Provides name = refl
one-counted doing.Uses doing.Bases name = refl
one-counted doing.Bases doing.Provides name = refl
one-counted doing.Bases doing.Uses name = refl

-- another name is not
other-counted : (a d : NameUse) (name n : ℕ) → name ≢ n → count_of n (only a (name ∷ []) d) ≡ 0
other-counted doing.Provides doing.Provides name n other = count-elsewhere n name [] (ne_eqb name n other)
other-counted doing.Uses doing.Uses name n other = count-elsewhere n name [] (ne_eqb name n other)
other-counted doing.Bases doing.Bases name n other = count-elsewhere n name [] (ne_eqb name n other)
other-counted doing.Provides doing.Uses name n other = refl
other-counted doing.Provides doing.Bases name n other = refl
other-counted doing.Uses doing.Provides name n other = refl
other-counted doing.Uses doing.Bases name n other = refl
other-counted doing.Bases doing.Provides name n other = refl
other-counted doing.Bases doing.Uses name n other = refl

module _ (tallies : List (Slot Tally)) (ascending : IsAscending tallies) (place name : ℕ) (t next : Tally)
    (at : slice_get tallies place ≡ Some (record { number = name; item = Some t })) where
  abbrev pub changed : List (Slot Tally)
  changed = put_at tallies place (Some next)

  -- what is said of the name is what the tally says, before and afterwards
  own-before : (d : NameUse) → tallied tallies d name ≡ counted d t
  own-before d = ap (counted_in d) (found-at tallies place _ ascending at)

  own-after : (d : NameUse) → tallied changed d name ≡ counted d next
  own-after d = ap (counted_in d) (found-put_at tallies place _ (Some next) ascending at)

  other-after : (d : NameUse) (n : ℕ) → name ≢ n → tallied changed d n ≡ tallied tallies d n
  other-after d n other = ap (counted_in d) (found-put_at_other tallies place n _ (Some next) at other)

  -- once more with the name, where the tally says so
  pub more-counted : (a : NameUse) → ((d : NameUse) → counted d next ≡ counted d t + one_if a d) → (d : NameUse) (n : ℕ)
      → tallied changed d n ≡ tallied tallies d n + count_of n (only a (name ∷ []) d)
  more-counted a is d n =
      elim (cases_eq name n) [
        | inl same ↦
            subst (λ (m : ℕ). tallied changed d m ≡ tallied tallies d m + count_of m (only a (name ∷ []) d)) same
            (omega (arith, own-before d, own-after d, is d, one-counted a d name))
        | inr other ↦ omega (arith, other-after d n other, other-counted a d name n other)
      ]

  -- once less
  pub less-counted : (a : NameUse) → ((d : NameUse) → counted d next + one_if a d ≡ counted d t) → (d : NameUse) (n : ℕ)
      → tallied changed d n + count_of n (only a (name ∷ []) d) ≡ tallied tallies d n
  less-counted a is d n =
      elim (cases_eq name n) [
        | inl same ↦
            subst (λ (m : ℕ). tallied changed d m + count_of m (only a (name ∷ []) d) ≡ tallied tallies d m) same
            (omega (arith, own-before d, own-after d, is d, one-counted a d name))
        | inr other ↦ omega (arith, other-after d n other, other-counted a d name n other)
      ]

  -- whoever was a suspect, if nothing was done with it, is one still, where this name is one as soon as its tally says
  -- so
  pub less-suspects : (was is : Suspicion) → (is.lost ≡ false → was.lost ≡ false)
      → (is.lost ≡ false → (n : ℕ) → Contains was.names n → Contains is.names n)
      → (is.lost ≡ false → ((d : NameUse) → counted d next ≡ 0) → Contains is.names name)
      → KeepsSuspects tallies changed was is
  less-suspects was is lost kept suspected known = (
    lost known,
    λ n if_idle idle.
        elim (cases_eq name n) [
          | inl same ↦
              subst (Contains is.names) same
              (suspected known (λ d. sym (own-after d) ∙ subst (λ (m : ℕ). tallied changed d m ≡ 0) (sym same)
              (idle d)))
          | inr other ↦ kept known n (if_idle (λ d. sym (other-after d n other) ∙ idle d))
        ],
  )

  -- where nothing is done with the name its tally may go
  pub gone-counted : IsIdle tallies name → (d : NameUse) (n : ℕ)
      → tallied (put_at tallies place None) d n ≡ tallied tallies d n
  gone-counted idle d n =
      elim (cases_eq name n) [
        | inl same ↦
            subst (λ (m : ℕ). tallied (put_at tallies place None) d m ≡ tallied tallies d m) same
            (ap (counted_in d) (found-put_at tallies place _ None ascending at) ∙ sym (idle d))
        | inr other ↦ ap (counted_in d) (found-put_at_other tallies place n _ None at other)
      ]

-- where nothing is done less with any name, and no suspects are lost, all stay suspects
pub more-suspects : (before after : List (Slot Tally)) (was is : Suspicion)
    → ((d : NameUse) (n : ℕ) → tallied before d n ≤ tallied after d n)
    → (is.lost ≡ false → was.lost ≡ false)
    → (is.lost ≡ false → (n : ℕ) → Contains was.names n → Contains is.names n) → KeepsSuspects before after was is
more-suspects before after was is grows lost kept known =
    (lost known, λ n if_idle idle. kept known n (if_idle (λ d. omega (arith, grows d n, idle d))))

-- one change after another keeps suspects
pub suspects-both : (first second third : List (Slot Tally)) (a b c : Suspicion) → KeepsSuspects first second a b
    → KeepsSuspects second third b c → KeepsSuspects first third a c
suspects-both first second third a b c one other known =
    let (still, then) = other known in
    let (was, before) = one still in
    (was, λ n if_idle. then n (before n if_idle))

-- all numbers are below, so none is this one
below-other : (n : ℕ) (numbers : List ℕ) → All (λ m. m < n) numbers → All (λ m. m ≢ n) numbers
below-other n [] below = All-nil (λ m. m ≢ n)
below-other n (m ∷ numbers) below =
    let lower : m < n = All-head (λ k. k < n) m numbers below in
    All-cons (λ k. k ≢ n) m numbers (λ same. absurd (omega arith))
    (below-other n numbers (All-tail (λ k. k < n) m numbers below))

-- a tally by which nothing is done may come above all others
pub come-counted : (tallies : List (Slot Tally)) (name : ℕ) (t : Tally) → All (λ n. n < name) (numbers tallies)
    → ((d : NameUse) → counted d t ≡ 0) → (d : NameUse) (n : ℕ)
    → tallied (tallies ++ (record { number = name; item = Some t }) ∷ []) d n ≡ tallied tallies d n
come-counted tallies name t below none d n =
    elim (cases_eq name n) [
      | inl same ↦
          subst (λ (m : ℕ). tallied (tallies ++ (record { number = name; item = Some t }) ∷ []) d m ≡ tallied tallies d
          m)
          same
          (ap (counted_in d) (found-push tallies (record { number = name; item = Some t }) below)
          ∙ none d
          ∙ sym (ap (counted_in d) (found-none tallies name (below-other name (numbers tallies) below))))
      | inr other ↦ ap (counted_in d) (found-push_other tallies (record { number = name; item = Some t }) n other)
    ]
