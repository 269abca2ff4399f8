-- What becomes of the names of a process, one variable of its span after the other.
use Rattle.std.proofs.Common.{◌≡◌, ◌≢◌, ◌≤◌, ◌<◌, ◌+◌, ◌∙◌, ◌&&◌, ◌⊎◌, ℕ, Bool, true, false, cond, eqb, eq-eqb, ne_eqb, List, drop, IsSome, Option, Some, None, refl, sym, ap, subst, inl, inr, arith}
use Rattle.std.proofs.lemmas.Bool.{and_from, both_ways, cases_eq, cases_lt}
use Rattle.std.specs.Option.{is_some}
use Rattle.nomos_ir.specs.Bindings.{bound_to}
use Rattle.nomos_ir.specs.declared.ids.VarId.{VarId}
use Rattle.nomos_slots.specs.Cells.{Cell, name_in}
use Rattle.nomos_state.specs.Spanning.{HasVariable}
use Rattle.nomos_state.specs.declared.span.Span.{Span}

-- the names of variables below this one are done, and all others are as they were
pub record IsDoneBelow (f : Option ℕ → Option ℕ) (process : ℕ) (before : List Cell) (variable : ℕ) (after : List Cell)
    : Type 0 where
  pub others : (p v : ℕ) → process ≢ p → name_in after p v ≡ name_in before p v
  pub done : (v : ℕ) → v < variable → name_in after process v ≡ f (name_in before process v)
  pub later : (v : ℕ) → variable ≤ v → name_in after process v ≡ name_in before process v

no-other : (a b : Bool) → b ≡ false → (a && b) ≡ false
no-other true b not = not
no-other false b not = refl

pub none_of : (o : Option ℕ) → (IsSome o → ⊥) → o ≡ None
none_of None not = refl
none_of (Some n) not = absurd (not refl)

-- there is nothing, where what there is would be nothing
pub none-by : (o : Option ℕ) → (IsSome o → o ≡ None) → o ≡ None
none-by None gone = refl
none-by (Some n) gone = gone refl

module _ (f : Option ℕ → Option ℕ) (none : f None ≡ None) (process : ℕ) (before : List Cell) where
  -- all names of the process are done
  abbrev pub AreDone : List Cell → Type 0
  AreDone after =
      (p v : ℕ) → name_in after p v ≡ cond (eqb process p) (f (name_in before p v)) (name_in before p v)

  -- a variable without a name is done
  nothing-done : (v : ℕ) → (IsSome (name_in before process v) → ⊥)
      → name_in before process v ≡ f (name_in before process v)
  nothing-done v not =
      let gone = none_of (name_in before process v) not in
      gone ∙ sym none ∙ ap f (sym gone)

  by-process : (after : List Cell) → ((p v : ℕ) → process ≢ p → name_in after p v ≡ name_in before p v)
      → ((v : ℕ) → name_in after process v ≡ f (name_in before process v)) → AreDone after
  by-process after others own p v =
      let done : Bool → Option ℕ = λ b. cond b (f (name_in before p v)) (name_in before p v) in
      elim (cases_eq process p) [
        | inl same ↦
            ap (λ q. name_in after q v) (sym same)
            ∙ own v
            ∙ ap (λ q. f (name_in before q v)) same
            ∙ sym (ap done (eq-eqb process p same))
        | inr other ↦ others p v other ∙ sym (ap done (ne_eqb process p other))
      ]

  module _ (span : Span) (spans : (v : ℕ) → IsSome (name_in before process v) → HasVariable (Some span) v) where
    pub done-start : IsDoneBelow f process before span.low before
    done-start = record {
      others = λ p v other. refl;
      done = λ v below.
          nothing-done v (λ some. let from : span.low ≤ v = (spans v some).0 in absurd (omega arith));
      later = λ v from. refl;
    }

    pub done-all : (variable : ℕ) (after : List Cell) → span.high < variable
        → IsDoneBelow f process before variable after → AreDone after
    done-all variable after past is =
        by-process after is.others
        (λ v. elim (cases_lt v variable) [
          | inl below ↦ is.done v below
          | inr from ↦
              is.later v from
              ∙ nothing-done v (λ some. let to : v ≤ span.high = (spans v some).1 in absurd (omega arith))
        ])

    -- one variable more is done
    module _ (variable : ℕ) (now after : List Cell) (is : IsDoneBelow f process before variable now)
        (names : (p v : ℕ) → name_in after p v
        ≡ cond (eqb process p && eqb variable v) (f (name_in now p v)) (name_in now p v)) where
      done-other : (p v : ℕ) → process ≢ p → name_in after p v ≡ name_in now p v
      done-other p v other =
          names p v
          ∙ ap (λ b. cond (b && eqb variable v) (f (name_in now p v)) (name_in now p v)) (ne_eqb process p other)

      done-elsewhere : (v : ℕ) → variable ≢ v → name_in after process v ≡ name_in now process v
      done-elsewhere v other =
          names process v
          ∙ ap (λ b. cond b (f (name_in now process v)) (name_in now process v))
          (no-other (eqb process process) (eqb variable v) (ne_eqb variable v other))

      done-here : name_in after process variable ≡ f (name_in before process variable)
      done-here =
          names process variable
          ∙ ap (λ b. cond b (f (name_in now process variable)) (name_in now process variable))
          (and_from (eqb process process) (eqb variable variable) (eq-eqb process process refl)
          (eq-eqb variable variable refl))
          ∙ ap f (is.later variable (omega arith))

      later-same : (v : ℕ) → variable < v → name_in after process v ≡ name_in before process v
      later-same v over =
          let other : variable ≢ v = omega arith in
          done-elsewhere v other ∙ is.later v (omega arith)

      -- and with it those up to the next one that may have a name
      pub done-next : (next : ℕ) → variable + 1 ≤ next
          → ((v : ℕ) → variable + 1 ≤ v → v < next → HasVariable (Some span) v → name_in after process v ≡ None)
          → IsDoneBelow f process before next after
      done-next next over none = record {
        others = λ p v other. done-other p v other ∙ is.others p v other;
        done = λ v below.
            elim (cases_lt v variable) [
              | inl done ↦ let other : variable ≢ v = omega arith in done-elsewhere v other ∙ is.done v done
              | inr from ↦
                  elim (cases_eq variable v) [
                    | inl same ↦
                        subst (λ w. name_in after process w ≡ f (name_in before process w)) same done-here
                    | inr apart ↦
                        let past : variable < v = omega arith in
                        later-same v past
                        ∙ nothing-done v
                        (λ some.
                        let gone = none v (omega arith) below (spans v some) in
                        both_ways _ (ap is_some (sym (later-same v past) ∙ gone)) some)
                  ]
            ];
        later = λ v from. later-same v (omega arith);
      }

-- a variable is bound beside others
pub bound-spans : (before after : List Cell) (pid v name : ℕ) (span : Option Span) (next : Span)
    → ((w : ℕ) → name_in after pid w ≡ cond (eqb pid pid && eqb v w) (Some name) (name_in before pid w))
    → ((w : ℕ) → IsSome (name_in before pid w) → HasVariable span w)
    → ((w : ℕ) → HasVariable span w → HasVariable (Some next) w) → HasVariable (Some next) v
    → (w : ℕ) → IsSome (name_in after pid w) → HasVariable (Some next) w
bound-spans before after pid v name span next names spans more own w some =
    elim (cases_eq v w) [
      | inl same ↦ subst (HasVariable (Some next)) same own
      | inr other ↦
          let was : name_in after pid w ≡ name_in before pid w =
          names w
          ∙ ap (λ b. cond b (Some name) (name_in before pid w)) (no-other (eqb pid pid) (eqb v w) (ne_eqb v w other)) in
          more w (spans w (subst (λ (o : Option ℕ). IsSome o) was some))
    ]

-- one is bound no more
pub unbound-fewer : (before after : List Cell) (pid v : ℕ)
    → ((w : ℕ) → name_in after pid w ≡ cond (eqb pid pid && eqb v w) None (name_in before pid w))
    → (w : ℕ) → IsSome (name_in after pid w) → IsSome (name_in before pid w)
unbound-fewer before after pid v names w some =
    elim (cases_eq v w) [
      | inl same ↦
          let gone : name_in after pid w ≡ None =
          names w
          ∙ ap (λ b. cond b None (name_in before pid w))
          (and_from (eqb pid pid) (eqb v w) (eq-eqb pid pid refl) (eq-eqb v w same)) in
          absurd (both_ways _ (ap is_some gone) some)
      | inr other ↦
          let was : name_in after pid w ≡ name_in before pid w =
          names w
          ∙ ap (λ b. cond b None (name_in before pid w)) (no-other (eqb pid pid) (eqb v w) (ne_eqb v w other)) in
          subst (λ (o : Option ℕ). IsSome o) was some
    ]

-- of the variables of pairs, those before this place are in the span
abbrev pub AreSpanned : List (VarId × ℕ) → ℕ → Option Span → Type 0
AreSpanned pairs at span =
    (v : ℕ) → IsSome (bound_to v pairs) → HasVariable span v ⊎ IsSome (bound_to v (drop at pairs))
