-- What a small change of objects does to how often names are provided, used and bases.
use Rattle.std.proofs.Common.{◌≡◌, ◌∙◌, ◌≤◌, inl, inr, ℕ, ◌+◌, Bool, true, false, cond, List, [], ◌∷◌, ◌++◌, map, find, Contains, Option, Some, None, refl, sym, ap, subst, arith, ne_eqb}
use Rattle.std.proofs.lemmas.Bool.{cases_eq}
use Rattle.std.proofs.lemmas.List.Elements.{Contains-append_cases}
use Rattle.std.proofs.lemmas.List.Sums.{sum_by-append, sum_by-cons}
use Rattle.std.specs.Option.{option_to_list}
use Rattle.nomos_ir.specs.Bindings.{IsAscending, bound_to}
use Rattle.nomos_ir.specs.Order.{count_of}
use Rattle.nomos_ir.specs.declared.ids.VarId.{VarId}
use Rattle.nomos_ir.proofs.SumLaws.{count-after_bind, count-after_unbind}
use Rattle.nomos_machine.specs.Change.{put_at}
use Rattle.nomos_machine.specs.Objects.{object_at, object_number, times}
use Rattle.nomos_machine.specs.declared.object.Object.{Object}
use Rattle.nomos_machine.specs.declared.object.Object.TheVariants as object
use Rattle.nomos_machine.specs.declared.object.Process.{Process}
use Rattle.nomos_machine.specs.Revised.{renamed, uses_instead, with_channel, without_channel}
use Rattle.nomos_machine.proofs.NameLaws.{times-one}
use Rattle.nomos_machine.proofs.PutLaws.{contains-one, put-weight}
use Rattle.nomos_machine.proofs.RenameLaws.{instead-based, instead-provides, instead-uses, renamed-gone, renamed-itself, renamed-new, renamed-third}
use Rattle.nomos_types.proofs.OccurrenceLaws.{count-elsewhere, count-here}
use Rattle.nomos_slots.specs.declared.numbered.Slot.{Slot}
use Rattle.nomos_state.specs.Tallying.{AreRight, Shifts, channels_used, names_of, nothing, only}
use Rattle.nomos_state.specs.declared.tally.NameUse.{NameUse}
use Rattle.nomos_state.specs.declared.tally.NameUse.TheVariants as doing
use Rattle.nomos_state.specs.declared.tally.Tally.{Tally}

-- What becomes of the names of an object: these fewer, and these more, where another object comes, or none.
abbrev pub Exchanges : Object → Option Object → (NameUse → List ℕ) → (NameUse → List ℕ) → Type 0
Exchanges o new less more = (d : NameUse) (name : ℕ)
    → times (names_of d) (option_to_list new) name + count_of name (less d)
    ≡ count_of name (names_of d o) + count_of name (more d)

-- what a process does with names by its plain fields
abbrev pub fields_of : Process → NameUse → List ℕ
fields_of p doing.Provides = p.offers ∷ []
fields_of p doing.Uses = []
fields_of p doing.Bases = option_to_list p.base

-- ---- the objects as a whole

module _ (before after : List (Slot Tally)) (objects : List Object) (right : AreRight before objects) where
  -- another object stands at a number, or none
  pub right-put : (o : Object) (new : Option Object) (less more : NameUse → List ℕ)
      → object_at objects (object_number o) ≡ Some o → Exchanges o new less more → Shifts before after less more
      → AreRight after (put_at (object_number o) new objects)
  right-put o new less more found exchanges shifts d name =
      omega (
        arith,
        put-weight (λ (e : Object). count_of name (names_of d e)) new o objects found,
        exchanges d name,
        shifts d name,
        right d name,
      )

  -- an object comes
  pub right-come : (o : Object) → Shifts before after nothing (λ d. names_of d o) → AreRight after (objects ++ o ∷ [])
  right-come o shifts d name =
      omega (
        arith,
        sum_by-append (λ (e : Object). count_of name (names_of d e)) objects (o ∷ []),
        sum_by-cons (λ (e : Object). count_of name (names_of d e)) o [],
        shifts d name,
        right d name,
      )

-- ---- one object

one-of : (d : NameUse) (o : Object) (name : ℕ) → times (names_of d) (o ∷ []) name ≡ count_of name (names_of d o)
one-of d o name = omega (arith, sum_by-cons (λ (e : Object). count_of name (names_of d e)) o [])

-- it leaves
pub leaving-exchanges : (o : Object) → Exchanges o None (λ d. names_of d o) nothing
leaving-exchanges o d name = omega arith

-- an object in the place of another, of which the two lists say what is done less and more
one-exchanges : (o q : Object) (less more : NameUse → List ℕ)
    → ((d : NameUse) (name : ℕ) → count_of name (names_of d q) + count_of name (less d)
    ≡ count_of name (names_of d o) + count_of name (more d))
    → Exchanges o (Some q) less more
one-exchanges o q less more each d name = omega (arith, one-of d q name, each d name)

-- other plain fields of a process
pub fields-exchanges : (p q : Process) → q.channels ≡ p.channels
    → Exchanges (object.Process p) (Some (object.Process q)) (fields_of p) (fields_of q)
fields-exchanges p q same = one-exchanges (object.Process p) (object.Process q) (fields_of p) (fields_of q) each
  where
    each : (d : NameUse) (name : ℕ)
        → count_of name (names_of d (object.Process q)) + count_of name (fields_of p d)
        ≡ count_of name (names_of d (object.Process p)) + count_of name (fields_of q d)
    each doing.Provides name = omega arith
    each doing.Uses name = omega (arith, ap (λ (cs : List (VarId × ℕ)). count_of name (map (λ e. e.1) cs)) same)
    each doing.Bases name = omega arith

-- a process has a channel more, and the name that the variable had is gone
pub binding-exchanges : (p : Process) (v : VarId) (k : ℕ) → IsAscending p.channels
    → Exchanges (object.Process p) (Some (object.Process (with_channel v k p)))
    (only doing.Uses (option_to_list (bound_to v.0 p.channels))) (only doing.Uses (k ∷ []))
binding-exchanges p v k ascending =
    one-exchanges (object.Process p) (object.Process (with_channel v k p))
    (only doing.Uses (option_to_list (bound_to v.0 p.channels))) (only doing.Uses (k ∷ [])) each
  where
    each : (d : NameUse) (name : ℕ)
        → count_of name (names_of d (object.Process (with_channel v k p)))
        + count_of name (only doing.Uses (option_to_list (bound_to v.0 p.channels)) d)
        ≡ count_of name (names_of d (object.Process p)) + count_of name (only doing.Uses (k ∷ []) d)
    each doing.Provides name = refl
    each doing.Uses name = count-after_bind name v k p.channels ascending
    each doing.Bases name = refl

-- a channel is gone
pub unbinding-exchanges : (p : Process) (v : VarId)
    → Exchanges (object.Process p) (Some (object.Process (without_channel v p)))
    (only doing.Uses (option_to_list (bound_to v.0 p.channels))) (only doing.Uses [])
unbinding-exchanges p v =
    one-exchanges (object.Process p) (object.Process (without_channel v p))
    (only doing.Uses (option_to_list (bound_to v.0 p.channels))) (only doing.Uses []) each
  where
    each : (d : NameUse) (name : ℕ)
        → count_of name (names_of d (object.Process (without_channel v p)))
        + count_of name (only doing.Uses (option_to_list (bound_to v.0 p.channels)) d)
        ≡ count_of name (names_of d (object.Process p)) + count_of name (only doing.Uses [] d)
    each doing.Provides name = refl
    each doing.Uses name = omega (arith, count-after_unbind name v.0 p.channels)
    each doing.Bases name = refl

-- all channels of a process, one way or another
pub channels-exchanges : (p q : Process) → q.offers ≡ p.offers → q.base ≡ p.base
    → Exchanges (object.Process p) (Some (object.Process q)) (channels_used p) (channels_used q)
channels-exchanges p q offers base =
    one-exchanges (object.Process p) (object.Process q) (channels_used p) (channels_used q) each
  where
    each : (d : NameUse) (name : ℕ)
        → count_of name (names_of d (object.Process q)) + count_of name (channels_used p d)
        ≡ count_of name (names_of d (object.Process p)) + count_of name (channels_used q d)
    each doing.Provides name = ap (λ (n : ℕ). count_of name (n ∷ []) + 0) offers
    each doing.Uses name = omega arith
    each doing.Bases name = ap (λ (o : Option ℕ). count_of name (option_to_list o) + 0) base

-- ---- one name instead of another

-- a name that occurs once gives way to the new one
renamed-once : (old new : ℕ) (names : List ℕ) → count_of old names ≡ 1 → (k : ℕ)
    → count_of k (map (renamed old new) names) + count_of k (old ∷ []) ≡ count_of k names + count_of k (new ∷ [])
renamed-once old new names once k =
    elim (cases_eq new old) [
      | inl same ↦
          let is = ap (count_of k) (renamed-itself old new same names) in
          let one = ap (λ (n : ℕ). count_of k (n ∷ [])) same in
          omega arith
      | inr apart ↦
          elim (cases_eq k old) [
            | inl at_old ↦
                subst (λ (n : ℕ). count_of n (map (renamed old new) names) + count_of n (old ∷ [])
                ≡ count_of n names + count_of n (new ∷ [])) (sym at_old)
                (omega (
                  arith,
                  renamed-gone old new names apart,
                  count-here old old [] refl,
                  count-elsewhere old new [] (ne_eqb new old apart),
                ))
            | inr not_old ↦
                elim (cases_eq k new) [
                  | inl at_new ↦
                      subst (λ (n : ℕ). count_of n (map (renamed old new) names) + count_of n (old ∷ [])
                      ≡ count_of n names + count_of n (new ∷ [])) (sym at_new)
                      (omega (
                        arith,
                        renamed-new old new names apart,
                        count-here new new [] refl,
                        count-elsewhere new old [] (ne_eqb old new (λ same. apart (sym same))),
                      ))
                  | inr not_new ↦
                      omega (
                        arith,
                        renamed-third old new k names not_old not_new,
                        count-elsewhere k old [] (ne_eqb old k (λ same. not_old (sym same))),
                        count-elsewhere k new [] (ne_eqb new k (λ same. not_new (sym same))),
                      )
                ]
          ]
    ]

-- an object that uses the old name once uses the new one instead
pub instead-exchanges : (old new : ℕ) (o : Object) → count_of old (names_of doing.Uses o) ≡ 1
    → Exchanges o (Some (uses_instead old new o)) (only doing.Uses (old ∷ [])) (only doing.Uses (new ∷ []))
instead-exchanges old new o once =
    one-exchanges o (uses_instead old new o) (only doing.Uses (old ∷ [])) (only doing.Uses (new ∷ [])) each
  where
    each : (d : NameUse) (name : ℕ)
        → count_of name (names_of d (uses_instead old new o)) + count_of name (only doing.Uses (old ∷ []) d)
        ≡ count_of name (names_of d o) + count_of name (only doing.Uses (new ∷ []) d)
    each doing.Provides name = ap (λ (ns : List ℕ). count_of name ns + 0) (instead-provides old new o)
    each doing.Uses name =
        ap (λ (ns : List ℕ). count_of name ns + count_of name (old ∷ [])) (instead-uses old new o)
        ∙ renamed-once old new (names_of doing.Uses o) once name
    each doing.Bases name = ap (λ (ns : List ℕ). count_of name ns + 0) (instead-based old new o)

-- ---- what is found first, where it is told by how often something is done

module _ (names : Object → List ℕ) (name : ℕ) (test : Object → Bool)
    (does : (o : Object) → test o ≡ true → 1 ≤ count_of name (names o)) where
  none-first : (e : Object) (objects : List Object) (t : Bool) → test e ≡ t
      → times names (e ∷ objects) name ≡ 0
      → (times names objects name ≡ 0 → find test objects ≡ None)
      → cond t (Some e) (find test objects) ≡ None
  none-first e objects true passes none rest =
      absurd (omega (arith, does e passes, sum_by-cons (λ (o : Object). count_of name (names o)) e objects))
  none-first e objects false passes none rest =
      rest (omega (arith, sum_by-cons (λ (o : Object). count_of name (names o)) e objects))

  -- where it is done no time, none passes
  pub find-none : (objects : List Object) → times names objects name ≡ 0 → find test objects ≡ None
  find-none [] none = refl
  find-none (e ∷ objects) none = none-first e objects (test e) refl none (find-none objects)

  -- where it is done once, and this object does it, this one is found or none
  pub find-one : (o : Object) (objects : List Object) → times names objects name ≡ 1 → Contains objects o
      → 1 ≤ count_of name (names o) → find test objects ≡ cond (test o) (Some o) None
  find-one o [] one there it = absurd (omega (arith, there.1))
  find-one o (e ∷ objects) one there it =
      let sum = sum_by-cons (λ (q : Object). count_of name (names q)) e objects in
      elim (Contains-append_cases (e ∷ []) objects o there) [
        | inl first ↦
            let same : e ≡ o = contains-one e o first in
            let own : count_of name (names e) ≡ count_of name (names o) =
            ap (λ (q : Object). count_of name (names q)) same in
            let rest = find-none objects (omega arith) in
            ap (λ (r : Option Object). cond (test e) (Some e) r) rest
            ∙ ap (λ (q : Object). cond (test q) (Some q) None) same
        | inr further ↦
            let mine = times-one names name objects o further in
            let not : test e ≡ false = fails e (omega arith) (test e) refl in
            ap (λ (b : Bool). cond b (Some e) (find test objects)) not
            ∙ find-one o objects (omega arith) further it
      ]
    where
      fails : (q : Object) → count_of name (names q) ≡ 0 → (t : Bool) → test q ≡ t → t ≡ false
      fails q none true passes = absurd (omega (arith, does q passes))
      fails q none false passes = refl
