-- The head of a type, and what declarations of transactions offer, tell whether its names are used exactly once.
use Rattle.std.proofs.Common.{◌≡◌, ◌≢◌, ◌<◌, ◌↔◌, ◌∙◌, ℕ, ◌==◌, ◌||◌, ◌&&◌, nat_lt, not, IsTrue, Bool, true, false, List, [], ◌∷◌, Contains, length, Some, refl, sym, ap, arith, inl, inr, eq-eqb, eqb-true}
use Rattle.std.proofs.lemmas.Bool.{ltb-true, lt-ltb}
use Rattle.std.proofs.lemmas.List.Elements.{Contains-append_cases, Contains-append_right}
use Rattle.std.specs.List.{list_any}
use Rattle.nomos_ir.specs.declared.ids.TypeId.{TypeId}
use Rattle.nomos_ir.specs.declared.lists.ProgramLists.{ProgramLists}
use Rattle.nomos_ir.specs.declared.mode.Mode.{Mode}
use Rattle.nomos_ir.specs.declared.mode.Mode.TheVariants as mode
use Rattle.nomos_machine.proofs.BirthLaws.{unshared-mode}
use Rattle.nomos_types.specs.Acceptance.{Acceptance, IsAccepted}
use Rattle.nomos_types.specs.Judgement.{is_shared_mode}
use Rattle.nomos_types.specs.Modes.{IsOfTransactions, parameter_mode}
use Rattle.nomos_types.proofs.ModeLaws.{mode-in_range, mode-exists}
use Rattle.nomos_types.proofs.ToldModeLaws.{linear-told}
use Rattle.nomos_machine.specs.Sight.{shows_shared}
use Rattle.nomos_machine.proofs.PutLaws.{contains-one}
use Rattle.nomos_deeds.specs.Readers.{IsLinearType, is_of_mode_t, looks_linear, offers_at_t}

-- ---- what declarations of transactions offer

pub any-there : {X : Type 0} (test : X → Bool) (xs : List X) → list_any test xs ≡ true
    → (x : X) × Contains xs x × (test x ≡ true)
any-there test [] found = absurd cc
any-there {X} test (e ∷ xs) found = at (any-there test xs) (test e) refl found
  where
    at : (list_any test xs ≡ true → (x : X) × Contains xs x × (test x ≡ true)) → (b : Bool) → test e ≡ b
        → (b || list_any test xs) ≡ true → (x : X) × Contains (e ∷ xs) x × (test x ≡ true)
    at rest true is found = (e, (0, omega arith, refl), is)
    at rest false is found =
        let (x, inside, passed) = rest found in
        (x, Contains-append_right (e ∷ []) xs x inside, passed)

pub any-shown : {X : Type 0} (test : X → Bool) (xs : List X) (x : X) → Contains xs x → test x ≡ true
    → list_any test xs ≡ true
any-shown test [] x inside passed = absurd (omega (arith, inside.1))
any-shown test (e ∷ xs) x inside passed =
    elim (Contains-append_cases (e ∷ []) xs x inside) [
      | inl first ↦
          let here : test e ≡ true = ap test (contains-one e x first) ∙ passed in
          ap (λ b. b || list_any test xs) here
      | inr further ↦
          ap (λ b. test e || b) (any-shown test xs x further passed) ∙ or-true (test e)
    ]
  where
    or-true : (b : Bool) → (b || true) ≡ true
    or-true true = refl
    or-true false = refl

told-at_t : (m : Mode) (b : Bool) → (is_of_mode_t m && b) ≡ true → (m ≡ mode.T) × (b ≡ true)
told-at_t mode.T b is = (refl, is)
told-at_t mode.R b is = absurd cc
told-at_t mode.S b is = absurd cc
told-at_t mode.L b is = absurd cc

type-same : (u t : TypeId) → u.0 ≡ t.0 → u ≡ t
type-same u t same = ap (λ (n : ℕ). let w : TypeId = record { 0 = n } in w) same

-- a scan of the declarations tells whether one of transactions offers the type
transactions-told : (lists : ProgramLists) (t : TypeId)
    → (list_any (offers_at_t t) lists.procs ≡ true) ↔ IsOfTransactions lists t
transactions-told lists t = (
  λ found.
      let (d, inside, passed) = any-there (offers_at_t t) lists.procs found in
      let (at_t, same) = told-at_t d.mode (d.offers.0 == t.0) passed in
      (d, inside, at_t, type-same d.offers t (eqb-true d.offers.0 t.0 same)),
  λ (d, inside, at_t, same).
      let passed : offers_at_t t d ≡ true =
      ap (λ m. is_of_mode_t m && d.offers.0 == t.0) at_t ∙ eq-eqb d.offers.0 t.0 (ap (λ (u : TypeId). u.0) same)
      in
      any-shown (offers_at_t t) lists.procs d inside passed,
)

-- ---- shared types

shared-at_s : (m : Mode) → is_shared_mode m ≡ false → m ≢ mode.S
shared-at_s m unshared at_s = differ (sym (ap is_shared_mode at_s) ∙ unshared)
  where
    differ : true ≡ false → ⊥
    differ e = cc

linear-by_look : {a : Acceptance} → IsAccepted a → (t : TypeId) → (t.0 < length a.program.types)
    × (shows_shared a.program (Some t) ≡ false) × (list_any (offers_at_t t) a.program.procs ≡ false)
    ↔ IsLinearType a.program t
linear-by_look {a} accepted t = (
  λ (inside, unshared, unoffered).
      let (m, has) = mode-exists a.program t accepted.is_program inside in
      let told = linear-told accepted.typed.formed m has in (
        m,
        has,
        told.1 (
          shared-at_s (parameter_mode a.program t) unshared,
          λ offered. differ (sym ((transactions-told a.program t).1 offered) ∙ unoffered),
        ),
      ),
  λ (m, has, linear).
      let (not_s, unoffered) = (linear-told accepted.typed.formed m has).0 linear in (
        mode-in_range accepted.is_program has,
        unshared-mode (parameter_mode a.program t) not_s,
        none (list_any (offers_at_t t) a.program.procs) (λ found. unoffered ((transactions-told a.program t).0 found)),
      ),
)
  where
    differ : true ≡ false → ⊥
    differ e = cc

    none : (b : Bool) → (b ≡ true → ⊥) → b ≡ false
    none true never = absurd (never refl)
    none false never = refl

not-told : (b : Bool) → not b ≡ true → b ≡ false
not-told true is = absurd cc
not-told false is = refl

-- three tests pass together where the first does and the others fail
three-told : (b c d : Bool) → ((b && (not c && not d)) ≡ true) ↔ ((b ≡ true) × (c ≡ false) × (d ≡ false))
three-told true false d = (λ is. (refl, refl, not-told d is), λ (one, two, three). ap not three)
three-told true true d = (λ is. absurd cc, λ (one, two, three). sym two)
three-told false c d = (λ is. absurd cc, λ (one, two, three). one)

pub looks-linear : (a : Acceptance) (t : TypeId) (looks : Bool) → IsAccepted a → looks ≡ looks_linear a.program t
    → IsTrue looks ↔ IsLinearType a.program t
looks-linear a t looks accepted is =
    let inside = nat_lt t.0 (length a.program.types) in
    let shared = shows_shared a.program (Some t) in
    let offered = list_any (offers_at_t t) a.program.procs in
    let tests = three-told inside shared offered in
    let told = linear-by_look accepted t in (
      λ looking.
          let (within, unshared, unoffered) = tests.0 (sym is ∙ looking) in
          told.0 (ltb-true t.0 (length a.program.types) within, unshared, unoffered),
      λ linear.
          let (within, unshared, unoffered) = told.1 linear in
          is ∙ tests.1 (lt-ltb t.0 (length a.program.types) within, unshared, unoffered),
    )
