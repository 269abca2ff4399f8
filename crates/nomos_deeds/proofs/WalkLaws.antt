-- What is found first among the processes over a number, and among the names over it, is the lowest one that is sought.
use Rattle.std.proofs.Common.{◌≡◌, ◌≢◌, ◌∙◌, ◌<◌, ◌==◌, ◌&&◌, nat_lt, ℕ, Bool, true, false, cond, List, [], ◌∷◌, map, find, Contains, Option, Some, None, IsSome, IsTrue, ◌↔◌, refl, sym, ap, subst, arith, inl, inr, eqb-true}
use Rattle.std.proofs.lemmas.Bool.{ltb-true, lt-ltb}
use Rattle.std.proofs.lemmas.List.Elements.{Contains-append_cases, Contains-append_right}
use Rattle.std.proofs.lemmas.Map.Keys.{sorted_head, sorted_tail}
use Rattle.std.specs.List.Sorted.{IsStrictlySortedBy}
use Rattle.std.specs.Option.{MatchOption, is_some, option_map}
use Rattle.std.specs.Ordering.{nat_cmp}
use Rattle.nomos_ir.specs.declared.ids.TypeId.{TypeId}
use Rattle.nomos_ir.specs.declared.mode.Mode.{Mode}
use Rattle.nomos_ir.specs.declared.mode.Mode.TheVariants as mode
use Rattle.nomos_types.specs.Acceptance.{Acceptance, IsAccepted}
use Rattle.nomos_machine.specs.Objects.{object_number, object_at, process_of}
use Rattle.nomos_machine.specs.Optional.{◌>>=◌}
use Rattle.nomos_machine.specs.Run.{IsNextReady, NoneReady}
use Rattle.nomos_machine.specs.State.{State, NameTypes, process_at, type_of}
use Rattle.nomos_machine.specs.Step.{IsReady}
use Rattle.nomos_machine.specs.TypedState.{IsTyped}
use Rattle.nomos_machine.specs.declared.object.Object.{Object}
use Rattle.nomos_machine.specs.declared.object.Object.TheVariants as object
use Rattle.nomos_machine.specs.declared.object.Process.{Process}
use Rattle.nomos_machine.proofs.NameLaws.{type_of-first, type_of-further}
use Rattle.nomos_machine.proofs.PutLaws.{InOrder, contains-one, object_at-found, object_at-own}
use Rattle.nomos_deeds.specs.Acts.{if_some_ready, looks_ready_at}
use Rattle.nomos_deeds.specs.Lowest.{FindsNext}
use Rattle.nomos_deeds.specs.ProcessWalks.{is_acquiring, is_over, is_ready_in, is_transaction}
use Rattle.nomos_deeds.specs.Readers.{IsLinearName, IsLinearType, IsTransaction, IsWaiting, acquires, is_of_mode_t, looks_linear}
use Rattle.nomos_deeds.proofs.FireLaws.{looks-ready}
use Rattle.nomos_deeds.proofs.LinearNameLaws.{looks-linear}
use Rattle.nomos_deeds.proofs.LowestLaws.{finds-next, next-ready, over-each}

-- ---- tests

pub and-told : (b c : Bool) → (b && c) ≡ true → (b ≡ true) × (c ≡ true)
and-told true c is = (refl, is)
and-told false c is = absurd cc

and-shown : (b c : Bool) → b ≡ true → c ≡ true → (b && c) ≡ true
and-shown b c first second = ap (λ t. t && c) first ∙ second

-- ---- processes

module _ (P : ℕ → Type 0) (after : ℕ) (test : Process → Bool) (objects : List Object) (order : InOrder objects)
    (told : (p : Process) → object_at objects p.pid ≡ Some (object.Process p) → test p ≡ true → P p.pid)
    (each : (q : ℕ) → P q → (p : Process) × (object_at objects q ≡ Some (object.Process p)) × (test p ≡ true)) where
  passing-told : (o : Object) → Contains objects o → is_over after test o ≡ true
      → (after < object_number o) × P (object_number o)
  passing-told (object.Process p) there passed =
      let (over, tested) = and-told (nat_lt after p.pid) (test p) passed in
      (ltb-true after p.pid over, told p (object_at-own (object.Process p) objects order there) tested)
  passing-told (object.Message m) there passed = absurd cc

  passing-each : (q : ℕ) → after < q → P q
      → (o : Object) × Contains objects o × (object_number o ≡ q) × (is_over after test o ≡ true)
  passing-each q over has =
      let (p, found, tested) = each q has in
      let (number, there) = object_at-found q (object.Process p) objects found in
      let higher : after < p.pid = omega (arith, over, number) in
      (object.Process p, there, number, and-shown (nat_lt after p.pid) (test p) (lt-ltb after p.pid higher) tested)

  over-next : FindsNext P after (option_map object_number (find (is_over after test) objects))
  over-next = finds-next object_number (is_over after test) P after objects order passing-told passing-each

-- the same of what was found
pub walk-next : (P : ℕ → Type 0) (after : ℕ) (test : Process → Bool) (objects : List Object)
    → InOrder objects
    → ((p : Process) → object_at objects p.pid ≡ Some (object.Process p) → test p ≡ true → P p.pid)
    → ((q : ℕ) → P q
    → (p : Process) × (object_at objects q ≡ Some (object.Process p)) × (test p ≡ true))
    → (found : Option Object) → found ≡ find (is_over after test) objects
    → (answer : Option ℕ) → answer ≡ option_map object_number found → FindsNext P after answer
walk-next P after test objects order told each found is answer same =
    subst (FindsNext P after) (sym (same ∙ ap (option_map object_number) is))
    (over-next P after test objects order told each)

-- ---- what is walked over

pub transactions-next : (after : ℕ) (objects : List Object) → InOrder objects
    → (found : Option Object) → found ≡ find (is_over after is_transaction) objects
    → (answer : Option ℕ) → answer ≡ option_map object_number found
    → FindsNext (IsTransaction objects) after answer
transactions-next after objects order found is answer same =
    walk-next (IsTransaction objects) after is_transaction objects order
    (λ p there tested. record { process = p; there = there; at_t = at_t p.mode tested })
    (λ q has. (has.process, has.there, ap is_of_mode_t has.at_t)) found is answer same
  where
    at_t : (m : Mode) → is_of_mode_t m ≡ true → m ≡ mode.T
    at_t mode.T is = refl
    at_t mode.R is = absurd cc
    at_t mode.S is = absurd cc
    at_t mode.L is = absurd cc

-- something is there exactly where a look says so
some-told : {X : Type 0} (o : Option X) → (is_some o ≡ true) ↔ IsSome o
some-told (Some x) = (λ is. is, λ is. is)
some-told None = (λ is. is, λ is. is)

-- the object of a number that has a process is that process
process-there : (objects : List Object) (q : ℕ) (p : Process) → (object_at objects q >>= process_of) ≡ Some p
    → object_at objects q ≡ Some (object.Process p)
process-there objects q p found = at (object_at objects q) found
  where
    one : {q : Process} → Some q ≡ Some p → q ≡ p
    one is = cc

    at : (o : Option Object) → (o >>= process_of) ≡ Some p → o ≡ Some (object.Process p)
    at (Some (object.Process q)) is = ap (λ (r : Process). Some (object.Process r)) (one is)
    at (Some (object.Message m)) is = absurd cc
    at None is = absurd cc

pub waiting-next : (a : Acceptance) (after : ℕ) (objects : List Object) → InOrder objects
    → (found : Option Object) → found ≡ find (is_over after (is_acquiring a)) objects
    → (answer : Option ℕ) → answer ≡ option_map object_number found
    → FindsNext (IsWaiting a objects) after answer
waiting-next a after objects order found is answer same =
    walk-next (IsWaiting a os) after (is_acquiring a) objects order
    (λ p there tested.
    subst IsSome (sym (ap (λ (o : Option Object). o >>= process_of >>= acquires a) there))
    ((some-told (acquires a p)).0 tested))
    each found is answer same
  where
    os : List Object
    os = objects

    Answer : ℕ → Type 0
    Answer q = (p : Process) × (object_at os q ≡ Some (object.Process p)) × (is_acquiring a p ≡ true)

    each : (q : ℕ) → IsWaiting a os q → Answer q
    each q has = at (object_at os q >>= process_of) refl has
      where
        nothing : IsSome {T = ℕ} None → ⊥
        nothing e = cc

        at : (o : Option Process) → (object_at os q >>= process_of) ≡ o → IsSome (o >>= acquires a) → Answer q
        at (Some p) found some = (p, process-there os q p found, (some-told (acquires a p)).1 some)
        at None found some = absurd (nothing some)

pub ready-next : (a : Acceptance) (s : State) → IsAccepted a → IsTyped a s → (after : ℕ) (objects : List Object)
    → s.objects ≡ objects
    → (found : Option Object) → found ≡ find (is_over after (is_ready_in a s)) objects
    → (answer : Option ℕ) → answer ≡ option_map object_number found
    → MatchOption answer (NoneReady a s after) (IsNextReady a s after)
ready-next a s accepted typed after objects kept found is answer same =
    next-ready a s after answer
    (walk-next (IsReady a s) after (is_ready_in a s) objects (subst InOrder kept typed.numbered.ascending)
    (λ p there tested. (told p.pid).0 tested) each found is answer same)
  where
    told : (q : ℕ) → IsTrue (looks_ready_at a s q) ↔ IsReady a s q
    told q = looks-ready a s q (looks_ready_at a s q) accepted typed refl

    Answer : ℕ → Type 0
    Answer q =
        (p : Process) × (object_at objects q ≡ Some (object.Process p)) × (is_ready_in a s p ≡ true)

    never : {X : Type 0} → false ≡ true → X
    never no_more = absurd cc

    each : (q : ℕ) → IsReady a s q → Answer q
    each q ready = at (process_at s q) refl ((told q).1 ready)
      where
        at : (o : Option Process) → process_at s q ≡ o → if_some_ready a s o ≡ true → Answer q
        at (Some p) there looks =
            let found = process-there s.objects q p there in
            let (number, inside) = object_at-found q (object.Process p) s.objects found in (
              p,
              subst (λ (os : List Object). object_at os q ≡ Some (object.Process p)) kept found,
              ap (looks_ready_at a s) number ∙ ap (if_some_ready a s) there ∙ looks,
            )
        at None there looks = never looks

-- ---- names

-- a name of a table in order has the type that stands beside it
type_of-own : (types : NameTypes) (e : ℕ × TypeId) → IsStrictlySortedBy nat_cmp (map (λ t. t.0) types)
    → Contains types e → type_of types e.0 ≡ Some e.1
type_of-own [] e order there = absurd (omega (arith, there.1))
type_of-own (t ∷ types) e order there =
    elim (Contains-append_cases (t ∷ []) types e there) [
      | inl first ↦
          let same : t ≡ e = contains-one t e first in
          type_of-first t types e.0 (ap (λ (u : ℕ × TypeId). u.0) same)
          ∙ ap (λ (u : ℕ × TypeId). Some u.1) same
      | inr further ↦
          let rest = map (λ (u : ℕ × TypeId). u.0) types in
          let over = over-each (λ (u : ℕ × TypeId). u.0) t.0 types e (sorted_head nat_cmp t.0 rest order) further in
          let other : t.0 ≢ e.0 = omega (arith, over) in
          type_of-further t types e.0 other ∙ type_of-own types e (sorted_tail nat_cmp t.0 rest order) further
    ]

-- a name that has a type stands beside it in the table
type_of-there : (types : NameTypes) (name : ℕ) (t : TypeId) → type_of types name ≡ Some t
    → (e : ℕ × TypeId) × Contains types e × (e.0 ≡ name) × (e.1 ≡ t)
type_of-there [] name t found = absurd cc
type_of-there (u ∷ types) name t found =
    at (type_of-there types name t) (u.0 == name) refl found
  where
    There : NameTypes → Type 0
    There among = (e : ℕ × TypeId) × Contains among e × (e.0 ≡ name) × (e.1 ≡ t)

    at : (type_of types name ≡ Some t → There types) → (b : Bool) → (u.0 == name) ≡ b
        → option_map (λ e. e.1) (cond b (Some u) (find (λ e. e.0 == name) types)) ≡ Some t → There (u ∷ types)
    at rest true here found =
        let own : u.1 ≡ t = cc in
        (u, (0, omega arith, refl), eqb-true u.0 name here, own)
    at rest false here found =
        let (e, inside, named, typed) = rest found in
        (e, Contains-append_right (u ∷ []) types e inside, named, typed)

pub names-next : (a : Acceptance) → IsAccepted a → (after : ℕ) (types : NameTypes)
    → IsStrictlySortedBy nat_cmp (map (λ t. t.0) types)
    → (found : Option (ℕ × TypeId)) → found ≡ find (λ t. nat_lt after t.0 && looks_linear a.program t.1) types
    → (answer : Option ℕ) → answer ≡ option_map (λ t. t.0) found
    → FindsNext (IsLinearName a.program types) after answer
names-next a accepted after types order found is answer same =
    subst (FindsNext (IsLinearName a.program types) after) (sym (same ∙ ap (option_map (λ (t : ℕ × TypeId). t.0)) is))
    (finds-next (λ (t : ℕ × TypeId). t.0) passes (IsLinearName a.program types) after types order passing each)
  where
    passes : ℕ × TypeId → Bool
    passes t = nat_lt after t.0 && looks_linear a.program t.1

    told : (t : TypeId) → IsTrue (looks_linear a.program t) ↔ IsLinearType a.program t
    told t = looks-linear a t (looks_linear a.program t) accepted refl

    passing : (t : ℕ × TypeId) → Contains types t → passes t ≡ true → (after < t.0) × IsLinearName a.program types t.0
    passing t there passed =
        let (over, looks) = and-told (nat_lt after t.0) (looks_linear a.program t.1) passed in (
          ltb-true after t.0 over,
          record { own = t.1; found = type_of-own types t order there; linear = (told t.1).0 looks },
        )

    each : (q : ℕ) → after < q → IsLinearName a.program types q
        → (t : ℕ × TypeId) × Contains types t × (t.0 ≡ q) × (passes t ≡ true)
    each q over has =
        let (t, there, named, typed) = type_of-there types q has.own has.found in
        let higher : after < t.0 = omega (arith, over, named) in
        let looks : looks_linear a.program t.1 ≡ true =
        ap (looks_linear a.program) typed ∙ (told has.own).1 has.linear
        in
        (t, there, named, and-shown (nat_lt after t.0) (looks_linear a.program t.1) (lt-ltb after t.0 higher) looks)
