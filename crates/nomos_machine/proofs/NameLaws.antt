-- How often names occur, and which names have a type.
use Rattle.std.proofs.Common.{◌≡◌, ◌≢◌, ◌∙◌, ◌<◌, ◌≤◌, inl, inr, ℕ, ◌+◌, ◌==◌, ◌||◌, Bool, true, false, cond, List, [], ◌∷◌, ◌++◌, filter, find, All, Contains, Option, Some, None, sum_by, refl, ap, subst, arith, eq-eqb, ne_eqb, eqb-true}
use Rattle.std.proofs.lemmas.Bool.{cases_eq, eqb-false}
use Rattle.std.proofs.lemmas.List.Elements.{All-head, All-tail, Contains-append_cases, Contains-append_right}
use Rattle.std.proofs.lemmas.List.Sums.{sum_by-cons}
use Rattle.std.specs.List.{list_any}
use Rattle.std.specs.Option.{option_map}
use Rattle.nomos_ir.specs.Order.{count_of}
use Rattle.nomos_ir.specs.declared.ids.TypeId.{TypeId}
use Rattle.nomos_types.proofs.OccurrenceLaws.{count-append, counted, contained}
use Rattle.nomos_machine.proofs.PutLaws.{contains-one}
use Rattle.nomos_machine.specs.Change.{is_mentioned}
use Rattle.nomos_machine.specs.Objects.{provided, used, based, mentioned, times}
use Rattle.nomos_machine.specs.State.{NameTypes, type_of}
use Rattle.nomos_machine.specs.declared.object.Object.{Object}

-- ---- counts

-- an object that does this with the name is counted
pub times-one : (does : Object → List ℕ) (name : ℕ) (objects : List Object) (o : Object) → Contains objects o
    → count_of name (does o) ≤ times does objects name
times-one does name [] o there = absurd (omega (arith, there.1))
times-one does name (e ∷ objects) o there =
    let sum = sum_by-cons (λ (d : Object). count_of name (does d)) e objects in
    elim (Contains-append_cases (e ∷ []) objects o there) [
      | inl first ↦
          let same : count_of name (does e) ≡ count_of name (does o) =
          ap (λ d. count_of name (does d)) (contains-one e o first)
          in
          omega arith
      | inr further ↦ omega (arith, times-one does name objects o further)
    ]

pub times-contains : (does : Object → List ℕ) (name : ℕ) (objects : List Object) (o : Object) → Contains objects o
    → Contains (does o) name → 1 ≤ times does objects name
times-contains does name objects o there among =
    omega (arith, counted name (does o) among, times-one does name objects o there)

-- where the name is counted there is an object that does this with it
pub contains-times : (does : Object → List ℕ) (name : ℕ) (objects : List Object) → 1 ≤ times does objects name
    → (o : Object) × Contains objects o × Contains (does o) name
contains-times does name [] some = absurd (omega arith)
contains-times does name (e ∷ objects) some =
    elim (cases_eq (count_of name (does e)) 0) [
      | inl none ↦
          let rest : 1 ≤ times does objects name =
          omega (arith, sum_by-cons (λ (d : Object). count_of name (does d)) e objects)
          in
          let (o, there, among) = contains-times does name objects rest in
          (o, Contains-append_right (e ∷ []) objects o there, among)
      | inr here ↦ (e, (0, omega arith, refl), contained name (does e) (omega arith))
    ]

-- a name is mentioned as often as it is provided, used and a base
pub mentioned-sum : (objects : List Object) (name : ℕ)
    → times mentioned objects name
    ≡ times provided objects name + times used objects name + times based objects name
mentioned-sum [] name = refl
mentioned-sum (o ∷ objects) name =
    let here : count_of name (mentioned o)
    ≡ count_of name (provided o) + count_of name (used o) + count_of name (based o) =
    count-append name (provided o ++ used o) (based o)
    ∙ ap (λ k. k + count_of name (based o)) (count-append name (provided o) (used o))
    in
    let all : times mentioned (o ∷ objects) name ≡ count_of name (mentioned o) + times mentioned objects name =
    sum_by-cons (λ (d : Object). count_of name (mentioned d)) o objects
    in
    let provides : times provided (o ∷ objects) name ≡ count_of name (provided o) + times provided objects name =
    sum_by-cons (λ (d : Object). count_of name (provided d)) o objects
    in
    let uses : times used (o ∷ objects) name ≡ count_of name (used o) + times used objects name =
    sum_by-cons (λ (d : Object). count_of name (used d)) o objects
    in
    let bases : times based (o ∷ objects) name ≡ count_of name (based o) + times based objects name =
    sum_by-cons (λ (d : Object). count_of name (based d)) o objects
    in
    omega (arith, mentioned-sum objects name)

-- whether one of them passes is told by a sum in which each counts that passes
abbrev TellsSome : {X : Type 0} → (X → Bool) → (X → ℕ) → List X → Type 0
TellsSome p f xs = (list_any p xs ≡ true → 1 ≤ sum_by f xs) × (list_any p xs ≡ false → sum_by f xs ≡ 0)

told-first : {X : Type 0} (p : X → Bool) (f : X → ℕ) (x : X) (xs : List X) (t : Bool) → p x ≡ t
    → (p x ≡ true → 1 ≤ f x) × (p x ≡ false → f x ≡ 0) → TellsSome p f xs
    → (t || list_any p xs ≡ true → 1 ≤ sum_by f (x ∷ xs)) × (t || list_any p xs ≡ false → sum_by f (x ∷ xs) ≡ 0)
told-first p f x xs true here each rest =
    let some : 1 ≤ f x = each.0 here in
    (λ yes. omega (arith, sum_by-cons f x xs), λ no. absurd cc)
told-first p f x xs false here each rest =
    let none : f x ≡ 0 = each.1 here in
    (λ yes. omega (arith, sum_by-cons f x xs, rest.0 yes), λ no. omega (arith, sum_by-cons f x xs, rest.1 no))

any-told : {X : Type 0} (p : X → Bool) (f : X → ℕ) (xs : List X)
    → ((x : X) → (p x ≡ true → 1 ≤ f x) × (p x ≡ false → f x ≡ 0)) → TellsSome p f xs
any-told p f [] each = (λ yes. absurd cc, λ no. refl)
any-told p f (x ∷ xs) each = told-first p f x xs (p x) refl (each x) (any-told p f xs each)

one-told : (t : Bool) → (t ≡ true → 1 ≤ cond {A = ℕ} t 1 0) × (t ≡ false → cond {A = ℕ} t 1 0 ≡ 0)
one-told true = (λ yes. omega arith, λ no. absurd cc)
one-told false = (λ yes. absurd cc, λ no. refl)

-- whether a name is among others is told by how often it is
pub names-told : (names : List ℕ) (name : ℕ)
    → (list_any (λ n. n == name) names ≡ true → 1 ≤ count_of name names)
    × (list_any (λ n. n == name) names ≡ false → count_of name names ≡ 0)
names-told names name = any-told (λ n. n == name) (λ n. cond (n == name) 1 0) names (λ n. one-told (n == name))

-- whether a name is mentioned is told by how often it is
pub mentioned-told : (objects : List Object) (name : ℕ)
    → (is_mentioned objects name ≡ true → 1 ≤ times mentioned objects name)
    × (is_mentioned objects name ≡ false → times mentioned objects name ≡ 0)
mentioned-told objects name =
    any-told (λ o. list_any (λ n. n == name) (mentioned o)) (λ o. count_of name (mentioned o)) objects
    (λ o. names-told (mentioned o) name)

-- ---- the table of types

-- what is found in a table that begins with this pair, by whether that has the name
abbrev first_or : Bool → ℕ × TypeId → NameTypes → ℕ → Option TypeId
first_or t e types name = option_map (λ d. d.1) (cond t (Some e) (find (λ d. d.0 == name) types))

kept-first : (b : Bool) (e : ℕ × TypeId) (types more : NameTypes) (name : ℕ) (t : TypeId)
    → first_or b e types name ≡ Some t
    → (type_of types name ≡ Some t → type_of (types ++ more) name ≡ Some t)
    → first_or b e (types ++ more) name ≡ Some t
kept-first true e types more name t found rest = found
kept-first false e types more name t found rest = rest found

-- the type of a name stays where others are added behind
pub type_of-kept : (types more : NameTypes) (name : ℕ) (t : TypeId) → type_of types name ≡ Some t
    → type_of (types ++ more) name ≡ Some t
type_of-kept [] more name t found = absurd cc
type_of-kept (e ∷ types) more name t found =
    kept-first (e.0 == name) e types more name t found (type_of-kept types more name t)

-- the first name, or a further one
pub type_of-first : (e : ℕ × TypeId) (types : NameTypes) (name : ℕ) → e.0 ≡ name → type_of (e ∷ types) name ≡ Some e.1
type_of-first e types name same = ap (λ b. first_or b e types name) (eq-eqb e.0 name same)

pub type_of-further : (e : ℕ × TypeId) (types : NameTypes) (name : ℕ) → e.0 ≢ name
    → type_of (e ∷ types) name ≡ type_of types name
type_of-further e types name other = ap (λ b. first_or b e types name) (ne_eqb e.0 name other)

below-first : (b : Bool) (e : ℕ × TypeId) (types : NameTypes) (name n : ℕ) (t : TypeId) → (e.0 == name) ≡ b → e.0 < n
    → first_or b e types name ≡ Some t → (type_of types name ≡ Some t → name < n) → name < n
below-first true e types name n t here lower found rest =
    let same : e.0 ≡ name = eqb-true e.0 name here in
    omega arith
below-first false e types name n t here lower found rest = rest found

-- a name that has a type is below each number that all names of the table are below
pub type_of-below : (types : NameTypes) (name n : ℕ) (t : TypeId) → All (λ e. e.0 < n) types
    → type_of types name ≡ Some t
    → name < n
type_of-below [] name n t below found = absurd cc
type_of-below (e ∷ types) name n t below found =
    below-first (e.0 == name) e types name n t refl (All-head (λ (d : ℕ × TypeId). d.0 < n) e types below) found
    (type_of-below types name n t (All-tail (λ (d : ℕ × TypeId). d.0 < n) e types below))

-- a name over all names of the table has the type that is added for it
pub type_of-added : (types : NameTypes) (n : ℕ) (t : TypeId) → All (λ e. e.0 < n) types
    → type_of (types ++ (n, t) ∷ []) n ≡ Some t
type_of-added [] n t below = type_of-first (n, t) [] n refl
type_of-added (e ∷ types) n t below =
    let lower : e.0 < n = All-head (λ (d : ℕ × TypeId). d.0 < n) e types below in
    type_of-further e (types ++ (n, t) ∷ []) n (omega arith)
    ∙ type_of-added types n t (All-tail (λ (d : ℕ × TypeId). d.0 < n) e types below)

-- each other name has the type that it had
pub type_of-other : (types : NameTypes) (n name : ℕ) (t : TypeId) → n ≢ name
    → type_of (types ++ (n, t) ∷ []) name ≡ type_of types name
type_of-other [] n name t other = type_of-further (n, t) [] name other
type_of-other (e ∷ types) n name t other = again (e.0 == name) (type_of-other types n name t other)
  where
    again : (b : Bool) → type_of (types ++ (n, t) ∷ []) name ≡ type_of types name
        → first_or b e (types ++ (n, t) ∷ []) name ≡ first_or b e types name
    again true rest = refl
    again false rest = rest

-- ---- what is left of a table that is filtered by its names

module _ (keeps : ℕ → Bool) where
  abbrev pub filtered : NameTypes → NameTypes
  filtered types = filter (λ e. keeps e.0) types

  filtered-first : (b c : Bool) (e : ℕ × TypeId) (types : NameTypes) (name : ℕ) → keeps e.0 ≡ b → (e.0 == name) ≡ c
      → keeps name ≡ true → type_of (filtered types) name ≡ type_of types name
      → type_of (cond b (e ∷ filtered types) (filtered types)) name ≡ first_or c e types name
  filtered-first true true e types name here same kept rest = type_of-first e (filtered types) name
      (eqb-true e.0 name same)
  filtered-first true false e types name here same kept rest =
      type_of-further e (filtered types) name (eqb-false e.0 name same) ∙ rest
  filtered-first false true e types name here same kept rest =
      let is : e.0 ≡ name = eqb-true e.0 name same in
      let no : keeps name ≡ false = subst (λ (k : ℕ). keeps k ≡ false) is here in
      absurd cc
  filtered-first false false e types name here same kept rest = rest

  -- a name that is kept has its type
  pub type_of-filtered : (types : NameTypes) (name : ℕ) → keeps name ≡ true
      → type_of (filtered types) name ≡ type_of types name
  type_of-filtered [] name kept = refl
  type_of-filtered (e ∷ types) name kept =
      filtered-first (keeps e.0) (e.0 == name) e types name refl refl kept (type_of-filtered types name kept)

  gone-first : (b : Bool) (e : ℕ × TypeId) (types : NameTypes) (name : ℕ) → keeps e.0 ≡ b → keeps name ≡ false
      → type_of (filtered types) name ≡ None → type_of (cond b (e ∷ filtered types) (filtered types)) name ≡ None
  gone-first true e types name here gone rest =
      let other : e.0 ≢ name = λ same.
      let yes : keeps name ≡ true = subst (λ (k : ℕ). keeps k ≡ true) same here in
      absurd cc
      in
      type_of-further e (filtered types) name other ∙ rest
  gone-first false e types name here gone rest = rest

  -- one that is not has none
  pub type_of-gone : (types : NameTypes) (name : ℕ) → keeps name ≡ false → type_of (filtered types) name ≡ None
  type_of-gone [] name gone = refl
  type_of-gone (e ∷ types) name gone = gone-first (keeps e.0) e types name refl gone (type_of-gone types name gone)
