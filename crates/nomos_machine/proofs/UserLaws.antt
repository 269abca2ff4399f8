-- The user of a name is found by search: what is found uses it, and where nothing is found nobody does.
use Rattle.std.proofs.Common.{◌≡◌, ◌≤◌, ℕ, ◌==◌, cond, Bool, true, false, List, [], ◌∷◌, Contains, Some, None, refl, subst, arith}
use Rattle.std.proofs.lemmas.List.Elements.{Contains-append_left, Contains-append_right}
use Rattle.std.proofs.lemmas.List.Sums.{sum_by-cons}
use Rattle.std.specs.List.{list_any}
use Rattle.nomos_ir.specs.Order.{count_of}
use Rattle.nomos_machine.specs.Objects.{used, times}
use Rattle.nomos_machine.specs.Sight.{user_of}
use Rattle.nomos_machine.specs.declared.object.Object.{Object}
use Rattle.nomos_machine.proofs.NameLaws.{names-told}

user-first : (name : ℕ) (e u : Object) (objects : List Object) (t : Bool) → list_any (λ n. n == name) (used e) ≡ t
    → cond t (Some e) (user_of objects name) ≡ Some u
    → (user_of objects name ≡ Some u → Contains objects u × (1 ≤ count_of name (used u)))
    → Contains (e ∷ objects) u × (1 ≤ count_of name (used u))
user-first name e u objects true uses found rest =
    let same : e ≡ u = cc in (
      Contains-append_left (e ∷ []) objects u (0, omega arith, same),
      subst (λ (o : Object). 1 ≤ count_of name (used o)) same ((names-told (used e) name).0 uses),
    )
user-first name e u objects false uses found rest =
    let further_on = rest found in
    (Contains-append_right (e ∷ []) objects u further_on.0, further_on.1)

-- what is found uses the name
pub user_of-found : (name : ℕ) (u : Object) (objects : List Object) → user_of objects name ≡ Some u
    → Contains objects u × (1 ≤ count_of name (used u))
user_of-found name u [] found = absurd cc
user_of-found name u (e ∷ objects) found =
    user-first name e u objects (list_any (λ n. n == name) (used e)) refl found (user_of-found name u objects)

unused-first : (name : ℕ) (e : Object) (objects : List Object) (t : Bool) → list_any (λ n. n == name) (used e) ≡ t
    → cond t (Some e) (user_of objects name) ≡ None → (user_of objects name ≡ None → times used objects name ≡ 0)
    → times used (e ∷ objects) name ≡ 0
unused-first name e objects true uses found rest = absurd (differ found)
  where
    differ : Some e ≡ None → ⊥
    differ is = cc
unused-first name e objects false uses found rest =
    let here = (names-told (used e) name).1 uses in
    let behind = rest found in
    omega (arith, sum_by-cons (λ (o : Object). count_of name (used o)) e objects, here, behind)

-- where none is found nobody uses it
pub user_of-none : (name : ℕ) (objects : List Object) → user_of objects name ≡ None → times used objects name ≡ 0
user_of-none name [] found = refl
user_of-none name (e ∷ objects) found =
    unused-first name e objects (list_any (λ n. n == name) (used e)) refl found (user_of-none name objects)
