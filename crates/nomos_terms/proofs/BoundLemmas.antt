-- Look-ups in lists of variables one after another.
use Rattle.std.proofs.Common.{◌≡◌, ℕ, ◌==◌, Bool, true, false, List, [], ◌∷◌, ◌++◌, Option, Some, None, cond, refl}
use Rattle.nomos_ir.specs.declared.ids.VarId.{VarId}
use Rattle.nomos_ir.specs.Bindings.{bound_to}

-- one step of a look-up
step_some : {X : Type 0} (b : Bool) (w x : X) (front both : Option X) → (front ≡ Some x → both ≡ Some x)
    → cond b (Some w) front ≡ Some x → cond b (Some w) both ≡ Some x
step_some true w x front both rest found = found
step_some false w x front both rest found = rest found

step_none : {X : Type 0} (b : Bool) (w : X) (front both back : Option X) → (front ≡ None → both ≡ back)
    → cond b (Some w) front ≡ None → cond b (Some w) both ≡ back
step_none true w front both back rest none = absurd cc
step_none false w front both back rest none = rest none

-- what is found in front is found
pub bound_to-append_some : {X : Type 0} (v : ℕ) (xs ys : List (VarId × X)) (x : X) → bound_to v xs ≡ Some x
    → bound_to v (xs ++ ys) ≡ Some x
bound_to-append_some v [] ys x found = absurd cc
bound_to-append_some v (w ∷ xs) ys x found =
    step_some (w.0.0 == v) w.1 x (bound_to v xs) (bound_to v (xs ++ ys)) (bound_to-append_some v xs ys x) found

-- where nothing is found in front, the rest is looked at
pub bound_to-append_none : {X : Type 0} (v : ℕ) (xs ys : List (VarId × X)) → bound_to v xs ≡ None
    → bound_to v (xs ++ ys) ≡ bound_to v ys
bound_to-append_none v [] ys none = refl
bound_to-append_none v (w ∷ xs) ys none =
    step_none (w.0.0 == v) w.1 (bound_to v xs) (bound_to v (xs ++ ys)) (bound_to v ys) (bound_to-append_none v xs ys)
    none
