-- Pairs are bound for a process, the last one first.
use Rattle.std.proofs.Common.{◌≡◌, ◌≢◌, ◌<◌, ◌+◌, ◌∙◌, ◌&&◌, ℕ, Bool, true, false, cond, eqb, List, ◌∷◌, length, drop, get_or, Option, Some, None, refl, sym, ap, arith, eq-eqb, ne_eqb}
use Rattle.std.proofs.lemmas.List.{at_drop_more}
use Rattle.std.proofs.Math.ListN.{drop_of_length-le}
use Rattle.nomos_ir.specs.Bindings.{bound_to}
use Rattle.nomos_ir.specs.declared.ids.VarId.{VarId}
use Rattle.nomos_state.specs.ObjectsCome.{name_or, name_with}

more-cases : (own here : Bool) (name : ℕ) (later old : Option ℕ)
    → cond (own && here) (Some name) (cond own (name_or later old) old)
    ≡ cond own (name_or (cond here (Some name) later) old) old
more-cases true true name later old = refl
more-cases true false name later old = refl
more-cases false here name later old = refl

-- one more pair is bound
pub name-more : (process p v : ℕ) (pair : VarId × ℕ) (pairs : List (VarId × ℕ)) (old : Option ℕ)
    → cond (eqb process p && eqb pair.0.0 v) (Some pair.1) (name_with process pairs p v old)
    ≡ name_with process (pair ∷ pairs) p v old
name-more process p v pair pairs old =
    more-cases (eqb process p) (eqb pair.0.0 v) pair.1 (bound_to v pairs) old

pub name-next : (process p v : ℕ) (pairs : List (VarId × ℕ)) (at : ℕ) (d : VarId × ℕ) (old : Option ℕ)
    → at < length pairs
    → cond (eqb process p && eqb (get_or pairs at d).0.0 v) (Some (get_or pairs at d).1)
    (name_with process (drop (at + 1) pairs) p v old)
    ≡ name_with process (drop at pairs) p v old
name-next process p v pairs at d old within =
    name-more process p v (get_or pairs at d) (drop (at + 1) pairs) old
    ∙ sym (at_drop_more (λ xs. name_with process xs p v old) pairs at d within)

none-yet : (own : Bool) (old : Option ℕ) → old ≡ cond own (name_or None old) old
none-yet true old = refl
none-yet false old = refl

pub name-start : (process p v : ℕ) (pairs : List (VarId × ℕ)) (old : Option ℕ)
    → old ≡ name_with process (drop (length pairs) pairs) p v old
name-start process p v pairs old =
    none-yet (eqb process p) old
    ∙ sym (ap (λ xs. name_with process xs p v old) (drop_of_length-le pairs (omega arith)))

-- of another process nothing is bound
pub name-other : (process p v : ℕ) (pairs : List (VarId × ℕ)) (old : Option ℕ) → process ≢ p
    → name_with process pairs p v old ≡ old
name-other process p v pairs old other =
    ap (λ b. cond b (name_or (bound_to v pairs) old) old) (ne_eqb process p other)

-- of the process itself just the pairs, where it had no names
or-none : (o : Option ℕ) → name_or o None ≡ o
or-none None = refl
or-none (Some n) = refl

pub name-own : (process v : ℕ) (pairs : List (VarId × ℕ)) (old : Option ℕ) → old ≡ None
    → name_with process pairs process v old ≡ bound_to v pairs
name-own process v pairs old none =
    ap (λ b. cond b (name_or (bound_to v pairs) old) old) (eq-eqb process process refl)
    ∙ ap (name_or (bound_to v pairs)) none
    ∙ or-none (bound_to v pairs)
