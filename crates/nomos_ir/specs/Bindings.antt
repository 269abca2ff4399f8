-- Finite maps from variables: pairs of a variable and what it is bound to, in ascending order, each variable once.
use Rattle.std.specs.Prelude.{ℕ, ◌==◌, List, [], ◌∷◌, map, Option, sum_by}
use Rattle.std.specs.declared.cmp.Ordering.{Ordering}
use Rattle.std.specs.Ordering.{nat_cmp}
use Rattle.std.specs.List.Sorted.{IsStrictlySortedBy}
use Rattle.std.specs.Map.{keys_of, lookup, remove_entry}
use Rattle.std.specs.BTreeMap.{insert_entry}
use Rattle.nomos_ir.specs.declared.ids.VarId.{VarId}

-- what a variable is bound to
abbrev pub bound_to : {X : Type 0} → ℕ → List (VarId × X) → Option X
bound_to v bindings = lookup (λ w. w.0 == v) bindings

-- variables in order of number
abbrev pub by_number : VarId → VarId → Ordering
by_number v w = nat_cmp v.0 w.0

-- the variable is bound to x; what it was bound to before is forgotten
abbrev pub bind : {X : Type 0} → VarId → X → List (VarId × X) → List (VarId × X)
bind v x bindings = insert_entry by_number bindings v x

-- the variable is bound no more
abbrev pub unbind : {X : Type 0} → ℕ → List (VarId × X) → List (VarId × X)
unbind v bindings = remove_entry (λ w. w.0 == v) bindings

-- these pairs as a map; where a variable stands twice, the first pair counts
abbrev pub bindings_of : {X : Type 0} → List (VarId × X) → List (VarId × X)
bindings_of [] = []
bindings_of (b ∷ others) = bind b.0 b.1 (bindings_of others)

-- the variables are in ascending order, each once
abbrev pub IsAscending : {X : Type 0} → List (VarId × X) → Type 0
IsAscending bindings = IsStrictlySortedBy by_number (keys_of bindings)

-- these pairs are bound, one after the other
abbrev pub bind_all : {X : Type 0} → List (VarId × X) → List (VarId × X) → List (VarId × X)
bind_all [] bindings = bindings
bind_all (p ∷ ps) bindings = bind_all ps (bind p.0 p.1 bindings)

-- these variables are bound no more
abbrev pub unbind_all : {X : Type 0} → List VarId → List (VarId × X) → List (VarId × X)
unbind_all [] bindings = bindings
unbind_all (v ∷ vs) bindings = unbind_all vs (unbind v.0 bindings)

-- all that is bound, changed alike
abbrev pub each_bound : {X Y : Type 0} → (X → Y) → List (VarId × X) → List (VarId × Y)
each_bound f bindings = map (λ e. (e.0, f e.1)) bindings

-- the variables of pairs, in their order
abbrev pub variables_of : {X : Type 0} → List (VarId × X) → List ℕ
variables_of bindings = map (λ e. e.0.0) bindings

-- the sum of a number that each thing bound has
abbrev pub sum_bound : {X : Type 0} → (X → ℕ) → List (VarId × X) → ℕ
sum_bound f bindings = sum_by (λ e. f e.1) bindings
