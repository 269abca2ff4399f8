-- Laws of finite maps from variables.
use Rattle.std.proofs.Common.{◌≡◌, ◌≢◌, inl, inr, ◌<◌, ℕ, ◌==◌, Bool, true, false, cond, List, ◌∷◌, [], All, IfSome, Option, Some, None, Ordering, Less, Equal, Greater, ap, ap₂, sym, subst, refl, ◌∙◌, arith, eq-eqb, ne_eqb, eqb-true}
use Rattle.std.proofs.lemmas.Bool.{cases_eq, eqb-false}
use Rattle.std.proofs.lemmas.Cmp.{ranked, nat_cmp_total}
use Rattle.std.proofs.lemmas.List.Elements.{All-cons, All-head, All-tail}
use Rattle.std.proofs.lemmas.Map.Entries.{All-lookup}
use Rattle.std.proofs.lemmas.Map.Keys.{sorted_head, sorted_tail}
use Rattle.std.specs.List.{AllByRecursion}
use Rattle.std.specs.List.Sorted.{IsStrictlySortedBy}
use Rattle.std.specs.Map.{keys_of}
use Rattle.std.specs.Ordering.{match_ordering, ordering_reverse}
use Rattle.nomos_ir.specs.Bindings.{bound_to, bind, unbind, bindings_of, by_number, IsAscending}
use Rattle.nomos_ir.specs.declared.ids.VarId.{VarId}

-- the first pair is what its variable is bound to
bound-first : {X : Type 0} (v : ℕ) (e : VarId × X) (b : List (VarId × X)) → e.0.0 ≡ v → bound_to v (e ∷ b) ≡ Some e.1
bound-first v e b same = ap (λ t. cond t (Some e.1) (bound_to v b)) (eq-eqb e.0.0 v same)

-- other variables are looked for further on
bound-further : {X : Type 0} (v : ℕ) (e : VarId × X) (b : List (VarId × X)) → e.0.0 ≢ v
    → bound_to v (e ∷ b) ≡ bound_to v b
bound-further v e b other = ap (λ t. cond t (Some e.1) (bound_to v b)) (ne_eqb e.0.0 v other)

module _ {X : Type 0} (v : VarId) (x : X) (e : VarId × X) (b : List (VarId × X)) where
  -- the map after a binding, by where the variable stands beside the first one
  abbrev placed : Ordering → List (VarId × X)
  placed o = match_ordering o ((v, x) ∷ e ∷ b) ((e.0, x) ∷ b) (e ∷ bind v x b)

  -- the variable is bound to x there
  placed-bound : (o : Ordering) → o ≡ by_number v e.0 → bound_to v.0 (bind v x b) ≡ Some x
      → bound_to v.0 (placed o) ≡ Some x
  placed-bound Less order rest = bound-first v.0 (v, x) (e ∷ b) refl
  placed-bound Equal order rest = bound-first v.0 (e.0, x) b (sym (ranked v.0 e.0.0 Equal order))
  placed-bound Greater order rest =
      let above : e.0.0 < v.0 = ranked v.0 e.0.0 Greater order in
      bound-further v.0 e (bind v x b) (omega arith) ∙ rest

  -- each other variable is bound to what it was bound to
  placed-other : (w : ℕ) (o : Ordering) → w ≢ v.0 → o ≡ by_number v e.0 → bound_to w (bind v x b) ≡ bound_to w b
      → bound_to w (placed o) ≡ bound_to w (e ∷ b)
  placed-other w Less other order rest = bound-further w (v, x) (e ∷ b) (λ same. other (sym same))
  placed-other w Equal other order rest =
      let here : v.0 ≡ e.0.0 = ranked v.0 e.0.0 Equal order in
      let elsewhere : e.0.0 ≢ w = omega arith in
      bound-further w (e.0, x) b elsewhere ∙ sym (bound-further w e b elsewhere)
  placed-other w Greater other order rest = ap (λ r. cond (e.0.0 == w) (Some e.1) r) rest

  -- what holds of all that was bound, and of x, holds of all that is bound there
  placed-all : (P : X → Type 0) (o : Ordering) → All (λ p. P p.1) (e ∷ b) → P x → All (λ p. P p.1) (bind v x b)
      → All (λ p. P p.1) (placed o)
  placed-all P Less all here rest = All-cons (λ p. P p.1) (v, x) (e ∷ b) here all
  placed-all P Equal all here rest = All-cons (λ p. P p.1) (e.0, x) b here (All-tail (λ p. P p.1) e b all)
  placed-all P Greater all here rest = All-cons (λ p. P p.1) e (bind v x b) (All-head (λ p. P p.1) e b all) rest

-- what was bound last is what the variable is bound to
pub bound-after_bind : {X : Type 0} (v : VarId) (x : X) (b : List (VarId × X)) → bound_to v.0 (bind v x b) ≡ Some x
bound-after_bind v x [] = bound-first v.0 (v, x) [] refl
bound-after_bind v x (e ∷ b) = placed-bound v x e b (by_number v e.0) refl (bound-after_bind v x b)

-- binding a variable changes no other one
pub bound-after_bind_other : {X : Type 0} (w : ℕ) (v : VarId) (x : X) (b : List (VarId × X)) → w ≢ v.0
    → bound_to w (bind v x b) ≡ bound_to w b
bound-after_bind_other w v x [] other = bound-further w (v, x) [] (λ same. other (sym same))
bound-after_bind_other w v x (e ∷ b) other =
    placed-other v x e b w (by_number v e.0) other refl (bound-after_bind_other w v x b other)

-- the variables of the map are above this one
abbrev AllAbove : {X : Type 0} → VarId → List (VarId × X) → Type 0
AllAbove v b = AllByRecursion (λ w. by_number v w ≡ Less) (keys_of b)

-- a map is its first pair and the others, which are a map above it
ascending-cons : {X : Type 0} (e : VarId × X) (b : List (VarId × X)) → AllAbove e.0 b → IsAscending b
    → IsAscending (e ∷ b)
unfolding IsStrictlySortedBy
ascending-cons e b above ascending = (above, ascending)

-- nothing bound is a map
ascending-nil : (X : Type 0) → IsAscending {X = X} []
unfolding IsStrictlySortedBy
ascending-nil X = tt

-- what is above the one variable is above each lower one
above-lower : {X : Type 0} (v w : VarId) (b : List (VarId × X)) → by_number v w ≡ Less → AllAbove w b → AllAbove v b
above-lower v w [] lower above = tt
above-lower v w (e ∷ b) lower above =
    (nat_cmp_total.trans v.0 w.0 e.0.0 lower above.0, above-lower v w b lower above.1)

-- a map whose variables are above this one does not bind it
above-unbound : {X : Type 0} (v : VarId) (w : ℕ) (b : List (VarId × X)) → w ≡ v.0 → AllAbove v b → bound_to w b ≡ None
above-unbound v w [] same above = refl
above-unbound v w (e ∷ b) same above =
    let lower : v.0 < e.0.0 = ranked v.0 e.0.0 Less (sym above.0) in
    bound-further w e b (omega arith) ∙ above-unbound v w b same above.1

-- without its first pair if it has this variable
abbrev dropped : {X : Type 0} → ℕ → VarId × X → List (VarId × X) → Bool → List (VarId × X)
dropped v e b t = cond t b (e ∷ unbind v b)

-- a variable that was unbound is bound to nothing, where the test of the first variable is known
dropped-unbound : {X : Type 0} (v : ℕ) (e : VarId × X) (b : List (VarId × X)) (t : Bool) → (e.0.0 == v) ≡ t
    → AllAbove e.0 b → bound_to v (unbind v b) ≡ None → bound_to v (dropped v e b t) ≡ None
dropped-unbound v e b true here above rest = above-unbound e.0 v b (sym (eqb-true e.0.0 v here)) above
dropped-unbound v e b false here above rest = bound-further v e (unbind v b) (eqb-false e.0.0 v here) ∙ rest

-- a variable that was unbound is bound to nothing
pub bound-after_unbind : {X : Type 0} (v : ℕ) (b : List (VarId × X)) → IsAscending b → bound_to v (unbind v b) ≡ None
bound-after_unbind v [] ascending = refl
bound-after_unbind v (e ∷ b) ascending =
    let rest = bound-after_unbind v b (sorted_tail by_number e.0 (keys_of b) ascending) in
    dropped-unbound v e b (e.0.0 == v) refl (sorted_head by_number e.0 (keys_of b) ascending) rest

-- each other variable is bound to the same, where the test of the first variable is known
dropped-other : {X : Type 0} (w v : ℕ) (e : VarId × X) (b : List (VarId × X)) (t : Bool) → w ≢ v → (e.0.0 == v) ≡ t
    → bound_to w (unbind v b) ≡ bound_to w b → bound_to w (dropped v e b t) ≡ bound_to w (e ∷ b)
dropped-other w v e b true other here rest =
    let same : e.0.0 ≡ v = eqb-true e.0.0 v here in
    sym (bound-further w e b (omega arith))
dropped-other w v e b false other here rest = ap (λ r. cond (e.0.0 == w) (Some e.1) r) rest

-- unbinding a variable changes no other one
pub bound-after_unbind_other : {X : Type 0} (w v : ℕ) (b : List (VarId × X)) → w ≢ v
    → bound_to w (unbind v b) ≡ bound_to w b
bound-after_unbind_other w v [] other = refl
bound-after_unbind_other w v (e ∷ b) other =
    dropped-other w v e b (e.0.0 == v) other refl (bound-after_unbind_other w v b other)

-- what is above a lower variable stays so when the variable is bound
placed-above : {X : Type 0} (k v : VarId) (x : X) (e : VarId × X) (b : List (VarId × X)) (o : Ordering)
    → by_number k v ≡ Less → AllAbove k (e ∷ b) → AllAbove k (bind v x b) → AllAbove k (placed v x e b o)
placed-above k v x e b Less lower above rest = (lower, above)
placed-above k v x e b Equal lower above rest = above
placed-above k v x e b Greater lower above rest = (above.0, rest)

bind-above : {X : Type 0} (k v : VarId) (x : X) (b : List (VarId × X)) → by_number k v ≡ Less → AllAbove k b
    → AllAbove k (bind v x b)
bind-above k v x [] lower above = (lower, tt)
bind-above k v x (e ∷ b) lower above =
    placed-above k v x e b (by_number v e.0) lower above (bind-above k v x b lower above.1)

-- a map stays a map, by where the variable stands beside the first one
placed-ascending : {X : Type 0} (v : VarId) (x : X) (e : VarId × X) (b : List (VarId × X)) (o : Ordering)
    → o ≡ by_number v e.0 → IsAscending (e ∷ b) → IsAscending (bind v x b) → IsAscending (placed v x e b o)
placed-ascending v x e b Less order ascending rest =
    let above : AllAbove e.0 b = sorted_head by_number e.0 (keys_of b) ascending in
    ascending-cons (v, x) (e ∷ b) (sym order, above-lower v e.0 b (sym order) above) ascending
placed-ascending v x e b Equal order ascending rest = ascending
placed-ascending v x e b Greater order ascending rest =
    let above : AllAbove e.0 b = sorted_head by_number e.0 (keys_of b) ascending in
    let lower : by_number e.0 v ≡ Less = nat_cmp_total.antisymm e.0.0 v.0 ∙ ap ordering_reverse (sym order) in
    ascending-cons e (bind v x b) (bind-above e.0 v x b lower above) rest

-- a map stays a map when a variable is bound
pub bind-ascending : {X : Type 0} (v : VarId) (x : X) (b : List (VarId × X)) → IsAscending b → IsAscending (bind v x b)
bind-ascending v x [] ascending = ascending-cons (v, x) [] tt ascending
bind-ascending v x (e ∷ b) ascending =
    let rest = bind-ascending v x b (sorted_tail by_number e.0 (keys_of b) ascending) in
    placed-ascending v x e b (by_number v e.0) refl ascending rest

-- what is above a variable stays so when some other one is unbound
dropped-above : {X : Type 0} (k : VarId) (v : ℕ) (e : VarId × X) (b : List (VarId × X)) (t : Bool) → AllAbove k (e ∷ b)
    → AllAbove k (unbind v b) → AllAbove k (dropped v e b t)
dropped-above k v e b true above rest = above.1
dropped-above k v e b false above rest = (above.0, rest)

unbind-above : {X : Type 0} (k : VarId) (v : ℕ) (b : List (VarId × X)) → AllAbove k b → AllAbove k (unbind v b)
unbind-above k v [] above = tt
unbind-above k v (e ∷ b) above = dropped-above k v e b (e.0.0 == v) above (unbind-above k v b above.1)

-- a map stays a map, where the test of the first variable is known
dropped-ascending : {X : Type 0} (v : ℕ) (e : VarId × X) (b : List (VarId × X)) (t : Bool) → IsAscending (e ∷ b)
    → IsAscending (unbind v b) → IsAscending (dropped v e b t)
dropped-ascending v e b true ascending rest = sorted_tail by_number e.0 (keys_of b) ascending
dropped-ascending v e b false ascending rest =
    ascending-cons e (unbind v b) (unbind-above e.0 v b (sorted_head by_number e.0 (keys_of b) ascending)) rest

-- a map stays a map when a variable is unbound
pub unbind-ascending : {X : Type 0} (v : ℕ) (b : List (VarId × X)) → IsAscending b → IsAscending (unbind v b)
unbind-ascending v [] ascending = ascending
unbind-ascending v (e ∷ b) ascending =
    let rest = unbind-ascending v b (sorted_tail by_number e.0 (keys_of b) ascending) in
    dropped-ascending v e b (e.0.0 == v) ascending rest

-- pairs make a map
pub bindings_of-ascending : {X : Type 0} (ps : List (VarId × X)) → IsAscending (bindings_of ps)
bindings_of-ascending {X = X} [] = ascending-nil X
bindings_of-ascending (p ∷ ps) = bind-ascending p.0 p.1 (bindings_of ps) (bindings_of-ascending ps)

-- the pairs and their map bind alike, where the test of the first variable is known
bound-in_first : {X : Type 0} (v : ℕ) (p : VarId × X) (ps : List (VarId × X)) (t : Bool) → (p.0.0 == v) ≡ t
    → bound_to v (bindings_of ps) ≡ bound_to v ps
    → bound_to v (bind p.0 p.1 (bindings_of ps)) ≡ cond t (Some p.1) (bound_to v ps)
bound-in_first v p ps true here rest =
    let same : p.0.0 ≡ v = eqb-true p.0.0 v here in
    let others = bindings_of ps in
    subst (λ (w : ℕ). bound_to w (bind p.0 p.1 others) ≡ Some p.1) same (bound-after_bind p.0 p.1 others)
bound-in_first v p ps false here rest =
    let other : p.0.0 ≢ v = eqb-false p.0.0 v here in
    bound-after_bind_other v p.0 p.1 (bindings_of ps) (λ same. other (sym same)) ∙ rest

-- a variable is bound to what stands with it first among the pairs
pub bound-in_bindings_of : {X : Type 0} (v : ℕ) (ps : List (VarId × X)) → bound_to v (bindings_of ps) ≡ bound_to v ps
bound-in_bindings_of v [] = refl
bound-in_bindings_of v (p ∷ ps) = bound-in_first v p ps (p.0.0 == v) refl (bound-in_bindings_of v ps)

-- what holds of all that is bound still holds after a binding of something of which it holds
pub all-after_bind : {X : Type 0} (P : X → Type 0) (v : VarId) (x : X) (b : List (VarId × X)) → All (λ e. P e.1) b → P x
    → All (λ e. P e.1) (bind v x b)
all-after_bind P v x [] all here = All-cons (λ e. P e.1) (v, x) [] here all
all-after_bind P v x (e ∷ b) all here =
    let rest = all-after_bind P v x b (All-tail (λ p. P p.1) e b all) here in
    placed-all v x e b P (by_number v e.0) all here rest

-- what holds of all that is bound still holds, where the test of the first variable is known
dropped-all : {X : Type 0} (P : X → Type 0) (v : ℕ) (e : VarId × X) (b : List (VarId × X)) (t : Bool)
    → All (λ p. P p.1) (e ∷ b) → All (λ p. P p.1) (unbind v b) → All (λ p. P p.1) (dropped v e b t)
dropped-all P v e b true all rest = All-tail (λ p. P p.1) e b all
dropped-all P v e b false all rest = All-cons (λ p. P p.1) e (unbind v b) (All-head (λ p. P p.1) e b all) rest

-- it still holds when a variable is unbound
pub all-after_unbind : {X : Type 0} (P : X → Type 0) (v : ℕ) (b : List (VarId × X)) → All (λ e. P e.1) b
    → All (λ e. P e.1) (unbind v b)
all-after_unbind P v [] all = all
all-after_unbind P v (e ∷ b) all =
    dropped-all P v e b (e.0.0 == v) all (all-after_unbind P v b (All-tail (λ p. P p.1) e b all))

-- what holds in all pairs holds of all that is bound in their map
pub all-in_bindings_of : {X : Type 0} (P : X → Type 0) (ps : List (VarId × X)) → All (λ e. P e.1) ps
    → All (λ e. P e.1) (bindings_of ps)
all-in_bindings_of P [] all = all
all-in_bindings_of P (p ∷ ps) all =
    let rest = all-in_bindings_of P ps (All-tail (λ e. P e.1) p ps all) in
    all-after_bind P p.0 p.1 (bindings_of ps) rest (All-head (λ e. P e.1) p ps all)

-- what holds of all that is bound holds of what one variable is bound to
pub all-bound : {X : Type 0} (P : X → Type 0) (v : ℕ) (x : X) (b : List (VarId × X)) → All (λ e. P e.1) b
    → bound_to v b ≡ Some x → P x
all-bound {X = X} P v x b all found = subst (λ (o : Option X). IfSome o P) found (All-lookup P (λ w. w.0 == v) b all)

module _ {X : Type 0} (e f : VarId × X) (a b : List (VarId × X)) (e_first : AllAbove e.0 a) (f_first : AllAbove f.0 b)
    (same : (v : ℕ) → bound_to v (e ∷ a) ≡ bound_to v (f ∷ b)) where
  -- the first variable of the one map is not below that of the other
  not_below : by_number e.0 f.0 ≡ Less → ⊥
  not_below lower =
      let here = bound-first e.0.0 e a refl in
      let nowhere = above-unbound e.0 e.0.0 (f ∷ b) refl (lower, above-lower e.0 f.0 b lower f_first) in
      let at_first = same e.0.0 in
      cc

  -- the first pairs are the same
  same_first : e.0.0 ≡ f.0.0 → e ≡ f
  same_first variable =
      let here = bound-first e.0.0 e a refl in
      let there = bound-first e.0.0 f b (sym variable) in
      let at_first = same e.0.0 in
      let value : e.1 ≡ f.1 = cc in
      let pair : ℕ → X → VarId × X = λ n x. (record { 0 = n }, x) in
      ap₂ pair variable value

  -- the others bind each variable to the same, where the test of the first variable is known
  tails-at : (v : ℕ) (t : Bool) → e.0.0 ≡ f.0.0 → (e.0.0 == v) ≡ t → bound_to v a ≡ bound_to v b
  tails-at v true variable here =
      let found : e.0.0 ≡ v = eqb-true e.0.0 v here in
      above-unbound e.0 v a (sym found) e_first ∙ sym (above-unbound f.0 v b (omega arith) f_first)
  tails-at v false variable here =
      let other : e.0.0 ≢ v = eqb-false e.0.0 v here in
      sym (bound-further v e a other) ∙ same v ∙ bound-further v f b (omega arith)

-- maps in which each variable is bound to the same begin with the same pair
first-same : {X : Type 0} (e f : VarId × X) (a b : List (VarId × X)) (o : Ordering) → o ≡ by_number e.0 f.0
    → AllAbove e.0 a → AllAbove f.0 b → ((v : ℕ) → bound_to v (e ∷ a) ≡ bound_to v (f ∷ b)) → e.0.0 ≡ f.0.0
first-same e f a b Less order e_first f_first same = absurd (not_below e f a b e_first f_first same (sym order))
first-same e f a b Equal order e_first f_first same = ranked e.0.0 f.0.0 Equal order
first-same e f a b Greater order e_first f_first same =
    let back : by_number f.0 e.0 ≡ Less = nat_cmp_total.antisymm f.0.0 e.0.0 ∙ ap ordering_reverse (sym order) in
    absurd (not_below f e b a f_first e_first (λ v. sym (same v)) back)

-- maps in which each variable is bound to the same are the same list
pub ascending-same : {X : Type 0} (a b : List (VarId × X)) → IsAscending a → IsAscending b
    → ((v : ℕ) → bound_to v a ≡ bound_to v b) → a ≡ b
ascending-same [] [] a_ascending b_ascending same = refl
ascending-same [] (f ∷ b) a_ascending b_ascending same =
    let here = bound-first f.0.0 f b refl in
    let nowhere = same f.0.0 in
    absurd cc
ascending-same (e ∷ a) [] a_ascending b_ascending same =
    let here = bound-first e.0.0 e a refl in
    let nowhere = same e.0.0 in
    absurd cc
ascending-same (e ∷ a) (f ∷ b) a_ascending b_ascending same =
    let e_first : AllAbove e.0 a = sorted_head by_number e.0 (keys_of a) a_ascending in
    let f_first : AllAbove f.0 b = sorted_head by_number f.0 (keys_of b) b_ascending in
    let variable : e.0.0 ≡ f.0.0 = first-same e f a b (by_number e.0 f.0) refl e_first f_first same in
    let a_rest = sorted_tail by_number e.0 (keys_of a) a_ascending in
    let b_rest = sorted_tail by_number f.0 (keys_of b) b_ascending in
    let rest_same : (v : ℕ) → bound_to v a ≡ bound_to v b =
    λ v. tails-at e f a b e_first f_first same v (e.0.0 == v) variable refl
    in
    let rest : a ≡ b = ascending-same a b a_rest b_rest rest_same in
    ap₂ ◌∷◌ (same_first e f a b e_first f_first same variable) rest

-- at one variable and at each other one: at every one
pub by-variable : (P : ℕ → Type 0) (v : ℕ) → P v → ((w : ℕ) → w ≢ v → P w) → (w : ℕ) → P w
by-variable P v here others w =
    elim (cases_eq w v) [ inl same ↦ subst P (sym same) here | inr other ↦ others w other ]

module _ {X : Type 0} (v : VarId) (x : X) (b : List (VarId × X)) (ascending : IsAscending b) where
  -- unbinding a variable undoes its binding
  pub unbind-after_bind : unbind v.0 (bind v x b) ≡ unbind v.0 b
  unbind-after_bind =
      let bound : IsAscending (bind v x b) = bind-ascending v x b ascending in
      let here : bound_to v.0 (unbind v.0 (bind v x b)) ≡ bound_to v.0 (unbind v.0 b) =
      bound-after_unbind v.0 (bind v x b) bound ∙ sym (bound-after_unbind v.0 b ascending)
      in
      let others : (w : ℕ) → w ≢ v.0 → bound_to w (unbind v.0 (bind v x b)) ≡ bound_to w (unbind v.0 b) =
      λ w other. bound-after_unbind_other w v.0 (bind v x b) other ∙ bound-after_bind_other w v x b other
      ∙ sym (bound-after_unbind_other w v.0 b other)
      in
      ascending-same (unbind v.0 (bind v x b)) (unbind v.0 b) (unbind-ascending v.0 (bind v x b) bound)
      (unbind-ascending v.0 b ascending)
      (by-variable (λ w. bound_to w (unbind v.0 (bind v x b)) ≡ bound_to w (unbind v.0 b)) v.0 here others)
