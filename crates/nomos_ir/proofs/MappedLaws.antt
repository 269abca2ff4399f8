-- Laws of maps in which all that is bound is changed alike.
use Rattle.std.proofs.Common.{◌≡◌, ℕ, ◌==◌, Bool, true, false, cond, List, ◌∷◌, [], map, Option, Some, Ordering, Less, Equal, Greater, ap, refl, sym, subst, ◌∙◌}
use Rattle.std.proofs.lemmas.Map.Made.{keys_of-map_values}
use Rattle.std.specs.List.Sorted.{IsStrictlySortedBy}
use Rattle.std.specs.Option.{option_map}
use Rattle.std.specs.Ordering.{match_ordering}
use Rattle.nomos_ir.specs.Bindings.{bound_to, bind, unbind, bindings_of, each_bound, by_number, IsAscending}
use Rattle.nomos_ir.specs.declared.ids.VarId.{VarId}

module _ {X Y : Type 0} (f : X → Y) where
  abbrev change : VarId × X → VarId × Y
  change e = (e.0, f e.1)

  each-placed : (v : VarId) (x : X) (e : VarId × X) (b rest : List (VarId × X)) (o : Ordering)
      → map change (match_ordering o ((v, x) ∷ e ∷ b) ((e.0, x) ∷ b) (e ∷ rest))
      ≡ match_ordering o ((v, f x) ∷ change e ∷ map change b) ((e.0, f x) ∷ map change b) (change e ∷ map change rest)
  each-placed v x e b rest Less = refl
  each-placed v x e b rest Equal = refl
  each-placed v x e b rest Greater = refl

  -- a binding that is changed
  pub each-bind : (v : VarId) (x : X) (b : List (VarId × X)) → each_bound f (bind v x b) ≡ bind v (f x) (each_bound f b)
  each-bind v x [] = refl
  each-bind v x (e ∷ b) =
      let others = map change b in
      each-placed v x e b (bind v x b) (by_number v e.0)
      ∙ ap (λ (rest : List (VarId × Y)). match_ordering (by_number v e.0) ((v, f x) ∷ change e ∷ others)
      ((e.0, f x) ∷ others) (change e ∷ rest)) (each-bind v x b)

  each-dropped : (e : VarId × X) (b rest : List (VarId × X)) (t : Bool)
      → map change (cond t b (e ∷ rest)) ≡ cond t (map change b) (change e ∷ map change rest)
  each-dropped e b rest true = refl
  each-dropped e b rest false = refl

  -- what is left without a variable, changed
  pub each-unbind : (v : ℕ) (b : List (VarId × X)) → each_bound f (unbind v b) ≡ unbind v (each_bound f b)
  each-unbind v [] = refl
  each-unbind v (e ∷ b) =
      each-dropped e b (unbind v b) (e.0.0 == v)
      ∙ ap (λ (rest : List (VarId × Y)). cond (e.0.0 == v) (map change b) (change e ∷ rest)) (each-unbind v b)

  each-found : (x : X) (rest : Option X) (t : Bool) → cond t (Some (f x)) (option_map f rest) ≡ option_map f (cond t
      (Some x) rest)
  each-found x rest true = refl
  each-found x rest false = refl

  -- a variable is bound to what it was bound to, changed
  pub each-bound : (v : ℕ) (b : List (VarId × X)) → bound_to v (each_bound f b) ≡ option_map f (bound_to v b)
  each-bound v [] = refl
  each-bound v (e ∷ b) =
      ap (λ (o : Option Y). cond (e.0.0 == v) (Some (f e.1)) o) (each-bound v b)
      ∙ each-found e.1 (bound_to v b) (e.0.0 == v)

  -- a map of pairs, each changed
  pub each-bindings : (ps : List (VarId × X)) → each_bound f (bindings_of ps) ≡ bindings_of (each_bound f ps)
  each-bindings [] = refl
  each-bindings (p ∷ ps) = each-bind p.0 p.1 (bindings_of ps) ∙ ap (bind p.0 (f p.1)) (each-bindings ps)

  -- a map stays a map
  pub each-ascending : (b : List (VarId × X)) → IsAscending b → IsAscending (each_bound f b)
  each-ascending b ascending =
      subst (λ (vs : List VarId). IsStrictlySortedBy by_number vs) (sym (keys_of-map_values f b)) ascending
