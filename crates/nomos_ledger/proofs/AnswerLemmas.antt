-- Answers that are kept beside pairs of numbers.
use Rattle.std.proofs.Common.{◌≡◌, ℕ, Bool, true, false, cond, List, [], ◌∷◌, All, Option, Some, None, ◌&&◌, ◌↔◌, nat_eq, IfSome, IsTrue, refl, sym, subst, ap, ◌∙◌}
use Rattle.std.specs.Map.{lookup}
use Rattle.std.proofs.lemmas.Bool.{and_parts, eqb-true}
use Rattle.std.proofs.lemmas.List.Elements.{All-nil, All-cons, All-head, All-tail}
use Rattle.indexmap.specs.IndexMap.{insert_entry}
use Rattle.nomos_ir.specs.declared.ids.TypeId.{TypeId}
use Rattle.nomos_types.specs.Acceptance.{Acceptance}
use Rattle.nomos_types.specs.Equality.{EqualTypes}
use Rattle.nomos_ledger.specs.mirror.StartArguments.{IsAnswered}

module _ {K V : Type 0} (P : K × V → Type 0) where
  -- what is found was kept, beside a key that passes
  pub found-kept : (test : K → Bool) (es : List (K × V)) (v : V) → All P es → lookup test es ≡ Some v
      → (k : K) × (test k ≡ true) × P (k, v)
  found-kept test [] v all found = absurd cc
  found-kept test (e ∷ es) v all found = by (test e.0) refl (found-kept test es v (All-tail P e es all))
    where
      by : (b : Bool) → test e.0 ≡ b → (lookup test es ≡ Some v → (k : K) × (test k ≡ true) × P (k, v))
          → (k : K) × (test k ≡ true) × P (k, v)
      by true is rest =
          let at : Some e.1 ≡ Some v = sym (ap (λ (b : Bool). cond b (Some e.1) (lookup test es)) is) ∙ found in
          let same : e.1 ≡ v = cc in
          (e.0, is, subst (λ (w : V). P (e.0, w)) same (All-head P e es all))
      by false is rest =
          rest
          (sym (ap (λ (b : Bool). cond b (Some e.1) (lookup test es)) is) ∙ found)

  -- one more is kept
  pub put-kept : (eq : K → K → Bool) → ((k l : K) → eq k l ≡ true → k ≡ l) → (es : List (K × V)) (k : K) (v : V)
      → All P es → P (k, v) → All P (insert_entry eq es k v)
  put-kept eq exact [] k v all new = All-cons P (k, v) [] new (All-nil P)
  put-kept eq exact (e ∷ es) k v all new = by (eq k e.0) refl (put-kept eq exact es k v (All-tail P e es all) new)
    where
      by : (b : Bool) → eq k e.0 ≡ b → All P (insert_entry eq es k v) → All P (insert_entry eq (e ∷ es) k v)
      by true is rest =
          let put : insert_entry eq (e ∷ es) k v ≡ (e.0, v) ∷ es =
          ap (λ (b : Bool). cond b ((e.0, v) ∷ es) (e ∷ insert_entry eq es k v)) is in
          subst (All P) (sym put)
          (All-cons P (e.0, v) es (subst (λ (l : K). P (l, v)) (exact k e.0 is) new) (All-tail P e es all))
      by false is rest =
          let put : insert_entry eq (e ∷ es) k v ≡ e ∷ insert_entry eq es k v =
          ap (λ (b : Bool). cond b ((e.0, v) ∷ es) (e ∷ insert_entry eq es k v)) is in
          subst (All P) (sym put)
          (All-cons P e (insert_entry eq es k v) (All-head P e es all) rest)

-- ---- pairs of numbers

abbrev pub numbers_eq : ℕ × ℕ → ℕ × ℕ → Bool
numbers_eq x y = nat_eq x.0 y.0 && nat_eq x.1 y.1

pub numbers-exact : (x y : ℕ × ℕ) → numbers_eq x y ≡ true → x ≡ y
numbers-exact x y h =
    let p = and_parts (nat_eq x.0 y.0) (nat_eq x.1 y.1) h in
    let first : x.0 ≡ y.0 = eqb-true x.0 y.0 p.0 in
    let second : x.1 ≡ y.1 = eqb-true x.1 y.1 p.1 in
    λ i. (first i, second i)

-- what is found of two types is their answer
pub known-exact : (a : Acceptance) (answers : List ((ℕ × ℕ) × Bool)) (left right : TypeId) → All (IsAnswered a) answers
    → IfSome (lookup (numbers_eq (left.0, right.0)) answers)
    (λ same. IsTrue same ↔ EqualTypes a.program a.annotations left right)
known-exact a answers left right all = by (lookup (numbers_eq (left.0, right.0)) answers) refl
  where
    Told : Option Bool → Type 0
    Told o = IfSome o (λ same. IsTrue same ↔ EqualTypes a.program a.annotations left right)

    by : (o : Option Bool) → lookup (numbers_eq (left.0, right.0)) answers ≡ o → Told o
    by None is = tt
    by (Some v) is =
        let (k, passes, answered) = found-kept (IsAnswered a) (numbers_eq (left.0, right.0)) answers v all is in
        let same : k ≡ (left.0, right.0) = sym (numbers-exact (left.0, right.0) k passes) in
        subst (λ (l : ℕ × ℕ). IsAnswered a (l, v)) same answered
