-- What is told beside what was compared.
use Rattle.std.proofs.Common.{◌≡◌, ◌<◌, ◌+◌, ◌↔◌, ◌∙◌, ℕ, Bool, true, false, IsTrue, List, [], ◌∷◌, ◌++◌, length, take, get_or, All, Contains, inl, inr, refl, ap, subst, sym}
use Rattle.std.proofs.lemmas.List.{take_more}
use Rattle.std.proofs.lemmas.List.Elements.{All-contains, All-contains_itself, All-head, All-nil, All-push, All-weaker}
use Rattle.nomos_ir.specs.declared.amount.Amount.{Amount}
use Rattle.nomos_ir.specs.declared.ids.TypeId.{TypeId}
use Rattle.nomos_ir.specs.declared.lists.ProgramLists.{ProgramLists}
use Rattle.nomos_types.proofs.AmountLaws.{all-first, all-last}
use Rattle.nomos_types.specs.Amount.{Annotations, dths}
use Rattle.nomos_types.specs.Equality.{EqualTypes}
use Rattle.nomos_equality.specs.Answer.{SameWorth}
use Rattle.nomos_equality.specs.Comparing.{Compared, FindsEqual}
use Rattle.nomos_equality.proofs.PathLaws.{equal-worth, equal-from_worth}
use Rattle.nomos_typed.specs.Telling.{Tells}

module _ (x : Annotations) where
  -- nothing was compared for it
  pub tells-plain : (c : List (Amount × Amount)) {P : Type 0} → (yes : Bool) → (IsTrue yes ↔ P) → Tells x c c P yes
  tells-plain c true exact = (λ same. (same, exact.0 refl), λ both. both.0)
  tells-plain c false exact = λ holds. let yes : false ≡ true = exact.1 holds in absurd cc

  -- another property that holds exactly where the one does
  pub tells-same : (old new : List (Amount × Amount)) {P Q : Type 0} → (yes : Bool) → (P ↔ Q) → Tells x old new P yes
      → Tells x old new Q yes
  tells-same old new true exact tells = (
    λ same. let both = tells.0 same in (both.0, exact.0 both.1),
    λ both. tells.1 (both.0, exact.1 both.1),
  )
  tells-same old new false exact tells = λ holds. tells (exact.1 holds)

  -- one after the other
  pub tells-through : (old mid new : List (Amount × Amount)) (P Q : Type 0) (yes : Bool) → Tells x old mid P true
      → Tells x mid new Q yes → Tells x old new (P × Q) yes
  tells-through old mid new P Q true first second = (
    λ same.
        let later = second.0 same in
        let early = first.0 later.0 in
        (early.0, (early.1, later.1)),
    λ both. second.1 (first.1 (both.0, both.1.0), both.1.1),
  )
  tells-through old mid new P Q false first second = λ both. second both.1

-- what fits with no gas
pub unpaid-exact : {P : Type 0} {yes fits : Bool} {purse : ℕ} → (IsTrue yes ↔ ((purse ≡ 0) × IsTrue fits))
    → (IsTrue fits ↔ P) → IsTrue yes ↔ ((purse ≡ 0) × P)
unpaid-exact both exact = (
  λ is. let parts = both.0 is in (parts.0, exact.0 parts.1),
  λ parts. both.1 (parts.0, exact.1 parts.1),
)

-- two types of equal shapes are equal exactly where the amounts that join are worth the same
pub equal-tells : {lists : ProgramLists} {x : Annotations} {old new : Compared} (a b : TypeId)
    → FindsEqual lists a b old new → Tells x old.amounts new.amounts (EqualTypes lists x a b) true
equal-tells {lists} {x} {old} {new} a b finds =
    let Same : Amount × Amount → Type 0 = λ q. dths x q.0 ≡ dths x q.1 in (
      λ same. (
        All-weaker (Contains old.amounts) Same
            (λ q among. All-contains Same new.amounts q same ((finds.amounts q).1 (inl among))) old.amounts
            (All-contains_itself old.amounts),
        equal-from_worth lists x a b finds.shapes
            (λ q stand. All-contains Same new.amounts q same ((finds.amounts q).1 (inr stand))),
      ),
      λ both.
          All-weaker (Contains new.amounts) Same
          (λ q among. elim ((finds.amounts q).0 among) [
            | inl early ↦ All-contains Same old.amounts q both.0 early
            | inr stand ↦ equal-worth lists x a b q both.1 stand
          ])
          new.amounts (All-contains_itself new.amounts),
    )

-- what holds of one more element
pub all-more : {X : Type 0} (P : X → Type 0) (xs : List X) (i : ℕ) (x : X) → i < length xs → x ≡ get_or xs i x
    → (All P (take i xs) × P x) ↔ All P (take (i + 1) xs)
all-more {X} P xs i x inside is =
    let more : take (i + 1) xs ≡ take i xs ++ x ∷ [] =
    take_more xs i x inside ∙ ap (λ (y : X). take i xs ++ y ∷ []) (sym is) in
    let Holds : List X → Type 0 = All P in (
      λ both. subst Holds (sym more) (All-push P (take i xs) x both.0 both.1),
      λ all.
          let each = subst Holds more all in
          (all-first P (take i xs) (x ∷ []) each, All-head P x [] (all-last P (take i xs) (x ∷ []) each)),
    )

-- where it does not hold of one element it does not hold of all
pub not-all : {X : Type 0} (P : X → Type 0) (xs : List X) (i : ℕ) (x : X) → i < length xs → x ≡ get_or xs i x
    → ¬ (P x) → ¬ (All P xs)
not-all P xs i x inside is none all = none (subst P (sym is) (all i x inside))
