-- Where each name that has a type is mentioned, there is nothing to tidy.
use Rattle.std.proofs.Common.{◌≡◌, ◌∙◌, ◌≤◌, ℕ, Bool, true, false, cond, List, [], ◌∷◌, filter, All, IsSome, refl, sym, ap, subst, inl, inr, arith}
use Rattle.std.proofs.lemmas.Bool.{cases_eq}
use Rattle.std.proofs.lemmas.List.Elements.{All-nil, All-cons, All-head, All-tail}
use Rattle.nomos_machine.specs.Change.{is_mentioned, tidied}
use Rattle.nomos_machine.specs.Objects.{mentioned, times}
use Rattle.nomos_machine.specs.State.{NameTypes, State, type_of}
use Rattle.nomos_machine.specs.declared.object.Object.{Object}
use Rattle.nomos_machine.proofs.NameLaws.{mentioned-told, type_of-first, type_of-further}
use Rattle.nomos_ir.specs.declared.ids.TypeId.{TypeId}

-- each name in the table has a type
all-typed : (P : ℕ → Type 0) (types : NameTypes) → ((name : ℕ) → IsSome (type_of types name) → P name)
    → All (λ t. P t.0) types
all-typed P [] told = All-nil (λ (t : ℕ × TypeId). P t.0)
all-typed P (e ∷ types) told =
    All-cons (λ (t : ℕ × TypeId). P t.0) e types (told e.0 (subst IsSome (sym (type_of-first e types e.0 refl)) refl))
    (all-typed P types (λ name some. told name (further name some)))
  where
    further : (name : ℕ) → IsSome (type_of types name) → IsSome (type_of (e ∷ types) name)
    further name some =
        elim (cases_eq e.0 name) [
          | inl same ↦ subst IsSome (sym (type_of-first e types name same)) refl
          | inr other ↦ subst IsSome (sym (type_of-further e types name other)) some
        ]

-- where all pass, all are kept
filter-all : {X : Type 0} (test : X → Bool) (xs : List X) → All (λ x. test x ≡ true) xs → filter test xs ≡ xs
filter-all test [] all = refl
filter-all test (x ∷ xs) all =
    ap (λ b. cond b (x ∷ filter test xs) (filter test xs)) (All-head (λ y. test y ≡ true) x xs all)
    ∙ ap (λ ys. x ∷ ys) (filter-all test xs (All-tail (λ y. test y ≡ true) x xs all))

-- a name that is counted is mentioned
is-mentioned : (objects : List Object) (name : ℕ) → 1 ≤ times mentioned objects name → is_mentioned objects name ≡ true
is-mentioned objects name some = at (is_mentioned objects name) (mentioned-told objects name).1
  where
    at : (b : Bool) → (b ≡ false → times mentioned objects name ≡ 0) → b ≡ true
    at true none = refl
    at false none = absurd (omega (arith, none refl))

pub tidied-same : (s : State)
    → ((name : ℕ) → IsSome (type_of s.types name) → 1 ≤ times mentioned s.objects name) → tidied s ≡ s
tidied-same s told =
    ap (λ (types : NameTypes). record s { types = types })
    (filter-all (λ (t : ℕ × TypeId). is_mentioned s.objects t.0) s.types
    (all-typed (λ name. is_mentioned s.objects name ≡ true) s.types
    (λ name some. is-mentioned s.objects name (told name some))))
