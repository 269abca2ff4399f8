-- What a state becomes as names, objects and accounts come to it, one after the other.
use Rattle.std.proofs.Common.{◌≡◌, ◌∙◌, ◌≤◌, ◌+◌, ◌++◌, ◌∷◌, ℕ, List, [], All, length, refl, sym, ap, append_assoc, append-nil, zero-add, arith}
use Rattle.std.proofs.lemmas.List.Elements.{All-nil, All-cons}
use Rattle.nomos_ir.specs.declared.ids.TypeId.{TypeId}
use Rattle.nomos_contents.specs.Data.{IsOrdered, state_of}
use Rattle.nomos_contents.specs.declared.data.StateData.{StateData}
use Rattle.nomos_machine.specs.Objects.{object_number}
use Rattle.nomos_machine.specs.State.{State}
use Rattle.nomos_machine.specs.declared.object.Object.{Object}
use Rattle.nomos_restore.specs.Numbering.{AreNext, nothing_drawn}

-- so many names have come, and which number is drawn next
abbrev pub HasNames : State → List (ℕ × TypeId) → State → Type 0
HasNames first types now =
    now ≡ record first { next_name = now.next_name; types = first.types ++ types }

-- so many objects have
abbrev pub HasObjects : State → List Object → State → Type 0
HasObjects first objects now =
    now ≡ record first { next_object = now.next_object; objects = first.objects ++ objects }

module _ (first now after : State) where
  pub names-more : (types : List (ℕ × TypeId)) (t : ℕ × TypeId) → HasNames first types now
      → after ≡ record now { next_name = t.0 + 1; types = now.types ++ t ∷ [] } → HasNames first (types ++ t ∷ []) after
  names-more types t has comes =
      comes
      ∙ ap (λ (s : State). record s { next_name = t.0 + 1; types = s.types ++ t ∷ [] }) has
      ∙ ap (λ (all : List (ℕ × TypeId)). record first { next_name = t.0 + 1; types = all })
      (append_assoc first.types types (t ∷ []))
      ∙ ap (λ (n : ℕ). record first { next_name = n; types = first.types ++ (types ++ t ∷ []) })
      (sym (ap (λ (s : State). s.next_name) comes))

  pub objects-more : (objects : List Object) (o : Object) → HasObjects first objects now
      → after ≡ record now { next_object = object_number o + 1; objects = now.objects ++ o ∷ [] }
      → HasObjects first (objects ++ o ∷ []) after
  objects-more objects o has comes =
      comes
      ∙ ap (λ (s : State). record s { next_object = object_number o + 1; objects = s.objects ++ o ∷ [] }) has
      ∙ ap (λ (all : List Object). record first { next_object = object_number o + 1; objects = all })
      (append_assoc first.objects objects (o ∷ []))
      ∙ ap (λ (n : ℕ). record first { next_object = n; objects = first.objects ++ (objects ++ o ∷ []) })
      (sym (ap (λ (s : State). s.next_object) comes))

-- at last numbers are drawn further
module _ (first now last : State) where
  pub names-drawn : (types : List (ℕ × TypeId)) (number next_name : ℕ) → HasNames first types now
      → number ≡ now.next_object → last ≡ record now { next_object = number; next_name = next_name }
      → last ≡ record first { next_name = next_name; types = first.types ++ types }
  names-drawn types number next_name has own drawn =
      drawn
      ∙ ap (λ (n : ℕ). record now { next_object = n; next_name = next_name }) own
      ∙ ap (λ (s : State). record s { next_name = next_name }) has

  pub objects-drawn : (objects : List Object) (next_object name : ℕ) → HasObjects first objects now
      → name ≡ now.next_name → last ≡ record now { next_object = next_object; next_name = name }
      → last ≡ record first { next_object = next_object; objects = first.objects ++ objects }
  objects-drawn objects next_object name has own drawn =
      drawn
      ∙ ap (λ (n : ℕ). record now { next_object = next_object; next_name = n }) own
      ∙ ap (λ (s : State). record s { next_object = next_object }) has

-- ---- lists that are gone through

pub none_left : {X : Type 0} (xs : List X) → length xs ≡ 0 → xs ≡ []
none_left [] none = refl
none_left (x ∷ xs) none = absurd (omega arith)

-- where nothing is left, all have come
pub all-come : {X : Type 0} (come left all : List X) → left ≡ [] → come ++ left ≡ all → come ≡ all
all-come come left all none whole = sym (append-nil come) ∙ (ap (λ l. come ++ l) (sym none) ∙ whole)

-- ---- all of it

module _ (plain : StateData) (named filled opened burnt : State)
    (names : named ≡ record nothing_drawn { next_name = plain.next_name; types = plain.types })
    (objects : filled ≡ record named { next_object = plain.next_object; objects = named.objects ++ plain.objects })
    (accounts : opened ≡ record filled { balances = filled.balances ++ plain.balances })
    (spent : burnt ≡ record opened { spent = opened.spent + plain.spent }) where
  pub all-built : burnt ≡ state_of plain
  all-built =
      spent
      ∙ ap (λ (s : State). record s { spent = s.spent + plain.spent }) accounts
      ∙ ap (λ (s : State). record s { balances = s.balances ++ plain.balances; spent = s.spent + plain.spent }) objects
      ∙ ap (λ (s : State). record s {
        next_object = plain.next_object;
        objects = s.objects ++ plain.objects;
        balances = s.balances ++ plain.balances;
        spent = s.spent + plain.spent;
      }) names
      ∙ ap (λ (n : ℕ). record (state_of plain) { spent = n }) (zero-add plain.spent)

-- ---- what comes at first

all-from_nothing : {X : Type 0} (number_of : X → ℕ) (xs : List X) → All (λ x. 0 ≤ number_of x) xs
all-from_nothing number_of [] = All-nil (λ x. 0 ≤ number_of x)
all-from_nothing number_of (x ∷ xs) =
    let here : 0 ≤ number_of x = omega arith in
    All-cons (λ y. 0 ≤ number_of y) x xs here (all-from_nothing number_of xs)

module _ (plain : StateData) (is : IsOrdered plain) where
  pub first-names : AreNext (λ (t : ℕ × TypeId). t.0) 0 plain.next_name plain.types
  first-names = record {
    order = is.table;
    above = all-from_nothing (λ (t : ℕ × TypeId). t.0) plain.types;
    below = is.names;
  }

  pub first-objects : AreNext object_number 0 plain.next_object plain.objects
  first-objects = record {
    order = is.objects;
    above = all-from_nothing object_number plain.objects;
    below = is.below;
  }
