-- Values that are put one by one.
use Rattle.std.proofs.Common.{◌≡◌, ◌≤◌, true, false, List, [], ◌∷◌, ◌++◌, length, Option, Some, None, Bool, refl, append_assoc, arith, nat_le}
use Rattle.std.proofs.lemmas.Bool.{leb-true, le-leb}
use Rattle.std.proofs.lemmas.List.{append-nil}
use Rattle.nomos_ir.specs.Value.{Value, value_list}
use Rattle.nomos_ir.specs.Weight.{weight, list_weight, max_weight}
use Rattle.nomos_script.specs.declared.value_reader.Awaited.{Awaited}
use Rattle.nomos_script.specs.declared.value_reader.Awaited.TheVariants as awaited
use Rattle.nomos_script.specs.mirror.ValueReading.{ReadValues, only_if, and_then, put_into}
use Rattle.nomos_script.proofs.WeightLemmas.{weight-append}

-- what was read
abbrev pub state : List Value → List (List Value) → Awaited → ReadValues
state values lists next = record { values = values; open_lists = lists; next = next }

-- the values, and the lists that are open, with more values in the innermost one
abbrev pub grow_values : List Value → List Value → List (List Value) → List Value
grow_values vs values [] = values ++ vs
grow_values vs values (inner ∷ outer) = values

abbrev pub grow_open : List Value → List (List Value) → List (List Value)
grow_open vs [] = []
grow_open vs (inner ∷ outer) = (inner ++ vs) ∷ outer

pub grow_values-nil : (values : List Value) (lists : List (List Value)) → grow_values [] values lists ≡ values
grow_values-nil values [] = append-nil values
grow_values-nil values (inner ∷ outer) = refl

pub grow_open-nil : (lists : List (List Value)) → grow_open [] lists ≡ lists
grow_open-nil [] = refl
grow_open-nil (inner ∷ outer) = rw append-nil refl

pub grow_values-more : (v : Value) (vs values : List Value) (lists : List (List Value))
    → grow_values vs (grow_values (v ∷ []) values lists) (grow_open (v ∷ []) lists) ≡ grow_values (v ∷ vs) values lists
grow_values-more v vs values [] = append_assoc values (v ∷ []) vs
grow_values-more v vs values (inner ∷ outer) = refl

pub grow_open-more : (v : Value) (vs : List Value) (lists : List (List Value))
    → grow_open vs (grow_open (v ∷ []) lists) ≡ grow_open (v ∷ vs) lists
grow_open-more v vs [] = refl
grow_open-more v vs (inner ∷ outer) = rw append_assoc refl

pub grow_open-length : (vs : List Value) (lists : List (List Value)) → length (grow_open vs lists) ≡ length lists
grow_open-length vs [] = refl
grow_open-length vs (inner ∷ outer) = refl

-- each of the values is light enough
abbrev pub AreLight : List Value → Type 0
AreLight [] = Unit {0}
AreLight (v ∷ vs) = (weight v ≤ max_weight) × AreLight vs

-- the innermost list, or the values, can take these values
abbrev pub Holds : List (List Value) → List Value → Type 0
Holds [] vs = AreLight vs
Holds (inner ∷ outer) vs = list_weight (value_list (inner ++ vs)) ≤ max_weight

-- or this one
abbrev pub CanPut : Value → List (List Value) → Type 0
CanPut v [] = Unit {0}
CanPut v (inner ∷ outer) = list_weight (value_list (inner ++ v ∷ [])) ≤ max_weight

pub holds-can : (v : Value) (vs : List Value) (lists : List (List Value)) → Holds lists (v ∷ vs) → CanPut v lists
holds-can v vs [] h = tt
holds-can v vs (inner ∷ outer) h = omega (arith, weight-append inner (v ∷ vs), weight-append inner (v ∷ []), h)

pub holds-light : (v : Value) (vs : List Value) (lists : List (List Value)) → Holds lists (v ∷ vs)
    → weight v ≤ max_weight
holds-light v vs [] h = h.0
holds-light v vs (inner ∷ outer) h = omega (arith, weight-append inner (v ∷ vs), h)

pub holds-rest : (v : Value) (vs : List Value) (lists : List (List Value)) → Holds lists (v ∷ vs)
    → Holds (grow_open (v ∷ []) lists) vs
holds-rest v vs [] h = h.1
holds-rest v vs (inner ∷ outer) h = rw append_assoc h

-- what can be put is put
pub put-can : (v : Value) (values : List Value) (lists : List (List Value)) → CanPut v lists
    → put_into v values lists
    ≡ Some (state (grow_values (v ∷ []) values lists) (grow_open (v ∷ []) lists) awaited.Separator)
put-can v values [] can = refl
put-can v values (inner ∷ outer) can = rw (le-leb (list_weight (value_list (inner ++ v ∷ []))) max_weight can) refl

-- what is given only where a test holds
pub only_if-some : {X : Type 0} (b : Bool) (x : Option X) (y : X) → only_if b x ≡ Some y → (b ≡ true) × (x ≡ Some y)
only_if-some true x y h = (refl, h)
only_if-some false x y h = absurd (cc)

pub and_then-some : {X Y : Type 0} (o : Option X) (f : X → Option Y) (y : Y) → and_then o f ≡ Some y
    → (x : X) × (o ≡ Some x) × (f x ≡ Some y)
and_then-some None f y h = absurd (cc)
and_then-some (Some x) f y h = (x, refl, h)

-- no open list is too heavy
abbrev pub AreLightLists : List (List Value) → Type 0
AreLightLists [] = Unit {0}
AreLightLists (inner ∷ outer) = (list_weight (value_list inner) ≤ max_weight) × AreLightLists outer

-- what was put could be put
pub was-put : (v : Value) (values : List Value) (lists : List (List Value)) (r : ReadValues)
    → put_into v values lists ≡ Some r → AreLightLists lists
    → (r ≡ state (grow_values (v ∷ []) values lists) (grow_open (v ∷ []) lists) awaited.Separator)
    × AreLightLists (grow_open (v ∷ []) lists)
was-put v values [] r h light = (cc, tt)
was-put v values (inner ∷ outer) r h light =
    let kept = only_if-some (nat_le (list_weight (value_list (inner ++ v ∷ []))) max_weight)
    (Some (state values ((inner ++ v ∷ []) ∷ outer) awaited.Separator)) r h in
    (cc kept.1, (leb-true (list_weight (value_list (inner ++ v ∷ []))) max_weight kept.0, light.1))
