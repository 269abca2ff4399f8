-- What is typed of an object depends on the types of the names alone that it mentions.
use Rattle.std.proofs.Common.{◌≡◌, ◌==◌, cond, if◌then◌else◌, ◌∙◌, inl, inr, ℕ, Bool, true, false, List, [], ◌∷◌, ◌++◌, map, Contains, Option, Some, None, refl, sym, ap, subst, arith, eq-eqb}
use Rattle.std.proofs.lemmas.List.Elements.{Contains-append_cases, Contains-append_left, Contains-append_right}
use Rattle.std.proofs.lemmas.Map.Keys.{sorted_tail}
use Rattle.std.specs.Map.{keys_of}
use Rattle.std.specs.Option.{option_or, option_to_list}
use Rattle.nomos_ir.proofs.BindingLaws.{bound-after_unbind}
use Rattle.nomos_ir.specs.Bindings.{bound_to, unbind, by_number, IsAscending}
use Rattle.nomos_ir.specs.declared.ids.TypeId.{TypeId}
use Rattle.nomos_ir.specs.declared.ids.VarId.{VarId}
use Rattle.nomos_ir.specs.declared.lists.ProgramLists.{ProgramLists}
use Rattle.nomos_ir.specs.declared.type_node.TypeNode.{TypeNode}
use Rattle.nomos_types.specs.Acceptance.{Acceptance}
use Rattle.nomos_types.specs.Amount.{Annotations}
use Rattle.nomos_types.specs.Modes.{HasMode}
use Rattle.nomos_types.specs.Judgement.{Judgement}
use Rattle.nomos_machine.specs.Matching.{NameHasType, Matches, HasBase, ProcessTyped}
use Rattle.nomos_machine.specs.Objects.{mentioned, carried}
use Rattle.nomos_ir.specs.Paired.{Paired, both, neither}
use Rattle.nomos_machine.specs.State.{NameTypes, type_of}
use Rattle.nomos_machine.specs.TypedMessage.{Brings, GoesOnAt, MessageTyped, own_label, other_label, own_channel, other_channel, own_value, other_value, own_potential, other_potential, end}
use Rattle.nomos_machine.specs.TypedState.{ObjectTyped, HasVariables}
use Rattle.nomos_machine.proofs.PutLaws.{contains-one}
use Rattle.nomos_machine.specs.declared.object.Message.{Message}
use Rattle.nomos_machine.specs.declared.object.Object.{Object}
use Rattle.nomos_machine.specs.declared.object.Object.TheVariants as object
use Rattle.nomos_machine.specs.declared.object.Payload.{Payload}
use Rattle.nomos_machine.specs.declared.object.Process.{Process}

-- these names have the types in the second table that they have in the first
abbrev pub Keep : (ℕ → Type 0) → NameTypes → NameTypes → Type 0
Keep names types others = (name : ℕ) (t : TypeId) → names name → type_of types name ≡ Some t
    → type_of others name ≡ Some t

-- where both are there, they are related in another way
pub paired-weaker : {X Y : Type 0} (R S : X → Y → Type 0) (o : Option X) (r : Option Y) → Paired R o r
    → ((x : X) (y : Y) → o ≡ Some x → R x y → S x y) → Paired S o r
paired-weaker R S _ _ (both {x = x} {y = y} related) weaker = both (weaker x y refl related)
paired-weaker R S _ _ neither weaker = neither

module _ (lists : ProgramLists) (x : Annotations) (types others : NameTypes) where
  pub of_type-kept : (name : ℕ) (t : TypeId)
      → ((u : TypeId) → type_of types name ≡ Some u → type_of others name ≡ Some u)
      → NameHasType lists x types name t → NameHasType lists x others name t
  of_type-kept name t kept is = record { own = is.own; found = kept is.own is.found; alike = is.alike }

  pub brings-kept : (way : Bool) (node : TypeNode) (brought : Payload) (gas : ℕ) (goes : Option TypeId)
      → Keep (Contains (carried brought)) types others → Brings lists x types way node brought gas goes
      → Brings lists x others way node brought gas goes
  brings-kept _ _ _ _ _ kept (own_label branches l t goes) = own_label branches l t goes
  brings-kept _ _ _ _ _ kept (other_label branches l t goes) = other_label branches l t goes
  brings-kept _ _ _ _ _ kept (own_channel sent t name is) =
      own_channel sent t name (of_type-kept name sent (λ u found. kept name u (0, omega arith, refl) found) is)
  brings-kept _ _ _ _ _ kept (other_channel sent t name is) =
      other_channel sent t name (of_type-kept name sent (λ u found. kept name u (0, omega arith, refl) found) is)
  brings-kept _ _ _ _ _ kept (own_value kind t v has) = own_value kind t v has
  brings-kept _ _ _ _ _ kept (other_value kind t v has) = other_value kind t v has
  brings-kept _ _ _ _ _ kept (own_potential r t) = own_potential r t
  brings-kept _ _ _ _ _ kept (other_potential r t) = other_potential r t
  brings-kept _ _ _ _ _ kept end = end

  goes-kept : (next : Option ℕ) (goes : Option TypeId) → Keep (Contains (option_to_list next)) types others
      → GoesOnAt lists x types next goes → GoesOnAt lists x others next goes
  goes-kept (Some name) (Some t) kept goes = of_type-kept name t (λ u found. kept name u (0, omega arith, refl) found)
      goes
  goes-kept (Some name) None kept goes = goes
  goes-kept None (Some t) kept goes = goes
  goes-kept None None kept goes = goes

-- ---- which names an object mentions

pub mentions-offer : (p : Process) → Contains (mentioned (object.Process p)) p.offers
mentions-offer p = (0, omega arith, refl)

among-first : (t : Bool) (e : VarId × ℕ) (b : List (VarId × ℕ)) (v name : ℕ)
    → cond t (Some e.1) (bound_to v b) ≡ Some name
    → (bound_to v b ≡ Some name → Contains (map (λ d. d.1) b) name) → Contains (e.1 ∷ map (λ d. d.1) b) name
among-first true e b v name is rest =
    let same : e.1 ≡ name = cc in
    Contains-append_left (e.1 ∷ []) (map (λ d. d.1) b) name (0, omega arith, same)
among-first false e b v name is rest = Contains-append_right (e.1 ∷ []) (map (λ d. d.1) b) name (rest is)

-- what a variable is bound to is among all that is bound
pub bound-among : (b : List (VarId × ℕ)) (v name : ℕ) → bound_to v b ≡ Some name → Contains (map (λ e. e.1) b) name
bound-among [] v name is = absurd cc
bound-among (e ∷ b) v name is = among-first (e.0.0 == v) e b v name is (bound-among b v name)

pub mentions-channel : (p : Process) (v name : ℕ) → bound_to v p.channels ≡ Some name
    → Contains (mentioned (object.Process p)) name
mentions-channel p v name found =
    Contains-append_left (p.offers ∷ map (λ e. e.1) p.channels) (option_to_list p.base) name
    (Contains-append_right (p.offers ∷ []) (map (λ e. e.1) p.channels) name (bound-among p.channels v name found))

pub mentions-base : (p : Process) (base : ℕ) → p.base ≡ Some base → Contains (mentioned (object.Process p)) base
mentions-base p base is =
    Contains-append_right (p.offers ∷ map (λ e. e.1) p.channels) (option_to_list p.base) base
    (subst (λ (o : Option ℕ). Contains (option_to_list o) base) (sym is) (0, omega arith, refl))

-- a message mentions the name on which it is read, the next one, and the channel that it brings
data Part (from : ℕ) (next : Option ℕ) (brought : Payload) (name : ℕ) : Type 0 where
  on : Contains (from ∷ []) name → Part from next brought name
  onward : Contains (option_to_list next) name → Part from next brought name
  inside : Contains (carried brought) name → Part from next brought name

among-parts : (way : Bool) (from : ℕ) (next : Option ℕ) (brought : Payload) (name : ℕ) → Part from next brought name
    → Contains
    ((if way then from ∷ [] else option_to_list next)
    ++ ((if way then option_to_list next else from ∷ []) ++ carried brought) ++ []) name
among-parts true from next brought name (on there) =
    Contains-append_left ((from ∷ []) ++ (option_to_list next ++ carried brought)) [] name
    (Contains-append_left (from ∷ []) (option_to_list next ++ carried brought) name there)
among-parts true from next brought name (onward there) =
    Contains-append_left ((from ∷ []) ++ (option_to_list next ++ carried brought)) [] name
    (Contains-append_right (from ∷ []) (option_to_list next ++ carried brought) name
    (Contains-append_left (option_to_list next) (carried brought) name there))
among-parts true from next brought name (inside there) =
    Contains-append_left ((from ∷ []) ++ (option_to_list next ++ carried brought)) [] name
    (Contains-append_right (from ∷ []) (option_to_list next ++ carried brought) name
    (Contains-append_right (option_to_list next) (carried brought) name there))
among-parts false from next brought name (on there) =
    Contains-append_left (option_to_list next ++ ((from ∷ []) ++ carried brought)) [] name
    (Contains-append_right (option_to_list next) ((from ∷ []) ++ carried brought) name
    (Contains-append_left (from ∷ []) (carried brought) name there))
among-parts false from next brought name (onward there) =
    Contains-append_left (option_to_list next ++ ((from ∷ []) ++ carried brought)) [] name
    (Contains-append_left (option_to_list next) ((from ∷ []) ++ carried brought) name there)
among-parts false from next brought name (inside there) =
    Contains-append_left (option_to_list next ++ ((from ∷ []) ++ carried brought)) [] name
    (Contains-append_right (option_to_list next) ((from ∷ []) ++ carried brought) name
    (Contains-append_right (from ∷ []) (carried brought) name there))

pub mentions-from : (m : Message) → Contains (mentioned (object.Message m)) m.from
mentions-from m = among-parts m.to_client m.from m.next m.payload m.from (on (0, omega arith, refl))

pub mentions-next : (m : Message) (name : ℕ) → Contains (option_to_list m.next) name
    → Contains (mentioned (object.Message m)) name
mentions-next m name there = among-parts m.to_client m.from m.next m.payload name (onward there)

pub mentions-carried : (m : Message) (name : ℕ) → Contains (carried m.payload) name
    → Contains (mentioned (object.Message m)) name
mentions-carried m name there = among-parts m.to_client m.from m.next m.payload name (inside there)

-- ---- typed objects

module _ (a : Acceptance) (types others : NameTypes) where
  -- each name that the object mentions has the type that it had
  abbrev pub KeepsTypes : Object → Type 0
  KeepsTypes o = Keep (Contains (mentioned o)) types others

  pub matches-kept : (p : Process) (j : Judgement) → KeepsTypes (object.Process p)
      → Matches a.program a.annotations types p j → Matches a.program a.annotations others p j
  matches-kept p j kept matches = record {
    mode = matches.mode;
    code = matches.code;
    offers = of_type-kept a.program a.annotations types others p.offers j.offers
        (λ u found. kept p.offers u (mentions-offer p) found) matches.offers;
    values = matches.values;
    held_lists = matches.held_lists;
    channels = λ v. paired-weaker (NameHasType a.program a.annotations types)
        (NameHasType a.program a.annotations others)
        (bound_to v p.channels) (option_or (bound_to v j.shared) (bound_to v j.linear)) (matches.channels v)
        (λ name t bound is. of_type-kept a.program a.annotations types others name t
        (λ u found. kept name u (mentions-channel p v name bound) found) is);
  }

  base-kept : (p : Process) → KeepsTypes (object.Process p) → HasBase a.program types p → HasBase a.program others p
  base-kept p kept has = record {
    base = has.base;
    shared = λ b is.
        let (t, found, mode) = has.shared b is in
        (t, kept b t (mentions-base p b is) found, mode);
  }

  -- the name that a process offers has a type, and it is the same in both tables
  offered-kept : (p : Process) (own : TypeId) → type_of types p.offers ≡ Some own → KeepsTypes (object.Process p)
      → ((t : TypeId) → type_of types p.offers ≡ Some t → HasMode a.program t p.mode)
      → (t : TypeId) → type_of others p.offers ≡ Some t → HasMode a.program t p.mode
  offered-kept p own typed kept offered t found =
      let here : type_of others p.offers ≡ Some own = kept p.offers own (mentions-offer p) typed in
      let same : own ≡ t = cc in
      offered t (typed ∙ ap Some same)

  pub process-kept : (accounts : ℕ) (p : Process) → KeepsTypes (object.Process p) → ProcessTyped a types accounts p
      → ProcessTyped a others accounts p
  process-kept accounts p kept typed = record {
    place = typed.place;
    is_place = typed.is_place;
    matches = matches-kept p typed.place kept typed.matches;
    covered = typed.covered;
    derives = typed.derives;
    payer = typed.payer;
    offered = offered-kept p typed.matches.offers.own typed.matches.offers.found kept typed.offered;
    has_base = base-kept p kept typed.has_base;
  }

  message-kept : (m : Message) → KeepsTypes (object.Message m) → MessageTyped a types m → MessageTyped a others m
  message-kept m kept typed = record {
    own = typed.own;
    found = kept m.from typed.own (mentions-from m) typed.found;
    head = typed.head;
    unfolds = typed.unfolds;
    goes = typed.goes;
    brings = brings-kept a.program a.annotations types others m.to_client typed.head m.payload m.purse typed.goes
        (λ name t there found. kept name t (mentions-carried m name there) found) typed.brings;
    next = goes-kept a.program a.annotations types others m.next typed.goes
        (λ name t there found. kept name t (mentions-next m name there) found) typed.next;
  }

  pub object-kept : (accounts : ℕ) (o : Object) → KeepsTypes o → ObjectTyped a types accounts o
      → ObjectTyped a others accounts o
  object-kept accounts (object.Process p) kept typed = process-kept accounts p kept typed
  object-kept accounts (object.Message m) kept typed = message-kept m kept typed

-- ---- each name that a typed object mentions has a type

abbrev HasType : NameTypes → ℕ → Type 0
HasType types name = (t : TypeId) × (type_of types name ≡ Some t)

of_type-found : (lists : ProgramLists) (x : Annotations) (types : NameTypes) (name : ℕ) (t : TypeId)
    → NameHasType lists x types name t → HasType types name
of_type-found lists x types name t is = (is.own, is.found)

brings-typed : (lists : ProgramLists) (x : Annotations) (types : NameTypes) (way : Bool) (node : TypeNode)
    (brought : Payload)
    (gas : ℕ) (goes : Option TypeId) (name : ℕ) → Brings lists x types way node brought gas goes
    → Contains (carried brought) name → HasType types name
brings-typed lists x types _ _ _ _ _ name (own_label branches l t goes) there = absurd (omega (arith, there.1))
brings-typed lists x types _ _ _ _ _ name (other_label branches l t goes) there = absurd (omega (arith, there.1))
brings-typed lists x types _ _ _ _ _ name (own_channel sent t k is) there =
    subst (HasType types) (contains-one k name there) (of_type-found lists x types k sent is)
brings-typed lists x types _ _ _ _ _ name (other_channel sent t k is) there =
    subst (HasType types) (contains-one k name there) (of_type-found lists x types k sent is)
brings-typed lists x types _ _ _ _ _ name (own_value kind t v has) there = absurd (omega (arith, there.1))
brings-typed lists x types _ _ _ _ _ name (other_value kind t v has) there = absurd (omega (arith, there.1))
brings-typed lists x types _ _ _ _ _ name (own_potential r t) there = absurd (omega (arith, there.1))
brings-typed lists x types _ _ _ _ _ name (other_potential r t) there = absurd (omega (arith, there.1))
brings-typed lists x types _ _ _ _ _ name end there = absurd (omega (arith, there.1))

next-typed : (lists : ProgramLists) (x : Annotations) (types : NameTypes) (next : Option ℕ) (goes : Option TypeId)
    (name : ℕ)
    → GoesOnAt lists x types next goes → Contains (option_to_list next) name → HasType types name
next-typed lists x types (Some k) (Some t) name goes there =
    subst (HasType types) (contains-one k name there) (of_type-found lists x types k t goes)
next-typed lists x types (Some k) None name goes there = absurd goes
next-typed lists x types None goes name goes_on there = absurd (omega (arith, there.1))

parts-of : (way : Bool) (from : ℕ) (next : Option ℕ) (brought : Payload) (name : ℕ)
    → Contains
    ((if way then from ∷ [] else option_to_list next)
    ++ ((if way then option_to_list next else from ∷ []) ++ carried brought) ++ []) name
    → Part from next brought name
parts-of true from next brought name there =
    elim (Contains-append_cases ((from ∷ []) ++ (option_to_list next ++ carried brought)) [] name there) [
      | inl one ↦
          elim (Contains-append_cases (from ∷ []) (option_to_list next ++ carried brought) name one) [
            | inl first ↦ on first
            | inr others ↦
                elim (Contains-append_cases (option_to_list next) (carried brought) name others) [
                  | inl second ↦ onward second
                  | inr third ↦ inside third
                ]
          ]
      | inr none ↦ absurd (omega (arith, none.1))
    ]
parts-of false from next brought name there =
    elim (Contains-append_cases (option_to_list next ++ ((from ∷ []) ++ carried brought)) [] name there) [
      | inl one ↦
          elim (Contains-append_cases (option_to_list next) ((from ∷ []) ++ carried brought) name one) [
            | inl first ↦ onward first
            | inr others ↦
                elim (Contains-append_cases (from ∷ []) (carried brought) name others) [
                  | inl second ↦ on second
                  | inr third ↦ inside third
                ]
          ]
      | inr none ↦ absurd (omega (arith, none.1))
    ]

message-typed : (a : Acceptance) (types : NameTypes) (m : Message) (name : ℕ) → MessageTyped a types m
    → Part m.from m.next m.payload name → HasType types name
message-typed a types m name typed (on there) =
    subst (HasType types) (contains-one m.from name there) (typed.own, typed.found)
message-typed a types m name typed (onward there) =
    next-typed a.program a.annotations types m.next typed.goes name typed.next there
message-typed a types m name typed (inside there) =
    brings-typed a.program a.annotations types m.to_client typed.head m.payload m.purse typed.goes name typed.brings
    there

-- a variable is bound to each thing that stands in a map
unbound-first : (t : Bool) (v : ℕ) (e : VarId × ℕ) (b : List (VarId × ℕ)) (name : ℕ)
    → bound_to v (cond t b (e ∷ unbind v b)) ≡ None → bound_to v b ≡ Some name
    → cond t (Some e.1) (bound_to v b) ≡ Some name
unbound-first true v e b name none found = absurd (differ (sym none ∙ found))
  where
    differ : {X : Type 0} {x : X} → None ≡ Some x → ⊥
    differ same = cc
unbound-first false v e b name none found = found

pub bound-somewhere : (b : List (VarId × ℕ)) (name : ℕ) → IsAscending b → Contains (map (λ e. e.1) b) name
    → (v : ℕ) × (bound_to v b ≡ Some name)
bound-somewhere [] name ascending there = absurd (omega (arith, there.1))
bound-somewhere (e ∷ b) name ascending there =
    elim (Contains-append_cases (e.1 ∷ []) (map (λ d. d.1) b) name there) [
      | inl first ↦ (
        e.0.0,
        ap (λ t. cond t (Some e.1) (bound_to e.0.0 b)) (eq-eqb e.0.0 e.0.0 refl)
            ∙ ap Some (contains-one e.1 name first),
      )
      | inr further ↦
          let (v, found) = bound-somewhere b name (sorted_tail by_number e.0 (keys_of b) ascending) further in
          (v, unbound-first (e.0.0 == v) v e b name (bound-after_unbind v (e ∷ b) ascending) found)
    ]

paired-first : {X Y : Type 0} (R : X → Y → Type 0) (o : Option X) (r : Option Y) (x : X) → Paired R o r → o ≡ Some x
    → (y : Y) × R x y
paired-first R _ _ x (both {x = w} {y = y} related) is =
    let same : w ≡ x = cc in
    (y, subst (λ (u : _). R u y) same related)
paired-first R _ _ x neither is = absurd cc

-- each name that a typed object mentions has a type
pub object-typed : (a : Acceptance) (types : NameTypes) (accounts : ℕ) (o : Object) (name : ℕ) → HasVariables o
    → ObjectTyped a types accounts o → Contains (mentioned o) name → (t : TypeId) × (type_of types name ≡ Some t)
object-typed a types accounts (object.Process p) name variables typed there =
    elim (Contains-append_cases (p.offers ∷ map (λ e. e.1) p.channels) (option_to_list p.base) name there) [
      | inl front ↦
          elim (Contains-append_cases (p.offers ∷ []) (map (λ e. e.1) p.channels) name front) [
            | inl first ↦
                subst (HasType types) (contains-one p.offers name first)
                (of_type-found a.program a.annotations types p.offers typed.place.offers
                typed.matches.offers)
            | inr among ↦
                let (v, bound) = bound-somewhere p.channels name variables.channels among in
                let place = typed.place in
                let (t, is) = paired-first (NameHasType a.program a.annotations types) (bound_to v p.channels)
                (option_or (bound_to v place.shared) (bound_to v place.linear)) name (typed.matches.channels v) bound in
                of_type-found a.program a.annotations types name t is
          ]
      | inr last ↦ based-typed p.base refl last
    ]
  where
    based-typed : (o : Option ℕ) → p.base ≡ o → Contains (option_to_list o) name → HasType types name
    based-typed (Some b) is last =
        let (t, found, mode) = typed.has_base.shared b is in
        subst (HasType types) (contains-one b name last) (t, found)
    based-typed None is last = absurd (omega (arith, last.1))
object-typed a types accounts (object.Message m) name variables typed there =
    message-typed a types m name typed (parts-of m.to_client m.from m.next m.payload name there)
