-- A change that fits a typed state leaves it typed.
use Rattle.std.proofs.Common.{cond, ◌≡◌, ◌∙◌, ◌<◌, ◌≤◌, ℕ, ◌+◌, Bool, true, false, List, [], ◌∷◌, ◌++◌, map, filter, length, All, Contains, Option, Some, None, IsSome, refl, sym, ap, subst, arith, append-nil}
use Rattle.std.proofs.lemmas.List.Elements.{All-nil, All-cons, All-contains, All-append, All-weaker, All-filter, All-contains_itself}
use Rattle.std.proofs.lemmas.List.Kept.{IsStrictlySortedBy-filter}
use Rattle.std.specs.List.Sorted.{IsStrictlySortedBy}
use Rattle.std.specs.Ordering.{nat_cmp}
use Rattle.std.specs.Option.{option_to_list}
use Rattle.nomos_ir.specs.Order.{count_of}
use Rattle.nomos_ir.specs.declared.ids.TypeId.{TypeId}
use Rattle.nomos_ir.specs.declared.mode.Mode.{Mode}
use Rattle.nomos_ir.specs.declared.mode.Mode.TheVariants as mode
use Rattle.nomos_types.proofs.AmountLaws.{all-first, all-last}
use Rattle.nomos_types.specs.Acceptance.{Acceptance}
use Rattle.nomos_types.specs.Modes.{HasMode}
use Rattle.nomos_machine.proofs.ChangeLaws.{Replaces, news, made-all, replaced-order, replaced-numbers}
use Rattle.nomos_machine.proofs.GasLaws.{paid_out-length, paid_in-length}
use Rattle.nomos_machine.proofs.NameLaws.{mentioned-told, times-contains, contains-times, type_of-kept, type_of-filtered, type_of-gone}
use Rattle.nomos_machine.proofs.ObjectLaws.{object-kept, object-typed, mentions-base}
use Rattle.nomos_machine.proofs.PutLaws.{InOrder, push-order}
use Rattle.nomos_machine.specs.Change.{Change, put_all, paid_out, is_mentioned, made, changed}
use Rattle.nomos_machine.specs.Objects.{object_number, shared_names, mentioned, times}
use Rattle.nomos_machine.specs.State.{State, NameTypes, type_of}
use Rattle.nomos_machine.specs.TypedState.{HasVariables, Numbered, IsOwned, ObjectTyped, LeadsToBase, at_base, further, InSection, IsTyped}
use Rattle.nomos_machine.specs.declared.object.Object.{Object}
use Rattle.nomos_machine.specs.declared.object.Object.TheVariants as object

-- as many objects stand for each name of mode S afterwards as before
abbrev pub KeepsShared : Acceptance → State → Change → Type 0
KeepsShared a s c =
    (name : ℕ) (t : TypeId) → type_of s.types name ≡ Some t → HasMode a.program t mode.S
    → times shared_names (made s c).objects name ≡ times shared_names s.objects name

-- What a change has to be so that a typed state stays typed. All is said of the state as it is made, before names that
-- nobody mentions leave the table of types.
pub record Fits (a : Acceptance) (s : State) (c : Change) : Type 0 where
  -- it replaces objects that are there, and what comes has the next number
  pub olds : List Object
  pub replaces : Replaces c.places s.objects olds
  pub numbered : All (λ o. object_number o ≡ s.next_object) (option_to_list c.comes)
  -- each object that comes is typed
  pub variables : All HasVariables (news c.places ++ option_to_list c.comes)
  pub typed : All (ObjectTyped a (made s c).types (length s.balances)) (news c.places ++ option_to_list c.comes)
  -- each name that is mentioned afterwards has the providers and users that its mode asks for
  pub owned : (name : ℕ) (t : TypeId) (m : Mode) → type_of (made s c).types name ≡ Some t → HasMode a.program t m
      → 1 ≤ times mentioned (made s c).objects name → IsOwned m (made s c) name
  -- no shared name is taken away
  pub keeps_shared : KeepsShared a s c
  -- outside names have mode R, and are mentioned
  pub outside : (name : ℕ) → 1 ≤ count_of name c.outside
      → (t : TypeId) × (type_of (made s c).types name ≡ Some t) × HasMode a.program t mode.R
      × (1 ≤ times mentioned (made s c).objects name)
  -- names of mode L that are mentioned afterwards stand in a section
  pub sections : (name : ℕ) (t : TypeId) → type_of (made s c).types name ≡ Some t → HasMode a.program t mode.L
      → 1 ≤ times mentioned (made s c).objects name → InSection a (made s c) name t

-- ---- the parts of a list

-- ---- numbers

order-with : (objects : List Object) (comes : Option Object) (n : ℕ) → InOrder objects
    → All (λ o. object_number o < n) objects
    → All (λ o. object_number o ≡ n) (option_to_list comes) → InOrder (objects ++ option_to_list comes)
order-with objects None n order below numbered = subst InOrder (sym (append-nil objects)) order
order-with objects (Some o) n order below numbered =
    let same : object_number o ≡ n = numbered 0 o (omega arith) in
    push-order object_number o objects order
    (All-weaker (λ e. object_number e < n) (λ e. object_number e < object_number o) (λ e lower. omega arith) objects
    below)

below-with : (objects : List Object) (comes : Option Object) (n : ℕ) → All (λ o. object_number o < n) objects
    → All (λ o. object_number o ≡ n) (option_to_list comes)
    → All (λ o. object_number o < n + length (option_to_list comes)) (objects ++ option_to_list comes)
below-with objects None n below numbered =
    let Below : Object → Type 0 = λ e. object_number e < n + 0 in
    All-append Below objects [] (All-weaker (λ e. object_number e < n) Below (λ e lower. omega arith) objects below)
    (All-nil Below)
below-with objects (Some o) n below numbered =
    let Below : Object → Type 0 = λ e. object_number e < n + 1 in
    let same : object_number o ≡ n = numbered 0 o (omega arith) in
    let here : Below o = omega arith in
    All-append Below objects (o ∷ [])
    (All-weaker (λ e. object_number e < n) Below (λ e lower. omega arith) objects below)
    (All-cons Below o [] here (All-nil Below))

-- ---- the table of types

names-filtered : (keeps : ℕ → Bool) (types : NameTypes)
    → map (λ e. e.0) (filter (λ e. keeps e.0) types) ≡ filter keeps (map (λ e. e.0) types)
names-filtered keeps [] = refl
names-filtered keeps (e ∷ types) = first (keeps e.0) (names-filtered keeps types)
  where
    first : (b : Bool) → map (λ d. d.0) (filter (λ d. keeps d.0) types) ≡ filter keeps (map (λ d. d.0) types)
        → map (λ d. d.0) (cond b (e ∷ filter (λ d. keeps d.0) types) (filter (λ d. keeps d.0) types))
        ≡ cond b (e.0 ∷ filter keeps (map (λ d. d.0) types)) (filter keeps (map (λ d. d.0) types))
    first true rest = ap (λ ks. e.0 ∷ ks) rest
    first false rest = rest

-- a table of types in order, all of whose names are below n
pub record IsTable (types : NameTypes) (n : ℕ) : Type 0 where
  pub order : IsStrictlySortedBy nat_cmp (map (λ t. t.0) types)
  pub below : All (λ t. t.0 < n) types

pub table-with : (types : NameTypes) (names : Option TypeId) (n : ℕ) → IsTable types n
    → IsTable (types ++ map (λ t. (n, t)) (option_to_list names)) (n + length (option_to_list names))
table-with types None n table =
    let Below : ℕ × TypeId → Type 0 = λ e. e.0 < n + 0 in
    let below : All Below types = All-weaker (λ e. e.0 < n) Below (λ e lower. omega arith) types table.below in
    let here : IsTable types (n + 0) = record { order = table.order; below = below } in
    subst (λ (ts : NameTypes). IsTable ts (n + 0)) (sym (append-nil types)) here
table-with types (Some t) n table =
    let Below : ℕ × TypeId → Type 0 = λ e. e.0 < n + 1 in
    let here : Below (n, t) = omega arith in
    record {
      order = push-order (λ (e : ℕ × TypeId). e.0) (n, t) types table.order table.below;
      below = All-append Below types ((n, t) ∷ [])
          (All-weaker (λ e. e.0 < n) Below (λ e lower. omega arith) types table.below)
          (All-cons Below (n, t) [] here (All-nil Below));
    }

table-filtered : (keeps : ℕ → Bool) (types : NameTypes) (n : ℕ) → IsTable types n
    → IsTable (filter (λ e. keeps e.0) types) n
table-filtered keeps types n table = record {
  order = subst (IsStrictlySortedBy nat_cmp) (sym (names-filtered keeps types))
      (IsStrictlySortedBy-filter nat_cmp keeps (map (λ t. t.0) types) table.order);
  below = All-filter (λ e. keeps e.0) (λ t. t.0 < n) types table.below;
}

-- ---- what is said of the state as it is made holds of it tidied

-- a name that is mentioned keeps its type
pub kept-mentioned : (s : State) (c : Change) (name : ℕ) → 1 ≤ times mentioned (made s c).objects name
    → type_of (changed s c).types name ≡ type_of (made s c).types name
kept-mentioned s c name some = told (is_mentioned (made s c).objects name) refl
  where
    told : (b : Bool) → is_mentioned (made s c).objects name ≡ b
        → type_of (changed s c).types name ≡ type_of (made s c).types name
    told true some_object = type_of-filtered (is_mentioned (made s c).objects) (made s c).types name some_object
    told false none = absurd (omega (arith, (mentioned-told (made s c).objects name).1 none))

-- a name that has a type is mentioned, and has it as the state is made
pub mentioned-kept : (s : State) (c : Change) (name : ℕ) (t : TypeId) → type_of (changed s c).types name ≡ Some t
    → (1 ≤ times mentioned (made s c).objects name) × (type_of (made s c).types name ≡ Some t)
mentioned-kept s c name t found = told (is_mentioned (made s c).objects name) refl
  where
    differ : None ≡ Some t → ⊥
    differ same = cc

    told : (b : Bool) → is_mentioned (made s c).objects name ≡ b
        → (1 ≤ times mentioned (made s c).objects name) × (type_of (made s c).types name ≡ Some t)
    told true some_object = (
      (mentioned-told (made s c).objects name).0 some_object,
      sym (type_of-filtered (is_mentioned (made s c).objects) (made s c).types name some_object) ∙ found,
    )
    told false none =
        absurd (differ (sym (type_of-gone (is_mentioned (made s c).objects) (made s c).types name none) ∙ found))

owned-tidied : (s : State) (c : Change) (name : ℕ) (m : Mode) → IsOwned m (made s c) name → IsOwned m (changed s c) name
owned-tidied s c name mode.R owned = owned
owned-tidied s c name mode.S owned = owned
owned-tidied s c name mode.L owned = owned
owned-tidied s c name mode.T owned = owned

-- the base to which a section leads is mentioned
leads-mentioned : (objects : List Object) (base name : ℕ) → LeadsToBase objects base name
    → 1 ≤ times mentioned objects base
leads-mentioned objects base _ (at_base p there mode is) =
    times-contains mentioned base objects (object.Process p) there (mentions-base p base is)
leads-mentioned objects base _ (further m name onward there provides end leads) =
    leads-mentioned objects base onward leads

section-tidied : (a : Acceptance) (s : State) (c : Change) (name : ℕ) (t : TypeId) → InSection a (made s c) name t
    → InSection a (changed s c) name t
section-tidied a s c name t section = record {
  base = section.base;
  leads = section.leads;
  shared = section.shared;
  found = kept-mentioned s c section.base (leads-mentioned (made s c).objects section.base name section.leads)
      ∙ section.found;
  synchronizing = section.synchronizing;
}

-- ---- the master law

module _ (a : Acceptance) (s : State) (c : Change) (typed : IsTyped a s) (fits : Fits a s c) where
  more : NameTypes
  more = map (λ t. (s.next_name, t)) (option_to_list c.next_type)

  made-typed : All (ObjectTyped a (made s c).types (length s.balances)) (made s c).objects
  made-typed =
      let Before : Object → Type 0 = ObjectTyped a s.types (length s.balances) in
      let After : Object → Type 0 = ObjectTyped a (made s c).types (length s.balances) in
      let stays : (o : Object) → Before o → After o = λ o. object-kept a s.types (made s c).types (length s.balances) o
      (λ name t there found. type_of-kept s.types (map (λ u. (s.next_name, u)) (option_to_list c.next_type)) name t
      found)
      in
      made-all After s c (All-weaker Before After stays s.objects typed.each)
      (all-first After (news c.places) (option_to_list c.comes) fits.typed)
      (all-last After (news c.places) (option_to_list c.comes) fits.typed)

  made-variables : All HasVariables (made s c).objects
  made-variables = made-all HasVariables s c typed.numbered.variables
      (all-first HasVariables (news c.places) (option_to_list c.comes) fits.variables)
      (all-last HasVariables (news c.places) (option_to_list c.comes) fits.variables)

  same-accounts : length (changed s c).balances ≡ length s.balances
  same-accounts = paid_in-length c.gets (paid_out c.gives s.balances) ∙ paid_out-length c.gives s.balances

  numbered-again : Numbered (changed s c)
  numbered-again =
      let order = replaced-order c.places s.objects fits.olds fits.replaces typed.numbered.ascending in
      let below = replaced-numbers (λ n. n < s.next_object) c.places s.objects fits.olds fits.replaces
      typed.numbered.below in
      let over = replaced-numbers (λ n. 0 < n) c.places s.objects fits.olds fits.replaces typed.numbered.over in
      let first : 0 < s.next_object = typed.numbered.next in
      let Over : Object → Type 0 = λ o. 0 < object_number o in
      let coming : All Over (option_to_list c.comes) =
      All-weaker (λ o. object_number o ≡ s.next_object) Over (λ o same. omega arith) (option_to_list c.comes)
      fits.numbered
      in
      let table = table-filtered (is_mentioned (made s c).objects) (made s c).types
      (s.next_name + length (option_to_list c.next_type))
      (table-with s.types c.next_type s.next_name
      (record { order = typed.numbered.table; below = typed.numbered.names }))
      in
      record {
        ascending = order-with (put_all c.places s.objects) c.comes s.next_object order below fits.numbered;
        over = All-append Over (put_all c.places s.objects) (option_to_list c.comes) over coming;
        below = below-with (put_all c.places s.objects) c.comes s.next_object below fits.numbered;
        next = omega arith;
        table = table.order;
        names = table.below;
        typed = λ name. (mentions name, has name);
        variables = made-variables;
      }
    where
      mentions : (name : ℕ) → IsSome (type_of (changed s c).types name) → 1 ≤ times mentioned (changed s c).objects name
      mentions name some = told (type_of (changed s c).types name) refl some
        where
          told : (o : Option TypeId) → type_of (changed s c).types name ≡ o → IsSome o
              → 1 ≤ times mentioned (changed s c).objects name
          told (Some t) found is = (mentioned-kept s c name t found).0
          told None found is = absurd cc

      has : (name : ℕ) → 1 ≤ times mentioned (changed s c).objects name → IsSome (type_of (changed s c).types name)
      has name some =
          let (o, there, among) = contains-times mentioned name (made s c).objects some in
          let (t, found) = object-typed a (made s c).types (length s.balances) o name
          (All-contains HasVariables (made s c).objects o made-variables there)
          (All-contains (ObjectTyped a (made s c).types (length s.balances)) (made s c).objects o made-typed there)
          among
          in
          subst IsSome (sym (kept-mentioned s c name some ∙ found)) refl

  each-again : All (ObjectTyped a (changed s c).types (length (changed s c).balances)) (changed s c).objects
  each-again =
      let Made : Object → Type 0 = ObjectTyped a (made s c).types (length s.balances) in
      let After : Object → Type 0 = ObjectTyped a (changed s c).types (length (changed s c).balances) in
      let stays : (o : Object) → Contains (made s c).objects o → After o = λ o there.
      subst (λ (n : ℕ). ObjectTyped a (changed s c).types n o) (sym same-accounts)
      (object-kept a (made s c).types (changed s c).types (length s.balances) o
      (λ name t among found. kept-mentioned s c name (times-contains mentioned name (made s c).objects o there among)
      ∙ found)
      (All-contains Made (made s c).objects o made-typed there))
      in
      All-weaker (Contains (made s c).objects) After stays (made s c).objects (All-contains_itself (made s c).objects)

  pub changed-typed : IsTyped a (changed s c)
  changed-typed = record {
    numbered = numbered-again;
    owned = λ name t m found mode.
        let (some, before) = mentioned-kept s c name t found in
        owned-tidied s c name m (fits.owned name t m before mode some);
    outside = λ name some.
        let (t, found, mode, there) = fits.outside name some in
        (t, kept-mentioned s c name there ∙ found, mode);
    each = each-again;
    sections = λ name t found mode.
        let (some, before) = mentioned-kept s c name t found in
        section-tidied a s c name t (fits.sections name t before mode some);
  }
