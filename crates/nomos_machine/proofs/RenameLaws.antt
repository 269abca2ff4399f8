-- An object that uses one name instead of another, whose types are alike, stays typed.
use Rattle.std.proofs.Common.{◌≡◌, ◌≢◌, ◌∙◌, inl, inr, ℕ, ◌+◌, cond, if◌then◌else◌, Bool, true, false, List, [], ◌∷◌, ◌++◌, map, Option, Some, None, refl, sym, subst, ap, arith, eq-eqb, ne_eqb}
use Rattle.std.proofs.lemmas.Bool.{cases_eq}
use Rattle.std.proofs.lemmas.List.{map-append}
use Rattle.std.specs.Option.{option_map, option_to_list}
use Rattle.nomos_ir.specs.Bindings.{bound_to}
use Rattle.nomos_ir.specs.Order.{count_of}
use Rattle.nomos_ir.specs.Paired.{Paired, both, neither}
use Rattle.nomos_ir.specs.Unfold.{Unfolds}
use Rattle.nomos_ir.specs.declared.ids.TypeId.{TypeId}
use Rattle.nomos_ir.specs.declared.ids.VarId.{VarId}
use Rattle.nomos_ir.specs.declared.type_node.TypeNode.{TypeNode}
use Rattle.nomos_ir.proofs.MappedLaws.{each-bound, each-ascending}
use Rattle.nomos_ir.proofs.PairedLaws.{paired-as}
use Rattle.nomos_types.specs.Acceptance.{Acceptance, IsAccepted}
use Rattle.nomos_types.specs.Alike.{AlikeTypes}
use Rattle.nomos_types.specs.Judgement.{type_held, count_one}
use Rattle.nomos_types.specs.Equality as alikes
use Rattle.nomos_types.specs.Equality.{BothOrNeither, SameBranches, SameHead, with, lolli, value_in, pot_in}
use Rattle.nomos_types.specs.Branches.{goes_by}
use Rattle.nomos_ir.specs.declared.type_node.Branch.{Branch}
use Rattle.nomos_ir.specs.declared.type_node.TypeNode.TheVariants as node
use Rattle.nomos_ir.specs.declared.ids.Label.{Label}
use Rattle.nomos_types.proofs.AlikeLaws.{alike_types-through, alike_types-back, alike_types-unfolded}
use Rattle.nomos_machine.specs.TypedMessage.{Brings, GoesOnAt, MessageTyped, own_label, other_label, own_channel, other_channel, own_value, other_value, own_potential, other_potential, end}
use Rattle.nomos_types.proofs.EqualityLaws.{equal-unfolded}
use Rattle.nomos_types.proofs.OccurrenceLaws.{count-here, count-elsewhere}
use Rattle.nomos_machine.specs.Matching.{NameHasType, ProcessTyped}
use Rattle.nomos_machine.specs.Objects.{object_number, provided, used, based, shared_names, carried}
use Rattle.nomos_machine.specs.Revised.{renamed, renamed_payload, uses_instead}
use Rattle.nomos_machine.specs.State.{NameTypes, type_of}
use Rattle.nomos_machine.specs.TypedState.{VariablesDiffer, HasVariables, ObjectTyped}
use Rattle.nomos_machine.specs.declared.object.Message.{Message}
use Rattle.nomos_machine.specs.declared.object.Object.{Object}
use Rattle.nomos_machine.specs.declared.object.Object.TheVariants as object
use Rattle.nomos_machine.specs.declared.object.Payload.{Payload}
use Rattle.nomos_machine.specs.declared.object.Payload.TheVariants as payload
use Rattle.nomos_machine.specs.declared.object.Process.{Process}

-- ---- counts of renamed names

module _ (old new : ℕ) where
  pub renamed-old : renamed old new old ≡ new
  renamed-old = ap (λ (t : Bool). cond t new old) (eq-eqb old old refl)

  pub renamed-other : (name : ℕ) → name ≢ old → renamed old new name ≡ name
  renamed-other name other = ap (λ (t : Bool). cond t new name) (ne_eqb name old other)

  -- a third name occurs as often as before
  pub renamed-third : (k : ℕ) (names : List ℕ) → k ≢ old → k ≢ new
      → count_of k (map (renamed old new) names) ≡ count_of k names
  renamed-third k [] not_old not_new = refl
  renamed-third k (n ∷ names) not_old not_new =
      let rest = renamed-third k names not_old not_new in
      elim (cases_eq n old) [
        | inl same ↦
            let is : renamed old new n ≡ new = ap (renamed old new) same ∙ renamed-old in
            let other : renamed old new n ≢ k = λ e. not_new (sym e ∙ is) in
            let before : n ≢ k = λ e. not_old (sym e ∙ same) in
            count-elsewhere k (renamed old new n) (map (renamed old new) names) (ne_eqb (renamed old new n) k other)
            ∙ rest ∙ sym (count-elsewhere k n names (ne_eqb n k before))
        | inr differ ↦
            let is : renamed old new n ≡ n = renamed-other n differ in
            kept k n (renamed old new n) is names (map (renamed old new) names) rest
      ]
    where
      kept : (k n m : ℕ) → m ≡ n → (xs ys : List ℕ) → count_of k ys ≡ count_of k xs
          → count_of k (m ∷ ys) ≡ count_of k (n ∷ xs)
      kept k n m is xs ys rest =
          elim (cases_eq n k) [
            | inl here ↦ count-here k m ys (is ∙ here) ∙ ap (λ (c : ℕ). 1 + c) rest ∙ sym (count-here k n xs here)
            | inr there ↦
                count-elsewhere k m ys (ne_eqb m k (λ e. there (sym is ∙ e))) ∙ rest
                ∙ sym (count-elsewhere k n xs (ne_eqb n k there))
          ]

  -- the old name does not occur
  pub renamed-gone : (names : List ℕ) → new ≢ old → count_of old (map (renamed old new) names) ≡ 0
  renamed-gone [] differ = refl
  renamed-gone (n ∷ names) differ =
      let other : renamed old new n ≢ old =
      elim (cases_eq n old) [
        | inl same ↦ λ e. differ (sym (ap (renamed old new) same ∙ renamed-old) ∙ e)
        | inr apart ↦ λ e. apart (sym (renamed-other n apart) ∙ e)
      ] in
      count-elsewhere old (renamed old new n) (map (renamed old new) names) (ne_eqb (renamed old new n) old other)
      ∙ renamed-gone names differ

  -- the new name occurs as often as both did
  pub renamed-new : (names : List ℕ) → new ≢ old
      → count_of new (map (renamed old new) names) ≡ count_of new names + count_of old names
  renamed-new [] differ = omega arith
  renamed-new (n ∷ names) differ =
      let rest = renamed-new names differ in
      elim (cases_eq n old) [
        | inl same ↦
            let is : renamed old new n ≡ new = ap (renamed old new) same ∙ renamed-old in
            let apart : n ≢ new = λ e. differ (sym e ∙ same) in
            let one = count-here new (renamed old new n) (map (renamed old new) names) is in
            let two = count-here old n names same in
            let three = count-elsewhere new n names (ne_eqb n new apart) in
            omega arith
        | inr apart ↦
            let is : renamed old new n ≡ n = renamed-other n apart in
            let two = count-elsewhere old n names (ne_eqb n old apart) in
            elim (cases_eq n new) [
              | inl here ↦
                  let one = count-here new (renamed old new n) (map (renamed old new) names) (is ∙ here) in
                  let three = count-here new n names here in
                  omega arith
              | inr there ↦
                  let one = count-elsewhere new (renamed old new n) (map (renamed old new) names)
                  (ne_eqb (renamed old new n) new (λ e. there (sym is ∙ e)))
                  in
                  let three = count-elsewhere new n names (ne_eqb n new there) in
                  omega arith
            ]
      ]

  -- a name for itself changes nothing
  pub renamed-itself : new ≡ old → (names : List ℕ) → map (renamed old new) names ≡ names
  renamed-itself same [] = refl
  renamed-itself same (n ∷ names) =
      elim (cases_eq n old) [
        | inl is ↦
            let here : renamed old new n ≡ n = ap (renamed old new) is ∙ renamed-old ∙ same ∙ sym is in
            ap (λ (k : ℕ). k ∷ map (renamed old new) names) here
            ∙ ap (λ (ks : List ℕ). n ∷ ks) (renamed-itself same names)
        | inr other ↦
            ap (λ (k : ℕ). k ∷ map (renamed old new) names) (renamed-other n other)
            ∙ ap (λ (ks : List ℕ). n ∷ ks) (renamed-itself same names)
      ]

  -- ---- what a renamed object does with names

  pub instead-number : (o : Object) → object_number (uses_instead old new o) ≡ object_number o
  instead-number (object.Process p) = refl
  instead-number (object.Message m) = refl

  pub instead-uses : (o : Object) → used (uses_instead old new o) ≡ map (renamed old new) (used o)
  instead-uses (object.Process p) = names p.channels
    where
      names : (b : List (VarId × ℕ))
          → map (λ (e : VarId × ℕ). e.1) (map (λ (e : VarId × ℕ). (e.0, renamed old new e.1)) b)
          ≡ map (renamed old new) (map (λ (e : VarId × ℕ). e.1) b)
      names [] = refl
      names (e ∷ b) = ap (λ (xs : List ℕ). renamed old new e.1 ∷ xs) (names b)
  instead-uses (object.Message m) = by_way m.to_client
    where
      inside : (brought : Payload) → carried (renamed_payload old new brought) ≡ map (renamed old new) (carried brought)
      inside (payload.Channel name) = refl
      inside (payload.Label l) = refl
      inside (payload.Value v) = refl
      inside payload.Pay = refl
      inside payload.Close = refl

      ends : (o : Option ℕ) → option_to_list (option_map (renamed old new) o) ≡ map (renamed old new) (option_to_list o)
      ends (Some n) = refl
      ends None = refl

      by_way : (way : Bool)
          → (if way then option_to_list (if way then option_map (renamed old new) m.next else m.next) else
          (if way then m.from else renamed old new m.from) ∷ []) ++ carried (renamed_payload old new m.payload)
          ≡ map (renamed old new) ((if way then option_to_list m.next else m.from ∷ []) ++ carried m.payload)
      by_way true =
          ap (λ (xs : List ℕ). xs ++ carried (renamed_payload old new m.payload)) (ends m.next)
          ∙ ap (λ (xs : List ℕ). map (renamed old new) (option_to_list m.next) ++ xs) (inside m.payload)
          ∙ sym (map-append (renamed old new) (option_to_list m.next) (carried m.payload))
      by_way false = ap (λ (xs : List ℕ). renamed old new m.from ∷ xs) (inside m.payload)

  pub instead-provides : (o : Object) → provided (uses_instead old new o) ≡ provided o
  instead-provides (object.Process p) = refl
  instead-provides (object.Message m) = by_way m.to_client
    where
      by_way : (way : Bool)
          → (if way then (if way then m.from else renamed old new m.from) ∷ [] else
          option_to_list (if way then option_map (renamed old new) m.next else m.next))
          ≡ (if way then m.from ∷ [] else option_to_list m.next)
      by_way true = refl
      by_way false = refl

  pub instead-end : (m : Message) → (way : Bool)
      → (if way then option_to_list (if way then option_map (renamed old new) m.next else m.next) else
      (if way then m.from else renamed old new m.from) ∷ [])
      ≡ map (renamed old new) (if way then option_to_list m.next else m.from ∷ [])
  instead-end m true = ends m.next
    where
      ends : (o : Option ℕ) → option_to_list (option_map (renamed old new) o) ≡ map (renamed old new) (option_to_list o)
      ends (Some n) = refl
      ends None = refl
  instead-end m false = refl

  pub instead-based : (o : Object) → based (uses_instead old new o) ≡ based o
  instead-based (object.Process p) = refl
  instead-based (object.Message m) = refl

  pub instead-stands : (o : Object) → shared_names (uses_instead old new o) ≡ shared_names o
  instead-stands (object.Process p) = refl
  instead-stands (object.Message m) = refl

-- ---- a renamed object is typed

module _ {a : Acceptance} (accepted : IsAccepted a) (types : NameTypes) (old new : ℕ) (old_type new_type : TypeId)
    (found_old : type_of types old ≡ Some old_type) (found_new : type_of types new ≡ Some new_type)
    (alike : AlikeTypes a.program a.annotations new_type old_type) where
  -- a name that has a type has it under its other name too
  renamed-has_type : (name : ℕ) (t : TypeId) → NameHasType a.program a.annotations types name t
      → NameHasType a.program a.annotations types (renamed old new name) t
  renamed-has_type name t has =
      elim (cases_eq name old) [
        | inl same ↦
            let found : type_of types old ≡ Some has.own = subst (λ (n : ℕ). type_of types n ≡ Some has.own) same
            has.found in
            let one : has.own ≡ old_type = cc in
            let through : AlikeTypes a.program a.annotations new_type t =
            alike_types-through accepted.typed.formed.program alike
            (subst (λ (u : TypeId). AlikeTypes a.program a.annotations u t) one has.alike)
            in
            let here : NameHasType a.program a.annotations types new t =
            record { own = new_type; found = found_new; alike = through }
            in
            let is : renamed old new name ≡ new = ap (renamed old new) same ∙ renamed-old old new in
            subst (λ (n : ℕ). NameHasType a.program a.annotations types n t) (sym is) here
        | inr other ↦
            subst (λ (n : ℕ). NameHasType a.program a.annotations types n t) (sym (renamed-other old new name other))
            has
      ]

  renamed-variables : (p : Process) → VariablesDiffer p
      → VariablesDiffer (record p { channels = map (λ e. (e.0, renamed old new e.1)) p.channels })
  renamed-variables p differ = record {
    values = differ.values;
    lists = differ.lists;
    channels = each-ascending (renamed old new) p.channels differ.channels;
    apart = λ v.
        let same = ap (λ (o : Option ℕ). count_one o) (each-bound (renamed old new) v p.channels) in
        let counts = counted (bound_to v p.channels) in
        omega (arith, differ.apart v);
  }
    where
      counted : (o : Option ℕ) → count_one (option_map (renamed old new) o) ≡ count_one o
      counted (Some n) = refl
      counted None = refl

  renamed-process : (accounts : ℕ) (p : Process) → ProcessTyped a types accounts p
      → ProcessTyped a types accounts (record p { channels = map (λ e. (e.0, renamed old new e.1)) p.channels })
  renamed-process accounts p t = record {
    place = t.place;
    is_place = t.is_place;
    matches = record {
      mode = t.matches.mode;
      code = t.matches.code;
      offers = t.matches.offers;
      values = t.matches.values;
      held_lists = t.matches.held_lists;
      channels = λ v. paired-as (each-bound (renamed old new) v p.channels) refl
          (pair (bound_to v p.channels) (type_held t.place v) (t.matches.channels v));
    };
    covered = t.covered;
    derives = t.derives;
    payer = t.payer;
    offered = t.offered;
    has_base = record { base = t.has_base.base; shared = t.has_base.shared };
  }
    where
      pair : (o : Option ℕ) (q : Option TypeId) → Paired (NameHasType a.program a.annotations types) o q
          → Paired (NameHasType a.program a.annotations types) (option_map (renamed old new) o) q
      pair _ _ (both {x = name} {y = u} has) = both (renamed-has_type name u has)
      pair _ _ neither = neither

  -- ---- messages

  renamed-brings : (way : Bool) (node : TypeNode) (brought : Payload) (gas : ℕ) (goes : Option TypeId)
      → Brings a.program a.annotations types way node brought gas goes
      → Brings a.program a.annotations types way node (renamed_payload old new brought) gas goes
  renamed-brings _ _ _ _ _ (own_label branches l t goes) = own_label branches l t goes
  renamed-brings _ _ _ _ _ (other_label branches l t goes) = other_label branches l t goes
  renamed-brings _ _ _ _ _ (own_channel sent t name is) = own_channel sent t (renamed old new name)
      (renamed-has_type name sent is)
  renamed-brings _ _ _ _ _ (other_channel sent t name is) =
      other_channel sent t (renamed old new name) (renamed-has_type name sent is)
  renamed-brings _ _ _ _ _ (own_value kind t v has) = own_value kind t v has
  renamed-brings _ _ _ _ _ (other_value kind t v has) = other_value kind t v has
  renamed-brings _ _ _ _ _ (own_potential r t) = own_potential r t
  renamed-brings _ _ _ _ _ (other_potential r t) = other_potential r t
  renamed-brings _ _ _ _ _ end = end

  -- two types that are alike, or neither
  abbrev AlikeRests : Option TypeId → Option TypeId → Type 0
  AlikeRests o q = Paired (AlikeTypes a.program a.annotations) o q

  branch-there : (others branches : List Branch) (l : Label) (t : TypeId)
      → BothOrNeither (AlikeTypes a.program a.annotations) (goes_by others l) (goes_by branches l)
      → goes_by branches l ≡ Some t
      → (u : TypeId) × (goes_by others l ≡ Some u) × AlikeTypes a.program a.annotations u t
  branch-there others branches l t pair found = at (goes_by others l) (goes_by branches l) pair found
    where
      at : (o q : Option TypeId) → BothOrNeither (AlikeTypes a.program a.annotations) o q → q ≡ Some t
          → (u : TypeId) × (o ≡ Some u) × AlikeTypes a.program a.annotations u t
      at _ _ (alikes.both u w related) is =
          let same : w ≡ t = cc in
          (u, refl, subst (λ (r : TypeId). AlikeTypes a.program a.annotations u r) same related)
      at _ _ alikes.neither is = absurd cc

  -- what goes to the provider fits each node that is alike
  brings-alike : (head other : TypeNode) (brought : Payload) (gas : ℕ) (goes : Option TypeId)
      → SameHead a.annotations (AlikeTypes a.program a.annotations) other head
      → Brings a.program a.annotations types false head brought gas goes
      → (rest : Option TypeId) × Brings a.program a.annotations types false other brought gas rest
      × AlikeRests rest goes
  brings-alike _ _ _ _ _ (with others branches same) (other_label _ l t goes) =
      let (u, found, alike_u) = branch-there others branches l t (same l) goes in
      (Some u, other_label others l u found, both alike_u)
  brings-alike _ _ _ _ _ (lolli c d e f first second) (other_channel _ _ name is) =
      (Some d, other_channel c d name (has-back name e c first is), both second)
    where
      has-back : (name : ℕ) (t u : TypeId) → AlikeTypes a.program a.annotations u t
          → NameHasType a.program a.annotations types name t → NameHasType a.program a.annotations types name u
      has-back name t u alike_u has = record {
        own = has.own;
        found = has.found;
        alike = alike_types-through accepted.typed.formed.program has.alike (alike_types-back alike_u);
      }
  brings-alike _ _ _ _ _ (value_in kind c d rest) (other_value _ _ v has) =
      (Some c, other_value kind c v has, both rest)
  brings-alike _ _ _ _ _ (pot_in q r c d amount rest) (other_potential _ _) = (
    Some c,
    subst (λ (g : ℕ). Brings a.program a.annotations types false (node.PotIn q c) payload.Pay g (Some c)) amount
        (other_potential q c),
    both rest,
  )
  brings-alike _ _ _ _ _ alikes.one brings = elim brings [ ]
  brings-alike _ _ _ _ _ (alikes.plus branches others same) brings = elim brings [ ]
  brings-alike _ _ _ _ _ (alikes.tensor b c d e first second) brings = elim brings [ ]
  brings-alike _ _ _ _ _ (alikes.value_out kind b c rest) brings = elim brings [ ]
  brings-alike _ _ _ _ _ (alikes.pot_out q r b c amount rest) brings = elim brings [ ]
  brings-alike _ _ _ _ _ (alikes.up b c rest) brings = elim brings [ ]
  brings-alike _ _ _ _ _ (alikes.down b c rest) brings = elim brings [ ]

  -- where the talk goes on is typed by an alike type too
  goes-alike : (next : Option ℕ) (rest goes : Option TypeId) → AlikeRests rest goes
      → GoesOnAt a.program a.annotations types next goes → GoesOnAt a.program a.annotations types next rest
  goes-alike (Some name) _ _ (both alike_u) has = record {
    own = has.own;
    found = has.found;
    alike = alike_types-through accepted.typed.formed.program has.alike (alike_types-back alike_u);
  }
  goes-alike None _ _ (both alike_u) has = has
  goes-alike next _ _ neither has = has

  renamed-next : (next : Option ℕ) (goes : Option TypeId) → GoesOnAt a.program a.annotations types next goes
      → GoesOnAt a.program a.annotations types (option_map (renamed old new) next) goes
  renamed-next (Some name) (Some t) has = renamed-has_type name t has
  renamed-next (Some name) None has = has
  renamed-next None (Some t) has = has
  renamed-next None None has = has

  -- a message to the provider is read on a name of an alike type, where that was renamed
  moved-message : (from : ℕ) (brought : Payload) (gas : ℕ) (next : Option ℕ) (own : TypeId) (head : TypeNode)
      (goes : Option TypeId) → type_of types from ≡ Some own → Unfolds a.program own.0 head
      → Brings a.program a.annotations types false head brought gas goes
      → GoesOnAt a.program a.annotations types next goes
      → (u : TypeId) × (h : TypeNode) × (rest : Option TypeId) × (type_of types (renamed old new from) ≡ Some u)
      × Unfolds a.program u.0 h × Brings a.program a.annotations types false h brought gas rest
      × GoesOnAt a.program a.annotations types next rest
  moved-message from brought gas next own head goes found unfolds brings goes_on =
      elim (cases_eq from old) [
        | inl same ↦
            let is : own ≡ old_type = one-type same in
            let here : Unfolds a.program old_type.0 head = subst (λ (u : TypeId). Unfolds a.program u.0 head) is
            unfolds in
            let back = alike_types-back alike in
            let formed = accepted.typed.formed in
            let (h, there, same_head) = equal-unfolded a.program a.annotations old_type new_type head back.equal here in
            let heads = alike_types-unfolded formed.program formed.contractive formed.modes alike there here in
            let (rest, brought_there, rests) = brings-alike head h brought gas goes heads brings in
            let name_is : renamed old new from ≡ new = ap (renamed old new) same ∙ renamed-old old new in (
              new_type,
              h,
              rest,
              ap (type_of types) name_is ∙ found_new,
              there,
              brought_there,
              goes-alike next rest goes rests goes_on,
            )
        | inr other ↦
            (own, head, goes, ap (type_of types) (renamed-other old new from other) ∙ found, unfolds, brings, goes_on)
      ]
    where
      one-type : from ≡ old → own ≡ old_type
      one-type same =
          let there : type_of types old ≡ Some own = subst (λ (n : ℕ). type_of types n ≡ Some own) same found in
          cc

  renamed-message : (m : Message) → MessageTyped a types m
      → MessageTyped a types (record m {
        from = if m.to_client then m.from else renamed old new m.from;
        next = if m.to_client then option_map (renamed old new) m.next else m.next;
        payload = renamed_payload old new m.payload;
      })
  renamed-message m t = by-way m.to_client refl
    where
      by-way : (way : Bool) → m.to_client ≡ way
          → MessageTyped a types (record m {
            from = if m.to_client then m.from else renamed old new m.from;
            next = if m.to_client then option_map (renamed old new) m.next else m.next;
            payload = renamed_payload old new m.payload;
          })
      by-way true is = record {
        own = t.own;
        found = subst (λ (w : Bool). type_of types (if w then m.from else renamed old new m.from) ≡ Some t.own) (sym is)
            t.found;
        head = t.head;
        unfolds = t.unfolds;
        goes = t.goes;
        brings = renamed-brings m.to_client t.head m.payload m.purse t.goes t.brings;
        next = subst (λ (w : Bool). GoesOnAt a.program a.annotations types
            (if w then option_map (renamed old new) m.next else m.next) t.goes) (sym is)
            (renamed-next m.next t.goes t.next);
      }
      by-way false is =
          let brings = subst (λ (w : Bool). Brings a.program a.annotations types w t.head
          (renamed_payload old new m.payload) m.purse t.goes) is
          (renamed-brings m.to_client t.head m.payload m.purse t.goes t.brings)
          in
          let (own, head, rest, found, unfolds, brought, goes_on) =
          moved-message m.from (renamed_payload old new m.payload) m.purse
          m.next t.own t.head t.goes t.found t.unfolds brings t.next
          in
          record {
            own = own;
            found = subst (λ (w : Bool). type_of types (if w then m.from else renamed old new m.from) ≡ Some own)
                (sym is) found;
            head = head;
            unfolds = unfolds;
            goes = rest;
            brings = subst (λ (w : Bool). Brings a.program a.annotations types w head
                (renamed_payload old new m.payload) m.purse rest) (sym is) brought;
            next = subst (λ (w : Bool). GoesOnAt a.program a.annotations types
                (if w then option_map (renamed old new) m.next else m.next) rest) (sym is) goes_on;
          }

  -- an object that uses the new name instead of the old one stays typed
  pub renamed-typed : (accounts : ℕ) (o : Object) → ObjectTyped a types accounts o
      → ObjectTyped a types accounts (uses_instead old new o)
  renamed-typed accounts (object.Process p) t = renamed-process accounts p t
  renamed-typed accounts (object.Message m) t = renamed-message m t

  pub renamed-differ : (o : Object) → HasVariables o → HasVariables (uses_instead old new o)
  renamed-differ (object.Process p) differ = renamed-variables p differ
  renamed-differ (object.Message m) differ = tt
