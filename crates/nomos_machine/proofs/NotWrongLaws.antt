-- Typed states are not wrong.
use Rattle.std.proofs.Common.{cond, ◌≡◌, ◌∙◌, ◌≤◌, ◌<◌, inl, inr, ℕ, Bool, true, false, List, [], ◌∷◌, length, Contains, Option, Some, None, slice_get, refl, sym, subst, ap, arith}
use Rattle.std.specs.Option.{option_to_list}
use Rattle.std.proofs.lemmas.Bool.{cases_eq}
use Rattle.std.proofs.lemmas.List.Elements.{All-contains, Contains-append_right}
use Rattle.std.proofs.lemmas.List.Sums.{sum_by-cons}
use Rattle.std.proofs.lemmas.Option.{slice_get_within}
use Rattle.nomos_ir.specs.Order.{count_of}
use Rattle.nomos_ir.specs.Unfold.{Unfolds}
use Rattle.nomos_ir.specs.Unfold as heads
use Rattle.nomos_ir.specs.declared.code_node.CodeNode.{CodeNode}
use Rattle.nomos_ir.specs.declared.code_node.CodeNode.TheVariants as code
use Rattle.nomos_ir.specs.declared.declaration.ProcDecl.{ProcDecl}
use Rattle.nomos_ir.specs.declared.ids.TypeId.{TypeId}
use Rattle.nomos_ir.specs.declared.lists.ProgramLists.{ProgramLists}
use Rattle.nomos_ir.specs.declared.mode.Mode.{Mode}
use Rattle.nomos_ir.specs.declared.mode.Mode.TheVariants as mode
use Rattle.nomos_ir.specs.declared.type_node.TypeNode.{TypeNode}
use Rattle.nomos_ir.specs.declared.type_node.TypeNode.TheVariants as node
use Rattle.nomos_ir.proofs.NodeLaws.{type_node-at}
use Rattle.nomos_ir.proofs.PairedLaws.{paired-left}
use Rattle.nomos_types.specs.Acceptance.{Acceptance, IsAccepted}
use Rattle.nomos_types.specs.Amount.{dths}
use Rattle.nomos_types.specs.Modes.{HasMode, IsLinearMode, Allows}
use Rattle.nomos_types.specs.Typed.{IsWellFormed}
use Rattle.nomos_types.proofs.ModeLaws.{mode-exists, mode-unique, unfolding-keeps_mode}
use Rattle.nomos_types.proofs.OccurrenceLaws.{contained}
use Rattle.nomos_types.proofs.RowLaws.{row-inverted}
use Rattle.nomos_machine.specs.Objects.{provided, used, times, shared_of, shared_names, potential_of, free_purse}
use Rattle.nomos_machine.specs.State.{State, NameTypes, type_of}
use Rattle.nomos_machine.specs.TypedMessage.{Brings, GoesOnAt, MessageTyped, end}
use Rattle.nomos_machine.specs.TypedState.{ObjectTyped, IsTyped}
use Rattle.nomos_machine.specs.Wrong.{Needs, Wrong}
use Rattle.nomos_machine.specs.Wrong as wrong
use Rattle.nomos_machine.specs.declared.object.Message.{Message}
use Rattle.nomos_machine.specs.declared.object.Object.{Object}
use Rattle.nomos_machine.specs.declared.object.Object.TheVariants as object
use Rattle.nomos_machine.specs.declared.object.Payload.{Payload}
use Rattle.nomos_machine.specs.declared.object.PotentialList.{PotentialList}
use Rattle.nomos_machine.specs.declared.object.Process.{Process}
use Rattle.nomos_machine.proofs.GoesLaws.{process-typed, own-row, own-stands, own-matches}
use Rattle.nomos_machine.proofs.LinearLaws.{count-other}
use Rattle.nomos_machine.proofs.NameLaws.{contains-times}
use Rattle.nomos_machine.proofs.PutLaws.{contains-one}
use Rattle.nomos_machine.proofs.TalkLaws.{brings-linear, brings-keeps_mode}
use Rattle.nomos_machine.proofs.UnexpectedLaws.{is-received}

-- ---- a name that is provided has a type, which has a mode

-- what unfolds has a mode
unfolds-has_mode : {lists : ProgramLists} → IsWellFormed lists → (t : TypeId) (n : TypeNode) → Unfolds lists t.0 n
    → (m : Mode) × HasMode lists t m
unfolds-has_mode {lists} formed t n unfolds = mode-exists lists t formed.program (in_range t.0 n unfolds)
  where
    in_range : (i : ℕ) (k : TypeNode) → Unfolds lists i k → i < length lists.types
    in_range i k (heads.constructor _ _ found no_name) =
        let at = type_node-at lists i k found in
        slice_get_within lists.types i at.0 at.1
    in_range i k (heads.name _ id def _ found defined unfolds) =
        let at = type_node-at lists i (node.Named id) found in
        slice_get_within lists.types i at.0 at.1

-- the name has a type, and that has a mode
abbrev HasSomeMode : Acceptance → NameTypes → ℕ → Type 0
HasSomeMode a types name = (t : TypeId) × (type_of types name ≡ Some t) × (m : Mode) × HasMode a.program t m

module _ {a : Acceptance} (accepted : IsAccepted a) {s : State} (typed : IsTyped a s) where
  message-typed : (m : Message) → Contains s.objects (object.Message m) → MessageTyped a s.types m
  message-typed m there =
      All-contains (ObjectTyped a s.types (length s.balances)) s.objects (object.Message m) typed.each there

  from-has_mode : (m : Message) → MessageTyped a s.types m → HasSomeMode a s.types m.from
  from-has_mode m t =
      let (k, has) = unfolds-has_mode accepted.typed.formed t.own t.head t.unfolds in
      (t.own, t.found, k, has)

  next-has_mode : (next : Option ℕ) (goes : Option TypeId) (name : ℕ)
      → GoesOnAt a.program a.annotations s.types next goes → Contains (option_to_list next) name
      → HasSomeMode a s.types name
  next-has_mode (Some n) (Some t) name is among =
      subst (HasSomeMode a s.types) (contains-one n name among) (is.own, is.found, is.alike.mode, is.alike.left_mode)
  next-has_mode (Some n) None name is among = absurd is
  next-has_mode None goes name is among = absurd (omega (arith, among.1))

  provided-has_mode : (o : Object) (name : ℕ) → Contains s.objects o → Contains (provided o) name
      → HasSomeMode a s.types name
  provided-has_mode (object.Process p) name there among =
      let is = (process-typed typed there).matches.offers in
      subst (HasSomeMode a s.types) (contains-one p.offers name among)
      (is.own, is.found, is.alike.mode, is.alike.left_mode)
  provided-has_mode (object.Message m) name there among = by_way m.to_client among
    where
      t : MessageTyped a s.types m
      t = message-typed m there

      by_way : (way : Bool) → Contains (cond way (m.from ∷ []) (option_to_list m.next)) name
          → HasSomeMode a s.types name
      by_way true among = subst (HasSomeMode a s.types) (contains-one m.from name among) (from-has_mode m t)
      by_way false among = next-has_mode m.next t.goes name t.next among

  -- ---- a shared name has one provider

  module _ (name : ℕ) (own : TypeId) (found : type_of s.types name ≡ Some own)
      (at_s : HasMode a.program own mode.S) where
    -- no message provides it, since no talk that goes on has this mode, nor has the end of one
    no-message : (m : Message) → Contains s.objects (object.Message m) → Contains (provided (object.Message m)) name → ⊥
    no-message m there among = by_way m.to_client among
      where
        t : MessageTyped a s.types m
        t = message-typed m there

        unshared : (j : Mode) → IsLinearMode j → j ≡ mode.S → ⊥
        unshared j (inl at_r) is = absurd cc
        unshared j (inr at_l) is = absurd cc

        -- only a talk that ends does not go on
        ends-at : {way : Bool} {n : TypeNode} {brought : Payload} {gas : ℕ}
            → Brings a.program a.annotations s.types way n brought gas None → n ≡ node.One
        ends-at end = refl

        no-end : (n : TypeNode) → Unfolds a.program own.0 n → n ≡ node.One → ⊥
        no-end n unfolds is =
            let (u, stands, has) = unfolding-keeps_mode accepted.typed.formed.program accepted.typed.formed.contractive
            accepted.typed.formed.modes at_s unfolds
            in
            neither (subst (λ (e : TypeNode). Allows a.program mode.S e) is
            (accepted.typed.formed.modes.allowed u mode.S n has stands))
          where
            neither : Allows a.program mode.S node.One → ⊥
            neither (inl at_r) = cc
            neither (inr at_t) = cc

        -- the name is the one on which the message is read
        not-from : m.from ≡ name → (goes : Option TypeId)
            → Brings a.program a.annotations s.types m.to_client t.head m.payload m.purse goes → ⊥
        not-from same goes brings = by_end goes brings
          where
            one : t.own ≡ own
            one =
                let read : type_of s.types m.from ≡ Some t.own = t.found in
                cc

            unfolds : Unfolds a.program own.0 t.head
            unfolds = subst (λ (u : TypeId). Unfolds a.program u.0 t.head) one t.unfolds

            by_end : (goes : Option TypeId)
                → Brings a.program a.annotations s.types m.to_client t.head m.payload m.purse goes → ⊥
            by_end (Some u) brings = unshared mode.S (brings-linear accepted.typed.formed at_s unfolds brings) refl
            by_end None brings = no-end t.head unfolds (ends-at brings)

        -- the name is the one under which the talk goes on
        not-next : (next : Option ℕ) (goes : Option TypeId) → GoesOnAt a.program a.annotations s.types next goes
            → Brings a.program a.annotations s.types m.to_client t.head m.payload m.purse goes
            → Contains (option_to_list next) name → ⊥
        not-next (Some n) (Some u) is brings among =
            let (j, has) = unfolds-has_mode accepted.typed.formed t.own t.head t.unfolds in
            let linear = brings-linear accepted.typed.formed has t.unfolds brings in
            let goes_on = brings-keeps_mode accepted.typed.formed has t.unfolds brings in
            let same : n ≡ name = contains-one n name among in
            let there_too : type_of s.types name ≡ Some is.own =
            subst (λ (i : ℕ). type_of s.types i ≡ Some is.own) same is.found
            in
            let one : is.own ≡ own = cc in
            let own_mode : HasMode a.program own is.alike.mode =
            subst (λ (w : TypeId). HasMode a.program w is.alike.mode) one is.alike.left_mode
            in
            unshared j linear (mode-unique accepted.typed.formed.program goes_on is.alike.right_mode
            ∙ mode-unique accepted.typed.formed.program own_mode at_s)
        not-next (Some n) None is brings among = absurd is
        not-next None goes is brings among = absurd (omega (arith, among.1))

        by_way : (way : Bool) → Contains (cond way (m.from ∷ []) (option_to_list m.next)) name → ⊥
        by_way true among = not-from (contains-one m.from name among) t.goes t.brings
        by_way false among = not-next m.next t.goes t.next t.brings among

    -- a process that provides it stands for it
    provided-shared : (o : Object) → Contains s.objects o → count_of name (provided o) ≤ count_of name (shared_names o)
    provided-shared (object.Process p) there =
        elim (cases_eq p.offers name) [
          | inl same ↦
              let t = process-typed typed there in
              let offered = t.offered own (subst (λ (i : ℕ). type_of s.types i ≡ Some own) (sym same) found) in
              let is_s : p.mode ≡ mode.S = mode-unique accepted.typed.formed.program offered at_s in
              let stands = ap (λ (m : Mode). count_of name (shared_of m p.offers p.base)) is_s in
              omega (arith, stands)
          | inr other ↦
              let none = count-other name p.offers (λ is. other (sym is)) in
              omega (arith, none)
        ]
    provided-shared (object.Message m) there =
        elim (cases_eq (count_of name (provided (object.Message m))) 0) [
          | inl none ↦ omega (arith, none)
          | inr some ↦ absurd (no-message m there (contained name (provided (object.Message m)) (omega (arith, some))))
        ]

    provided-once : times provided s.objects name ≤ times shared_names s.objects name
    provided-once = summed s.objects (λ o there. provided-shared o there)
      where
        summed : (objects : List Object)
            → ((o : Object) → Contains objects o → count_of name (provided o) ≤ count_of name (shared_names o))
            → times provided objects name ≤ times shared_names objects name
        summed [] each = omega arith
        summed (o ∷ objects) each =
            let first = each o (0, omega arith, refl) in
            let rest = summed objects (λ e there. each e (Contains-append_right (o ∷ []) objects e there)) in
            omega (
              arith,
              sum_by-cons (λ (e : Object). count_of name (provided e)) o objects,
              sum_by-cons (λ (e : Object). count_of name (shared_names e)) o objects,
              first,
              rest,
            )

  once-owned : (name : ℕ) (t : TypeId) (m : Mode) → type_of s.types name ≡ Some t → HasMode a.program t m
      → times provided s.objects name ≤ 1
  once-owned name t mode.R found has = omega (arith, (typed.owned name t mode.R found has).0)
  once-owned name t mode.L found has = omega (arith, (typed.owned name t mode.L found has).0)
  once-owned name t mode.T found has = omega (arith, (typed.owned name t mode.T found has).0)
  once-owned name t mode.S found has =
      omega (arith, provided-once name t found has, (typed.owned name t mode.S found has).0)

  -- each name is provided once at most
  pub name-provided_once : (name : ℕ) → times provided s.objects name ≤ 1
  name-provided_once name =
      elim (cases_eq (times provided s.objects name) 0) [
        | inl none ↦ omega arith
        | inr some ↦
            let (o, there, among) = contains-times provided name s.objects (omega arith) in
            let (t, found, m, has) = provided-has_mode o name there among in
            once-owned name t m found has
      ]

  -- ---- users

  -- a name that is used exactly once and is no outside name has one user
  pub name-used_once : (name : ℕ) (t : TypeId) (m : Mode) → type_of s.types name ≡ Some t → HasMode a.program t m
      → IsLinearMode m → count_of name s.outside ≡ 0 → times used s.objects name ≡ 1
  name-used_once name t mode.R found has linear inside = omega (arith, (typed.owned name t mode.R found has).1, inside)
  name-used_once name t mode.L found has linear inside = (typed.owned name t mode.L found has).1
  name-used_once name t mode.T found has (inl is) inside = absurd cc
  name-used_once name t mode.T found has (inr is) inside = absurd cc
  name-used_once name t mode.S found has (inl is) inside = absurd cc
  name-used_once name t mode.S found has (inr is) inside = absurd cc

  -- an outside name is one once, and no object uses it
  pub outside-unused : (name : ℕ) → 1 ≤ count_of name s.outside
      → (times used s.objects name ≡ 0) × (count_of name s.outside ≡ 1)
  outside-unused name some =
      let (t, found, has) = typed.outside name some in
      let sum = (typed.owned name t mode.R found has).1 in
      (omega (arith, sum, some), omega (arith, sum, some))

  -- ---- gas

  -- what an instruction needs is free in the purse of its process
  pub gas-enough : {p : Process} (there : Contains s.objects (object.Process p)) (n : CodeNode) (needs : ℕ)
      → slice_get a.program.code p.code.0 ≡ Some n → Needs a p n needs → needs ≤ free_purse p
  gas-enough there _ _ stands (wrong.work at r next) =
      let (after, row) = own-row typed there accepted in
      let n : CodeNode = code.Work at r next in
      (row-inverted n (own-stands typed there n stands) row).0
  gas-enough there _ _ stands (wrong.pay at c r next) =
      let (after, row) = own-row typed there accepted in
      let n : CodeNode = code.Pay at c r next in
      let (t, pays_it, goes_on_so) = row-inverted n (own-stands typed there n stands) row in
      pays_it.enough
  gas-enough {p} there _ _ stands (wrong.add at v e w next l bound) =
      let (after, row) = own-row typed there accepted in
      let n : CodeNode = code.Add at v e w next in
      let (list, adds, goes_on_so) = row-inverted n (own-stands typed there n stands) row in
      let (own_list, held, is) = paired-left list ((own-matches typed there).held_lists w.0) adds.there in
      let same : own_list ≡ l = some-one (sym held ∙ bound) in
      let amount : own_list.amount ≡ list.amount = is.amount in
      let amounts = ap (λ (o : PotentialList). o.amount) same in
      let enough : list.amount ≤ free_purse p = adds.enough in
      omega (arith, amounts, amount, enough)
    where
      some-one : {x y : PotentialList} → Some x ≡ Some y → x ≡ y
      some-one is = cc
  gas-enough {p} there _ _ stands (wrong.spawn at v f args next d declared) =
      let (after, row) = own-row typed there accepted in
      let n : CodeNode = code.Spawn at v f args next in
      let (e, left, spawns, goes_on_so) = row-inverted n (own-stands typed there n stands) row in
      let same : e ≡ d = some-one (sym spawns.declared ∙ declared) in
      subst (λ (k : ProcDecl). dths a.annotations k.amount ≤ free_purse p) same spawns.enough
    where
      some-one : {x y : ProcDecl} → Some x ≡ Some y → x ≡ y
      some-one is = cc
  gas-enough {p} there _ _ stands (wrong.call at f args d declared) =
      let (after, row) = own-row typed there accepted in
      let n : CodeNode = code.Call at f args in
      let (calls, nothing_after) = row-inverted n (own-stands typed there n stands) row in
      let same : calls.d ≡ d = some-one (sym calls.declared ∙ declared) in
      subst (λ (k : ProcDecl). dths a.annotations k.amount ≤ free_purse p) same calls.enough
    where
      some-one : {x y : ProcDecl} → Some x ≡ Some y → x ≡ y
      some-one is = cc

-- ---- freedom from wrong states

pub typed-not_wrong : {a : Acceptance} {s : State} → IsAccepted a → IsTyped a s → ¬ (Wrong a s)
typed-not_wrong accepted typed (wrong.unexpected m p n c waiting there stands turns here way not_received) =
    not_received (is-received accepted typed there m waiting n c stands turns here way)
typed-not_wrong accepted typed (wrong.provided_twice name twice) =
    omega (arith, twice, name-provided_once accepted typed name)
typed-not_wrong accepted typed (wrong.not_used_once name t m found has linear inside other) =
    other (name-used_once accepted typed name t m found has linear inside)
typed-not_wrong accepted typed (wrong.used_outside name outside uses) =
    omega (arith, uses, (outside-unused accepted typed name outside).0)
typed-not_wrong {s = s} accepted typed (wrong.twice_outside name twice) =
    let some : 1 ≤ count_of name s.outside = omega (arith, twice) in
    omega (arith, twice, (outside-unused accepted typed name some).1)
typed-not_wrong accepted typed (wrong.lacks_gas p n needs there stands asks lacks) =
    let enough = gas-enough accepted typed there n needs stands asks in
    let covered : potential_of p ≤ p.purse = (process-typed typed there).covered in
    omega (arith, enough, covered, lacks)
