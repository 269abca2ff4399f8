-- A state with a message and an acquired contract that is not wrong, and for each way to be wrong one that is, by one
-- thing changed.
use Rattle.std.proofs.Common.{◌≡◌, ◌≢◌, ◌∙◌, ◌≤◌, ◌⊎◌, inl, inr, ℕ, zero, suc, Bool, cond, List, [], ◌∷◌, All, Contains, Some, None, slice_get, pos, refl, sym, subst, ap, arith, ne_eqb}
use Rattle.std.proofs.lemmas.List.Elements.{All-nil, All-cons, All-contains}
use Rattle.nomos_ir.specs.Naming.{AllDiffer}
use Rattle.nomos_ir.specs.Nodes.{type_node}
use Rattle.nomos_ir.specs.Order.{count_of}
use Rattle.nomos_ir.specs.Value.{int}
use Rattle.nomos_ir.specs.declared.amount.Amount.TheVariants.{Written}
use Rattle.nomos_ir.specs.declared.code_node.Args.{Args}
use Rattle.nomos_ir.specs.declared.code_node.Chan.TheVariants as chan
use Rattle.nomos_ir.specs.declared.code_node.CodeNode.{CodeNode}
use Rattle.nomos_ir.specs.declared.code_node.CodeNode.TheVariants as code
use Rattle.nomos_ir.specs.declared.code_node.ValueArg.TheVariants as arg
use Rattle.nomos_ir.specs.declared.ids.DefId.{DefId}
use Rattle.nomos_ir.specs.declared.ids.Label.{Label}
use Rattle.nomos_ir.specs.declared.ids.TypeId.{TypeId}
use Rattle.nomos_ir.specs.declared.mode.Mode.{Mode}
use Rattle.nomos_ir.specs.declared.mode.Mode.TheVariants as mode
use Rattle.nomos_ir.specs.declared.type_node.TypeNode.{TypeNode}
use Rattle.nomos_ir.specs.declared.type_node.TypeNode.TheVariants as node
use Rattle.nomos_types.specs.Amount.{dths}
use Rattle.nomos_types.specs.Modes.{HasMode, whole, part, IsLinearMode, part_modes, whole_modes}
use Rattle.nomos_types.proofs.OccurrenceLaws.{one_at, contains-cases, differ-once}
use Rattle.nomos_machine.specs.Objects.{provided, used, times, potential_of}
use Rattle.nomos_machine.specs.RowPrograms.{type_id, var_id, code_id, label_id, helper, every_row, ringer, visitor, bells}
use Rattle.nomos_machine.specs.RowStates.{stands_at, having, using_one, five, given_list, for_client, for_provider, small_state, two_names, by_itself}
use Rattle.nomos_machine.specs.Run.{run}
use Rattle.nomos_machine.specs.Starting.{opened, started}
use Rattle.nomos_machine.specs.State.{State, empty, type_of}
use Rattle.nomos_machine.specs.Wrong.{Wrong, Needs, work, pay, add, spawn, call, Receives, turns_to}
use Rattle.nomos_machine.specs.Wrong as wrong
use Rattle.nomos_machine.specs.declared.object.Message.{Message}
use Rattle.nomos_machine.specs.declared.object.Object.{Object}
use Rattle.nomos_machine.specs.declared.object.Object.TheVariants as object
use Rattle.nomos_machine.specs.declared.object.Payload.TheVariants as payload
use Rattle.nomos_machine.specs.declared.object.Process.{Process}
use Rattle.nomos_machine.proofs.NameLaws.{type_of-further}
use Rattle.nomos_machine.proofs.PutLaws.{contains-one}

-- the contract, acquired, which waits for a label
abbrev acquired : Process
acquired = record (stands_at 2) { mode = mode.L; offers = 3; base = Some 1; payer = 0 }

-- the transaction that acquired it and rang, and has just what the next `work` needs
abbrev client : Process
client = record (having 3 (stands_at 6)) {
  pid = 2;
  mode = mode.T;
  values = (var_id 9, int (pos 0)) ∷ [];
  channels = (var_id 1, 1) ∷ (var_id 2, 4) ∷ [];
  offers = 2;
  payer = 0;
}

abbrev ring : Message
ring = for_provider 3 3 4 (payload.Label (label_id 0))

abbrev ringing : Process → Process → Message → State
ringing p q m = record {
  objects = object.Process p ∷ object.Process q ∷ object.Message m ∷ [];
  next_object = 4;
  next_name = 5;
  types = (1, type_id 4) ∷ (2, type_id 6) ∷ (3, type_id 1) ∷ (4, type_id 2) ∷ [];
  balances = 7 ∷ [];
  spent = 0;
  results = [];
  outside = [];
}

-- the two of them and the message
abbrev rung : State
rung = ringing acquired client ring

-- a run comes to it: both are started, and the client acquires and sends
reached : run bells
    (started bells (started bells (opened empty 10) ringer [] [] 0) visitor [] ((var_id 1, 1) ∷ []) 0)
    (2 ∷ 2 ∷ [])
    ≡ Some rung
reached = refl

-- ---- it is not wrong

-- each name is provided once at most
provided_once : (name : ℕ) → times provided rung.objects name ≤ 1
provided_once zero = omega arith
provided_once (suc zero) = omega arith
provided_once (suc (suc zero)) = omega arith
provided_once (suc (suc (suc zero))) = omega arith
provided_once (suc (suc (suc (suc zero)))) = omega arith
provided_once (suc (suc (suc (suc (suc n))))) =
    let name : ℕ = suc (suc (suc (suc (suc n)))) in
    omega (arith, apart 3 name (omega arith), apart 2 name (omega arith), apart 4 name (omega arith))
  where
    apart : (k name : ℕ) → k ≢ name → one_at name k ≡ 0
    apart k name other = ap (λ (b : Bool). cond b 1 0) (ne_eqb k name other)

-- each name that has a type is used once, but for the one that the transaction offers
used_once : (name : ℕ) (t : TypeId) → type_of rung.types name ≡ Some t
    → (t.0 ≡ 6) ⊎ (times used rung.objects name ≡ 1)
used_once zero t found = absurd cc
used_once (suc zero) t found = inr refl
used_once (suc (suc zero)) t found = let is : type_id 6 ≡ t = cc in inl (ap (λ (u : TypeId). u.0) (sym is))
used_once (suc (suc (suc zero))) t found = inr refl
used_once (suc (suc (suc (suc zero)))) t found = inr refl
used_once (suc (suc (suc (suc (suc n))))) t found =
    absurd (differ (sym (none (suc (suc (suc (suc (suc n))))) (omega arith)) ∙ found))
  where
    none : (name : ℕ) → 5 ≤ name → type_of rung.types name ≡ None
    none name over =
        type_of-further (1, type_id 4) ((2, type_id 6) ∷ (3, type_id 1) ∷ (4, type_id 2) ∷ []) name (omega arith)
        ∙ type_of-further (2, type_id 6) ((3, type_id 1) ∷ (4, type_id 2) ∷ []) name (omega arith)
        ∙ type_of-further (3, type_id 1) ((4, type_id 2) ∷ []) name (omega arith)
        ∙ type_of-further (4, type_id 2) [] name (omega arith)

    differ : None ≡ Some t → ⊥
    differ is = cc

-- and that one has neither mode R nor mode L: its type is no part of another one
abbrev IsAnother : TypeId × Mode → Type 0
IsAnother e = e.0.0 ≢ 6

no-parts : (m : Mode) (n : TypeNode) (d : DefId) → node.Named d ≡ n → All IsAnother (part_modes bells.program m n)
no-parts m n d is = subst (λ (o : TypeNode). All IsAnother (part_modes bells.program m o)) is (All-nil IsAnother)

parts_others : (k : ℕ) (m : Mode) (n : TypeNode) → type_node bells.program k ≡ Some n
    → All IsAnother (part_modes bells.program m n)
parts_others zero m n stands =
    let is : node.Up (type_id 1) ≡ n = cc in
    subst (λ (o : TypeNode). All IsAnother (part_modes bells.program m o)) is
    (All-cons IsAnother (type_id 1, mode.L) [] (omega arith) (All-nil IsAnother))
parts_others (suc zero) m n stands =
    let is : node.With (record { label = label_id 0; goes = type_id 2 } ∷ []) ≡ n = cc in
    subst (λ (o : TypeNode). All IsAnother (part_modes bells.program m o)) is
    (All-cons IsAnother (type_id 2, m) [] (omega arith) (All-nil IsAnother))
parts_others (suc (suc zero)) m n stands =
    let is : node.Down (type_id 3) ≡ n = cc in
    subst (λ (o : TypeNode). All IsAnother (part_modes bells.program m o)) is
    (All-cons IsAnother (type_id 3, mode.S) [] (omega arith) (All-nil IsAnother))
parts_others (suc (suc (suc zero))) m n stands = no-parts m n (record { 0 = 0 }) cc
parts_others (suc (suc (suc (suc zero)))) m n stands = no-parts m n (record { 0 = 0 }) cc
parts_others (suc (suc (suc (suc (suc zero))))) m n stands = no-parts m n (record { 0 = 0 }) cc
parts_others (suc (suc (suc (suc (suc (suc zero)))))) m n stands =
    let is : node.One ≡ n = cc in
    subst (λ (o : TypeNode). All IsAnother (part_modes bells.program m o)) is (All-nil IsAnother)
parts_others (suc (suc (suc (suc (suc (suc (suc k))))))) m n stands = absurd cc

offered-mode : {t : TypeId} {m : Mode} → HasMode bells.program t m → t.0 ≡ 6 → m ≡ mode.T
offered-mode {t} {m} (whole there) is =
    let Its : TypeId × Mode → Type 0 = λ e. e.0.0 ≡ 6 → e.1 ≡ mode.T in
    All-contains Its (whole_modes bells.program) (t, m)
    (All-cons Its (type_id 0, mode.S) ((type_id 5, mode.S) ∷ (type_id 4, mode.S) ∷ (type_id 6, mode.T) ∷ [])
    (λ same. absurd (omega (arith, same)))
    (All-cons Its (type_id 5, mode.S) ((type_id 4, mode.S) ∷ (type_id 6, mode.T) ∷ [])
    (λ same. absurd (omega (arith, same)))
    (All-cons Its (type_id 4, mode.S) ((type_id 6, mode.T) ∷ []) (λ same. absurd (omega (arith, same)))
    (All-cons Its (type_id 6, mode.T) [] (λ same. refl) (All-nil Its)))))
    there is
offered-mode {t} {m} (part outer n node has stands there) is =
    absurd
    (All-contains IsAnother (part_modes bells.program n node) (t, m) (parts_others outer.0 n node stands) there is)

-- which processes and messages there are
a-process : (p : Process) → Contains rung.objects (object.Process p) → (p ≡ acquired) ⊎ (p ≡ client)
a-process p there =
    let others : List Object = object.Process client ∷ object.Message ring ∷ [] in
    elim (contains-cases (object.Process acquired) (object.Process p) others there) [
      | inl is ↦ inl cc
      | inr further ↦
          elim (contains-cases (object.Process client) (object.Process p) (object.Message ring ∷ []) further) [
            | inl is ↦ inr cc
            | inr last ↦ absurd (differ (contains-one (object.Message ring) (object.Process p) last))
          ]
    ]
  where
    differ : object.Message ring ≡ object.Process p → ⊥
    differ is = cc

a-message : (m : Message) → Contains rung.objects (object.Message m) → m ≡ ring
a-message m there =
    let others : List Object = object.Process client ∷ object.Message ring ∷ [] in
    elim (contains-cases (object.Process acquired) (object.Message m) others there) [
      | inl is ↦ absurd (differ acquired is)
      | inr further ↦
          elim (contains-cases (object.Process client) (object.Message m) (object.Message ring ∷ []) further) [
            | inl is ↦ absurd (differ client is)
            | inr last ↦ let is = contains-one (object.Message ring) (object.Message m) last in same is
          ]
    ]
  where
    differ : (p : Process) → object.Process p ≡ object.Message m → ⊥
    differ p is = cc

    same : object.Message ring ≡ object.Message m → m ≡ ring
    same is = cc

-- ---- what they need, and what is received

abbrev waits : CodeNode
waits = code.Case 0 chan.Own (record { label = label_id 0; goes = code_id 1 } ∷ [])

abbrev works : CodeNode
works = code.Work 0 (Written 3) (code_id 5)

case-needs : (p : Process) (n : CodeNode) (needs : ℕ) → Needs bells p n needs → waits ≡ n → ⊥
case-needs p _ _ (work at r next) is = cc
case-needs p _ _ (pay at c r next) is = cc
case-needs p _ _ (add at v e w next l bound) is = cc
case-needs p _ _ (spawn at v f args next d declared) is = cc
case-needs p _ _ (call at f args d declared) is = cc

work-needs : (p : Process) (n : CodeNode) (needs : ℕ) → Needs bells p n needs → works ≡ n → needs ≡ 3
work-needs p _ _ (work at r next) is =
    let three : r ≡ Written 3 = cc in
    ap (dths bells.annotations) three
work-needs p _ _ (pay at c r next) is = absurd cc
work-needs p _ _ (add at v e w next l bound) is = absurd cc
work-needs p _ _ (spawn at v f args next d declared) is = absurd cc
work-needs p _ _ (call at f args d declared) is = absurd cc

stands-at : (p q : Process) (n : CodeNode) → slice_get bells.program.code p.code.0 ≡ Some n → p ≡ q
    → slice_get bells.program.code q.code.0 ≡ Some n
stands-at p q n stands is = subst (λ (r : Process). slice_get bells.program.code r.code.0 ≡ Some n) is stands

some-one : {X : Type 0} {x y : X} → Some x ≡ Some y → x ≡ y
some-one is = cc

-- The state that is reached is not wrong, nor would it be with outside names that differ and that nobody uses.
module _ (names : List ℕ) (differ : AllDiffer names)
    (unused : (name : ℕ) → 1 ≤ count_of name names → times used rung.objects name ≡ 0) where
  not_wrong : Wrong bells (record rung { outside = names }) → ⊥
  not_wrong (wrong.unexpected m p n c m_there p_there stands turns present way refuses) =
      elim (a-process p p_there) [
        | inl is ↦
            let at_case : waits ≡ n = some-one (stands-at p acquired n stands is) in
            let m_is : ring ≡ m = sym (a-message m m_there) in
            refuses (subst (λ (k : CodeNode). Receives bells k m.payload m.purse) at_case
            (subst (λ (k : Message). Receives bells waits k.payload k.purse) m_is (0, omega arith, refl)))
        | inr is ↦
            let at_work : works ≡ n = some-one (stands-at p client n stands is) in
            let none : Contains [] c = subst (λ (k : CodeNode). Contains (turns_to k) c) (sym at_work) turns in
            omega (arith, none.1)
      ]
  not_wrong (wrong.provided_twice name twice) = omega (arith, provided_once name, twice)
  not_wrong (wrong.not_used_once name t m found has linear inside other) =
      elim (used_once name t found) [
        | inl is ↦ neither (offered-mode has is) linear
        | inr once ↦ other once
      ]
    where
      neither : m ≡ mode.T → IsLinearMode m → ⊥
      neither at_t (inl at_r) = cc
      neither at_t (inr at_l) = cc
  not_wrong (wrong.used_outside name outside uses) = omega (arith, unused name outside, uses)
  not_wrong (wrong.twice_outside name twice) = omega (arith, differ-once name names differ, twice)
  not_wrong (wrong.lacks_gas p n needs there stands asks few) =
      elim (a-process p there) [
        | inl is ↦ case-needs p n needs asks (some-one (stands-at p acquired n stands is))
        | inr is ↦
            let three = work-needs p n needs asks (some-one (stands-at p client n stands is)) in
            let purse : p.purse ≡ 3 = ap (λ (q : Process). q.purse) is in
            let lists : potential_of p ≡ 0 = ap potential_of is in
            omega (arith, three, purse, lists, few)
      ]

reached-not_wrong : Wrong bells rung → ⊥
reached-not_wrong is =
    not_wrong [] (λ i j d before inside. absurd (omega arith)) (λ name outside. absurd (omega (arith, outside))) is

-- ---- one thing is changed, and it is

-- it gets a label for which it has no branch; a value; and anything at all, where it receives nothing
other_label : Wrong bells (ringing acquired client (record ring { payload = payload.Label (label_id 1) }))
other_label =
    wrong.unexpected (record ring { payload = payload.Label (label_id 1) }) acquired waits chan.Own
    (2, omega arith, refl) (0, omega arith, refl) refl (0, omega arith, refl) refl refl
    (λ received. differ (contains-one (label_id 0) (label_id 1) received))
  where
    differ : label_id 0 ≡ label_id 1 → ⊥
    differ same = omega (arith, ap (λ (l : Label). l.0) same)

value_for_label : Wrong bells (ringing acquired client (record ring { payload = payload.Value (int (pos 0)) }))
value_for_label =
    wrong.unexpected (record ring { payload = payload.Value (int (pos 0)) }) acquired waits chan.Own
    (2, omega arith, refl) (0, omega arith, refl) refl (0, omega arith, refl) refl refl (λ received. received)

not_receiving : Wrong bells (ringing (record acquired { code = code_id 1 }) client ring)
not_receiving =
    wrong.unexpected ring (record acquired { code = code_id 1 }) (code.Detach 0 (code_id 0)) chan.Own
    (2, omega arith, refl) (0, omega arith, refl) refl (0, omega arith, refl) refl refl (λ received. received)

-- a process and a message provide name 4
two_provide : Wrong bells (ringing (record acquired { offers = 4 }) client ring)
two_provide = wrong.provided_twice 4 (omega arith)

-- the talk has mode L, and nobody has its end, or somebody has it twice
talk-mode : HasMode bells.program (type_id 2) mode.L
talk-mode =
    part (type_id 1) mode.L (node.With (record { label = label_id 0; goes = type_id 2 } ∷ []))
    (part (type_id 0) mode.S (node.Up (type_id 1)) (whole (0, omega arith, refl)) refl (0, omega arith, refl)) refl
    (0, omega arith, refl)

lost : Wrong bells (ringing acquired (record client { channels = (var_id 1, 1) ∷ [] }) ring)
lost = wrong.not_used_once 4 (type_id 2) mode.L refl talk-mode (inr refl) refl (λ once. omega (arith, once))

held_twice : Wrong bells
    (ringing acquired (record client { channels = (var_id 1, 1) ∷ (var_id 2, 4) ∷ (var_id 3, 4) ∷ [] }) ring)
held_twice = wrong.not_used_once 4 (type_id 2) mode.L refl talk-mode (inr refl) refl (λ once. omega (arith, once))

-- an outside name is used, or stands twice; two that differ and are not used are nothing wrong
used_outside : Wrong bells (record rung { outside = 4 ∷ [] })
used_outside = wrong.used_outside 4 (omega arith) (omega arith)

outside_twice : Wrong bells (record rung { outside = 5 ∷ 5 ∷ [] })
outside_twice = wrong.twice_outside 5 (omega arith)

-- a Dth is lacking, or as much as a list carries
lacks_one : Wrong bells (ringing acquired (having 2 client) ring)
lacks_one =
    wrong.lacks_gas (having 2 client) works 3 (1, omega arith, refl) refl (work 0 (Written 3) (code_id 5)) (omega arith)

lacks_list : Wrong bells (ringing acquired (given_list 7 five client) ring)
lacks_list =
    wrong.lacks_gas (given_list 7 five client) works 3 (1, omega arith, refl) refl (work 0 (Written 3) (code_id 5))
    (omega arith)

-- ---- the other instructions that need gas or get it

less_than_awaited : Wrong every_row
    (small_state
    (two_names 0 17)
    (object.Process (using_one (stands_at 12))
    ∷ object.Message (record (for_client 3 2 4 payload.Pay) { purse = 2 })
    ∷ []))
less_than_awaited =
    wrong.unexpected (record (for_client 3 2 4 payload.Pay) { purse = 2 }) (using_one (stands_at 12))
    (code.Get 0 (chan.Var (var_id 1)) (Written 3) (code_id 0)) (chan.Var (var_id 1)) (1, omega arith, refl)
    (0, omega arith, refl) refl (0, omega arith, refl) refl refl (λ received. omega (arith, received))

-- so much is what is awaited
as_awaited : Receives every_row (code.Get 0 (chan.Var (var_id 1)) (Written 3) (code_id 0)) payload.Pay 3
as_awaited = refl

lacks_at_pay : Wrong every_row (by_itself 17 (having 2 (stands_at 11)))
lacks_at_pay =
    wrong.lacks_gas (having 2 (stands_at 11)) (code.Pay 0 chan.Own (Written 3) (code_id 0)) 3 (0, omega arith, refl)
    refl (pay 0 chan.Own (Written 3) (code_id 0)) (omega arith)

lacks_at_add : Wrong every_row (by_itself 0 (having 3 (given_list 4 five (stands_at 27))))
lacks_at_add =
    wrong.lacks_gas (having 3 (given_list 4 five (stands_at 27)))
    (code.Add 0 (var_id 5) (record { 0 = 2 }) (var_id 4) (code_id 0)) 2 (0, omega arith, refl) refl
    (add 0 (var_id 5) (record { 0 = 2 }) (var_id 4) (code_id 0) five refl) (omega arith)

abbrev handed : Args
handed = record { values = arg.Term (record { 0 = 2 }) ∷ arg.List (var_id 4) ∷ []; channels = var_id 1 ∷ [] }

lacks_at_spawn : Wrong every_row (by_itself 0 (stands_at 19))
lacks_at_spawn =
    wrong.lacks_gas (stands_at 19) (code.Spawn 0 (var_id 3) (record { 0 = 0 }) handed (code_id 0)) 1
    (0, omega arith, refl) refl (spawn 0 (var_id 3) (record { 0 = 0 }) handed (code_id 0) helper refl) (omega arith)

lacks_at_call : Wrong every_row (by_itself 0 (stands_at 24))
lacks_at_call =
    wrong.lacks_gas (stands_at 24) (code.Call 0 (record { 0 = 0 }) handed) 1 (0, omega arith, refl) refl
    (call 0 (record { 0 = 0 }) handed helper refl) (omega arith)
