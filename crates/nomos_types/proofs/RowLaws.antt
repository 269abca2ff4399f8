-- Inversion: at an instruction the node fixes the line of the rules and its parts.
use Rattle.std.proofs.Common.{◌≡◌, ◌≤◌, ◌+◌, ◌-◌, List, [], ◌∷◌, refl, subst}
use Rattle.nomos_ir.specs.declared.code_node.Chan.TheVariants as chan
use Rattle.nomos_ir.specs.declared.code_node.CodeNode.{CodeNode}
use Rattle.nomos_ir.specs.declared.code_node.CodeNode.TheVariants as code
use Rattle.nomos_ir.specs.declared.declaration.ProcDecl.{ProcDecl}
use Rattle.nomos_ir.specs.declared.ids.TypeId.{TypeId}
use Rattle.nomos_ir.specs.declared.kind.Kind.{Kind}
use Rattle.nomos_ir.specs.declared.lists.ProgramLists.{ProgramLists}
use Rattle.nomos_ir.specs.declared.mode.Mode.{Mode}
use Rattle.nomos_ir.specs.declared.mode.Mode.TheVariants as mode
use Rattle.nomos_ir.specs.declared.type_node.TypeNode.TheVariants as node
use Rattle.nomos_ir.specs.Bindings.{unbind}
use Rattle.nomos_ir.specs.TermKind.{HasKind, bool_kind}
use Rattle.nomos_types.specs.Amount.{Annotations, dths}
use Rattle.nomos_types.specs.Judgement.{Judgement, ListType, IsFree, at_code, goes_on, with_potential, binds_value, binds_list, binds_channel}
use Rattle.nomos_types.specs.Premises.{HasType, SendsLabel, AwaitsLabel, SendsChannel, ReceivesChannel, SendsValue, ReceivesValue, Pays, Gets, Accepts, Detaches, Acquires, Releases, Spawns, Closes, Forwards, Calls, Adds, TakesApart}
use Rattle.nomos_types.specs.TypingRule.{StandsAtCode, gives_up, TypingRule, label, case, send, recv, put, take, pay, get, work, wait, accept, detach, acquire, release, spawn, «let», emit, choose, close, fwd, call, empty, add, match}

-- what a row says where this node stands
abbrev pub RowAt : ProgramLists → Annotations → Judgement → CodeNode → List Judgement → Type 0
RowAt lists x j (code.Label at c l next) after =
    (t : TypeId) × SendsLabel lists j c l t × (after ≡ goes_on j c t next ∷ [])
RowAt lists x j (code.Case at c arms) after = AwaitsLabel lists j c arms after
RowAt lists x j (code.Send at c y next) after =
    (left : Judgement) × (t : TypeId) × SendsChannel lists x j c y left t × (after ≡ goes_on left c t next ∷ [])
RowAt lists x j (code.Recv at c y next) after =
    (m : Mode) × (carried : TypeId) × (t : TypeId) × ReceivesChannel lists j c y m carried t
    × (after ≡ binds_channel (goes_on j c t next) y m carried ∷ [])
RowAt lists x j (code.Put at c e next) after =
    (t : TypeId) × SendsValue lists j c e t × (after ≡ goes_on j c t next ∷ [])
RowAt lists x j (code.Take at c v next) after =
    (kind : Kind) × (t : TypeId) × ReceivesValue lists j c v kind t
    × (after ≡ binds_value (goes_on j c t next) v kind ∷ [])
RowAt lists x j (code.Pay at c r next) after =
    (t : TypeId) × Pays lists x j c r t × (after ≡ with_potential (goes_on j c t next) (j.q - dths x r) ∷ [])
RowAt lists x j (code.Get at c r next) after =
    (t : TypeId) × Gets lists x j c r t × (after ≡ with_potential (goes_on j c t next) (j.q + dths x r) ∷ [])
RowAt lists x j (code.Work at r next) after =
    (dths x r ≤ j.q) × (after ≡ with_potential (at_code j next) (j.q - dths x r) ∷ [])
RowAt lists x j (code.Wait at v next) after =
    HasType lists j (chan.Var v) node.One × (after ≡ at_code (gives_up j v) next ∷ [])
RowAt lists x j (code.Accept at next) after =
    (t : TypeId) × Accepts lists j t × (after ≡ record j { mode = mode.L; offers = t; code = next } ∷ [])
RowAt lists x j (code.Detach at next) after =
    (t : TypeId) × Detaches lists j t × (after ≡ record j { mode = mode.S; offers = t; code = next } ∷ [])
RowAt lists x j (code.Acquire at a v next) after =
    (t : TypeId) × Acquires lists j a v t × (after ≡ binds_channel (at_code j next) v mode.L t ∷ [])
RowAt lists x j (code.Release at v a next) after =
    (t : TypeId) × Releases lists j v a t × (after ≡ binds_channel (at_code (gives_up j v) next) a mode.S t ∷ [])
RowAt lists x j (code.Spawn at v f args next) after =
    (d : ProcDecl) × (left : Judgement) × Spawns lists x j v f args d left
    × (after ≡ binds_channel (with_potential (at_code left next) (j.q - dths x d.amount)) v d.mode d.offers ∷ [])
RowAt lists x j (code.Let at v e next) after =
    (kind : Kind) × HasKind lists j.kinds e kind × IsFree j v × (after ≡ binds_value (at_code j next) v kind ∷ [])
RowAt lists x j (code.Emit at e next) after =
    (kind : Kind) × HasKind lists j.kinds e kind × (after ≡ at_code j next ∷ [])
RowAt lists x j (code.If at e then_next else_next) after =
    HasKind lists j.kinds e bool_kind × (after ≡ at_code j then_next ∷ at_code j else_next ∷ [])
RowAt lists x j (code.Close at) after = Closes lists j × (after ≡ [])
RowAt lists x j (code.Fwd at v) after = Forwards lists x j v × (after ≡ [])
RowAt lists x j (code.Call at f args) after = Calls lists x j f args × (after ≡ [])
RowAt lists x j (code.Empty at v r kind next) after =
    IsFree j v × (after ≡ binds_list (at_code j next) v (record { kind = kind; amount = dths x r }) ∷ [])
RowAt lists x j (code.Add at v e w next) after =
    (list : ListType) × Adds lists j v e w list
    × (after ≡ with_potential (binds_list (record (at_code j next) { lists = unbind w.0 j.lists }) v list)
    (j.q - list.amount) ∷ [])
RowAt lists x j (code.Match at w empty_next head tail full_next) after =
    (list : ListType) × TakesApart j w head tail list
    × (after ≡ record (at_code j empty_next) { lists = unbind w.0 j.lists } ∷
    with_potential (binds_value (binds_list (record (at_code j full_next) { lists = unbind w.0 j.lists }) tail list)
    head list.kind) (j.q + list.amount) ∷ [])

-- a row says that of the node that stands there
pub row-at : {lists : ProgramLists} {x : Annotations} {j : Judgement} {after : List Judgement}
    → TypingRule lists x j after
    → (n : CodeNode) × StandsAtCode lists j n × RowAt lists x j n after
row-at (label stands t h) = (_, stands, (t, h, refl))
row-at (case stands after h) = (_, stands, h)
row-at (send stands left t h) = (_, stands, (left, t, h, refl))
row-at (recv stands m carried t h) = (_, stands, (m, carried, t, h, refl))
row-at (put stands t h) = (_, stands, (t, h, refl))
row-at (take stands kind t h) = (_, stands, (kind, t, h, refl))
row-at (pay stands t h) = (_, stands, (t, h, refl))
row-at (get stands t h) = (_, stands, (t, h, refl))
row-at (work stands h) = (_, stands, (h, refl))
row-at (wait stands h) = (_, stands, (h, refl))
row-at (accept stands t h) = (_, stands, (t, h, refl))
row-at (detach stands t h) = (_, stands, (t, h, refl))
row-at (acquire stands t h) = (_, stands, (t, h, refl))
row-at (release stands t h) = (_, stands, (t, h, refl))
row-at (spawn stands d left h) = (_, stands, (d, left, h, refl))
row-at («let» stands kind h i) = (_, stands, (kind, h, i, refl))
row-at (emit stands kind h) = (_, stands, (kind, h, refl))
row-at (choose stands h) = (_, stands, (h, refl))
row-at (close stands h) = (_, stands, (h, refl))
row-at (fwd stands h) = (_, stands, (h, refl))
row-at (call stands h) = (_, stands, (h, refl))
row-at (empty stands h) = (_, stands, (h, refl))
row-at (add stands list h) = (_, stands, (list, h, refl))
row-at (match stands list h) = (_, stands, (list, h, refl))

-- the node that stands there fixes the line and its parts
pub row-inverted : {lists : ProgramLists} {x : Annotations} {j : Judgement} {after : List Judgement} → (n : CodeNode)
    → StandsAtCode lists j n → TypingRule lists x j after → RowAt lists x j n after
row-inverted {lists} {x} {j} {after} n stands row =
    let (m, there, says) = row-at row in
    let same : m ≡ n = cc in
    subst (λ (k : CodeNode). RowAt lists x j k after) same says
