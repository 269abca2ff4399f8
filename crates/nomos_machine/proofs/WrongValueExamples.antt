-- A value of another kind is wrong for who takes a number, and a number is received.
use Rattle.std.proofs.Common.{◌≡◌, ◌∙◌, ◌⊎◌, inl, inr, ℕ, zero, suc, true, List, [], ◌∷◌, Contains, Some, slice_get, pos, refl, sym, subst, ap, arith}
use Rattle.nomos_ir.specs.Bindings.{bound_to}
use Rattle.nomos_ir.specs.Nodes.{type_node}
use Rattle.nomos_ir.specs.TermKind.{int_kind, bool_kind}
use Rattle.nomos_ir.specs.Unfold.{Unfolds, constructor, name}
use Rattle.nomos_ir.specs.Value.{Value, int, truth}
use Rattle.nomos_ir.specs.declared.code_node.Chan.TheVariants as chan
use Rattle.nomos_ir.specs.declared.code_node.CodeNode.{CodeNode}
use Rattle.nomos_ir.specs.declared.code_node.CodeNode.TheVariants as code
use Rattle.nomos_ir.specs.declared.declaration.ProcDecl.{ProcDecl}
use Rattle.nomos_ir.specs.declared.ids.CodeId.{CodeId}
use Rattle.nomos_ir.specs.declared.ids.TypeId.{TypeId}
use Rattle.nomos_ir.specs.declared.kind.Kind.{Kind}
use Rattle.nomos_ir.specs.declared.type_node.TypeNode.{TypeNode}
use Rattle.nomos_ir.specs.declared.type_node.TypeNode.TheVariants as node
use Rattle.nomos_types.specs.Derivation.{Follows}
use Rattle.nomos_types.specs.Derivation as derivation
use Rattle.nomos_types.specs.Judgement.{Judgement, start_of, binds_value, goes_on}
use Rattle.nomos_types.specs.TypingRule.{TypingRule}
use Rattle.nomos_types.specs.TypingRule as rule
use Rattle.nomos_types.proofs.RowLaws.{row-inverted}
use Rattle.nomos_machine.specs.RowPrograms.{type_id, var_id, code_id, number_taker, takes_number}
use Rattle.nomos_machine.specs.RowStates.{stands_at, for_provider, small_state, two_names}
use Rattle.nomos_machine.specs.State.{State}
use Rattle.nomos_machine.specs.Wrong.{Wrong, HasKindAt, Receives}
use Rattle.nomos_machine.specs.Wrong as wrong
use Rattle.nomos_machine.specs.declared.object.Message.{Message}
use Rattle.nomos_machine.specs.declared.object.Object.TheVariants as object
use Rattle.nomos_machine.specs.declared.object.Payload.TheVariants as payload
use Rattle.nomos_machine.proofs.PutLaws.{contains-one}

-- ---- the judgements of the process

abbrev first : Judgement
first = start_of takes_number.program takes_number.annotations number_taker

abbrev takes : CodeNode
takes = code.Take 0 chan.Own (var_id 0) (code_id 0)

-- behind the `take` the variable has the kind of numbers
abbrev HasNumber : Judgement → Type 0
HasNumber j =
    (slice_get takes_number.program.code j.code.0 ≡ Some (code.Close 0)) × (bound_to 0 j.kinds ≡ Some int_kind)

-- the second type unfolds to itself alone
second-unfolds : (t : ℕ) (n : TypeNode) → t ≡ 1 → Unfolds takes_number.program t n
    → node.ValueIn int_kind (type_id 0) ≡ n
second-unfolds t n same (constructor _ _ stands is) =
    one (subst (λ k. type_node takes_number.program k ≡ Some n) same stands)
  where
    one : Some (node.ValueIn int_kind (type_id 0)) ≡ Some n → node.ValueIn int_kind (type_id 0) ≡ n
    one e = cc
second-unfolds t n same (name _ id def _ stands found rest) =
    absurd (no_name (subst (λ k. type_node takes_number.program k ≡ Some (node.Named id)) same stands))
  where
    no_name : Some (node.ValueIn int_kind (type_id 0)) ≡ Some (node.Named id) → ⊥
    no_name e = cc

-- what the `take` goes on with
taken : (after : List Judgement) → TypingRule takes_number.program takes_number.annotations first after
    → (k : Judgement) → Contains after k → HasNumber k
taken after row k there =
    let (kind, t, receives, same) = row-inverted takes refl row in
    let (own, held, unfolds) = receives.channel in
    let second : own.0 ≡ 1 = number own held in
    let kind_is : int_kind ≡ kind = of_number kind t (second-unfolds own.0 (node.ValueIn kind t) second unfolds) in
    let last : Judgement = binds_value (goes_on first chan.Own t (code_id 0)) (var_id 0) kind in
    let is : last ≡ k = contains-one last k (subst (λ (js : List Judgement). Contains js k) same there) in
    subst HasNumber is (refl, ap (λ (n : Kind). Some n) (sym kind_is))
  where
    number : (own : TypeId) → Some (type_id 1) ≡ Some own → own.0 ≡ 1
    number own held = let is : type_id 1 ≡ own = cc in ap (λ (u : TypeId). u.0) (sym is)

    of_number : (kind : Kind) (t : TypeId) → node.ValueIn int_kind (type_id 0) ≡ node.ValueIn kind t → int_kind ≡ kind
    of_number kind t e = cc

-- so each judgement that follows is the first one, or has the number
follows-two : {j : Judgement} → Follows takes_number.program takes_number.annotations first j
    → (j ≡ first) ⊎ HasNumber j
follows-two derivation.first = inl refl
follows-two {j = k} (derivation.next {j = i} after before row there) =
    elim (follows-two before) [
      | inl is ↦
          let row_there : TypingRule takes_number.program takes_number.annotations first after =
          subst (λ (j : Judgement). TypingRule takes_number.program takes_number.annotations j after) is row
          in
          inr (taken after row_there k there)
      | inr last ↦
          let (closes, none) = row-inverted (code.Close 0) last.0 row in
          let empty : Contains [] k = subst (λ (js : List Judgement). Contains js k) none there in
          absurd (omega (arith, empty.1))
    ]

-- the kind of the variable behind the `take` is that of numbers
number-there : (kind : Kind) → HasKindAt takes_number (code_id 0) (var_id 0) kind → kind ≡ int_kind
number-there kind has =
    by_number has.is_place.number has.is_place.declaration has.is_place.declared has.is_place.follows
  where
    differ : code_id 1 ≡ code_id 0 → ⊥
    differ same = omega (arith, ap (λ (c : CodeId). c.0) same)

    one : Some int_kind ≡ Some kind → kind ≡ int_kind
    one e = cc

    by_number : (k : ℕ) (d : ProcDecl) → slice_get takes_number.program.procs k ≡ Some d
        → Follows takes_number.program takes_number.annotations
        (start_of takes_number.program takes_number.annotations d) has.place
        → kind ≡ int_kind
    by_number zero d declared follows =
        let is : number_taker ≡ d = cc in
        let from_taker : Follows takes_number.program takes_number.annotations first has.place =
        subst (λ (e : ProcDecl). Follows takes_number.program takes_number.annotations
        (start_of takes_number.program takes_number.annotations e) has.place) (sym is) follows
        in
        elim (follows-two from_taker) [
          | inl at_first ↦ absurd (differ (ap (λ (j : Judgement). j.code) (sym at_first) ∙ has.here))
          | inr last ↦ one (sym last.1 ∙ has.bound)
        ]
    by_number (suc k) d declared follows = absurd cc

-- ---- the states

-- the process, which takes a number from a client outside, and a message that brings this value
abbrev brings : Value → Message
brings v = for_provider 2 1 2 (payload.Value v)

abbrev bringing : Value → State
bringing v = record (small_state (two_names 1 0) (object.Process (stands_at 1) ∷ object.Message (brings v) ∷ [])) {
  outside = 2 ∷ [];
}

another_kind : Wrong takes_number (bringing (truth true))
another_kind =
    wrong.unexpected (brings (truth true)) (stands_at 1) takes chan.Own (1, omega arith, refl) (0, omega arith, refl)
    refl (0, omega arith, refl) refl refl (λ received. differ (sym (number-there received.0 received.1) ∙ received.2))
  where
    differ : int_kind ≡ bool_kind → ⊥
    differ same =
        let bases = ap (λ (k : Kind). k.base) same in
        cc

-- a number is received
a_number : Receives takes_number takes (payload.Value (int (pos 7))) 0
a_number = (
  int_kind,
  record {
    place = binds_value (goes_on first chan.Own (type_id 0) (code_id 0)) (var_id 0) int_kind;
    is_place = record {
      number = 0;
      declaration = number_taker;
      declared = refl;
      follows = derivation.next
          (binds_value (goes_on first chan.Own (type_id 0) (code_id 0)) (var_id 0) int_kind ∷ []) derivation.first
          (rule.take refl int_kind (type_id 0) (record {
            channel = (type_id 1, refl, constructor 1 (node.ValueIn int_kind (type_id 0)) refl tt);
            free = refl;
          }))
          (0, omega arith, refl);
    };
    here = refl;
    bound = refl;
  },
  refl,
)
