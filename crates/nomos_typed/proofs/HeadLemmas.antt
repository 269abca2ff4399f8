-- What the node of a type of a program asks for is of the program.
use Rattle.std.proofs.Common.{◌≡◌, ◌<◌, ℕ, Bool, true, false, List, ◌++◌, All, Contains, Option, Some, None, IfSome, length, get_or, refl, subst, sym, arith}
use Rattle.std.specs.List.{flat_map}
use Rattle.std.proofs.lemmas.List.Elements.{All-contains, Contains-append_left, Contains-get_or}
use Rattle.nomos_ir.specs.Amounts.{amounts_of, proc_amounts}
use Rattle.nomos_ir.specs.CodeParts.{code_amounts}
use Rattle.nomos_ir.specs.Nodes.{type_node}
use Rattle.nomos_ir.specs.Program.{IsProgram}
use Rattle.nomos_ir.specs.TypeParts.{type_amounts}
use Rattle.nomos_ir.specs.Unfold.{Unfolds, constructor, name}
use Rattle.nomos_ir.specs.declared.amount.Amount.{Amount}
use Rattle.nomos_ir.specs.declared.ids.TypeId.{TypeId}
use Rattle.nomos_ir.specs.declared.lists.ProgramLists.{ProgramLists}
use Rattle.nomos_ir.specs.declared.type_node.TypeAt.{TypeAt}
use Rattle.nomos_ir.specs.declared.type_node.TypeNode.{TypeNode}
use Rattle.nomos_ir.specs.declared.type_node.TypeNode.TheVariants as node
use Rattle.nomos_ir.proofs.NodeLaws.{type_node-at}
use Rattle.nomos_types.specs.Acceptance.{IsAmountOf}
use Rattle.nomos_types.proofs.AmountLaws.{amounts-are_of}
use Rattle.nomos_types.proofs.OccurrenceLaws.{contains-part}
use Rattle.nomos_equality.specs.Comparing.{Compared, HasCompared}
use Rattle.nomos_equality.specs.Paths.{paid_by, part_by}
use Rattle.nomos_equality.specs.declared.hop.Hop.TheVariants as hop
use Rattle.nomos_equality.proofs.PathLaws.{part-below, there-below}
use Rattle.nomos_machine.specs.declared.object.Payload.{Payload}
use Rattle.nomos_machine.specs.declared.object.Payload.TheVariants as payload
use Rattle.nomos_typed.specs.mirror.MessageHeads.{sent_by, due_by, goes_of}

-- a type that unfolds to something is one of the program
pub unfolds-below : (lists : ProgramLists) (t : ℕ) (n : TypeNode) → Unfolds lists t n → t < length lists.types
unfolds-below lists t n (constructor _ _ there no_name) = there-below lists t n there
unfolds-below lists t n (name _ id def _ there found unfolds) = there-below lists t (node.Named id) there

-- ---- what is asked for is a part

some-of : {X : Type 0} (P : X → Type 0) (o : Option X) → ((x : X) → o ≡ Some x → P x) → IfSome o P
some-of P (Some x) holds = holds x refl
some-of P None holds = tt

sent-carried : (c : Bool) (n : TypeNode) (t : TypeId) → sent_by c n ≡ Some t → part_by n hop.Carried ≡ Some t
sent-carried true (node.Tensor a b) t is = is
sent-carried false (node.Lolli a b) t is = is
sent-carried true (node.Lolli a b) t is = absurd cc
sent-carried false (node.Tensor a b) t is = absurd cc
sent-carried c n t is = absurd cc

due-paid : (c : Bool) (n : TypeNode) (r : Amount) → due_by c n ≡ Some r → paid_by n ≡ Some r
due-paid true (node.PotOut q a) r is = is
due-paid false (node.PotIn q a) r is = is
due-paid true (node.PotIn q a) r is = absurd cc
due-paid false (node.PotOut q a) r is = absurd cc
due-paid c n r is = absurd cc

paid-among : (n : TypeNode) (r : Amount) → paid_by n ≡ Some r → Contains (type_amounts n) r
paid-among (node.PotOut q a) r is = (0, omega arith, cc)
paid-among (node.PotIn q a) r is = (0, omega arith, cc)
paid-among n r is = absurd cc

unfolded-there : (lists : ProgramLists) (t : ℕ) (n : TypeNode) → Unfolds lists t n
    → (s : ℕ) × (type_node lists s ≡ Some n)
unfolded-there lists _ n (constructor t _ there no_name) = (t, there)
unfolded-there lists _ n (name t id def _ there found unfolds) = unfolded-there lists def.body.0 n unfolds

module _ {lists : ProgramLists} (is_program : IsProgram lists) where
  -- what a node of the program pays or gets is an amount of the program
  node-amount : (s : ℕ) (n : TypeNode) (r : Amount) → type_node lists s ≡ Some n → paid_by n ≡ Some r
      → IsAmountOf lists r
  node-amount s n r there pays =
      let (at, found, is) = type_node-at lists s n there in
      let amounts : TypeAt → List Amount = λ e. type_amounts e.node in
      let here : Contains (amounts at) r =
      subst (λ (m : TypeNode). Contains (type_amounts m) r) (sym is) (paid-among n r pays) in
      let among : Contains (flat_map amounts lists.types) r = contains-part amounts lists.types s at r found here in
      let in_types = flat_map amounts lists.types in
      let in_code = flat_map code_amounts lists.code in
      let in_procs = flat_map proc_amounts lists.procs in
      All-contains (IsAmountOf lists) (amounts_of lists) r (amounts-are_of lists is_program.amounts)
      (Contains-append_left (in_types ++ in_code) in_procs r (Contains-append_left in_types in_code r among))

  pub unfolded-amount : (t : ℕ) (n : TypeNode) (r : Amount) → Unfolds lists t n → paid_by n ≡ Some r
      → IsAmountOf lists r
  unfolded-amount t n r unfolds pays =
      let (s, there) = unfolded-there lists t n unfolds in
      node-amount s n r there pays

  -- both amounts of what was compared are amounts of the program
  pub compared-amounts : (c : Compared) → HasCompared lists c
      → All (λ p. IsAmountOf lists p.0 × IsAmountOf lists p.1) c.amounts
  compared-amounts c compared k d inside =
      let q : Amount × Amount = get_or c.amounts k d in
      let (pair, among, stand) = (compared.amounts q).0 (Contains-get_or c.amounts k d inside) in
      let place = stand.place in (
        unfolded-amount place.left_type.0 place.left q.0 place.left_unfolds stand.left_pays,
        unfolded-amount place.right_type.0 place.right q.1 place.right_unfolds stand.right_pays,
      )

  module _ (s : ℕ) (n : TypeNode) (there : type_node lists s ≡ Some n) where
    pub sent-in : (c : Bool) → IfSome (sent_by c n) (λ t. t.0 < length lists.types)
    sent-in c = some-of (λ t. t.0 < length lists.types) (sent_by c n)
        (λ t is. part-below lists s n hop.Carried t is_program there (sent-carried c n t is))

    pub due-in : (c : Bool) → IfSome (due_by c n) (IsAmountOf lists)
    due-in c = some-of (IsAmountOf lists) (due_by c n) (λ r is. node-amount s n r there (due-paid c n r is))

    pub goes-in : (p : Payload) → IfSome (goes_of n p) (λ t. t.0 < length lists.types)
    goes-in (payload.Label l) = some-of (λ t. t.0 < length lists.types) (part_by n (hop.Label l))
        (λ t is. part-below lists s n (hop.Label l) t is_program there is)
    goes-in (payload.Value v) = some-of (λ t. t.0 < length lists.types) (part_by n hop.Next)
        (λ t is. part-below lists s n hop.Next t is_program there is)
    goes-in (payload.Channel sent) = some-of (λ t. t.0 < length lists.types) (part_by n hop.Next)
        (λ t is. part-below lists s n hop.Next t is_program there is)
    goes-in payload.Pay = some-of (λ t. t.0 < length lists.types) (part_by n hop.Next)
        (λ t is. part-below lists s n hop.Next t is_program there is)
    goes-in payload.Close = some-of (λ t. t.0 < length lists.types) (part_by n hop.Next)
        (λ t is. part-below lists s n hop.Next t is_program there is)
