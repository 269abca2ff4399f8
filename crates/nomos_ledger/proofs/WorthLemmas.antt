-- The amounts at equal paths of types are amounts of the program.
use Rattle.std.proofs.Common.{◌≡◌, ℕ, List, ◌++◌, All, Contains, Some, get_or, subst, sym, arith}
use Rattle.std.specs.List.{flat_map}
use Rattle.std.proofs.lemmas.List.Elements.{All-contains, Contains-append_left, Contains-get_or}
use Rattle.nomos_ir.specs.Amounts.{amounts_of, proc_amounts}
use Rattle.nomos_ir.specs.CodeParts.{code_amounts}
use Rattle.nomos_ir.specs.Nodes.{type_node}
use Rattle.nomos_ir.specs.Program.{IsProgram}
use Rattle.nomos_ir.specs.TypeParts.{type_amounts}
use Rattle.nomos_ir.specs.Unfold.{Unfolds, constructor, name}
use Rattle.nomos_ir.specs.declared.amount.Amount.{Amount}
use Rattle.nomos_ir.specs.declared.ids.TypeId.{TypeId}
use Rattle.nomos_ir.specs.declared.lists.ProgramLists.{ProgramLists}
use Rattle.nomos_ir.specs.declared.type_node.TypeAt.{TypeAt}
use Rattle.nomos_ir.specs.declared.type_node.TypeNode.{TypeNode}
use Rattle.nomos_ir.specs.declared.type_node.TypeNode.TheVariants as node
use Rattle.nomos_ir.proofs.NodeLaws.{type_node-at}
use Rattle.nomos_types.specs.Acceptance.{IsAmountOf}
use Rattle.nomos_types.proofs.AmountLaws.{amounts-are_of}
use Rattle.nomos_types.proofs.OccurrenceLaws.{contains-part}
use Rattle.nomos_equality.specs.Answer.{EqualWith}
use Rattle.nomos_equality.specs.Paths.{paid_by, StandAtEqualPaths}

-- what a type unfolds to is a type node
unfolded-there : (lists : ProgramLists) (t : ℕ) (n : TypeNode) → Unfolds lists t n
    → (s : ℕ) × (type_node lists s ≡ Some n)
unfolded-there lists _ n (constructor t _ there no_name) = (t, there)
unfolded-there lists _ n (name t id def _ there found unfolds) = unfolded-there lists def.body.0 n unfolds

-- what a node pays or gets is among its amounts
paid-among : (n : TypeNode) (r : Amount) → paid_by n ≡ Some r → Contains (type_amounts n) r
paid-among (node.PotOut q a) r is = (0, omega arith, cc)
paid-among (node.PotIn q a) r is = (0, omega arith, cc)
paid-among n r is = absurd cc

module _ {lists : ProgramLists} (is_program : IsProgram lists) where
  -- what a type pays or gets
  unfolded-amount : (t : ℕ) (n : TypeNode) (r : Amount) → Unfolds lists t n → paid_by n ≡ Some r → IsAmountOf lists r
  unfolded-amount t n r unfolds pays =
      let (s, there) = unfolded-there lists t n unfolds in
      let (at, found, is) = type_node-at lists s n there in
      let amounts : TypeAt → List Amount = λ e. type_amounts e.node in
      let here : Contains (amounts at) r =
      subst (λ (m : TypeNode). Contains (type_amounts m) r) (sym is) (paid-among n r pays) in
      let among : Contains (flat_map amounts lists.types) r = contains-part amounts lists.types s at r found here in
      let in_types = flat_map amounts lists.types in
      let in_code = flat_map code_amounts lists.code in
      let in_procs = flat_map proc_amounts lists.procs in
      All-contains (IsAmountOf lists) (amounts_of lists) r (amounts-are_of lists is_program.amounts)
      (Contains-append_left (in_types ++ in_code) in_procs r (Contains-append_left in_types in_code r among))

  -- both amounts that stand at equal paths are amounts of the program
  abbrev pub ArePairOf : Amount × Amount → Type 0
  ArePairOf p = IsAmountOf lists p.0 × IsAmountOf lists p.1

  paths-amounts : {a b : TypeId} (p : Amount × Amount) → StandAtEqualPaths lists a b p → ArePairOf p
  paths-amounts p stand =
      let place = stand.place in (
        unfolded-amount place.left_type.0 place.left p.0 place.left_unfolds stand.left_pays,
        unfolded-amount place.right_type.0 place.right p.1 place.right_unfolds stand.right_pays,
      )

  -- so are those of an answer
  pub answer-amounts : {a b : TypeId} (pairs : List (Amount × Amount)) → EqualWith lists a b pairs
      → All (λ p. IsAmountOf lists p.0 × IsAmountOf lists p.1) pairs
  answer-amounts pairs answer k p inside =
      let q : Amount × Amount = get_or pairs k p in
      paths-amounts q ((answer.pairs q).0 (Contains-get_or pairs k p inside))
