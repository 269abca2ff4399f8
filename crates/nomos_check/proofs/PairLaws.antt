-- The amounts of the pairs for which instructions ask have stars of the program.
use Rattle.std.proofs.Common.{◌≡◌, ◌≤◌, ℕ, [], ◌∷◌, Contains, Option, Some, slice_get, refl, sym, subst, arith}
use Rattle.std.specs.List.{flat_map}
use Rattle.std.specs.Option.{option_to_list}
use Rattle.std.proofs.lemmas.List.Elements.{Contains-append_left}
use Rattle.nomos_ir.specs.declared.amount.Amount.{Amount}
use Rattle.nomos_ir.specs.declared.amount.Amount.TheVariants as amount
use Rattle.nomos_ir.specs.declared.code_node.Args.{Args}
use Rattle.nomos_ir.specs.declared.code_node.Chan.{Chan}
use Rattle.nomos_ir.specs.declared.code_node.Chan.TheVariants as chan
use Rattle.nomos_ir.specs.declared.code_node.CodeNode.{CodeNode}
use Rattle.nomos_ir.specs.declared.code_node.CodeNode.TheVariants as code
use Rattle.nomos_ir.specs.declared.code_node.ValueArg.TheVariants as arg
use Rattle.nomos_ir.specs.declared.declaration.Par.{Par}
use Rattle.nomos_ir.specs.declared.declaration.ProcDecl.{ProcDecl}
use Rattle.nomos_ir.specs.declared.ids.TypeId.{TypeId}
use Rattle.nomos_ir.specs.declared.lists.ProgramLists.{ProgramLists}
use Rattle.nomos_ir.specs.declared.type_node.TypeNode.{TypeNode}
use Rattle.nomos_ir.specs.declared.type_node.TypeNode.TheVariants as node
use Rattle.nomos_ir.specs.Amounts.{par_amounts, star_count}
use Rattle.nomos_ir.specs.CodeParts.{code_amounts}
use Rattle.nomos_ir.specs.Nodes.{type_node}
use Rattle.nomos_ir.specs.Program.{IsProgram}
use Rattle.nomos_ir.specs.TypeParts.{type_amounts}
use Rattle.nomos_ir.specs.Unfold.{Unfolds, constructor, name}
use Rattle.nomos_ir.proofs.BindingLaws.{all-bound}
use Rattle.nomos_ir.proofs.NodeLaws.{type_node-at}
use Rattle.nomos_forms.specs.Bounds.{HasStarUpTo, IsPairUpTo}
use Rattle.nomos_equality.specs.Paths.{paid_by, StandAtEqualPaths}
use Rattle.nomos_types.specs.Judgement.{Judgement}
use Rattle.nomos_types.specs.Premises.{by_side}
use Rattle.nomos_types.specs.Typed.{IsWellFormed}
use Rattle.nomos_check.specs.Account.{Account}
use Rattle.nomos_check.specs.Asking.{Invokes, spawns, calls, AsksPair, paid, got, carried, compared, IsAsked}
use Rattle.nomos_check.specs.Reaching.{Outset, outset_of}
use Rattle.nomos_check.proofs.AmountLaws.{code-amount, proc-amount, type-amount}
use Rattle.nomos_check.proofs.FormLaws.{HasStarsUpTo}
use Rattle.nomos_check.proofs.ListLemmas.{contains-inside, paired-second}
use Rattle.nomos_check.proofs.StarLaws.{program-star, program-star_up_to, start-stars, reached-stars}

-- what a type unfolds to is a type node
unfolded-there : (lists : ProgramLists) (t : ℕ) (n : TypeNode) → Unfolds lists t n
    → (s : ℕ) × (type_node lists s ≡ Some n)
unfolded-there lists _ n (constructor t _ there no_name) = (t, there)
unfolded-there lists _ n (name t id def _ there found unfolds) = unfolded-there lists def.body.0 n unfolds

-- what a node pays or gets is among its amounts
paid-among : (n : TypeNode) (r : Amount) → paid_by n ≡ Some r → Contains (type_amounts n) r
paid-among (node.PotOut q a) r is = (0, omega arith, cc)
paid-among (node.PotIn q a) r is = (0, omega arith, cc)
paid-among n r is = absurd cc

-- what a channel pays or gets, by the side from which a process sees it
side-pays : (c : Chan) (q : Amount) (t : TypeId) → paid_by (by_side c (node.PotOut q t) (node.PotIn q t)) ≡ Some q
side-pays chan.Own q t = refl
side-pays (chan.Var v) q t = refl

side-gets : (c : Chan) (q : Amount) (t : TypeId) → paid_by (by_side c (node.PotIn q t) (node.PotOut q t)) ≡ Some q
side-gets chan.Own q t = refl
side-gets (chan.Var v) q t = refl

-- a star up to a number is one up to a greater number
star-further : {m n : ℕ} → m ≤ n → (r : Amount) → HasStarUpTo m r → HasStarUpTo n r
star-further more (amount.Written units) low = tt
star-further more (amount.Star star) low = (low.0, omega (arith, more, low.1))

module _ {lists : ProgramLists} (is_program : IsProgram lists) where
  -- what a type pays or gets
  unfolded-star : (t : ℕ) (n : TypeNode) (r : Amount) → Unfolds lists t n → paid_by n ≡ Some r
      → HasStarUpTo (star_count lists) r
  unfolded-star t n r unfolds pays =
      let (s, there) = unfolded-there lists t n unfolds in
      let (at, found, is) = type_node-at lists s n there in
      program-star r is_program
      (type-amount lists s at r found
      (subst (λ (m : TypeNode). Contains (type_amounts m) r) (sym is) (paid-among n r pays)))

  -- the amounts that stand at equal paths have stars of the program
  pub paths-up_to : {a b : TypeId} {pair : Amount × Amount} → StandAtEqualPaths lists a b pair
      → IsPairUpTo (star_count lists) pair
  paths-up_to {pair = pair} stand =
      let place = stand.place in (
        unfolded-star place.left_type.0 place.left pair.0 place.left_unfolds stand.left_pays,
        unfolded-star place.right_type.0 place.right pair.1 place.right_unfolds stand.right_pays,
      )

  -- what is spawned or called is declared
  invoked-declared : {j : Judgement} {d : ProcDecl} {args : Args} → Invokes lists j d args
      → (f : ℕ) × (slice_get lists.procs f ≡ Some d)
  invoked-declared (spawns {f = f} there declared) = (f.0, declared)
  invoked-declared (calls {f = f} there declared) = (f.0, declared)

  -- the amount of a list parameter
  parameter-star : (f : ℕ) (d : ProcDecl) (par : Par) (s : Amount) → slice_get lists.procs f ≡ Some d
      → Contains d.values par → par.amount ≡ Some s → HasStarUpTo (star_count lists) s
  parameter-star f d par s declared among is =
      let here : Contains (par_amounts par) s =
      subst (λ (o : Option Amount). Contains (option_to_list o) s) (sym is) (0, omega arith, refl)
      in
      program-star s is_program
      (proc-amount lists f d s declared
      (Contains-append_left (flat_map par_amounts d.values) (d.amount ∷ []) s
      (contains-inside par_amounts d.values par s among here)))

  -- up to a greater number of stars than the program has
  module _ (n : ℕ) (few : star_count lists ≤ n) where
    -- an amount of an instruction
    instruction-star : (c : ℕ) (i : CodeNode) (r : Amount) → slice_get lists.code c ≡ Some i
        → Contains (code_amounts i) r → HasStarUpTo n r
    instruction-star c i r there among =
        program-star_up_to n r is_program few (code-amount lists c i r there among)

    -- the pairs for which an instruction asks
    pair-up_to : (j : Judgement) (a : Account) (pair : Amount × Amount) → HasStarsUpTo n a → AsksPair lists j a pair
        → IsPairUpTo n pair
    pair-up_to j a _ stars (paid {at} {c} {r} {s} {next} there t (u, found, unfolds)) = (
      instruction-star j.code.0 (code.Pay at c r next) r there (0, omega arith, refl),
      star-further few s (unfolded-star u.0 _ s unfolds (side-pays c s t)),
    )
    pair-up_to j a _ stars (got {at} {c} {r} {s} {next} there t (u, found, unfolds)) = (
      instruction-star j.code.0 (code.Get at c r next) r there (0, omega arith, refl),
      star-further few s (unfolded-star u.0 _ s unfolds (side-gets c s t)),
    )
    pair-up_to j a _ stars (carried {d} {args} {w} {par} {r} {s} invokes among bound its) =
        let (f, declared) = invoked-declared invokes in
        let parameter = parameter-star f d par s declared
        (paired-second args.values d.values (arg.List w) par among) its in
        (all-bound (HasStarUpTo n) w.0 r a.lists stars.lists bound, star-further few s parameter)
    pair-up_to j a pair stars (compared compares stand) =
        let both = paths-up_to stand in
        (star-further few pair.0 both.0, star-further few pair.1 both.1)

    -- the pairs for which a process asks, where the first account has such stars
    pub asked-stars : {o : Outset} {pair : Amount × Amount} → HasStarsUpTo n o.account → IsAsked lists o pair
        → IsPairUpTo n pair
    asked-stars {pair = pair} begins asked =
        pair-up_to asked.judgement asked.account pair
        (reached-stars is_program few begins asked.judgement asked.account asked.reached) asked.asks

-- the pairs for which a declaration asks have stars of the program
pub asked-up_to : {lists : ProgramLists} {d : ProcDecl} {pair : Amount × Amount} (p : ℕ) → IsWellFormed lists
    → slice_get lists.procs p ≡ Some d → IsAsked lists (outset_of lists d) pair → IsPairUpTo (star_count lists) pair
asked-up_to {lists} {d} p formed declared asked =
    asked-stars formed.program (star_count lists) (omega arith) (start-stars p d formed.program declared) asked
