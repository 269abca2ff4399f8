-- What a typed process hands over at `spawn` and `call` fits the declaration, and what is left is what its rule leaves.
use Rattle.std.proofs.Common.{◌≡◌, ◌∙◌, ℕ, ◌+◌, false, List, Contains, Option, Some, Ok, refl, sym, subst, ap}
use Rattle.std.specs.List.{flat_map}
use Rattle.nomos_ir.specs.Bindings.{sum_bound, IsAscending}
use Rattle.nomos_ir.specs.CodeParts.{arg_terms}
use Rattle.nomos_ir.specs.Paired.{ArePaired}
use Rattle.nomos_ir.specs.Value.{Value}
use Rattle.nomos_ir.specs.declared.code_node.Args.{Args}
use Rattle.nomos_ir.specs.declared.code_node.ValueArg.{ValueArg}
use Rattle.nomos_ir.specs.declared.declaration.Par.{Par}
use Rattle.nomos_ir.specs.declared.declaration.ProcDecl.{ProcDecl}
use Rattle.nomos_ir.specs.declared.ids.TypeId.{TypeId}
use Rattle.nomos_ir.specs.declared.ids.VarId.{VarId}
use Rattle.nomos_ir.specs.declared.lists.ProgramLists.{ProgramLists}
use Rattle.nomos_ir.proofs.SumLaws.{times_bound}
use Rattle.nomos_types.specs.Acceptance.{Acceptance, IsAccepted}
use Rattle.nomos_types.specs.Amount.{Annotations}
use Rattle.nomos_types.specs.Arguments.{PassesChannel, PassesChannels, PassesValue, PassesValues, ArgumentsFit}
use Rattle.nomos_types.specs.Arguments as passes
use Rattle.nomos_types.specs.Judgement.{Judgement, ListType}
use Rattle.nomos_types.proofs.ArgumentsLaws.{passes-values_left}
use Rattle.nomos_machine.specs.Deeds.{hands_over_all, hands_over_lists}
use Rattle.nomos_ir.specs.TermsEvaluation.{terms_evaluation}
use Rattle.nomos_machine.specs.Given.{Given, give_values, give_names, given}
use Rattle.nomos_machine.specs.Matching.{NameHasType, IsListOf}
use Rattle.nomos_machine.specs.Objects.{potential_of}
use Rattle.nomos_machine.specs.Optional.{◌>>=◌}
use Rattle.nomos_machine.specs.Sight.{is_shared_name}
use Rattle.nomos_machine.specs.Starting.{GivenFits}
use Rattle.nomos_machine.specs.State.{State}
use Rattle.nomos_machine.specs.TypedState.{IsTyped}
use Rattle.nomos_machine.specs.declared.object.Object.TheVariants as object
use Rattle.nomos_machine.specs.declared.object.PotentialList.{PotentialList}
use Rattle.nomos_machine.specs.declared.object.Process.{Process}
use Rattle.nomos_machine.proofs.ArgumentLaws.{ValuesGiven, NamesGiven, values-given, names-given}
use Rattle.nomos_machine.proofs.BeginLaws.{carries}
use Rattle.nomos_machine.proofs.GoesLaws.{process-typed, process-variables, own-is_judgement, value-has_kind}
use Rattle.nomos_machine.proofs.MatchLaws.{HoldsChannels}
use Rattle.nomos_machine.proofs.ProcessLaws.{own_judgement}

-- ---- what is given, by its parts

given-found : (p : Process) (vs : List Value) (args : Args) (d : ProcDecl) (values : List (VarId × Value))
    (its_lists : List (VarId × PotentialList)) (names : List (VarId × ℕ))
    → give_values p vs args.values d.values ≡ Some (values, its_lists)
    → give_names p args.channels d.channels ≡ Some names
    → given p vs args d ≡ Some (record { values = values; lists = its_lists; channels = names })
given-found p vs args d values its_lists names has_values has_names =
    let Parts : Type 0 = List (VarId × Value) × List (VarId × PotentialList) in
    let with_names : Parts → List (VarId × ℕ) → Option Given = λ parts channels.
    Some (record { values = parts.0; lists = parts.1; channels = channels })
    in
    ap (λ (o : Option Parts). o >>= λ parts. give_names p args.channels d.channels >>= with_names parts) has_values
    ∙ ap (λ (o : Option (List (VarId × ℕ))). o >>= with_names (values, its_lists)) has_names

-- ---- passing uses up lists and channels, and nothing else

one-leaves : {lists : ProgramLists} {x : Annotations} {j : Judgement} {v : VarId} {t : TypeId} {k : Judgement}
    → PassesChannel lists x j v t k → k ≡ record j { linear = k.linear }
one-leaves (passes.shared own there alike) = refl
one-leaves (passes.linear own no_reference there alike) = refl

channels-leave : {lists : ProgramLists} {x : Annotations} {j k : Judgement} {vs : List VarId}
    {pars : List (VarId × TypeId)} → PassesChannels lists x j vs pars k → k ≡ record j { linear = k.linear }
channels-leave passes.none = refl
channels-leave {j = j} {k = k} (passes.channel first others) =
    channels-leave others ∙ ap (λ (i : Judgement). record i { linear = k.linear }) (one-leaves first)

value-leaves : {lists : ProgramLists} {x : Annotations} {j : Judgement} {e : ValueArg} {par : Par} {k : Judgement}
    → PassesValue lists x j e par k → k ≡ record j { lists = k.lists }
value-leaves (passes.term no_list kind) = refl
value-leaves (passes.list amount its_amount there) = refl

values-leave : {lists : ProgramLists} {x : Annotations} {j k : Judgement} {args : List ValueArg} {pars : List Par}
    → PassesValues lists x j args pars k → k ≡ record j { lists = k.lists }
values-leave passes.none = refl
values-leave {k = k} (passes.value first others) =
    values-leave others ∙ ap (λ (i : Judgement). record i { lists = k.lists }) (value-leaves first)

leaves-both : (j between k : Judgement) → between ≡ record j { lists = between.lists }
    → k ≡ record between { linear = k.linear } → k ≡ record j { lists = k.lists; linear = k.linear }
leaves-both j between k first second =
    let same : k.lists ≡ between.lists = ap (λ (i : Judgement). i.lists) second in
    second ∙ ap (λ (i : Judgement). record i { linear = k.linear }) first
    ∙ ap (λ (ls : List (VarId × ListType)). record j { lists = ls; linear = k.linear }) (sym same)

module _ {a : Acceptance} (accepted : IsAccepted a) {s : State} (typed : IsTyped a s) {p : Process}
    (there : Contains s.objects (object.Process p)) where
  abbrev own : Judgement
  own = own_judgement p (process-typed typed there)

  -- What is given to a declaration, and what is left of the process, where its rule leaves this of its judgement.
  pub record Handed (d : ProcDecl) (args : Args) (vs : List Value) (left : Judgement) : Type 0 where
    pub g : Given
    pub gives : given p vs args d ≡ Some g
    pub fits : GivenFits a s.types d g
    -- the lists and channels that are left, and nothing else is other
    pub its_lists : List (VarId × PotentialList)
    pub names : List (VarId × ℕ)
    pub rest : hands_over_all a s p args.channels (hands_over_lists a s p args.values p)
        ≡ record p { lists = its_lists; channels = names }
    pub same : left ≡ record own { lists = left.lists; linear = left.linear }
    pub lists_ascend : IsAscending its_lists
    pub names_ascend : IsAscending names
    pub held_lists : ArePaired IsListOf its_lists left.lists
    pub channels : HoldsChannels (NameHasType a.program a.annotations s.types) names own.shared left.linear
    -- lists are left or given, and so is each use of a name that is no shared one
    pub potential : sum_bound carries its_lists + sum_bound carries g.lists ≡ potential_of p
    pub uses : (name : ℕ) → is_shared_name a.program s.types name ≡ false
        → times_bound name names + times_bound name g.channels ≡ times_bound name p.channels

  pub arguments-given : (d : ProcDecl) (args : Args) (vs : List Value) (left : Judgement)
      → ArgumentsFit a.program a.annotations own d args left
      → terms_evaluation a.program p.values (flat_map arg_terms args.values) ≡ Ok vs → Handed d args vs left
  arguments-given d args vs left fit values =
      let t = process-typed typed there in
      let variables = process-variables typed there in
      let h = own-is_judgement typed there accepted in
      let between = fit.between in
      let one : ValuesGiven a s p args.values d.values vs p.lists between.lists =
      values-given a s p vs p.lists h (value-has_kind typed there accepted) fit.values values variables.lists
      (λ v l found. found) t.matches.held_lists
      in
      let first = values-leave fit.values in
      let second = channels-leave fit.channels in
      let Holds : Judgement → Type 0 = λ k.
      HoldsChannels (NameHasType a.program a.annotations s.types) p.channels k.shared k.linear
      in
      let two : NamesGiven a s p args.channels d.channels p.channels left.shared left.linear =
      names-given a s p accepted p.channels (passes-values_left h fit.values).judgement fit.channels variables.channels
      (λ v name found. found) (subst Holds (sym first) t.matches.channels)
      in
      let g : Given = record { values = one.values; lists = one.its_lists; channels = two.names } in
      let lists_left : left.lists ≡ between.lists = ap (λ (k : Judgement). k.lists) second in
      let shared_left : left.shared ≡ own.shared =
      ap (λ (k : Judgement). k.shared) second ∙ ap (λ (k : Judgement). k.shared) first
      in
      record {
        g = g;
        gives =
            given-found p vs args d one.values one.its_lists two.names one.gives two.gives;
        fits = record { values = one.fit; channels = two.fit };
        its_lists = one.rest;
        names = two.rest;
        rest = ap (hands_over_all a s p args.channels) (one.hands p refl)
            ∙ two.hands (record p { lists = one.rest }) refl;
        same = leaves-both own between left first second;
        lists_ascend = one.ascending;
        names_ascend = two.ascending;
        held_lists = subst (λ (ls : List (VarId × ListType)). ArePaired IsListOf one.rest ls) (sym lists_left) one.fits;
        channels = subst (λ (cs : List (VarId × TypeId)).
            HoldsChannels (NameHasType a.program a.annotations s.types) two.rest cs left.linear) shared_left two.holds;
        potential = one.sum;
        uses = two.uses;
      }
