-- What a run keeps at each of its calls.
use Rattle.std.proofs.Common.{◌≡◌, ◌∙◌, ◌<◌, ◌≤◌, ◌+◌, ◌-◌, ◌^◌, inl, inr, ℕ, List, [], map, length, All, Option, Some, None, IfSome, slice_get, slice_index, refl, sym, ap, subst, arith}
use Rattle.std.specs.List.{zip}
use Rattle.std.specs.Option.{option_map}
use Rattle.std.proofs.lemmas.List.Elements.{All-nil}
use Rattle.std.proofs.lemmas.Option.{slice_get_cases, slice_get_within, get_or_from_slice_get}
use Rattle.nomos_ir.specs.Value.{Value}
use Rattle.nomos_ir.specs.Paired.{PairedInOrder, none as no_pair}
use Rattle.nomos_ir.specs.declared.code_node.CodeNode.{CodeNode}
use Rattle.nomos_ir.specs.declared.declaration.Par.{Par}
use Rattle.nomos_ir.specs.declared.declaration.ProcDecl.{ProcDecl}
use Rattle.nomos_ir.specs.declared.ids.TypeId.{TypeId}
use Rattle.nomos_ir.specs.declared.ids.VarId.{VarId}
use Rattle.nomos_types.specs.Acceptance.{Acceptance, IsAccepted}
use Rattle.nomos_types.specs.Amount.{dths}
use Rattle.nomos_machine.specs.Matching.{NameHasType}
use Rattle.nomos_machine.specs.Starting.{CanStartWith, FitValues, none as no_value, opened, cleared, started_with}
use Rattle.nomos_machine.specs.State.{State, empty, gas_of, process_at}
use Rattle.nomos_machine.specs.TypedState.{IsTyped, IsContractName}
use Rattle.nomos_machine.specs.declared.object.Process.{Process}
use Rattle.nomos_machine.proofs.GasLaws.{gas-opened, gas-cleared}
use Rattle.nomos_machine.proofs.PreservationLaws.{step-keeps}
use Rattle.nomos_machine.proofs.StartingLaws.{after_start, starts-with, started_with-typed, gas-started_with, opened-typed, cleared-typed, empty-typed}
use Rattle.nomos_deeds.specs.Acting.{IsFrugal, IsFrugalNode}
use Rattle.nomos_deeds.specs.Firings.{Fires}
use Rattle.nomos_deeds.specs.Readers.{view_of}
use Rattle.nomos_deeds.specs.declared.fire.Fire.{Fire}
use Rattle.nomos_deeds.specs.declared.fire.Fire.TheVariants as fire
use Rattle.nomos_deeds.specs.declared.machine.View.{View}
use Rattle.nomos_state_tests.specs.PlainRuns.{Running, GoesOn, TakesNothing}

-- the run where its state is this one, and one call less is left
abbrev pub next_of : Running → State → Running
next_of r t = record r { state = t; left = r.left - 1 }

-- it goes on with nothing in it
pub empty-goes_on : (a : Acceptance) → IsAccepted a
    → GoesOn (record { accepted = a; state = empty; left = 1000000 })
empty-goes_on a accepted = record {
  accepted = accepted;
  typed = empty-typed a;
  gas = omega arith;
  objects = omega arith;
  names = omega arith;
}

module _ (r : Running) (on : GoesOn r) (some : 0 < r.left) where
  -- a state that is typed, with the same gas, and with new numbers that rose by one at most
  keeps-goes_on : (t : State) → IsTyped r.accepted t → gas_of t ≡ gas_of r.state
      → t.next_object ≤ r.state.next_object + 1 → t.next_name ≤ r.state.next_name + 1 → GoesOn (next_of r t)
  keeps-goes_on t typed gas objects names = record {
    accepted = on.accepted;
    typed = typed;
    gas = omega (arith, on.gas);
    objects = omega (arith, on.objects);
    names = omega (arith, on.names);
  }

  -- after a firing
  pub fired-goes_on : (pid : ℕ) (answer : Fire) (t : State) → Fires r.accepted r.state pid answer t
      → GoesOn (next_of r t)
  fired-goes_on pid fire.Fired t steps =
      let keeps = step-keeps on.accepted on.typed pid t steps in
      keeps-goes_on t keeps.typed keeps.gas keeps.objects keeps.names
  fired-goes_on pid (fire.Faulted f) t faulty =
      subst (λ (u : State). GoesOn (next_of r u)) (sym faulty.1)
      (keeps-goes_on r.state on.typed refl (omega arith) (omega arith))

  -- after a start
  pub started-goes_on : (f payer : ℕ) (values : List Value) (t : State)
      → CanStartWith r.accepted r.state f values [] payer
      → started_with r.accepted r.state f values [] payer ≡ Some t → GoesOn (next_of r t)
  started-goes_on f payer values t can is =
      let same : after_start can ≡ t = one (sym (starts-with can)) is in
      subst (λ (u : State). GoesOn (next_of r u)) same
      (keeps-goes_on (after_start can) (started_with-typed can on.accepted on.typed)
      (gas-started_with can on.accepted on.typed) (omega arith) (omega arith))
    where
      one : {o : Option State} → Some (after_start can) ≡ o → o ≡ Some t → after_start can ≡ t
      one first second = cc

  -- after a deposit
  pub opened-goes_on : (dths : ℕ) (t : State) → dths < 2 ^ 64 → t ≡ opened r.state dths → GoesOn (next_of r t)
  opened-goes_on dths t small is = subst (λ (u : State). GoesOn (next_of r u)) (sym is) (record {
    accepted = on.accepted;
    typed = opened-typed on.typed dths;
    gas = omega (arith, on.gas, gas-opened r.state dths);
    objects = omega (arith, on.objects);
    names = omega (arith, on.names);
  })

-- after what was emitted is forgotten
pub cleared-goes_on : (r : Running) (t : State) → GoesOn r → t ≡ cleared r.state → GoesOn (record r { state = t })
cleared-goes_on r t on is = subst (λ (u : State). GoesOn (record r { state = u })) (sym is) (record {
  accepted = on.accepted;
  typed = cleared-typed on.typed;
  gas = omega (arith, on.gas, gas-cleared r.state);
  objects = on.objects;
  names = on.names;
})

-- ---- instructions that take no memory

-- the process of a number stands at one, by what is shown of it and what stands there
pub frugal-told : (a : Acceptance) (s : State) (pid : ℕ) (view : View) (node : CodeNode)
    → Some view ≡ option_map view_of (process_at s pid) → Some node ≡ slice_get a.program.code view.code.0
    → IsFrugalNode a.program node → IsFrugal a s pid
frugal-told a s pid view node shown stands frugal = at (process_at s pid) refl shown
  where
    at : (o : Option Process) → process_at s pid ≡ o → Some view ≡ option_map view_of o → IsFrugal a s pid
    at (Some p) there is =
        let own : view ≡ view_of p = cc in
        record {
          process = p;
          there = there;
          node = node;
          stands = ap (λ (v : View). slice_get a.program.code v.code.0) (sym own) ∙ sym stands;
          frugal = frugal;
        }
    at None there is = absurd cc

-- ---- starts without arguments

module _ (a : Acceptance) (s : State) (f payer : ℕ) (d : ProcDecl) (declared : slice_get a.program.procs f ≡ Some d)
    (takes : TakesNothing d) (within : payer < length s.balances)
    (has : dths a.annotations d.amount ≤ slice_index s.balances payer) where
  line-starts : CanStartWith a s f [] [] payer
  line-starts = record {
    declaration = d;
    declared = declared;
    its_mode = inr takes.its_mode;
    can = record {
      fits = record {
        values = subst (λ (ps : List Par). FitValues a.annotations (zip (map (λ par. par.var) ps) []) [] ps)
            (sym takes.values) no_value;
        channels = subst (λ (ps : List (VarId × TypeId)).
            PairedInOrder (NameHasType a.program a.annotations s.types) (zip (map (λ par. par.0) ps) []) ps)
            (sym takes.channels) no_pair;
      };
      contracts = subst (λ (ps : List (VarId × TypeId)).
          All (λ e. IsContractName a s e.1) (zip (map (λ par. par.0) ps) []))
          (sym takes.channels) (All-nil (λ (e : VarId × ℕ). IsContractName a s e.1));
      account = within;
      has = has;
    };
  }

-- A transaction of this number takes no arguments, needs so much, and the payer has as much.
pub can-start : (a : Acceptance) (s : State) (f payer bound had : ℕ) (values : List Value) → values ≡ []
    → f < length a.program.procs
    → IfSome (slice_get a.program.procs f) TakesNothing
    → IfSome (slice_get a.program.procs f) (λ d. bound ≡ dths a.annotations d.amount)
    → slice_get s.balances payer ≡ Some had → bound ≤ had → CanStartWith a s f values [] payer
can-start a s f payer bound had values nothing number takes needs holds enough =
    subst (λ (vs : List Value). CanStartWith a s f vs [] payer) (sym nothing)
    (elim ((slice_get_cases a.program.procs f).1) [
      | inl there ↦
          let (d, number, found, same) = there in
          let within = slice_get_within s.balances payer had holds in
          let all : slice_index s.balances payer ≡ had = get_or_from_slice_get s.balances payer had 0 holds in
          let amount : bound ≡ dths a.annotations d.amount =
          subst (λ (o : Option ProcDecl). IfSome o (λ d. bound ≡ dths a.annotations d.amount)) found needs
          in
          line-starts a s f payer d found (subst (λ (o : Option ProcDecl). IfSome o TakesNothing) found takes) within
          (omega (arith, all, amount, enough))
      | inr past ↦ absurd (omega (arith, past.0, number))
    ])
