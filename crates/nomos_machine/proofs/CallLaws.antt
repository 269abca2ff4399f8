-- A process that goes on as another declaration stays typed, and has the names that it had.
use Rattle.std.proofs.Common.{◌≡◌, ◌∙◌, ◌≤◌, inl, inr, ℕ, true, false, List, ◌++◌, map, length, Contains, Option, Some, None, refl, sym, ap, arith}
use Rattle.std.proofs.lemmas.Bool.{cases_eq}
use Rattle.std.specs.Option.{option_or}
use Rattle.nomos_ir.specs.Bindings.{bound_to, bindings_of, sum_bound}
use Rattle.nomos_ir.specs.Order.{count_of}
use Rattle.nomos_ir.specs.Value.{Value}
use Rattle.nomos_ir.specs.declared.code_node.Args.{Args}
use Rattle.nomos_ir.specs.declared.ids.ProcId.{ProcId}
use Rattle.nomos_ir.specs.declared.ids.TypeId.{TypeId}
use Rattle.nomos_ir.specs.declared.ids.VarId.{VarId}
use Rattle.nomos_ir.specs.declared.mode.Mode.TheVariants as mode
use Rattle.nomos_ir.proofs.BindingLaws.{all-bound}
use Rattle.nomos_ir.proofs.PairedLaws.{paired-right}
use Rattle.nomos_ir.proofs.SumLaws.{times_bound}
use Rattle.nomos_types.specs.Acceptance.{Acceptance, IsAccepted}
use Rattle.nomos_types.specs.Amount.{dths}
use Rattle.nomos_types.specs.Judgement.{Judgement}
use Rattle.nomos_types.specs.Modes.{HasMode}
use Rattle.nomos_types.specs.Premises.{Calls}
use Rattle.nomos_types.proofs.OccurrenceLaws.{contained}
use Rattle.nomos_machine.specs.Given.{me_value}
use Rattle.nomos_machine.specs.Matching.{NameHasType, HasBase, ProcessTyped}
use Rattle.nomos_machine.specs.Objects.{used, potential_of, free_purse}
use Rattle.nomos_machine.specs.Sight.{is_shared_name}
use Rattle.nomos_machine.specs.State.{State}
use Rattle.nomos_machine.specs.TypedState.{VariablesDiffer, IsTyped}
use Rattle.nomos_machine.specs.declared.object.Object.TheVariants as object
use Rattle.nomos_machine.specs.declared.object.Process.{Process}
use Rattle.nomos_machine.proofs.AloneLaws.{SameNames}
use Rattle.nomos_machine.proofs.ArgumentLaws.{reference-shown, bound-alike}
use Rattle.nomos_machine.proofs.BeginLaws.{StandsAtStart, carries, begun-potential, begun-uses, begun-variables, begun-typed}
use Rattle.nomos_machine.proofs.BirthLaws.{unshared-shown}
use Rattle.nomos_machine.proofs.GoesLaws.{process-typed, own-is_judgement}
use Rattle.nomos_machine.proofs.HandedLaws.{Handed}
use Rattle.nomos_machine.proofs.ObjectLaws.{bound-somewhere}
use Rattle.nomos_machine.proofs.ProcessLaws.{own_judgement}

module _ {a : Acceptance} (accepted : IsAccepted a) {s : State} (typed : IsTyped a s) {p : Process}
    (there : Contains s.objects (object.Process p)) where
  abbrev own : Judgement
  own = own_judgement p (process-typed typed there)

  module _ {f : ProcId} {args : Args} {vs : List Value} (says : Calls a.program a.annotations own f args)
      (handed : Handed accepted typed there says.d args vs says.left) where
    -- the process at the start of the declaration, with the parameters alone
    abbrev pub caller : Process
    caller = record p {
      code = says.d.first;
      values = bindings_of (me_value says.d.me p.payer ++ handed.g.values);
      lists = bindings_of handed.g.lists;
      channels = bindings_of handed.g.channels;
    }

    caller-start : StandsAtStart says.d handed.g caller
    caller-start = record {
      same_mode = (process-typed typed there).matches.mode ∙ sym says.mode;
      code = refl;
      values = refl;
      its_lists = refl;
      channels = refl;
    }

    caller-offers : NameHasType a.program a.annotations s.types p.offers says.d.offers
    caller-offers =
        let offers = (process-typed typed there).matches.offers in
        bound-alike a s p accepted p.offers own.offers says.d.offers offers says.offers

    -- what is left are references
    nothing-left : (name : ℕ) → is_shared_name a.program s.types name ≡ false → times_bound name handed.names ≡ 0
    nothing-left name unshared =
        elim (cases_eq (times_bound name handed.names) 0) [
          | inl none ↦ none
          | inr some ↦
              let (v, bound) = bound-somewhere handed.names name handed.names_ascend
              (contained name (map (λ (e : VarId × ℕ). e.1) handed.names) (omega arith)) in
              let (t, held, has) = paired-right name (handed.channels v) bound in
              let no_linear : bound_to v says.left.linear ≡ None = ap (bound_to v) says.nothing_held in
              let reference : bound_to v own.shared ≡ Some t =
              only-first (bound_to v own.shared) (bound_to v says.left.linear) t no_linear held
              in
              let at_s = all-bound (λ u. HasMode a.program u mode.S) v t own.shared
              (own-is_judgement typed there accepted).shared_modes reference in
              absurd (differ (sym (reference-shown a s p accepted name t has at_s) ∙ unshared))
        ]
      where
        differ : true ≡ false → ⊥
        differ equal = cc

        only-first : (o q : Option TypeId) (t : TypeId) → q ≡ None → option_or o q ≡ Some t → o ≡ Some t
        only-first (Some u) q t none found = found
        only-first None q t none found = absurd (nowhere (sym none ∙ found))
          where
            nowhere : None ≡ Some t → ⊥
            nowhere equal = cc

    caller-uses : (name : ℕ) → is_shared_name a.program s.types name ≡ false
        → count_of name (used (object.Process caller)) ≡ count_of name (used (object.Process p))
    caller-uses name unshared =
        let all = begun-uses accepted f.0 says.declared handed.fits caller caller-start name in
        omega (arith, all, handed.uses name unshared, nothing-left name unshared)

    pub caller-names : SameNames a s p caller
    caller-names = record {
      pid = refl;
      same_mode = refl;
      offers = refl;
      base = refl;
      uses = λ name t m found at not_s. caller-uses name (unshared-shown accepted s.types name t m found at not_s);
    }

    pub caller-variables : VariablesDiffer caller
    caller-variables = begun-variables accepted f.0 says.declared handed.fits caller caller-start caller-offers

    pub caller-typed : ProcessTyped a s.types (length s.balances) caller
    caller-typed =
        let t = process-typed typed there in
        let covered : potential_of p ≤ p.purse = t.covered in
        let enough : dths a.annotations says.d.amount ≤ free_purse p = says.enough in
        let same : potential_of caller ≡ sum_bound carries handed.g.lists =
        begun-potential accepted f.0 says.declared handed.fits caller caller-start
        in
        let has_base : HasBase a.program s.types caller =
        record { base = t.has_base.base; shared = t.has_base.shared }
        in
        begun-typed accepted f.0 says.declared handed.fits caller caller-start caller-offers
        (omega (arith, same, handed.potential)) (omega (arith, same, handed.potential)) t.payer has_base
