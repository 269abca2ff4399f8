-- A process that spawns another one leaves a typed state typed.
use Rattle.std.proofs.Common.{◌≡◌, ◌≢◌, ◌⊎◌, ◌∙◌, ◌≤◌, inl, inr, ℕ, ◌+◌, ◌-◌, List, [], ◌∷◌, ◌++◌, length, Contains, Option, Some, None, refl, sym, subst, ap, arith, ne_eqb}
use Rattle.std.proofs.lemmas.List.Elements.{All-nil, All-cons, Contains-append_left}
use Rattle.std.specs.Option.{option_or, option_to_list}
use Rattle.nomos_ir.specs.Bindings.{bound_to, bind, sum_bound}
use Rattle.nomos_ir.specs.Order.{count_of}
use Rattle.nomos_ir.specs.Value.{Value}
use Rattle.nomos_ir.specs.declared.code_node.Args.{Args}
use Rattle.nomos_ir.specs.declared.declaration.ProcDecl.{ProcDecl}
use Rattle.nomos_ir.specs.declared.ids.CodeId.{CodeId}
use Rattle.nomos_ir.specs.declared.ids.ProcId.{ProcId}
use Rattle.nomos_ir.specs.declared.ids.TypeId.{TypeId}
use Rattle.nomos_ir.specs.declared.ids.VarId.{VarId}
use Rattle.nomos_ir.specs.declared.mode.Mode.{Mode}
use Rattle.nomos_ir.specs.declared.mode.Mode.TheVariants as mode
use Rattle.nomos_ir.proofs.BindingLaws.{bind-ascending}
use Rattle.nomos_ir.proofs.PairedLaws.{none-left}
use Rattle.nomos_ir.proofs.SumLaws.{times_bound, count-first, count-after_bind}
use Rattle.nomos_machine.proofs.ChannelLaws.{uncounted}
use Rattle.nomos_types.specs.Acceptance.{Acceptance, IsAccepted}
use Rattle.nomos_types.specs.Amount.{dths}
use Rattle.nomos_types.specs.Judgement.{Judgement, at_code, with_potential, binds_channel}
use Rattle.nomos_types.specs.Modes.{HasMode}
use Rattle.nomos_types.specs.Premises.{Spawns}
use Rattle.nomos_types.specs.TypingRule.{TypingRule}
use Rattle.nomos_types.proofs.AlikeLaws.{alike_types-same}
use Rattle.nomos_types.proofs.ArgumentsLaws.{arguments-left}
use Rattle.nomos_types.proofs.JudgementLaws.{spawned-carried}
use Rattle.nomos_types.proofs.ModeLaws.{offered-has_mode}
use Rattle.nomos_types.proofs.OccurrenceLaws.{count-elsewhere}
use Rattle.nomos_machine.specs.Change.{put_at, made}
use Rattle.nomos_machine.specs.Given.{begins}
use Rattle.nomos_machine.specs.Matching.{NameHasType, Matches, HasBase, ProcessTyped}
use Rattle.nomos_machine.specs.Objects.{used, potential_of, free_purse}
use Rattle.nomos_machine.specs.Revised.{standing_at, with_channel, poorer}
use Rattle.nomos_machine.specs.Starting.{GivenFits}
use Rattle.nomos_machine.specs.State.{State, NameTypes, type_of}
use Rattle.nomos_machine.specs.TypedState.{VariablesDiffer, HasVariables, ObjectTyped, LeadsToBase, IsTyped}
use Rattle.nomos_machine.specs.declared.object.Object.{Object}
use Rattle.nomos_machine.specs.declared.object.Object.TheVariants as object
use Rattle.nomos_machine.specs.declared.object.Process.{Process}
use Rattle.nomos_machine.proofs.BeginLaws.{carries, given-kept, begins-start, begins-purse, begins-typed, begins-variables, begun-uses}
use Rattle.nomos_machine.proofs.BirthLaws.{birth, uses_at, IsBirth, next-unshown}
use Rattle.nomos_machine.proofs.GasLaws.{KeepsGas}
use Rattle.nomos_machine.proofs.GoesLaws.{process-typed, process-variables, own-is_judgement, next-is_judgement}
use Rattle.nomos_machine.proofs.HandedLaws.{Handed}
use Rattle.nomos_machine.proofs.MatchLaws.{HoldsChannels, holds-linear, holds-shared, matches-differ}
use Rattle.nomos_machine.proofs.NameLaws.{type_of-added, type_of-kept}
use Rattle.nomos_machine.proofs.ObjectLaws.{of_type-kept, paired-weaker}
use Rattle.nomos_machine.proofs.OwnedLaws.{next-not_outside}
use Rattle.nomos_machine.proofs.PlacedLaws.{leads-more, placed-replaces, placed-leads}
use Rattle.nomos_machine.proofs.ProcessLaws.{own_judgement, process-next}

-- ---- a channel that is bound at any mode

module _ {X : Type 0} {R : X → TypeId → Type 0} (channels : List (VarId × X)) (k : Judgement) (v : VarId) (x : X)
    (t : TypeId) (free : bound_to v.0 k.shared ≡ None) (related : R x t)
    (holds : HoldsChannels R channels k.shared k.linear) where
  pub holds-bound : (m : Mode)
      → HoldsChannels R (bind v x channels) (binds_channel k v m t).shared (binds_channel k v m t).linear
  holds-bound mode.S = holds-shared channels k.shared k.linear v x t related holds
  holds-bound mode.R = holds-linear channels k.shared k.linear v x t free related holds
  holds-bound mode.L = holds-linear channels k.shared k.linear v x t free related holds
  holds-bound mode.T = holds-linear channels k.shared k.linear v x t free related holds

-- and nothing but channels is other then
binds-as : (k : Judgement) (v : VarId) (m : Mode) (t : TypeId)
    → binds_channel k v m t
    ≡ record k { shared = (binds_channel k v m t).shared; linear = (binds_channel k v m t).linear }
binds-as k v mode.S t = refl
binds-as k v mode.R t = refl
binds-as k v mode.L t = refl
binds-as k v mode.T t = refl

-- ---- a variable that is free

-- ---- a spawn

module _ {a : Acceptance} (accepted : IsAccepted a) {s : State} (typed : IsTyped a s) {p : Process}
    (there : Contains s.objects (object.Process p)) where
  abbrev own : Judgement
  own = own_judgement p (process-typed typed there)

  abbrev paid : ProcDecl → ℕ
  paid d = dths a.annotations d.amount

  -- what a rule leaves of it, at the next instruction, without what it pays
  abbrev left_on : ProcDecl → Judgement → CodeId → Judgement
  left_on d left next = with_potential (at_code left next) (own.q - paid d)

  module _ {v : VarId} {f : ProcId} {args : Args} (next : CodeId) {d : ProcDecl} {left : Judgement} {vs : List Value}
      (says : Spawns a.program a.annotations own v f args d left) (handed : Handed accepted typed there d args vs left)
      {after : List Judgement} (row : TypingRule a.program a.annotations own after)
      (goes_on : after ≡ binds_channel (left_on d left next) v d.mode d.offers ∷ []) where
    -- the process that comes, and what is left
    abbrev pub child : Process
    child = begins d handed.g s.next_object s.next_name (paid d) p.payer

    abbrev pub parent : Process
    parent = standing_at next (with_channel v s.next_name (poorer child.purse
        (record p { lists = handed.its_lists; channels = handed.names })))

    abbrev places : List (ℕ × Option Object)
    places = (p.pid, Some (object.Process parent)) ∷ []

    abbrev types : NameTypes
    types = (made s (birth s s.outside places child d.offers None)).types

    kept : (name : ℕ) (t : TypeId) → type_of s.types name ≡ Some t → type_of types name ≡ Some t
    kept name t found = type_of-kept s.types ((s.next_name, d.offers) ∷ []) name t found

    has_type-kept : (name : ℕ) (t : TypeId) → NameHasType a.program a.annotations s.types name t
        → NameHasType a.program a.annotations types name t
    has_type-kept name t has =
        of_type-kept a.program a.annotations s.types types name t (λ u found. kept name u found) has

    offered : HasMode a.program d.offers d.mode
    offered = offered-has_mode a.program f.0 d says.declared

    next-has_type : NameHasType a.program a.annotations types s.next_name d.offers
    next-has_type = record {
      own = d.offers;
      found = type_of-added s.types s.next_name d.offers typed.numbered.names;
      alike = alike_types-same a.annotations accepted.typed.formed.program accepted.typed.formed.contractive offered;
    }

    -- what the rule leaves, where nothing but lists and channels is other
    abbrev rest : Judgement
    rest = record own { lists = left.lists; linear = left.linear }

    abbrev onward : Judgement
    onward = left_on d rest next

    abbrev k : Judgement
    k = binds_channel onward v d.mode d.offers

    among : Contains after k
    among =
        let Goes : Judgement → Type 0 = λ j. after ≡ binds_channel (left_on d j next) v d.mode d.offers ∷ [] in
        subst (λ (js : List Judgement). Contains js k) (sym (subst Goes handed.same goes_on)) (0, omega arith, refl)

    -- the new variable is free in it
    free-shared : bound_to v.0 own.shared ≡ None
    free-shared = uncounted (bound_to v.0 own.shared) (omega (arith, says.free))

    free-names : bound_to v.0 handed.names ≡ None
    free-names =
        let fewer = (arguments-left (own-is_judgement typed there accepted) says.arguments).parts v.0 in
        let none : bound_to v.0 left.linear ≡ None =
        uncounted (bound_to v.0 left.linear) (omega (arith, fewer, says.free))
        in
        none-left (handed.channels v.0)
        (ap (λ (o : Option TypeId). option_or o (bound_to v.0 left.linear)) free-shared ∙ none)

    holds-on : HoldsChannels (NameHasType a.program a.annotations types) handed.names onward.shared onward.linear
    holds-on w =
        paired-weaker (NameHasType a.program a.annotations s.types) (NameHasType a.program a.annotations types)
        (bound_to w handed.names) (option_or (bound_to w own.shared) (bound_to w left.linear)) (handed.channels w)
        (λ name t bound has. has_type-kept name t has)

    parent-matches : Matches a.program a.annotations types parent k
    parent-matches =
        let t = process-typed typed there in
        let as_bound : Judgement = record onward { shared = k.shared; linear = k.linear } in
        let here : Matches a.program a.annotations types parent as_bound =
        record {
          mode = t.matches.mode;
          code = refl;
          offers = has_type-kept p.offers own.offers t.matches.offers;
          values = t.matches.values;
          held_lists = handed.held_lists;
          channels = holds-bound handed.names onward v s.next_name d.offers free-shared next-has_type holds-on d.mode;
        } in
        subst (Matches a.program a.annotations types parent) (sym (binds-as onward v d.mode d.offers)) here

    -- what is paid, and what is handed over in lists
    gas-of_child : child.purse ≡ paid d + sum_bound carries handed.g.lists
    gas-of_child = begins-purse accepted f.0 says.declared handed.fits s.next_object s.next_name (paid d) p.payer

    parent-base : HasBase a.program types parent
    parent-base =
        let t = process-typed typed there in
        record {
          base = (λ some. t.has_base.base.0 some, λ at_l. t.has_base.base.1 at_l);
          shared = λ b is.
              let (u, found, at_s) = t.has_base.shared b is in
              (u, kept b u found, at_s);
        }

    parent-covered : potential_of parent ≤ parent.purse
    parent-covered =
        let t = process-typed typed there in
        let covered : potential_of p ≤ p.purse = t.covered in
        let enough : paid d ≤ free_purse p = says.enough in
        omega (arith, gas-of_child, handed.potential)

    parent-free : free_purse parent ≡ k.q
    parent-free =
        let t = process-typed typed there in
        let covered : potential_of p ≤ p.purse = t.covered in
        let enough : paid d ≤ free_purse p = says.enough in
        let free : free_purse parent ≡ free_purse p - paid d = omega (arith, gas-of_child, handed.potential) in
        free ∙ ap (λ (j : Judgement). j.q) (sym (binds-as onward v d.mode d.offers))

    parent-typed : ProcessTyped a types (length s.balances) parent
    parent-typed =
        process-next accepted (process-typed typed there) after k row among parent-matches parent-covered parent-free
        refl parent-base

    parent-variables : VariablesDiffer parent
    parent-variables =
        matches-differ (next-is_judgement typed there accepted k row among) parent-matches
        (process-variables typed there).values handed.lists_ascend
        (bind-ascending v s.next_name handed.names handed.names_ascend)

    -- the new name is used once more, and every other one as often as it was
    parent-uses : (name : ℕ)
        → count_of name (used (object.Process parent))
        ≡ times_bound name handed.names + count_of name (s.next_name ∷ [])
    parent-uses name =
        let none : count_of name (option_to_list (bound_to v.0 handed.names)) ≡ 0 =
        ap (λ (o : Option ℕ). count_of name (option_to_list o)) free-names
        in
        omega (arith, count-after_bind name v s.next_name handed.names handed.names_ascend, none)

    child-uses : (name : ℕ) → count_of name (used (object.Process child)) ≡ times_bound name handed.g.channels
    child-uses name =
        begun-uses accepted f.0 says.declared handed.fits child
        (begins-start accepted f.0 says.declared handed.fits s.next_object s.next_name (paid d) p.payer) name

    spawned-not_l : d.mode ≢ mode.L
    spawned-not_l = not-l d.mode (spawned-carried own.mode d.mode says.mode)
      where
        not-l : (m : Mode) → (m ≡ mode.S) ⊎ (m ≡ mode.R) → m ≢ mode.L
        not-l m (inl at_s) at_l = absurd cc
        not-l m (inr at_r) at_l = absurd cc

    spawned-used : d.mode ≢ mode.S → uses_at d.mode ≡ 1
    spawned-used = used-once d.mode (spawned-carried own.mode d.mode says.mode)
      where
        used-once : (m : Mode) → (m ≡ mode.S) ⊎ (m ≡ mode.R) → m ≢ mode.S → uses_at m ≡ 1
        used-once m (inl at_s) not_s = absurd (not_s at_s)
        used-once m (inr at_r) not_s = ap uses_at at_r

    spawn-leads : (base name : ℕ) → LeadsToBase s.objects base name
        → LeadsToBase (made s (birth s s.outside places child d.offers None)).objects base name
    spawn-leads base name leads =
        let placed = put_at p.pid (Some (object.Process parent)) s.objects in
        leads-more placed (placed ++ object.Process child ∷ [])
        (λ o inside. Contains-append_left placed (object.Process child ∷ []) o inside) base name
        (placed-leads typed there parent refl refl refl refl base name leads)

    pub spawn-birth : IsBirth a s s.outside places (object.Process p ∷ []) child d.offers None
    spawn-birth = record {
      replaces = placed-replaces typed there parent refl;
      numbered = refl;
      offers = refl;
      at = offered;
      not_l = spawned-not_l;
      provides = λ name. refl;
      stands = λ name. refl;
      uses = λ name other unshared.
          let apart : s.next_name ≢ name = λ same. other (sym same) in
          omega (
            arith,
            parent-uses name,
            child-uses name,
            handed.uses name unshared,
            count-elsewhere name s.next_name [] (ne_eqb s.next_name name apart),
          );
      uses_next = λ not_s.
          omega (
            arith,
            parent-uses s.next_name,
            child-uses s.next_name,
            handed.uses s.next_name (next-unshown typed),
            count-first s.next_name [],
            spawned-used not_s,
            next-not_outside typed,
          );
      outside_others = λ name other. refl;
      outside_next = λ not_r. next-not_outside typed;
      leads = spawn-leads;
      variables = All-cons HasVariables (object.Process parent) (object.Process child ∷ []) parent-variables
          (All-cons HasVariables (object.Process child) []
          (begins-variables accepted f.0 says.declared child-given s.next_object s.next_name (paid d) p.payer
          next-has_type)
          (All-nil HasVariables));
      typed = All-cons Here (object.Process parent) (object.Process child ∷ []) parent-typed
          (All-cons Here (object.Process child) []
          (begins-typed accepted f.0 says.declared child-given s.next_object s.next_name p.payer next-has_type
          (process-typed typed there).payer spawned-not_l) (All-nil Here));
    }
      where
        Here : Object → Type 0
        Here o = ObjectTyped a types (length s.balances) o

        child-given : GivenFits a types d handed.g
        child-given = given-kept s.types types kept handed.fits

    pub spawn-keeps_gas : KeepsGas s (birth s s.outside places child d.offers None) (object.Process p ∷ [])
    spawn-keeps_gas =
        let t = process-typed typed there in
        let covered : potential_of p ≤ p.purse = t.covered in
        let enough : paid d ≤ free_purse p = says.enough in
        record { gives = tt; gets = tt; even = omega (arith, gas-of_child, handed.potential) }
