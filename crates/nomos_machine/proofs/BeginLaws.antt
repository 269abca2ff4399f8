-- A process at the start of a declaration is typed where what it is given fits the parameters.
use Rattle.std.proofs.Common.{◌≡◌, ◌≢◌, ◌≤◌, ◌<◌, ◌∙◌, ℕ, ◌+◌, ◌*◌, ◌==◌, Bool, true, false, not, cond, List, [], ◌∷◌, ◌++◌, map, filter, length, Option, Some, None, slice_get, refl, sym, ap, subst, arith, eqb-true}
use Rattle.std.proofs.lemmas.List.Sums.{sum_by-cons}
use Rattle.std.specs.List.{flat_map}
use Rattle.std.specs.Option.{option_or}
use Rattle.nomos_ir.specs.Bindings.{bound_to, bindings_of, sum_bound, variables_of, IsAscending}
use Rattle.nomos_ir.specs.Naming.{AllDiffer}
use Rattle.nomos_ir.specs.Order.{count_of}
use Rattle.nomos_ir.specs.Paired.{Paired, ArePaired, PairedInOrder}
use Rattle.nomos_ir.specs.Paired as pairs
use Rattle.nomos_ir.specs.Parameters.{me_parameter, proc_parameters}
use Rattle.nomos_ir.specs.Value.{Value}
use Rattle.nomos_ir.specs.ValueKind.{ValueHasKind}
use Rattle.nomos_ir.specs.declared.amount.Amount.{Amount}
use Rattle.nomos_ir.specs.declared.declaration.Par.{Par}
use Rattle.nomos_ir.specs.declared.declaration.ProcDecl.{ProcDecl}
use Rattle.nomos_ir.specs.declared.ids.TypeId.{TypeId}
use Rattle.nomos_ir.specs.declared.ids.VarId.{VarId}
use Rattle.nomos_ir.specs.declared.kind.Kind.{Kind}
use Rattle.nomos_ir.specs.declared.mode.Mode.TheVariants as mode
use Rattle.nomos_ir.proofs.BindingLaws.{bindings_of-ascending, bound-in_bindings_of}
use Rattle.nomos_ir.proofs.NodeLaws.{All-at}
use Rattle.nomos_ir.proofs.PairedLaws.{paired-as, paired-bindings_of, paired-in_order}
use Rattle.nomos_ir.proofs.SumLaws.{unbound-uncounted, sum-in_bindings_of, times_bound, count-in_bindings_of}
use Rattle.nomos_types.specs.Acceptance.{Acceptance, IsAccepted}
use Rattle.nomos_types.specs.Amount.{Annotations, dths}
use Rattle.nomos_types.specs.Derivation.{Derives}
use Rattle.nomos_types.specs.Derivation as derivation
use Rattle.nomos_types.specs.Judgement.{Judgement, ListType, type_held, payer_kinds, value_par, list_par, is_shared, start_of}
use Rattle.nomos_types.proofs.DerivationLaws.{derives-more}
use Rattle.nomos_types.proofs.OccurrenceLaws.{one_at, count-here, count-append, differ-once}
use Rattle.nomos_types.proofs.StartLaws.{start-is_judgement, start-suits_mode}
use Rattle.nomos_machine.specs.Given.{Given, me_value, begins}
use Rattle.nomos_machine.specs.Matching.{NameHasType, IsListOf, Matches, HasBase, ProcessTyped}
use Rattle.nomos_machine.specs.Objects.{potential_of, free_purse, used}
use Rattle.nomos_machine.specs.Starting.{FitValues, value, list, none, GivenFits}
use Rattle.nomos_machine.specs.State.{NameTypes, type_of}
use Rattle.nomos_machine.specs.TypedState.{VariablesDiffer}
use Rattle.nomos_machine.specs.declared.object.Object.TheVariants as object
use Rattle.nomos_machine.specs.declared.object.PotentialList.{PotentialList}
use Rattle.nomos_machine.specs.declared.object.Process.{Process}
use Rattle.nomos_machine.proofs.MatchLaws.{matches-differ}
use Rattle.nomos_machine.proofs.ObjectLaws.{of_type-kept}
use Rattle.nomos_machine.proofs.ProcessLaws.{offers-own_mode}

-- ---- values and lists

-- the kinds of the parameters that are values, and the lists of the others
abbrev kinds_of : List Par → List (VarId × Kind)
kinds_of pars = flat_map (λ par. value_par par.var par.kind par.amount) pars

abbrev lists_of : Annotations → List Par → List (VarId × ListType)
lists_of x pars = flat_map (λ par. list_par x par.var par.kind par.amount) pars

module _ {x : Annotations} where
  values-fit : {values : List (VarId × Value)} {its_lists : List (VarId × PotentialList)} {pars : List Par}
      → FitValues x values its_lists pars → PairedInOrder ValueHasKind values (kinds_of pars)
  values-fit none = pairs.none
  values-fit (value {values = values} {par = par} {pars = pars} v no_list has rest) =
      let Fit : Option Amount → Type 0 = λ o.
      PairedInOrder ValueHasKind ((par.var, v) ∷ values) (value_par par.var par.kind o ++ kinds_of pars)
      in
      subst Fit (sym no_list) (pairs.pair par.var has (values-fit rest))
  values-fit (list {values = values} {par = par} {pars = pars} l amount its_amount is rest) =
      let Fit : Option Amount → Type 0 = λ o.
      PairedInOrder ValueHasKind values (value_par par.var par.kind o ++ kinds_of pars)
      in
      subst Fit (sym its_amount) (values-fit rest)

  lists-fit : {values : List (VarId × Value)} {its_lists : List (VarId × PotentialList)} {pars : List Par}
      → FitValues x values its_lists pars → PairedInOrder IsListOf its_lists (lists_of x pars)
  lists-fit none = pairs.none
  lists-fit (value {its_lists = its_lists} {par = par} {pars = pars} v no_list has rest) =
      let Fit : Option Amount → Type 0 = λ o.
      PairedInOrder IsListOf its_lists (list_par x par.var par.kind o ++ lists_of x pars)
      in
      subst Fit (sym no_list) (lists-fit rest)
  lists-fit (list {its_lists = its_lists} {par = par} {pars = pars} l amount its_amount is rest) =
      let Fit : Option Amount → Type 0 = λ o.
      PairedInOrder IsListOf ((par.var, l) ∷ its_lists) (list_par x par.var par.kind o ++ lists_of x pars)
      in
      subst Fit (sym its_amount) (pairs.pair par.var is (lists-fit rest))

  -- a list has the variable of its parameter
  lists-occur : {values : List (VarId × Value)} {its_lists : List (VarId × PotentialList)} {pars : List Par} → (v : ℕ)
      → FitValues x values its_lists pars
      → count_of v (variables_of its_lists) ≤ count_of v (map (λ par. par.var.0) pars)
  lists-occur v none = omega arith
  lists-occur v (value {par = par} {pars = pars} w no_list has rest) =
      omega (arith, lists-occur v rest, sum_by-cons (one_at v) par.var.0 (map (λ (q : Par). q.var.0) pars))
  lists-occur v (list {its_lists = its_lists} {par = par} {pars = pars} l amount its_amount is rest) =
      omega (
        arith,
        lists-occur v rest,
        sum_by-cons (one_at v) par.var.0 (map (λ (q : Par). q.var.0) pars),
        sum_by-cons (one_at v) par.var.0 (variables_of its_lists),
      )

-- the payer's account has the kind of its variable
me-fits : (me : Option VarId) (payer : ℕ) {ps : List (VarId × Value)} {qs : List (VarId × Kind)}
    → PairedInOrder ValueHasKind ps qs → PairedInOrder ValueHasKind (me_value me payer ++ ps) (payer_kinds me ++ qs)
me-fits (Some v) payer rest = pairs.pair v refl rest
me-fits None payer rest = rest

-- ---- channels

-- where nothing is there of two, the first is not there
none-first : {X : Type 0} (o q : Option X) → option_or o q ≡ None → o ≡ None
none-first (Some x) q nothing = absurd cc
none-first None q nothing = refl

-- one more pair, among those that pass a test or among the others
first-passes : {X : Type 0} (t : Bool) (x : X) (o q r : Option X) → option_or o q ≡ r
    → option_or (cond t (Some x) o) q ≡ cond t (Some x) r
first-passes true x o q r rest = refl
first-passes false x o q r rest = rest

first-fails : {X : Type 0} (t : Bool) (x : X) (o q r : Option X) → (t ≡ true → r ≡ None) → option_or o q ≡ r
    → option_or o (cond t (Some x) q) ≡ cond t (Some x) r
first-fails true x o q r alone rest =
    ap (λ (p : Option _). option_or p (Some x)) (none-first o q (rest ∙ alone refl))
first-fails false x o q r alone rest = rest

module _ {X : Type 0} (p : VarId × X → Bool) (v : ℕ) where
  parted-first : (e : VarId × X) (ps kept others : List (VarId × X)) (b : Bool)
      → ((e.0.0 == v) ≡ true → bound_to v ps ≡ None) → option_or (bound_to v kept) (bound_to v others) ≡ bound_to v ps
      → option_or (bound_to v (cond b (e ∷ kept) kept)) (bound_to v (cond (not b) (e ∷ others) others))
      ≡ bound_to v (e ∷ ps)
  parted-first e ps kept others true alone rest =
      first-passes (e.0.0 == v) e.1 (bound_to v kept) (bound_to v others) (bound_to v ps) rest
  parted-first e ps kept others false alone rest =
      first-fails (e.0.0 == v) e.1 (bound_to v kept) (bound_to v others) (bound_to v ps) alone rest

  -- what a variable is bound to that stands once is found among the pairs that pass a test, or else among the others
  bound-parted : (ps : List (VarId × X)) → count_of v (variables_of ps) ≤ 1
      → option_or (bound_to v (filter p ps)) (bound_to v (filter (λ e. not (p e)) ps)) ≡ bound_to v ps
  bound-parted [] once = refl
  bound-parted (e ∷ ps) once =
      let behind = variables_of ps in
      let rest = bound-parted ps (omega (arith, once, sum_by-cons (one_at v) e.0.0 behind)) in
      let alone : (e.0.0 == v) ≡ true → bound_to v ps ≡ None = λ here.
      unbound-uncounted v ps (omega (arith, once, count-here v e.0.0 behind (eqb-true e.0.0 v here)))
      in
      parted-first e ps (filter p ps) (filter (λ f. not (p f)) ps) (p e) alone rest

-- pairs in the same order have the same variables
same-variables : {X Y : Type 0} {R : X → Y → Type 0} {ps : List (VarId × X)} {qs : List (VarId × Y)}
    → PairedInOrder R ps qs → variables_of ps ≡ variables_of qs
same-variables pairs.none = refl
same-variables (pairs.pair v related rest) = ap (λ vs. v.0 ∷ vs) (same-variables rest)

-- ---- other tables of types

names-kept : (a : Acceptance) (types others : NameTypes)
    → ((name : ℕ) (t : TypeId) → type_of types name ≡ Some t → type_of others name ≡ Some t)
    → {ps : List (VarId × ℕ)} {qs : List (VarId × TypeId)}
    → PairedInOrder (NameHasType a.program a.annotations types) ps qs
    → PairedInOrder (NameHasType a.program a.annotations others) ps qs
names-kept a types others kept pairs.none = pairs.none
names-kept a types others kept (pairs.pair {x = name} {y = t} v has rest) =
    pairs.pair v (of_type-kept a.program a.annotations types others name t (λ u found. kept name u found) has)
    (names-kept a types others kept rest)

-- what fits where names have their types fits where they have them too
pub given-kept : {a : Acceptance} {d : ProcDecl} {g : Given} (types others : NameTypes)
    → ((name : ℕ) (t : TypeId) → type_of types name ≡ Some t → type_of others name ≡ Some t)
    → GivenFits a types d g → GivenFits a others d g
given-kept {a} types others kept fits =
    record { values = fits.values; channels = names-kept a types others kept fits.channels }

-- ---- starts

-- A process stands at the start of a declaration, with what it is given for the parameters.
pub record StandsAtStart (d : ProcDecl) (g : Given) (q : Process) : Type 0 where
  pub same_mode : q.mode ≡ d.mode
  pub code : q.code ≡ d.first
  pub values : q.values ≡ bindings_of (me_value d.me q.payer ++ g.values)
  pub its_lists : q.lists ≡ bindings_of g.lists
  pub channels : q.channels ≡ bindings_of g.channels

-- what a list carries
abbrev pub carries : PotentialList → ℕ
carries l = l.amount * length l.items

module _ {a : Acceptance} (accepted : IsAccepted a) {types : NameTypes} {d : ProcDecl} {g : Given} (number : ℕ)
    (declared : slice_get a.program.procs number ≡ Some d) (fits : GivenFits a types d g) where
  abbrev first : Judgement
  first = start_of a.program a.annotations d

  -- no parameter stands twice
  parameters-once : (v : ℕ) → count_of v (proc_parameters d) ≤ 1
  parameters-once v =
      let Differ : ProcDecl → Type 0 = λ e. AllDiffer (proc_parameters e) in
      differ-once v (proc_parameters d)
      (All-at Differ a.program.procs number d accepted.typed.formed.program.parameters.procs declared)

  parameters-sum : (v : ℕ)
      → count_of v (map (λ par. par.var.0) d.values) + count_of v (variables_of d.channels) ≤ 1
  parameters-sum v =
      let me = me_parameter d.me in
      let value_names = map (λ (par : Par). par.var.0) d.values in
      omega (
        arith,
        parameters-once v,
        count-append v (me ++ value_names) (variables_of d.channels),
        count-append v me value_names,
      )

  pub lists-once : (v : ℕ) → count_of v (variables_of g.lists) ≤ 1
  lists-once v = omega (arith, lists-occur v fits.values, parameters-sum v)

  pub channels-once : (v : ℕ) → count_of v (variables_of g.channels) ≤ 1
  channels-once v = omega (arith, parameters-sum v, ap (count_of v) (same-variables fits.channels))

  -- it has what the judgement at the start says
  begun-channels : (v : ℕ)
      → Paired (NameHasType a.program a.annotations types) (bound_to v (bindings_of g.channels)) (type_held first v)
  begun-channels v =
      let shared = filter (is_shared a.program) d.channels in
      let linear = filter (λ (par : VarId × TypeId). not (is_shared a.program par)) d.channels in
      let once : count_of v (variables_of d.channels) ≤ 1 = omega (arith, parameters-sum v) in
      let held : type_held first v ≡ bound_to v d.channels =
      ap (λ (o : Option TypeId). option_or o (bound_to v (bindings_of linear))) (bound-in_bindings_of v shared)
      ∙ ap (option_or (bound_to v shared)) (bound-in_bindings_of v linear)
      ∙ bound-parted (is_shared a.program) v d.channels once
      in
      paired-as (bound-in_bindings_of v g.channels) held (paired-in_order fits.channels v)

  pub begun-matches : (q : Process) → StandsAtStart d g q → NameHasType a.program a.annotations types q.offers d.offers
      → Matches a.program a.annotations types q first
  begun-matches q start offers =
      let values = me_value d.me q.payer ++ g.values in
      let kinds = payer_kinds d.me ++ kinds_of d.values in
      let its_lists = lists_of a.annotations d.values in
      record {
        mode = start.same_mode;
        code = start.code;
        offers = offers;
        values = λ v. paired-as (ap (bound_to v) start.values) refl
            (paired-bindings_of values kinds (paired-in_order (me-fits d.me q.payer (values-fit fits.values))) v);
        held_lists = λ v. paired-as (ap (bound_to v) start.its_lists) refl
            (paired-bindings_of g.lists its_lists (paired-in_order (lists-fit fits.values)) v);
        channels = λ v. paired-as (ap (bound_to v) start.channels) refl (begun-channels v);
      }

  pub begun-potential : (q : Process) → StandsAtStart d g q → potential_of q ≡ sum_bound carries g.lists
  begun-potential q start =
      ap (sum_bound carries) start.its_lists ∙ sum-in_bindings_of carries g.lists lists-once

  pub begun-uses : (q : Process) → StandsAtStart d g q → (name : ℕ)
      → count_of name (used (object.Process q)) ≡ times_bound name g.channels
  begun-uses q start name = ap (times_bound name) start.channels ∙ count-in_bindings_of name g.channels channels-once

  pub begun-variables : (q : Process) → StandsAtStart d g q
      → NameHasType a.program a.annotations types q.offers d.offers → VariablesDiffer q
  begun-variables q start offers =
      matches-differ (start-is_judgement a.annotations number accepted.typed.formed declared)
      (begun-matches q start offers)
      (subst IsAscending (sym start.values) (bindings_of-ascending (me_value d.me q.payer ++ g.values)))
      (subst IsAscending (sym start.its_lists) (bindings_of-ascending g.lists))
      (subst IsAscending (sym start.channels) (bindings_of-ascending g.channels))

  -- Such a process is typed where its purse covers its lists and has the declared potential besides.
  pub begun-typed : {accounts : ℕ} (q : Process) → StandsAtStart d g q
      → NameHasType a.program a.annotations types q.offers d.offers → potential_of q ≤ q.purse
      → dths a.annotations d.amount ≤ free_purse q → q.payer < accounts → HasBase a.program types q
      → ProcessTyped a types accounts q
  begun-typed q start offers covered enough payer has_base =
      let derived : Derives a.program a.annotations first =
      All-at (λ e. Derives a.program a.annotations (start_of a.program a.annotations e)) a.program.procs number d
      accepted.typed.procs declared
      in
      let matches = begun-matches q start offers in
      record {
        place = first;
        is_place = record {
          number = number;
          declaration = d;
          declared = declared;
          follows = derivation.first;
        };
        matches = matches;
        covered = covered;
        derives = derives-more (free_purse q) enough derived;
        payer = payer;
        offered =
            offers-own_mode accepted (start-suits_mode a.annotations number accepted.typed.formed declared) matches;
        has_base = has_base;
      }

  -- ---- a process that comes

  pub begins-start : (pid offers potential payer : ℕ) → StandsAtStart d g (begins d g pid offers potential payer)
  begins-start pid offers potential payer =
      record { same_mode = refl; code = refl; values = refl; its_lists = refl; channels = refl }

  -- what it has in its purse
  pub begins-purse : (pid offers potential payer : ℕ)
      → (begins d g pid offers potential payer).purse ≡ potential + sum_bound carries g.lists
  begins-purse pid offers potential payer =
      ap (λ (n : ℕ). potential + n) (sum-in_bindings_of carries g.lists lists-once)

  -- One that comes with the declared potential is typed, but for mode L, at which a base would be wanted.
  pub begins-typed : {accounts : ℕ} (pid offers payer : ℕ) → NameHasType a.program a.annotations types offers d.offers
      → payer < accounts → d.mode ≢ mode.L
      → ProcessTyped a types accounts (begins d g pid offers (dths a.annotations d.amount) payer)
  begins-typed pid offers payer offered account other =
      let q : Process = begins d g pid offers (dths a.annotations d.amount) payer in
      let gas : ℕ = dths a.annotations d.amount in
      let has_base : HasBase a.program types q = record {
        base = (λ some. absurd cc, λ at_l. absurd (other at_l));
        shared = λ b is. absurd cc;
      } in
      begun-typed q (begins-start pid offers gas payer) offered (omega arith) (omega arith) account has_base

  pub begins-variables : (pid offers potential payer : ℕ) → NameHasType a.program a.annotations types offers d.offers
      → VariablesDiffer (begins d g pid offers potential payer)
  begins-variables pid offers potential payer offered =
      begun-variables (begins d g pid offers potential payer) (begins-start pid offers potential payer) offered
