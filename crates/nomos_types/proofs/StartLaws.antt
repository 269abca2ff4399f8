-- The start of a declaration is a judgement, and suits its mode.
use Rattle.std.proofs.Common.{◌≡◌, ◌≤◌, ℕ, ◌+◌, ◌==◌, Bool, true, false, cond, not, inl, inr, IsTrue, List, [], ◌∷◌, ◌++◌, map, filter, get_or, All, Option, Some, None, slice_get, subst, ap, refl, arith, eqb-true}
use Rattle.std.proofs.lemmas.List.{map-append}
use Rattle.std.proofs.lemmas.List.Elements.{All-filter, filter_passes, Contains-get_or}
use Rattle.std.proofs.lemmas.List.Sums.{sum_by-cons}
use Rattle.std.specs.List.{flat_map}
use Rattle.nomos_ir.specs.declared.amount.Amount.{Amount}
use Rattle.nomos_ir.specs.declared.declaration.Par.{Par}
use Rattle.nomos_ir.specs.declared.declaration.ProcDecl.{ProcDecl}
use Rattle.nomos_ir.specs.declared.ids.TypeId.{TypeId}
use Rattle.nomos_ir.specs.declared.ids.VarId.{VarId}
use Rattle.nomos_ir.specs.declared.kind.Kind.{Kind}
use Rattle.nomos_ir.specs.declared.lists.ProgramLists.{ProgramLists}
use Rattle.nomos_ir.specs.declared.mode.Mode.{Mode}
use Rattle.nomos_ir.specs.declared.mode.Mode.TheVariants as mode
use Rattle.nomos_ir.specs.Bindings.{bound_to, bindings_of, variables_of}
use Rattle.nomos_ir.specs.Naming.{AllDiffer}
use Rattle.nomos_ir.specs.Nodes.{type_node}
use Rattle.nomos_ir.specs.Order.{count_of}
use Rattle.nomos_ir.specs.Parameters.{me_parameter, proc_parameters}
use Rattle.nomos_ir.proofs.BindingLaws.{bindings_of-ascending, bound-in_bindings_of, all-in_bindings_of}
use Rattle.nomos_ir.proofs.NodeLaws.{All-at}
use Rattle.nomos_types.specs.Amount.{Annotations}
use Rattle.nomos_types.specs.Judgement.{ListType, count_one, parts_with, IsJudgement, SuitsMode, payer_kinds, value_par, list_par, is_shared_mode, is_shared, start_of}
use Rattle.nomos_types.specs.Modes.{HasMode, IsLinearMode, may_hold, as_parameter, head_mode, parameter_mode}
use Rattle.nomos_types.specs.Typed.{IsWellFormed}
use Rattle.nomos_types.proofs.JudgementParts.{IsLinearType, MayBeHeld}
use Rattle.nomos_types.proofs.ModeLaws.{parameter-has_mode, offered-has_mode}
use Rattle.nomos_types.proofs.OccurrenceLaws.{one_at, count-here, count-elsewhere, count-append, differ-once}

-- ---- the variables of pairs

-- a variable that is bound occurs, where the test of the first one is known
bound-once_at : {X : Type 0} (v : ℕ) (e : VarId × X) (ps : List (VarId × X)) (t : Bool) → (e.0.0 == v) ≡ t
    → count_one (bound_to v ps) ≤ count_of v (variables_of ps)
    → count_one (cond t (Some e.1) (bound_to v ps)) ≤ count_of v (variables_of (e ∷ ps))
bound-once_at v e ps true here rest = omega (arith, count-here v e.0.0 (variables_of ps) (eqb-true e.0.0 v here))
bound-once_at v e ps false here rest = omega (arith, count-elsewhere v e.0.0 (variables_of ps) here)

-- a variable that is bound occurs
bound-occurs : {X : Type 0} (v : ℕ) (ps : List (VarId × X)) → count_one (bound_to v ps) ≤ count_of v (variables_of ps)
bound-occurs v [] = omega arith
bound-occurs v (e ∷ ps) = bound-once_at v e ps (e.0.0 == v) refl (bound-occurs v ps)

-- a variable that the map of pairs binds occurs among them
map-occurs : {X : Type 0} (v : ℕ) (ps : List (VarId × X))
    → count_one (bound_to v (bindings_of ps)) ≤ count_of v (variables_of ps)
map-occurs {X} v ps =
    omega (arith, bound-occurs v ps, ap (λ (o : Option X). count_one o) (bound-in_bindings_of v ps))

-- ---- values and lists, references and other channels

module _ (x : Annotations) (v : ℕ) where
  -- one more parameter is a value or a list
  value-or_list : (var : VarId) (kind : Kind) (amount : Option Amount) (ks : List (VarId × Kind))
      (ls : List (VarId × ListType)) (ns : List ℕ)
      → count_of v (variables_of ks) + count_of v (variables_of ls) ≡ count_of v ns
      → count_of v (variables_of (value_par var kind amount ++ ks))
      + count_of v (variables_of (list_par x var kind amount ++ ls)) ≡ count_of v (var.0 ∷ ns)
  value-or_list var kind None ks ls ns rest =
      omega (arith, sum_by-cons (one_at v) var.0 (variables_of ks), sum_by-cons (one_at v) var.0 ns)
  value-or_list var kind (Some amount) ks ls ns rest =
      omega (arith, sum_by-cons (one_at v) var.0 (variables_of ls), sum_by-cons (one_at v) var.0 ns)

  -- each parameter is a value or a list
  values-and_lists : (pars : List Par)
      → count_of v (variables_of (flat_map (λ par. value_par par.var par.kind par.amount) pars))
      + count_of v (variables_of (flat_map (λ par. list_par x par.var par.kind par.amount) pars))
      ≡ count_of v (map (λ par. par.var.0) pars)
  values-and_lists [] = refl
  values-and_lists (par ∷ pars) =
      let ks = flat_map (λ (q : Par). value_par q.var q.kind q.amount) pars in
      let ls = flat_map (λ (q : Par). list_par x q.var q.kind q.amount) pars in
      value-or_list par.var par.kind par.amount ks ls (map (λ (q : Par). q.var.0) pars) (values-and_lists pars)

module _ (p : VarId × TypeId → Bool) (v : ℕ) where
  -- one more channel passes or does not
  passing-or_not : (e : VarId × TypeId) (ks ls : List (VarId × TypeId)) (ns : List ℕ) (t : Bool)
      → count_of v (variables_of ks) + count_of v (variables_of ls) ≡ count_of v ns
      → count_of v (variables_of (cond t (e ∷ ks) ks)) + count_of v (variables_of (cond (not t) (e ∷ ls) ls))
      ≡ count_of v (e.0.0 ∷ ns)
  passing-or_not e ks ls ns true rest =
      omega (arith, sum_by-cons (one_at v) e.0.0 (variables_of ks), sum_by-cons (one_at v) e.0.0 ns)
  passing-or_not e ks ls ns false rest =
      omega (arith, sum_by-cons (one_at v) e.0.0 (variables_of ls), sum_by-cons (one_at v) e.0.0 ns)

  -- each channel passes a test or does not
  filter-both : (cs : List (VarId × TypeId))
      → count_of v (variables_of (filter p cs)) + count_of v (variables_of (filter (λ e. not (p e)) cs))
      ≡ count_of v (variables_of cs)
  filter-both [] = refl
  filter-both (e ∷ cs) =
      passing-or_not e (filter p cs) (filter (λ f. not (p f)) cs) (variables_of cs) (p e) (filter-both cs)

-- the payer's variable
payer-variable : (me : Option VarId) → variables_of (payer_kinds me) ≡ me_parameter me
payer-variable (Some v) = refl
payer-variable None = refl

-- no parameter stands in two maps of the start
start-apart : (lists : ProgramLists) (x : Annotations) (d : ProcDecl) (v : ℕ) → AllDiffer (proc_parameters d)
    → parts_with (start_of lists x d) v ≤ 1
start-apart lists x d v differ =
    let payer = payer_kinds d.me in
    let values = flat_map (λ (par : Par). value_par par.var par.kind par.amount) d.values in
    let its_lists = flat_map (λ (par : Par). list_par x par.var par.kind par.amount) d.values in
    let references = filter (is_shared lists) d.channels in
    let used_once = filter (λ (par : VarId × TypeId). not (is_shared lists par)) d.channels in
    let me = me_parameter d.me in
    let value_names = map (λ (par : Par). par.var.0) d.values in
    let kinds_occur = map-occurs v (payer ++ values) in
    let lists_occur = map-occurs v its_lists in
    let shared_occur = map-occurs v references in
    let linear_occur = map-occurs v used_once in
    let of_kinds = ap (count_of v) (map-append (λ (e : VarId × Kind). e.0.0) payer values) in
    let of_payer = ap (count_of v) (payer-variable d.me) in
    let kinds_both = count-append v (variables_of payer) (variables_of values) in
    let values_both = values-and_lists x v d.values in
    let channels_both = filter-both (is_shared lists) v d.channels in
    let all = count-append v (me ++ value_names) (variables_of d.channels) in
    let before = count-append v me value_names in
    let once = differ-once v (proc_parameters d) differ in
    omega arith

-- ---- the modes of channels

-- a reference's mode is S
pub reference-at_s : (m : Mode) → is_shared_mode m ≡ true → m ≡ mode.S
reference-at_s mode.S is = refl
reference-at_s mode.R is = absurd cc
reference-at_s mode.L is = absurd cc
reference-at_s mode.T is = absurd cc

-- the mode of every other channel parameter is one of channels that are used exactly once
parameter-linear : (o : Option Mode) → not (is_shared_mode (as_parameter o)) ≡ true → IsLinearMode (as_parameter o)
parameter-linear (Some mode.S) is = absurd cc
parameter-linear (Some mode.L) is = inr refl
parameter-linear o is = inl refl

-- the start of a declaration is a judgement
pub start-is_judgement : {lists : ProgramLists} {d : ProcDecl} → (x : Annotations) (p : ℕ) → IsWellFormed lists
    → slice_get lists.procs p ≡ Some d → IsJudgement lists (start_of lists x d)
start-is_judgement {lists = lists} {d = d} x p formed found =
    let is_reference = is_shared lists in
    let is_used_once : VarId × TypeId → Bool = λ par. not (is_shared lists par) in
    let HasItsMode : VarId × TypeId → Type 0 = λ par. HasMode lists par.1 (parameter_mode lists par.1) in
    let Differ : ProcDecl → Type 0 = λ e. AllDiffer (proc_parameters e) in
    let differ = All-at Differ lists.procs p d formed.program.parameters.procs found in
    let have_modes : All HasItsMode d.channels =
    λ k e inside.
    let par = get_or d.channels k e in
    parameter-has_mode lists p d par.0 par.1 found (Contains-get_or d.channels k e inside)
    in
    let references_have = All-filter is_reference HasItsMode d.channels have_modes in
    let references_are = filter_passes is_reference d.channels in
    let used_have = All-filter is_used_once HasItsMode d.channels have_modes in
    let used_are = filter_passes is_used_once d.channels in
    let references_at_s : All (λ par. HasMode lists par.1 mode.S) (filter is_reference d.channels) =
    λ k e inside.
    let par = get_or (filter is_reference d.channels) k e in
    let at_s = reference-at_s (parameter_mode lists par.1) (references_are k e inside) in
    subst (λ (m : Mode). HasMode lists par.1 m) at_s (references_have k e inside)
    in
    let used_linear : All (λ par. IsLinearType lists par.1) (filter is_used_once d.channels) =
    λ k e inside.
    let par = get_or (filter is_used_once d.channels) k e in
    let linear = parameter-linear (head_mode lists (type_node lists par.1.0)) (used_are k e inside) in
    (parameter_mode lists par.1, used_have k e inside, linear)
    in
    let AtS : TypeId → Type 0 = λ t. HasMode lists t mode.S in
    let values = flat_map (λ (par : Par). value_par par.var par.kind par.amount) d.values in
    record {
      kinds = bindings_of-ascending (payer_kinds d.me ++ values);
      lists_ascend = bindings_of-ascending (flat_map (λ par. list_par x par.var par.kind par.amount) d.values);
      shared = bindings_of-ascending (filter is_reference d.channels);
      linear = bindings_of-ascending (filter is_used_once d.channels);
      apart = λ v. start-apart lists x d v differ;
      shared_modes = all-in_bindings_of AtS (filter is_reference d.channels) references_at_s;
      linear_modes = all-in_bindings_of (IsLinearType lists) (filter is_used_once d.channels) used_linear;
    }

-- it suits the mode of the declaration
pub start-suits_mode : {lists : ProgramLists} {d : ProcDecl} → (x : Annotations) (p : ℕ) → IsWellFormed lists
    → slice_get lists.procs p ≡ Some d → SuitsMode lists (start_of lists x d)
start-suits_mode {lists = lists} {d = d} x p formed found =
    let is_used_once : VarId × TypeId → Bool = λ par. not (is_shared lists par) in
    let IsHeld : VarId × TypeId → Type 0 = λ par. MayBeHeld lists d.mode par.1 in
    let MayHold : ProcDecl → Type 0 = λ e.
    All (λ par. IsTrue (may_hold e.mode (parameter_mode lists par.1))) e.channels in
    let may : All (λ par. IsTrue (may_hold d.mode (parameter_mode lists par.1))) d.channels =
    All-at MayHold lists.procs p d formed.modes.held found
    in
    let held : All IsHeld d.channels =
    λ k e inside.
    let par = get_or d.channels k e in
    let its_mode = parameter-has_mode lists p d par.0 par.1 found (Contains-get_or d.channels k e inside) in
    (parameter_mode lists par.1, its_mode, may k e inside)
    in
    let used_held = All-filter is_used_once IsHeld d.channels held in
    record {
      held = all-in_bindings_of (MayBeHeld lists d.mode) (filter is_used_once d.channels) used_held;
      offers = offered-has_mode lists p d found;
    }
