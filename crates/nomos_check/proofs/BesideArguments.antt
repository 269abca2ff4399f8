-- What passes under the one amounts passes under others too, where the amounts that have to be worth the same are.
use Rattle.std.proofs.Common.{◌≡◌, inl, inr, ℕ, zero, suc, List, Contains, Option, Some, None, zip, refl, ap, sym, subst, ◌∙◌, arith}
use Rattle.std.proofs.lemmas.Bool.{cases_eq}
use Rattle.nomos_ir.specs.declared.amount.Amount.{Amount}
use Rattle.nomos_ir.specs.declared.code_node.Args.{Args}
use Rattle.nomos_ir.specs.declared.code_node.ValueArg.{ValueArg}
use Rattle.nomos_ir.specs.declared.code_node.ValueArg.TheVariants as arg
use Rattle.nomos_ir.specs.declared.declaration.Par.{Par}
use Rattle.nomos_ir.specs.declared.declaration.ProcDecl.{ProcDecl}
use Rattle.nomos_ir.specs.declared.ids.TypeId.{TypeId}
use Rattle.nomos_ir.specs.declared.ids.VarId.{VarId}
use Rattle.nomos_ir.specs.declared.lists.ProgramLists.{ProgramLists}
use Rattle.nomos_ir.specs.Bindings.{bound_to, unbind, IsAscending}
use Rattle.nomos_ir.specs.TermKind.{HasKind}
use Rattle.nomos_ir.proofs.BindingLaws.{bound-after_unbind, bound-after_unbind_other, unbind-ascending}
use Rattle.nomos_equality.specs.Paths.{StandAtEqualPaths}
use Rattle.nomos_equality.proofs.PathLaws.{equal-from_worth}
use Rattle.nomos_types.proofs.OccurrenceLaws.{contains-tail}
use Rattle.nomos_types.specs.Alike.{AlikeTypes}
use Rattle.nomos_types.specs.Amount.{Annotations, dths}
use Rattle.nomos_types.specs.Arguments.{PassesChannel, PassesChannels, PassesValues, ArgumentsFit}
use Rattle.nomos_types.specs.Arguments as passes
use Rattle.nomos_types.specs.Judgement.{Judgement, ListType, IsJudgement, count_one}
use Rattle.nomos_types.proofs.EqualityLaws.{equal-shapes}
use Rattle.nomos_check.specs.Account.{Account, with_lists}
use Rattle.nomos_check.specs.Accounting.{without_passed}
use Rattle.nomos_check.specs.Asking.{IsOfType}
use Rattle.nomos_check.proofs.Beside.{Beside, along, gives_up-beside, unbound-beside}
use Rattle.nomos_check.proofs.ListAmounts.{list_at, found-both, ascends-both}

-- what stands at equal paths of the two types is worth the same
abbrev pub WorthSame : ProgramLists → Annotations → TypeId → TypeId → Type 0
WorthSame lists y t u = (p : Amount × Amount) → StandAtEqualPaths lists t u p → dths y p.0 ≡ dths y p.1

-- types that are alike under the one amounts are so under others, where the amounts that this needs are worth the same
pub alike-changed : {lists : ProgramLists} {x y : Annotations} {t u : TypeId} → AlikeTypes lists x t u
    → WorthSame lists y t u → AlikeTypes lists y t u
alike-changed {lists = lists} {x = x} {y = y} {t = t} {u = u} alike worth =
    record {
      equal = equal-from_worth lists y t u (equal-shapes lists x t u alike.equal) worth;
      mode = alike.mode;
      left_mode = alike.left_mode;
      right_mode = alike.right_mode;
    }

-- what is bound after another variable was unbound was bound before
pub bound-before : {X : Type 0} (w v : ℕ) (b : List (VarId × X)) (r : X) → IsAscending b
    → bound_to w (unbind v b) ≡ Some r → bound_to w b ≡ Some r
bound-before {X} w v b r ascends found =
    elim (cases_eq w v) [
      | inl same ↦
          let at_v : bound_to v (unbind v b) ≡ Some r =
          subst (λ (u : ℕ). bound_to u (unbind v b) ≡ Some r) same found in
          let nowhere = bound-after_unbind v b ascends in
          absurd cc
      | inr other ↦ sym (bound-after_unbind_other w v b other) ∙ found
    ]

-- a variable is that of a channel of one type
pub of_type-unique : {lists : ProgramLists} {j : Judgement} (v : VarId) (t u : TypeId) → IsJudgement lists j
    → IsOfType j v t
    → IsOfType j v u → t ≡ u
of_type-unique v t u h (inl left) (inl right) = cc
of_type-unique v t u h (inr left) (inr right) = cc
of_type-unique v t u h (inl left) (inr right) =
    let first = ap (λ (o : Option TypeId). count_one o) left in
    let second = ap (λ (o : Option TypeId). count_one o) right in
    absurd (omega (arith, h.apart v.0))
of_type-unique v t u h (inr left) (inl right) =
    let first = ap (λ (o : Option TypeId). count_one o) left in
    let second = ap (λ (o : Option TypeId). count_one o) right in
    absurd (omega (arith, h.apart v.0))

module _ {lists : ProgramLists} {x : Annotations} where
  -- ---- channels

  -- a channel that is there after another one passed was there before
  of_type-before : {j : Judgement} {v : VarId} {t : TypeId} {k : Judgement} (w : VarId) (own : TypeId)
      → IsAscending j.linear
      → PassesChannel lists x j v t k → IsOfType k w own → IsOfType j w own
  of_type-before w own ascends (passes.shared _ _ _) of = of
  of_type-before w own ascends (passes.linear _ _ _ _) (inl reference) = inl reference
  of_type-before {j} {v = v} w own ascends (passes.linear _ _ _ _) (inr there) =
      inr (bound-before w.0 v.0 j.linear own ascends there)

  -- the channels still ascend
  linear-ascends : {j : Judgement} {v : VarId} {t : TypeId} {k : Judgement} → IsAscending j.linear
      → PassesChannel lists x j v t k
      → IsAscending k.linear
  linear-ascends ascends (passes.shared _ _ _) = ascends
  linear-ascends {j} {v = v} ascends (passes.linear _ _ _ _) = unbind-ascending v.0 j.linear ascends

  -- the type of what passes
  pub passed-type : {j : Judgement} {v : VarId} {t : TypeId} {k : Judgement} → PassesChannel lists x j v t k
      → (own : TypeId) × IsOfType j v own × AlikeTypes lists x own t
  passed-type (passes.shared own there alike) = (own, inl there, alike)
  passed-type (passes.linear own no_reference there alike) = (own, inr there, alike)

  -- a channel that passes is of a type that is like its parameter's
  pub passed-alike : {j left : Judgement} {vs : List VarId} {pars : List (VarId × TypeId)} (v : VarId)
      (par : VarId × TypeId) → IsAscending j.linear → PassesChannels lists x j vs pars left
      → Contains (zip vs pars) (v, par) → (own : TypeId) × IsOfType j v own × AlikeTypes lists x own par.1
  passed-alike v par ascends passes.none (i, inside, is) = absurd (omega arith)
  passed-alike {j} v par ascends (passes.channel {v = w} {par = other} first others) (zero, inside, is) =
      let (own, of, alike) = passed-type first in
      let variable : w ≡ v = ap (λ (p : VarId × (VarId × TypeId)). p.0) is in
      let parameter : other ≡ par = ap (λ (p : VarId × (VarId × TypeId)). p.1) is in (
        own,
        subst (λ (u : VarId). IsOfType j u own) variable of,
        subst (λ (p : VarId × TypeId). AlikeTypes lists x own p.1) parameter alike,
      )
  passed-alike v par ascends (passes.channel first others) (suc i, inside, is) =
      let (own, of, alike) = passed-alike v par (linear-ascends ascends first) others (i, omega arith, is) in
      (own, of_type-before v own ascends first of, alike)

  -- ---- lists

  -- a list that passes is there, with its parameter's amount
  pub passed-list : {j left : Judgement} {args : List ValueArg} {pars : List Par} (w : VarId) (par : Par) (s : Amount)
      → IsAscending j.lists → PassesValues lists x j args pars left → Contains (zip args pars) (arg.List w, par)
      → par.amount ≡ Some s → bound_to w.0 j.lists ≡ Some (list_at x par.kind s)
  passed-list w par s ascends passes.none (i, inside, is) found = absurd (omega arith)
  passed-list w par s ascends (passes.value (passes.term no_list kind) others) (zero, inside, is) found =
      let wrong = ap (λ (p : ValueArg × Par). p.0) is in absurd cc
  passed-list {j} w par s ascends (passes.value {par = other} (passes.list {w = v} amount its there) others)
      (zero, inside, is) found =
      let first : arg.List v ≡ arg.List w = ap (λ (p : ValueArg × Par). p.0) is in
      let variable : v ≡ w = cc in
      let parameter : other ≡ par = ap (λ (p : ValueArg × Par). p.1) is in
      let same : par.amount ≡ Some amount = subst (λ (p : Par). p.amount ≡ Some amount) parameter its in
      let amounts : amount ≡ s = cc in
      let at_par : bound_to v.0 j.lists ≡ Some (list_at x par.kind amount) =
      subst (λ (p : Par). bound_to v.0 j.lists ≡ Some (list_at x p.kind amount)) parameter there
      in
      let at_s : bound_to v.0 j.lists ≡ Some (list_at x par.kind s) =
      subst (λ (r : Amount). bound_to v.0 j.lists ≡ Some (list_at x par.kind r)) amounts at_par
      in
      subst (λ (u : VarId). bound_to u.0 j.lists ≡ Some (list_at x par.kind s)) variable at_s
  passed-list w par s ascends (passes.value (passes.term no_list kind) others) (suc i, inside, is) found =
      passed-list w par s ascends others (i, omega arith, is) found
  passed-list {j} w par s ascends (passes.value (passes.list {w = v} amount its there) others) (suc i, inside, is)
      found =
      bound-before w.0 v.0 j.lists (list_at x par.kind s) ascends
      (passed-list w par s (unbind-ascending v.0 j.lists ascends) others (i, omega arith, is) found)

  -- where values and lists pass, all else stays
  values-keep : {j left : Judgement} {args : List ValueArg} {pars : List Par} → PassesValues lists x j args pars left
      → left ≡ record j { lists = left.lists }
  values-keep passes.none = refl
  values-keep (passes.value (passes.term no_list kind) others) = values-keep others
  values-keep (passes.value (passes.list amount its there) others) = values-keep others

  -- a channel that is there after values and lists passed was there before
  pub of_type-before_values : {j left : Judgement} {args : List ValueArg} {pars : List Par} (w : VarId) (own : TypeId)
      → PassesValues lists x j args pars left → IsOfType left w own → IsOfType j w own
  of_type-before_values {j} {left} w own values of =
      let same : left ≡ record j { lists = left.lists } = values-keep values in
      subst (λ (s : Judgement). IsOfType s w own) same of

  pub linear-ascends_after_values : {j left : Judgement} {args : List ValueArg} {pars : List Par}
      → PassesValues lists x j args pars left → IsAscending j.linear → IsAscending left.linear
  linear-ascends_after_values {j} {left} values ascends =
      let same : left ≡ record j { lists = left.lists } = values-keep values in
      subst (λ (s : Judgement). IsAscending s.linear) (sym same) ascends

-- ---- passing under other amounts

module _ {lists : ProgramLists} {x y : Annotations} where
  -- a channel
  pub channel-passes : {j k : Judgement} {a : Account} {v : VarId} {t : TypeId} {left : Judgement} → Beside x y j k a
      → PassesChannel lists x j v t left → ((own : TypeId) → IsOfType j v own → WorthSame lists y own t)
      → (rest : Judgement) × PassesChannel lists y k v t rest × Beside x y left rest a
  channel-passes {j} {k} {v = v} beside (passes.shared own there alike) worth =
      let found : bound_to v.0 k.shared ≡ Some own = along beside (λ s. bound_to v.0 s.shared ≡ Some own) there in
      (k, passes.shared own found (alike-changed alike (worth own (inl there))), beside)
  channel-passes {j} {k} {v = v} beside (passes.linear own no_reference there alike) worth =
      let nowhere : bound_to v.0 k.shared ≡ None = along beside (λ s. bound_to v.0 s.shared ≡ None) no_reference in
      let found : bound_to v.0 k.linear ≡ Some own = along beside (λ s. bound_to v.0 s.linear ≡ Some own) there in (
        record k { linear = unbind v.0 k.linear },
        passes.linear own nowhere found (alike-changed alike (worth own (inr there))),
        gives_up-beside beside v,
      )

  -- channels
  pub channels-pass : {j k left : Judgement} {a : Account} {vs : List VarId} {pars : List (VarId × TypeId)}
      → Beside x y j k a → IsAscending j.linear → PassesChannels lists x j vs pars left
      → ((v : VarId) (par : VarId × TypeId) (own : TypeId) → Contains (zip vs pars) (v, par) → IsOfType j v own
      → WorthSame lists y own par.1)
      → (rest : Judgement) × PassesChannels lists y k vs pars rest × Beside x y left rest a
  channels-pass {k = k} beside ascends passes.none worth = (k, passes.none, beside)
  channels-pass beside ascends (passes.channel {v = v} {vs = vs} {par = par} {pars = pars} first others) worth =
      let (between, passed, beside_between) =
      channel-passes beside first (λ own of. worth v par own (0, omega arith, refl) of)
      in
      let (rest, passed_others, beside_rest) =
      channels-pass beside_between (linear-ascends ascends first) others
      (λ w p own among of. worth w p own (contains-tail (v, par) (w, p) (zip vs pars) among)
      (of_type-before w own ascends first of))
      in
      (rest, passes.channel passed passed_others, beside_rest)

  -- values and lists
  pub values-pass : {j k left : Judgement} {a : Account} {args : List ValueArg} {pars : List Par} → Beside x y j k a
      → IsAscending a.lists → PassesValues lists x j args pars left
      → ((w : VarId) (par : Par) (r s : Amount) → Contains (zip args pars) (arg.List w, par)
      → bound_to w.0 a.lists ≡ Some r → par.amount ≡ Some s → dths y r ≡ dths y s)
      → (rest : Judgement) × PassesValues lists y k args pars rest
      × Beside x y left rest (with_lists a (without_passed args a.lists))
  values-pass {k = k} beside ascends passes.none worth = (k, passes.none, beside)
  values-pass {k = k} beside ascends
      (passes.value {args = args} {par = par} {pars = pars} (passes.term {e = e} no_list kind) others) worth =
      let its_kind : HasKind lists k.kinds e par.kind = along beside (λ s. HasKind lists s.kinds e par.kind) kind in
      let (rest, passed, beside_rest) =
      values-pass beside ascends others
      (λ w p r s among. worth w p r s (contains-tail (arg.Term e, par) (arg.List w, p) (zip args pars) among))
      in
      (rest, passes.value (passes.term no_list its_kind) passed, beside_rest)
  values-pass {k = k} {a = a} beside ascends
      (passes.value {args = args} {par = par} {pars = pars} (passes.list {w = v} amount its there) others) worth =
      let found = found-both v.0 (list_at x par.kind amount) beside.lists there in
      let same : dths y found.amount ≡ dths y amount =
      worth v par found.amount amount (0, omega arith, refl) found.carried its in
      let its_list : bound_to v.0 k.lists ≡ Some (list_at y par.kind amount) =
      found.other ∙ ap (λ (n : ℕ). let l : ListType = record { kind = par.kind; amount = n } in Some l) same
      in
      let (rest, passed, beside_rest) =
      values-pass (unbound-beside beside v.0) (unbind-ascending v.0 a.lists ascends) others
      (λ w p r s among bound. worth w p r s (contains-tail (arg.List v, par) (arg.List w, p) (zip args pars) among)
      (bound-before w.0 v.0 a.lists r ascends bound))
      in
      (rest, passes.value (passes.list amount its its_list) passed, beside_rest)

  -- the arguments of a declaration
  pub arguments-pass : {j k left : Judgement} {a : Account} {d : ProcDecl} {args : Args} → Beside x y j k a
      → IsJudgement lists j → ArgumentsFit lists x j d args left
      → ((w : VarId) (par : Par) (r s : Amount) → Contains (zip args.values d.values) (arg.List w, par)
      → bound_to w.0 a.lists ≡ Some r → par.amount ≡ Some s → dths y r ≡ dths y s)
      → ((v : VarId) (par : VarId × TypeId) (own : TypeId) → Contains (zip args.channels d.channels) (v, par)
      → IsOfType j v own → WorthSame lists y own par.1)
      → (rest : Judgement) × ArgumentsFit lists y k d args rest
      × Beside x y left rest (with_lists a (without_passed args.values a.lists))
  arguments-pass beside h fit lists_worth worth =
      let (between, values, beside_between) =
      values-pass beside (ascends-both beside.lists h.lists_ascend) fit.values lists_worth
      in
      let (rest, channels, beside_rest) =
      channels-pass beside_between (linear-ascends_after_values fit.values h.linear) fit.channels
      (λ v par own among of. worth v par own among (of_type-before_values v own fit.values of))
      in
      (rest, record { between = between; values = values; channels = channels }, beside_rest)
