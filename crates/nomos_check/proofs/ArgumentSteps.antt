-- How the arguments of a spawned or called declaration pass.
use Rattle.std.proofs.Common.{◌≡◌, ◌⊎◌, ◌↔◌, ◌∙◌, ℕ, Bool, true, false, List, [], Some, slice_get, inl, inr, refl, ap, sym, subst}
use Rattle.nomos_ir.specs.declared.amount.Amount.{Amount}
use Rattle.nomos_ir.specs.declared.code_node.Args.{Args}
use Rattle.nomos_ir.specs.declared.code_node.CodeNode.TheVariants as code
use Rattle.nomos_ir.specs.declared.code_node.ValueArg.{ValueArg}
use Rattle.nomos_ir.specs.declared.declaration.Par.{Par}
use Rattle.nomos_ir.specs.declared.declaration.ProcDecl.{ProcDecl}
use Rattle.nomos_ir.specs.declared.ids.CodeId.{CodeId}
use Rattle.nomos_ir.specs.declared.ids.ProcId.{ProcId}
use Rattle.nomos_ir.specs.declared.ids.TypeId.{TypeId}
use Rattle.nomos_ir.specs.declared.ids.VarId.{VarId}
use Rattle.nomos_ir.specs.declared.lists.ProgramLists.{ProgramLists}
use Rattle.nomos_ir.specs.Bindings.{bound_to, each_bound}
use Rattle.nomos_ir.specs.Ids.{ProcInRange}
use Rattle.nomos_ir.specs.Program.{IsProgram}
use Rattle.nomos_ir.proofs.NodeLaws.{All-at}
use Rattle.nomos_equality.specs.Paths.{StandAtEqualPaths}
use Rattle.nomos_types.specs.Amount.{Annotations}
use Rattle.nomos_types.specs.Arguments.{term, list, PassesValues, value, PassesChannels, ArgumentsFit}
use Rattle.nomos_types.specs.Equality.{no_amounts}
use Rattle.nomos_types.specs.Judgement.{Judgement, IsJudgement}
use Rattle.nomos_types.specs.Premises.{Calls, Spawns}
use Rattle.nomos_types.specs.TypingRule.{StandsAtCode}
use Rattle.nomos_types.proofs.ArgumentsLaws.{arguments-left}
use Rattle.nomos_check.specs.Account.{Account}
use Rattle.nomos_check.specs.Asking.{AsksPair, IsOfType}
use Rattle.nomos_check.specs.declared.asked.Asked.{Asked}
use Rattle.nomos_check.specs.declared.standing.Standing.{Standing}
use Rattle.nomos_check.specs.mirror.Passing.{ValuesPassed, TellsChannels, TellsArguments, PairOfValues, PairOfChannels, carried_by_all}
use Rattle.nomos_check.specs.mirror.StandingData.{amount_of, shape_of, Joins, NoRow}
use Rattle.nomos_check.proofs.AskingLaws.{ArgumentsAsk, asks-at, asked-at}
use Rattle.nomos_check.proofs.GivingSteps.{values-same}
use Rattle.nomos_check.proofs.PassingSteps.{channels-one}
use Rattle.nomos_check.proofs.StepRows.{spawn-stuck, call-stuck}

-- what is left after values is a judgement
pub values-judgement : (lists : ProgramLists) (j k : Judgement) (d : ProcDecl) (args : Args) → IsJudgement lists j
    → PassesValues lists no_amounts j args.values d.values k → IsJudgement lists k
values-judgement lists j k d args h passes =
    let only_values : ProcDecl = record d { channels = [] } in
    let given : Args = record args { channels = [] } in
    let fit : ArgumentsFit lists no_amounts j only_values given k =
    record { between = k; values = passes; channels = PassesChannels.none }
    in
    (arguments-left h fit).judgement

-- values leave channels and references alone
values-channels : {lists : ProgramLists} {x : Annotations} {j : Judgement} {args : List ValueArg} {pars : List Par}
    {k : Judgement} → PassesValues lists x j args pars k → (k.shared ≡ j.shared) × (k.linear ≡ j.linear)
values-channels PassesValues.none = (refl, refl)
values-channels (value (term no_list kind) rest) = values-channels rest
values-channels (value (list amount its found) rest) = values-channels rest

-- a variable has the same types before and after values
of-type_same : (j k : Judgement) (v : VarId) (own : TypeId) → (k.shared ≡ j.shared) × (k.linear ≡ j.linear)
    → IsOfType k v own ↔ IsOfType j v own
of-type_same j k v own (shared, linear) = (
  λ is. elim is [
    | inl reference ↦ inl (ap (bound_to v.0) (sym shared) ∙ reference)
    | inr held
        ↦ inr (ap (bound_to v.0) (sym linear) ∙ held)
  ],
  λ is. elim is [
    | inl reference ↦ inl (ap (bound_to v.0) shared ∙ reference)
    | inr held
        ↦ inr (ap (bound_to v.0) linear ∙ held)
  ],
)

-- the pairs of channels are the same before and after values
channels-same : (lists : ProgramLists) (j k : Judgement) (vs : List VarId) (pars : List (VarId × TypeId))
    (pair : Amount × Amount) → (k.shared ≡ j.shared) × (k.linear ≡ j.linear)
    → PairOfChannels lists k vs pars pair ↔ PairOfChannels lists j vs pars pair
channels-same lists j k vs pars pair same = (
  λ p. record {
    v = p.v;
    par = p.par;
    own = p.own;
    passes = p.passes;
    is_of =
        (of-type_same j k p.v p.own same).0 p.is_of;
    paths = p.paths;
  },
  λ p. record {
    v = p.v;
    par = p.par;
    own = p.own;
    passes = p.passes;
    is_of =
        (of-type_same j k p.v p.own same).1 p.is_of;
    paths = p.paths;
  },
)

-- what joins in two steps
pub joins-both : (old mid new : Asked) (P Q R : Amount × Amount → Type 0) → Joins old mid P → Joins mid new Q
    → ((pair : Amount × Amount) → Q pair ↔ R pair) → Joins old new (λ pair. P pair ⊎ R pair)
joins-both old mid new P Q R first second same =
    λ pair. (
      λ has. elim ((second pair).0 has) [
        | inl middle ↦ elim ((first pair).0 middle) [ inl before ↦ inl before | inr p ↦ inr (inl p) ]
        | inr q ↦ inr (inr ((same pair).0 q))
      ],
      λ either. elim either [
        | inl before ↦ (second pair).1 (inl ((first pair).1 (inl before)))
        | inr asked ↦ elim asked [
          | inl p ↦ (second pair).1 (inl ((first pair).1 (inr p)))
          | inr r ↦ (second pair).1 (inr ((same pair).1 r))
        ]
      ],
    )

-- arguments pass where values pass and then channels
pub arguments-pass : (lists : ProgramLists) (s mid next : Standing) (d : ProcDecl) (args : Args)
    (old between new : Asked)
    → ValuesPassed lists s mid args.values d.values old between → (b : Bool)
    → TellsChannels lists mid next args.channels d.channels between new b → TellsArguments lists s next d args old new b
arguments-pass lists s mid next d args old between new values true channels = record {
  fit = record { between = shape_of mid; values = values.passes; channels = channels.passes };
  lists_left = ap (each_bound amount_of) channels.amounts.lists ∙ values.lists_left;
  potential = channels.amounts.potential ∙ values.potential;
  joins =
      joins-both old between new (PairOfValues (carried_by_all s) args.values d.values)
      (PairOfChannels lists (shape_of mid) args.channels d.channels)
      (PairOfChannels lists (shape_of s) args.channels d.channels) values.joins channels.joins
      (λ pair.
      channels-same lists (shape_of s) (shape_of mid) args.channels d.channels pair (values-channels values.passes));
}
arguments-pass lists s mid next d args old between new values false stays =
    λ left fit.
    let same =
    values-same lists args.values d.values (shape_of s) fit.between (shape_of mid) fit.values values.passes
    in
    stays left (subst (λ (k : Judgement). PassesChannels lists no_amounts k args.channels d.channels left) same
    fit.channels)

-- what is left after arguments is one judgement
pub arguments-one : (lists : ProgramLists) (j : Judgement) (d : ProcDecl) (args : Args) (l r : Judgement)
    → ArgumentsFit lists no_amounts j d args l → ArgumentsFit lists no_amounts j d args r → l ≡ r
arguments-one lists j d args l r left right =
    let same = values-same lists args.values d.values j left.between right.between left.values right.values in
    let Passes : Judgement → Type 0 = λ k. PassesChannels lists no_amounts k args.channels d.channels l in
    channels-one lists args.channels d.channels right.between l r (subst Passes same left.channels) right.channels

-- ---- spawning and calling

-- the ids of a declaration have their places
pub declared-in_range : (lists : ProgramLists) (p : ℕ) (d : ProcDecl) → IsProgram lists
    → slice_get lists.procs p ≡ Some d
    → ProcInRange lists d
declared-in_range lists p d is_program found = All-at (ProcInRange lists) lists.procs p d is_program.ids.procs found

module _ (lists : ProgramLists) (j : Judgement) where
  -- without the premises of the one declaration no process is spawned
  pub spawn-stays : (at : ℕ) (v : VarId) (f : ProcId) (args : Args) (next : CodeId) (d : ProcDecl)
      → StandsAtCode lists j (code.Spawn at v f args next) → slice_get lists.procs f.0 ≡ Some d
      → ((left : Judgement) → ¬ (Spawns lists no_amounts j v f args d left)) → NoRow lists j
  spawn-stays at v f args next d stands found stays =
      spawn-stuck stands
      (λ e left says.
      let its = says.declared in
      let same : e ≡ d = cc in
      stays left (subst (λ (p : ProcDecl). Spawns lists no_amounts j v f args p left) same says))

  -- the pairs of arguments are those that they ask for
  pub arguments-ask : (s : Standing) (a : Account) (d : ProcDecl) (args : Args) → carried_by_all s ≡ a.lists
      → (pair : Amount × Amount)
      → (PairOfValues (carried_by_all s) args.values d.values pair
      ⊎ PairOfChannels lists j args.channels d.channels pair)
      ↔ ArgumentsAsk lists j a d args pair
  arguments-ask s a d args same pair = (
    λ either. elim either [
      | inl p ↦ inl (record {
        w = p.w;
        par = p.par;
        passes = p.passes;
        carries = ap (bound_to p.w.0)
            (sym same) ∙ p.carries;
        says = p.says;
      })
      | inr p ↦ inr (record { v = p.v; par = p.par; own = p.own; passes = p.passes; is_of = p.is_of; paths = p.paths })
    ],
    λ either. elim either [
      | inl p ↦ inl (record {
        w = p.w;
        par = p.par;
        passes = p.passes;
        carries = ap
            (bound_to p.w.0) same ∙ p.carries;
        says = p.says;
      })
      | inr p ↦ inr (record { v = p.v; par = p.par; own = p.own; passes = p.passes; is_of = p.is_of; paths = p.paths })
    ],
  )

  -- the pairs that spawning asks for
  pub spawn-asks : (a : Account) (at : ℕ) (v : VarId) (f : ProcId) (args : Args) (next : CodeId) (d : ProcDecl)
      → StandsAtCode lists j (code.Spawn at v f args next) → slice_get lists.procs f.0 ≡ Some d
      → (pair : Amount × Amount) → ArgumentsAsk lists j a d args pair ↔ AsksPair lists j a pair
  spawn-asks a at v f args next d stands found pair = (
    λ asks. asked-at (code.Spawn at v f args next) stands (d, found, asks),
    λ asks.
        let (e, its, says) = asks-at (code.Spawn at v f args next) stands asks in
        let same : e ≡ d = cc in
        subst (λ (p : ProcDecl). ArgumentsAsk lists j a p args pair) same says,
  )

  -- without the premises of the one declaration no process is called
  pub call-stays : (at : ℕ) (f : ProcId) (args : Args) (d : ProcDecl)
      → StandsAtCode lists j (code.Call at f args) → slice_get lists.procs f.0 ≡ Some d
      → ((says : Calls lists no_amounts j f args) → ¬ (says.d ≡ d)) → NoRow lists j
  call-stays at f args d stands found stays =
      call-stuck stands (λ says. let its = says.declared in let same : says.d ≡ d = cc in stays says same)

  -- the pairs that calling asks for
  pub call-asks : (a : Account) (at : ℕ) (f : ProcId) (args : Args) (d : ProcDecl)
      → StandsAtCode lists j (code.Call at f args) → slice_get lists.procs f.0 ≡ Some d → (pair : Amount × Amount)
      → (StandAtEqualPaths lists j.offers d.offers pair ⊎ ArgumentsAsk lists j a d args pair) ↔ AsksPair lists j a pair
  call-asks a at f args d stands found pair = (
    λ either. elim either [
      | inl paths ↦ asked-at (code.Call at f args) stands (d, found, inr paths)
      | inr asks ↦ asked-at (code.Call at f args) stands (d, found, inl asks)
    ],
    λ asks.
        let (e, its, says) = asks-at (code.Call at f args) stands asks in
        let same : e ≡ d = cc in
        elim says [
          | inl asks_too ↦ inr (subst (λ (p : ProcDecl). ArgumentsAsk lists j a p args pair) same asks_too)
          | inr paths ↦ inl (subst (λ (p : ProcDecl). StandAtEqualPaths lists j.offers p.offers pair) same paths)
        ],
  )
