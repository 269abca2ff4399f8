-- Where tokens end in what is printed of a part, they end in what is printed after it.
use Rattle.std.proofs.Common.{◌≡◌, ℕ, List, [], ◌∷◌, ◌++◌, map, Option, Some, None, refl, ◌∙◌}
use Rattle.std.proofs.lemmas.List.{append_assoc}
use Rattle.nomos_surface.proofs.PrintLaws.{each_mapped}
use Rattle.nomos_surface.specs.declared.declarations.ListPotential.{ListPotential}
use Rattle.nomos_surface.specs.declared.declarations.ProcessPar.{ProcessPar}
use Rattle.nomos_surface.specs.declared.declarations.ValuePar.{ValuePar}
use Rattle.nomos_surface.specs.declared.name_at.NameAt.{NameAt}
use Rattle.nomos_surface.specs.declared.potential.Potential.{Potential}
use Rattle.nomos_surface.specs.declared.surface.CostLine.{CostLine}
use Rattle.nomos_surface.specs.declared.types.Sender.{Sender}
use Rattle.nomos_surface.specs.declared.types.Sender.TheVariants as sender
use Rattle.nomos_surface.specs.declared.value_type.ValueType.{ValueType}
use Rattle.nomos_surface.specs.Grammatical.{Each}
use Rattle.nomos_surface.specs.Print.{print_potential, print_optional, print_lists, print_value_type, print_payment, print_type, print_branches, print_heading, print_term, print_terms, print_named, print_args, print_step, print_steps, print_code, print_last, print_arms, print_value_par, print_list_potential, print_par, print_chan_par, print_pars, print_body, print_decl, print_cost}
use Rattle.nomos_surface.specs.Printed.{Shown, Printer, Spells, print_more, print_parted}
use Rattle.nomos_surface.specs.Tree.{TypeTree, one, named, choice, channel, valued, paying, going_up, going_down, grouped, BranchTrees, no_branches, branch, TermTree, number, truth, me, variable, application, no_items, binary, negation, choosing, matching, parenthesized, TermTrees, no_terms, term, ArgTrees, StepTree, label, send, recv, put, taking, pay, getting, work, wait, accept, detach, acquire, release, spawn, binding, empty_list, longer_list, emit, CodeTree, code, LastTree, close, fwd, calling, code_if, case, code_match, ArmTrees, no_arms, arm, ChanParTree, ParTrees, DeclTree, definition, function, process, transaction}
use Rattle.nomos_syntax.specs.declared.symbol.Symbol.{Symbol}
use Rattle.nomos_syntax.specs.declared.symbol.Symbol.TheVariants as sym
use Rattle.nomos_syntax.specs.Lexeme.{Placed}

-- From some place on, the tokens are what is shown.
pub record EndsIn (tokens : List Placed) (shown : List Shown) : Type 0 where
  pub before : List Placed
  pub rest : List Placed
  pub all : before ++ rest ≡ tokens
  pub spelled : Spells shown rest

-- from the first on
pub ends-whole : (tokens : List Placed) (shown : List Shown) → Spells shown tokens → EndsIn tokens shown
ends-whole tokens shown h = record { before = []; rest = tokens; all = refl; spelled = h }

module _ (tokens : List Placed) where
  -- one token further on, they are what is shown behind the first
  pub further : {s : Shown} {after : List Shown} → EndsIn tokens (s ∷ after) → EndsIn tokens after
  further {s} {after} ends = by ends.rest ends.all ends.spelled
    where
      by : (rest : List Placed) → ends.before ++ rest ≡ tokens → Spells (s ∷ after) rest → EndsIn tokens after
      by [] all h = absurd h
      by (x ∷ rest) all h = record {
        before = ends.before ++ x ∷ [];
        rest = rest;
        all = append_assoc ends.before (x ∷ []) rest ∙ all;
        spelled = h.1;
      }

  -- behind what this prints, they are what is printed after it
  abbrev pub Passes : Printer → Type 0
  Passes printer = (after : List Shown) → EndsIn tokens (printer after) → EndsIn tokens after

  -- so it is of a list of which each item is such
  more_passed : (s : Symbol) (ps : List Printer) → Each Passes ps → Passes (print_more s ps)
  more_passed s [] each after h = h
  more_passed s (p ∷ ps) each after h = more_passed s ps each.1 after (each.0 _ (further h))

  parted_passed : (s : Symbol) (ps : List Printer) → Each Passes ps → Passes (print_parted s ps)
  parted_passed s [] each after h = h
  parted_passed s (p ∷ ps) each after h = more_passed s ps each.1 after (each.0 _ h)

  -- of potentials
  potential_passed : (q : Potential) → Passes (print_potential q)
  potential_passed q after h = further (further (further h))

  optional_passed : (q : Option Potential) → Passes (print_optional q)
  optional_passed None after h = h
  optional_passed (Some q) after h = potential_passed q after h

  -- of types of values
  lists_passed : (lists : List ℕ) (inside : Shown) → Passes (print_lists lists inside)
  lists_passed [] inside after h = further h
  lists_passed (at ∷ lists) inside after h = lists_passed lists inside after (further h)

  value_type_passed : (t : ValueType) → Passes (print_value_type t)
  value_type_passed t after h = lists_passed t.lists _ after h

  -- of types
  payment_passed : (s : Sender) (at : ℕ) (q : Potential) → Passes (print_payment s at q)
  payment_passed sender.Provider at q after h = further (potential_passed q _ (further h))
  payment_passed sender.Client at q after h = further (potential_passed q _ (further h))

  mutual
    pub type_passed : (t : TypeTree) → Passes (print_type t)
    type_passed (one at) after h = further h
    type_passed (named n) after h = further h
    type_passed (choice s at branches) after h =
        further
        (parted_passed sym.Bar (print_branches branches) (branches_passed branches) _ (further (further h)))
    type_passed (channel s at carried goes) after h = type_passed goes after (further (type_passed carried _ h))
    type_passed (valued s at value goes) after h = type_passed goes after (further (value_type_passed value _ h))
    type_passed (paying s at q goes) after h = type_passed goes after (payment_passed s at q _ h)
    type_passed (going_up at goes) after h = type_passed goes after (further h)
    type_passed (going_down at goes) after h = type_passed goes after (further h)
    type_passed (grouped inner) after h = further (type_passed inner _ (further h))

    branches_passed : (branches : BranchTrees) → Each Passes (print_branches branches)
    branches_passed no_branches = tt
    branches_passed (branch l goes branches) =
        ((λ after h. type_passed goes after (further (further h))), branches_passed branches)

  -- of terms
  pub heading_passed : (head tail : NameAt) → Passes (print_heading head tail)
  heading_passed head tail after h = further (further (further (further h)))

  mutual
    pub term_passed : (t : TermTree) → Passes (print_term t)
    term_passed (number at value) after h = further h
    term_passed (truth at value) after h = further h
    term_passed (me at) after h = further h
    term_passed (variable n) after h = further h
    term_passed (application f arguments) after h =
        further (parted_passed sym.Comma (print_terms arguments) (terms_passed arguments) _ (further (further h)))
    term_passed (no_items at element) after h = value_type_passed element after (further h)
    term_passed (binary op at left right) after h = term_passed right after (further (term_passed left _ h))
    term_passed (negation at inner) after h = term_passed inner after (further h)
    term_passed (choosing at test holds fails) after h =
        term_passed fails after (further (term_passed holds _ (further (term_passed test _ (further h)))))
    term_passed (matching at matched empty head tail more) after h =
        let a = term_passed matched _ (further h) in
        let b = term_passed empty _ (further (further (further a))) in
        further (term_passed more _ (heading_passed head tail _ (further b)))
    term_passed (parenthesized inner) after h = further (term_passed inner _ (further h))

    terms_passed : (terms : TermTrees) → Each Passes (print_terms terms)
    terms_passed no_terms = tt
    terms_passed (term first rest) = (term_passed first, terms_passed rest)

  -- of arguments
  named_passed : (n : NameAt) → Passes (print_named n)
  named_passed n after h = further h

  args_passed : (a : ArgTrees) → Passes (print_args a)
  args_passed a after h =
      let values = each_mapped Passes print_term term_passed a.values in
      let channels = each_mapped Passes print_named named_passed a.channels in
      let behind = parted_passed sym.Comma (map print_term a.values) values _ (further h) in
      further (parted_passed sym.Comma (map print_named a.channels) channels _ (further behind))

  -- of steps
  pub step_passed : (step : StepTree) → Passes (print_step step)
  step_passed (label x l) after h = further (further (further h))
  step_passed (send at x y) after h = further (further (further h))
  step_passed (recv at x y) after h = further (further (further h))
  step_passed (put at x e) after h = term_passed e after (further (further h))
  step_passed (taking at x v) after h = further (further (further h))
  step_passed (pay at x q) after h = potential_passed q after (further (further h))
  step_passed (getting at x q) after h = potential_passed q after (further (further h))
  step_passed (work at q) after h = potential_passed q after (further h)
  step_passed (wait at x) after h = further (further h)
  step_passed (accept at) after h = further h
  step_passed (detach at) after h = further h
  step_passed (acquire at a x) after h = further (further (further (further h)))
  step_passed (release at x a) after h = further (further (further (further h)))
  step_passed (spawn at x f arguments) after h = args_passed arguments after (further (further (further (further h))))
  step_passed (binding at v e) after h = term_passed e after (further (further (further h)))
  step_passed (empty_list at v list_at q t) after h =
      value_type_passed t after (potential_passed q _ (further (further (further (further h)))))
  step_passed (longer_list at v e w) after h =
      further (further (term_passed e _ (further (further (further (further h))))))
  step_passed (emit at e) after h = term_passed e after (further h)

  -- of codes
  pub steps_passed : (steps : List StepTree) → Passes (print_steps steps)
  steps_passed [] after h = h
  steps_passed (step ∷ steps) after h = steps_passed steps after (further (step_passed step _ h))

  mutual
    pub code_passed : (c : CodeTree) → Passes (print_code c)
    code_passed (code steps last) after h = last_passed last after (steps_passed steps _ h)

    last_passed : (last : LastTree) → Passes (print_last last)
    last_passed (close at) after h = further h
    last_passed (fwd at x) after h = further (further h)
    last_passed (calling at f arguments) after h = args_passed arguments after (further (further h))
    last_passed (code_if at test holds fails) after h =
        let a = code_passed holds _ (further (term_passed test _ (further h))) in
        further (code_passed fails _ (further (further (further a))))
    last_passed (case at x arms) after h =
        further
        (parted_passed sym.Bar (print_arms arms) (arms_passed arms) _ (further (further (further h))))
    last_passed (code_match at w empty head tail more) after h =
        let a = code_passed empty _ (further (further (further (further (further h))))) in
        further (code_passed more _ (heading_passed head tail _ (further a)))

    arms_passed : (arms : ArmTrees) → Each Passes (print_arms arms)
    arms_passed no_arms = tt
    arms_passed (arm l goes arms) =
        ((λ after h. code_passed goes after (further (further h))), arms_passed arms)

  -- of parameters
  value_par_passed : (p : ValuePar) → Passes (print_value_par p)
  value_par_passed p after h = value_type_passed p.value after (further (further h))

  list_potential_passed : (q : Option ListPotential) → Passes (print_list_potential q)
  list_potential_passed None after h = h
  list_potential_passed (Some l) after h = potential_passed l.potential after (further h)

  par_passed : (p : ProcessPar) → Passes (print_par p)
  par_passed p after h = value_type_passed p.value after (list_potential_passed p.list _ (further (further h)))

  chan_par_passed : (p : ChanParTree) → Passes (print_chan_par p)
  chan_par_passed p after h = type_passed p.goes after (further (further h))

  value_pars_passed : (pars : List ValuePar) → Passes (print_parted sym.Comma (map print_value_par pars))
  value_pars_passed pars after h =
      parted_passed sym.Comma (map print_value_par pars) (each_mapped Passes print_value_par value_par_passed pars)
      after h

  pars_passed : (p : ParTrees) → Passes (print_pars p)
  pars_passed p after h =
      let values = each_mapped Passes print_par par_passed p.values in
      let channels = each_mapped Passes print_chan_par chan_par_passed p.channels in
      let behind = parted_passed sym.Comma (map print_par p.values) values _ (further h) in
      further (parted_passed sym.Comma (map print_chan_par p.channels) channels _ (further behind))

  -- of parameters and the potential behind them
  pub head_passed : (pars : ParTrees) (q : Option Potential)
      → Passes (λ after. print_pars pars (print_optional q after))
  head_passed pars q after h = optional_passed q after (pars_passed pars _ h)

  -- of declarations
  body_passed : (body : CodeTree) → Passes (print_body body)
  body_passed body after h = further (code_passed body _ (further h))

  pub decl_passed : (d : DeclTree) → Passes (print_decl d)
  decl_passed (definition at m n body) after h =
      further (type_passed body _ (further (further (further (further h)))))
  decl_passed (function at n pars gives body) after h =
      let a = value_pars_passed pars _ (further (further (further h))) in
      let b = value_type_passed gives _ (further (further a)) in
      further (term_passed body _ (further b))
  decl_passed (process at m n pars q offers body) after h =
      let a = head_passed pars q _ (further (further (further h))) in
      body_passed body after (type_passed offers _ (further a))
  decl_passed (transaction at n pars q body) after h =
      body_passed body after (head_passed pars q _ (further (further (further h))))

  -- and of the cost model
  pub cost_passed : (c : Option CostLine) → Passes (print_cost c)
  cost_passed None after h = h
  cost_passed (Some c) after h = further (further (further h))
