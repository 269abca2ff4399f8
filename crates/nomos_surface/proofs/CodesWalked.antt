-- What counts where steps and codes are printed, and that lists in lists are not too deep there.
use Rattle.std.proofs.Common.{◌≡◌, List, [], ◌∷◌, refl, ap, subst}
use Rattle.nomos_grammar.specs.declared.part.Nonterminal.TheVariants as the_production
use Rattle.nomos_grammar.specs.declared.part.Part.{Part}
use Rattle.nomos_grammar.specs.CountedPlaces.{Counts, after_token}
use Rattle.nomos_grammar.specs.Producing.{first, later}
use Rattle.nomos_grammar.specs.Grammar.{the, NAME}
use Rattle.nomos_surface.proofs.ListsWalked.{list_walks, each_mapped_walks, each_kept_walks}
use Rattle.nomos_surface.proofs.PrintLaws.{StandsFor, more_stand, parted_stand, chan_stands, named_stands, is_term_stands, arguments_stand, args_stand, potential_behind, name_behind, name_as_name, bound_stands, step_stands, steps_stand, braced_stands, arm_stands, arms_parted, code_stands, last_stands, each_arm}
use Rattle.nomos_surface.proofs.TermsWalked.{heading_walks, term_walks}
use Rattle.nomos_surface.proofs.TypesWalked.{potential_walks, value_type_walks}
use Rattle.nomos_surface.proofs.Walked.{Keeps, Adds, none, one_node, joined, quiet, ended, grouped, WalksFor}
use Rattle.nomos_surface.proofs.Yields.{Yields}
use Rattle.nomos_surface.specs.Counts.{Count, nothing, ◌⊕◌, in_each, in_term, in_args, in_step, in_code, in_last, in_arms}
use Rattle.nomos_surface.specs.declared.name_at.NameAt.{NameAt}
use Rattle.nomos_surface.specs.declared.steps.ChanAt.{ChanAt}
use Rattle.nomos_surface.specs.declared.steps.ChanAt.TheVariants as chan
use Rattle.nomos_surface.specs.Grammatical.{Each, IsTerm, AreArguments, IsStep, IsCode, IsLast, AreArms}
use Rattle.nomos_surface.specs.mirror.Shallow.{ShallowName, ShallowChan, ShallowTerm, ShallowArgs, ShallowStep, ShallowCode, ShallowLast, ShallowArms}
use Rattle.nomos_surface.specs.Print.{print_term, print_named, print_last, print_arms}
use Rattle.nomos_surface.specs.Printed.{Shown, Printer}
use Rattle.nomos_surface.specs.Tree.{TermTree, ArgTrees, StepTree, label, send, recv, put, taking, pay, getting, work, wait, accept, detach, acquire, release, spawn, binding, empty_list, longer_list, emit, CodeTree, code, LastTree, close, fwd, calling, code_if, case, code_match, ArmTrees, no_arms, arm}
use Rattle.nomos_syntax.specs.declared.symbol.Symbol.TheVariants as sym

-- arguments

shallow_chan : (x : ChanAt) → ShallowChan x
shallow_chan (chan.Own at) = tt
shallow_chan (chan.Variable n) = tt

chan_keeps : (x : ChanAt) (rest : List Part) (after : List Shown) (y : Yields rest after) (c : Counts) →
    Keeps (chan_stands x rest after y) c → Keeps y (after_token c)
unfolding chan_stands
chan_keeps (chan.Own at) rest after y c k = k.1
chan_keeps (chan.Variable n) rest after y c k = k.1

named_walks : (n : NameAt) → WalksFor (named_stands n) nothing (ShallowName n)
unfolding named_stands
named_walks n rest after y c k = record { fact = tt; behind = _; keeps = k.1; adds = none }

-- names alone count nothing
names_none : (names : List NameAt) → in_each (λ (n : NameAt). nothing) names ≡ nothing
names_none [] = refl
names_none (n ∷ names) = ap (λ (c : Count). nothing ⊕ c) (names_none names)

by_names : (names : List NameAt) {b c d e : Count} → Adds b c d → Adds (in_each (λ (n : NameAt). nothing) names) d e →
    Adds b c e
by_names names {d} {e} one two = ended one (subst (λ (x : Count). Adds x d e) (names_none names) two)

pub is_term_walks : (t : TermTree) (is : IsTerm the_production.Term t) →
    WalksFor (is_term_stands t is) (in_term t) (ShallowTerm t)
unfolding is_term_stands
is_term_walks t is rest after y c k = term_walks is rest after y c k

args_walk : (a : ArgTrees) (are : AreArguments a) → WalksFor (args_stand a are) (in_args a) (ShallowArgs a)
unfolding args_stand arguments_stand
args_walk a are rest after y c k =
    let v = list_walks print_term in_term ShallowTerm the_production.MoreValueArguments (the the_production.Term)
    sym.Comma
    first (later first) the_production.ValueArguments first (later first) a.values _
    (each_kept_walks (the the_production.Term) (IsTerm the_production.Term) print_term in_term ShallowTerm
    is_term_stands is_term_walks a.values are) _ _ _ _ k.1 in
    let n = list_walks print_named
    (λ (n : NameAt). nothing) ShallowName the_production.MoreChannelArguments NAME sym.Comma
    first (later first) the_production.ChannelArguments first (later first) a.channels _
    (each_mapped_walks NAME print_named (λ (n : NameAt). nothing) ShallowName named_stands named_walks a.channels)
    _ _ _ _ v.keeps.1 in
    record {
      fact = (v.fact, n.fact);
      behind = _;
      keeps = n.keeps.1;
      adds = by_names a.channels v.adds n.adds;
    }

-- steps

pub step_walks : (step : StepTree) (is : IsStep step) → WalksFor (step_stands step is) (in_step step) (ShallowStep step)
unfolding step_stands name_behind potential_behind name_as_name bound_stands
step_walks (label x l) is rest after y c k =
    record { fact = (shallow_chan x, tt); behind = _; keeps = (chan_keeps x _ _ _ _ k).1.1; adds = one_node }
step_walks (send at x n) is rest after y c k =
    record { fact = (shallow_chan x, tt); behind = _; keeps = (chan_keeps x _ _ _ _ k.1).1; adds = one_node }
step_walks (recv at x n) is rest after y c k =
    record { fact = (shallow_chan x, tt); behind = _; keeps = (chan_keeps x _ _ _ _ k.1).1; adds = one_node }
step_walks (put at x e) is rest after y c k =
    let r = is_term_walks e is _ _ _ _ (chan_keeps x _ _ _ _ k.1) in
    record { fact = (shallow_chan x, r.fact); behind = _; keeps = r.keeps; adds = joined one_node r.adds }
step_walks (taking at x n) is rest after y c k =
    record { fact = (shallow_chan x, tt); behind = _; keeps = (chan_keeps x _ _ _ _ k.1).1; adds = one_node }
step_walks (pay at x q) is rest after y c k =
    let r = potential_walks q _ _ _ _ (chan_keeps x _ _ _ _ k.1) in
    record { fact = (shallow_chan x, r.fact); behind = _; keeps = r.keeps; adds = joined one_node r.adds }
step_walks (getting at x q) is rest after y c k =
    let r = potential_walks q _ _ _ _ (chan_keeps x _ _ _ _ k.1) in
    record { fact = (shallow_chan x, r.fact); behind = _; keeps = r.keeps; adds = joined one_node r.adds }
step_walks (work at q) is rest after y c k =
    let r = potential_walks q _ _ _ _ k.1 in
    record { fact = r.fact; behind = _; keeps = r.keeps; adds = joined one_node r.adds }
step_walks (wait at n) is rest after y c k = record { fact = tt; behind = _; keeps = k.1.1; adds = one_node }
step_walks (accept at) is rest after y c k = record { fact = tt; behind = _; keeps = k.1; adds = one_node }
step_walks (detach at) is rest after y c k = record { fact = tt; behind = _; keeps = k.1; adds = one_node }
step_walks (acquire at a x) is rest after y c k =
    record { fact = (tt, tt); behind = _; keeps = k.1.1.1.1; adds = one_node }
step_walks (release at x a) is rest after y c k =
    record { fact = (tt, tt); behind = _; keeps = k.1.1.1.1; adds = one_node }
step_walks (spawn at x f arguments) is rest after y c k =
    let r = args_walk arguments is _ _ _ _ k.1.1.1.1 in
    record { fact = (tt, tt, r.fact); behind = _; keeps = r.keeps; adds = joined one_node r.adds }
step_walks (binding at v e) is rest after y c k =
    let r = is_term_walks e is _ _ _ _ k.1.1.1 in
    record { fact = (tt, r.fact); behind = _; keeps = r.keeps; adds = joined one_node r.adds }
step_walks (empty_list at v list_at q t) is rest after y c k =
    let r = potential_walks q _ _ _ _ k.1.1.1.1 in
    let e = value_type_walks t _ _ _ _ r.keeps in
    record {
      fact = (tt, r.fact, e.fact);
      behind = _;
      keeps = e.keeps;
      adds = joined one_node (joined one_node (joined r.adds e.adds));
    }
step_walks (longer_list at v e w) is rest after y c k =
    let r = is_term_walks e is _ _ _ _ k.1.1.1.1 in
    record { fact = (tt, r.fact, tt); behind = _; keeps = r.keeps.1.1; adds = joined one_node r.adds }
step_walks (emit at e) is rest after y c k =
    let r = is_term_walks e is _ _ _ _ k.1 in
    record { fact = r.fact; behind = _; keeps = r.keeps; adds = joined one_node r.adds }

-- codes

-- the steps of a code and its last instruction
steps_walk : (steps : List StepTree) (are : Each IsStep steps) (last : Printer)
    (stands : StandsFor (the the_production.Last) last)
    (count : Count) (Fact : Type 0) → WalksFor stands count Fact →
    WalksFor (steps_stand steps are last stands) (in_each in_step steps ⊕ count) (Each ShallowStep steps × Fact)
unfolding steps_stand
steps_walk [] are last stands count Fact walks rest after y c k =
    let r = walks _ _ _ _ k in
    record { fact = (tt, r.fact); behind = _; keeps = r.keeps; adds = joined none r.adds }
steps_walk (step ∷ steps) are last stands count Fact walks rest after y c k =
    let s = step_walks step are.0 _ _ _ _ k in
    let r = steps_walk steps are.1 last stands count Fact walks _ _ _ _ s.keeps.1 in
    record {
      fact = ((s.fact, r.fact.0), r.fact.1);
      behind = _;
      keeps = r.keeps;
      adds = grouped (in_each in_step steps) count s.adds r.adds;
    }

mutual
  unfolding in_code code_stands last_stands each_arm braced_stands arm_stands arms_parted more_stand parted_stand

  pub code_walks : (body : CodeTree) (is : IsCode body) →
      WalksFor (code_stands body is) (in_code body) (ShallowCode body)
  code_walks (code steps last) is rest after y c k =
      steps_walk steps is.0 (print_last last) (last_stands last is.1) (in_last last) (ShallowLast last)
      (last_walks last is.1)
      rest after y c k

  last_walks : (l : LastTree) (is : IsLast l) → WalksFor (last_stands l is) (in_last l) (ShallowLast l)
  last_walks (close at) is rest after y c k = record { fact = tt; behind = _; keeps = k.1; adds = one_node }
  last_walks (fwd at x) is rest after y c k = record { fact = tt; behind = _; keeps = k.1.1; adds = one_node }
  last_walks (calling at f arguments) is rest after y c k =
      let r = args_walk arguments is _ _ _ _ k.1.1 in
      record { fact = (tt, r.fact); behind = _; keeps = r.keeps; adds = joined one_node r.adds }
  last_walks (code_if at test holds fails) is rest after y c k =
      let t = is_term_walks test is.0 _ _ _ _ k.1 in
      let h = code_walks holds is.1 _ _ _ _ t.keeps.1 in
      let f = code_walks fails is.2 _ _ _ _ h.keeps.1.1.1 in
      record {
        fact = (t.fact, h.fact, f.fact);
        behind = _;
        keeps = f.keeps.1;
        adds = joined one_node (joined t.adds (joined h.adds f.adds));
      }
  last_walks (case at x no_arms) is rest after y c k = absurd is.0
  last_walks (case at x (arm l goes arms)) is rest after y c k =
      let r = code_walks goes is.1.0 _ _ _ _ (chan_keeps x _ _ _ _ k.1).1.1.1 in
      let m = more_arms_walk arms is.1.1 _ _ _ _ r.keeps in
      record {
        fact = (shallow_chan x, (tt, r.fact, m.fact));
        behind = _;
        keeps = m.keeps.1;
        adds = joined one_node (joined one_node (joined r.adds m.adds));
      }
  last_walks (code_match at w empty head tail more) is rest after y c k =
      let e = code_walks empty is.0 _ _ _ _ k.1.1.1.1.1 in
      let h = heading_walks head tail _ _ _ _ e.keeps.1 in
      let m = code_walks more is.1 _ _ _ _ h.keeps in
      record {
        fact = (tt, e.fact, tt, tt, m.fact);
        behind = _;
        keeps = m.keeps.1;
        adds = joined one_node (joined e.adds (quiet h.adds m.adds));
      }

  more_arms_walk : (arms : ArmTrees) (are : AreArms arms) →
      WalksFor (more_stand the_production.MoreBranches (the the_production.Branch) sym.Bar first (later first)
      (print_arms arms) (each_arm arms are)) (in_arms arms) (ShallowArms arms)
  more_arms_walk no_arms are rest after y c k = record { fact = tt; behind = _; keeps = k; adds = none }
  more_arms_walk (arm l goes arms) are rest after y c k =
      let r = code_walks goes are.0 _ _ _ _ k.1.1.1 in
      let m = more_arms_walk arms are.1 _ _ _ _ r.keeps in
      record {
        fact = (tt, r.fact, m.fact);
        behind = _;
        keeps = m.keeps;
        adds = joined one_node (joined r.adds m.adds);
      }
