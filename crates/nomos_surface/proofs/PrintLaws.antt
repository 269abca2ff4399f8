-- What a tree prints stands in the place of its production.
use Rattle.std.proofs.Common.{ℕ, Bool, true, false, List, [], ◌∷◌, ◌++◌, map, Option, Some, None}
use Rattle.nomos_grammar.specs.declared.part.Nonterminal.{Nonterminal}
use Rattle.nomos_grammar.specs.declared.part.Nonterminal.TheVariants as the_production
use Rattle.nomos_grammar.specs.declared.part.Part.{Part}
use Rattle.nomos_grammar.specs.Producing.{IsAmong, first, later, IsFile, file}
use Rattle.nomos_grammar.specs.Grammar.{alternatives, the, NAME, CLOSE, keyword as keyword_part, sign as sign_part}
use Rattle.nomos_ir.specs.declared.kind.Base.{Base}
use Rattle.nomos_ir.specs.declared.kind.Base.TheVariants as base
use Rattle.nomos_ir.specs.declared.word.Word.TheVariants as word
use Rattle.nomos_surface.proofs.Yields.{Yields, ends, shows, passes, chooses, yields-derives, suits_sign, suits_sign_at, suits_keyword, suits_keyword_at, suits_name, suits_one, suits_number}
use Rattle.nomos_surface.specs.declared.declarations.OfferedMode.{OfferedMode}
use Rattle.nomos_surface.specs.declared.declarations.OfferedMode.TheVariants as mode
use Rattle.nomos_surface.specs.declared.declarations.ListPotential.{ListPotential}
use Rattle.nomos_surface.specs.declared.declarations.ProcessPar.{ProcessPar}
use Rattle.nomos_surface.specs.declared.declarations.ValuePar.{ValuePar}
use Rattle.nomos_surface.specs.declared.name_at.NameAt.{NameAt}
use Rattle.nomos_surface.specs.declared.potential.Potential.{Potential}
use Rattle.nomos_surface.specs.declared.potential.Quantity.{Quantity}
use Rattle.nomos_surface.specs.declared.potential.Quantity.TheVariants as quantity
use Rattle.nomos_surface.specs.declared.steps.ChanAt.{ChanAt}
use Rattle.nomos_surface.specs.declared.steps.ChanAt.TheVariants as chan
use Rattle.nomos_surface.specs.declared.surface.CostLine.{CostLine}
use Rattle.nomos_surface.specs.declared.surface.CostModel.{CostModel}
use Rattle.nomos_surface.specs.declared.surface.CostModel.TheVariants as cost
use Rattle.nomos_surface.specs.declared.types.Sender.{Sender}
use Rattle.nomos_surface.specs.declared.types.Sender.TheVariants as sender
use Rattle.nomos_surface.specs.declared.value_type.ValueType.{ValueType}
use Rattle.nomos_syntax.specs.declared.symbol.Symbol.{Symbol}
use Rattle.nomos_syntax.specs.declared.symbol.Symbol.TheVariants as sym
use Rattle.nomos_syntax.specs.Lexeme.{Placed}
use Rattle.nomos_surface.specs.Printed.{Shown, Printer, Spells, sign, sign_at, keyword, keyword_at, print_name, print_more, print_parted}
use Rattle.nomos_surface.specs.Print.{print_quantity, print_potential, print_optional, print_lists, print_value_type, base_word, print_payment, choice_sign, channel_sign, value_sign, print_type, print_branches, truth_word, print_heading, print_term, print_terms, print_chan, print_named, print_args, print_step, print_steps, print_code, print_last, print_arms, print_value_par, print_list_potential, print_par, print_chan_par, print_pars, mode_word, print_body, print_decl, print_decls, cost_word, print_cost, print_file}
use Rattle.nomos_surface.specs.Grammatical.{Each, IsType, is_up, is_down, is_paying, is_valued, is_channel, is_atom, is_one, is_named, is_choice, is_grouped, AreBranches, last_branch, more_branches, IsTerm, is_choosing, is_matching, is_disjunction, is_or, is_conjunction, is_and, is_negation, is_not, is_comparison, is_less, is_equal, is_list_term, is_cons, is_sum, is_add, is_sub, is_product, is_mul, is_div, is_rem, is_primary, is_number, is_truth, is_me, is_variable, is_application, is_no_items, is_parenthesized, AreTerms, are_none, are_more, AreArguments, IsStep, IsCode, IsLast, AreArms, IsChanPar, ArePars, IsDecl, IsGrammatical}
use Rattle.nomos_surface.specs.Tree.{TypeTree, BranchTrees, TermTree, TermTrees, ArgTrees, StepTree, label, send, recv, put, taking, pay, getting, work, wait, accept, detach, acquire, release, spawn, binding, empty_list, longer_list, emit, CodeTree, code, LastTree, close, fwd, calling, code_if, case, code_match, ArmTrees, no_arms, arm, ChanParTree, ParTrees, DeclTree, definition, function, process, transaction, FileTree}

-- what is printed stands in the place of the part
abbrev pub StandsFor : Part → Printer → Type 0
StandsFor p printer = (rest : List Part) (after : List Shown) → Yields rest after → Yields (p ∷ rest) (printer after)

-- lists

module _ (more : Nonterminal) (item : Part) (sep : Symbol)
    (again : IsAmong (sign_part sep ∷ item ∷ the more ∷ []) (alternatives more)) (none : IsAmong [] (alternatives more))
  where
    unfoldable pub more_stand : (printers : List Printer) → Each (StandsFor item) printers →
        StandsFor (the more) (print_more sep printers)
    more_stand [] each rest after y = chooses [] none y
    more_stand (p ∷ ps) each rest after y =
        chooses _ again (shows (suits_sign sep) (each.0 _ _ (more_stand ps each.1 rest after y)))

    unfoldable pub parted_stand : (p : Printer) (ps : List Printer) → Each (StandsFor item) (p ∷ ps) →
        (rest : List Part) (after : List Shown) → Yields rest after →
        Yields (item ∷ the more ∷ rest) (print_parted sep (p ∷ ps) after)
    parted_stand p ps each rest after y = each.0 _ _ (more_stand ps each.1 rest after y)

    unfoldable pub list_stand : (whole : Nonterminal) → IsAmong (item ∷ the more ∷ []) (alternatives whole) →
        IsAmong [] (alternatives whole) →
        (ps : List Printer) → Each (StandsFor item) ps → StandsFor (the whole) (print_parted sep ps)
    list_stand whole some empty [] each rest after y = chooses [] empty y
    list_stand whole some empty (p ∷ ps) each rest after y = chooses _ some (parted_stand p ps each rest after y)

-- each of the printers of a list
unfoldable pub each_mapped : {X : Type 0} (P : Printer → Type 0) (f : X → Printer) → ((x : X) → P (f x)) →
    (xs : List X) → Each P (map f xs)
each_mapped P f h [] = tt
each_mapped P f h (x ∷ xs) = (h x, each_mapped P f h xs)

unfoldable pub each_kept : {X : Type 0} (Q : X → Type 0) (P : Printer → Type 0) (f : X → Printer) →
    ((x : X) → Q x → P (f x)) →
    (xs : List X) → Each Q xs → Each P (map f xs)
each_kept Q P f h [] each = tt
each_kept Q P f h (x ∷ xs) each = (h x each.0, each_kept Q P f h xs each.1)

-- potentials

unfoldable pub quantity_stands : (at : ℕ) (q : Quantity) →
    StandsFor (the the_production.Amount) (λ after. print_quantity at q ∷ after)
quantity_stands at (quantity.Number value) rest after y = chooses _ (later first) (shows (suits_number at value) y)
quantity_stands at quantity.Star rest after y = chooses _ first (passes (shows (suits_sign_at at sym.Star) y))

unfoldable pub potential_stands : (q : Potential) → StandsFor (the the_production.Potential) (print_potential q)
potential_stands q rest after y =
    chooses _ first (shows (suits_sign_at q.at sym.OpenBrace)
    (quantity_stands q.quantity_at q.quantity _ _ (shows (suits_sign sym.CloseBrace) y)))

unfoldable pub optional_stands : (q : Option Potential) →
    StandsFor (the the_production.OptionalPotential) (print_optional q)
optional_stands None rest after y = chooses _ (later first) y
optional_stands (Some q) rest after y = chooses _ first (potential_stands q _ _ y)

-- the types of values

unfoldable pub lists_stand : (lists : List ℕ) (at : ℕ) (b : Base) →
    StandsFor (the the_production.ValueType) (print_lists lists (keyword_at at (base_word b)))
lists_stand [] at base.Int rest after y =
    chooses _ (later first) (passes (passes (shows (suits_keyword_at at word.Int) (passes y))))
lists_stand [] at base.Bool rest after y =
    chooses _ (later (later first)) (passes (passes (shows (suits_keyword_at at word.Bool) (passes y))))
lists_stand (l ∷ lists) at b rest after y =
    chooses _ first (passes (passes (shows (suits_keyword_at l word.List) (lists_stand lists at b _ _ (passes y)))))

unfoldable pub value_type_stands : (t : ValueType) → StandsFor (the the_production.ValueType) (print_value_type t)
value_type_stands t = lists_stand t.lists t.base_at t.base

-- types

unfoldable pub payment_stands : (s : Sender) (at : ℕ) (q : Potential) (rest : List Part) (after : List Shown) →
    Yields (the the_production.SessionType ∷ CLOSE ∷ rest) after →
    Yields (the the_production.SessionType ∷ rest) (print_payment s at q after)
payment_stands sender.Provider at q rest after y =
    chooses _ (later (later first)) (passes (passes (shows (suits_sign_at at sym.Bar)
    (potential_stands q _ _ (shows (suits_sign sym.Greater) y)))))
payment_stands sender.Client at q rest after y =
    chooses _ (later (later (later first))) (passes (passes (shows (suits_sign_at at sym.Less)
    (potential_stands q _ _ (shows (suits_sign sym.Bar) y)))))

-- behind an atom: `*` or `-o` and a type
unfoldable pub carrying_stands : (s : Sender) (at : ℕ) (rest : List Part) (after : List Shown) →
    Yields (the the_production.SessionType ∷ rest) after →
    Yields (the the_production.AfterAtom ∷ rest) (sign_at at (channel_sign s) ∷ after)
carrying_stands sender.Provider at rest after y = chooses _ first (passes (shows (suits_sign_at at sym.Star) y))
carrying_stands sender.Client at rest after y =
    chooses _ (later first) (passes (shows (suits_sign_at at sym.Lollipop) y))

-- behind the type of a value: `/\` or `->`
unfoldable pub arrow_stands : (s : Sender) (at : ℕ) →
    StandsFor (the the_production.ValueArrow) (λ after. sign_at at (value_sign s) ∷ after)
arrow_stands sender.Provider at rest after y = chooses _ first (passes (shows (suits_sign_at at sym.Wedge) y))
arrow_stands sender.Client at rest after y = chooses _ (later first) (passes (shows (suits_sign_at at sym.Arrow) y))

-- a choice, whose branches stand
unfoldable pub choice_stands : (s : Sender) (at : ℕ) (printer : Printer) →
    StandsFor (the the_production.Labels) printer →
    StandsFor (the the_production.Atom)
    (λ after. sign_at at (choice_sign s) ∷ sign sym.OpenBrace ∷ printer (sign sym.CloseBrace ∷ after))
choice_stands sender.Provider at printer labels rest after y =
    chooses _ (later first) (passes (shows (suits_sign_at at sym.Plus) (shows (suits_sign sym.OpenBrace)
    (labels _ _ (shows (suits_sign sym.CloseBrace) y)))))
choice_stands sender.Client at printer labels rest after y =
    chooses _ (later (later first)) (passes (shows (suits_sign_at at sym.Ampersand) (shows (suits_sign sym.OpenBrace)
    (labels _ _ (shows (suits_sign sym.CloseBrace) y)))))

unfoldable pub labelled_stands : (l : NameAt) (printer : Printer) → StandsFor (the the_production.SessionType) printer →
    StandsFor (the the_production.LabelledType) (λ after. print_name l ∷ sign sym.Colon ∷ printer after)
labelled_stands l printer goes rest after y =
    chooses _ first (shows (suits_name l) (shows (suits_sign sym.Colon) (goes _ _ y)))

unfoldable pub more_labels : (ps : List Printer) → Each (StandsFor (the the_production.LabelledType)) ps →
    StandsFor (the the_production.MoreLabels) (print_more sym.Bar ps)
more_labels = more_stand the_production.MoreLabels (the the_production.LabelledType) sym.Bar first (later first)

unfoldable mutual
  pub type_stands : {n : Nonterminal} {t : TypeTree} → IsType n t → StandsFor (the n) (print_type t)
  type_stands (is_up {at} goes) rest after y =
      chooses _ first (passes (passes (shows (suits_keyword_at at word.Up) (type_stands goes _ _ (passes y)))))
  type_stands (is_down {at} goes) rest after y =
      chooses _ (later first) (passes
      (passes (shows (suits_keyword_at at word.Down) (type_stands goes _ _ (passes y)))))
  type_stands (is_paying {s} {at} {q} goes) rest after y =
      payment_stands s at q rest _ (type_stands goes _ _ (passes y))
  type_stands (is_valued {s} {at} {value} goes) rest after y =
      chooses _ (later (later (later (later first)))) (passes (value_type_stands value _ _
      (arrow_stands s at _ _ (type_stands goes _ _ (passes y)))))
  type_stands (is_channel {s} {at} carried goes) rest after y =
      chooses _ (later (later (later (later (later first))))) (passes (type_stands carried _ _
      (carrying_stands s at _ _ (type_stands goes _ _ (passes y)))))
  type_stands (is_atom t) rest after y =
      chooses _ (later (later (later (later (later first))))) (passes (type_stands t _ _
      (chooses [] (later (later first)) (passes y))))
  type_stands (is_one {at}) rest after y =
      chooses _ (later (later (later (later first)))) (passes (shows (suits_one at) y))
  type_stands (is_named {n}) rest after y = chooses _ (later (later (later first))) (passes (shows (suits_name n) y))
  type_stands (is_choice {s} {at} are) rest after y = choice_stands s at _ (branches_stand are) rest after y
  type_stands (is_grouped inner) rest after y =
      chooses _ first (shows (suits_sign sym.OpenParen) (type_stands inner _ _ (shows (suits_sign sym.CloseParen) y)))

  pub branches_stand : {branches : BranchTrees} → AreBranches branches →
      StandsFor (the the_production.Labels) (print_parted sym.Bar (print_branches branches))
  branches_stand (last_branch {l} {goes} is) rest after y =
      chooses _ first (labelled_stands l (print_type goes) (type_stands is) _ _ (chooses [] (later first) y))
  branches_stand (more_branches {l} {goes} {branches = others} is more) rest after y =
      chooses _ first (labelled_stands l (print_type goes) (type_stands is) _ _
      (more_labels (print_branches others) (each_branch more) _ _ y))

  pub each_branch : {branches : BranchTrees} → AreBranches branches →
      Each (StandsFor (the the_production.LabelledType)) (print_branches branches)
  each_branch (last_branch {l} {goes} is) = (labelled_stands l (print_type goes) (type_stands is), tt)
  each_branch (more_branches {l} {goes} is more) =
      (labelled_stands l (print_type goes) (type_stands is), each_branch more)

-- terms

-- what may stand behind the operators of a production that groups them to the left
abbrev pub behind : Nonterminal → List Part
behind the_production.Disjunction = the the_production.MoreDisjuncts ∷ []
behind the_production.Conjunction = the the_production.MoreConjuncts ∷ []
behind the_production.Sum = the the_production.MoreSummands ∷ []
behind the_production.Product = the the_production.MoreFactors ∷ []
behind _ = []

-- what is printed stands in the place of the production, also where more of it follows
abbrev pub TermStands : Nonterminal → Printer → Type 0
TermStands n printer =
    (rest : List Part) (after : List Shown) → Yields (behind n ++ rest) after → Yields (the n ∷ rest) (printer after)

unfoldable pub arguments_stand : (ps : List Printer) → Each (StandsFor (the the_production.Term)) ps →
    StandsFor (the the_production.ValueArguments) (print_parted sym.Comma ps)
arguments_stand =
    list_stand the_production.MoreValueArguments (the the_production.Term) sym.Comma first (later first)
    the_production.ValueArguments first (later first)

unfoldable pub truth_stands : (at : ℕ) (value : Bool) →
    StandsFor (the the_production.Primary) (λ after. keyword_at at (truth_word value) ∷ after)
truth_stands at true rest after y =
    chooses _ (later (later (later first))) (passes (shows (suits_keyword_at at word.True) y))
truth_stands at false rest after y =
    chooses _ (later (later (later (later first)))) (passes (shows (suits_keyword_at at word.False) y))

-- `head :: tail =>`, as parts and as it is printed
unfoldable pub heading_stands : (head tail : NameAt) (rest : List Part) (after : List Shown) → Yields rest after →
    Yields (NAME ∷ sign_part sym.DoubleColon ∷ NAME ∷ sign_part sym.FatArrow ∷ rest) (print_heading head tail after)
heading_stands head tail rest after y =
    shows (suits_name head) (shows (suits_sign sym.DoubleColon)
    (shows (suits_name tail) (shows (suits_sign sym.FatArrow) y)))

unfoldable mutual
  pub term_stands : {n : Nonterminal} {t : TermTree} → IsTerm n t → TermStands n (print_term t)
  term_stands (is_choosing {at} test holds fails) rest after y =
      chooses _ first (passes (passes (shows (suits_keyword_at at word.If) (term_stands test _ _
      (shows (suits_keyword word.Then) (term_stands holds _ _
      (shows (suits_keyword word.Else) (term_stands fails _ _ (passes y)))))))))
  term_stands (is_matching {at} {head} {tail} matched empty more) rest after y =
      chooses _ (later first) (passes (passes (shows (suits_keyword_at at word.Match) (term_stands matched _ _
      (shows (suits_sign sym.OpenBrace) (shows (suits_keyword word.Nil) (shows (suits_sign sym.FatArrow)
      (term_stands empty _ _ (shows (suits_sign sym.Bar) (heading_stands head tail _ _
      (term_stands more _ _ (shows (suits_sign sym.CloseBrace) (passes y)))))))))))))
  term_stands (is_disjunction t) rest after y =
      chooses _ (later (later first)) (passes (term_stands t _ _ (chooses [] (later first) (passes y))))
  term_stands (is_or {at} left right) rest after y =
      term_stands left rest _ (chooses _ first (passes (shows (suits_keyword_at at word.Or) (passes
      (term_stands right _ _ (chooses [] (later first) y))))))
  term_stands (is_conjunction t) rest after y = chooses _ first (term_stands t _ _ (chooses [] (later first) y))
  term_stands (is_and {at} left right) rest after y =
      term_stands left rest _ (chooses _ first (passes (shows (suits_keyword_at at word.And) (passes
      (term_stands right _ _ y)))))
  term_stands (is_negation t) rest after y = chooses _ first (term_stands t _ _ y)
  term_stands (is_not {at} inner) rest after y =
      chooses _ first (passes (passes (shows (suits_keyword_at at word.Not) (term_stands inner _ _ (passes y)))))
  term_stands (is_comparison t) rest after y = chooses _ (later first) (passes (term_stands t _ _ (passes y)))
  term_stands (is_less {at} left right) rest after y =
      chooses _ first (term_stands left _ _ (chooses _ first (passes (shows (suits_sign_at at sym.Less) (passes
      (term_stands right _ _ y))))))
  term_stands (is_equal {at} left right) rest after y =
      chooses _ first (term_stands left _ _
      (chooses _ (later first) (passes (shows (suits_sign_at at sym.Equals) (passes
      (term_stands right _ _ y))))))
  term_stands (is_list_term t) rest after y = chooses _ first (term_stands t _ _ (chooses [] (later (later first)) y))
  term_stands (is_cons {at} left right) rest after y =
      chooses _ first (term_stands left _ _ (chooses [] (later (later first)) (chooses _ first (passes
      (shows (suits_sign_at at sym.DoubleColon) (passes (term_stands right _ _ y)))))))
  term_stands (is_sum t) rest after y =
      chooses _ first (term_stands t _ _ (chooses [] (later (later first)) (chooses [] (later first) y)))
  term_stands (is_add {at} left right) rest after y =
      term_stands left rest _ (chooses _ first (passes (shows (suits_sign_at at sym.Plus) (passes
      (term_stands right _ _ (chooses [] (later (later (later first))) y))))))
  term_stands (is_sub {at} left right) rest after y =
      term_stands left rest _ (chooses _ (later first) (passes (shows (suits_sign_at at sym.Minus) (passes
      (term_stands right _ _ (chooses [] (later (later (later first))) y))))))
  term_stands (is_product t) rest after y =
      chooses _ first (term_stands t _ _ (chooses [] (later (later (later first))) y))
  term_stands (is_mul {at} left right) rest after y =
      term_stands left rest _ (chooses _ first (passes (shows (suits_sign_at at sym.Star) (passes
      (term_stands right _ _ y)))))
  term_stands (is_div {at} left right) rest after y =
      term_stands left rest _ (chooses _ (later first) (passes (shows (suits_sign_at at sym.Slash) (passes
      (term_stands right _ _ y)))))
  term_stands (is_rem {at} left right) rest after y =
      term_stands left rest _ (chooses _ (later (later first)) (passes (shows (suits_sign_at at sym.Percent) (passes
      (term_stands right _ _ y)))))
  term_stands (is_primary t) rest after y = chooses _ first (term_stands t _ _ y)
  term_stands (is_number {at} {value}) rest after y =
      chooses _ (later (later (later (later (later (later first)))))) (passes (shows (suits_number at value) y))
  term_stands (is_truth {at} {value}) rest after y = truth_stands at value rest after y
  term_stands (is_me {at}) rest after y =
      chooses _ (later (later (later (later (later first))))) (passes (shows (suits_keyword_at at word.Me) y))
  term_stands (is_variable {n}) rest after y =
      chooses _ first (passes (shows (suits_name n) (chooses [] (later first) y)))
  term_stands (is_application {f} {arguments} are) rest after y =
      chooses _ first (passes (shows (suits_name f) (chooses _ first (shows (suits_sign sym.OpenParen)
      (arguments_stand (print_terms arguments) (each_term are) _ _ (shows (suits_sign sym.CloseParen) y))))))
  term_stands (is_no_items {at} {element}) rest after y =
      chooses _ (later first) (passes (shows (suits_keyword_at at word.Nil) (value_type_stands element _ _ y)))
  term_stands (is_parenthesized inner) rest after y =
      chooses _ (later (later first)) (shows (suits_sign sym.OpenParen)
      (term_stands inner _ _ (shows (suits_sign sym.CloseParen) y)))

  pub each_term : {ts : TermTrees} → AreTerms ts → Each (StandsFor (the the_production.Term)) (print_terms ts)
  each_term are_none = tt
  each_term (are_more is more) = (term_stands is, each_term more)

-- steps

unfoldable pub chan_stands : (x : ChanAt) → StandsFor (the the_production.Channel) (λ after. print_chan x ∷ after)
chan_stands (chan.Own at) rest after y = chooses _ first (shows (suits_keyword_at at word.SelfWord) y)
chan_stands (chan.Variable n) rest after y = chooses _ (later first) (shows (suits_name n) y)

unfoldable pub named_stands : (n : NameAt) → StandsFor NAME (print_named n)
named_stands n rest after y = shows (suits_name n) y

-- what stands for a term
unfoldable pub is_term_stands : (t : TermTree) → IsTerm the_production.Term t →
    StandsFor (the the_production.Term) (print_term t)
is_term_stands t is = term_stands is

unfoldable pub args_stand : (a : ArgTrees) → AreArguments a → StandsFor (the the_production.Arguments) (print_args a)
args_stand a are rest after y =
    chooses _ first (shows (suits_sign sym.OpenParen)
    (arguments_stand (map print_term a.values)
    (each_kept (IsTerm the_production.Term) (StandsFor (the the_production.Term)) print_term is_term_stands a.values
    are) _ _
    (shows (suits_sign sym.Semicolon)
    (list_stand the_production.MoreChannelArguments NAME sym.Comma first (later first)
    the_production.ChannelArguments first (later first)
    (map print_named a.channels) (each_mapped (StandsFor NAME) print_named named_stands a.channels) _ _
    (shows (suits_sign sym.CloseParen) y)))))

unfoldable pub potential_behind : (x : ChanAt) (q : Potential) (rest : List Part) (after : List Shown) →
    Yields rest after →
    Yields (the the_production.Channel ∷ the the_production.Potential ∷ rest) (print_chan x ∷ print_potential q after)
potential_behind x q rest after y = chan_stands x _ _ (potential_stands q _ _ y)

unfoldable pub name_behind : (x : ChanAt) (n : NameAt) (rest : List Part) (after : List Shown) → Yields rest after →
    Yields (the the_production.Channel ∷ NAME ∷ rest) (print_chan x ∷ print_name n ∷ after)
name_behind x n rest after y = chan_stands x _ _ (shows (suits_name n) y)

unfoldable pub name_as_name : (n m : NameAt) (rest : List Part) (after : List Shown) → Yields rest after →
    Yields (NAME ∷ keyword_part word.As ∷ NAME ∷ rest) (print_name n ∷ keyword word.As ∷ print_name m ∷ after)
name_as_name n m rest after y = shows (suits_name n) (shows (suits_keyword word.As) (shows (suits_name m) y))

-- `v =` and what is bound
unfoldable pub bound_stands : (v : NameAt) (rest : List Part) (after : List Shown) →
    Yields (the the_production.BoundValue ∷ rest) after →
    Yields (NAME ∷ sign_part sym.Equals ∷ the the_production.BoundValue ∷ rest) (print_name v ∷ sign sym.Equals ∷ after)
bound_stands v rest after y = shows (suits_name v) (shows (suits_sign sym.Equals) y)

unfoldable pub step_stands : (step : StepTree) → IsStep step → StandsFor (the the_production.Step) (print_step step)
step_stands (label x l) is rest after y =
    chooses _ (later (later (later
    (later (later (later (later (later (later (later (later (later (later (later (later first)))))))))))))))
    (passes (chan_stands x _ _ (shows (suits_sign sym.Dot) (shows (suits_name l) y))))
step_stands (send at x n) is rest after y =
    chooses _ first (passes (shows (suits_keyword_at at word.Send) (name_behind x n _ _ y)))
step_stands (recv at x n) is rest after y =
    chooses _ (later first) (passes (shows (suits_keyword_at at word.Recv) (name_behind x n _ _ y)))
step_stands (put at x e) is rest after y =
    chooses _ (later (later first)) (passes (shows (suits_keyword_at at word.Put)
    (chan_stands x _ _ (is_term_stands e is _ _ y))))
step_stands (taking at x n) is rest after y =
    chooses _ (later (later (later first))) (passes (shows (suits_keyword_at at word.Take) (name_behind x n _ _ y)))
step_stands (pay at x q) is rest after y =
    chooses _ (later (later (later (later first))))
    (passes (shows (suits_keyword_at at word.Pay) (potential_behind x q _ _ y)))
step_stands (getting at x q) is rest after y =
    chooses _ (later (later (later (later (later first)))))
    (passes (shows (suits_keyword_at at word.Get) (potential_behind x q _ _ y)))
step_stands (work at q) is rest after y =
    chooses _ (later (later (later (later (later (later first))))))
    (passes (shows (suits_keyword_at at word.Work) (potential_stands q _ _ y)))
step_stands (wait at n) is rest after y =
    chooses _ (later (later (later (later (later (later (later first)))))))
    (passes (shows (suits_keyword_at at word.Wait) (shows (suits_name n) y)))
step_stands (accept at) is rest after y =
    chooses _ (later (later (later (later (later (later (later (later first))))))))
    (passes (shows (suits_keyword_at at word.Accept) y))
step_stands (detach at) is rest after y =
    chooses _ (later (later (later (later (later (later (later (later (later first)))))))))
    (passes (shows (suits_keyword_at at word.Detach) y))
step_stands (acquire at a x) is rest after y =
    chooses _ (later (later (later (later (later (later (later (later (later (later first)))))))))) (passes
    (shows (suits_keyword_at at word.Acquire) (name_as_name a x _ _ y)))
step_stands (release at x a) is rest after y =
    chooses _ (later (later (later (later (later (later (later (later (later (later (later first))))))))))) (passes
    (shows (suits_keyword_at at word.Release) (name_as_name x a _ _ y)))
step_stands (spawn at x f arguments) is rest after y =
    chooses _ (later (later (later (later (later (later (later (later (later (later (later (later first))))))))))))
    (passes
    (shows (suits_keyword_at at word.Spawn) (shows (suits_name x) (shows (suits_sign sym.Equals) (shows (suits_name f)
    (args_stand arguments is _ _ y))))))
step_stands (binding at v e) is rest after y =
    chooses _ (later (later (later
    (later (later (later (later (later (later (later (later (later (later first))))))))))))) (passes
    (shows (suits_keyword_at at word.Let) (bound_stands v _ _ (chooses _ (later first) (is_term_stands e is _ _ y)))))
step_stands (empty_list at v list_at q t) is rest after y =
    chooses _ (later (later (later
    (later (later (later (later (later (later (later (later (later (later first))))))))))))) (passes
    (shows (suits_keyword_at at word.Let)
    (bound_stands v _ _ (chooses _ first (shows (suits_keyword_at list_at word.List)
    (chooses _ first (passes (potential_stands q _ _ (value_type_stands t _ _ y)))))))))
step_stands (longer_list at v e w) is rest after y =
    chooses _ (later (later (later
    (later (later (later (later (later (later (later (later (later (later first))))))))))))) (passes
    (shows (suits_keyword_at at word.Let) (bound_stands v _ _ (chooses _ first (shows (suits_keyword word.List)
    (chooses _ (later first) (is_term_stands e is _ _ (shows (suits_sign sym.Comma) (shows (suits_name w) y)))))))))
step_stands (emit at e) is rest after y =
    chooses _ (later (later (later
    (later (later (later (later (later (later (later (later (later (later (later first)))))))))))))) (passes
    (shows (suits_keyword_at at word.Emit) (is_term_stands e is _ _ y)))

-- codes

-- a code stands where its last instruction does
unfoldable pub steps_stand : (steps : List StepTree) → Each IsStep steps → (last : Printer) →
    StandsFor (the the_production.Last) last →
    StandsFor (the the_production.Code) (λ after. print_steps steps (last after))
steps_stand [] each last stands rest after y = chooses _ first (stands _ _ y)
steps_stand (step ∷ steps) each last stands rest after y =
    chooses _ (later first) (step_stands step each.0 _ _ (shows (suits_sign sym.Semicolon)
    (steps_stand steps each.1 last stands _ _ y)))

-- `{`, a code and `}`
unfoldable pub braced_stands : (printer : Printer) → StandsFor (the the_production.Code) printer →
    StandsFor (the the_production.BracedCode) (λ after. sign sym.OpenBrace ∷ printer (sign sym.CloseBrace ∷ after))
braced_stands printer stands rest after y =
    chooses _ first (passes (shows (suits_sign sym.OpenBrace)
    (stands _ _ (shows (suits_sign sym.CloseBrace) (passes y)))))

unfoldable pub arm_stands : (l : NameAt) (printer : Printer) → StandsFor (the the_production.Code) printer →
    StandsFor (the the_production.Branch) (λ after. print_name l ∷ sign sym.FatArrow ∷ printer after)
arm_stands l printer stands rest after y =
    chooses _ first (passes (passes (shows (suits_name l) (shows (suits_sign sym.FatArrow) (stands _ _ (passes y))))))

unfoldable pub arms_parted : (p : Printer) (ps : List Printer) → Each (StandsFor (the the_production.Branch)) (p ∷ ps) →
    StandsFor (the the_production.Branches) (print_parted sym.Bar (p ∷ ps))
arms_parted p ps each rest after y =
    chooses _ first (parted_stand the_production.MoreBranches (the the_production.Branch) sym.Bar first (later first)
    p ps each _ _ y)

unfoldable mutual
  pub code_stands : (c : CodeTree) → IsCode c → StandsFor (the the_production.Code) (print_code c)
  code_stands (code steps last) is = steps_stand steps is.0 (print_last last) (last_stands last is.1)

  pub last_stands : (l : LastTree) → IsLast l → StandsFor (the the_production.Last) (print_last l)
  last_stands (close at) is rest after y =
      chooses _ (later (later (later (later (later first))))) (passes (shows (suits_keyword_at at word.Close) y))
  last_stands (fwd at x) is rest after y =
      chooses _ first (passes (shows (suits_keyword_at at word.Fwd) (shows (suits_name x) y)))
  last_stands (calling at f arguments) is rest after y =
      chooses _ (later first) (passes (shows (suits_keyword_at at word.Call) (shows (suits_name f)
      (args_stand arguments is _ _ y))))
  last_stands (code_if at test holds fails) is rest after y =
      chooses _ (later (later first)) (passes (shows (suits_keyword_at at word.If) (is_term_stands test is.0 _ _
      (braced_stands (print_code holds) (code_stands holds is.1) _ _ (shows (suits_keyword word.Else)
      (braced_stands (print_code fails) (code_stands fails is.2) _ _ y))))))
  last_stands (case at x no_arms) is rest after y = absurd is.0
  last_stands (case at x (arm l goes arms)) is rest after y =
      chooses _ (later (later (later first))) (passes (shows (suits_keyword_at at word.Case) (chan_stands x _ _
      (shows (suits_sign sym.OpenBrace) (arms_parted _ _ (each_arm (arm l goes arms) is.1) _ _
      (shows (suits_sign sym.CloseBrace) y))))))
  last_stands (code_match at w empty head tail more) is rest after y =
      chooses _ (later (later (later (later first))))
      (passes (shows (suits_keyword_at at word.Match) (shows (suits_name w)
      (shows (suits_sign sym.OpenBrace) (passes (shows (suits_keyword word.Nil) (shows (suits_sign sym.FatArrow)
      (code_stands empty is.0 _ _ (passes (shows (suits_sign sym.Bar) (passes (heading_stands head tail _ _
      (code_stands more is.1 _ _ (passes (shows (suits_sign sym.CloseBrace) y)))))))))))))))

  pub each_arm : (arms : ArmTrees) → AreArms arms → Each (StandsFor (the the_production.Branch)) (print_arms arms)
  each_arm no_arms are = tt
  each_arm (arm l goes arms) are = (arm_stands l (print_code goes) (code_stands goes are.0), each_arm arms are.1)

-- declarations

-- what stands behind the `:` of a value parameter
unfoldable pub kind_stands : (lists : List ℕ) (at : ℕ) (b : Base) →
    StandsFor (the the_production.ParameterKind) (print_lists lists (keyword_at at (base_word b)))
kind_stands [] at base.Int rest after y =
    chooses _ (later first) (passes (passes (shows (suits_keyword_at at word.Int) (passes y))))
kind_stands [] at base.Bool rest after y =
    chooses _ (later (later first)) (passes (passes (shows (suits_keyword_at at word.Bool) (passes y))))
kind_stands (l ∷ lists) at b rest after y =
    chooses _ first (passes (shows (suits_keyword_at l word.List) (chooses _ (later first) (passes
    (lists_stand lists at b _ _ (passes y))))))

unfoldable pub list_potential_stands : (l : Option ListPotential) (t : ValueType) →
    StandsFor (the the_production.ParameterKind) (λ after. print_list_potential l (print_value_type t after))
list_potential_stands None t = kind_stands t.lists t.base_at t.base
list_potential_stands (Some l) t = λ rest after y.
    chooses _ first (passes (shows (suits_keyword_at l.list_at word.List) (chooses _ first
    (potential_stands l.potential _ _ (value_type_stands t _ _ y)))))

unfoldable pub par_stands : (p : ProcessPar) → StandsFor (the the_production.ValueParameter) (print_par p)
par_stands p rest after y =
    chooses _ first (shows (suits_name p.name)
    (shows (suits_sign sym.Colon) (list_potential_stands p.«list» p.value _ _ y)))

unfoldable pub value_par_stands : (p : ValuePar) → StandsFor (the the_production.FunctionParameter) (print_value_par p)
value_par_stands p rest after y =
    chooses _ first (shows (suits_name p.name) (shows (suits_sign sym.Colon) (value_type_stands p.value _ _ y)))

unfoldable pub chan_par_stands : (p : ChanParTree) → IsChanPar p →
    StandsFor (the the_production.ChannelParameter) (print_chan_par p)
chan_par_stands p is rest after y =
    chooses _ first (shows (suits_name p.name) (shows (suits_sign sym.Colon) (type_stands is _ _ y)))

unfoldable pub pars_stand : (p : ParTrees) → ArePars p → StandsFor (the the_production.Parameters) (print_pars p)
pars_stand p are rest after y =
    chooses _ first (shows (suits_sign sym.OpenParen)
    (list_stand the_production.MoreValueParameters (the the_production.ValueParameter) sym.Comma first (later first)
    the_production.ValueParameters first (later first)
    (map print_par p.values)
    (each_mapped (StandsFor (the the_production.ValueParameter)) print_par par_stands p.values) _ _
    (shows (suits_sign sym.Semicolon)
    (list_stand the_production.MoreChannelParameters (the the_production.ChannelParameter) sym.Comma first (later first)
    the_production.ChannelParameters first (later first)
    (map print_chan_par p.channels)
    (each_kept IsChanPar (StandsFor (the the_production.ChannelParameter)) print_chan_par chan_par_stands p.channels
    are) _ _
    (shows (suits_sign sym.CloseParen) y)))))

unfoldable pub value_pars_stand : (pars : List ValuePar) →
    StandsFor (the the_production.FunctionParameters) (print_parted sym.Comma (map print_value_par pars))
value_pars_stand pars =
    list_stand the_production.MoreFunctionParameters (the the_production.FunctionParameter) sym.Comma first
    (later first)
    the_production.FunctionParameters first (later first)
    (map print_value_par pars)
    (each_mapped (StandsFor (the the_production.FunctionParameter)) print_value_par value_par_stands pars)

unfoldable pub mode_stands : (m : OfferedMode) →
    StandsFor (the the_production.DefinitionMode) (λ after. keyword (mode_word m) ∷ after)
mode_stands mode.R rest after y = chooses _ first (shows (suits_keyword word.R) y)
mode_stands mode.S rest after y = chooses _ (later first) (shows (suits_keyword word.S) y)
mode_stands mode.L rest after y = chooses _ (later (later first)) (shows (suits_keyword word.L) y)

-- `=`, a code and `;`
unfoldable pub body_stands : (c : CodeTree) → IsCode c → (rest : List Part) (after : List Shown) → Yields rest after →
    Yields (sign_part sym.Equals ∷ the the_production.Code ∷ sign_part sym.Semicolon ∷ rest) (print_body c after)
body_stands c is rest after y =
    shows (suits_sign sym.Equals) (code_stands c is _ _ (shows (suits_sign sym.Semicolon) y))

unfoldable pub decl_stands : (d : DeclTree) → IsDecl d → StandsFor (the the_production.Declaration) (print_decl d)
decl_stands (definition at m n body) is rest after y =
    chooses _ first (passes (shows (suits_keyword_at at word.«Type») (mode_stands m _ _ (shows (suits_name n)
    (shows (suits_sign sym.Equals) (type_stands is _ _ (shows (suits_sign sym.Semicolon) y)))))))
decl_stands (function at n pars gives body) is rest after y =
    chooses _ (later first) (passes (shows (suits_keyword_at at word.Fn) (shows (suits_name n)
    (shows (suits_sign sym.OpenParen) (value_pars_stand pars _ _ (shows (suits_sign sym.CloseParen)
    (shows (suits_sign sym.Colon) (value_type_stands gives _ _ (shows (suits_sign sym.Equals)
    (is_term_stands body is _ _ (shows (suits_sign sym.Semicolon) y)))))))))))
decl_stands (process at m n pars q offers body) is rest after y =
    chooses _ (later (later first)) (passes (shows (suits_keyword_at at word.Proc) (chooses _ (later first)
    (mode_stands m _ _ (shows (suits_name n) (pars_stand pars is.0 _ _ (optional_stands q _ _
    (shows (suits_sign sym.Colon) (type_stands is.1 _ _ (body_stands body is.2 _ _ y))))))))))
decl_stands (transaction at n pars q body) is rest after y =
    chooses _ (later (later first)) (passes (shows (suits_keyword_at at word.Proc) (chooses _ first
    (shows (suits_keyword word.T) (shows (suits_name n) (pars_stand pars is.0 _ _ (optional_stands q _ _
    (body_stands body is.1 _ _ y))))))))

unfoldable pub decls_stand : (ds : List DeclTree) → Each IsDecl ds →
    StandsFor (the the_production.Declarations) (print_decls ds)
decls_stand [] each rest after y = chooses [] (later first) y
decls_stand (d ∷ ds) each rest after y = chooses _ first (decl_stands d each.0 _ _ (decls_stand ds each.1 _ _ y))

-- files

unfoldable pub model_stands : (m : CostModel) →
    StandsFor (the the_production.CostModel) (λ after. keyword (cost_word m) ∷ after)
model_stands cost.Ticks rest after y = chooses _ first (shows (suits_keyword word.Ticks) y)
model_stands cost.Sends rest after y = chooses _ (later first) (shows (suits_keyword word.Sends) y)
model_stands cost.All rest after y = chooses _ (later (later first)) (shows (suits_keyword word.All) y)

unfoldable pub file_stand : (c : Option CostLine) (ds : List DeclTree) → Each IsDecl ds →
    Yields file (print_cost c (print_decls ds []))
file_stand None [] each = chooses [] (later (later first)) ends
file_stand None (d ∷ ds) each =
    chooses _ (later first) (decl_stands d each.0 _ _ (decls_stand ds each.1 [] [] ends))
file_stand (Some c) ds each =
    chooses _ first (shows (suits_keyword_at c.at word.Cost) (model_stands c.model _ _
    (shows (suits_sign sym.Semicolon) (decls_stand ds each [] [] ends))))

-- the grammar derives what a tree that stands for a text prints
unfoldable pub file_yields : (f : FileTree) → IsGrammatical f → Yields file (print_file f)
file_yields f is = file_stand f.cost f.decls is

-- So tokens that a tree prints are a file of the grammar.
pub printed-is-file : (f : FileTree) → IsGrammatical f → (tokens : List Placed) → Spells (print_file f) tokens
    → IsFile tokens
printed-is-file f is tokens spelled = yields-derives (file_yields f is) tokens spelled
