-- Which trees stand for texts. What is printed of a part has to be one of the production that stands in its place. So
-- operators are grouped as the grammar groups them, and no choice and no `case` is empty.
use Rattle.std.specs.Prelude.{ℕ, Bool, List, [], ◌∷◌}
use Rattle.nomos_grammar.specs.declared.part.Nonterminal.{Nonterminal}
use Rattle.nomos_grammar.specs.declared.part.Nonterminal.TheVariants.{SessionType, Atom, Term, Disjunction, Conjunction, Negation, Comparison, ListTerm, Sum, Product, Primary}
use Rattle.nomos_surface.specs.declared.name_at.NameAt.{NameAt}
use Rattle.nomos_surface.specs.declared.potential.Potential.{Potential}
use Rattle.nomos_surface.specs.declared.terms.Operator.TheVariants as operator
use Rattle.nomos_surface.specs.declared.types.Sender.{Sender}
use Rattle.nomos_surface.specs.declared.value_type.ValueType.{ValueType}
use Rattle.nomos_surface.specs.Tree.{TypeTree, one, named, choice, channel, valued, paying, going_up, going_down, grouped, BranchTrees, no_branches, branch, TermTree, number, truth, me, variable, application, no_items, binary, negation, choosing, matching, parenthesized, TermTrees, no_terms, term, ArgTrees, StepTree, label, send, recv, put, taking, pay, getting, work, wait, accept, detach, acquire, release, spawn, binding, empty_list, longer_list, emit, CodeTree, code, LastTree, close, fwd, calling, code_if, case, code_match, ArmTrees, no_arms, arm, ChanParTree, ParTrees, DeclTree, definition, function, process, transaction, FileTree}

-- each of these is such
abbrev pub Each : {X : Type 0} → (X → Type 0) → List X → Type 0
Each P [] = Unit {0}
Each P (x ∷ xs) = P x × Each P xs

-- the type is one of this production
mutual
  pub data IsType : Nonterminal → TypeTree → Type 0 where
    is_up : {at : ℕ} {goes : TypeTree} → IsType SessionType goes → IsType SessionType (going_up at goes)
    is_down : {at : ℕ} {goes : TypeTree} → IsType SessionType goes → IsType SessionType (going_down at goes)
    is_paying : {s : Sender} {at : ℕ} {q : Potential} {goes : TypeTree} →
        IsType SessionType goes → IsType SessionType (paying s at q goes)
    is_valued : {s : Sender} {at : ℕ} {value : ValueType} {goes : TypeTree} →
        IsType SessionType goes → IsType SessionType (valued s at value goes)
    is_channel : {s : Sender} {at : ℕ} {carried goes : TypeTree} →
        IsType Atom carried → IsType SessionType goes → IsType SessionType (channel s at carried goes)
    is_atom : {t : TypeTree} → IsType Atom t → IsType SessionType t
    is_one : {at : ℕ} → IsType Atom (one at)
    is_named : {n : NameAt} → IsType Atom (named n)
    is_choice : {s : Sender} {at : ℕ} {branches : BranchTrees} → AreBranches branches
        → IsType Atom (choice s at branches)
    is_grouped : {inner : TypeTree} → IsType SessionType inner → IsType Atom (grouped inner)

  -- one branch or more
  pub data AreBranches : BranchTrees → Type 0 where
    last_branch : {l : NameAt} {goes : TypeTree} → IsType SessionType goes → AreBranches (branch l goes no_branches)
    more_branches : {l : NameAt} {goes : TypeTree} {branches : BranchTrees} →
        IsType SessionType goes → AreBranches branches → AreBranches (branch l goes branches)

-- the term is one of this production
mutual
  pub data IsTerm : Nonterminal → TermTree → Type 0 where
    is_choosing : {at : ℕ} {test holds fails : TermTree} →
        IsTerm Term test → IsTerm Term holds → IsTerm Term fails → IsTerm Term (choosing at test holds fails)
    is_matching : {at : ℕ} {matched empty : TermTree} {head tail : NameAt} {more : TermTree} →
        IsTerm Term matched → IsTerm Term empty → IsTerm Term more →
        IsTerm Term (matching at matched empty head tail more)
    is_disjunction : {t : TermTree} → IsTerm Disjunction t → IsTerm Term t
    is_or : {at : ℕ} {left right : TermTree} →
        IsTerm Disjunction left → IsTerm Conjunction right → IsTerm Disjunction (binary operator.Or at left right)
    is_conjunction : {t : TermTree} → IsTerm Conjunction t → IsTerm Disjunction t
    is_and : {at : ℕ} {left right : TermTree} →
        IsTerm Conjunction left → IsTerm Negation right → IsTerm Conjunction (binary operator.And at left right)
    is_negation : {t : TermTree} → IsTerm Negation t → IsTerm Conjunction t
    is_not : {at : ℕ} {inner : TermTree} → IsTerm Negation inner → IsTerm Negation (negation at inner)
    is_comparison : {t : TermTree} → IsTerm Comparison t → IsTerm Negation t
    is_less : {at : ℕ} {left right : TermTree} →
        IsTerm ListTerm left → IsTerm ListTerm right → IsTerm Comparison (binary operator.Less at left right)
    is_equal : {at : ℕ} {left right : TermTree} →
        IsTerm ListTerm left → IsTerm ListTerm right → IsTerm Comparison (binary operator.Equal at left right)
    is_list_term : {t : TermTree} → IsTerm ListTerm t → IsTerm Comparison t
    is_cons : {at : ℕ} {left right : TermTree} →
        IsTerm Sum left → IsTerm ListTerm right → IsTerm ListTerm (binary operator.Cons at left right)
    is_sum : {t : TermTree} → IsTerm Sum t → IsTerm ListTerm t
    is_add : {at : ℕ} {left right : TermTree} →
        IsTerm Sum left → IsTerm Product right → IsTerm Sum (binary operator.Add at left right)
    is_sub : {at : ℕ} {left right : TermTree} →
        IsTerm Sum left → IsTerm Product right → IsTerm Sum (binary operator.Sub at left right)
    is_product : {t : TermTree} → IsTerm Product t → IsTerm Sum t
    is_mul : {at : ℕ} {left right : TermTree} →
        IsTerm Product left → IsTerm Primary right → IsTerm Product (binary operator.Mul at left right)
    is_div : {at : ℕ} {left right : TermTree} →
        IsTerm Product left → IsTerm Primary right → IsTerm Product (binary operator.Div at left right)
    is_rem : {at : ℕ} {left right : TermTree} →
        IsTerm Product left → IsTerm Primary right → IsTerm Product (binary operator.Rem at left right)
    is_primary : {t : TermTree} → IsTerm Primary t → IsTerm Product t
    is_number : {at value : ℕ} → IsTerm Primary (number at value)
    is_truth : {at : ℕ} {value : Bool} → IsTerm Primary (truth at value)
    is_me : {at : ℕ} → IsTerm Primary (me at)
    is_variable : {n : NameAt} → IsTerm Primary (variable n)
    is_application : {f : NameAt} {arguments : TermTrees} → AreTerms arguments
        → IsTerm Primary (application f arguments)
    is_no_items : {at : ℕ} {element : ValueType} → IsTerm Primary (no_items at element)
    is_parenthesized : {inner : TermTree} → IsTerm Term inner → IsTerm Primary (parenthesized inner)

  pub data AreTerms : TermTrees → Type 0 where
    are_none : AreTerms no_terms
    are_more : {first : TermTree} {rest : TermTrees} → IsTerm Term first → AreTerms rest → AreTerms (term first rest)

-- Each value argument of a call or a spawn is a whole term of the grammar.
abbrev pub AreArguments : ArgTrees → Type 0
AreArguments a = Each (IsTerm Term) a.values

-- A step stands for a text where each term in it is a whole term of the grammar.
abbrev pub IsStep : StepTree → Type 0
IsStep (label x l) = Unit {0}
IsStep (send at x y) = Unit {0}
IsStep (recv at x y) = Unit {0}
IsStep (put at x e) = IsTerm Term e
IsStep (taking at x v) = Unit {0}
IsStep (pay at x q) = Unit {0}
IsStep (getting at x q) = Unit {0}
IsStep (work at q) = Unit {0}
IsStep (wait at x) = Unit {0}
IsStep (accept at) = Unit {0}
IsStep (detach at) = Unit {0}
IsStep (acquire at a x) = Unit {0}
IsStep (release at x a) = Unit {0}
IsStep (spawn at x f arguments) = AreArguments arguments
IsStep (binding at v e) = IsTerm Term e
IsStep (empty_list at v list_at q t) = Unit {0}
IsStep (longer_list at v e w) = IsTerm Term e
IsStep (emit at e) = IsTerm Term e

-- there is one arm or more
abbrev pub HasArms : ArmTrees → Type 0
HasArms no_arms = ⊥
HasArms (arm l goes arms) = Unit {0}

abbrev mutual
  pub IsCode : CodeTree → Type 0
  IsCode (code steps last) = Each IsStep steps × IsLast last

  pub IsLast : LastTree → Type 0
  IsLast (close at) = Unit {0}
  IsLast (fwd at x) = Unit {0}
  IsLast (calling at f arguments) = AreArguments arguments
  IsLast (code_if at test holds fails) = IsTerm Term test × IsCode holds × IsCode fails
  IsLast (case at x arms) = HasArms arms × AreArms arms
  IsLast (code_match at w empty head tail more) = IsCode empty × IsCode more

  pub AreArms : ArmTrees → Type 0
  AreArms no_arms = Unit {0}
  AreArms (arm l goes arms) = IsCode goes × AreArms arms

-- A channel parameter stands for a text where its session type is one of the grammar.
abbrev pub IsChanPar : ChanParTree → Type 0
IsChanPar p = IsType SessionType p.goes

-- Parameters stand for a text where those that are channels do.
abbrev pub ArePars : ParTrees → Type 0
ArePars p = Each IsChanPar p.channels

-- A declaration stands for a text where its types, terms and code are of the grammar.
abbrev pub IsDecl : DeclTree → Type 0
IsDecl (definition at m n body) = IsType SessionType body
IsDecl (function at n pars gives body) = IsTerm Term body
IsDecl (process at m n pars q offers body) = ArePars pars × IsType SessionType offers × IsCode body
IsDecl (transaction at n pars q body) = ArePars pars × IsCode body

-- the tree stands for a text
abbrev pub IsGrammatical : FileTree → Type 0
IsGrammatical f = Each IsDecl f.decls
