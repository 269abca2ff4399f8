-- What productions of potentials and types make of tokens is what their trees print.
use Rattle.std.proofs.Common.{ℕ, List, [], ◌∷◌, Option, Some, None}
use Rattle.nomos_grammar.specs.declared.part.Nonterminal.{Nonterminal}
use Rattle.nomos_grammar.specs.declared.part.Nonterminal.TheVariants as the_production
use Rattle.nomos_grammar.specs.Producing.{first, later}
use Rattle.nomos_grammar.specs.Grammar.{the}
use Rattle.nomos_ir.specs.declared.kind.Base.TheVariants as base
use Rattle.nomos_ir.specs.declared.word.Word.TheVariants as word
use Rattle.nomos_surface.specs.declared.name_at.NameAt.{NameAt}
use Rattle.nomos_surface.specs.declared.potential.Potential.{Potential}
use Rattle.nomos_surface.specs.declared.potential.Quantity.{Quantity}
use Rattle.nomos_surface.specs.declared.potential.Quantity.TheVariants as quantity
use Rattle.nomos_surface.specs.declared.types.Sender.{Sender}
use Rattle.nomos_surface.specs.declared.types.Sender.TheVariants as sender
use Rattle.nomos_surface.specs.declared.value_type.ValueType.{ValueType}
use Rattle.nomos_syntax.specs.declared.symbol.Symbol.TheVariants as sym
use Rattle.nomos_syntax.specs.Lexeme.{Placed}
use Rattle.nomos_surface.specs.Printed.{Shown, Printer, Spells, sign, sign_at, print_name, print_more, print_parted}
use Rattle.nomos_surface.specs.Print.{print_quantity, print_potential, print_optional, print_value_type, value_sign, print_type, print_branches}
use Rattle.nomos_surface.specs.Grammatical.{IsType, is_up, is_down, is_paying, is_valued, is_channel, is_atom, is_one, is_named, is_choice, is_grouped, AreBranches, last_branch, more_branches}
use Rattle.nomos_surface.specs.Tree.{TypeTree, one, named, choice, channel, valued, paying, going_up, going_down, grouped, BranchTrees, no_branches, branch}
use Rattle.nomos_surface.proofs.Fitting.{meets_sign, meets_sign_at, meets_keyword_at, name_of, meets_name, meets_one, value_of, meets_number}
use Rattle.nomos_surface.proofs.Makes.{Makes, made_token, made_mark, made, made_none, made_more}

-- the tokens up to the others are what is printed
abbrev pub Reads : Printer → List Placed → List Placed → Type 0
Reads printer tokens others = (after : List Shown) → Spells after others → Spells (printer after) tokens

-- the tokens up to the others are what a tree of this kind prints
pub record Printed (T : Type 0) (Is : T → Type 0) (print : T → Printer) (tokens others : List Placed) : Type 0 where
  pub tree : T
  pub is : Is tree
  pub reads : Reads (print tree) tokens others

-- nothing is asked of a tree
abbrev pub Any : {T : Type 0} → T → Type 0
Any t = Unit {0}

-- potentials

abbrev pub AmountAt : Type 0
AmountAt = ℕ × Quantity

abbrev pub print_amount : AmountAt → Printer
print_amount a after = print_quantity a.0 a.1 ∷ after

amount_made : {ts us : List Placed} → Makes (the the_production.Amount) ts us → Printed AmountAt Any print_amount ts us
amount_made (made _ first (made_more made_mark (made_more (made_token {x} f) made_none))) =
    record { tree = (x.at, quantity.Star); is = tt; reads = λ after h. (meets_sign_at sym.Star x f, h) }
amount_made (made _ (later first) (made_more (made_token {x} f) made_none)) =
    record { tree = (x.at, quantity.Number (value_of x f)); is = tt; reads = λ after h. (meets_number x f, h) }
amount_made (made _ (later (later gap)) _) = elim gap [ ]

pub potential_made : {ts us : List Placed} → Makes (the the_production.Potential) ts us
    → Printed Potential Any print_potential ts us
potential_made (made _ first (made_more (made_token {x} f)
    (made_more amount (made_more (made_token {x = y} g) made_none)))) =
    let a = amount_made amount in
    record {
      tree = record { at = x.at; quantity = a.tree.1; quantity_at = a.tree.0 };
      is = tt;
      reads =
          λ after h. (
            meets_sign_at sym.OpenBrace x f,
            a.reads (sign sym.CloseBrace ∷ after) (meets_sign sym.CloseBrace y g, h),
          );
    }
potential_made (made _ (later gap) _) = elim gap [ ]

pub optional_made : {ts us : List Placed} → Makes (the the_production.OptionalPotential) ts us →
    Printed (Option Potential) Any print_optional ts us
optional_made (made _ first (made_more q made_none)) =
    let r = potential_made q in record { tree = Some r.tree; is = tt; reads = r.reads }
optional_made (made _ (later first) made_none) = record { tree = None; is = tt; reads = λ after h. h }
optional_made (made _ (later (later gap)) _) = elim gap [ ]

-- the types of values

pub value_type_made : {ts us : List Placed} → Makes (the the_production.ValueType) ts us
    → Printed ValueType Any print_value_type ts us
value_type_made (made _ first (made_more made_mark
    (made_more made_mark (made_more (made_token {x} f) (made_more inner (made_more made_mark made_none)))))) =
    let r = value_type_made inner in
    record {
      tree = record { lists = x.at ∷ r.tree.lists; base = r.tree.base; base_at = r.tree.base_at };
      is = tt;
      reads = λ after h. (meets_keyword_at word.List x f, r.reads after h);
    }
value_type_made (made _ (later first)
    (made_more made_mark (made_more made_mark (made_more (made_token {x} f) (made_more made_mark made_none))))) =
    record {
      tree = record { lists = []; base = base.Int; base_at = x.at };
      is = tt;
      reads = λ after h. (meets_keyword_at word.Int x f, h);
    }
value_type_made (made _ (later (later first))
    (made_more made_mark (made_more made_mark (made_more (made_token {x} f) (made_more made_mark made_none))))) =
    record {
      tree = record { lists = []; base = base.Bool; base_at = x.at };
      is = tt;
      reads = λ after h. (meets_keyword_at word.Bool x f, h);
    }
value_type_made (made _ (later (later (later gap))) _) = elim gap [ ]

-- types

abbrev pub IsSession : TypeTree → Type 0
IsSession t = IsType the_production.SessionType t

abbrev pub MadeType : Nonterminal → List Placed → List Placed → Type 0
MadeType n ts us = Printed TypeTree (IsType n) print_type ts us

abbrev pub SenderAt : Type 0
SenderAt = Sender × ℕ

arrow_made : {ts us : List Placed} → Makes (the the_production.ValueArrow) ts us →
    Printed SenderAt Any (λ s after. sign_at s.1 (value_sign s.0) ∷ after) ts us
arrow_made (made _ first (made_more made_mark (made_more (made_token {x} f) made_none))) =
    record { tree = (sender.Provider, x.at); is = tt; reads = λ after h. (meets_sign_at sym.Wedge x f, h) }
arrow_made (made _ (later first) (made_more made_mark (made_more (made_token {x} f) made_none))) =
    record { tree = (sender.Client, x.at); is = tt; reads = λ after h. (meets_sign_at sym.Arrow x f, h) }
arrow_made (made _ (later (later gap)) _) = elim gap [ ]

-- one branch or more
abbrev pub MadeBranches : List Placed → List Placed → Type 0
MadeBranches ts us = Printed BranchTrees AreBranches (λ branches. print_parted sym.Bar (print_branches branches)) ts us

-- branches that may be none, each behind a `|`
abbrev AreSome : BranchTrees → Type 0
AreSome no_branches = Unit {0}
AreSome (branch l goes branches) = AreBranches (branch l goes branches)

are_branches : (l : NameAt) (goes : TypeTree) (more : BranchTrees) → IsSession goes → AreSome more
    → AreBranches (branch l goes more)
are_branches l goes no_branches is some = last_branch is
are_branches l goes (branch m then_goes more) is some = more_branches is some

abbrev pub Labelled : Type 0
Labelled = NameAt × TypeTree

abbrev pub print_labelled : Labelled → Printer
print_labelled b after = print_name b.0 ∷ sign sym.Colon ∷ print_type b.1 after

mutual
  pub type_made : {ts us : List Placed} → Makes (the the_production.SessionType) ts us
      → MadeType the_production.SessionType ts us
  type_made (made _ first (made_more made_mark
      (made_more made_mark (made_more (made_token {x} f) (made_more goes (made_more made_mark made_none)))))) =
      let r = type_made goes in
      record {
        tree = going_up x.at r.tree;
        is = is_up r.is;
        reads = λ after h. (meets_keyword_at word.Up x f, r.reads after h);
      }
  type_made (made _ (later first)
      (made_more made_mark (made_more made_mark
      (made_more (made_token {x} f) (made_more goes (made_more made_mark made_none)))))) =
      let r = type_made goes in
      record {
        tree = going_down x.at r.tree;
        is = is_down r.is;
        reads = λ after h. (meets_keyword_at word.Down x f, r.reads after h);
      }
  type_made (made _ (later (later first))
      (made_more made_mark (made_more made_mark
      (made_more (made_token {x} f) (made_more potential
      (made_more (made_token {x = y} g) (made_more goes (made_more made_mark made_none)))))))) =
      let q = potential_made potential in
      let r = type_made goes in
      record {
        tree = paying sender.Provider x.at q.tree r.tree;
        is = is_paying r.is;
        reads =
            λ after h. (
              meets_sign_at sym.Bar x f,
              q.reads (sign sym.Greater ∷ print_type r.tree after) (meets_sign sym.Greater y g, r.reads after h),
            );
      }
  type_made (made _ (later (later (later first)))
      (made_more made_mark (made_more made_mark
      (made_more (made_token {x} f) (made_more potential
      (made_more (made_token {x = y} g) (made_more goes (made_more made_mark made_none)))))))) =
      let q = potential_made potential in
      let r = type_made goes in
      record {
        tree = paying sender.Client x.at q.tree r.tree;
        is = is_paying r.is;
        reads =
            λ after h. (
              meets_sign_at sym.Less x f,
              q.reads (sign sym.Bar ∷ print_type r.tree after) (meets_sign sym.Bar y g, r.reads after h),
            );
      }
  type_made (made _ (later (later (later (later first))))
      (made_more made_mark (made_more value (made_more arrow (made_more goes (made_more made_mark made_none)))))) =
      let v = value_type_made value in
      let a = arrow_made arrow in
      let r = type_made goes in
      record {
        tree = valued a.tree.0 a.tree.1 v.tree r.tree;
        is = is_valued r.is;
        reads = λ after h. v.reads _ (a.reads _ (r.reads after h));
      }
  type_made (made _ (later (later (later (later (later first)))))
      (made_more made_mark (made_more atom (made_more after_atom (made_more made_mark made_none))))) =
      let a = atom_made atom in
      carried_made a.tree a.is a.reads after_atom
  type_made (made _ (later (later (later (later (later (later gap)))))) _) = elim gap [ ]

  -- an atom, and what stands behind it
  carried_made : {ts us vs : List Placed} (t : TypeTree) → IsType the_production.Atom t → Reads (print_type t) ts us →
      Makes (the the_production.AfterAtom) us vs → MadeType the_production.SessionType ts vs
  carried_made t is reads (made _ first
      (made_more made_mark (made_more (made_token {x} f) (made_more goes made_none)))) =
      let r = type_made goes in
      record {
        tree = channel sender.Provider x.at t r.tree;
        is = is_channel is r.is;
        reads =
            λ after h. reads (sign_at x.at sym.Star ∷ print_type r.tree after)
            (meets_sign_at sym.Star x f, r.reads after h);
      }
  carried_made t is reads (made _ (later first)
      (made_more made_mark (made_more (made_token {x} f) (made_more goes made_none)))) =
      let r = type_made goes in
      record {
        tree = channel sender.Client x.at t r.tree;
        is = is_channel is r.is;
        reads =
            λ after h. reads (sign_at x.at sym.Lollipop ∷ print_type r.tree after)
            (meets_sign_at sym.Lollipop x f, r.reads after h);
      }
  carried_made t is reads (made _ (later (later first)) made_none) = record { tree = t; is = is_atom is; reads = reads }
  carried_made _ _ _ (made _ (later (later (later gap))) _) = elim gap [ ]

  atom_made : {ts us : List Placed} → Makes (the the_production.Atom) ts us → MadeType the_production.Atom ts us
  atom_made (made _ first (made_more (made_token {x} f)
      (made_more inner (made_more (made_token {x = y} g) made_none)))) =
      let r = type_made inner in
      record {
        tree = grouped r.tree;
        is = is_grouped r.is;
        reads =
            λ after h. (
              meets_sign sym.OpenParen x f,
              r.reads (sign sym.CloseParen ∷ after) (meets_sign sym.CloseParen y g, h),
            );
      }
  atom_made (made _ (later first)
      (made_more made_mark (made_more (made_token {x} f)
      (made_more (made_token {x = y} g) (made_more labels (made_more (made_token {x = z} k) made_none)))))) =
      let r = labels_made labels in
      record {
        tree = choice sender.Provider x.at r.tree;
        is = is_choice r.is;
        reads =
            λ after h. (
              meets_sign_at sym.Plus x f,
              (meets_sign sym.OpenBrace y g, r.reads (sign sym.CloseBrace ∷ after) (meets_sign sym.CloseBrace z k, h)),
            );
      }
  atom_made (made _ (later (later first))
      (made_more made_mark (made_more (made_token {x} f)
      (made_more (made_token {x = y} g) (made_more labels (made_more (made_token {x = z} k) made_none)))))) =
      let r = labels_made labels in
      record {
        tree = choice sender.Client x.at r.tree;
        is = is_choice r.is;
        reads =
            λ after h. (
              meets_sign_at sym.Ampersand x f,
              (meets_sign sym.OpenBrace y g, r.reads (sign sym.CloseBrace ∷ after) (meets_sign sym.CloseBrace z k, h)),
            );
      }
  atom_made (made _ (later (later (later first))) (made_more made_mark (made_more (made_token {x} f) made_none))) =
      record { tree = named (name_of x f); is = is_named; reads = λ after h. (meets_name x f, h) }
  atom_made (made _ (later (later (later (later first))))
      (made_more made_mark (made_more (made_token {x} f) made_none))) =
      record { tree = one x.at; is = is_one; reads = λ after h. (meets_one x f, h) }
  atom_made (made _ (later (later (later (later (later gap))))) _) = elim gap [ ]

  labels_made : {ts us : List Placed} → Makes (the the_production.Labels) ts us → MadeBranches ts us
  labels_made (made _ first (made_more labelled (made_more others made_none))) =
      let l = labelled_made labelled in
      let r = more_labels_made others in
      record {
        tree = branch l.tree.0 l.tree.1 r.tree;
        is = are_branches l.tree.0 l.tree.1 r.tree l.is r.is;
        reads = λ after h. l.reads _ (r.reads after h);
      }
  labels_made (made _ (later gap) _) = elim gap [ ]

  more_labels_made : {ts us : List Placed} → Makes (the the_production.MoreLabels) ts us →
      Printed BranchTrees AreSome (λ branches. print_more sym.Bar (print_branches branches)) ts us
  more_labels_made (made _ first (made_more (made_token {x} f) (made_more labelled (made_more others made_none)))) =
      let l = labelled_made labelled in
      let r = more_labels_made others in
      record {
        tree = branch l.tree.0 l.tree.1 r.tree;
        is = are_branches l.tree.0 l.tree.1 r.tree l.is r.is;
        reads = λ after h. (meets_sign sym.Bar x f, l.reads _ (r.reads after h));
      }
  more_labels_made (made _ (later first) made_none) = record { tree = no_branches; is = tt; reads = λ after h. h }
  more_labels_made (made _ (later (later gap)) _) = elim gap [ ]

  labelled_made : {ts us : List Placed} → Makes (the the_production.LabelledType) ts us →
      Printed Labelled (λ b. IsSession b.1) print_labelled ts us
  labelled_made (made _ first (made_more (made_token {x} f)
      (made_more (made_token {x = y} g) (made_more goes made_none)))) =
      let r = type_made goes in
      record {
        tree = (name_of x f, r.tree);
        is = r.is;
        reads = λ after h. (meets_name x f, (meets_sign sym.Colon y g, r.reads after h));
      }
  labelled_made (made _ (later gap) _) = elim gap [ ]
