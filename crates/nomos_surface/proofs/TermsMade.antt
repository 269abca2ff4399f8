-- What productions of terms make of tokens is what their trees print.
use Rattle.std.proofs.Common.{◌≡◌, true, false, List, [], ◌∷◌, map, refl, ap}
use Rattle.nomos_grammar.specs.declared.part.Nonterminal.{Nonterminal}
use Rattle.nomos_grammar.specs.declared.part.Nonterminal.TheVariants as the_production
use Rattle.nomos_grammar.specs.declared.part.Terminal.TheVariants as terminal
use Rattle.nomos_grammar.specs.Producing.{Fits, first, later}
use Rattle.nomos_grammar.specs.Grammar.{the}
use Rattle.nomos_ir.specs.declared.word.Word.TheVariants as word
use Rattle.nomos_surface.specs.declared.terms.Operator.TheVariants as operator
use Rattle.nomos_syntax.specs.declared.symbol.Symbol.TheVariants as sym
use Rattle.nomos_syntax.specs.Lexeme.{Placed}
use Rattle.nomos_surface.specs.Printed.{Printer, sign, sign_at, keyword, keyword_at, print_more, print_parted}
use Rattle.nomos_surface.specs.Print.{print_heading, print_term, print_terms}
use Rattle.nomos_surface.specs.Grammatical.{Each, IsTerm, is_choosing, is_matching, is_disjunction, is_or, is_conjunction, is_and, is_negation, is_not, is_comparison, is_less, is_equal, is_list_term, is_cons, is_sum, is_add, is_sub, is_product, is_mul, is_div, is_rem, is_primary, is_number, is_truth, is_me, is_variable, is_application, is_no_items, is_parenthesized, AreTerms, are_none, are_more}
use Rattle.nomos_surface.specs.Tree.{TermTree, number, truth, me, variable, application, no_items, binary, negation, choosing, matching, parenthesized}
use Rattle.nomos_surface.proofs.Fitting.{meets_sign, meets_sign_at, meets_keyword, meets_keyword_at, name_of, meets_name, value_of, meets_number}
use Rattle.nomos_surface.proofs.Makes.{Makes, made_token, made_mark, made, made_none, made_more}
use Rattle.nomos_surface.specs.TermView.{term_trees}
use Rattle.nomos_surface.proofs.TypesMade.{Reads, Printed, value_type_made}

-- terms

abbrev pub IsWhole : TermTree → Type 0
IsWhole t = IsTerm the_production.Term t

abbrev pub MadeTerm : Nonterminal → List Placed → List Placed → Type 0
MadeTerm n ts us = Printed TermTree (IsTerm n) print_term ts us

-- the arguments of a call are printed one for one
printed_terms : (ts : List TermTree) → print_terms (term_trees ts) ≡ map print_term ts
printed_terms [] = refl
printed_terms (t ∷ ts) = ap (λ (ps : List Printer). print_term t ∷ ps) (printed_terms ts)

are_terms : (ts : List TermTree) → Each IsWhole ts → AreTerms (term_trees ts)
are_terms [] each = are_none
are_terms (t ∷ ts) each = are_more each.0 (are_terms ts each.1)

abbrev pub print_arguments : List TermTree → Printer
print_arguments ts = print_parted sym.Comma (map print_term ts)

mutual
  pub term_made : {ts us : List Placed} → Makes (the the_production.Term) ts us → MadeTerm the_production.Term ts us
  term_made (made _ first (made_more made_mark
      (made_more made_mark (made_more (made_token {x} f)
      (made_more test (made_more (made_token {x = y} g)
      (made_more holds (made_more (made_token {x = z} k) (made_more fails (made_more made_mark made_none)))))))))) =
      let t = term_made test in
      let u = term_made holds in
      let v = term_made fails in
      record {
        tree = choosing x.at t.tree u.tree v.tree;
        is = is_choosing t.is u.is v.is;
        reads = λ after h. (
          meets_keyword_at word.If x f,
          t.reads (keyword word.Then ∷ print_term u.tree (keyword word.Else ∷ print_term v.tree after)) (
            meets_keyword word.Then y g,
            u.reads (keyword word.Else ∷ print_term v.tree after) (meets_keyword word.Else z k, v.reads after h),
          ),
        );
      }
  term_made (made _ (later first)
      (made_more made_mark (made_more made_mark
      (made_more (made_token {x} f) (made_more matched
      (made_more (made_token {x = x1} f1)
      (made_more (made_token {x = x2} f2)
      (made_more (made_token {x = x3} f3)
      (made_more empty (made_more (made_token {x = x4} f4)
      (made_more (made_token {x = x5} f5)
      (made_more (made_token {x = x6} f6)
      (made_more (made_token {x = x7} f7)
      (made_more (made_token {x = x8} f8)
      (made_more more (made_more (made_token {x = x9} f9) (made_more made_mark made_none))))))))))))))))) =
      let t = term_made matched in
      let u = term_made empty in
      let v = term_made more in
      record {
        tree = matching x.at t.tree u.tree (name_of x5 f5) (name_of x7 f7) v.tree;
        is = is_matching t.is u.is v.is;
        reads = λ after h. (
          meets_keyword_at word.Match x f,
          t.reads (sign sym.OpenBrace ∷ keyword word.Nil ∷ sign sym.FatArrow ∷
              print_term u.tree (sign sym.Bar ∷
              print_heading (name_of x5 f5) (name_of x7 f7) (print_term v.tree (sign sym.CloseBrace ∷ after)))) (
                meets_sign sym.OpenBrace x1 f1,
                (
                  meets_keyword word.Nil x2 f2,
                  (
                    meets_sign sym.FatArrow x3 f3,
                    u.reads (sign sym.Bar ∷ print_heading (name_of x5 f5) (name_of x7 f7)
                        (print_term v.tree (sign sym.CloseBrace ∷ after))) (
                          meets_sign sym.Bar x4 f4,
                          (
                            meets_name x5 f5,
                            (
                              meets_sign sym.DoubleColon x6 f6,
                              (
                                meets_name x7 f7,
                                (
                                  meets_sign sym.FatArrow x8 f8,
                                  v.reads (sign sym.CloseBrace ∷ after) (meets_sign sym.CloseBrace x9 f9, h),
                                ),
                              ),
                            ),
                          ),
                        ),
                  ),
                ),
              ),
        );
      }
  term_made (made _ (later (later first)) (made_more made_mark (made_more inner (made_more made_mark made_none)))) =
      let r = disjunction_made inner in record { tree = r.tree; is = is_disjunction r.is; reads = r.reads }
  term_made (made _ (later (later (later gap))) _) = elim gap [ ]

  disjunction_made : {ts us : List Placed} → Makes (the the_production.Disjunction) ts us
      → MadeTerm the_production.Disjunction ts us
  disjunction_made (made _ first (made_more inner (made_more others made_none))) =
      let r = conjunction_made inner in
      more_disjuncts_made r.tree (is_conjunction r.is) r.reads others
  disjunction_made (made _ (later gap) _) = elim gap [ ]

  -- a term, and the operators of its production that stand behind it
  more_disjuncts_made : {ts us vs : List Placed} (t : TermTree) → IsTerm the_production.Disjunction t
      → Reads (print_term t) ts us →
      Makes (the the_production.MoreDisjuncts) us vs → MadeTerm the_production.Disjunction ts vs
  more_disjuncts_made t is reads
      (made _ first (made_more made_mark
      (made_more (made_token {x} f) (made_more made_mark (made_more right (made_more others made_none)))))) =
      let r = conjunction_made right in
      more_disjuncts_made (binary operator.Or x.at t r.tree) (is_or is r.is)
      (λ after h. reads (keyword_at x.at word.Or ∷ print_term r.tree after)
      (meets_keyword_at word.Or x f, r.reads after h)) others
  more_disjuncts_made t is reads (made _ (later first) made_none) = record { tree = t; is = is; reads = reads }
  more_disjuncts_made _ _ _ (made _ (later (later gap)) _) = elim gap [ ]

  conjunction_made : {ts us : List Placed} → Makes (the the_production.Conjunction) ts us
      → MadeTerm the_production.Conjunction ts us
  conjunction_made (made _ first (made_more inner (made_more others made_none))) =
      let r = negation_made inner in
      more_conjuncts_made r.tree (is_negation r.is) r.reads others
  conjunction_made (made _ (later gap) _) = elim gap [ ]

  more_conjuncts_made : {ts us vs : List Placed} (t : TermTree) → IsTerm the_production.Conjunction t
      → Reads (print_term t) ts us →
      Makes (the the_production.MoreConjuncts) us vs → MadeTerm the_production.Conjunction ts vs
  more_conjuncts_made t is reads
      (made _ first (made_more made_mark
      (made_more (made_token {x} f) (made_more made_mark (made_more right (made_more others made_none)))))) =
      let r = negation_made right in
      more_conjuncts_made (binary operator.And x.at t r.tree) (is_and is r.is)
      (λ after h. reads (keyword_at x.at word.And ∷ print_term r.tree after)
      (meets_keyword_at word.And x f, r.reads after h)) others
  more_conjuncts_made t is reads (made _ (later first) made_none) = record { tree = t; is = is; reads = reads }
  more_conjuncts_made _ _ _ (made _ (later (later gap)) _) = elim gap [ ]

  negation_made : {ts us : List Placed} → Makes (the the_production.Negation) ts us
      → MadeTerm the_production.Negation ts us
  negation_made (made _ first (made_more made_mark
      (made_more made_mark (made_more (made_token {x} f) (made_more inner (made_more made_mark made_none)))))) =
      let r = negation_made inner in
      record {
        tree = negation x.at r.tree;
        is = is_not r.is;
        reads = λ after h. (meets_keyword_at word.Not x f, r.reads after h);
      }
  negation_made (made _ (later first) (made_more made_mark (made_more inner (made_more made_mark made_none)))) =
      let r = comparison_made inner in record { tree = r.tree; is = is_comparison r.is; reads = r.reads }
  negation_made (made _ (later (later gap)) _) = elim gap [ ]

  comparison_made : {ts us : List Placed} → Makes (the the_production.Comparison) ts us
      → MadeTerm the_production.Comparison ts us
  comparison_made (made _ first (made_more inner (made_more others made_none))) =
      let r = list_term_made inner in
      more_comparison_made r.tree r.is r.reads others
  comparison_made (made _ (later gap) _) = elim gap [ ]

  more_comparison_made : {ts us vs : List Placed} (t : TermTree) → IsTerm the_production.ListTerm t
      → Reads (print_term t) ts us →
      Makes (the the_production.MoreComparison) us vs → MadeTerm the_production.Comparison ts vs
  more_comparison_made t is reads
      (made _ first (made_more made_mark
      (made_more (made_token {x} f) (made_more made_mark (made_more right made_none))))) =
      let r = list_term_made right in
      record {
        tree = binary operator.Less x.at t r.tree;
        is = is_less is r.is;
        reads =
            λ after h. reads (sign_at x.at sym.Less ∷ print_term r.tree after)
            (meets_sign_at sym.Less x f, r.reads after h);
      }
  more_comparison_made t is reads
      (made _ (later first) (made_more made_mark
      (made_more (made_token {x} f) (made_more made_mark (made_more right made_none))))) =
      let r = list_term_made right in
      record {
        tree = binary operator.Equal x.at t r.tree;
        is = is_equal is r.is;
        reads =
            λ after h. reads (sign_at x.at sym.Equals ∷ print_term r.tree after)
            (meets_sign_at sym.Equals x f, r.reads after h);
      }
  more_comparison_made t is reads (made _ (later (later first)) made_none) =
      record { tree = t; is = is_list_term is; reads = reads }
  more_comparison_made _ _ _ (made _ (later (later (later gap))) _) = elim gap [ ]

  list_term_made : {ts us : List Placed} → Makes (the the_production.ListTerm) ts us
      → MadeTerm the_production.ListTerm ts us
  list_term_made (made _ first (made_more inner (made_more others made_none))) =
      let r = sum_made inner in
      more_list_term_made r.tree r.is r.reads others
  list_term_made (made _ (later gap) _) = elim gap [ ]

  more_list_term_made : {ts us vs : List Placed} (t : TermTree) → IsTerm the_production.Sum t
      → Reads (print_term t) ts us →
      Makes (the the_production.MoreListTerm) us vs → MadeTerm the_production.ListTerm ts vs
  more_list_term_made t is reads
      (made _ first (made_more made_mark
      (made_more (made_token {x} f) (made_more made_mark (made_more right made_none))))) =
      let r = list_term_made right in
      record {
        tree = binary operator.Cons x.at t r.tree;
        is = is_cons is r.is;
        reads =
            λ after h. reads (sign_at x.at sym.DoubleColon ∷ print_term r.tree after)
            (meets_sign_at sym.DoubleColon x f, r.reads after h);
      }
  more_list_term_made t is reads (made _ (later first) made_none) = record { tree = t; is = is_sum is; reads = reads }
  more_list_term_made _ _ _ (made _ (later (later gap)) _) = elim gap [ ]

  sum_made : {ts us : List Placed} → Makes (the the_production.Sum) ts us → MadeTerm the_production.Sum ts us
  sum_made (made _ first (made_more inner (made_more others made_none))) =
      let r = product_made inner in
      more_summands_made r.tree (is_product r.is) r.reads others
  sum_made (made _ (later gap) _) = elim gap [ ]

  more_summands_made : {ts us vs : List Placed} (t : TermTree) → IsTerm the_production.Sum t
      → Reads (print_term t) ts us →
      Makes (the the_production.MoreSummands) us vs → MadeTerm the_production.Sum ts vs
  more_summands_made t is reads (made _ first
      (made_more made_mark (made_more (made_token {x} f)
      (made_more made_mark (made_more right (made_more others made_none)))))) =
      let r = product_made right in
      more_summands_made (binary operator.Add x.at t r.tree) (is_add is r.is)
      (λ after h. reads (sign_at x.at sym.Plus ∷ print_term r.tree after) (meets_sign_at sym.Plus x f, r.reads after h))
      others
  more_summands_made t is reads (made _ (later first)
      (made_more made_mark (made_more (made_token {x} f)
      (made_more made_mark (made_more right (made_more others made_none)))))) =
      let r = product_made right in
      more_summands_made (binary operator.Sub x.at t r.tree) (is_sub is r.is)
      (λ after h. reads (sign_at x.at sym.Minus ∷ print_term r.tree after)
      (meets_sign_at sym.Minus x f, r.reads after h)) others
  more_summands_made t is reads (made _ (later (later first)) made_none) = record { tree = t; is = is; reads = reads }
  more_summands_made _ _ _ (made _ (later (later (later gap))) _) = elim gap [ ]

  product_made : {ts us : List Placed} → Makes (the the_production.Product) ts us
      → MadeTerm the_production.Product ts us
  product_made (made _ first (made_more inner (made_more others made_none))) =
      let r = primary_made inner in
      more_factors_made r.tree (is_primary r.is) r.reads others
  product_made (made _ (later gap) _) = elim gap [ ]

  more_factors_made : {ts us vs : List Placed} (t : TermTree) → IsTerm the_production.Product t
      → Reads (print_term t) ts us →
      Makes (the the_production.MoreFactors) us vs → MadeTerm the_production.Product ts vs
  more_factors_made t is reads (made _ first
      (made_more made_mark (made_more (made_token {x} f)
      (made_more made_mark (made_more right (made_more others made_none)))))) =
      let r = primary_made right in
      more_factors_made (binary operator.Mul x.at t r.tree) (is_mul is r.is)
      (λ after h. reads (sign_at x.at sym.Star ∷ print_term r.tree after) (meets_sign_at sym.Star x f, r.reads after h))
      others
  more_factors_made t is reads (made _ (later first)
      (made_more made_mark (made_more (made_token {x} f)
      (made_more made_mark (made_more right (made_more others made_none)))))) =
      let r = primary_made right in
      more_factors_made (binary operator.Div x.at t r.tree) (is_div is r.is)
      (λ after h. reads (sign_at x.at sym.Slash ∷ print_term r.tree after)
      (meets_sign_at sym.Slash x f, r.reads after h)) others
  more_factors_made t is reads (made _ (later (later first))
      (made_more made_mark (made_more (made_token {x} f)
      (made_more made_mark (made_more right (made_more others made_none)))))) =
      let r = primary_made right in
      more_factors_made (binary operator.Rem x.at t r.tree) (is_rem is r.is)
      (λ after h. reads (sign_at x.at sym.Percent ∷ print_term r.tree after)
      (meets_sign_at sym.Percent x f, r.reads after h)) others
  more_factors_made t is reads (made _ (later (later (later first))) made_none) =
      record { tree = t; is = is; reads = reads }
  more_factors_made _ _ _ (made _ (later (later (later (later gap)))) _) = elim gap [ ]

  primary_made : {ts us : List Placed} → Makes (the the_production.Primary) ts us
      → MadeTerm the_production.Primary ts us
  primary_made (made _ first (made_more made_mark (made_more (made_token {x} f) (made_more arguments made_none)))) =
      call_made x f arguments
  primary_made (made _ (later first)
      (made_more made_mark (made_more (made_token {x} f) (made_more element made_none)))) =
      let r = value_type_made element in
      record {
        tree = no_items x.at r.tree;
        is = is_no_items;
        reads = λ after h. (meets_keyword_at word.Nil x f, r.reads after h);
      }
  primary_made (made _ (later (later first))
      (made_more (made_token {x} f) (made_more inner (made_more (made_token {x = y} g) made_none)))) =
      let r = term_made inner in
      record {
        tree = parenthesized r.tree;
        is = is_parenthesized r.is;
        reads =
            λ after h. (
              meets_sign sym.OpenParen x f,
              r.reads (sign sym.CloseParen ∷ after) (meets_sign sym.CloseParen y g, h),
            );
      }
  primary_made (made _ (later (later (later first))) (made_more made_mark (made_more (made_token {x} f) made_none))) =
      record { tree = truth x.at true; is = is_truth; reads = λ after h. (meets_keyword_at word.True x f, h) }
  primary_made (made _ (later (later (later (later first))))
      (made_more made_mark (made_more (made_token {x} f) made_none))) =
      record { tree = truth x.at false; is = is_truth; reads = λ after h. (meets_keyword_at word.False x f, h) }
  primary_made (made _ (later (later (later (later (later first)))))
      (made_more made_mark (made_more (made_token {x} f) made_none))) =
      record { tree = me x.at; is = is_me; reads = λ after h. (meets_keyword_at word.Me x f, h) }
  primary_made (made _ (later (later (later (later (later (later first))))))
      (made_more made_mark (made_more (made_token {x} f) made_none))) =
      record { tree = number x.at (value_of x f); is = is_number; reads = λ after h. (meets_number x f, h) }
  primary_made (made _ (later (later (later (later (later (later (later gap))))))) _) = elim gap [ ]

  -- a name, and the arguments behind it where it is called
  call_made : {ts us : List Placed} (x : Placed) (f : Fits terminal.Name x.lexeme)
      → Makes (the the_production.CallArguments) ts us →
      MadeTerm the_production.Primary (x ∷ ts) us
  call_made x f (made _ first (made_more (made_token {x = y} g)
      (made_more arguments (made_more (made_token {x = z} k) made_none)))) =
      let r = arguments_made arguments in
      record {
        tree = application (name_of x f) (term_trees r.tree);
        is = is_application (are_terms r.tree r.is);
        reads = λ after h. (
          meets_name x f,
          (
            meets_sign sym.OpenParen y g,
            rw (printed_terms r.tree) (r.reads (sign sym.CloseParen ∷ after) (meets_sign sym.CloseParen z k, h)),
          ),
        );
      }
  call_made x f (made _ (later first) made_none) =
      record { tree = variable (name_of x f); is = is_variable; reads = λ after h. (meets_name x f, h) }
  call_made _ _ (made _ (later (later gap)) _) = elim gap [ ]

  pub arguments_made : {ts us : List Placed} → Makes (the the_production.ValueArguments) ts us →
      Printed (List TermTree) (Each IsWhole) print_arguments ts us
  arguments_made (made _ first (made_more argument (made_more others made_none))) =
      let t = term_made argument in
      let r = more_arguments_made others in
      record { tree = t.tree ∷ r.tree; is = (t.is, r.is); reads = λ after h. t.reads _ (r.reads after h) }
  arguments_made (made _ (later first) made_none) = record { tree = []; is = tt; reads = λ after h. h }
  arguments_made (made _ (later (later gap)) _) = elim gap [ ]

  more_arguments_made : {ts us : List Placed} → Makes (the the_production.MoreValueArguments) ts us →
      Printed (List TermTree) (Each IsWhole) (λ terms. print_more sym.Comma (map print_term terms)) ts us
  more_arguments_made (made _ first (made_more (made_token {x} f) (made_more argument (made_more others made_none)))) =
      let t = term_made argument in
      let r = more_arguments_made others in
      record {
        tree = t.tree ∷ r.tree;
        is = (t.is, r.is);
        reads = λ after h. (meets_sign sym.Comma x f, t.reads _ (r.reads after h));
      }
  more_arguments_made (made _ (later first) made_none) = record { tree = []; is = tt; reads = λ after h. h }
  more_arguments_made (made _ (later (later gap)) _) = elim gap [ ]
