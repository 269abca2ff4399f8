-- What productions of steps and codes make of tokens is what their trees print.
use Rattle.std.proofs.Common.{List, [], ◌∷◌, map}
use Rattle.nomos_grammar.specs.declared.part.Nonterminal.TheVariants as the_production
use Rattle.nomos_grammar.specs.declared.part.Terminal.TheVariants as terminal
use Rattle.nomos_grammar.specs.Producing.{Fits, first, later}
use Rattle.nomos_grammar.specs.Grammar.{the}
use Rattle.nomos_ir.specs.declared.word.Word.TheVariants as word
use Rattle.nomos_surface.specs.declared.name_at.NameAt.{NameAt}
use Rattle.nomos_surface.specs.declared.steps.ChanAt.{ChanAt}
use Rattle.nomos_surface.specs.declared.steps.ChanAt.TheVariants as chan
use Rattle.nomos_syntax.specs.declared.symbol.Symbol.TheVariants as sym
use Rattle.nomos_syntax.specs.Lexeme.{Placed}
use Rattle.nomos_surface.specs.Printed.{Printer, sign, keyword, print_name, print_more, print_parted}
use Rattle.nomos_surface.specs.Print.{print_potential, print_value_type, print_heading, print_term, print_chan, print_named, print_args, print_step, print_steps, print_code, print_last, print_arms}
use Rattle.nomos_surface.specs.Grammatical.{Each, AreArguments, IsStep, HasArms, IsCode, IsLast, AreArms}
use Rattle.nomos_surface.specs.Tree.{ArgTrees, StepTree, label, send, recv, put, taking, pay, getting, work, wait, accept, detach, acquire, release, spawn, binding, empty_list, longer_list, emit, CodeTree, code, LastTree, close, fwd, calling, code_if, case, code_match, ArmTrees, no_arms, arm}
use Rattle.nomos_surface.proofs.Fitting.{meets_sign, meets_keyword, meets_keyword_at, name_of, meets_name}
use Rattle.nomos_surface.proofs.Makes.{Makes, made_token, made_mark, made, made_none, made_more}
use Rattle.nomos_surface.proofs.TypesMade.{Printed, Any, potential_made, value_type_made}
use Rattle.nomos_surface.proofs.TermsMade.{term_made, arguments_made}

-- steps

chan_made : {ts us : List Placed} → Makes (the the_production.Channel) ts us
    → Printed ChanAt Any (λ x after. print_chan x ∷ after) ts us
chan_made (made _ first (made_more (made_token {x} f) made_none)) =
    record { tree = chan.Own x.at; is = tt; reads = λ after h. (meets_keyword_at word.SelfWord x f, h) }
chan_made (made _ (later first) (made_more (made_token {x} f) made_none)) =
    record { tree = chan.Variable (name_of x f); is = tt; reads = λ after h. (meets_name x f, h) }
chan_made (made _ (later (later gap)) _) = elim gap [ ]

more_names_made : {ts us : List Placed} → Makes (the the_production.MoreChannelArguments) ts us →
    Printed (List NameAt) Any (λ names. print_more sym.Comma (map print_named names)) ts us
more_names_made (made _ first (made_more (made_token {x} f)
    (made_more (made_token {x = y} g) (made_more others made_none)))) =
    let r = more_names_made others in
    record {
      tree = name_of y g ∷ r.tree;
      is = tt;
      reads = λ after h. (meets_sign sym.Comma x f, (meets_name y g, r.reads after h));
    }
more_names_made (made _ (later first) made_none) = record { tree = []; is = tt; reads = λ after h. h }
more_names_made (made _ (later (later gap)) _) = elim gap [ ]

names_made : {ts us : List Placed} → Makes (the the_production.ChannelArguments) ts us →
    Printed (List NameAt) Any (λ names. print_parted sym.Comma (map print_named names)) ts us
names_made (made _ first (made_more (made_token {x = y} g) (made_more others made_none))) =
    let r = more_names_made others in
    record { tree = name_of y g ∷ r.tree; is = tt; reads = λ after h. (meets_name y g, r.reads after h) }
names_made (made _ (later first) made_none) = record { tree = []; is = tt; reads = λ after h. h }
names_made (made _ (later (later gap)) _) = elim gap [ ]

args_made : {ts us : List Placed} → Makes (the the_production.Arguments) ts us
    → Printed ArgTrees AreArguments print_args ts us
args_made (made _ first (made_more (made_token {x} f)
    (made_more values (made_more (made_token {x = y} g)
    (made_more channels (made_more (made_token {x = z} k) made_none)))))) =
    let v = arguments_made values in
    let c = names_made channels in
    record {
      tree = record { values = v.tree; channels = c.tree };
      is = v.is;
      reads = λ after h. (
        meets_sign sym.OpenParen x f,
        v.reads (sign sym.Semicolon ∷ print_parted sym.Comma (map print_named c.tree) (sign sym.CloseParen ∷ after))
            (meets_sign sym.Semicolon y g, c.reads (sign sym.CloseParen ∷ after) (meets_sign sym.CloseParen z k, h)),
      );
    }
args_made (made _ (later gap) _) = elim gap [ ]

-- what a `let` binds to a list, behind the word `list`
after_list_made : {ts us : List Placed} (x n e l : Placed) (fx : Fits (terminal.Reserved word.Let) x.lexeme)
    (fn : Fits terminal.Name n.lexeme)
    (fe : Fits (terminal.Symbol sym.Equals) e.lexeme) (fl : Fits (terminal.Reserved word.List) l.lexeme) →
    Makes (the the_production.AfterList) ts us → Printed StepTree IsStep print_step (x ∷ n ∷ e ∷ l ∷ ts) us
after_list_made x n e l fx fn fe fl
    (made _ first (made_more made_mark (made_more potential (made_more element made_none)))) =
    let q = potential_made potential in
    let t = value_type_made element in
    record {
      tree = empty_list x.at (name_of n fn) l.at q.tree t.tree;
      is = tt;
      reads = λ after h. (
        meets_keyword_at word.Let x fx,
        (
          meets_name n fn,
          (
            meets_sign sym.Equals e fe,
            (
              meets_keyword_at word.List l fl,
              q.reads (print_value_type t.tree after) (t.reads after h),
            ),
          ),
        ),
      );
    }
after_list_made x n e l fx fn fe fl
    (made _ (later first) (made_more value
    (made_more (made_token {x = y} g) (made_more (made_token {x = z} k) made_none)))) =
    let t = term_made value in
    record {
      tree = longer_list x.at (name_of n fn) t.tree (name_of z k);
      is = t.is;
      reads = λ after h. (
        meets_keyword_at word.Let x fx,
        (
          meets_name n fn,
          (
            meets_sign sym.Equals e fe,
            (
              meets_keyword word.List l fl,
              t.reads (sign sym.Comma ∷ print_name (name_of z k) ∷ after)
                  (meets_sign sym.Comma y g, (meets_name z k, h)),
            ),
          ),
        ),
      );
    }
after_list_made _ _ _ _ _ _ _ _ (made _ (later (later gap)) _) = elim gap [ ]

-- what a `let` binds
bound_made : {ts us : List Placed} (x n e : Placed) (fx : Fits (terminal.Reserved word.Let) x.lexeme)
    (fn : Fits terminal.Name n.lexeme)
    (fe : Fits (terminal.Symbol sym.Equals) e.lexeme) →
    Makes (the the_production.BoundValue) ts us → Printed StepTree IsStep print_step (x ∷ n ∷ e ∷ ts) us
bound_made x n e fx fn fe (made _ first (made_more (made_token {x = l} fl) (made_more others made_none))) =
    after_list_made x n e l fx fn fe fl others
bound_made x n e fx fn fe (made _ (later first) (made_more value made_none)) =
    let t = term_made value in
    record {
      tree = binding x.at (name_of n fn) t.tree;
      is = t.is;
      reads =
          λ after h. (meets_keyword_at word.Let x fx, (meets_name n fn, (meets_sign sym.Equals e fe, t.reads after h)));
    }
bound_made _ _ _ _ _ _ (made _ (later (later gap)) _) = elim gap [ ]

pub step_made : {ts us : List Placed} → Makes (the the_production.Step) ts us → Printed StepTree IsStep print_step ts us
step_made (made _ first (made_more made_mark
    (made_more (made_token {x = x} f) (made_more ch (made_more (made_token {x = y} g) made_none))))) =
    let c = chan_made ch in
    record {
      tree = send x.at c.tree (name_of y g);
      is = tt;
      reads =
          λ after h. (meets_keyword_at word.Send x f, c.reads (print_name (name_of y g) ∷ after) (meets_name y g, h));
    }
step_made (made _ (later first)
    (made_more made_mark (made_more (made_token {x = x} f)
    (made_more ch (made_more (made_token {x = y} g) made_none))))) =
    let c = chan_made ch in
    record {
      tree = recv x.at c.tree (name_of y g);
      is = tt;
      reads =
          λ after h. (meets_keyword_at word.Recv x f, c.reads (print_name (name_of y g) ∷ after) (meets_name y g, h));
    }
step_made (made _ (later (later first))
    (made_more made_mark (made_more (made_token {x = x} f) (made_more ch (made_more part made_none))))) =
    let c = chan_made ch in
    let p = term_made part in
    record {
      tree = put x.at c.tree p.tree;
      is = p.is;
      reads = λ after h. (meets_keyword_at word.Put x f, c.reads (print_term p.tree after) (p.reads after h));
    }
step_made (made _ (later (later (later first)))
    (made_more made_mark (made_more (made_token {x = x} f)
    (made_more ch (made_more (made_token {x = y} g) made_none))))) =
    let c = chan_made ch in
    record {
      tree = taking x.at c.tree (name_of y g);
      is = tt;
      reads =
          λ after h. (meets_keyword_at word.Take x f, c.reads (print_name (name_of y g) ∷ after) (meets_name y g, h));
    }
step_made (made _ (later (later (later (later first))))
    (made_more made_mark (made_more (made_token {x = x} f) (made_more ch (made_more part made_none))))) =
    let c = chan_made ch in
    let p = potential_made part in
    record {
      tree = pay x.at c.tree p.tree;
      is = tt;
      reads = λ after h. (meets_keyword_at word.Pay x f, c.reads (print_potential p.tree after) (p.reads after h));
    }
step_made (made _ (later (later (later (later (later first)))))
    (made_more made_mark (made_more (made_token {x = x} f) (made_more ch (made_more part made_none))))) =
    let c = chan_made ch in
    let p = potential_made part in
    record {
      tree = getting x.at c.tree p.tree;
      is = tt;
      reads = λ after h. (meets_keyword_at word.Get x f, c.reads (print_potential p.tree after) (p.reads after h));
    }
step_made (made _ (later (later (later (later (later (later first))))))
    (made_more made_mark (made_more (made_token {x = x} f) (made_more part made_none)))) =
    let p = potential_made part in
    record { tree = work x.at p.tree; is = tt; reads = λ after h. (meets_keyword_at word.Work x f, p.reads after h) }
step_made (made _ (later (later (later (later (later (later (later first)))))))
    (made_more made_mark (made_more (made_token {x = x} f) (made_more (made_token {x = y} g) made_none)))) =
    record {
      tree = wait x.at (name_of y g);
      is = tt;
      reads = λ after h. (meets_keyword_at word.Wait x f, (meets_name y g, h));
    }
step_made (made _ (later (later (later (later (later (later (later (later first))))))))
    (made_more made_mark (made_more (made_token {x = x} f) made_none))) =
    record { tree = accept x.at; is = tt; reads = λ after h. (meets_keyword_at word.Accept x f, h) }
step_made (made _ (later (later (later (later (later (later (later (later (later first)))))))))
    (made_more made_mark (made_more (made_token {x = x} f) made_none))) =
    record { tree = detach x.at; is = tt; reads = λ after h. (meets_keyword_at word.Detach x f, h) }
step_made (made _ (later (later (later (later (later (later (later (later (later (later first))))))))))
    (made_more made_mark (made_more (made_token {x = x} f)
    (made_more (made_token {x = y} g)
    (made_more (made_token {x = z} k) (made_more (made_token {x = w} m) made_none)))))) =
    record {
      tree = acquire x.at (name_of y g) (name_of w m);
      is = tt;
      reads =
          λ after h. (
            meets_keyword_at word.Acquire x f,
            (meets_name y g, (meets_keyword word.As z k, (meets_name w m, h))),
          );
    }
step_made (made _ (later (later (later (later (later (later (later (later (later (later (later first)))))))))))
    (made_more made_mark (made_more (made_token {x = x} f)
    (made_more (made_token {x = y} g)
    (made_more (made_token {x = z} k) (made_more (made_token {x = w} m) made_none)))))) =
    record {
      tree = release x.at (name_of y g) (name_of w m);
      is = tt;
      reads =
          λ after h. (
            meets_keyword_at word.Release x f,
            (meets_name y g, (meets_keyword word.As z k, (meets_name w m, h))),
          );
    }
step_made (made _ (later (later (later (later (later (later (later (later (later (later (later (later first))))))))))))
    (made_more made_mark (made_more (made_token {x = x} f)
    (made_more (made_token {x = y} g)
    (made_more (made_token {x = z} k) (made_more (made_token {x = w} m) (made_more part made_none))))))) =
    let p = args_made part in
    record {
      tree = spawn x.at (name_of y g) (name_of w m) p.tree;
      is = p.is;
      reads =
          λ after h. (
            meets_keyword_at word.Spawn x f,
            (meets_name y g, (meets_sign sym.Equals z k, (meets_name w m, p.reads after h))),
          );
    }
step_made (made _ (later (later
    (later (later (later (later (later (later (later (later (later (later (later first)))))))))))))
    (made_more made_mark (made_more (made_token {x = x} f)
    (made_more (made_token {x = y} g) (made_more (made_token {x = z} k) (made_more part made_none)))))) =
    bound_made x y z f g k part
step_made (made _ (later (later
    (later (later (later (later (later (later (later (later (later (later (later (later first))))))))))))))
    (made_more made_mark (made_more (made_token {x = x} f) (made_more part made_none)))) =
    let p = term_made part in
    record { tree = emit x.at p.tree; is = p.is; reads = λ after h. (meets_keyword_at word.Emit x f, p.reads after h) }
step_made (made _ (later (later
    (later (later (later (later (later (later (later (later (later (later (later (later (later first)))))))))))))))
    (made_more made_mark (made_more ch
    (made_more (made_token {x = y} g) (made_more (made_token {x = z} k) made_none))))) =
    let c = chan_made ch in
    record {
      tree = label c.tree (name_of z k);
      is = tt;
      reads =
          λ after h. c.reads (sign sym.Dot ∷ print_name (name_of z k) ∷ after)
          (meets_sign sym.Dot y g, (meets_name z k, h));
    }
step_made (made _ (later (later
    (later (later (later (later (later
    (later (later (later (later (later (later (later (later (later gap)))))))))))))))) _) = elim gap [ ]

-- codes

-- the steps of a code, and its last instruction
abbrev pub Steps : Type 0
Steps = List StepTree × LastTree

abbrev pub AreSteps : Steps → Type 0
AreSteps c = Each IsStep c.0 × IsLast c.1

abbrev pub print_whole : Steps → Printer
print_whole c after = print_steps c.0 (print_last c.1 after)

abbrev pub print_braced : CodeTree → Printer
print_braced c after = sign sym.OpenBrace ∷ print_code c (sign sym.CloseBrace ∷ after)

mutual
  steps_made : {ts us : List Placed} → Makes (the the_production.Code) ts us → Printed Steps AreSteps print_whole ts us
  steps_made (made _ first (made_more last made_none)) =
      let l = last_made last in record { tree = ([], l.tree); is = (tt, l.is); reads = l.reads }
  steps_made (made _ (later first) (made_more step (made_more (made_token {x = y} g) (made_more others made_none)))) =
      let p = step_made step in
      let c = steps_made others in
      record {
        tree = (p.tree ∷ c.tree.0, c.tree.1);
        is = ((p.is, c.is.0), c.is.1);
        reads =
            λ after h. p.reads (sign sym.Semicolon ∷ print_whole c.tree after)
            (meets_sign sym.Semicolon y g, c.reads after h);
      }
  steps_made (made _ (later (later gap)) _) = elim gap [ ]

  braced_made : {ts us : List Placed} → Makes (the the_production.BracedCode) ts us
      → Printed CodeTree IsCode print_braced ts us
  braced_made (made _ first (made_more made_mark
      (made_more (made_token {x = x} f)
      (made_more inner (made_more (made_token {x = y} g) (made_more made_mark made_none)))))) =
      let c = steps_made inner in
      record {
        tree = code c.tree.0 c.tree.1;
        is = c.is;
        reads =
            λ after h. (
              meets_sign sym.OpenBrace x f,
              c.reads (sign sym.CloseBrace ∷ after) (meets_sign sym.CloseBrace y g, h),
            );
      }
  braced_made (made _ (later gap) _) = elim gap [ ]

  last_made : {ts us : List Placed} → Makes (the the_production.Last) ts us → Printed LastTree IsLast print_last ts us
  last_made (made _ first (made_more made_mark
      (made_more (made_token {x = x} f) (made_more (made_token {x = y} g) made_none)))) =
      record {
        tree = fwd x.at (name_of y g);
        is = tt;
        reads = λ after h. (meets_keyword_at word.Fwd x f, (meets_name y g, h));
      }
  last_made (made _ (later first)
      (made_more made_mark (made_more (made_token {x = x} f)
      (made_more (made_token {x = y} g) (made_more part made_none))))) =
      let p = args_made part in
      record {
        tree = calling x.at (name_of y g) p.tree;
        is = p.is;
        reads = λ after h. (meets_keyword_at word.Call x f, (meets_name y g, p.reads after h));
      }
  last_made (made _ (later (later first))
      (made_more made_mark (made_more (made_token {x = x} f)
      (made_more test (made_more holds (made_more (made_token {x = y} g) (made_more fails made_none))))))) =
      let t = term_made test in
      let u = braced_made holds in
      let v = braced_made fails in
      record {
        tree = code_if x.at t.tree u.tree v.tree;
        is = (t.is, u.is, v.is);
        reads = λ after h. (
          meets_keyword_at word.If x f,
          t.reads _ (u.reads (keyword word.Else ∷ print_braced v.tree after)
              (meets_keyword word.Else y g, v.reads after h)),
        );
      }
  last_made (made _ (later (later (later first)))
      (made_more made_mark (made_more (made_token {x = x} f)
      (made_more ch (made_more (made_token {x = y} g)
      (made_more branches (made_more (made_token {x = z} k) made_none))))))) =
      let c = chan_made ch in
      let r = arms_made branches in
      record {
        tree = case x.at c.tree r.tree;
        is = r.is;
        reads = λ after h. (
          meets_keyword_at word.Case x f,
          c.reads (sign sym.OpenBrace ∷ print_parted sym.Bar (print_arms r.tree) (sign sym.CloseBrace ∷ after))
              (meets_sign sym.OpenBrace y g, r.reads (sign sym.CloseBrace ∷ after) (meets_sign sym.CloseBrace z k, h)),
        );
      }
  last_made (made _ (later (later (later (later first))))
      (made_more made_mark (made_more (made_token {x = x} f)
      (made_more (made_token {x = x1} f1)
      (made_more (made_token {x = x2} f2)
      (made_more made_mark (made_more (made_token {x = x3} f3)
      (made_more (made_token {x = x4} f4)
      (made_more empty (made_more made_mark
      (made_more (made_token {x = x5} f5)
      (made_more made_mark (made_more (made_token {x = x6} f6)
      (made_more (made_token {x = x7} f7)
      (made_more (made_token {x = x8} f8)
      (made_more (made_token {x = x9} f9)
      (made_more more (made_more made_mark (made_more (made_token {x = y1} g1) made_none))))))))))))))))))) =
      let u = steps_made empty in
      let v = steps_made more in
      record {
        tree =
            code_match x.at (name_of x1 f1) (code u.tree.0 u.tree.1) (name_of x6 f6) (name_of x8 f8)
            (code v.tree.0 v.tree.1);
        is = (u.is, v.is);
        reads = λ after h. (
          meets_keyword_at word.Match x f,
          (
            meets_name x1 f1,
            (
              meets_sign sym.OpenBrace x2 f2,
              (
                meets_keyword word.Nil x3 f3,
                (
                  meets_sign sym.FatArrow x4 f4,
                  u.reads (sign sym.Bar ∷ print_heading (name_of x6 f6) (name_of x8 f8)
                      (print_whole v.tree (sign sym.CloseBrace ∷ after))) (
                        meets_sign sym.Bar x5 f5,
                        (
                          meets_name x6 f6,
                          (
                            meets_sign sym.DoubleColon x7 f7,
                            (
                              meets_name x8 f8,
                              (
                                meets_sign sym.FatArrow x9 f9,
                                v.reads (sign sym.CloseBrace ∷ after) (meets_sign sym.CloseBrace y1 g1, h),
                              ),
                            ),
                          ),
                        ),
                      ),
                ),
              ),
            ),
          ),
        );
      }
  last_made (made _ (later (later (later (later (later first)))))
      (made_more made_mark (made_more (made_token {x = x} f) made_none))) =
      record { tree = close x.at; is = tt; reads = λ after h. (meets_keyword_at word.Close x f, h) }
  last_made (made _ (later (later (later (later (later (later gap)))))) _) = elim gap [ ]

  arms_made : {ts us : List Placed} → Makes (the the_production.Branches) ts us →
      Printed ArmTrees (λ arms. HasArms arms × AreArms arms) (λ arms. print_parted sym.Bar (print_arms arms)) ts us
  arms_made (made _ first (made_more item (made_more others made_none))) =
      let a = arm_made item in
      let r = more_arms_made others in
      record {
        tree = arm a.tree.0 a.tree.1 r.tree;
        is = (tt, (a.is, r.is));
        reads = λ after h. a.reads _ (r.reads after h);
      }
  arms_made (made _ (later gap) _) = elim gap [ ]

  more_arms_made : {ts us : List Placed} → Makes (the the_production.MoreBranches) ts us →
      Printed ArmTrees AreArms (λ arms. print_more sym.Bar (print_arms arms)) ts us
  more_arms_made (made _ first (made_more (made_token {x = x} f) (made_more item (made_more others made_none)))) =
      let a = arm_made item in
      let r = more_arms_made others in
      record {
        tree = arm a.tree.0 a.tree.1 r.tree;
        is = (a.is, r.is);
        reads = λ after h. (meets_sign sym.Bar x f, a.reads _ (r.reads after h));
      }
  more_arms_made (made _ (later first) made_none) = record { tree = no_arms; is = tt; reads = λ after h. h }
  more_arms_made (made _ (later (later gap)) _) = elim gap [ ]

  arm_made : {ts us : List Placed} → Makes (the the_production.Branch) ts us →
      Printed (NameAt × CodeTree) (λ a. IsCode a.1)
      (λ a after. print_name a.0 ∷ sign sym.FatArrow ∷ print_code a.1 after) ts us
  arm_made (made _ first (made_more made_mark
      (made_more made_mark (made_more (made_token {x = x} f)
      (made_more (made_token {x = y} g) (made_more inner (made_more made_mark made_none))))))) =
      let c = steps_made inner in
      record {
        tree = (name_of x f, code c.tree.0 c.tree.1);
        is = c.is;
        reads = λ after h. (meets_name x f, (meets_sign sym.FatArrow y g, c.reads after h));
      }
  arm_made (made _ (later gap) _) = elim gap [ ]

-- the code of steps and a last instruction
pub code_made : {ts us : List Placed} → Makes (the the_production.Code) ts us → Printed CodeTree IsCode print_code ts us
code_made m = let c = steps_made m in record { tree = code c.tree.0 c.tree.1; is = c.is; reads = c.reads }
