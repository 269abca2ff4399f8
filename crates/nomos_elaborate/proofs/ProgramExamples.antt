-- Programs of small texts: lists, costs, and amounts that are left open.
use Rattle.std.proofs.Common.{◌≡◌, true, [], ◌∷◌, Some, None, refl}
use Rattle.std.specs.Prelude.{codes}
use Rattle.nomos_elaborate.specs.NameClaim.{first_broken}
use Rattle.nomos_elaborate.specs.CodeBuild.{build_code, build_last, build_arms}
use Rattle.nomos_elaborate.specs.CodeClaims.{code_claims, last_claims, arm_claims}
use Rattle.nomos_elaborate.specs.FileBuild.{program_of}
use Rattle.nomos_elaborate.specs.FileClaims.{claims_of}
use Rattle.nomos_elaborate.specs.TermBuild.{build_term, build_terms}
use Rattle.nomos_elaborate.specs.TermClaims.{term_claims, terms_claims}
use Rattle.nomos_elaborate.specs.TypeBuild.{build_type, build_branches}
use Rattle.nomos_elaborate.specs.TypeClaims.{type_claims, branch_claims}
use Rattle.nomos_elaborate.specs.WrittenWork.{written_work, code_works, last_works, arm_works}
use Rattle.nomos_ir.specs.declared.amount.Amount.TheVariants as amount
use Rattle.nomos_ir.specs.declared.code_node.Chan.TheVariants as own
use Rattle.nomos_ir.specs.declared.code_node.CodeNode.TheVariants as node
use Rattle.nomos_ir.specs.declared.code_node.ValueArg.TheVariants as arg
use Rattle.nomos_ir.specs.declared.kind.Base.TheVariants as base
use Rattle.nomos_ir.specs.declared.mode.Mode.TheVariants as mode
use Rattle.nomos_ir.specs.declared.term_node.TermNode.TheVariants as term_node
use Rattle.nomos_ir.specs.declared.type_node.TypeNode.TheVariants as type
use Rattle.nomos_surface.specs.declared.declarations.OfferedMode.TheVariants as offered
use Rattle.nomos_surface.specs.declared.potential.Quantity.TheVariants as quantity
use Rattle.nomos_surface.specs.declared.steps.ChanAt.TheVariants as chan
use Rattle.nomos_surface.specs.declared.surface.CostModel.TheVariants as cost
use Rattle.nomos_surface.specs.declared.terms.Operator.TheVariants as op
use Rattle.nomos_surface.specs.declared.types.Sender.TheVariants as side
use Rattle.nomos_surface.specs.Tree.{one, named, choice, valued, paying, no_branches, branch, number, truth, variable, binary, negation, parenthesized, label, put, taking, pay, getting, work, wait, spawn, empty_list, longer_list, code, close, calling, code_if, case, code_match, no_arms, arm, definition, process, transaction, FileTree}

-- proc R p(xs: list {1} int; a: 1): 1 = spawn c = p((xs); a); wait c; let ys = list {*} int; let zs = list 1 + 2,
-- ys; match zs { nil => close | h :: t => call p(t;) };
abbrev lists : FileTree
lists =
    record {
      cost = None;
      decls = ((process 0 offered.R (record { name = codes "p"; at = 7 }) (record {
        values =
            (record {
              name = record { name = codes "xs"; at = 9 };
              list = Some (record {
                list_at = 13;
                potential = record {
                  at = 18;
                  quantity = quantity.Number 1;
                  quantity_at = 19;
                };
              });
              value = record {
                lists = ([]);
                base = base.Int;
                base_at = 22;
              };
            } ∷ []);
        channels = (record { name = record { name = codes "a"; at = 27 }; goes = one 30 } ∷ []);
      }) None (one 34) (code ((spawn 38 (record { name = codes "c"; at = 44 }) (record { name = codes "p"; at = 48 })
          (record {
            values = ((parenthesized (variable (record { name = codes "xs"; at = 51 }))) ∷ []);
            channels = (record
                { name = codes "a"; at = 56 } ∷ []);
          })) ∷ (wait 60 (record { name = codes "c"; at = 65 })) ∷ (empty_list 68
          (record { name = codes "ys"; at = 72 }) 68 (record { at = 82; quantity = quantity.Star; quantity_at = 83 })
          (record { lists = ([]); base = base.Int; base_at = 86 })) ∷ (longer_list 91 (record {
            name = codes "zs";
            at = 95;
          }) (binary op.Add 107 (number 105 1) (number 109 2)) (record {
            name =
                codes "ys";
            at = 112;
          })) ∷ []) (code_match
          116 (record { name = codes "zs"; at = 122 }) (code ([]) (close 134)) (record { name = codes "h"; at = 142 })
          (record { name = codes "t"; at = 147 })
          (code ([]) (calling 152 (record { name = codes "p"; at = 157 }) (record
          { values = ((variable (record { name = codes "t"; at = 159 })) ∷ []); channels = ([]) })))))) ∷ []);
    }

lists-names : first_broken (claims_of lists) ≡ None
unfolding type_claims branch_claims term_claims terms_claims code_claims last_claims arm_claims
lists-names = refl

lists-program :
    program_of lists ≡ record {
      defs = ([]);
      types = (record { node = type.One; at = 30 } ∷ record {
        node =
            type.One;
        at = 34;
      } ∷ []);
      terms = (term_node.Number 105 1 ∷ term_node.Number 109 2 ∷ term_node.Add 107 (record
          { 0 = 0 }) (record { 0 = 1 }) ∷ []);
      code = (node.Close 134 ∷ node.Call 152 (record { 0 = 0 }) (record {
        values
            = (arg.List (record { 0 = 6 }) ∷ []);
        channels = ([]);
      }) ∷ node.Match 116 (record { 0 = 4 }) (record { 0 = 0 })
          (record { 0 = 5 }) (record { 0 = 6 }) (record { 0 = 1 }) ∷ node.Add 91 (record { 0 = 4 }) (record { 0 = 2 })
          (record { 0 = 3 }) (record { 0 = 2 }) ∷ node.Empty 68 (record { 0 = 3 }) (amount.Star 1) (record {
            lists = 0;
            base = base.Int;
          }) (record { 0 = 3 }) ∷ node.Wait 60 (record { 0 = 2 }) (record { 0 = 4 }) ∷ node.Spawn 38
          (record { 0 = 2 }) (record { 0 = 0 }) (record {
            values = (arg.List (record { 0 = 0 }) ∷ []);
            channels = ((record
                { 0 = 1 }) ∷ []);
          }) (record { 0 = 5 }) ∷ []);
      fns = ([]);
      procs = (record {
        name = codes "p";
        mode = mode.R;
        me
            = None;
        values = (record {
          var = record { 0 = 0 };
          kind = record { lists = 0; base = base.Int };
          amount = Some
              (amount.Written 1);
        } ∷ []);
        channels = ((record { 0 = 1 }, record { 0 = 0 }) ∷ []);
        amount = amount.Written 0;
        offers = record { 0 = 1 };
        first = record { 0 = 6 };
      } ∷ []);
      labels = ([]);
    }
unfolding build_type build_branches build_term build_terms build_code build_last build_arms
lists-program = refl

-- cost all; proc R p(;): 1 = work {1}; close;
abbrev work_under_all : FileTree
work_under_all =
    record {
      cost = Some (record { at = 0; model = cost.All });
      decls = ((process 10 offered.R (record {
        name =
            codes "p";
        at = 17;
      }) (record { values = ([]); channels = ([]) }) None (one 23) (code ((work 27 (record {
        at =
            32;
        quantity = quantity.Number 1;
        quantity_at = 33;
      })) ∷ []) (close 37))) ∷ []);
    }

work_under_all-names : first_broken (claims_of work_under_all) ≡ None
unfolding type_claims branch_claims term_claims terms_claims code_claims last_claims arm_claims
work_under_all-names = refl

work_under_all-work : written_work work_under_all ≡ Some 27
unfolding code_works last_works arm_works
work_under_all-work = refl

-- cost all; proc R p(; a: q): 1 = work {1}; close;
abbrev names_before_costs : FileTree
names_before_costs =
    record {
      cost = Some (record { at = 0; model = cost.All });
      decls = ((process 10 offered.R (record {
        name =
            codes "p";
        at = 17;
      }) (record {
        values = ([]);
        channels = (record {
          name = record { name = codes "a"; at = 21 };
          goes = named (record { name = codes "q"; at = 24 });
        } ∷ []);
      }) None (one 28) (code ((work 32 (record {
        at = 37;
        quantity = quantity.Number 1;
        quantity_at = 38;
      })) ∷ []) (close 42))) ∷ []);
    }

names_before_costs-name : first_broken (claims_of names_before_costs) ≡ Some 24
unfolding type_claims branch_claims term_claims terms_claims code_claims last_claims arm_claims
names_before_costs-name = refl

-- cost sends; type R c = &{ go : int /\ 1 }; proc R p(v: int;): c = case self { go => work {2}; put self v; close
-- }; proc R q(; x: c): 1 = x.go; take x v; wait x; if v < 1 or not true { close } else { close };
abbrev work_under_sends : FileTree
work_under_sends =
    record {
      cost = Some (record { at = 0; model = cost.Sends });
      decls = ((definition 12 offered.R (record {
        name =
            codes "c";
        at = 19;
      }) (choice side.Client 23 (branch (record { name = codes "go"; at = 26 }) (valued
          side.Provider 35 (record { lists = ([]); base = base.Int; base_at = 31 }) (one 38)) (no_branches)))) ∷
          (process
          43 offered.R (record { name = codes "p"; at = 50 }) (record {
            values = (record {
              name = record {
                name = codes
                    "v";
                at = 52;
              };
              list = None;
              value = record { lists = ([]); base = base.Int; base_at = 55 };
            } ∷ []);
            channels =
                ([]);
          }) None (named (record { name = codes "c"; at = 62 })) (code ([]) (case 66 (chan.Own 71) (arm (record {
            name = codes "go";
            at = 78;
          }) (code ((work 84 (record {
            at = 89;
            quantity = quantity.Number 2;
            quantity_at = 90;
          })) ∷ (put 94 (chan.Own 98) (variable (record { name = codes "v"; at = 103 }))) ∷ []) (close 106))
          (no_arms)))))
          ∷ (process 115 offered.R (record { name = codes "q"; at = 122 }) (record {
            values = ([]);
            channels = (record {
              name = record { name = codes "x"; at = 126 };
              goes = named (record { name = codes "c"; at = 129 });
            } ∷ []);
          })
          None (one 133) (code ((label (chan.Variable (record { name = codes "x"; at = 137 })) (record {
            name = codes
                "go";
            at = 139;
          })) ∷ (taking 143 (chan.Variable (record { name = codes "x"; at = 148 })) (record {
            name = codes
                "v";
            at = 150;
          })) ∷ (wait 153 (record { name = codes "x"; at = 158 })) ∷ []) (code_if 161 (binary op.Or 170
          (binary op.Less 166 (variable (record { name = codes "v"; at = 164 })) (number 168 1))
          (negation 173 (truth 177
          true))) (code ([]) (close 184)) (code ([]) (close 199))))) ∷ []);
    }

work_under_sends-names : first_broken (claims_of work_under_sends) ≡ None
unfolding type_claims branch_claims term_claims terms_claims code_claims last_claims arm_claims
work_under_sends-names = refl

work_under_sends-program :
    program_of work_under_sends ≡ record {
      defs = (record {
        name = codes "c";
        mode = mode.R;
        body = record { 0 = 2 };
      } ∷ []);
      types = (record { node = type.One; at = 38 } ∷ record {
        node = type.ValueOut (record {
          lists = 0;
          base
              = base.Int;
        }) (record { 0 = 0 });
        at = 35;
      } ∷ record {
        node = type.With (record {
          label = record { 0 = 0 };
          goes
              = record { 0 = 1 };
        } ∷ []);
        at = 23;
      } ∷ record { node = type.Named (record { 0 = 0 }); at = 62 } ∷ record {
        node
            = type.Named (record { 0 = 0 });
        at = 129;
      } ∷ record { node = type.One; at = 133 } ∷ []);
      terms = (term_node.Var
          103 (record { 0 = 0 }) ∷ term_node.Var 164 (record { 0 = 0 }) ∷ term_node.Number 168 1 ∷ term_node.Less 166
          (record { 0 = 1 }) (record { 0 = 2 }) ∷ term_node.Truth 177 true ∷ term_node.Not 173 (record { 0 = 4 }) ∷
          term_node.Or 170 (record { 0 = 3 }) (record { 0 = 5 }) ∷ []);
      code = (node.Close 106 ∷ node.Work 106
          (amount.Written 1) (record { 0 = 0 }) ∷ node.Put 94 own.Own (record { 0 = 0 }) (record { 0 = 1 }) ∷
          node.Work 94
          (amount.Written 1) (record { 0 = 2 }) ∷ node.Work 84 (amount.Written 2) (record { 0 = 3 }) ∷ node.Case 66
          own.Own (record { label = record { 0 = 0 }; goes = record { 0 = 4 } } ∷ []) ∷ node.Close 184 ∷ node.Work 184
          (amount.Written 1) (record { 0 = 6 }) ∷ node.Close 199 ∷ node.Work 199 (amount.Written 1) (record { 0 = 8 }) ∷
          node.If 161 (record { 0 = 6 }) (record { 0 = 7 }) (record { 0 = 9 }) ∷
          node.Wait 153 (record { 0 = 1 }) (record
          { 0 = 10 }) ∷ node.Take 143 (own.Var (record { 0 = 1 })) (record { 0 = 0 }) (record { 0 = 11 }) ∷
          node.Label 137
          (own.Var (record { 0 = 1 })) (record { 0 = 0 }) (record { 0 = 12 }) ∷
          node.Work 137 (amount.Written 1) (record {
            0 = 13;
          }) ∷ []);
      fns = ([]);
      procs = (record {
        name = codes "p";
        mode = mode.R;
        me = None;
        values = (record {
          var = record { 0 = 0 };
          kind = record { lists = 0; base = base.Int };
          amount = None;
        } ∷ []);
        channels = ([]);
        amount = amount.Written 0;
        offers = record { 0 = 3 };
        first = record { 0 = 5 };
      } ∷ record {
        name = codes "q";
        mode = mode.R;
        me = None;
        values = ([]);
        channels = ((record { 0 = 1 }, record { 0 = 4 }) ∷ []);
        amount =
            amount.Written 0;
        offers = record { 0 = 5 };
        first = record { 0 = 14 };
      } ∷ []);
      labels = (codes "go" ∷ []);
    }
unfolding build_type build_branches build_term build_terms build_code build_last build_arms
work_under_sends-program = refl

-- type R src = |{*}> 1; proc R k(; a: src, b: src) : 1 = get a {*}; get b {*}; work {1}; wait a; wait b; close;
-- proc R g(;) {*} : src = pay self {*}; close; proc T t(;) {1} = spawn a = g(;); spawn b = g(;); spawn c = k(; a,
-- b); wait c; close;
abbrev halves : FileTree
halves =
    record {
      cost = None;
      decls = ((definition 0 offered.R (record { name = codes "src"; at = 7 }) (paying
          side.Provider 13 (record { at = 14; quantity = quantity.Star; quantity_at = 15 }) (one 19))) ∷ (process 22
          offered.R (record { name = codes "k"; at = 29 }) (record {
            values = ([]);
            channels = (record {
              name = record {
                name = codes "a";
                at = 33;
              };
              goes = named (record { name = codes "src"; at = 36 });
            } ∷ record {
              name = record {
                name = codes "b";
                at = 41;
              };
              goes = named (record { name = codes "src"; at = 44 });
            } ∷ []);
          }) None (one 51)
          (code ((getting 55 (chan.Variable (record { name = codes "a"; at = 59 })) (record {
            at = 61;
            quantity =
                quantity.Star;
            quantity_at = 62;
          })) ∷ (getting 66 (chan.Variable (record { name = codes "b"; at = 70 })) (record
          { at = 72; quantity = quantity.Star; quantity_at = 73 })) ∷ (work 77 (record {
            at = 82;
            quantity =
                quantity.Number 1;
            quantity_at = 83;
          })) ∷ (wait 87 (record { name = codes "a"; at = 92 })) ∷ (wait 95 (record {
            name = codes "b";
            at = 100;
          })) ∷ []) (close 103))) ∷ (process 110 offered.R (record {
            name = codes "g";
            at = 117;
          }) (record { values = ([]); channels = ([]) }) (Some (record {
            at = 122;
            quantity = quantity.Star;
            quantity_at =
                123;
          })) (named (record { name = codes "src"; at = 128 })) (code ((pay 134 (chan.Own 138) (record {
            at = 143;
            quantity = quantity.Star;
            quantity_at = 144;
          })) ∷ []) (close 148))) ∷ (transaction 155 (record {
            name = codes
                "t";
            at = 162;
          }) (record { values = ([]); channels = ([]) }) (Some (record {
            at = 167;
            quantity =
                quantity.Number 1;
            quantity_at = 168;
          })) (code ((spawn 173 (record { name = codes "a"; at = 179 }) (record {
            name = codes "g";
            at = 183;
          }) (record { values = ([]); channels = ([]) })) ∷ (spawn 189 (record {
            name = codes
                "b";
            at = 195;
          }) (record { name = codes "g"; at = 199 }) (record { values = ([]); channels = ([]) })) ∷ (spawn
          205 (record { name = codes "c"; at = 211 }) (record { name = codes "k"; at = 215 }) (record {
            values = ([]);
            channels = (record { name = codes "a"; at = 219 } ∷ record { name = codes "b"; at = 222 } ∷ []);
          })) ∷ (wait 226
          (record { name = codes "c"; at = 231 })) ∷ []) (close 234))) ∷ []);
    }

halves-names : first_broken (claims_of halves) ≡ None
unfolding type_claims branch_claims term_claims terms_claims code_claims last_claims arm_claims
halves-names = refl

halves-program :
    program_of halves ≡ record {
      defs = (record { name = codes "src"; mode = mode.R; body = record { 0 = 1 } } ∷
          []);
      types = (record { node = type.One; at = 19 } ∷ record {
        node = type.PotOut (amount.Star 1) (record {
          0 = 0;
        });
        at = 13;
      } ∷ record { node = type.Named (record { 0 = 0 }); at = 36 } ∷ record {
        node = type.Named (record {
          0 = 0;
        });
        at = 44;
      } ∷ record { node = type.One; at = 51 } ∷ record {
        node = type.Named (record { 0 = 0 });
        at =
            128;
      } ∷ record { node = type.One; at = 155 } ∷ []);
      terms = ([]);
      code = (node.Close 103 ∷ node.Wait 95 (record
          { 0 = 1 }) (record { 0 = 0 }) ∷ node.Wait 87 (record { 0 = 0 }) (record { 0 = 1 }) ∷ node.Work 77
          (amount.Written 1) (record { 0 = 2 }) ∷ node.Get 66 (own.Var (record { 0 = 1 })) (amount.Star 3) (record {
            0 = 3;
          }) ∷ node.Get 55 (own.Var (record { 0 = 0 })) (amount.Star 2) (record {
            0 =
                4;
          }) ∷ node.Close 148 ∷ node.Pay 134
          own.Own (amount.Star 5) (record { 0 = 6 }) ∷ node.Close 234 ∷ node.Wait 226 (record { 0 = 3 }) (record {
            0 = 8;
          }) ∷ node.Spawn 205 (record { 0 = 3 }) (record { 0 = 0 }) (record {
            values = ([]);
            channels = ((record {
              0 = 0;
            }) ∷ (record { 0 = 1 }) ∷ []);
          }) (record { 0 = 9 }) ∷ node.Spawn 189 (record { 0 = 1 }) (record { 0 = 1 })
          (record { values = ([]); channels = ([]) }) (record { 0 = 10 }) ∷ node.Spawn 173 (record { 0 = 0 }) (record {
            0
                = 1;
          }) (record { values = ([]); channels = ([]) }) (record { 0 = 11 }) ∷ []);
      fns = ([]);
      procs = (record {
        name
            = codes "k";
        mode = mode.R;
        me = None;
        values = ([]);
        channels = ((record { 0 = 0 }, record { 0 = 2 }) ∷ (
          record
              { 0 = 1 },
          record { 0 = 3 },
        ) ∷ []);
        amount = amount.Written 0;
        offers = record { 0 = 4 };
        first = record {
          0 = 5;
        };
      } ∷ record {
        name = codes "g";
        mode = mode.R;
        me = None;
        values = ([]);
        channels = ([]);
        amount = amount.Star
            4;
        offers = record { 0 = 5 };
        first = record { 0 = 7 };
      } ∷ record {
        name = codes "t";
        mode = mode.T;
        me = Some
            (record { 0 = 2 });
        values = ([]);
        channels = ([]);
        amount = amount.Written 1;
        offers = record { 0 = 6 };
        first
            = record { 0 = 12 };
      } ∷ []);
      labels = ([]);
    }
unfolding build_type build_branches build_term build_terms build_code build_last build_arms
halves-program = refl
