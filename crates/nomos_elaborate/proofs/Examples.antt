-- The rules of names, tried on small texts.
use Rattle.std.proofs.Common.{◌≡◌, [], ◌∷◌, Some, None, refl}
use Rattle.std.specs.Prelude.{codes}
use Rattle.nomos_elaborate.specs.NameClaim.{first_broken}
use Rattle.nomos_elaborate.specs.CodeBuild.{build_code, build_last, build_arms}
use Rattle.nomos_elaborate.specs.CodeClaims.{code_claims, last_claims, arm_claims}
use Rattle.nomos_elaborate.specs.FileBuild.{program_of}
use Rattle.nomos_elaborate.specs.FileClaims.{claims_of}
use Rattle.nomos_elaborate.specs.TermBuild.{build_term, build_terms}
use Rattle.nomos_elaborate.specs.TermClaims.{term_claims, terms_claims}
use Rattle.nomos_elaborate.specs.TypeBuild.{build_type, build_branches}
use Rattle.nomos_elaborate.specs.TypeClaims.{type_claims, branch_claims}
use Rattle.nomos_ir.specs.declared.amount.Amount.TheVariants as amount
use Rattle.nomos_ir.specs.declared.code_node.CodeNode.TheVariants as node
use Rattle.nomos_ir.specs.declared.kind.Base.TheVariants as base
use Rattle.nomos_ir.specs.declared.mode.Mode.TheVariants as mode
use Rattle.nomos_ir.specs.declared.term_node.TermNode.TheVariants as term_node
use Rattle.nomos_ir.specs.declared.type_node.TypeNode.TheVariants as type
use Rattle.nomos_surface.specs.declared.declarations.OfferedMode.TheVariants as offered
use Rattle.nomos_surface.specs.declared.potential.Quantity.TheVariants as quantity
use Rattle.nomos_surface.specs.declared.steps.ChanAt.TheVariants as chan
use Rattle.nomos_surface.specs.declared.terms.Operator.TheVariants as op
use Rattle.nomos_surface.specs.declared.types.Sender.TheVariants as side
use Rattle.nomos_surface.specs.Tree.{one, named, choice, no_branches, branch, number, me, variable, application, binary, matching, no_terms, term, wait, spawn, binding, emit, code, close, fwd, calling, case, code_match, no_arms, arm, definition, function, process, transaction, FileTree}

-- type R a = b;
abbrev undeclared_type : FileTree
undeclared_type =
    record {
      cost = None;
      decls = ((definition 0 offered.R (record { name = codes "a"; at = 7 }) (named (record {
        name = codes "b";
        at = 11;
      }))) ∷ []);
    }

undeclared_type-name : first_broken (claims_of undeclared_type) ≡ Some 11
unfolding type_claims branch_claims term_claims terms_claims code_claims last_claims arm_claims
undeclared_type-name = refl

-- type R a = 1; type R a = 1;
abbrev type_twice : FileTree
type_twice =
    record {
      cost = None;
      decls = ((definition 0 offered.R (record { name = codes "a"; at = 7 }) (one 11)) ∷
          (definition 14 offered.R (record { name = codes "a"; at = 21 }) (one 25)) ∷ []);
    }

type_twice-name : first_broken (claims_of type_twice) ≡ Some 21
unfolding type_claims branch_claims term_claims terms_claims code_claims last_claims arm_claims
type_twice-name = refl

-- type R a = 1; fn a(x: int): int = x; proc R a(;): a = close;
abbrev three_spaces : FileTree
three_spaces =
    record {
      cost = None;
      decls = ((definition 0 offered.R (record { name = codes "a"; at = 7 }) (one 11)) ∷
          (function 14 (record { name = codes "a"; at = 17 }) (record {
            name = record { name = codes "x"; at = 19 };
            value
                = record { lists = ([]); base = base.Int; base_at = 22 };
          } ∷ []) (record {
            lists = ([]);
            base = base.Int;
            base_at = 28;
          }) (variable (record { name = codes "x"; at = 34 }))) ∷ (process 37 offered.R (record {
            name =
                codes "a";
            at = 44;
          }) (record { values = ([]); channels = ([]) }) None (named (record {
            name = codes "a";
            at =
                50;
          })) (code ([]) (close 54))) ∷ []);
    }

three_spaces-names : first_broken (claims_of three_spaces) ≡ None
unfolding type_claims branch_claims term_claims terms_claims code_claims last_claims arm_claims
three_spaces-names = refl

three_spaces-program :
    program_of three_spaces ≡ record {
      defs = (record { name = codes "a"; mode = mode.R; body = record { 0 = 0 } } ∷
          []);
      types = (record { node = type.One; at = 11 } ∷ record { node = type.Named (record { 0 = 0 }); at = 50 } ∷
          []);
      terms = (term_node.Var 34 (record { 0 = 0 }) ∷ []);
      code = (node.Close 54 ∷ []);
      fns = (record {
        name =
            codes "a";
        at = 17;
        pars = ((record { 0 = 0 }, record { lists = 0; base = base.Int }) ∷ []);
        gives = record {
          lists = 0;
          base = base.Int;
        };
        body = record { 0 = 0 };
      } ∷ []);
      procs = (record {
        name = codes "a";
        mode =
            mode.R;
        me = None;
        values = ([]);
        channels = ([]);
        amount = amount.Written 0;
        offers = record { 0 = 1 };
        first =
            record { 0 = 0 };
      } ∷ []);
      labels = ([]);
    }
unfolding build_type build_branches build_term build_terms build_code build_last build_arms
three_spaces-program = refl

-- type R a = +{ l : 1 | k : 1 | l : a };
abbrev label_twice : FileTree
label_twice =
    record {
      cost = None;
      decls = ((definition 0 offered.R (record { name = codes "a"; at = 7 }) (choice
          side.Provider 11 (branch (record { name = codes "l"; at = 14 }) (one 18) (branch (record {
            name = codes "k";
            at
                = 22;
          }) (one 26) (branch (record { name = codes "l"; at = 30 }) (named (record { name = codes "a"; at = 34 }))
          (no_branches)))))) ∷ []);
    }

label_twice-name : first_broken (claims_of label_twice) ≡ Some 30
unfolding type_claims branch_claims term_claims terms_claims code_claims last_claims arm_claims
label_twice-name = refl

-- proc R p(;): 1 = call q(;);
abbrev undeclared_process : FileTree
undeclared_process =
    record {
      cost = None;
      decls = ((process 0 offered.R (record { name = codes "p"; at = 7 }) (record {
        values =
            ([]);
        channels = ([]);
      }) None (one 13) (code ([]) (calling 17 (record { name = codes "q"; at = 22 }) (record {
        values = ([]);
        channels = ([]);
      })))) ∷ []);
    }

undeclared_process-name : first_broken (claims_of undeclared_process) ≡ Some 22
unfolding type_claims branch_claims term_claims terms_claims code_claims last_claims arm_claims
undeclared_process-name = refl

-- fn f(x: int): int = g(x);
abbrev undeclared_function : FileTree
undeclared_function =
    record {
      cost = None;
      decls = ((function 0 (record { name = codes "f"; at = 3 }) (record {
        name = record {
          name
              = codes "x";
          at = 5;
        };
        value = record { lists = ([]); base = base.Int; base_at = 8 };
      } ∷ []) (record {
        lists =
            ([]);
        base = base.Int;
        base_at = 14;
      }) (application (record { name = codes "g"; at = 20 }) (term (variable
          (record { name = codes "x"; at = 22 })) (no_terms)))) ∷ []);
    }

undeclared_function-name : first_broken (claims_of undeclared_function) ≡ Some 20
unfolding type_claims branch_claims term_claims terms_claims code_claims last_claims arm_claims
undeclared_function-name = refl

-- proc R p(x: int; a: 1): 1 = wait x; close;
abbrev value_as_channel : FileTree
value_as_channel =
    record {
      cost = None;
      decls = ((process 0 offered.R (record { name = codes "p"; at = 7 }) (record {
        values =
            (record {
              name = record { name = codes "x"; at = 9 };
              list = None;
              value = record {
                lists = ([]);
                base =
                    base.Int;
                base_at = 12;
              };
            } ∷ []);
        channels = (record {
          name = record { name = codes "a"; at = 17 };
          goes = one
              20;
        } ∷ []);
      }) None (one 24) (code ((wait 28 (record { name = codes "x"; at = 33 })) ∷ []) (close 36))) ∷ []);
    }

value_as_channel-name : first_broken (claims_of value_as_channel) ≡ Some 33
unfolding type_claims branch_claims term_claims terms_claims code_claims last_claims arm_claims
value_as_channel-name = refl

-- proc R p(x: int; a: 1): 1 = let y = a + 1; close;
abbrev channel_in_term : FileTree
channel_in_term =
    record {
      cost = None;
      decls = ((process 0 offered.R (record { name = codes "p"; at = 7 }) (record {
        values =
            (record {
              name = record { name = codes "x"; at = 9 };
              list = None;
              value = record {
                lists = ([]);
                base =
                    base.Int;
                base_at = 12;
              };
            } ∷ []);
        channels = (record {
          name = record { name = codes "a"; at = 17 };
          goes = one
              20;
        } ∷ []);
      }) None (one 24) (code ((binding 28 (record { name = codes "y"; at = 32 }) (binary op.Add 38
          (variable (record { name = codes "a"; at = 36 })) (number 40 1))) ∷ []) (close 43))) ∷ []);
    }

channel_in_term-name : first_broken (claims_of channel_in_term) ≡ Some 36
unfolding type_claims branch_claims term_claims terms_claims code_claims last_claims arm_claims
channel_in_term-name = refl

-- proc R p(; a: 1): 1 = spawn a = p(; a); close;
abbrev bound_again : FileTree
bound_again =
    record {
      cost = None;
      decls = ((process 0 offered.R (record { name = codes "p"; at = 7 }) (record {
        values =
            ([]);
        channels = (record { name = record { name = codes "a"; at = 11 }; goes = one 14 } ∷ []);
      }) None (one 18)
          (code ((spawn 22 (record { name = codes "a"; at = 28 }) (record { name = codes "p"; at = 32 }) (record {
            values
                = ([]);
            channels = (record { name = codes "a"; at = 36 } ∷ []);
          })) ∷ []) (close 40))) ∷ []);
    }

bound_again-name : first_broken (claims_of bound_again) ≡ Some 28
unfolding type_claims branch_claims term_claims terms_claims code_claims last_claims arm_claims
bound_again-name = refl

-- proc R p(; a: 1): 1 = wait a; spawn a = p(; a); close;
abbrev used_up_stays_bound : FileTree
used_up_stays_bound =
    record {
      cost = None;
      decls = ((process 0 offered.R (record { name = codes "p"; at = 7 }) (record {
        values =
            ([]);
        channels = (record { name = record { name = codes "a"; at = 11 }; goes = one 14 } ∷ []);
      }) None (one 18)
          (code ((wait 22 (record { name = codes "a"; at = 27 })) ∷ (spawn 30 (record { name = codes "a"; at = 36 })
          (record { name = codes "p"; at = 40 }) (record {
            values = ([]);
            channels = (record { name = codes "a"; at = 44 }
                ∷ []);
          })) ∷ []) (close 48))) ∷ []);
    }

used_up_stays_bound-name : first_broken (claims_of used_up_stays_bound) ≡ Some 36
unfolding type_claims branch_claims term_claims terms_claims code_claims last_claims arm_claims
used_up_stays_bound-name = refl

-- proc R p(; a: 1): 1 = wait a; fwd b;
abbrev unbound : FileTree
unbound =
    record {
      cost = None;
      decls = ((process 0 offered.R (record { name = codes "p"; at = 7 }) (record {
        values =
            ([]);
        channels = (record { name = record { name = codes "a"; at = 11 }; goes = one 14 } ∷ []);
      }) None (one 18)
          (code ((wait 22 (record { name = codes "a"; at = 27 })) ∷ [])
          (fwd 30 (record { name = codes "b"; at = 34 }))))
          ∷ []);
    }

unbound-name : first_broken (claims_of unbound) ≡ Some 34
unfolding type_claims branch_claims term_claims terms_claims code_claims last_claims arm_claims
unbound-name = refl

-- proc R p(;): 1 = let v = v; close;
abbrev binder_in_own_term : FileTree
binder_in_own_term =
    record {
      cost = None;
      decls = ((process 0 offered.R (record { name = codes "p"; at = 7 }) (record {
        values =
            ([]);
        channels = ([]);
      }) None (one 13) (code ((binding 17 (record { name = codes "v"; at = 21 }) (variable
          (record { name = codes "v"; at = 25 }))) ∷ []) (close 28))) ∷ []);
    }

binder_in_own_term-name : first_broken (claims_of binder_in_own_term) ≡ Some 25
unfolding type_claims branch_claims term_claims terms_claims code_claims last_claims arm_claims
binder_in_own_term-name = refl

-- proc R p(; a: 1): 1 = case a { l => close | l => close };
abbrev case_label_twice : FileTree
case_label_twice =
    record {
      cost = None;
      decls = ((process 0 offered.R (record { name = codes "p"; at = 7 }) (record {
        values =
            ([]);
        channels = (record { name = record { name = codes "a"; at = 11 }; goes = one 14 } ∷ []);
      }) None (one 18)
          (code ([]) (case 22 (chan.Variable (record { name = codes "a"; at = 27 })) (arm (record {
            name = codes "l";
            at =
                31;
          }) (code ([]) (close 36)) (arm (record { name = codes "l"; at = 44 }) (code ([]) (close 49)) (no_arms)))))) ∷
          []);
    }

case_label_twice-name : first_broken (claims_of case_label_twice) ≡ Some 44
unfolding type_claims branch_claims term_claims terms_claims code_claims last_claims arm_claims
case_label_twice-name = refl

-- fn f(x: list int): int = match x { nil => 0 | h :: h => h };
abbrev names_of_match_differ : FileTree
names_of_match_differ =
    record {
      cost = None;
      decls = ((function 0 (record { name = codes "f"; at = 3 }) (record {
        name = record {
          name
              = codes "x";
          at = 5;
        };
        value = record { lists = (8 ∷ []); base = base.Int; base_at = 13 };
      } ∷ []) (record {
        lists = ([]);
        base = base.Int;
        base_at = 19;
      }) (matching 25 (variable (record { name = codes "x"; at = 31 }))
          (number 42 0) (record { name = codes "h"; at = 46 }) (record { name = codes "h"; at = 51 })
          (variable (record {
            name = codes "h";
            at = 56;
          })))) ∷ []);
    }

names_of_match_differ-name : first_broken (claims_of names_of_match_differ) ≡ Some 51
unfolding type_claims branch_claims term_claims terms_claims code_claims last_claims arm_claims
names_of_match_differ-name = refl

-- fn f(x: list int): int = match x { nil => h | h :: t => h };
abbrev head_bound_in_second_branch : FileTree
head_bound_in_second_branch =
    record {
      cost = None;
      decls = ((function 0 (record { name = codes "f"; at = 3 }) (record {
        name = record {
          name
              = codes "x";
          at = 5;
        };
        value = record { lists = (8 ∷ []); base = base.Int; base_at = 13 };
      } ∷ []) (record {
        lists = ([]);
        base = base.Int;
        base_at = 19;
      }) (matching 25 (variable (record { name = codes "x"; at = 31 }))
          (variable (record { name = codes "h"; at = 42 })) (record { name = codes "h"; at = 46 }) (record {
            name = codes
                "t";
            at = 51;
          }) (variable (record { name = codes "h"; at = 56 })))) ∷ []);
    }

head_bound_in_second_branch-name : first_broken (claims_of head_bound_in_second_branch) ≡ Some 42
unfolding type_claims branch_claims term_claims terms_claims code_claims last_claims arm_claims
head_bound_in_second_branch-name = refl

-- proc R p(;): 1 = emit me; close;
abbrev payer_outside : FileTree
payer_outside =
    record {
      cost = None;
      decls = ((process 0 offered.R (record { name = codes "p"; at = 7 }) (record {
        values =
            ([]);
        channels = ([]);
      }) None (one 13) (code ((emit 17 (me 22)) ∷ []) (close 26))) ∷ []);
    }

payer_outside-name : first_broken (claims_of payer_outside) ≡ Some 22
unfolding type_claims branch_claims term_claims terms_claims code_claims last_claims arm_claims
payer_outside-name = refl

-- proc T t(;) = emit me; close;
abbrev payer_inside : FileTree
payer_inside =
    record {
      cost = None;
      decls = ((transaction 0 (record { name = codes "t"; at = 7 }) (record {
        values = ([]);
        channels = ([]);
      }) None (code ((emit 14 (me 19)) ∷ []) (close 23))) ∷ []);
    }

payer_inside-names : first_broken (claims_of payer_inside) ≡ None
unfolding type_claims branch_claims term_claims terms_claims code_claims last_claims arm_claims
payer_inside-names = refl

payer_inside-program :
    program_of payer_inside ≡ record {
      defs = ([]);
      types = (record { node = type.One; at = 0 } ∷ []);
      terms =
          (term_node.Var 19 (record { 0 = 0 }) ∷ []);
      code = (node.Close 23 ∷ node.Emit 14 (record { 0 = 0 }) (record {
        0
            = 0;
      }) ∷ []);
      fns = ([]);
      procs = (record {
        name = codes "t";
        mode = mode.T;
        me = Some (record { 0 = 0 });
        values = ([]);
        channels = ([]);
        amount = amount.Written 0;
        offers = record { 0 = 0 };
        first = record { 0 = 1 };
      }
          ∷ []);
      labels = ([]);
    }
unfolding build_type build_branches build_term build_terms build_code build_last build_arms
payer_inside-program = refl

-- proc R p(xs: list {1} int;): 1 = emit xs; close;
abbrev list_in_term : FileTree
list_in_term =
    record {
      cost = None;
      decls = ((process 0 offered.R (record { name = codes "p"; at = 7 }) (record {
        values =
            (record {
              name = record { name = codes "xs"; at = 9 };
              list = Some (record {
                list_at = 13;
                potential = record {
                  at = 18;
                  quantity = quantity.Number 1;
                  quantity_at = 19;
                };
              });
              value = record {
                lists = ([]);
                base = base.Int;
                base_at = 22;
              };
            } ∷ []);
        channels = ([]);
      }) None (one 29) (code ((emit 33 (variable (record {
        name = codes "xs";
        at = 38;
      }))) ∷ []) (close 42))) ∷ []);
    }

list_in_term-name : first_broken (claims_of list_in_term) ≡ Some 38
unfolding type_claims branch_claims term_claims terms_claims code_claims last_claims arm_claims
list_in_term-name = refl

-- proc R p(x: int;): 1 = match x { nil => close | h :: t => close };
abbrev value_matched : FileTree
value_matched =
    record {
      cost = None;
      decls = ((process 0 offered.R (record { name = codes "p"; at = 7 }) (record {
        values =
            (record {
              name = record { name = codes "x"; at = 9 };
              list = None;
              value = record {
                lists = ([]);
                base =
                    base.Int;
                base_at = 12;
              };
            } ∷ []);
        channels = ([]);
      }) None (one 19) (code ([]) (code_match 23 (record {
        name =
            codes "x";
        at = 29;
      }) (code ([]) (close 40)) (record { name = codes "h"; at = 48 }) (record {
        name = codes "t";
        at = 53;
      }) (code ([]) (close 58))))) ∷ []);
    }

value_matched-name : first_broken (claims_of value_matched) ≡ Some 29
unfolding type_claims branch_claims term_claims terms_claims code_claims last_claims arm_claims
value_matched-name = refl
