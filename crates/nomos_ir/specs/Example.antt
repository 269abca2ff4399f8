-- A small program, by which the definitions are tried: two definitions, a function and a process.
use Rattle.std.specs.Prelude.{[], ◌∷◌, codes, None}
use Rattle.nomos_ir.specs.declared.amount.Amount.TheVariants as amount
use Rattle.nomos_ir.specs.declared.code_node.CodeNode.TheVariants as code
use Rattle.nomos_ir.specs.declared.kind.Base.TheVariants as base
use Rattle.nomos_ir.specs.declared.lists.ProgramLists.{ProgramLists}
use Rattle.nomos_ir.specs.declared.mode.Mode.TheVariants as mode
use Rattle.nomos_ir.specs.declared.term_node.TermNode.TheVariants as term
use Rattle.nomos_ir.specs.declared.type_node.TypeNode.TheVariants as form

-- type R a = 1; type R b = +{ok : a}; fn f(v : int) : int = v; proc R p {*2} : a = close
abbrev pub example : ProgramLists
example =
    record {
      defs =
          record { name = codes "a"; mode = mode.R; body = record { 0 = 0 } }
          ∷ record { name = codes "b"; mode = mode.R; body = record { 0 = 2 } }
          ∷ [];
      types =
          record { node = form.One; at = 11 }
          ∷ record { node = form.Named (record { 0 = 0 }); at = 31 }
          ∷ record { node = form.Plus (record { label = record { 0 = 0 }; goes = record { 0 = 1 } } ∷ []); at = 25 }
          ∷ record { node = form.Named (record { 0 = 0 }); at = 73 }
          ∷ [];
      terms = term.Var 57 (record { 0 = 0 }) ∷ [];
      code = code.Close 77 ∷ [];
      fns =
          record {
            name = codes "f";
            at = 38;
            pars = (record { 0 = 0 }, record { lists = 0; base = base.Int }) ∷ [];
            gives = record { lists = 0; base = base.Int };
            body = record { 0 = 0 };
          }
          ∷ [];
      procs =
          record {
            name = codes "p";
            mode = mode.R;
            me = None;
            values = [];
            channels = [];
            amount = amount.Star 2;
            offers = record { 0 = 3 };
            first = record { 0 = 0 };
          }
          ∷ [];
      labels = codes "ok" ∷ [];
    }
