-- What a production makes of tokens is what a tree prints: every file of the grammar has a tree.
use Rattle.std.proofs.Common.{◌≡◌, List, [], ◌∷◌, map, Option, Some, None, ap, sym, subst, arith}
use Rattle.nomos_grammar.specs.declared.part.Nonterminal.TheVariants as the_production
use Rattle.nomos_grammar.specs.declared.part.Terminal.TheVariants as terminal
use Rattle.nomos_grammar.proofs.StandLemmas.{nothing_left}
use Rattle.nomos_grammar.specs.Producing.{Fits, first, later, IsFile, file, tokens_in}
use Rattle.nomos_grammar.specs.Grammar.{the}
use Rattle.nomos_ir.specs.declared.kind.Base.TheVariants as base
use Rattle.nomos_ir.specs.declared.word.Word.TheVariants as word
use Rattle.nomos_surface.specs.declared.declarations.OfferedMode.{OfferedMode}
use Rattle.nomos_surface.specs.declared.declarations.OfferedMode.TheVariants as mode
use Rattle.nomos_surface.specs.declared.declarations.ListPotential.{ListPotential}
use Rattle.nomos_surface.specs.declared.declarations.ProcessPar.{ProcessPar}
use Rattle.nomos_surface.specs.declared.declarations.ValuePar.{ValuePar}
use Rattle.nomos_surface.specs.declared.surface.CostModel.{CostModel}
use Rattle.nomos_surface.specs.declared.surface.CostModel.TheVariants as cost
use Rattle.nomos_surface.specs.declared.value_type.ValueType.{ValueType}
use Rattle.nomos_syntax.specs.declared.symbol.Symbol.TheVariants as sym
use Rattle.nomos_syntax.specs.Lexeme.{Placed}
use Rattle.nomos_surface.specs.Printed.{Printer, Spells, sign, keyword, print_name, print_more, print_parted}
use Rattle.nomos_surface.specs.Print.{print_optional, print_value_type, print_type, print_term, print_value_par, print_list_potential, print_par, print_chan_par, print_pars, mode_word, print_body, print_decl, print_decls, cost_word, print_cost, print_file}
use Rattle.nomos_surface.specs.Grammatical.{Each, IsChanPar, ArePars, IsDecl, IsGrammatical}
use Rattle.nomos_surface.specs.Tree.{ChanParTree, ParTrees, DeclTree, definition, function, process, transaction, FileTree}
use Rattle.nomos_surface.proofs.Fitting.{meets_sign, meets_keyword, meets_keyword_at, name_of, meets_name}
use Rattle.nomos_surface.proofs.Makes.{Makes, made_token, made_mark, made, MakesAll, made_none, made_more, front_of, rules_in}
use Rattle.nomos_surface.proofs.TypesMade.{Printed, Any, potential_made, optional_made, value_type_made, type_made}
use Rattle.nomos_surface.proofs.TermsMade.{term_made}
use Rattle.nomos_surface.proofs.CodesMade.{code_made}

-- declarations

-- what stands behind the `:` of a value parameter: the potential of a list, where it is one, and a type
abbrev pub ParKind : Type 0
ParKind = Option ListPotential × ValueType

abbrev pub print_kind : ParKind → Printer
print_kind k after = print_list_potential k.0 (print_value_type k.1 after)

after_par_list_made : {ts us : List Placed} (x : Placed) → Fits (terminal.Reserved word.List) x.lexeme →
    Makes (the the_production.AfterParameterList) ts us → Printed ParKind Any print_kind (x ∷ ts) us
after_par_list_made x f (made _ first (made_more potential (made_more element made_none))) =
    let q = potential_made potential in
    let t = value_type_made element in
    record {
      tree = (Some (record { list_at = x.at; potential = q.tree }), t.tree);
      is = tt;
      reads = λ after h. (meets_keyword_at word.List x f, q.reads (print_value_type t.tree after) (t.reads after h));
    }
after_par_list_made x f (made _ (later first)
    (made_more made_mark (made_more element (made_more made_mark made_none)))) =
    let t = value_type_made element in
    record {
      tree = (None, record { lists = x.at ∷ t.tree.lists; base = t.tree.base; base_at = t.tree.base_at });
      is = tt;
      reads = λ after h. (meets_keyword_at word.List x f, t.reads after h);
    }
after_par_list_made _ _ (made _ (later (later gap)) _) = elim gap [ ]

kind_made : {ts us : List Placed} → Makes (the the_production.ParameterKind) ts us
    → Printed ParKind Any print_kind ts us
kind_made (made _ first (made_more made_mark (made_more (made_token {x = x} f) (made_more others made_none)))) =
    after_par_list_made x f others
kind_made (made _ (later first)
    (made_more made_mark (made_more made_mark (made_more (made_token {x = x} f) (made_more made_mark made_none))))) =
    record {
      tree = (None, record { lists = []; base = base.Int; base_at = x.at });
      is = tt;
      reads = λ after h. (meets_keyword_at word.Int x f, h);
    }
kind_made (made _ (later (later first))
    (made_more made_mark (made_more made_mark (made_more (made_token {x = x} f) (made_more made_mark made_none))))) =
    record {
      tree = (None, record { lists = []; base = base.Bool; base_at = x.at });
      is = tt;
      reads = λ after h. (meets_keyword_at word.Bool x f, h);
    }
kind_made (made _ (later (later (later gap))) _) = elim gap [ ]

par_made : {ts us : List Placed} → Makes (the the_production.ValueParameter) ts us
    → Printed ProcessPar Any print_par ts us
par_made (made _ first (made_more (made_token {x = x} f)
    (made_more (made_token {x = y} g) (made_more kind made_none)))) =
    let k = kind_made kind in
    record {
      tree = record { name = name_of x f; «list» = k.tree.0; value = k.tree.1 };
      is = tt;
      reads = λ after h. (meets_name x f, (meets_sign sym.Colon y g, k.reads after h));
    }
par_made (made _ (later gap) _) = elim gap [ ]

value_par_made : {ts us : List Placed} → Makes (the the_production.FunctionParameter) ts us
    → Printed ValuePar Any print_value_par ts us
value_par_made (made _ first (made_more (made_token {x = x} f)
    (made_more (made_token {x = y} g) (made_more element made_none)))) =
    let t = value_type_made element in
    record {
      tree = record { name = name_of x f; value = t.tree };
      is = tt;
      reads = λ after h. (meets_name x f, (meets_sign sym.Colon y g, t.reads after h));
    }
value_par_made (made _ (later gap) _) = elim gap [ ]

chan_par_made : {ts us : List Placed} → Makes (the the_production.ChannelParameter) ts us
    → Printed ChanParTree IsChanPar print_chan_par ts us
chan_par_made (made _ first (made_more (made_token {x = x} f)
    (made_more (made_token {x = y} g) (made_more goes made_none)))) =
    let t = type_made goes in
    record {
      tree = record { name = name_of x f; goes = t.tree };
      is = t.is;
      reads = λ after h. (meets_name x f, (meets_sign sym.Colon y g, t.reads after h));
    }
chan_par_made (made _ (later gap) _) = elim gap [ ]

more_pars_made : {ts us : List Placed} → Makes (the the_production.MoreValueParameters) ts us →
    Printed (List ProcessPar) (Any) (λ ps. print_more sym.Comma (map print_par ps)) ts us
more_pars_made (made _ first (made_more (made_token {x = x} f) (made_more item (made_more others made_none)))) =
    let p = par_made item in
    let r = more_pars_made others in
    record {
      tree = p.tree ∷ r.tree;
      is = tt;
      reads = λ after h. (meets_sign sym.Comma x f, p.reads _ (r.reads after h));
    }
more_pars_made (made _ (later first) made_none) = record { tree = []; is = tt; reads = λ after h. h }
more_pars_made (made _ (later (later gap)) _) = elim gap [ ]

pars_made : {ts us : List Placed} → Makes (the the_production.ValueParameters) ts us →
    Printed (List ProcessPar) (Any) (λ ps. print_parted sym.Comma (map print_par ps)) ts us
pars_made (made _ first (made_more item (made_more others made_none))) =
    let p = par_made item in
    let r = more_pars_made others in
    record { tree = p.tree ∷ r.tree; is = tt; reads = λ after h. p.reads _ (r.reads after h) }
pars_made (made _ (later first) made_none) = record { tree = []; is = tt; reads = λ after h. h }
pars_made (made _ (later (later gap)) _) = elim gap [ ]

more_value_pars_made : {ts us : List Placed} → Makes (the the_production.MoreFunctionParameters) ts us →
    Printed (List ValuePar) (Any) (λ ps. print_more sym.Comma (map print_value_par ps)) ts us
more_value_pars_made (made _ first (made_more (made_token {x = x} f) (made_more item (made_more others made_none)))) =
    let p = value_par_made item in
    let r = more_value_pars_made others in
    record {
      tree = p.tree ∷ r.tree;
      is = tt;
      reads = λ after h. (meets_sign sym.Comma x f, p.reads _ (r.reads after h));
    }
more_value_pars_made (made _ (later first) made_none) = record { tree = []; is = tt; reads = λ after h. h }
more_value_pars_made (made _ (later (later gap)) _) = elim gap [ ]

value_pars_made : {ts us : List Placed} → Makes (the the_production.FunctionParameters) ts us →
    Printed (List ValuePar) (Any) (λ ps. print_parted sym.Comma (map print_value_par ps)) ts us
value_pars_made (made _ first (made_more item (made_more others made_none))) =
    let p = value_par_made item in
    let r = more_value_pars_made others in
    record { tree = p.tree ∷ r.tree; is = tt; reads = λ after h. p.reads _ (r.reads after h) }
value_pars_made (made _ (later first) made_none) = record { tree = []; is = tt; reads = λ after h. h }
value_pars_made (made _ (later (later gap)) _) = elim gap [ ]

more_chan_pars_made : {ts us : List Placed} → Makes (the the_production.MoreChannelParameters) ts us →
    Printed (List ChanParTree) (Each IsChanPar) (λ ps. print_more sym.Comma (map print_chan_par ps)) ts us
more_chan_pars_made (made _ first (made_more (made_token {x = x} f) (made_more item (made_more others made_none)))) =
    let p = chan_par_made item in
    let r = more_chan_pars_made others in
    record {
      tree = p.tree ∷ r.tree;
      is = (p.is, r.is);
      reads = λ after h. (meets_sign sym.Comma x f, p.reads _ (r.reads after h));
    }
more_chan_pars_made (made _ (later first) made_none) = record { tree = []; is = tt; reads = λ after h. h }
more_chan_pars_made (made _ (later (later gap)) _) = elim gap [ ]

chan_pars_made : {ts us : List Placed} → Makes (the the_production.ChannelParameters) ts us →
    Printed (List ChanParTree) (Each IsChanPar) (λ ps. print_parted sym.Comma (map print_chan_par ps)) ts us
chan_pars_made (made _ first (made_more item (made_more others made_none))) =
    let p = chan_par_made item in
    let r = more_chan_pars_made others in
    record { tree = p.tree ∷ r.tree; is = (p.is, r.is); reads = λ after h. p.reads _ (r.reads after h) }
chan_pars_made (made _ (later first) made_none) = record { tree = []; is = tt; reads = λ after h. h }
chan_pars_made (made _ (later (later gap)) _) = elim gap [ ]

pars_together_made : {ts us : List Placed} → Makes (the the_production.Parameters) ts us
    → Printed ParTrees ArePars print_pars ts us
pars_together_made (made _ first
    (made_more (made_token {x = x} f)
    (made_more values (made_more (made_token {x = y} g)
    (made_more channels (made_more (made_token {x = z} k) made_none)))))) =
    let v = pars_made values in
    let c = chan_pars_made channels in
    record {
      tree = record { values = v.tree; channels = c.tree };
      is = c.is;
      reads = λ after h. (
        meets_sign sym.OpenParen x f,
        v.reads (sign sym.Semicolon ∷ print_parted sym.Comma (map print_chan_par c.tree) (sign sym.CloseParen ∷ after))
            (meets_sign sym.Semicolon y g, c.reads (sign sym.CloseParen ∷ after) (meets_sign sym.CloseParen z k, h)),
      );
    }
pars_together_made (made _ (later gap) _) = elim gap [ ]

mode_made : {ts us : List Placed} → Makes (the the_production.DefinitionMode) ts us →
    Printed OfferedMode Any (λ m after. keyword (mode_word m) ∷ after) ts us
mode_made (made _ first (made_more (made_token {x = x} f) made_none)) =
    record { tree = mode.R; is = tt; reads = λ after h. (meets_keyword word.R x f, h) }
mode_made (made _ (later first) (made_more (made_token {x = x} f) made_none)) =
    record { tree = mode.S; is = tt; reads = λ after h. (meets_keyword word.S x f, h) }
mode_made (made _ (later (later first)) (made_more (made_token {x = x} f) made_none)) =
    record { tree = mode.L; is = tt; reads = λ after h. (meets_keyword word.L x f, h) }
mode_made (made _ (later (later (later gap))) _) = elim gap [ ]

-- a process or a transaction, behind its first token
proc_made : {ts us : List Placed} (x : Placed) → Fits (terminal.Reserved word.Proc) x.lexeme →
    Makes (the the_production.Process) ts us → Printed DeclTree IsDecl print_decl (x ∷ ts) us
proc_made x f (made _ first (made_more (made_token {x = x1} f1)
    (made_more (made_token {x = x2} f2)
    (made_more pars (made_more amount
    (made_more (made_token {x = x3} f3) (made_more inner (made_more (made_token {x = x4} f4) made_none)))))))) =
    let p = pars_together_made pars in
    let q = optional_made amount in
    let c = code_made inner in
    record {
      tree = transaction x.at (name_of x2 f2) p.tree q.tree c.tree;
      is = (p.is, c.is);
      reads = λ after h. (
        meets_keyword_at word.Proc x f,
        (
          meets_keyword word.T x1 f1,
          (
            meets_name x2 f2,
            p.reads (print_optional q.tree (print_body c.tree after)) (q.reads (print_body c.tree after) (
              meets_sign sym.Equals x3 f3,
              c.reads (sign sym.Semicolon ∷ after)
                  (meets_sign sym.Semicolon x4 f4, h),
            )),
          ),
        ),
      );
    }
proc_made x f (made _ (later first)
    (made_more mode_part (made_more (made_token {x = x2} f2)
    (made_more pars (made_more amount
    (made_more (made_token {x = x3} f3)
    (made_more offers (made_more (made_token {x = x4} f4)
    (made_more inner (made_more (made_token {x = x5} f5) made_none)))))))))) =
    let m = mode_made mode_part in
    let p = pars_together_made pars in
    let q = optional_made amount in
    let t = type_made offers in
    let c = code_made inner in
    record {
      tree = process x.at m.tree (name_of x2 f2) p.tree q.tree t.tree c.tree;
      is = (p.is, t.is, c.is);
      reads = λ after h. (
        meets_keyword_at word.Proc x f,
        m.reads (print_name (name_of x2 f2) ∷
            print_pars p.tree (print_optional q.tree (sign sym.Colon ∷ print_type t.tree (print_body c.tree after)))) (
              meets_name x2 f2,
              p.reads (print_optional q.tree (sign sym.Colon ∷ print_type t.tree (print_body c.tree after)))
                  (q.reads (sign sym.Colon ∷ print_type t.tree (print_body c.tree after)) (
                    meets_sign sym.Colon x3 f3,
                    t.reads (print_body c.tree after) (
                      meets_sign sym.Equals x4 f4,
                      c.reads (sign sym.Semicolon ∷ after)
                          (meets_sign sym.Semicolon x5 f5, h),
                    ),
                  )),
            ),
      );
    }
proc_made _ _ (made _ (later (later gap)) _) = elim gap [ ]

decl_made : {ts us : List Placed} → Makes (the the_production.Declaration) ts us
    → Printed DeclTree IsDecl print_decl ts us
decl_made (made _ first (made_more made_mark
    (made_more (made_token {x = x} f)
    (made_more mode_part (made_more (made_token {x = x1} f1)
    (made_more (made_token {x = x2} f2) (made_more body (made_more (made_token {x = x3} f3) made_none)))))))) =
    let m = mode_made mode_part in
    let t = type_made body in
    record {
      tree = definition x.at m.tree (name_of x1 f1) t.tree;
      is = t.is;
      reads = λ after h. (
        meets_keyword_at word.«Type» x f,
        m.reads (print_name (name_of x1 f1) ∷ sign sym.Equals ∷ print_type t.tree (sign sym.Semicolon ∷ after)) (
          meets_name x1 f1,
          (
            meets_sign sym.Equals x2 f2,
            t.reads (sign sym.Semicolon ∷ after) (meets_sign sym.Semicolon x3 f3, h),
          ),
        ),
      );
    }
decl_made (made _ (later first)
    (made_more made_mark (made_more (made_token {x = x} f)
    (made_more (made_token {x = x1} f1)
    (made_more (made_token {x = x2} f2)
    (made_more pars (made_more (made_token {x = x3} f3)
    (made_more (made_token {x = x4} f4)
    (made_more gives (made_more (made_token {x = x5} f5)
    (made_more body (made_more (made_token {x = x6} f6) made_none)))))))))))) =
    let p = value_pars_made pars in
    let v = value_type_made gives in
    let t = term_made body in
    record {
      tree = function x.at (name_of x1 f1) p.tree v.tree t.tree;
      is = t.is;
      reads = λ after h. (
        meets_keyword_at word.Fn x f,
        (
          meets_name x1 f1,
          (
            meets_sign sym.OpenParen x2 f2,
            p.reads (sign sym.CloseParen ∷ sign sym.Colon ∷
                print_value_type v.tree (sign sym.Equals ∷ print_term t.tree (sign sym.Semicolon ∷ after))) (
                  meets_sign sym.CloseParen x3 f3,
                  (
                    meets_sign sym.Colon x4 f4,
                    v.reads (sign sym.Equals ∷ print_term t.tree (sign sym.Semicolon ∷ after)) (
                      meets_sign sym.Equals x5 f5,
                      t.reads (sign sym.Semicolon ∷ after) (meets_sign sym.Semicolon x6 f6, h),
                    ),
                  ),
                ),
          ),
        ),
      );
    }
decl_made (made _ (later (later first))
    (made_more made_mark (made_more (made_token {x = x} f) (made_more others made_none)))) = proc_made x f others
decl_made (made _ (later (later (later gap))) _) = elim gap [ ]

decls_made : {ts us : List Placed} → Makes (the the_production.Declarations) ts us
    → Printed (List DeclTree) (Each IsDecl) print_decls ts us
decls_made (made _ first (made_more item (made_more others made_none))) =
    let d = decl_made item in
    let r = decls_made others in
    record { tree = d.tree ∷ r.tree; is = (d.is, r.is); reads = λ after h. d.reads _ (r.reads after h) }
decls_made (made _ (later first) made_none) = record { tree = []; is = tt; reads = λ after h. h }
decls_made (made _ (later (later gap)) _) = elim gap [ ]

-- files

model_made : {ts us : List Placed} → Makes (the the_production.CostModel) ts us →
    Printed CostModel Any (λ m after. keyword (cost_word m) ∷ after) ts us
model_made (made _ first (made_more (made_token {x = x} f) made_none)) =
    record { tree = cost.Ticks; is = tt; reads = λ after h. (meets_keyword word.Ticks x f, h) }
model_made (made _ (later first) (made_more (made_token {x = x} f) made_none)) =
    record { tree = cost.Sends; is = tt; reads = λ after h. (meets_keyword word.Sends x f, h) }
model_made (made _ (later (later first)) (made_more (made_token {x = x} f) made_none)) =
    record { tree = cost.All; is = tt; reads = λ after h. (meets_keyword word.All x f, h) }
model_made (made _ (later (later (later gap))) _) = elim gap [ ]

abbrev pub print_front : FileTree → Printer
print_front f after = print_cost f.cost (print_decls f.decls after)

file_made : {ts us : List Placed} → Makes (the the_production.File) ts us
    → Printed FileTree IsGrammatical print_front ts us
file_made (made _ first (made_more (made_token {x = x} f)
    (made_more model (made_more (made_token {x = y} g) (made_more others made_none))))) =
    let m = model_made model in
    let r = decls_made others in
    record {
      tree = record { cost = Some (record { at = x.at; model = m.tree }); decls = r.tree };
      is = r.is;
      reads = λ after h. (
        meets_keyword_at word.Cost x f,
        m.reads (sign sym.Semicolon ∷ print_decls r.tree after) (meets_sign sym.Semicolon y g, r.reads after h),
      );
    }
file_made (made _ (later first) (made_more item (made_more others made_none))) =
    let d = decl_made item in
    let r = decls_made others in
    record {
      tree = record { cost = None; decls = d.tree ∷ r.tree };
      is = (d.is, r.is);
      reads = λ after h. d.reads _ (r.reads after h);
    }
file_made (made _ (later (later first)) made_none) =
    record { tree = record { cost = None; decls = [] }; is = tt; reads = λ after h. h }
file_made (made _ (later (later (later gap))) _) = elim gap [ ]

-- the whole of the tokens
whole_made : {tokens : List Placed} {others : List Placed} → others ≡ [] → MakesAll file tokens others →
    (f : FileTree) × IsGrammatical f × Spells (print_file f) tokens
whole_made none (made_more whole made_none) =
    let r = file_made whole in
    (r.tree, r.is, r.reads [] (subst (λ (ts : List Placed). Spells [] ts) (sym none) tt))

-- Every file of the grammar is what a tree that stands for a text prints.
pub file-has_tree : (tokens : List Placed) → IsFile tokens
    → (f : FileTree) × IsGrammatical f × Spells (print_file f) tokens
file-has_tree tokens is =
    let r = front_of (rules_in is.1) file [] is.0 is.1 (omega arith) in
    let end : tokens_in r.others ≡ [] = ap tokens_in (nothing_left r.derived) in
    whole_made end (subst (λ (ts : List Placed). MakesAll file ts (tokens_in r.others)) is.2 r.made)
