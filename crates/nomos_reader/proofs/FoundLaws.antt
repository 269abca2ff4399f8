-- What the reader of files finds in tokens that a file prints, so that a list of tokens has at most one tree.
use Rattle.std.proofs.Common.{◌≡◌, ℕ, zero, suc, ◌≤◌, true, false, List, [], ◌∷◌, ◌++◌, length, map, Option, Some, None, Result, Ok, Err, IfOk, refl, sym, ap, ◌∙◌, arith}
use Rattle.nomos_grammar.specs.declared.part.Nonterminal.TheVariants as the_production
use Rattle.nomos_ir.specs.declared.kind.Base.{Base}
use Rattle.nomos_ir.specs.declared.kind.Base.TheVariants as base
use Rattle.nomos_ir.specs.declared.word.Word.TheVariants as word
use Rattle.nomos_reader.proofs.CodeFound.{code_found, append_nil}
use Rattle.nomos_reader.proofs.Found.{Found, AllBegin, Begins, FindsAll, append_more, at_this, first_of_shown, potential_found, until_found, value_type_found, with_this}
use Rattle.nomos_reader.proofs.StepFound.{AnyEnds, whole_found}
use Rattle.nomos_reader.proofs.TermFronts.{any_ends}
use Rattle.nomos_reader.proofs.TypeFound.{EndsType, sign_ends_type, type_found}
use Rattle.nomos_reader.specs.TreeOf.{IsTreeOf}
use Rattle.nomos_surface.specs.declared.declarations.ListPotential.{ListPotential}
use Rattle.nomos_surface.specs.declared.declarations.OfferedMode.{OfferedMode}
use Rattle.nomos_surface.specs.declared.declarations.OfferedMode.TheVariants as mode
use Rattle.nomos_surface.specs.declared.declarations.ProcessPar.{ProcessPar}
use Rattle.nomos_surface.specs.declared.declarations.ValuePar.{ValuePar}
use Rattle.nomos_surface.specs.declared.name_at.NameAt.{NameAt}
use Rattle.nomos_surface.specs.declared.potential.Potential.{Potential}
use Rattle.nomos_surface.specs.declared.surface.CostLine.{CostLine}
use Rattle.nomos_surface.specs.declared.surface.CostModel.{CostModel}
use Rattle.nomos_surface.specs.declared.surface.CostModel.TheVariants as cost
use Rattle.nomos_surface.specs.declared.value_type.ValueType.{ValueType}
use Rattle.nomos_surface.specs.Grammatical.{ArePars, Each, IsChanPar, IsCode, IsDecl, IsGrammatical, IsTerm, IsType}
use Rattle.nomos_reader.specs.mirror.Codes.{whole_term}
use Rattle.nomos_reader.specs.mirror.Files.{begins_list, cost_from, decl_from, is_cost, list_potential_from, mode_from, model_from, proc_from, read_all_pars, read_body, read_chan_par, read_chan_pars, read_decl, read_decls, read_definition, read_file, read_function, read_par, read_pars, read_process, read_transaction, read_value_par, read_value_pars, whole_code, whole_type}
use Rattle.nomos_reader.specs.mirror.Front.{front_kind, is_list_end, is_open_brace, read_optional, read_value_type, rest_of}
use Rattle.nomos_surface.specs.Print.{base_word, cost_word, mode_word, print_body, print_chan_par, print_code, print_cost, print_decl, print_decls, print_file, print_list_potential, print_lists, print_optional, print_par, print_pars, print_term, print_type, print_value_par, print_value_type}
use Rattle.nomos_surface.specs.Printed.{Shown, Meets, Printer, Spells, sign, keyword, keyword_at, print_name, print_parted}
use Rattle.nomos_surface.specs.Tree.{TypeTree, TermTree, CodeTree, ChanParTree, ParTrees, DeclTree, definition, function, process, transaction, FileTree}
use Rattle.nomos_syntax.specs.declared.symbol.Symbol.{Symbol}
use Rattle.nomos_syntax.specs.declared.symbol.Symbol.TheVariants as sym
use Rattle.nomos_syntax.specs.declared.token.TokenKind.TheVariants as kind
use Rattle.nomos_syntax.specs.Lexeme.{name, reserved, symbol, Placed}

-- a type, and a code, with as much room as there are tokens

whole_type_found : (t : TypeTree) → IsType the_production.SessionType t → (after : List Shown) (tokens : List Placed)
    → EndsType after → Spells (print_type t after) tokens →
    Found TypeTree whole_type t after tokens
whole_type_found t is after tokens ends h =
    let f = type_found is (length tokens) after tokens ends (omega arith) h in
    record { rest = f.rest; read = f.read; spelled = f.spelled; shorter = f.shorter }

whole_code_found : (c : CodeTree) → IsCode c → (after : List Shown) (tokens : List Placed)
    → Spells (print_code c after) tokens → Found CodeTree whole_code c after tokens
whole_code_found c is after tokens h =
    let f = code_found c is (length tokens) after tokens (omega arith) h in
    record { rest = f.rest; read = f.read; spelled = f.spelled; shorter = f.shorter }

-- `=`, a code and `;`
body_made : (c : CodeTree) (x : Placed) (ts us : List Placed) (z : Placed) (vs : List Placed) → whole_code ts ≡ (c, us)
    → us ≡ z ∷ vs → read_body (x ∷ ts) ≡ (c, vs)
unfolding read_body
body_made c x ts us z vs e w =
    ap (λ (p : CodeTree × List Placed). let r : CodeTree × List Placed = (p.0, rest_of p.1) in r) e
    ∙ ap (λ os. let r : CodeTree × List Placed = (c, rest_of os) in r) w

body_found : (c : CodeTree) → IsCode c → (after : List Shown) (tokens : List Placed)
    → Spells (print_body c after) tokens → Found CodeTree read_body c after tokens
body_found c is after [] h = absurd h
body_found c is after (x ∷ ts) h =
    let f = whole_code_found c is (sign sym.Semicolon ∷ after) ts h.1 in
    let z = first_of_shown (sign sym.Semicolon) after f.rest f.spelled in
    record {
      rest = z.others;
      read = body_made c x ts f.rest z.first z.others f.read z.whole;
      spelled = z.spelled;
      shorter = omega (arith, f.shorter, ap length z.whole);
    }

-- parameters

-- a name and `:`, and what is behind them
value_par_made : (n : NameAt) (t : ValueType) (x y : Placed) (ts us : List Placed) → Meets (print_name n) x
    → read_value_type ts ≡ (t, us) →
    ◌≡◌ {A = ValuePar × List Placed} (read_value_par (x ∷ y ∷ ts)) (record { name = n; value = t }, us)
unfolding read_value_par
value_par_made n t x y ts us m e =
    at_this (λ z. ◌≡◌ {A = ValuePar × List Placed} (read_value_par (z ∷ y ∷ ts)) (record { name = n; value = t }, us))
    n.at (name n.name) x m
    (ap (λ (p : ValueType × List Placed). let r : ValuePar × List Placed = (record { name = n; value = p.0 }, p.1) in r)
    e)

value_par_found : (p : ValuePar) (after : List Shown) (tokens : List Placed) → Spells (print_value_par p after) tokens
    → Found ValuePar read_value_par p after tokens
value_par_found p after [] h = absurd h
value_par_found p after (x ∷ []) h = absurd h.1
value_par_found p after (x ∷ y ∷ ts) h =
    let f = value_type_found p.value after ts h.1.1 in
    record {
      rest = f.rest;
      read = value_par_made p.name p.value x y ts f.rest h.0 f.read;
      spelled = f.spelled;
      shorter = omega (arith, f.shorter);
    }

chan_par_made : (n : NameAt) (t : TypeTree) (x y : Placed) (ts us : List Placed) → Meets (print_name n) x
    → whole_type ts ≡ (t, us) →
    ◌≡◌ {A = ChanParTree × List Placed} (read_chan_par (x ∷ y ∷ ts)) (record { name = n; goes = t }, us)
unfolding read_chan_par
chan_par_made n t x y ts us m e =
    at_this (λ z. ◌≡◌ {A = ChanParTree × List Placed} (read_chan_par (z ∷ y ∷ ts)) (record { name = n; goes = t }, us))
    n.at (name n.name) x m
    (ap (λ (p : TypeTree × List Placed). let r : ChanParTree
    × List Placed = (record { name = n; goes = p.0 }, p.1) in r) e)

chan_par_found : (p : ChanParTree) → IsChanPar p → (after : List Shown) (tokens : List Placed) → EndsType after
    → Spells (print_chan_par p after) tokens →
    Found ChanParTree read_chan_par p after tokens
chan_par_found p is after [] ends h = absurd h
chan_par_found p is after (x ∷ []) ends h = absurd h.1
chan_par_found p is after (x ∷ y ∷ ts) ends h =
    let f = whole_type_found p.goes is after ts ends h.1.1 in
    record {
      rest = f.rest;
      read = chan_par_made p.name p.goes x y ts f.rest h.0 f.read;
      spelled = f.spelled;
      shorter = omega (arith, f.shorter);
    }

-- no value type begins as a list parameter does

inside_no_brace : (lists : List ℕ) (at : ℕ) (b : Base) (after : List Shown) (tokens : List Placed)
    → Spells (print_lists lists (keyword_at at (base_word b)) after) tokens →
    is_open_brace (front_kind tokens) ≡ false
inside_no_brace [] at b after [] h = absurd h
inside_no_brace [] at base.Int after (x ∷ ts) h =
    at_this (λ z. is_open_brace (front_kind (z ∷ ts)) ≡ false) at (reserved word.Int) x h.0 refl
inside_no_brace [] at base.Bool after (x ∷ ts) h =
    at_this (λ z. is_open_brace (front_kind (z ∷ ts)) ≡ false) at (reserved word.Bool) x h.0 refl
inside_no_brace (l ∷ lists) at b after [] h = absurd h
inside_no_brace (l ∷ lists) at b after (x ∷ ts) h =
    at_this (λ z. is_open_brace (front_kind (z ∷ ts)) ≡ false) l (reserved word.List) x h.0 refl

no_list_begins : (lists : List ℕ) (at : ℕ) (b : Base) (after : List Shown) (tokens : List Placed)
    → Spells (print_lists lists (keyword_at at (base_word b)) after) tokens →
    begins_list tokens ≡ false
no_list_begins [] at b after [] h = absurd h
no_list_begins [] at base.Int after (x ∷ ts) h =
    at_this (λ z. begins_list (z ∷ ts) ≡ false) at (reserved word.Int) x h.0 refl
no_list_begins [] at base.Bool after (x ∷ ts) h =
    at_this (λ z. begins_list (z ∷ ts) ≡ false) at (reserved word.Bool) x h.0 refl
no_list_begins (l ∷ lists) at b after [] h = absurd h
no_list_begins (l ∷ lists) at b after (x ∷ ts) h =
    at_this (λ z. begins_list (z ∷ ts) ≡ false) l (reserved word.List) x h.0 (inside_no_brace lists at b after ts h.1)

list_potential_found : (l : Option ListPotential) (t : ValueType) (after : List Shown) (tokens : List Placed) →
    Spells (print_list_potential l (print_value_type t after)) tokens →
    Found (Option ListPotential) (λ ts. list_potential_from (begins_list ts) ts) l (print_value_type t after) tokens
list_potential_found None t after tokens h =
    record {
      rest = tokens;
      read = rw (no_list_begins t.lists t.base_at t.base after tokens h) refl;
      spelled = h;
      shorter = omega arith;
    }
list_potential_found (Some l) t after [] h = absurd h
list_potential_found (Some l) t after (x ∷ []) h = absurd h.1
list_potential_found (Some l) t after (x ∷ y ∷ ts) h =
    let f = potential_found l.potential (print_value_type t after) (y ∷ ts) h.1 in
    let brace : is_open_brace (front_kind (y ∷ ts)) ≡ true =
    at_this (λ z. is_open_brace (front_kind (z ∷ ts)) ≡ true) l.potential.at (symbol sym.OpenBrace) y h.1.0 refl in
    let front : (begins_list (x ∷ y ∷ ts) ≡ true) × (x.at ≡ l.list_at) =
    at_this (λ z. (begins_list (z ∷ y ∷ ts) ≡ true) × (z.at ≡ l.list_at)) l.list_at (reserved word.List) x h.0
    (brace, refl) in
    record {
      rest = f.rest;
      read = ap (λ b. list_potential_from b (x ∷ y ∷ ts)) front.0
          ∙ ap (λ (p : Potential × List Placed). let r : Option ListPotential
          × List Placed = (Some (record { list_at = x.at; potential = p.0 }), p.1) in r) f.read
          ∙ ap (λ a. let r : Option ListPotential
          × List Placed = (Some (record { list_at = a; potential = l.potential }), f.rest) in r) front.1;
      spelled = f.spelled;
      shorter = omega (arith, f.shorter);
    }

value_pars_all : (room : ℕ) (ps : List ValuePar)
    → FindsAll ValuePar read_value_par AnyEnds room ps (map print_value_par ps)
value_pars_all room [] = tt
value_pars_all room (p ∷ ps) = (
  record { some = λ after h. h; find = λ after tokens ends le h. value_par_found p after tokens h },
  value_pars_all room ps,
)

par_made : (n : NameAt) (l : Option ListPotential) (t : ValueType) (x y : Placed) (ts us vs : List Placed)
    → Meets (print_name n) x →
    list_potential_from (begins_list ts) ts ≡ (l, us) → read_value_type us ≡ (t, vs) →
    ◌≡◌ {A = ProcessPar × List Placed} (read_par (x ∷ y ∷ ts)) (record { name = n; «list» = l; value = t }, vs)
unfolding read_par
par_made n l t x y ts us vs m e f =
    at_this (λ z. ◌≡◌ {A = ProcessPar × List Placed} (read_par (z ∷ y ∷ ts))
    (record { name = n; «list» = l; value = t }, vs)) n.at (name n.name) x m
    (ap (λ (p : Option ListPotential × List Placed). let r : ProcessPar
    × List Placed = (record { name = n; «list» = p.0; value = (read_value_type p.1).0 }, (read_value_type p.1).1) in
    r) e
    ∙ ap (λ (p : ValueType × List Placed). let r : ProcessPar
    × List Placed = (record { name = n; «list» = l; value = p.0 }, p.1) in r) f)

par_found : (p : ProcessPar) (after : List Shown) (tokens : List Placed) → Spells (print_par p after) tokens
    → Found ProcessPar read_par p after tokens
par_found p after [] h = absurd h
par_found p after (x ∷ []) h = absurd h.1
par_found p after (x ∷ y ∷ ts) h =
    let f = list_potential_found p.«list» p.value after ts h.1.1 in
    let g = value_type_found p.value after f.rest f.spelled in
    record {
      rest = g.rest;
      read = par_made p.name p.«list» p.value x y ts f.rest g.rest h.0 f.read g.read;
      spelled = g.spelled;
      shorter = omega (arith, f.shorter, g.shorter);
    }

pars_all : (room : ℕ) (ps : List ProcessPar) → FindsAll ProcessPar read_par AnyEnds room ps (map print_par ps)
pars_all room [] = tt
pars_all room (p ∷ ps) =
    (record { some = λ after h. h; find = λ after tokens ends le h. par_found p after tokens h }, pars_all room ps)

chan_pars_all : (room : ℕ) (ps : List ChanParTree) → Each IsChanPar ps
    → FindsAll ChanParTree read_chan_par EndsType room ps (map print_chan_par ps)
chan_pars_all room [] each = tt
chan_pars_all room (p ∷ ps) each = (
  record { some = λ after h. h; find = λ after tokens ends le h. chan_par_found p each.0 after tokens ends h },
  chan_pars_all room ps each.1,
)

-- a parameter begins with its name

named_begins : (n : NameAt) (rest : Printer) → Begins (λ after. print_name n ∷ rest after)
named_begins n rest after [] h = absurd h
named_begins n rest after (x ∷ tokens) h =
    at_this (λ y. is_list_end (front_kind (y ∷ tokens)) ≡ false) n.at (name n.name) x h.0 refl

value_pars_begin : (ps : List ValuePar) → AllBegin (map print_value_par ps)
value_pars_begin [] = tt
value_pars_begin (p ∷ ps) =
    (named_begins p.name (λ after. sign sym.Colon ∷ print_value_type p.value after), value_pars_begin ps)

pars_begin : (ps : List ProcessPar) → AllBegin (map print_par ps)
pars_begin [] = tt
pars_begin (p ∷ ps) = (
  named_begins p.name (λ after. sign sym.Colon ∷ print_list_potential p.«list» (print_value_type p.value after)),
  pars_begin ps,
)

chan_pars_begin : (ps : List ChanParTree) → AllBegin (map print_chan_par ps)
chan_pars_begin [] = tt
chan_pars_begin (p ∷ ps) = (named_begins p.name (λ after. sign sym.Colon ∷ print_type p.goes after), chan_pars_begin ps)

all_pars_made : (values : List ProcessPar) (channels : List ChanParTree) (x : Placed) (ts us : List Placed) (y : Placed)
    (vs ws : List Placed) (z : Placed) (os : List Placed) →
    read_pars ts ≡ (values, us) → us ≡ y ∷ vs → read_chan_pars vs ≡ (channels, ws) → ws ≡ z ∷ os →
    ◌≡◌ {A = ParTrees × List Placed} (read_all_pars (x ∷ ts)) (record { values = values; channels = channels }, os)
unfolding read_all_pars
all_pars_made values channels x ts us y vs ws z os e w f k =
    ap (λ (p : List ProcessPar × List Placed). let r : ParTrees
    × List Placed = (
      record { values = p.0; channels = (read_chan_pars (rest_of p.1)).0 },
      rest_of (read_chan_pars (rest_of p.1)).1,
    ) in r) e
    ∙ ap (λ q. let r : ParTrees × List Placed =
    (record { values = values; channels = (read_chan_pars (rest_of q)).0 }, rest_of (read_chan_pars (rest_of q)).1) in
    r) w
    ∙ ap (λ (p : List ChanParTree × List Placed). let r : ParTrees
    × List Placed = (record { values = values; channels = p.0 }, rest_of p.1) in r) f
    ∙ ap (λ q. let r : ParTrees × List Placed = (record { values = values; channels = channels }, rest_of q) in r) k

all_pars_found : (p : ParTrees) → ArePars p → (after : List Shown) (tokens : List Placed)
    → Spells (print_pars p after) tokens → Found ParTrees read_all_pars p after tokens
all_pars_found p are after [] h = absurd h
all_pars_found p are after (x ∷ ts) h =
    let back : List Shown = print_parted sym.Comma (map print_chan_par p.channels) (sign sym.CloseParen ∷ after) in
    let v = until_found ProcessPar read_par AnyEnds (length ts) (λ after2. tt) p.values (map print_par p.values)
    (length ts) sym.Semicolon back ts
    (pars_all (length ts) p.values) (pars_begin p.values) tt refl refl (omega arith) (omega arith) h.1 in
    let y = first_of_shown (sign sym.Semicolon) back v.rest v.spelled in
    let c = until_found ChanParTree read_chan_par EndsType (length y.others)
    (λ after2. sign_ends_type sym.Comma after2 refl) p.channels (map print_chan_par p.channels)
    (length y.others) sym.CloseParen after y.others (chan_pars_all (length y.others) p.channels are)
    (chan_pars_begin p.channels)
    (sign_ends_type sym.CloseParen after refl) refl refl (omega arith) (omega arith) y.spelled in
    let z = first_of_shown (sign sym.CloseParen) after c.rest c.spelled in
    record {
      rest = z.others;
      read =
          all_pars_made p.values p.channels x ts v.rest y.first y.others c.rest z.first z.others v.read y.whole c.read
          z.whole;
      spelled = z.spelled;
      shorter = omega (arith, v.shorter, c.shorter, ap length y.whole, ap length z.whole);
    }

-- a potential that may be left out, where no `{` follows it
optional_found : (q : Option Potential) (after : List Shown) (tokens : List Placed) →
    ((us : List Placed) → Spells after us → is_open_brace (front_kind us) ≡ false)
    → Spells (print_optional q after) tokens →
    Found (Option Potential) read_optional q after tokens
optional_found None after tokens quiet h =
    record { rest = tokens; read = rw (quiet tokens h) refl; spelled = h; shorter = omega arith }
optional_found (Some q) after [] quiet h = absurd h
optional_found (Some q) after (x ∷ ts) quiet h =
    let f = potential_found q after (x ∷ ts) h in
    let brace : is_open_brace (front_kind (x ∷ ts))
    ≡ true = at_this (λ z. is_open_brace (front_kind (z ∷ ts)) ≡ true) q.at (symbol sym.OpenBrace) x h.0 refl in
    record {
      rest = f.rest;
      read =
          rw brace (ap (λ (p : Potential × List Placed). let r : Option Potential × List Placed = (Some p.0, p.1) in r)
          f.read);
      spelled = f.spelled;
      shorter = f.shorter;
    }

no_brace_sign : (s : Symbol) (after : List Shown) → is_open_brace (Some (kind.Symbol s)) ≡ false → (us : List Placed)
    → Spells (sign s ∷ after) us →
    is_open_brace (front_kind us) ≡ false
no_brace_sign s after e [] h = absurd h
no_brace_sign s after e (x ∷ us) h = with_this (λ z. is_open_brace (front_kind (z ∷ us)) ≡ false) (symbol s) x h.0 e

-- declarations

-- a declaration is found, and it has a token
abbrev FoundDecl : DeclTree → List Shown → List Placed → Type 0
FoundDecl d after tokens = (f : Found DeclTree read_decl d after tokens) × (suc (length f.rest) ≤ length tokens)

mode_said : (m : OfferedMode) (y : Placed) (ts : List Placed) → Meets (keyword (mode_word m)) y
    → mode_from (front_kind (y ∷ ts)) ≡ m
mode_said mode.R y ts h = with_this (λ z. mode_from (front_kind (z ∷ ts)) ≡ mode.R) (reserved word.R) y h refl
mode_said mode.S y ts h = with_this (λ z. mode_from (front_kind (z ∷ ts)) ≡ mode.S) (reserved word.S) y h refl
mode_said mode.L y ts h = with_this (λ z. mode_from (front_kind (z ∷ ts)) ≡ mode.L) (reserved word.L) y h refl

definition_made : (at : ℕ) (m : OfferedMode) (n : NameAt) (t : TypeTree) (x y z w : Placed) (ts us : List Placed)
    (v : Placed) (vs : List Placed) →
    Meets (keyword_at at word.«Type») x → Meets (keyword (mode_word m)) y → Meets (print_name n) z
    → whole_type ts ≡ (t, us) → us ≡ v ∷ vs →
    read_decl (x ∷ y ∷ z ∷ w ∷ ts) ≡ (definition at m n t, vs)
unfolding decl_from read_definition
definition_made at m n t x y z w ts us v vs hx hy hz e k =
    at_this (λ q. read_decl (q ∷ y ∷ z ∷ w ∷ ts) ≡ (definition at m n t, vs)) at (reserved word.«Type») x hx
    (at_this (λ q. read_decl (record { at = at; lexeme = reserved word.«Type» } ∷ y ∷ q ∷ w ∷ ts)
    ≡ (definition at m n t, vs)) n.at (name n.name) z hz
    (ap (λ m2. let r : DeclTree × List Placed = (definition at m2 n (whole_type ts).0, rest_of (whole_type ts).1) in r)
    (mode_said m y (z ∷ w ∷ ts) hy)
    ∙ ap (λ (p : TypeTree × List Placed). let r : DeclTree × List Placed = (definition at m n p.0, rest_of p.1) in r) e
    ∙ ap (λ q. let r : DeclTree × List Placed = (definition at m n t, rest_of q) in r) k))

definition_found : (at : ℕ) (m : OfferedMode) (n : NameAt) (t : TypeTree) → IsType the_production.SessionType t
    → (after : List Shown) (tokens : List Placed) →
    Spells (print_decl (definition at m n t) after) tokens → FoundDecl (definition at m n t) after tokens
definition_found at m n t is after [] h = absurd h
definition_found at m n t is after (x ∷ []) h = absurd h.1
definition_found at m n t is after (x ∷ y ∷ []) h = absurd h.1.1
definition_found at m n t is after (x ∷ y ∷ z ∷ []) h = absurd h.1.1.1
definition_found at m n t is after (x ∷ y ∷ z ∷ w ∷ ts) h =
    let f = whole_type_found t is (sign sym.Semicolon ∷ after) ts (sign_ends_type sym.Semicolon after refl) h.1.1.1.1 in
    let v = first_of_shown (sign sym.Semicolon) after f.rest f.spelled in (
      record {
        rest = v.others;
        read = definition_made at m n t x y z w ts f.rest v.first v.others h.0 h.1.0 h.1.1.0 f.read v.whole;
        spelled = v.spelled;
        shorter = omega (arith, f.shorter, ap length v.whole);
      },
      omega (arith, f.shorter, ap length v.whole),
    )

-- what is behind the parameters of a function
abbrev gives_of : ℕ → NameAt → List ValuePar → ValueType × List Placed → DeclTree × List Placed
gives_of at n ps v = (function at n ps v.0 (whole_term (rest_of v.1)).0, rest_of (whole_term (rest_of v.1)).1)

abbrev pars_of : ℕ → NameAt → List ValuePar × List Placed → DeclTree × List Placed
pars_of at n p = gives_of at n p.0 (read_value_type (rest_of (rest_of p.1)))

function_made : (at : ℕ) (n : NameAt) (ps : List ValuePar) (v : ValueType) (t : TermTree) (x z w : Placed)
    (ts us : List Placed) (a b : Placed) (vs ws : List Placed)
    (c : Placed) (os bs : List Placed) (d : Placed) (cs : List Placed) → Meets (keyword_at at word.Fn) x
    → Meets (print_name n) z →
    read_value_pars ts ≡ (ps, us) → us ≡ a ∷ b ∷ vs → read_value_type vs ≡ (v, ws) → ws ≡ c ∷ os
    → whole_term os ≡ (t, bs) → bs ≡ d ∷ cs →
    read_decl (x ∷ z ∷ w ∷ ts) ≡ (function at n ps v t, cs)
unfolding decl_from read_function
function_made at n ps v t x z w ts us a b vs ws c os bs d cs hx hz e1 k1 e2 k2 e3 k3 =
    at_this (λ q. read_decl (q ∷ z ∷ w ∷ ts) ≡ (function at n ps v t, cs)) at (reserved word.Fn) x hx
    (at_this (λ q. read_decl (record { at = at; lexeme = reserved word.Fn } ∷ q ∷ w ∷ ts) ≡ (function at n ps v t, cs))
    n.at (name n.name) z hz
    (ap (pars_of at n) e1
    ∙ ap (λ q. gives_of at n ps (read_value_type (rest_of (rest_of q)))) k1
    ∙ ap (gives_of at n ps) e2
    ∙ ap (λ q. let r : DeclTree × List Placed =
    (function at n ps v (whole_term (rest_of q)).0, rest_of (whole_term (rest_of q)).1) in r) k2
    ∙ ap (λ (p : TermTree × List Placed). let r : DeclTree × List Placed = (function at n ps v p.0, rest_of p.1) in r)
    e3
    ∙ ap (λ q. let r : DeclTree × List Placed = (function at n ps v t, rest_of q) in r) k3))

record FirstTwo (s1 s2 : Shown) (after : List Shown) (tokens : List Placed) : Type 0 where
  a : Placed
  b : Placed
  others : List Placed
  whole : tokens ≡ a ∷ b ∷ others
  spelled : Spells after others

two_of : (s1 s2 : Shown) (after : List Shown) (tokens : List Placed) → Spells (s1 ∷ s2 ∷ after) tokens
    → FirstTwo s1 s2 after tokens
two_of s1 s2 after [] h = absurd h
two_of s1 s2 after (x ∷ []) h = absurd h.1
two_of s1 s2 after (x ∷ y ∷ ts) h = record { a = x; b = y; others = ts; whole = refl; spelled = h.1.1 }

function_found : (at : ℕ) (n : NameAt) (ps : List ValuePar) (v : ValueType) (t : TermTree)
    → IsTerm the_production.Term t → (after : List Shown) (tokens : List Placed) →
    Spells (print_decl (function at n ps v t) after) tokens → FoundDecl (function at n ps v t) after tokens
function_found at n ps v t is after [] h = absurd h
function_found at n ps v t is after (x ∷ []) h = absurd h.1
function_found at n ps v t is after (x ∷ z ∷ []) h = absurd h.1.1
function_found at n ps v t is after (x ∷ z ∷ w ∷ ts) h =
    let body : List Shown = sign sym.Equals ∷ print_term t (sign sym.Semicolon ∷ after) in
    let f = until_found ValuePar read_value_par AnyEnds (length ts) (λ after2. tt) ps (map print_value_par ps)
    (length ts) sym.CloseParen
    (sign sym.Colon ∷ print_value_type v body) ts (value_pars_all (length ts) ps) (value_pars_begin ps) tt refl refl
    (omega arith) (omega arith) h.1.1.1 in
    let ab = two_of (sign sym.CloseParen) (sign sym.Colon) (print_value_type v body) f.rest f.spelled in
    let g = value_type_found v body ab.others ab.spelled in
    let c = first_of_shown (sign sym.Equals) (print_term t (sign sym.Semicolon ∷ after)) g.rest g.spelled in
    let k = whole_found t is (sign sym.Semicolon ∷ after) c.others
    (any_ends the_production.Term (symbol sym.Semicolon) after (refl, refl, refl, refl, refl, refl, refl))
    c.spelled in
    let d = first_of_shown (sign sym.Semicolon) after k.rest k.spelled in (
      record {
        rest = d.others;
        read =
            function_made at n ps v t x z w ts f.rest ab.a ab.b ab.others g.rest c.first c.others k.rest d.first
            d.others h.0 h.1.0 f.read ab.whole g.read c.whole k.read d.whole;
        spelled = d.spelled;
        shorter =
            omega (arith, f.shorter, g.shorter, k.shorter, ap length ab.whole, ap length c.whole, ap length d.whole);
      },
      omega (arith, f.shorter, g.shorter, k.shorter, ap length ab.whole, ap length c.whole, ap length d.whole),
    )

abbrev body_of : ℕ → NameAt → ParTrees → Option Potential × List Placed → DeclTree × List Placed
body_of at n ps q = (transaction at n ps q.0 (read_body q.1).0, (read_body q.1).1)

transaction_made : (at : ℕ) (n : NameAt) (ps : ParTrees) (q : Option Potential) (c : CodeTree) (x y z : Placed)
    (ts us vs ws : List Placed) →
    Meets (keyword_at at word.Proc) x → Meets (keyword word.T) y → Meets (print_name n) z → read_all_pars ts ≡ (ps, us)
    → read_optional us ≡ (q, vs) → read_body vs ≡ (c, ws) →
    read_decl (x ∷ y ∷ z ∷ ts) ≡ (transaction at n ps q c, ws)
unfolding decl_from proc_from read_transaction
transaction_made at n ps q c x y z ts us vs ws hx hy hz e f g =
    at_this (λ p. read_decl (p ∷ y ∷ z ∷ ts) ≡ (transaction at n ps q c, ws)) at (reserved word.Proc) x hx
    (with_this (λ p. read_decl (record { at = at; lexeme = reserved word.Proc } ∷ p ∷ z ∷ ts)
    ≡ (transaction at n ps q c, ws)) (reserved word.T) y hy
    (at_this (λ p. read_decl (record { at = at; lexeme = reserved word.Proc } ∷
    record { at = y.at; lexeme = reserved word.T } ∷ p ∷ ts) ≡ (transaction at n ps q c, ws)) n.at (name n.name) z
    hz
    (ap (λ (p : ParTrees × List Placed). body_of at n p.0 (read_optional p.1)) e
    ∙ ap (body_of at n ps) f
    ∙ ap (λ (p : CodeTree × List Placed). let r : DeclTree × List Placed = (transaction at n ps q p.0, p.1) in r) g)))

transaction_found : (at : ℕ) (n : NameAt) (ps : ParTrees) (q : Option Potential) (c : CodeTree) → ArePars ps → IsCode c
    → (after : List Shown) (tokens : List Placed) →
    Spells (print_decl (transaction at n ps q c) after) tokens → FoundDecl (transaction at n ps q c) after tokens
transaction_found at n ps q c are is after [] h = absurd h
transaction_found at n ps q c are is after (x ∷ []) h = absurd h.1
transaction_found at n ps q c are is after (x ∷ y ∷ []) h = absurd h.1.1
transaction_found at n ps q c are is after (x ∷ y ∷ z ∷ ts) h =
    let f = all_pars_found ps are (print_optional q (print_body c after)) ts h.1.1.1 in
    let g = optional_found q (print_body c after) f.rest
    (no_brace_sign sym.Equals (print_code c (sign sym.Semicolon ∷ after)) refl) f.spelled in
    let k = body_found c is after g.rest g.spelled in (
      record {
        rest = k.rest;
        read = transaction_made at n ps q c x y z ts f.rest g.rest k.rest h.0 h.1.0 h.1.1.0 f.read g.read k.read;
        spelled = k.spelled;
        shorter = omega (arith, f.shorter, g.shorter, k.shorter);
      },
      omega (arith, f.shorter, g.shorter, k.shorter),
    )

abbrev offers_of : ℕ → OfferedMode → NameAt → ParTrees → Option Potential × List Placed → DeclTree × List Placed
offers_of at m n ps q = (
  process at m n ps q.0 (whole_type (rest_of q.1)).0 (read_body (whole_type (rest_of q.1)).1).0,
  (read_body (whole_type (rest_of q.1)).1).1,
)

process_behind : (at : ℕ) (m : OfferedMode) (n : NameAt) (ps : ParTrees) (q : Option Potential) (t : TypeTree)
    (c : CodeTree) (z : Placed) (ts us vs : List Placed) (w : Placed) (ws os bs : List Placed) →
    Meets (print_name n) z → read_all_pars ts ≡ (ps, us) → read_optional us ≡ (q, vs) → vs ≡ w ∷ ws
    → whole_type ws ≡ (t, os) → read_body os ≡ (c, bs) →
    read_process at m (z ∷ ts) ≡ (process at m n ps q t c, bs)
unfolding read_process
process_behind at m n ps q t c z ts us vs w ws os bs hz e f k g b =
    at_this (λ p. read_process at m (p ∷ ts) ≡ (process at m n ps q t c, bs)) n.at (name n.name) z hz
    (ap (λ (p : ParTrees × List Placed). offers_of at m n p.0 (read_optional p.1)) e
    ∙ ap (offers_of at m n ps) f
    ∙ ap (λ r. offers_of at m n ps (q, r)) k
    ∙ ap (λ (p : TypeTree × List Placed). let r : DeclTree
    × List Placed = (process at m n ps q p.0 (read_body p.1).0, (read_body p.1).1) in r) g
    ∙ ap (λ (p : CodeTree × List Placed). let r : DeclTree × List Placed = (process at m n ps q t p.0, p.1) in r) b)

process_front : (at : ℕ) (m : OfferedMode) (x y : Placed) (ts : List Placed) → Meets (keyword_at at word.Proc) x
    → Meets (keyword (mode_word m)) y →
    read_decl (x ∷ y ∷ ts) ≡ read_process at m ts
unfolding decl_from proc_from
process_front at mode.R x y ts hx hy =
    at_this (λ p. read_decl (p ∷ y ∷ ts) ≡ read_process at mode.R ts) at (reserved word.Proc) x hx
    (with_this (λ p. read_decl (record { at = at; lexeme = reserved word.Proc } ∷ p ∷ ts) ≡ read_process at mode.R ts)
    (reserved word.R) y hy refl)
process_front at mode.S x y ts hx hy =
    at_this (λ p. read_decl (p ∷ y ∷ ts) ≡ read_process at mode.S ts) at (reserved word.Proc) x hx
    (with_this (λ p. read_decl (record { at = at; lexeme = reserved word.Proc } ∷ p ∷ ts) ≡ read_process at mode.S ts)
    (reserved word.S) y hy refl)
process_front at mode.L x y ts hx hy =
    at_this (λ p. read_decl (p ∷ y ∷ ts) ≡ read_process at mode.L ts) at (reserved word.Proc) x hx
    (with_this (λ p. read_decl (record { at = at; lexeme = reserved word.Proc } ∷ p ∷ ts) ≡ read_process at mode.L ts)
    (reserved word.L) y hy refl)

process_found : (at : ℕ) (m : OfferedMode) (n : NameAt) (ps : ParTrees) (q : Option Potential) (t : TypeTree)
    (c : CodeTree) → ArePars ps → IsType the_production.SessionType t → IsCode c →
    (after : List Shown) (tokens : List Placed) → Spells (print_decl (process at m n ps q t c) after) tokens
    → FoundDecl (process at m n ps q t c) after tokens
process_found at m n ps q t c are is_t is_c after [] h = absurd h
process_found at m n ps q t c are is_t is_c after (x ∷ []) h = absurd h.1
process_found at m n ps q t c are is_t is_c after (x ∷ y ∷ []) h = absurd h.1.1
process_found at m n ps q t c are is_t is_c after (x ∷ y ∷ z ∷ ts) h =
    let offered : List Shown = print_type t (print_body c after) in
    let f = all_pars_found ps are (print_optional q (sign sym.Colon ∷ offered)) ts h.1.1.1 in
    let g = optional_found q (sign sym.Colon ∷ offered) f.rest (no_brace_sign sym.Colon offered refl) f.spelled in
    let w = first_of_shown (sign sym.Colon) offered g.rest g.spelled in
    let k = whole_type_found t is_t (print_body c after) w.others
    (sign_ends_type sym.Equals (print_code c (sign sym.Semicolon ∷ after)) refl) w.spelled in
    let b = body_found c is_c after k.rest k.spelled in (
      record {
        rest = b.rest;
        read = process_front at m x y (z ∷ ts) h.0 h.1.0
            ∙ process_behind at m n ps q t c z ts f.rest g.rest w.first w.others k.rest b.rest h.1.1.0 f.read g.read
            w.whole k.read b.read;
        spelled = b.spelled;
        shorter = omega (arith, f.shorter, g.shorter, k.shorter, b.shorter, ap length w.whole);
      },
      omega (arith, f.shorter, g.shorter, k.shorter, b.shorter, ap length w.whole),
    )

decl_found : (d : DeclTree) → IsDecl d → (after : List Shown) (tokens : List Placed)
    → Spells (print_decl d after) tokens → FoundDecl d after tokens
decl_found (definition at m n t) is after tokens h = definition_found at m n t is after tokens h
decl_found (function at n ps v t) is after tokens h = function_found at n ps v t is after tokens h
decl_found (process at m n ps q t c) is after tokens h = process_found at m n ps q t c is.0 is.1 is.2 after tokens h
decl_found (transaction at n ps q c) is after tokens h = transaction_found at n ps q c is.0 is.1 after tokens h

no_decl : (d : DeclTree) (after : List Shown) → Spells (print_decl d after) [] → ⊥
no_decl (definition at m n t) after h = h
no_decl (function at n ps v t) after h = h
no_decl (process at m n ps q t c) after h = h
no_decl (transaction at n ps q c) after h = h

decls_read : (ds : List DeclTree) → Each IsDecl ds → (n : ℕ) (before : List DeclTree) (tokens : List Placed)
    → length tokens ≤ n → Spells (print_decls ds []) tokens →
    read_decls n before tokens ≡ before ++ ds
unfolding read_decls
decls_read [] each zero before tokens le h = sym (append_nil before)
decls_read [] each (suc n) before [] le h = sym (append_nil before)
decls_read [] each (suc n) before (x ∷ tokens) le h = absurd h
decls_read (d ∷ ds) each n before [] le h = absurd (no_decl d (print_decls ds []) h)
decls_read (d ∷ ds) each zero before (x ∷ tokens) le h = absurd (omega (arith, le))
decls_read (d ∷ ds) each (suc n) before (x ∷ tokens) le h =
    let f = decl_found d each.0 (print_decls ds []) (x ∷ tokens) h in
    ap (λ (p : DeclTree × List Placed). read_decls n (before ++ p.0 ∷ []) p.1) f.0.read
    ∙ decls_read ds each.1 n (before ++ d ∷ []) f.0.rest (omega (arith, le, f.1)) f.0.spelled
    ∙ append_more before d ds

-- files

no_cost : (ds : List DeclTree) (tokens : List Placed) → Spells (print_decls ds []) tokens
    → is_cost (front_kind tokens) ≡ false
no_cost [] [] h = refl
no_cost [] (x ∷ tokens) h = absurd h
no_cost (d ∷ ds) [] h = absurd (no_decl d (print_decls ds []) h)
no_cost (definition at m n t ∷ ds) (x ∷ tokens) h =
    at_this (λ y. is_cost (front_kind (y ∷ tokens)) ≡ false) at (reserved word.«Type») x h.0 refl
no_cost (function at n ps v t ∷ ds) (x ∷ tokens) h =
    at_this (λ y. is_cost (front_kind (y ∷ tokens)) ≡ false) at (reserved word.Fn) x h.0 refl
no_cost (process at m n ps q t c ∷ ds) (x ∷ tokens) h =
    at_this (λ y. is_cost (front_kind (y ∷ tokens)) ≡ false) at (reserved word.Proc) x h.0 refl
no_cost (transaction at n ps q c ∷ ds) (x ∷ tokens) h =
    at_this (λ y. is_cost (front_kind (y ∷ tokens)) ≡ false) at (reserved word.Proc) x h.0 refl

model_said : (m : CostModel) (y : Placed) (ts : List Placed) → Meets (keyword (cost_word m)) y
    → model_from (front_kind (y ∷ ts)) ≡ m
model_said cost.Ticks y ts h =
    with_this (λ z. model_from (front_kind (z ∷ ts)) ≡ cost.Ticks) (reserved word.Ticks) y h refl
model_said cost.Sends y ts h =
    with_this (λ z. model_from (front_kind (z ∷ ts)) ≡ cost.Sends) (reserved word.Sends) y h refl
model_said cost.All y ts h = with_this (λ z. model_from (front_kind (z ∷ ts)) ≡ cost.All) (reserved word.All) y h refl

abbrev file_of : Option CostLine × List Placed → FileTree
file_of c = record { cost = c.0; decls = read_decls (length c.1) [] c.1 }

cost_read : (c : Option CostLine) (ds : List DeclTree) (tokens : List Placed)
    → Spells (print_cost c (print_decls ds [])) tokens →
    (us : List Placed) × (cost_from (is_cost (front_kind tokens)) tokens ≡ (c, us)) × Spells (print_decls ds []) us
cost_read None ds tokens h = (tokens, rw (no_cost ds tokens h) refl, h)
cost_read (Some c) ds [] h = absurd h
cost_read (Some c) ds (x ∷ []) h = absurd h.1
cost_read (Some c) ds (x ∷ y ∷ []) h = absurd h.1.1
cost_read (Some c) ds (x ∷ y ∷ z ∷ ts) h = (
  ts,
  at_this (λ q. cost_from (is_cost (front_kind (q ∷ y ∷ z ∷ ts))) (q ∷ y ∷ z ∷ ts) ≡ (Some c, ts)) c.at
      (reserved word.Cost) x h.0
      (ap (λ m. let r : Option CostLine × List Placed = (Some (record { at = c.at; model = m }), ts) in r)
      (model_said c.model y (z ∷ ts) h.1.0)),
  h.1.1.1,
)

file_read : (c : Option CostLine × List Placed) (tokens : List Placed)
    → cost_from (is_cost (front_kind tokens)) tokens ≡ c → read_file tokens ≡ file_of c
unfolding read_file
file_read c tokens e = ap file_of e

-- The reader of files finds the tree that the tokens are printed of.
pub printed-read : (f : FileTree) → IsGrammatical f → (tokens : List Placed) → Spells (print_file f) tokens
    → read_file tokens ≡ f
printed-read f is tokens h =
    let c = cost_read f.cost f.decls tokens h in
    file_read (f.cost, c.0) tokens c.1
    ∙ ap (λ (ds : List DeclTree). let g : FileTree = record { cost = f.cost; decls = ds } in g)
    (decls_read f.decls is (length c.0) [] c.0 (omega arith) c.2)

-- So what is read is the tree whose tokens these are,
pub read-is_tree : {X E : Type 0} (tree : X → FileTree) (answer : Result X E) (given tokens : List Placed)
    → given ≡ tokens → IfOk answer (λ x. tree x ≡ read_file given) → IfOk answer (λ x. IsTreeOf tokens (tree x))
read-is_tree tree (Ok x) given tokens same is =
    λ other grammatical spelled.
    is ∙ ap read_file same ∙ printed-read other grammatical tokens spelled
read-is_tree tree (Err e) given tokens same is = tt

-- and a list of tokens has at most one tree.
pub printed-unique : (f g : FileTree) → IsGrammatical f → IsGrammatical g → (tokens : List Placed)
    → Spells (print_file f) tokens → Spells (print_file g) tokens → f ≡ g
printed-unique f g is_f is_g tokens h_f h_g = sym (printed-read f is_f tokens h_f) ∙ printed-read g is_g tokens h_g
