-- What the reader of terms does with the tokens of each form.
use Rattle.std.proofs.Common.{◌≡◌, cond, ℕ, zero, suc, ◌≤◌, Bool, true, false, List, [], ◌∷◌, ◌++◌, length, Some, None, refl, sym, ap, ◌∙◌, arith}
use Rattle.nomos_ir.specs.declared.word.Word.TheVariants as word
use Rattle.nomos_reader.proofs.ChainLemmas.{last_head, more_nots, more_step, no_nots}
use Rattle.nomos_reader.proofs.Found.{Found, First, at_this, with_this}
use Rattle.nomos_reader.specs.declared.chain.Chain.{Chain}
use Rattle.nomos_reader.specs.declared.chain.Chain.TheVariants as chain
use Rattle.nomos_surface.specs.declared.name_at.NameAt.{NameAt}
use Rattle.nomos_surface.specs.declared.terms.Operator.{Operator}
use Rattle.nomos_surface.specs.declared.terms.Operator.TheVariants as operator
use Rattle.nomos_surface.specs.declared.value_type.ValueType.{ValueType}
use Rattle.nomos_reader.specs.mirror.Front.{Reader, front_kind, is_open_paren, kind_of, read_name, read_until, read_value_type}
use Rattle.nomos_reader.specs.mirror.Terms.{Heads, compared_from, comparison_in, is_cons, is_not, more_from, named_from, operand_of, operator_in, primary_from, read_chain, read_comparison, read_conses, read_if, read_list_term, read_match, read_more, read_negation, read_nil, read_nots, read_parenthesized, read_primary, read_term, term_from, with_heads, with_nots}
use Rattle.nomos_surface.specs.Print.{print_term, truth_word}
use Rattle.nomos_surface.specs.Printed.{Shown, at_offset, number_at, Meets, Spells, sign, keyword_at, print_name}
use Rattle.nomos_surface.specs.TermView.{term_trees}
use Rattle.nomos_surface.specs.Tree.{TermTree, number, truth, me, variable, application, no_items, binary, negation, choosing, matching, parenthesized}
use Rattle.nomos_syntax.specs.declared.symbol.Symbol.TheVariants as sym
use Rattle.nomos_syntax.specs.Lexeme.{Lexeme, name, reserved, symbol, Placed}
use Rattle.nomos_reader.proofs.TermFronts.{number_kind}

-- terms without operators

pub number_read : (inner : Reader TermTree) (at value : ℕ) (x : Placed) (ts : List Placed)
    → Meets (number_at at value) x
    → read_primary inner (x ∷ ts) ≡ (number at value, ts)
unfolding primary_from
number_read inner at value x ts m =
    let k = number_kind value x.lexeme m.1 in
    rw (k.0, k.1, m.0) refl

pub truth_read : (inner : Reader TermTree) (at : ℕ) (value : Bool) (x : Placed) (ts : List Placed)
    → Meets (keyword_at at (truth_word value)) x →
    read_primary inner (x ∷ ts) ≡ (truth at value, ts)
unfolding primary_from
truth_read inner at true x ts m =
    at_this (λ y. read_primary inner (y ∷ ts) ≡ (truth at true, ts)) at (reserved word.True) x m refl
truth_read inner at false x ts m =
    at_this (λ y. read_primary inner (y ∷ ts) ≡ (truth at false, ts)) at (reserved word.False) x m refl

pub me_read : (inner : Reader TermTree) (at : ℕ) (x : Placed) (ts : List Placed) → Meets (keyword_at at word.Me) x
    → read_primary inner (x ∷ ts) ≡ (me at, ts)
unfolding primary_from
me_read inner at x ts m = at_this (λ y. read_primary inner (y ∷ ts) ≡ (me at, ts)) at (reserved word.Me) x m refl

pub variable_read : (inner : Reader TermTree) (n : NameAt) (x : Placed) (ts : List Placed) → Meets (print_name n) x
    → is_open_paren (front_kind ts) ≡ false →
    read_primary inner (x ∷ ts) ≡ (variable n, ts)
unfolding primary_from named_from
variable_read inner n x ts m quiet =
    at_this (λ y. read_primary inner (y ∷ ts) ≡ (variable n, ts)) n.at (name n.name) x m (rw quiet refl)

pub call_read : (inner : Reader TermTree) (n : NameAt) (l : List TermTree) (x y : Placed) (ts us : List Placed)
    (z : Placed)
    (vs : List Placed) → Meets (print_name n) x →
    Meets (sign sym.OpenParen) y → read_until inner (length ts) ts ≡ (l, us) → us ≡ z ∷ vs →
    read_primary inner (x ∷ y ∷ ts) ≡ (application n (term_trees l), vs)
unfolding primary_from named_from
call_read inner n l x y ts us z vs m o e w =
    at_this (λ v. read_primary inner (v ∷ y ∷ ts) ≡ (application n (term_trees l), vs)) n.at (name n.name) x m
    (with_this (λ v. read_primary inner (record { at = n.at; lexeme = name n.name } ∷ v ∷ ts)
    ≡ (application n (term_trees l), vs)) (symbol sym.OpenParen) y o
    (rw (e, w) refl))

abbrev nil_of : ℕ → ValueType × List Placed → TermTree × List Placed
nil_of at t = (no_items at t.0, t.1)

pub nil_read : (inner : Reader TermTree) (at : ℕ) (v : ValueType) (x : Placed) (ts us : List Placed)
    → Meets (keyword_at at word.Nil) x → read_value_type ts ≡ (v, us) →
    read_primary inner (x ∷ ts) ≡ (no_items at v, us)
unfolding primary_from read_nil
nil_read inner at v x ts us m e =
    at_this (λ y. read_primary inner (y ∷ ts) ≡ (no_items at v, us)) at (reserved word.Nil) x m (ap (nil_of at) e)

pub parenthesized_read : (inner : Reader TermTree) (t : TermTree) (x : Placed) (ts us : List Placed) (z : Placed)
    (vs : List Placed) → Meets (sign sym.OpenParen) x →
    inner ts ≡ (t, us) → us ≡ z ∷ vs → read_primary inner (x ∷ ts) ≡ (parenthesized t, vs)
unfolding primary_from read_parenthesized
parenthesized_read inner t x ts us z vs m e w =
    with_this (λ y. read_primary inner (y ∷ ts) ≡ (parenthesized t, vs)) (symbol sym.OpenParen) x m (rw (e, w) refl)

-- chains

-- the reader of a chain comes to this, before the operators that are left
pub record Chained (operand : Reader TermTree) (c : Chain) (t : TermTree) (after : List Shown)
    (tokens : List Placed) : Type 0 where
  pub turns : ℕ
  pub rest : List Placed
  pub read : read_chain operand c tokens ≡ read_more operand c turns t rest
  pub enough : length rest ≤ turns
  pub spelled : Spells after rest
  pub shorter : length rest ≤ length tokens

first_read : (operand : Reader TermTree) (c : Chain) (t : TermTree) (tokens rest : List Placed)
    → operand tokens ≡ (t, rest) →
    read_chain operand c tokens ≡ read_more operand c (length rest) t rest
unfolding read_chain
first_read operand c t tokens rest e = ap (λ (p : TermTree × List Placed). read_more operand c (length p.1) p.0 p.1) e

pub chain_first : (operand : Reader TermTree) (c : Chain) (t : TermTree) (after : List Shown) (tokens : List Placed)
    → Found TermTree operand t after tokens →
    Chained operand c t after tokens
chain_first operand c t after tokens f =
    record {
      turns = length f.rest;
      rest = f.rest;
      read = first_read operand c t tokens f.rest f.read;
      enough = omega arith;
      spelled = f.spelled;
      shorter = f.shorter;
    }

more_end : (operand : Reader TermTree) (c : Chain) (n : ℕ) (t : TermTree) (rest : List Placed)
    → operator_in c (front_kind rest) ≡ None →
    read_more operand c n t rest ≡ (t, rest)
unfolding read_more
more_end operand c zero t rest e = refl
more_end operand c (suc n) t rest e = rw e refl

pub chain_end : (operand : Reader TermTree) (c : Chain) (t : TermTree) (after : List Shown) (tokens : List Placed)
    (f : Chained operand c t after tokens) →
    operator_in c (front_kind f.rest) ≡ None → Found TermTree (read_chain operand c) t after tokens
chain_end operand c t after tokens f e =
    record {
      rest = f.rest;
      read = f.read
          ∙ more_end operand c f.turns t f.rest e;
      spelled = f.spelled;
      shorter = f.shorter;
    }

more_next : (operand : Reader TermTree) (c : Chain) (n : ℕ) (op : Operator) (at : ℕ) (left right : TermTree)
    (rest : List Placed) (x : Placed) (us ws : List Placed) →
    length rest ≤ n → rest ≡ x ∷ us → operator_in c (front_kind (x ∷ us)) ≡ Some op
    → x.at ≡ at → operand us ≡ (right, ws) →
    (m : ℕ) × (suc m ≡ n) × (read_more operand c n left rest ≡ read_more operand c m (binary op at left right) ws)
unfolding read_more
more_next operand c zero op at left right rest x us ws le w is k e = absurd (omega (arith, le, ap length w))
more_next operand c (suc m) op at left right rest x us ws le w is k e =
    let step : more_from (read_more operand c m) operand left (operator_in c (front_kind (x ∷ us))) (x ∷ us)
    ≡ read_more operand c m (binary op x.at left right) ws =
    more_step (read_more operand c m) operand (operator_in c (front_kind (x ∷ us))) op left right (x ∷ us) ws is
    (sym e) in
    (m, refl, rw w (step ∙ ap (λ a. read_more operand c m (binary op a left right) ws) k))

pub chain_next : (operand : Reader TermTree) (c : Chain) (op : Operator) (at : ℕ) (left right : TermTree) (s : Shown)
    (after : List Shown) (tokens : List Placed)
    (f : Chained operand c left (s ∷ print_term right after) tokens) (x : First s (print_term right after) f.rest) →
    operator_in c (front_kind (x.first ∷ x.others)) ≡ Some op
    → x.first.at ≡ at → Found TermTree operand right after x.others →
    Chained operand c (binary op at left right) after tokens
chain_next operand c op at left right s after tokens f x is k g =
    let n = more_next operand c f.turns op at left right f.rest x.first x.others g.rest f.enough x.whole is k g.read in
    record {
      turns = n.0;
      rest = g.rest;
      read = f.read ∙ n.2;
      enough = omega (arith, n.1, f.enough, g.shorter, ap length x.whole);
      spelled = g.spelled;
      shorter = omega (arith, f.shorter, g.shorter, ap length x.whole);
    }

-- an operator as it is printed
pub operator_said : (c : Chain) (op : Operator) (at : ℕ) (lexeme : Lexeme) (x : Placed) (us : List Placed)
    → Meets (at_offset at lexeme) x →
    operator_in c (Some (kind_of lexeme)) ≡ Some op → (operator_in c (front_kind (x ∷ us)) ≡ Some op) × (x.at ≡ at)
operator_said c op at lexeme x us m e =
    at_this (λ y. (operator_in c (front_kind (y ∷ us)) ≡ Some op) × (y.at ≡ at)) at lexeme x m (e, refl)

-- lists

abbrev pub sum_of : ℕ → Reader TermTree
sum_of room = read_chain (read_chain (read_primary (read_term room)) chain.Product) chain.Sum

pub last_sum_read : (sum : Reader TermTree) (m : ℕ) (heads : Heads) (t : TermTree) (tokens rest : List Placed)
    → sum tokens ≡ (t, rest) → is_cons (front_kind rest) ≡ false →
    read_conses sum (suc m) heads tokens ≡ (with_heads heads t, rest)
unfolding read_conses
last_sum_read sum m heads t tokens rest e none = rw (e, none) refl

pub next_sum_read : (sum : Reader TermTree) (m : ℕ) (heads : Heads) (at : ℕ) (t r : TermTree)
    (tokens rest : List Placed)
    (x : Placed) (us ws : List Placed) →
    sum tokens ≡ (t, rest) → rest ≡ x ∷ us → is_cons (front_kind (x ∷ us)) ≡ true → x.at ≡ at →
    read_conses sum m (heads ++ (t, at) ∷ []) us ≡ (with_heads (heads ++ (t, at) ∷ []) r, ws) →
    read_conses sum (suc m) heads tokens ≡ (with_heads heads (binary operator.Cons at t r), ws)
unfolding read_conses
next_sum_read sum m heads at t r tokens rest x us ws e w is k f =
    let step : read_conses sum (suc m) heads tokens
    ≡ read_conses sum m (heads ++ (t, at) ∷ []) us = rw (e, w, is, k) refl in
    step ∙ f ∙ ap (λ (u : TermTree). let p : TermTree × List Placed = (u, ws) in p) (last_head heads (t, at) r)

pub list_read : (inner : Reader TermTree) (t : TermTree) (tokens rest : List Placed) →
    read_conses (read_chain (read_chain (read_primary inner) chain.Product) chain.Sum) (length tokens) [] tokens
    ≡ (t, rest) → read_list_term inner tokens ≡ (t, rest)
unfolding read_list_term
list_read inner t tokens rest e = e

-- comparisons

pub compare_read : (inner : Reader TermTree) (op : Operator) (at : ℕ) (l r : TermTree) (tokens rest : List Placed)
    (x : Placed) (us ws : List Placed) →
    read_list_term inner tokens ≡ (l, rest) → rest ≡ x ∷ us → comparison_in (front_kind (x ∷ us)) ≡ Some op
    → x.at ≡ at → read_list_term inner us ≡ (r, ws) →
    read_comparison inner tokens ≡ (binary op at l r, ws)
unfolding read_comparison compared_from
compare_read inner op at l r tokens rest x us ws e w is k f = rw (e, w, is, k, f) refl

pub alone_read : (inner : Reader TermTree) (l : TermTree) (tokens rest : List Placed)
    → read_list_term inner tokens ≡ (l, rest) → comparison_in (front_kind rest) ≡ None →
    read_comparison inner tokens ≡ (l, rest)
unfolding read_comparison compared_from
alone_read inner l tokens rest e none = rw (e, none) refl

pub comparison_said : (op : Operator) (at : ℕ) (lexeme : Lexeme) (x : Placed) (us : List Placed)
    → Meets (at_offset at lexeme) x →
    comparison_in (Some (kind_of lexeme)) ≡ Some op → (comparison_in (front_kind (x ∷ us)) ≡ Some op) × (x.at ≡ at)
comparison_said op at lexeme x us m e =
    at_this (λ y. (comparison_in (front_kind (y ∷ us)) ≡ Some op) × (y.at ≡ at)) at lexeme x m (e, refl)

-- negations

abbrev put_not : ℕ → List ℕ × List Placed → List ℕ × List Placed
put_not a p = (a ∷ p.0, p.1)

nots_front : (a : ℕ) (before : List ℕ) (tokens : List Placed)
    → read_nots (a ∷ before) tokens ≡ put_not a (read_nots before tokens)
unfolding read_nots
nots_front a before [] = refl
nots_front a before (x ∷ tokens) =
    let P : Bool → Type 0 = λ b. cond b (read_nots ((a ∷ before) ++ x.at ∷ []) tokens) (a ∷ before, x ∷ tokens)
    ≡ put_not a (cond b (read_nots (before ++ x.at ∷ []) tokens) (before, x ∷ tokens)) in
    elim (is_not (front_kind (x ∷ tokens))) as P [ true ↦ nots_front a (before ++ x.at ∷ []) tokens | false ↦ refl ]

abbrev opposite : ℕ → TermTree × List Placed → TermTree × List Placed
opposite at p = (negation at p.0, p.1)

pub not_read : (inner : Reader TermTree) (at : ℕ) (t : TermTree) (x : Placed) (ts rest : List Placed)
    → Meets (keyword_at at word.Not) x → read_negation inner ts ≡ (t, rest) →
    read_negation inner (x ∷ ts) ≡ (negation at t, rest)
unfolding read_negation
not_read inner at t x ts rest m e =
    let seen : (is_not (front_kind (x ∷ ts)) ≡ true) × (x.at ≡ at) =
    at_this (λ y. (is_not (front_kind (y ∷ ts)) ≡ true) × (y.at ≡ at)) at (reserved word.Not) x m (refl, refl) in
    let nots : read_nots [] (x ∷ ts) ≡ put_not x.at (read_nots [] ts) = more_nots [] (x ∷ ts) seen.0
    ∙ nots_front x.at [] ts in
    ap (λ (n : List ℕ × List Placed). let p : TermTree
    × List Placed = (with_nots n.0 (read_comparison inner n.1).0, (read_comparison inner n.1).1) in p) nots
    ∙ ap (opposite x.at) e
    ∙ ap (λ a. let p : TermTree × List Placed = (negation a t, rest) in p) seen.1

pub compared_read : (inner : Reader TermTree) (t : TermTree) (tokens rest : List Placed)
    → is_not (front_kind tokens) ≡ false → read_comparison inner tokens ≡ (t, rest) →
    read_negation inner tokens ≡ (t, rest)
unfolding read_negation
compared_read inner t tokens rest none e =
    ap (λ (n : List ℕ × List Placed). let p : TermTree
    × List Placed = (with_nots n.0 (read_comparison inner n.1).0, (read_comparison inner n.1).1) in p)
    (no_nots [] tokens none) ∙ e

-- terms of several parts

both : {A B : Type 0} (a c : A) (b d : B) → a ≡ c → b ≡ d → ◌≡◌ {A = A × B} (a, b) (c, d)
both {A} {B} a c b d e f = ap (λ (x : A). let p : A × B = (x, b) in p) e ∙ ap (λ (y : B). let p : A × B = (c, y) in p) f

pub if_read : (room at : ℕ) (t u v : TermTree) (x : Placed) (ts us : List Placed) (y : Placed) (vs ws : List Placed)
    (z : Placed) (os bs : List Placed) →
    Meets (keyword_at at word.If) x → read_term room ts ≡ (t, us) → us ≡ y ∷ vs → read_term room vs ≡ (u, ws)
    → ws ≡ z ∷ os → read_term room os ≡ (v, bs) →
    read_term (suc room) (x ∷ ts) ≡ (choosing at t u v, bs)
unfolding read_term term_from read_if
if_read room at t u v x ts us y vs ws z os bs m e w f k g =
    at_this (λ q. read_term (suc room) (q ∷ ts) ≡ (choosing at t u v, bs)) at (reserved word.If) x m
    (rw (e, w, f, k, g) refl)

pub match_read : (room at : ℕ) (t u v : TermTree) (head tail : NameAt) (x : Placed) (ts us : List Placed)
    (y1 y2 y3 : Placed) (vs ws : List Placed)
    (z1 z2 z3 z4 z5 : Placed) (os bs : List Placed) (last : Placed) (cs : List Placed) →
    Meets (keyword_at at word.Match) x → read_term room ts ≡ (t, us) → us ≡ y1 ∷ y2 ∷ y3 ∷ vs
    → read_term room vs ≡ (u, ws) →
    ws ≡ z1 ∷ z2 ∷ z3 ∷ z4 ∷ z5 ∷ os → Meets (print_name head) z2 → Meets (print_name tail) z4
    → read_term room os ≡ (v, bs) → bs ≡ last ∷ cs →
    read_term (suc room) (x ∷ ts) ≡ (matching at t u head tail v, cs)
unfolding read_term term_from read_match
match_read room at t u v head tail x ts us y1 y2 y3 vs ws z1 z2 z3 z4 z5 os bs last cs m e w f k mh mt g l =
    let hd : (read_name (z2 ∷ z3 ∷ z4 ∷ z5 ∷ os)).0 ≡ head =
    at_this (λ q. (read_name (q ∷ z3 ∷ z4 ∷ z5 ∷ os)).0 ≡ head) head.at (name head.name) z2 mh refl in
    let tl : (read_name (z4 ∷ z5 ∷ os)).0
    ≡ tail = at_this (λ q. (read_name (q ∷ z5 ∷ os)).0 ≡ tail) tail.at (name tail.name) z4 mt refl in
    at_this (λ q. read_term (suc room) (q ∷ ts) ≡ (matching at t u head tail v, cs)) at (reserved word.Match) x m
    (rw (e, w, f, k, g, l) (ap (λ (n : NameAt × NameAt). let p : TermTree
    × List Placed = (matching at t u n.0 n.1 v, cs) in p)
    (both (read_name (z2 ∷ z3 ∷ z4 ∷ z5 ∷ os)).0 head (read_name (z4 ∷ z5 ∷ os)).0 tail hd tl)))

pub chain_read : (room : ℕ) (t : TermTree) (tokens rest : List Placed) →
    term_from (read_term room) (front_kind tokens) tokens
    ≡ read_chain (operand_of (read_term room) chain.Disjunction) chain.Disjunction tokens →
    read_chain (operand_of (read_term room) chain.Disjunction) chain.Disjunction tokens ≡ (t, rest)
    → read_term (suc room) tokens ≡ (t, rest)
unfolding read_term
chain_read room t tokens rest front e = front ∙ e
