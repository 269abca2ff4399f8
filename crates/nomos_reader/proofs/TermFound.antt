-- What the reader of terms finds in tokens that a term prints.
use Rattle.std.proofs.Common.{◌≡◌, ℕ, zero, suc, ◌≤◌, true, false, List, [], ◌∷◌, ◌++◌, length, Some, refl, ap, ◌∙◌, arith}
use Rattle.nomos_grammar.specs.declared.part.Nonterminal.{Nonterminal}
use Rattle.nomos_grammar.specs.declared.part.Nonterminal.TheVariants as the_production
use Rattle.nomos_ir.specs.declared.word.Word.TheVariants as word
use Rattle.nomos_reader.proofs.Found.{Found, First, AllBegin, Begins, Finds, FindsAll, at_this, first_of_shown, until_found, value_type_found}
use Rattle.nomos_reader.specs.declared.chain.Chain.TheVariants as chain
use Rattle.nomos_surface.specs.declared.name_at.NameAt.{NameAt}
use Rattle.nomos_surface.specs.declared.terms.Operator.{Operator}
use Rattle.nomos_surface.specs.declared.terms.Operator.TheVariants as operator
use Rattle.nomos_surface.specs.Grammatical.{IsTerm, is_choosing, is_matching, is_disjunction, is_or, is_conjunction, is_and, is_negation, is_not as is_opposite, is_comparison, is_less, is_equal, is_list_term, is_cons as is_consed, is_sum, is_add, is_sub, is_product, is_mul, is_div, is_rem, is_primary, is_number, is_truth, is_me, is_variable, is_application, is_no_items, is_parenthesized, AreTerms, are_none, are_more}
use Rattle.nomos_reader.specs.mirror.Front.{Reader, front_kind, is_list, is_list_end, is_open_brace, kind_of}
use Rattle.nomos_reader.specs.mirror.Terms.{Heads, comparison_in, is_cons, operand_of, read_chain, read_comparison, read_conses, read_list_term, read_negation, read_primary, read_term, term_from, with_heads}
use Rattle.nomos_surface.specs.Print.{print_heading, print_term, print_terms}
use Rattle.nomos_surface.specs.Printed.{Shown, at_offset, Meets, Spells, sign, sign_at, keyword, keyword_at, print_name}
use Rattle.nomos_surface.specs.TermView.{term_trees}
use Rattle.nomos_surface.specs.Tree.{TermTree, application, binary, matching, TermTrees, no_terms, term}
use Rattle.nomos_syntax.specs.declared.symbol.Symbol.TheVariants as sym
use Rattle.nomos_syntax.specs.Lexeme.{Lexeme, reserved, symbol, Placed}
use Rattle.nomos_reader.proofs.TermFronts.{no_term, no_room, Ends, at_ends, any_ends, low_front, begins_not, begins_item, begins_no_list, begins_no_brace, begins_chain}
use Rattle.nomos_reader.proofs.TermReads.{number_read, truth_read, me_read, variable_read, call_read, nil_read, parenthesized_read, Chained, chain_first, chain_end, chain_next, operator_said, sum_of, last_sum_read, next_sum_read, list_read, compare_read, alone_read, comparison_said, not_read, compared_read, if_read, match_read, chain_read}

-- which reader the first token chooses

abbrev Mid : Nonterminal → Type 0
Mid the_production.Negation = Unit {0}
Mid the_production.Conjunction = Unit {0}
Mid the_production.Disjunction = Unit {0}
Mid _ = ⊥

abbrev Chains : Reader TermTree → List Placed → Type 0
Chains inner tokens =
    (term_from inner (front_kind tokens) tokens
    ≡ read_chain (operand_of inner chain.Disjunction) chain.Disjunction tokens)
    × (is_list_end (front_kind tokens) ≡ false) × (is_list (front_kind tokens) ≡ false)
    × (is_open_brace (front_kind tokens) ≡ false)

mid_front : {n : Nonterminal} {t : TermTree} → IsTerm n t → Mid n
    → (inner : Reader TermTree) (after : List Shown) (tokens : List Placed) →
    Spells (print_term t after) tokens → Chains inner tokens
unfolding term_from
mid_front (is_or a b) mid inner after tokens h = mid_front a tt inner _ tokens h
mid_front (is_conjunction a) mid inner after tokens h = mid_front a tt inner after tokens h
mid_front (is_and a b) mid inner after tokens h = mid_front a tt inner _ tokens h
mid_front (is_negation a) mid inner after tokens h = mid_front a tt inner after tokens h
mid_front (is_opposite a) mid inner after [] h = absurd h
mid_front (is_opposite {at} a) mid inner after (x ∷ tokens) h =
    at_this (λ y. Chains inner (y ∷ tokens)) at (reserved word.Not) x h.0 (refl, refl, refl, refl)
mid_front (is_comparison a) mid inner after tokens h =
    let b = low_front a tt after tokens h in (
      begins_chain inner (front_kind tokens) tokens b,
      begins_item (front_kind tokens) b,
      begins_no_list (front_kind tokens) b,
      begins_no_brace (front_kind tokens) b,
    )
mid_front (is_choosing a b c) mid inner after tokens h = absurd mid
mid_front (is_matching a b c) mid inner after tokens h = absurd mid
mid_front (is_disjunction a) mid inner after tokens h = absurd mid
mid_front (is_less a b) mid inner after tokens h = absurd mid
mid_front (is_equal a b) mid inner after tokens h = absurd mid
mid_front (is_list_term a) mid inner after tokens h = absurd mid
mid_front (is_consed a b) mid inner after tokens h = absurd mid
mid_front (is_sum a) mid inner after tokens h = absurd mid
mid_front (is_add a b) mid inner after tokens h = absurd mid
mid_front (is_sub a b) mid inner after tokens h = absurd mid
mid_front (is_product a) mid inner after tokens h = absurd mid
mid_front (is_mul a b) mid inner after tokens h = absurd mid
mid_front (is_div a b) mid inner after tokens h = absurd mid
mid_front (is_rem a b) mid inner after tokens h = absurd mid
mid_front (is_primary a) mid inner after tokens h = absurd mid
mid_front is_number mid inner after tokens h = absurd mid
mid_front is_truth mid inner after tokens h = absurd mid
mid_front is_me mid inner after tokens h = absurd mid
mid_front is_variable mid inner after tokens h = absurd mid
mid_front (is_application a) mid inner after tokens h = absurd mid
mid_front is_no_items mid inner after tokens h = absurd mid
mid_front (is_parenthesized a) mid inner after tokens h = absurd mid

pub term_begins : {t : TermTree} → IsTerm the_production.Term t → Begins (print_term t)
term_begins (is_choosing a b c) after [] h = absurd h
term_begins (is_choosing {at} a b c) after (x ∷ tokens) h =
    at_this (λ y. is_list_end (front_kind (y ∷ tokens)) ≡ false) at (reserved word.If) x h.0 refl
term_begins (is_matching a b c) after [] h = absurd h
term_begins (is_matching {at} a b c) after (x ∷ tokens) h =
    at_this (λ y. is_list_end (front_kind (y ∷ tokens)) ≡ false) at (reserved word.Match) x h.0 refl
term_begins (is_disjunction a) after tokens h = (mid_front a tt (read_term 0) after tokens h).1

pub term_no_list : {t : TermTree} → IsTerm the_production.Term t → (after : List Shown) (tokens : List Placed)
    → Spells (print_term t after) tokens → is_list (front_kind tokens) ≡ false
term_no_list (is_choosing a b c) after [] h = absurd h
term_no_list (is_choosing {at} a b c) after (x ∷ tokens) h =
    at_this (λ y. is_list (front_kind (y ∷ tokens)) ≡ false) at (reserved word.If) x h.0 refl
term_no_list (is_matching a b c) after [] h = absurd h
term_no_list (is_matching {at} a b c) after (x ∷ tokens) h =
    at_this (λ y. is_list (front_kind (y ∷ tokens)) ≡ false) at (reserved word.Match) x h.0 refl
term_no_list (is_disjunction a) after tokens h = (mid_front a tt (read_term 0) after tokens h).2

pub term_no_brace : {t : TermTree} → IsTerm the_production.Term t → (after : List Shown) (tokens : List Placed)
    → Spells (print_term t after) tokens → is_open_brace (front_kind tokens) ≡ false
term_no_brace (is_choosing a b c) after [] h = absurd h
term_no_brace (is_choosing {at} a b c) after (x ∷ tokens) h =
    at_this (λ y. is_open_brace (front_kind (y ∷ tokens)) ≡ false) at (reserved word.If) x h.0 refl
term_no_brace (is_matching a b c) after [] h = absurd h
term_no_brace (is_matching {at} a b c) after (x ∷ tokens) h =
    at_this (λ y. is_open_brace (front_kind (y ∷ tokens)) ≡ false) at (reserved word.Match) x h.0 refl
term_no_brace (is_disjunction a) after tokens h = (mid_front a tt (read_term 0) after tokens h).3

-- what follows a part of each production, for the reader to find it
abbrev pub Needs : Nonterminal → Nonterminal
Needs the_production.Product = the_production.Primary
Needs the_production.Sum = the_production.Product
Needs the_production.Negation = the_production.Comparison
Needs the_production.Conjunction = the_production.Comparison
Needs the_production.Disjunction = the_production.Conjunction
Needs n = n

-- what is found of a part of each production
abbrev pub PartFound : Nonterminal → ℕ → TermTree → List Shown → List Placed → Type 0
PartFound the_production.Primary room t after tokens = Found TermTree (read_primary (read_term room)) t after tokens
PartFound the_production.Product room t after tokens =
    Chained (read_primary (read_term room)) chain.Product t after tokens
PartFound the_production.Sum room t after tokens =
    Chained (read_chain (read_primary (read_term room)) chain.Product) chain.Sum t after tokens
PartFound the_production.ListTerm room t after tokens =
    (n : ℕ) (heads : Heads) → length tokens ≤ n
    → Found TermTree (λ us. read_conses (sum_of room) n heads us) (with_heads heads t) after tokens
PartFound the_production.Comparison room t after tokens =
    Found TermTree (read_comparison (read_term room)) t after tokens
PartFound the_production.Negation room t after tokens = Found TermTree (read_negation (read_term room)) t after tokens
PartFound the_production.Conjunction room t after tokens =
    Chained (read_negation (read_term room)) chain.Conjunction t after tokens
PartFound the_production.Disjunction room t after tokens =
    Chained (read_chain (read_negation (read_term room)) chain.Conjunction) chain.Disjunction t after tokens
PartFound _ room t after tokens = Unit {0}

list_found : (room : ℕ) (t : TermTree) (after : List Shown) (tokens : List Placed)
    → PartFound the_production.ListTerm room t after tokens →
    Found TermTree (read_list_term (read_term room)) t after tokens
list_found room t after tokens g =
    let f = g (length tokens) [] (omega arith) in
    record {
      rest = f.rest;
      read = list_read (read_term room) t tokens f.rest f.read;
      spelled = f.spelled;
      shorter = f.shorter;
    }

list_next : (room at : ℕ) (l r : TermTree) (after : List Shown) (tokens : List Placed)
    (f : Found TermTree (sum_of room) l (sign_at at sym.DoubleColon ∷ print_term r after) tokens)
    (x : First (sign_at at sym.DoubleColon) (print_term r after) f.rest) →
    ((n : ℕ) (heads : Heads) → length x.others ≤ n
    → Found TermTree (λ us. read_conses (sum_of room) n heads us) (with_heads heads r) after x.others) →
    (length tokens ≤ 0 → ⊥) →
    (n : ℕ) (heads : Heads) → length tokens ≤ n →
    Found TermTree (λ us. read_conses (sum_of room) n heads us) (with_heads heads (binary operator.Cons at l r)) after
    tokens
list_next room at l r after tokens f x g some zero heads in_n = absurd (some in_n)
list_next room at l r after tokens f x g some (suc m) heads in_n =
    let len : suc (length x.others) ≤ length tokens = omega (arith, f.shorter, ap length x.whole) in
    let said : (is_cons (front_kind (x.first ∷ x.others)) ≡ true) × (x.first.at ≡ at) =
    at_this (λ y. (is_cons (front_kind (y ∷ x.others)) ≡ true) × (y.at ≡ at)) at (symbol sym.DoubleColon) x.first
    x.meets (refl, refl) in
    let k = g m (heads ++ (l, at) ∷ []) (omega (arith, in_n, len)) in
    record {
      rest = k.rest;
      read =
          next_sum_read (sum_of room) m heads at l r tokens f.rest x.first x.others k.rest f.read x.whole said.0 said.1
          k.read;
      spelled = k.spelled;
      shorter = omega (arith, k.shorter, len);
    }

list_last : (room : ℕ) (t : TermTree) (after : List Shown) (tokens : List Placed)
    (f : Found TermTree (sum_of room) t after tokens) →
    is_cons (front_kind f.rest) ≡ false → (length tokens ≤ 0 → ⊥) → (n : ℕ) (heads : Heads) → length tokens ≤ n →
    Found TermTree (λ us. read_conses (sum_of room) n heads us) (with_heads heads t) after tokens
list_last room t after tokens f none some zero heads in_n = absurd (some in_n)
list_last room t after tokens f none some (suc m) heads in_n =
    record {
      rest = f.rest;
      read = last_sum_read (sum_of room) m heads t tokens f.rest f.read none;
      spelled = f.spelled;
      shorter = f.shorter;
    }

comparison_found : (room : ℕ) (op : Operator) (at : ℕ) (lexeme : Lexeme) (l r : TermTree) (after : List Shown)
    (tokens : List Placed) →
    comparison_in (Some (kind_of lexeme)) ≡ Some op
    → (f : Found TermTree (read_list_term (read_term room)) l (at_offset at lexeme ∷ print_term r after) tokens)
    (x : First (at_offset at lexeme) (print_term r after) f.rest)
    → Found TermTree (read_list_term (read_term room)) r after x.others →
    Found TermTree (read_comparison (read_term room)) (binary op at l r) after tokens
comparison_found room op at lexeme l r after tokens is f x g =
    let said = comparison_said op at lexeme x.first x.others x.meets is in
    record {
      rest = g.rest;
      read =
          compare_read (read_term room) op at l r tokens f.rest x.first x.others g.rest f.read x.whole said.0 said.1
          g.read;
      spelled = g.spelled;
      shorter = omega (arith, f.shorter, g.shorter, ap length x.whole);
    }

-- the arguments of a call as a list
arg_list : TermTrees → List TermTree
arg_list no_terms = []
arg_list (term t ts) = t ∷ arg_list ts

trees_of_args : (ts : TermTrees) → term_trees (arg_list ts) ≡ ts
unfolding arg_list
trees_of_args no_terms = refl
trees_of_args (term t ts) = ap (λ (us : TermTrees). term t us) (trees_of_args ts)

abbrev FindsArgs : ℕ → TermTrees → Type 0
FindsArgs room ts = FindsAll TermTree (read_term room) (Ends the_production.Term) room (arg_list ts) (print_terms ts)

no_args_found : (room : ℕ) → FindsArgs room no_terms
unfolding arg_list
no_args_found room = tt

more_args_found : (room : ℕ) (t : TermTree) (ts : TermTrees)
    → Finds TermTree (read_term room) (Ends the_production.Term) room t (print_term t) → FindsArgs room ts →
    FindsArgs room (term t ts)
unfolding arg_list
more_args_found room t ts f fs = (f, fs)

args_begin : {ts : TermTrees} → AreTerms ts → AllBegin (print_terms ts)
args_begin are_none = tt
args_begin (are_more is more) = (term_begins is, args_begin more)

-- the first tokens, where something is shown

record First3 (s1 s2 s3 : Shown) (after : List Shown) (tokens : List Placed) : Type 0 where
  x1 : Placed
  x2 : Placed
  x3 : Placed
  others : List Placed
  whole : tokens ≡ x1 ∷ x2 ∷ x3 ∷ others
  spelled : Spells after others

three_of : (s1 s2 s3 : Shown) (after : List Shown) (tokens : List Placed) → Spells (s1 ∷ s2 ∷ s3 ∷ after) tokens
    → First3 s1 s2 s3 after tokens
three_of s1 s2 s3 after [] h = absurd h
three_of s1 s2 s3 after (a ∷ []) h = absurd h.1
three_of s1 s2 s3 after (a ∷ b ∷ []) h = absurd h.1.1
three_of s1 s2 s3 after (a ∷ b ∷ c ∷ ts) h =
    record { x1 = a; x2 = b; x3 = c; others = ts; whole = refl; spelled = h.1.1.1 }

pub record First5 (s1 s2 s3 s4 s5 : Shown) (after : List Shown) (tokens : List Placed) : Type 0 where
  pub x1 : Placed
  pub x2 : Placed
  pub x3 : Placed
  pub x4 : Placed
  pub x5 : Placed
  pub others : List Placed
  pub whole : tokens ≡ x1 ∷ x2 ∷ x3 ∷ x4 ∷ x5 ∷ others
  pub meets2 : Meets s2 x2
  pub meets4 : Meets s4 x4
  pub spelled : Spells after others

pub five_of : (s1 s2 s3 s4 s5 : Shown) (after : List Shown) (tokens : List Placed)
    → Spells (s1 ∷ s2 ∷ s3 ∷ s4 ∷ s5 ∷ after) tokens → First5 s1 s2 s3 s4 s5 after tokens
five_of s1 s2 s3 s4 s5 after [] h = absurd h
five_of s1 s2 s3 s4 s5 after (a ∷ []) h = absurd h.1
five_of s1 s2 s3 s4 s5 after (a ∷ b ∷ []) h = absurd h.1.1
five_of s1 s2 s3 s4 s5 after (a ∷ b ∷ c ∷ []) h = absurd h.1.1.1
five_of s1 s2 s3 s4 s5 after (a ∷ b ∷ c ∷ d ∷ []) h = absurd h.1.1.1.1
five_of s1 s2 s3 s4 s5 after (a ∷ b ∷ c ∷ d ∷ e ∷ ts) h =
    record {
      x1 = a;
      x2 = b;
      x3 = c;
      x4 = d;
      x5 = e;
      others = ts;
      whole = refl;
      meets2 = h.1.0;
      meets4 = h.1.1.1.0;
      spelled = h.1.1.1.1.1;
    }

abbrev FindsTerm : ℕ → TermTree → Type 0
FindsTerm room t =
    (after : List Shown) (tokens : List Placed) → Ends the_production.Term after → length tokens ≤ room
    → Spells (print_term t after) tokens →
    Found TermTree (read_term room) t after tokens

matching_found : (room at : ℕ) (t u v : TermTree) (head tail : NameAt) (x : Placed) (ts : List Placed)
    (after : List Shown) → Meets (keyword_at at word.Match) x →
    length ts ≤ room →
    Spells (print_term t (sign sym.OpenBrace ∷ keyword word.Nil ∷ sign sym.FatArrow ∷
    print_term u (sign sym.Bar ∷ print_heading head tail (print_term v (sign sym.CloseBrace ∷ after))))) ts →
    FindsTerm room t → FindsTerm room u → FindsTerm room v
    → Found TermTree (read_term (suc room)) (matching at t u head tail v) after (x ∷ ts)
matching_found room at t u v head tail x ts after m le h find_t find_u find_v =
    let tail_shown : List Shown = print_term v (sign sym.CloseBrace ∷ after) in
    let bar_shown : List Shown = sign sym.Bar ∷ print_heading head tail tail_shown in
    let f = find_t (sign sym.OpenBrace ∷ keyword word.Nil ∷ sign sym.FatArrow ∷ print_term u bar_shown) ts
    (any_ends the_production.Term (symbol sym.OpenBrace) (keyword word.Nil ∷ sign sym.FatArrow ∷ print_term u bar_shown)
    (refl, refl, refl, refl, refl, refl, refl)) le h in
    let y = three_of (sign sym.OpenBrace) (keyword word.Nil) (sign sym.FatArrow) (print_term u bar_shown) f.rest
    f.spelled in
    let len : suc (length y.others) ≤ length ts = omega (arith, f.shorter, ap length y.whole) in
    let g = find_u bar_shown y.others
    (any_ends the_production.Term (symbol sym.Bar) (print_heading head tail tail_shown)
    (refl, refl, refl, refl, refl, refl, refl)) (omega (arith, le, len)) y.spelled in
    let z = five_of (sign sym.Bar) (print_name head) (sign sym.DoubleColon) (print_name tail) (sign sym.FatArrow)
    tail_shown g.rest g.spelled in
    let len2 : suc (length z.others) ≤ length y.others = omega (arith, g.shorter, ap length z.whole) in
    let k = find_v (sign sym.CloseBrace ∷ after) z.others
    (any_ends the_production.Term (symbol sym.CloseBrace) after (refl, refl, refl, refl, refl, refl, refl))
    (omega (arith, le, len, len2)) z.spelled in
    let l = first_of_shown (sign sym.CloseBrace) after k.rest k.spelled in
    record {
      rest = l.others;
      read =
          match_read room at t u v head tail x ts f.rest y.x1 y.x2 y.x3 y.others g.rest z.x1 z.x2 z.x3 z.x4 z.x5
          z.others
          k.rest l.first l.others m f.read y.whole g.read z.whole z.meets2 z.meets4 k.read l.whole;
      spelled = l.spelled;
      shorter = omega (arith, k.shorter, len, len2, ap length l.whole);
    }

mutual
  pub term_found : {t : TermTree} → IsTerm the_production.Term t
      → (room : ℕ) (after : List Shown) (tokens : List Placed) → Ends the_production.Term after →
      length tokens ≤ room → Spells (print_term t after) tokens → Found TermTree (read_term room) t after tokens
  term_found {t} is zero after tokens ends le h = absurd (no_room t after tokens le h)
  term_found (is_choosing a b c) (suc room) after [] ends le h = absurd h
  term_found (is_choosing {at} {test = t} {holds = u} {fails = v} a b c) (suc room) after (x ∷ ts) ends le h =
      let f = term_found a room (keyword word.Then ∷ print_term u (keyword word.Else ∷ print_term v after)) ts
      (any_ends the_production.Term (reserved word.Then) (print_term u (keyword word.Else ∷ print_term v after))
      (refl, refl, refl, refl, refl, refl, refl)) (omega (arith, le)) h.1 in
      let y = first_of_shown (keyword word.Then) (print_term u (keyword word.Else ∷ print_term v after)) f.rest
      f.spelled in
      let len : suc (length y.others) ≤ length ts = omega (arith, f.shorter, ap length y.whole) in
      let g = term_found b room (keyword word.Else ∷ print_term v after) y.others
      (any_ends the_production.Term (reserved word.Else) (print_term v after)
      (refl, refl, refl, refl, refl, refl, refl)) (omega (arith, le, len)) y.spelled in
      let z = first_of_shown (keyword word.Else) (print_term v after) g.rest g.spelled in
      let len2 : suc (length z.others) ≤ length y.others = omega (arith, g.shorter, ap length z.whole) in
      let k = term_found c room after z.others ends (omega (arith, le, len, len2)) z.spelled in
      record {
        rest = k.rest;
        read =
            if_read room at t u v x ts f.rest y.first y.others g.rest z.first z.others k.rest h.0 f.read y.whole g.read
            z.whole k.read;
        spelled = k.spelled;
        shorter = omega (arith, k.shorter, len, len2);
      }
  term_found (is_matching a b c) (suc room) after [] ends le h = absurd h
  term_found (is_matching {at} {matched = t} {empty = u} {head} {tail} {more = v} a b c) (suc room) after (x ∷ ts) ends
      le h =
      matching_found room at t u v head tail x ts after h.0 (omega (arith, le)) h.1
      (λ after2 tokens2 ends2 le2 h2. term_found a room after2 tokens2 ends2 le2 h2)
      (λ after2 tokens2 ends2 le2 h2. term_found b room after2 tokens2 ends2 le2 h2)
      (λ after2 tokens2 ends2 le2 h2. term_found c room after2 tokens2 ends2 le2 h2)
  term_found (is_disjunction {t} a) (suc room) after tokens ends le h =
      let c = part_found a room after tokens
      (λ us s. let q = ends us s in (q.0, q.1, q.2, q.3, q.4, q.5)) le h in
      let f = chain_end (read_chain (read_negation (read_term room)) chain.Conjunction) chain.Disjunction t after tokens
      c (ends c.rest c.spelled).6 in
      record {
        rest = f.rest;
        read = chain_read room t tokens f.rest (mid_front a tt (read_term room) after tokens h).0 f.read;
        spelled = f.spelled;
        shorter = f.shorter;
      }

  part_found : {n : Nonterminal} {t : TermTree} → IsTerm n t → (room : ℕ) (after : List Shown) (tokens : List Placed)
      → Ends (Needs n) after →
      length tokens ≤ suc room → Spells (print_term t after) tokens → PartFound n room t after tokens
  part_found (is_choosing a b c) room after tokens ends le h = tt
  part_found (is_matching a b c) room after tokens ends le h = tt
  part_found (is_disjunction a) room after tokens ends le h = tt
  part_found (is_or {at} {left = l} {right = r} a b) room after tokens ends le h =
      let f = part_found a room (keyword_at at word.Or ∷ print_term r after) tokens
      (at_ends the_production.Conjunction at (reserved word.Or) (print_term r after)
      (refl, refl, refl, refl, refl, refl)) le h in
      let x = first_of_shown (keyword_at at word.Or) (print_term r after) f.rest f.spelled in
      let g = part_found b room after x.others (λ us s. let q = ends us s in (q.0, q.1, q.2, q.3, q.4))
      (omega (arith, le, f.shorter, ap length x.whole)) x.spelled in
      let said = operator_said chain.Disjunction operator.Or at (reserved word.Or) x.first x.others x.meets refl in
      chain_next (read_chain (read_negation (read_term room)) chain.Conjunction) chain.Disjunction operator.Or at l r
      (keyword_at at word.Or) after tokens f x said.0 said.1
      (chain_end (read_negation (read_term room)) chain.Conjunction r after x.others g (ends g.rest g.spelled).5)
  part_found (is_conjunction {t} a) room after tokens ends le h =
      let g = part_found a room after tokens (λ us s. let q = ends us s in (q.0, q.1, q.2, q.3, q.4)) le h in
      chain_first (read_chain (read_negation (read_term room)) chain.Conjunction) chain.Disjunction t after tokens
      (chain_end (read_negation (read_term room)) chain.Conjunction t after tokens g (ends g.rest g.spelled).5)
  part_found (is_and {at} {left = l} {right = r} a b) room after tokens ends le h =
      let f = part_found a room (keyword_at at word.And ∷ print_term r after) tokens
      (at_ends the_production.Comparison at (reserved word.And) (print_term r after) (refl, refl, refl, refl, refl)) le
      h in
      let x = first_of_shown (keyword_at at word.And) (print_term r after) f.rest f.spelled in
      let g = part_found b room after x.others ends (omega (arith, le, f.shorter, ap length x.whole)) x.spelled in
      let said = operator_said chain.Conjunction operator.And at (reserved word.And) x.first x.others x.meets refl in
      chain_next (read_negation (read_term room)) chain.Conjunction operator.And at l r (keyword_at at word.And) after
      tokens f x said.0 said.1 g
  part_found (is_negation {t} a) room after tokens ends le h =
      chain_first (read_negation (read_term room)) chain.Conjunction t after tokens
      (part_found a room after tokens ends le h)
  part_found (is_opposite a) room after [] ends le h = absurd h
  part_found (is_opposite {at} {inner = t} a) room after (x ∷ ts) ends le h =
      let f = part_found a room after ts ends (omega (arith, le)) h.1 in
      record {
        rest = f.rest;
        read = not_read (read_term room) at t x ts f.rest h.0 f.read;
        spelled = f.spelled;
        shorter = omega (arith, f.shorter);
      }
  part_found (is_comparison {t} a) room after tokens ends le h =
      let f = part_found a room after tokens ends le h in
      record {
        rest = f.rest;
        read =
            compared_read (read_term room) t tokens f.rest
            (begins_not (front_kind tokens) (low_front a tt after tokens h)) f.read;
        spelled = f.spelled;
        shorter = f.shorter;
      }
  part_found (is_less {at} {left = l} {right = r} a b) room after tokens ends le h =
      let f = list_found room l _ tokens (part_found a room (sign_at at sym.Less ∷ print_term r after) tokens
      (at_ends the_production.ListTerm at (symbol sym.Less) (print_term r after) (refl, refl, refl, refl)) le h) in
      let x = first_of_shown (sign_at at sym.Less) (print_term r after) f.rest f.spelled in
      let g = list_found room r after x.others
      (part_found b room after x.others (λ us s. let q = ends us s in (q.0, q.1, q.2, q.3))
      (omega (arith, le, f.shorter, ap length x.whole)) x.spelled) in
      comparison_found room operator.Less at (symbol sym.Less) l r after tokens refl f x g
  part_found (is_equal {at} {left = l} {right = r} a b) room after tokens ends le h =
      let f = list_found room l _ tokens (part_found a room (sign_at at sym.Equals ∷ print_term r after) tokens
      (at_ends the_production.ListTerm at (symbol sym.Equals) (print_term r after) (refl, refl, refl, refl)) le h) in
      let x = first_of_shown (sign_at at sym.Equals) (print_term r after) f.rest f.spelled in
      let g = list_found room r after x.others
      (part_found b room after x.others (λ us s. let q = ends us s in (q.0, q.1, q.2, q.3))
      (omega (arith, le, f.shorter, ap length x.whole)) x.spelled) in
      comparison_found room operator.Equal at (symbol sym.Equals) l r after tokens refl f x g
  part_found (is_list_term {t} a) room after tokens ends le h =
      let f = list_found room t after tokens
      (part_found a room after tokens (λ us s. let q = ends us s in (q.0, q.1, q.2, q.3)) le h) in
      record {
        rest = f.rest;
        read = alone_read (read_term room) t tokens f.rest f.read (ends f.rest f.spelled).4;
        spelled = f.spelled;
        shorter = f.shorter;
      }
  part_found (is_consed {at} {left = l} {right = r} a b) room after tokens ends le h =
      let c = part_found a room (sign_at at sym.DoubleColon ∷ print_term r after) tokens
      (at_ends the_production.Product at (symbol sym.DoubleColon) (print_term r after) (refl, refl)) le h in
      let q = at_ends the_production.Sum at (symbol sym.DoubleColon) (print_term r after) (refl, refl, refl) c.rest
      c.spelled in
      let f = chain_end (read_chain (read_primary (read_term room)) chain.Product) chain.Sum l
      (sign_at at sym.DoubleColon ∷ print_term r after) tokens c q.2 in
      let x = first_of_shown (sign_at at sym.DoubleColon) (print_term r after) f.rest f.spelled in
      list_next room at l r after tokens f x
      (part_found b room after x.others ends (omega (arith, le, f.shorter, ap length x.whole)) x.spelled)
      (λ none. no_room l _ tokens none h)
  part_found (is_sum {t} a) room after tokens ends le h =
      let c = part_found a room after tokens (λ us s. let q = ends us s in (q.0, q.1)) le h in
      let q = ends c.rest c.spelled in
      let f = chain_end (read_chain (read_primary (read_term room)) chain.Product) chain.Sum t after tokens c q.2 in
      list_last room t after tokens f (ends f.rest f.spelled).3 (λ none. no_room t after tokens none h)
  part_found (is_add {at} {left = l} {right = r} a b) room after tokens ends le h =
      let f = part_found a room (sign_at at sym.Plus ∷ print_term r after) tokens
      (at_ends the_production.Product at (symbol sym.Plus) (print_term r after) (refl, refl)) le h in
      let x = first_of_shown (sign_at at sym.Plus) (print_term r after) f.rest f.spelled in
      let g = part_found b room after x.others (λ us s. (ends us s).0) (omega (arith, le, f.shorter, ap length x.whole))
      x.spelled in
      let said = operator_said chain.Sum operator.Add at (symbol sym.Plus) x.first x.others x.meets refl in
      chain_next (read_chain (read_primary (read_term room)) chain.Product) chain.Sum operator.Add at l r
      (sign_at at sym.Plus) after tokens f x said.0 said.1
      (chain_end (read_primary (read_term room)) chain.Product r after x.others g (ends g.rest g.spelled).1)
  part_found (is_sub {at} {left = l} {right = r} a b) room after tokens ends le h =
      let f = part_found a room (sign_at at sym.Minus ∷ print_term r after) tokens
      (at_ends the_production.Product at (symbol sym.Minus) (print_term r after) (refl, refl)) le h in
      let x = first_of_shown (sign_at at sym.Minus) (print_term r after) f.rest f.spelled in
      let g = part_found b room after x.others (λ us s. (ends us s).0) (omega (arith, le, f.shorter, ap length x.whole))
      x.spelled in
      let said = operator_said chain.Sum operator.Sub at (symbol sym.Minus) x.first x.others x.meets refl in
      chain_next (read_chain (read_primary (read_term room)) chain.Product) chain.Sum operator.Sub at l r
      (sign_at at sym.Minus) after tokens f x said.0 said.1
      (chain_end (read_primary (read_term room)) chain.Product r after x.others g (ends g.rest g.spelled).1)
  part_found (is_product {t} a) room after tokens ends le h =
      let g = part_found a room after tokens (λ us s. (ends us s).0) le h in
      chain_first (read_chain (read_primary (read_term room)) chain.Product) chain.Sum t after tokens
      (chain_end (read_primary (read_term room)) chain.Product t after tokens g (ends g.rest g.spelled).1)
  part_found (is_mul {at} {left = l} {right = r} a b) room after tokens ends le h =
      let f = part_found a room (sign_at at sym.Star ∷ print_term r after) tokens
      (at_ends the_production.Primary at (symbol sym.Star) (print_term r after) refl) le h in
      let x = first_of_shown (sign_at at sym.Star) (print_term r after) f.rest f.spelled in
      let g = part_found b room after x.others ends (omega (arith, le, f.shorter, ap length x.whole)) x.spelled in
      let said = operator_said chain.Product operator.Mul at (symbol sym.Star) x.first x.others x.meets refl in
      chain_next (read_primary (read_term room)) chain.Product operator.Mul at l r (sign_at at sym.Star) after tokens f
      x said.0 said.1 g
  part_found (is_div {at} {left = l} {right = r} a b) room after tokens ends le h =
      let f = part_found a room (sign_at at sym.Slash ∷ print_term r after) tokens
      (at_ends the_production.Primary at (symbol sym.Slash) (print_term r after) refl) le h in
      let x = first_of_shown (sign_at at sym.Slash) (print_term r after) f.rest f.spelled in
      let g = part_found b room after x.others ends (omega (arith, le, f.shorter, ap length x.whole)) x.spelled in
      let said = operator_said chain.Product operator.Div at (symbol sym.Slash) x.first x.others x.meets refl in
      chain_next (read_primary (read_term room)) chain.Product operator.Div at l r (sign_at at sym.Slash) after tokens f
      x said.0 said.1 g
  part_found (is_rem {at} {left = l} {right = r} a b) room after tokens ends le h =
      let f = part_found a room (sign_at at sym.Percent ∷ print_term r after) tokens
      (at_ends the_production.Primary at (symbol sym.Percent) (print_term r after) refl) le h in
      let x = first_of_shown (sign_at at sym.Percent) (print_term r after) f.rest f.spelled in
      let g = part_found b room after x.others ends (omega (arith, le, f.shorter, ap length x.whole)) x.spelled in
      let said = operator_said chain.Product operator.Rem at (symbol sym.Percent) x.first x.others x.meets refl in
      chain_next (read_primary (read_term room)) chain.Product operator.Rem at l r (sign_at at sym.Percent) after tokens
      f x said.0 said.1 g
  part_found (is_primary {t} a) room after tokens ends le h =
      chain_first (read_primary (read_term room)) chain.Product t after tokens
      (part_found a room after tokens ends le h)
  part_found is_number room after [] ends le h = absurd h
  part_found (is_number {at} {value}) room after (x ∷ ts) ends le h =
      record { rest = ts; read = number_read (read_term room) at value x ts h.0; spelled = h.1; shorter = omega arith }
  part_found is_truth room after [] ends le h = absurd h
  part_found (is_truth {at} {value}) room after (x ∷ ts) ends le h =
      record { rest = ts; read = truth_read (read_term room) at value x ts h.0; spelled = h.1; shorter = omega arith }
  part_found is_me room after [] ends le h = absurd h
  part_found (is_me {at}) room after (x ∷ ts) ends le h =
      record { rest = ts; read = me_read (read_term room) at x ts h.0; spelled = h.1; shorter = omega arith }
  part_found is_variable room after [] ends le h = absurd h
  part_found (is_variable {n = v}) room after (x ∷ ts) ends le h =
      record {
        rest = ts;
        read = variable_read (read_term room) v x ts h.0 (ends ts h.1);
        spelled = h.1;
        shorter = omega arith;
      }
  part_found (is_application are) room after [] ends le h = absurd h
  part_found (is_application are) room after (x ∷ []) ends le h = absurd h.1
  part_found (is_application {f = n} {arguments = l} are) room after (x ∷ y ∷ ts) ends le h =
      let f = until_found TermTree (read_term room) (Ends the_production.Term) room
      (λ after2. any_ends the_production.Term (symbol sym.Comma) after2 (refl, refl, refl, refl, refl, refl, refl))
      (arg_list l) (print_terms l) (length ts) sym.CloseParen after ts (args_found are room) (args_begin are)
      (any_ends the_production.Term (symbol sym.CloseParen) after (refl, refl, refl, refl, refl, refl, refl)) refl refl
      (omega arith) (omega (arith, le)) h.1.1 in
      let z = first_of_shown (sign sym.CloseParen) after f.rest f.spelled in
      record {
        rest = z.others;
        read = call_read (read_term room) n (arg_list l) x y ts f.rest z.first z.others h.0 h.1.0 f.read z.whole
            ∙ ap (λ (us : TermTrees). let p : TermTree × List Placed = (application n us, z.others) in p)
            (trees_of_args l);
        spelled = z.spelled;
        shorter = omega (arith, f.shorter, ap length z.whole);
      }
  part_found is_no_items room after [] ends le h = absurd h
  part_found (is_no_items {at} {element = v}) room after (x ∷ ts) ends le h =
      let f = value_type_found v after ts h.1 in
      record {
        rest = f.rest;
        read = nil_read (read_term room) at v x ts f.rest h.0 f.read;
        spelled = f.spelled;
        shorter = omega (arith, f.shorter);
      }
  part_found (is_parenthesized i) room after [] ends le h = absurd h
  part_found (is_parenthesized {inner = t} i) room after (x ∷ ts) ends le h =
      let f = term_found i room (sign sym.CloseParen ∷ after) ts
      (any_ends the_production.Term (symbol sym.CloseParen) after (refl, refl, refl, refl, refl, refl, refl))
      (omega (arith, le)) h.1 in
      let z = first_of_shown (sign sym.CloseParen) after f.rest f.spelled in
      record {
        rest = z.others;
        read = parenthesized_read (read_term room) t x ts f.rest z.first z.others h.0 f.read z.whole;
        spelled = z.spelled;
        shorter = omega (arith, f.shorter, ap length z.whole);
      }

  args_found : {ts : TermTrees} → AreTerms ts → (room : ℕ) → FindsArgs room ts
  args_found are_none room = no_args_found room
  args_found (are_more {first = t} {rest = ts} is more) room =
      more_args_found room t ts
      (record { some = no_term t; find = λ after tokens ends le h. term_found is room after tokens ends le h })
      (args_found more room)
