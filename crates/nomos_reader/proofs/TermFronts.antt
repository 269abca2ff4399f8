-- With what the tokens of a term begin, and what does not carry it on.
use Rattle.std.proofs.Common.{◌≡◌, ℕ, ◌≤◌, Bool, true, false, List, [], ◌∷◌, length, Option, Some, None, refl, ap, arith}
use Rattle.nomos_grammar.specs.declared.part.Nonterminal.{Nonterminal}
use Rattle.nomos_grammar.specs.declared.part.Nonterminal.TheVariants as the_production
use Rattle.nomos_ir.specs.declared.word.Word.TheVariants as word
use Rattle.nomos_reader.proofs.Found.{at_this, with_this}
use Rattle.nomos_reader.specs.declared.chain.Chain.TheVariants as chain
use Rattle.nomos_surface.specs.Grammatical.{IsTerm, is_choosing, is_matching, is_disjunction, is_or, is_conjunction, is_and, is_negation, is_not as is_opposite, is_comparison, is_less, is_equal, is_list_term, is_cons as is_consed, is_sum, is_add, is_sub, is_product, is_mul, is_div, is_rem, is_primary, is_number, is_truth, is_me, is_variable, is_application, is_no_items, is_parenthesized}
use Rattle.nomos_reader.specs.mirror.Front.{Reader, front_kind, is_list, is_list_end, is_open_brace, is_open_paren, kind_of, number_of}
use Rattle.nomos_reader.specs.mirror.Terms.{comparison_in, is_cons, is_not, operand_of, operator_in, read_chain, term_from}
use Rattle.nomos_surface.specs.Print.{print_term, truth_word}
use Rattle.nomos_surface.specs.Printed.{Shown, anywhere, at_offset, HasValue, Spells}
use Rattle.nomos_surface.specs.Tree.{TermTree, number, truth, me, variable, application, no_items, binary, negation, choosing, matching, parenthesized}
use Rattle.nomos_syntax.specs.declared.symbol.Symbol.TheVariants as sym
use Rattle.nomos_syntax.specs.declared.token.TokenKind.{TokenKind}
use Rattle.nomos_syntax.specs.declared.token.TokenKind.TheVariants as kind
use Rattle.nomos_syntax.specs.Lexeme.{Lexeme, name, reserved, number as number_text, symbol, bad, Placed}

-- no term is printed as nothing
pub no_term : (t : TermTree) (after : List Shown) → Spells (print_term t after) [] → ⊥
no_term (number at value) after h = h
no_term (truth at value) after h = h
no_term (me at) after h = h
no_term (variable n) after h = h
no_term (application f arguments) after h = h
no_term (no_items at element) after h = h
no_term (binary op at left right) after h = no_term left _ h
no_term (negation at inner) after h = h
no_term (choosing at test holds fails) after h = h
no_term (matching at matched empty head tail more) after h = h
no_term (parenthesized inner) after h = h

pub no_room : (t : TermTree) (after : List Shown) (tokens : List Placed) → length tokens ≤ 0
    → Spells (print_term t after) tokens → ⊥
no_room t after [] le h = no_term t after h
no_room t after (x ∷ tokens) le h = absurd (omega (arith, le))

-- what a token is that does not carry on a part of this production
abbrev pub Quiet : Nonterminal → Option TokenKind → Type 0
Quiet the_production.Primary k = is_open_paren k ≡ false
Quiet the_production.Product k = (is_open_paren k ≡ false) × (operator_in chain.Product k ≡ None)
Quiet the_production.Sum k =
    (is_open_paren k ≡ false) × (operator_in chain.Product k ≡ None) × (operator_in chain.Sum k ≡ None)
Quiet the_production.ListTerm k =
    (is_open_paren k ≡ false) × (operator_in chain.Product k ≡ None) × (operator_in chain.Sum k ≡ None)
    × (is_cons k ≡ false)
Quiet the_production.Comparison k =
    (is_open_paren k ≡ false) × (operator_in chain.Product k ≡ None) × (operator_in chain.Sum k ≡ None)
    × (is_cons k ≡ false)
    × (comparison_in k ≡ None)
Quiet the_production.Conjunction k =
    (is_open_paren k ≡ false) × (operator_in chain.Product k ≡ None) × (operator_in chain.Sum k ≡ None)
    × (is_cons k ≡ false)
    × (comparison_in k ≡ None) × (operator_in chain.Conjunction k ≡ None)
Quiet the_production.Term k =
    (is_open_paren k ≡ false) × (operator_in chain.Product k ≡ None) × (operator_in chain.Sum k ≡ None)
    × (is_cons k ≡ false)
    × (comparison_in k ≡ None) × (operator_in chain.Conjunction k ≡ None) × (operator_in chain.Disjunction k ≡ None)
Quiet _ k = Unit {0}

abbrev pub Ends : Nonterminal → List Shown → Type 0
Ends n after = (tokens : List Placed) → Spells after tokens → Quiet n (front_kind tokens)

pub at_ends : (n : Nonterminal) (at : ℕ) (lexeme : Lexeme) (after : List Shown) → Quiet n (Some (kind_of lexeme))
    → Ends n (at_offset at lexeme ∷ after)
at_ends n at lexeme after q [] h = absurd h
at_ends n at lexeme after q (x ∷ tokens) h = at_this (λ y. Quiet n (front_kind (y ∷ tokens))) at lexeme x h.0 q

pub any_ends : (n : Nonterminal) (lexeme : Lexeme) (after : List Shown) → Quiet n (Some (kind_of lexeme))
    → Ends n (anywhere lexeme ∷ after)
any_ends n lexeme after q [] h = absurd h
any_ends n lexeme after q (x ∷ tokens) h = with_this (λ y. Quiet n (front_kind (y ∷ tokens))) lexeme x h.0 q

-- with what a term without operators begins
abbrev pub begins : Option TokenKind → Bool
begins (Some kind.Name) = true
begins (Some kind.Number) = true
begins (Some (kind.Reserved word.True)) = true
begins (Some (kind.Reserved word.False)) = true
begins (Some (kind.Reserved word.Me)) = true
begins (Some (kind.Reserved word.Nil)) = true
begins (Some (kind.Symbol sym.OpenParen)) = true
begins _ = false

abbrev pub Low : Nonterminal → Type 0
Low the_production.Primary = Unit {0}
Low the_production.Product = Unit {0}
Low the_production.Sum = Unit {0}
Low the_production.ListTerm = Unit {0}
Low the_production.Comparison = Unit {0}
Low _ = ⊥

pub number_kind : (value : ℕ) (lexeme : Lexeme) → HasValue value lexeme
    → (kind_of lexeme ≡ kind.Number) × (number_of lexeme ≡ value)
number_kind value (name text) h = absurd h
number_kind value (reserved w) h = absurd h
number_kind value (number_text digits) h = (refl, h)
number_kind value (symbol s) h = absurd h
number_kind value (bad byte) h = absurd h

truth_begins : (value : Bool) → begins (Some (kind.Reserved (truth_word value))) ≡ true
truth_begins true = refl
truth_begins false = refl

pub low_front : {n : Nonterminal} {t : TermTree} → IsTerm n t → Low n → (after : List Shown) (tokens : List Placed)
    → Spells (print_term t after) tokens →
    begins (front_kind tokens) ≡ true
low_front (is_choosing a b c) low after tokens h = absurd low
low_front (is_matching a b c) low after tokens h = absurd low
low_front (is_disjunction a) low after tokens h = absurd low
low_front (is_or a b) low after tokens h = absurd low
low_front (is_conjunction a) low after tokens h = absurd low
low_front (is_and a b) low after tokens h = absurd low
low_front (is_negation a) low after tokens h = absurd low
low_front (is_opposite a) low after tokens h = absurd low
low_front (is_comparison a) low after tokens h = absurd low
low_front (is_less a b) low after tokens h = low_front a tt _ tokens h
low_front (is_equal a b) low after tokens h = low_front a tt _ tokens h
low_front (is_list_term a) low after tokens h = low_front a tt after tokens h
low_front (is_consed a b) low after tokens h = low_front a tt _ tokens h
low_front (is_sum a) low after tokens h = low_front a tt after tokens h
low_front (is_add a b) low after tokens h = low_front a tt _ tokens h
low_front (is_sub a b) low after tokens h = low_front a tt _ tokens h
low_front (is_product a) low after tokens h = low_front a tt after tokens h
low_front (is_mul a b) low after tokens h = low_front a tt _ tokens h
low_front (is_div a b) low after tokens h = low_front a tt _ tokens h
low_front (is_rem a b) low after tokens h = low_front a tt _ tokens h
low_front (is_primary a) low after tokens h = low_front a tt after tokens h
low_front is_number low after [] h = absurd h
low_front (is_number {at} {value}) low after (x ∷ tokens) h =
    ap (λ k. begins (Some k)) (number_kind value x.lexeme h.0.1).0
low_front is_truth low after [] h = absurd h
low_front (is_truth {at} {value}) low after (x ∷ tokens) h =
    at_this (λ y. begins (front_kind (y ∷ tokens)) ≡ true) at (reserved (truth_word value)) x h.0 (truth_begins value)
low_front is_me low after [] h = absurd h
low_front (is_me {at}) low after (x ∷ tokens) h =
    at_this (λ y. begins (front_kind (y ∷ tokens)) ≡ true) at (reserved word.Me) x h.0 refl
low_front is_variable low after [] h = absurd h
low_front (is_variable {n = v}) low after (x ∷ tokens) h =
    at_this (λ y. begins (front_kind (y ∷ tokens)) ≡ true) v.at (name v.name) x h.0 refl
low_front (is_application are) low after [] h = absurd h
low_front (is_application {f} are) low after (x ∷ tokens) h =
    at_this (λ y. begins (front_kind (y ∷ tokens)) ≡ true) f.at (name f.name) x h.0 refl
low_front is_no_items low after [] h = absurd h
low_front (is_no_items {at}) low after (x ∷ tokens) h =
    at_this (λ y. begins (front_kind (y ∷ tokens)) ≡ true) at (reserved word.Nil) x h.0 refl
low_front (is_parenthesized i) low after [] h = absurd h
low_front (is_parenthesized i) low after (x ∷ tokens) h =
    with_this (λ y. begins (front_kind (y ∷ tokens)) ≡ true) (symbol sym.OpenParen) x h.0 refl

pub begins_not : (k : Option TokenKind) → begins k ≡ true → is_not k ≡ false
begins_not (Some (kind.Reserved word.Not)) e = cc
begins_not _ e = refl

pub begins_item : (k : Option TokenKind) → begins k ≡ true → is_list_end k ≡ false
begins_item (Some (kind.Symbol sym.CloseParen)) e = cc
begins_item (Some (kind.Symbol sym.Semicolon)) e = cc
begins_item _ e = refl

pub begins_no_list : (k : Option TokenKind) → begins k ≡ true → is_list k ≡ false
begins_no_list (Some (kind.Reserved word.List)) e = cc
begins_no_list _ e = refl

pub begins_no_brace : (k : Option TokenKind) → begins k ≡ true → is_open_brace k ≡ false
begins_no_brace (Some (kind.Symbol sym.OpenBrace)) e = cc
begins_no_brace _ e = refl

pub begins_chain : (inner : Reader TermTree) (k : Option TokenKind) (tokens : List Placed) → begins k ≡ true →
    term_from inner k tokens ≡ read_chain (operand_of inner chain.Disjunction) chain.Disjunction tokens
unfolding term_from
begins_chain inner (Some (kind.Reserved word.If)) tokens e = cc
begins_chain inner (Some (kind.Reserved word.Match)) tokens e = cc
begins_chain inner _ tokens e = refl
