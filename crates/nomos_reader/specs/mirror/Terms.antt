-- A mirror of the code: how terms are read.
use Rattle.std.specs.Prelude.{ℕ, zero, suc, Bool, true, false, List, [], ◌∷◌, ◌++◌, length, Option, Some, None, if◌then◌else◌}
use Rattle.nomos_ir.specs.declared.word.Word.TheVariants as word
use Rattle.nomos_reader.specs.declared.chain.Chain.{Chain}
use Rattle.nomos_reader.specs.declared.chain.Chain.TheVariants as chain
use Rattle.nomos_surface.specs.declared.terms.Operator.{Operator}
use Rattle.nomos_surface.specs.declared.terms.Operator.TheVariants as operator
use Rattle.nomos_reader.specs.mirror.Front.{Reader, front_at, front_kind, front_number, is_open_paren, read_name, read_until, read_value_type, rest_of}
use Rattle.nomos_surface.specs.Tree.{TermTree, number, truth, me, variable, application, no_items, binary, negation, choosing, matching, parenthesized}
use Rattle.nomos_surface.specs.TermView.{term_trees}
use Rattle.nomos_syntax.specs.declared.symbol.Symbol.TheVariants as sym
use Rattle.nomos_syntax.specs.declared.token.TokenKind.{TokenKind}
use Rattle.nomos_syntax.specs.declared.token.TokenKind.TheVariants as kind

-- a number
abbrev pub read_number : Reader TermTree
read_number tokens = (number (front_at tokens) (front_number tokens), rest_of tokens)

-- a name, or a call
unfoldable pub named_from : Reader TermTree → Bool → Reader TermTree
named_from inner true tokens =
    let inside = rest_of (rest_of tokens) in
    let r = read_until inner (length inside) inside in
    (application (read_name tokens).0 (term_trees r.0), rest_of r.1)
named_from inner false tokens = (variable (read_name tokens).0, rest_of tokens)

abbrev pub read_named : Reader TermTree → Reader TermTree
read_named inner tokens = named_from inner (is_open_paren (front_kind (rest_of tokens))) tokens

unfoldable pub read_nil : Reader TermTree
read_nil tokens = let t = read_value_type (rest_of tokens) in (no_items (front_at tokens) t.0, t.1)

unfoldable pub read_parenthesized : Reader TermTree → Reader TermTree
read_parenthesized inner tokens = let r = inner (rest_of tokens) in (parenthesized r.0, rest_of r.1)

-- a term without operators that begins with such a token
unfoldable pub primary_from : Reader TermTree → Option TokenKind → Reader TermTree
primary_from inner (Some kind.Name) tokens = read_named inner tokens
primary_from inner (Some (kind.Reserved word.Nil)) tokens = read_nil tokens
primary_from inner (Some (kind.Symbol sym.OpenParen)) tokens = read_parenthesized inner tokens
primary_from inner (Some (kind.Reserved word.True)) tokens = (truth (front_at tokens) true, rest_of tokens)
primary_from inner (Some (kind.Reserved word.False)) tokens = (truth (front_at tokens) false, rest_of tokens)
primary_from inner (Some (kind.Reserved word.Me)) tokens = (me (front_at tokens), rest_of tokens)
primary_from inner _ tokens = read_number tokens

abbrev pub read_primary : Reader TermTree → Reader TermTree
read_primary inner tokens = primary_from inner (front_kind tokens) tokens

-- the operator of a chain that such a token is
abbrev pub operator_in : Chain → Option TokenKind → Option Operator
operator_in chain.Disjunction (Some (kind.Reserved word.Or)) = Some operator.Or
operator_in chain.Conjunction (Some (kind.Reserved word.And)) = Some operator.And
operator_in chain.Sum (Some (kind.Symbol sym.Plus)) = Some operator.Add
operator_in chain.Sum (Some (kind.Symbol sym.Minus)) = Some operator.Sub
operator_in chain.Product (Some (kind.Symbol sym.Star)) = Some operator.Mul
operator_in chain.Product (Some (kind.Symbol sym.Slash)) = Some operator.Div
operator_in chain.Product (Some (kind.Symbol sym.Percent)) = Some operator.Rem
operator_in _ _ = None

-- a term, or with an operator and what stands behind it the next one
abbrev pub more_from : (TermTree → Reader TermTree) → Reader TermTree → TermTree → Option Operator → Reader TermTree
more_from next operand left None tokens = (left, tokens)
more_from next operand left (Some op) tokens =
    let r = operand (rest_of tokens) in next (binary op (front_at tokens) left r.0) r.1

-- what stands behind a term in a chain, at most so many operators
unfoldable pub read_more : Reader TermTree → Chain → ℕ → TermTree → Reader TermTree
read_more operand c zero left tokens = (left, tokens)
read_more operand c (suc n) left tokens =
    more_from (read_more operand c n) operand left (operator_in c (front_kind tokens)) tokens

unfoldable pub read_chain : Reader TermTree → Chain → Reader TermTree
read_chain operand c tokens = let l = operand tokens in read_more operand c (length l.1) l.0 l.1

-- terms before others, each with the offset of the `::` behind it
abbrev pub Heads : Type 0
Heads = List (TermTree × ℕ)

abbrev pub with_heads : Heads → TermTree → TermTree
with_heads [] last = last
with_heads (h ∷ heads) last = binary operator.Cons h.1 h.0 (with_heads heads last)

abbrev pub is_cons : Option TokenKind → Bool
is_cons (Some (kind.Symbol sym.DoubleColon)) = true
is_cons _ = false

-- sums with `::` between them, behind those that were read, at most n of them
unfoldable pub read_conses : Reader TermTree → ℕ → Heads → Reader TermTree
read_conses sum zero heads tokens = (with_heads heads (read_number tokens).0, rest_of tokens)
read_conses sum (suc n) heads tokens =
    let r = sum tokens in
    if is_cons (front_kind r.1) then read_conses sum n (heads ++ (r.0, front_at r.1) ∷ []) (rest_of r.1)
    else (with_heads heads r.0, r.1)

unfoldable pub read_list_term : Reader TermTree → Reader TermTree
read_list_term inner tokens =
    read_conses (read_chain (read_chain (read_primary inner) chain.Product) chain.Sum) (length tokens) [] tokens

abbrev pub comparison_in : Option TokenKind → Option Operator
comparison_in (Some (kind.Symbol sym.Less)) = Some operator.Less
comparison_in (Some (kind.Symbol sym.Equals)) = Some operator.Equal
comparison_in _ = None

unfoldable pub compared_from : Reader TermTree → TermTree → Option Operator → Reader TermTree
compared_from inner left None tokens = (left, tokens)
compared_from inner left (Some op) tokens =
    let r = read_list_term inner (rest_of tokens) in (binary op (front_at tokens) left r.0, r.1)

unfoldable pub read_comparison : Reader TermTree → Reader TermTree
read_comparison inner tokens =
    let l = read_list_term inner tokens in compared_from inner l.0 (comparison_in (front_kind l.1)) l.1

abbrev pub is_not : Option TokenKind → Bool
is_not (Some (kind.Reserved word.Not)) = true
is_not _ = false

-- the words `not` at the front, behind those that were read
unfoldable pub read_nots : List ℕ → Reader (List ℕ)
read_nots nots [] = (nots, [])
read_nots nots (x ∷ rest) =
    if is_not (front_kind (x ∷ rest)) then read_nots (nots ++ x.at ∷ []) rest else (nots, x ∷ rest)

abbrev pub with_nots : List ℕ → TermTree → TermTree
with_nots [] t = t
with_nots (at ∷ nots) t = negation at (with_nots nots t)

unfoldable pub read_negation : Reader TermTree → Reader TermTree
read_negation inner tokens =
    let nots = read_nots [] tokens in
    let r = read_comparison inner nots.1 in
    (with_nots nots.0 r.0, r.1)

-- what stands between the operators of a chain
abbrev pub operand_of : Reader TermTree → Chain → Reader TermTree
operand_of inner chain.Disjunction = read_chain (read_negation inner) chain.Conjunction
operand_of inner chain.Conjunction = read_negation inner
operand_of inner chain.Sum = read_chain (read_primary inner) chain.Product
operand_of inner chain.Product = read_primary inner

unfoldable pub read_if : Reader TermTree → Reader TermTree
read_if inner tokens =
    let test = inner (rest_of tokens) in
    let holds = inner (rest_of test.1) in
    let fails = inner (rest_of holds.1) in
    (choosing (front_at tokens) test.0 holds.0 fails.0, fails.1)

-- `match`, a term, `{ nil =>`, a term, `| NAME :: NAME =>`, a term and `}`
unfoldable pub read_match : Reader TermTree → Reader TermTree
read_match inner tokens =
    let matched = inner (rest_of tokens) in
    let empty = inner (rest_of (rest_of (rest_of matched.1))) in
    let head = rest_of empty.1 in
    let tail = rest_of (rest_of head) in
    let more = inner (rest_of (rest_of tail)) in
    (matching (front_at tokens) matched.0 empty.0 (read_name head).0 (read_name tail).0 more.0, rest_of more.1)

-- a term that begins with such a token
unfoldable pub term_from : Reader TermTree → Option TokenKind → Reader TermTree
term_from inner (Some (kind.Reserved word.If)) tokens = read_if inner tokens
term_from inner (Some (kind.Reserved word.Match)) tokens = read_match inner tokens
term_from inner _ tokens = read_chain (operand_of inner chain.Disjunction) chain.Disjunction tokens

abbrev pub term_of_tokens : Reader TermTree → Reader TermTree
term_of_tokens inner tokens = term_from inner (front_kind tokens) tokens

-- a term in which no more than so many are open
unfoldable pub read_term : ℕ → Reader TermTree
read_term zero tokens = read_number tokens
read_term (suc room) tokens = term_of_tokens (read_term room) tokens
