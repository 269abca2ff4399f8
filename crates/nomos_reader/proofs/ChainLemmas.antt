-- Operators one after another, as loops read them.
use Rattle.std.proofs.Common.{◌≡◌, ℕ, zero, suc, ◌+◌, ◌-◌, ◌<◌, ◌≤◌, true, false, List, [], ◌∷◌, ◌++◌, length, map, Option, Some, None, Result, Ok, Err, IfOk, refl, sym, ap, ◌∙◌, arith}
use Rattle.nomos_reader.specs.declared.chain.Chain.{Chain}
use Rattle.nomos_reader.specs.declared.chain.Chain.TheVariants as chain
use Rattle.nomos_surface.specs.declared.terms.Operator.{Operator}
use Rattle.nomos_surface.specs.declared.terms.Operator.TheVariants as operator
use Rattle.nomos_reader.specs.mirror.Front.{Reader, front_at, front_kind, rest_of}
use Rattle.nomos_reader.specs.mirror.Terms.{Heads, is_cons, is_not, more_from, operator_in, read_chain, read_conses, read_list_term, read_more, read_primary, read_nots, read_number, read_term, term_of_tokens, with_heads, with_nots}
use Rattle.nomos_reader.proofs.PartedLemmas.{mapped-end}
use Rattle.nomos_surface.specs.Tree.{TermTree, binary, negation}
use Rattle.nomos_syntax.specs.Lexeme.{Placed}

-- one more word `not`
pub more_nots : (nots : List ℕ) (tokens : List Placed) → is_not (front_kind tokens) ≡ true →
    read_nots nots tokens ≡ read_nots (nots ++ front_at tokens ∷ []) (rest_of tokens)
unfolding read_nots
more_nots nots [] e = cc
more_nots nots (x ∷ rest) e = rw e refl

-- no more words `not`
pub no_nots : (nots : List ℕ) (tokens : List Placed) → is_not (front_kind tokens) ≡ false
    → read_nots nots tokens ≡ (nots, tokens)
unfolding read_nots
no_nots nots [] e = refl
no_nots nots (x ∷ rest) e = rw e refl

-- the last word `not` is the innermost
pub last_not : (nots : List ℕ) (at : ℕ) (t : TermTree) → with_nots (nots ++ at ∷ []) t ≡ with_nots nots (negation at t)
last_not [] at t = refl
last_not (a ∷ nots) at t = ap (negation a) (last_not nots at t)

-- the last head is the innermost
pub last_head : (heads : Heads) (h : TermTree × ℕ) (t : TermTree) →
    with_heads (heads ++ h ∷ []) t ≡ with_heads heads (binary operator.Cons h.1 h.0 t)
last_head [] h t = refl
last_head (a ∷ heads) h t = ap (λ (u : TermTree). binary operator.Cons a.1 a.0 u) (last_head heads h t)

pub closed_term : (room : ℕ) (tokens : List Placed) → room ≡ 0 → read_term room tokens ≡ read_number tokens
unfolding read_term
closed_term zero tokens e = refl
closed_term (suc room) tokens e = absurd (omega arith)

pub open_term : (room : ℕ) (tokens : List Placed) → 0 < room
    → read_term room tokens ≡ term_of_tokens (read_term (room - 1)) tokens
unfolding read_term
open_term zero tokens lt = absurd (omega arith)
open_term (suc room) tokens lt = let e : suc room - 1 ≡ room = omega arith in rw e refl

pub more_step : (next : TermTree → Reader TermTree) (operand : Reader TermTree) (found : Option Operator)
    (op : Operator) (left right : TermTree)
    (tokens rest : List Placed) → found ≡ Some op → (right, rest) ≡ operand (rest_of tokens) →
    more_from next operand left found tokens ≡ next (binary op (front_at tokens) left right) rest
more_step next operand found op left right tokens rest is read =
    ap (λ (o : Option Operator). more_from next operand left o tokens) is
    ∙ ap (λ (r : TermTree × List Placed). next (binary op (front_at tokens) left r.0) r.1) (sym read)

-- the last of mapped heads is the innermost
pub last_mapped : {X : Type 0} (f : X → TermTree × ℕ) (xs ys : List X) (x : X) (t : TermTree) → ys ≡ xs ++ x ∷ [] →
    with_heads (map f ys) t ≡ with_heads (map f xs) (binary operator.Cons (f x).1 (f x).0 t)
last_mapped f xs ys x t e =
    ap (λ (l : List _). with_heads (map f l) t) e
    ∙ ap (λ (l : Heads). with_heads l t) (mapped-end f xs x)
    ∙ last_head (map f xs) (f x) t

module _ (operand : Reader TermTree) (c : Chain) (n i : ℕ) (left : TermTree) (tokens : List Placed)
    (total : TermTree × List Placed) where
  -- one more operator of the chain, and what stands behind it
  pub next_operator : (op : Operator) (right : TermTree) (rest : List Placed) → i < n
      → operator_in c (front_kind tokens) ≡ Some op →
      (right, rest) ≡ operand (rest_of tokens) → read_more operand c (n - i) left tokens ≡ total →
      read_more operand c (n - (i + 1)) (binary op (front_at tokens) left right) rest ≡ total
  unfolding read_more
  next_operator op right rest lt is read so_far =
      let k : n - i ≡ suc (n - (i + 1)) = omega arith in
      let step : read_more operand c (n - i) left tokens
      ≡ read_more operand c (n - (i + 1)) (binary op (front_at tokens) left right) rest =
      rw k (more_step (read_more operand c (n - (i + 1))) operand (operator_in c (front_kind tokens)) op left right
      tokens rest is read) in
      sym step ∙ so_far

  -- no operator of the chain is next
  pub no_operator : i < n → operator_in c (front_kind tokens) ≡ None → read_more operand c (n - i) left tokens ≡ total
      → (left, tokens) ≡ total
  unfolding read_more
  no_operator lt is so_far =
      let k : n - i ≡ suc (n - (i + 1)) = omega arith in
      let step : read_more operand c (n - i) left tokens ≡ (left, tokens) = rw (k, is) refl in
      sym step ∙ so_far

  -- no turn is left
  pub no_turn : n ≤ i → read_more operand c (n - i) left tokens ≡ total → (left, tokens) ≡ total
  unfolding read_more
  no_turn le so_far =
      let k : n - i ≡ 0 = omega arith in
      let step : read_more operand c (n - i) left tokens ≡ (left, tokens) = rw k refl in
      sym step ∙ so_far

module _ (sum : Reader TermTree) (n i : ℕ) (heads : Heads) (tokens : List Placed) (total : TermTree × List Placed) where
  -- a sum with a `::` behind it
  pub next_head : (t : TermTree) (rest others : List Placed) → i < n → (t, rest) ≡ sum tokens
      → is_cons (front_kind rest) ≡ true →
      others ≡ rest_of rest → read_conses sum (n - i) heads tokens ≡ total →
      read_conses sum (n - (i + 1)) (heads ++ (t, front_at rest) ∷ []) others ≡ total
  unfolding read_conses
  next_head t rest others lt read is left so_far =
      let k : n - i ≡ suc (n - (i + 1)) = omega arith in
      let step : read_conses sum (n - i) heads tokens
      ≡ read_conses sum (n - (i + 1)) (heads ++ (t, front_at rest) ∷ []) (rest_of rest) = rw (k, ← read, is) refl in
      rw left (sym step ∙ so_far)

  -- a sum with no `::` behind it
  pub last_sum : (t : TermTree) (rest : List Placed) → i < n → (t, rest) ≡ sum tokens
      → is_cons (front_kind rest) ≡ false →
      read_conses sum (n - i) heads tokens ≡ total → (with_heads heads t, rest) ≡ total
  unfolding read_conses
  last_sum t rest lt read is so_far =
      let k : n - i ≡ suc (n - (i + 1)) = omega arith in
      let step : read_conses sum (n - i) heads tokens ≡ (with_heads heads t, rest) = rw (k, ← read, is) refl in
      sym step ∙ so_far

  -- no turn is left
  pub no_sum : (t : TermTree) (rest : List Placed) → n ≤ i → (t, rest) ≡ read_number tokens
      → read_conses sum (n - i) heads tokens ≡ total →
      (with_heads heads t, rest) ≡ total
  unfolding read_conses
  no_sum t rest le read so_far =
      let k : n - i ≡ 0 = omega arith in
      let step : read_conses sum (n - i) heads tokens
      ≡ (with_heads heads (read_number tokens).0, rest_of tokens) = rw k refl in
      ap (λ (p : TermTree × List Placed). (with_heads heads p.0, p.1)) read ∙ sym step ∙ so_far

-- what holds of what was made
pub if_ok : {X E : Type 0} (P Q : X → Type 0) (r : Result X E) → ((x : X) → P x → Q x) → IfOk r P → IfOk r Q
if_ok P Q (Ok x) f h = f x h
if_ok P Q (Err e) f h = tt

-- a chain begins with what stands before its operators
pub chain_start : (operand : Reader TermTree) (c : Chain) (l : TermTree) (tokens rest : List Placed) (n : ℕ)
    → n ≡ length rest → (l, rest) ≡ operand tokens →
    read_more operand c n l rest ≡ read_chain operand c tokens
unfolding read_chain
chain_start operand c l tokens rest n e read =
    ap (λ k. read_more operand c k l rest) e
    ∙ ap (λ (p : TermTree × List Placed). read_more operand c (length p.1) p.0 p.1) read

-- the term of a list begins with no heads
pub conses_start : (inner : Reader TermTree) (tokens : List Placed) →
    read_conses (read_chain (read_chain (read_primary inner) chain.Product) chain.Sum) (length tokens) [] tokens
    ≡ read_list_term inner tokens
unfolding read_list_term
conses_start inner tokens = refl
