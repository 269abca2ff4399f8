use Rattle.std.proofs.Common.{◌≡◌, ◌-◌, List, length, map, Some, None, sym, ap, ◌∙◌, arith}
use Rattle.nomos_reader.specs.declared.chain.Chain.TheVariants as chain
use Rattle.nomos_surface.specs.declared.terms.SurfaceTerm.{SurfaceTerm}
use Rattle.nomos_reader.specs.mirror.Front.{front_kind, is_comma, read_until}
use Rattle.nomos_reader.specs.mirror.TermPieces.{head_tree}
use Rattle.nomos_reader.specs.mirror.Terms.{operand_of, operator_in, read_chain, read_list_term, read_primary, read_term, with_heads}
use Rattle.nomos_surface.specs.Tree.{TermTree}
use Rattle.nomos_surface.specs.TermView.{term_tree}
use Rattle.nomos_syntax.specs.Lexeme.{Placed}
use Rattle.nomos_reader.proofs.ChainLemmas.{chain_start, conses_start, if_ok, last_sum, next_head, next_operator, no_operator, no_sum, no_turn}
use Rattle.nomos_reader.proofs.PartedLemmas.{last_item, mapped-end, next_item, no_item, until_none, until_some}
use Rattle.nomos_reader.proofs.term_reader.+reading_terms.Goals as goal

pub read_arguments-returns-then-at_list_end : goal.read_arguments-returns-then-at_list_end
read_arguments-returns-then-at_list_end t c =
    rw c.new-terms.ensures.items
    (sym (until_none (read_term c.args.room) (length c.args.tokens.now) c.args.tokens.now
    (sym c.at_list_end.ensures ∙ c.if-at_list_end.true)))

pub read_arguments-loop-init : goal.read_arguments-loop-init
read_arguments-loop-init t c =
    let k : c.len-end.result - 0 ≡ length c.args.tokens.now = omega arith in
    rw (k, c.new-terms.ensures.items)
    (sym (until_some (read_term c.args.room) (length c.args.tokens.now) c.args.tokens.now
    (sym c.at_list_end.ensures ∙ c.if-at_list_end.false)))

pub read_arguments-returns-then-not-at_comma : goal.read_arguments-returns-then-not-at_comma
read_arguments-returns-then-not-at_comma t c =
    last_item term_tree (read_term c.args.room) is_comma c.len-end.result c.loop.counter c.loop.terms.items
    c.loop.tokens
    (read_until (read_term c.args.room) (length c.args.tokens.now) c.args.tokens.now)
    c.in_ok-read_term.field-0 c.read_term.new.tokens c.push.new.self.items c.loop-test.true c.in_ok-read_term.ensures
    (sym c.at_comma.ensures ∙ c.if-not-at_comma.true) c.in_ok-push.ensures.items c.loop.invariant

pub read_arguments-loop-preserved : goal.read_arguments-loop-preserved
read_arguments-loop-preserved t c =
    next_item term_tree (read_term c.args.room) is_comma c.len-end.result c.loop.counter c.loop.terms.items
    c.loop.tokens
    (read_until (read_term c.args.room) (length c.args.tokens.now) c.args.tokens.now)
    c.in_ok-read_term.field-0 c.read_term.new.tokens c.push.new.self.items c.skip.new.self c.loop-test.true
    c.in_ok-read_term.ensures
    (sym c.at_comma.ensures ∙ c.if-not-at_comma.false) c.in_ok-push.ensures.items c.skip.ensures.rest c.loop.invariant

pub read_arguments-returns : goal.read_arguments-returns
read_arguments-returns t c =
    no_item term_tree (read_term c.args.room) is_comma c.len-end.result c.loop.counter c.loop.terms.items c.loop.tokens
    (read_until (read_term c.args.room) (length c.args.tokens.now) c.args.tokens.now)
    c.loop-test.false c.loop.invariant

pub read_chain-loop-init : goal.read_chain-loop-init
read_chain-loop-init t c =
    let k : c.len-end.result - 0 ≡ length c.read_operand.new.tokens = omega arith in
    chain_start (operand_of (read_term c.args.room) c.args.chain) c.args.chain (term_tree c.in_ok-left.left)
    c.args.tokens.now c.read_operand.new.tokens
    (c.len-end.result - 0) k c.in_ok-left.ensures

pub read_chain-returns-in_default : goal.read_chain-returns-in_default
read_chain-returns-in_default t c =
    let e : operator_in c.args.chain (front_kind c.loop.tokens) ≡ None =
    sym (ap (operator_in c.args.chain) c.kind.ensures) ∙ sym c.operator_in.ensures ∙ c.in_default.is in
    no_operator (operand_of (read_term c.args.room) c.args.chain) c.args.chain c.len-end.result c.loop.counter
    (term_tree c.loop.left) c.loop.tokens
    (read_chain (operand_of (read_term c.args.room) c.args.chain) c.args.chain c.args.tokens.now) c.loop-test.true e
    c.loop.invariant

pub read_chain-loop-preserved : goal.read_chain-loop-preserved
read_chain-loop-preserved t c =
    let e : operator_in c.args.chain (front_kind c.loop.tokens) ≡ Some c.in-Some.operator =
    sym (ap (operator_in c.args.chain) c.kind.ensures) ∙ sym c.operator_in.ensures ∙ c.in-Some.is in
    let read : (term_tree c.in_ok-right.right, c.read_operand-in-loop.new.tokens)
    ≡ operand_of (read_term c.args.room) c.args.chain _ =
    rw (← c.skip-at.ensures.rest) c.in_ok-right.ensures in
    rw (c.in_ok-left-2.ensures, c.skip-at.ensures.at)
    (next_operator (operand_of (read_term c.args.room) c.args.chain) c.args.chain c.len-end.result c.loop.counter
    (term_tree c.loop.left) c.loop.tokens
    (read_chain (operand_of (read_term c.args.room) c.args.chain) c.args.chain c.args.tokens.now)
    c.in-Some.operator (term_tree c.in_ok-right.right) c.read_operand-in-loop.new.tokens c.loop-test.true e read
    c.loop.invariant)

pub read_chain-returns : goal.read_chain-returns
read_chain-returns t c =
    no_turn (operand_of (read_term c.args.room) c.args.chain) c.args.chain c.len-end.result c.loop.counter
    (term_tree c.loop.left) c.loop.tokens
    (read_chain (operand_of (read_term c.args.room) c.args.chain) c.args.chain c.args.tokens.now) c.loop-test.false
    c.loop.invariant

pub read_list_term-loop-init : goal.read_list_term-loop-init
read_list_term-loop-init t c =
    let k : c.len-end.result - 0 ≡ length c.args.tokens.now = omega arith in
    rw (k, c.new-heads.ensures.items) (conses_start (read_term c.args.room) c.args.tokens.now)

pub read_list_term-returns-then-not-at_cons : goal.read_list_term-returns-then-not-at_cons
read_list_term-returns-then-not-at_cons t c =
    if_ok (λ (u : SurfaceTerm). term_tree u ≡ with_heads (map head_tree c.loop.heads.items) (term_tree c.in_ok-sum.sum))
    _ c.with_heads.result
    (λ u made. ap (λ (v : TermTree). let p : TermTree × List Placed = (v, c.read_chain.new.tokens) in p) made
    ∙ last_sum (read_chain (read_chain (read_primary (read_term c.args.room)) chain.Product) chain.Sum) c.len-end.result
    c.loop.counter
    (map head_tree c.loop.heads.items) c.loop.tokens (read_list_term (read_term c.args.room) c.args.tokens.now)
    (term_tree c.in_ok-sum.sum) c.read_chain.new.tokens c.loop-test.true c.in_ok-sum.ensures
    (sym c.at_cons.ensures ∙ c.if-not-at_cons.true) c.loop.invariant)
    c.with_heads.ensures

pub read_list_term-loop-preserved : goal.read_list_term-loop-preserved
read_list_term-loop-preserved t c =
    rw (c.in_ok-push.ensures.items, mapped-end, c.skip-at.ensures.at)
    (next_head (read_chain (read_chain (read_primary (read_term c.args.room)) chain.Product) chain.Sum) c.len-end.result
    c.loop.counter
    (map head_tree c.loop.heads.items) c.loop.tokens (read_list_term (read_term c.args.room) c.args.tokens.now)
    (term_tree c.in_ok-sum.sum) c.read_chain.new.tokens c.skip-at.new.self c.loop-test.true c.in_ok-sum.ensures
    (sym c.at_cons.ensures ∙ c.if-not-at_cons.false) c.skip-at.ensures.rest c.loop.invariant)

pub read_list_term-returns : goal.read_list_term-returns
read_list_term-returns t c =
    if_ok (λ (u : SurfaceTerm). term_tree u
    ≡ with_heads (map head_tree c.loop.heads.items) (term_tree c.read_number-last.result)) _ c.with_heads-2.result
    (λ u made. ap (λ (v : TermTree). let p : TermTree × List Placed = (v, c.read_number-last.new.tokens) in p) made
    ∙ no_sum (read_chain (read_chain (read_primary (read_term c.args.room)) chain.Product) chain.Sum) c.len-end.result
    c.loop.counter
    (map head_tree c.loop.heads.items) c.loop.tokens (read_list_term (read_term c.args.room) c.args.tokens.now)
    (term_tree c.read_number-last.result) c.read_number-last.new.tokens c.loop-test.false c.read_number-last.ensures
    c.loop.invariant)
    c.with_heads-2.ensures
