use Rattle.std.proofs.Common.{◌≡◌, ℕ, ◌+◌, ◌-◌, ◌*◌, length, map}
use Rattle.nomos_reader.specs.declared.chain.Chain.{Chain}
use Rattle.nomos_reader.specs.declared.chain.Chain.TheVariants as chain
use Rattle.nomos_reader.specs.mirror.Front.{is_comma, read_parted, read_until}
use Rattle.nomos_reader.specs.mirror.TermPieces.{head_tree}
use Rattle.nomos_reader.specs.mirror.Terms.{operand_of, read_chain, read_conses, read_list_term, read_more, read_primary, read_term}
use Rattle.nomos_surface.specs.TermView.{term_tree}
use Rattle.nomos_reader.proofs.term_reader.+reading_terms.Given as goal

-- how far a chain stands above terms without operators
abbrev pub height : Chain → ℕ
height chain.Product = 4
height chain.Sum = 6
height chain.Conjunction = 11
height chain.Disjunction = 13

abbrev pub decreases-read_term : goal.decreases-read_term
decreases-read_term l = 16 * l.room

abbrev pub decreases-read_open_term : goal.decreases-read_open_term
decreases-read_open_term l = 16 * l.room + 15

abbrev pub decreases-read_if : goal.decreases-read_if
decreases-read_if l = 16 * l.room + 1

abbrev pub decreases-read_match : goal.decreases-read_match
decreases-read_match l = 16 * l.room + 1

abbrev pub decreases-read_chain : goal.decreases-read_chain
decreases-read_chain l = 16 * l.room + height l.chain + 1

abbrev pub decreases-read_operand : goal.decreases-read_operand
decreases-read_operand l = 16 * l.room + height l.chain

abbrev pub decreases-read_negation : goal.decreases-read_negation
decreases-read_negation l = 16 * l.room + 10

abbrev pub decreases-read_comparison : goal.decreases-read_comparison
decreases-read_comparison l = 16 * l.room + 9

abbrev pub decreases-read_list_term : goal.decreases-read_list_term
decreases-read_list_term l = 16 * l.room + 8

abbrev pub decreases-read_primary : goal.decreases-read_primary
decreases-read_primary l = 16 * l.room + 3

abbrev pub decreases-read_named : goal.decreases-read_named
decreases-read_named l = 16 * l.room + 2

abbrev pub decreases-read_parenthesized : goal.decreases-read_parenthesized
decreases-read_parenthesized l = 16 * l.room + 1

abbrev pub decreases-read_arguments : goal.decreases-read_arguments
decreases-read_arguments l = 16 * l.room + 1

-- the operators that are left, behind the term that was read, make the whole
abbrev pub invariant-read_chain-loop : goal.invariant-read_chain-loop
invariant-read_chain-loop l =
    read_more (operand_of (read_term l.room) l.chain) l.chain (l.end - l.counter) (term_tree l.left) l.tokens
    ≡ read_chain (operand_of (read_term l.room) l.chain) l.chain l.fn.tokens

-- the sums that are left, behind the heads that were read, make the whole
abbrev pub invariant-read_list_term-loop : goal.invariant-read_list_term-loop
invariant-read_list_term-loop l =
    read_conses (read_chain (read_chain (read_primary (read_term l.room)) chain.Product) chain.Sum) (l.end - l.counter)
    (map head_tree l.heads.items) l.tokens
    ≡ read_list_term (read_term l.room) l.fn.tokens

-- the terms that are left, behind those that were read, are all of them
abbrev pub invariant-read_arguments-loop : goal.invariant-read_arguments-loop
invariant-read_arguments-loop l =
    read_parted (read_term l.room) is_comma (l.end - l.counter) (map term_tree l.terms.items) l.tokens
    ≡ read_until (read_term l.room) (length l.fn.tokens) l.fn.tokens
