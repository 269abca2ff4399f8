-- Small trees, what they print, and which of them stand for texts.
use Rattle.std.proofs.Common.{◌≡◌, [], ◌∷◌, None, refl}
use Rattle.std.specs.Prelude.{codes}
use Rattle.nomos_grammar.specs.declared.part.Nonterminal.TheVariants as production
use Rattle.nomos_ir.specs.declared.word.Word.TheVariants as word
use Rattle.nomos_surface.specs.declared.declarations.OfferedMode.TheVariants as mode
use Rattle.nomos_surface.specs.declared.terms.Operator.TheVariants as operator
use Rattle.nomos_surface.specs.Grammatical.{IsTerm, is_mul, is_number, is_parenthesized, is_primary, is_product, is_sum, is_add, is_disjunction, is_conjunction, is_negation, is_comparison, is_list_term}
use Rattle.nomos_surface.specs.Print.{print_file, print_term}
use Rattle.nomos_surface.specs.Printed.{at_offset, number_at, sign, sign_at, keyword, keyword_at}
use Rattle.nomos_surface.specs.Tree.{FileTree, TermTree, definition, one, binary, number, parenthesized}
use Rattle.nomos_syntax.specs.declared.symbol.Symbol.TheVariants as sym
use Rattle.nomos_syntax.specs.Lexeme.{name, number as number_text}

-- type R a = 1;
abbrev pub definition_tree : FileTree
definition_tree =
    record { cost = None; decls = definition 0 mode.R (record { name = codes "a"; at = 7 }) (one 11) ∷ [] }

pub definition_printed : print_file definition_tree
    ≡ keyword_at 0 word.«Type» ∷ keyword word.R ∷ at_offset 7 (name (codes "a")) ∷ sign sym.Equals ∷
    at_offset 11 (number_text (codes "1")) ∷ sign sym.Semicolon ∷ []
definition_printed = refl

-- 1 + 2
abbrev pub sum_tree : TermTree
sum_tree = binary operator.Add 2 (number 0 1) (number 4 2)

pub sum_printed : print_term sum_tree [] ≡ number_at 0 1 ∷ sign_at 2 sym.Plus ∷ number_at 4 2 ∷ []
sum_printed = refl

-- a sum stands before `*` in parentheses alone

pub sum_in_parentheses : IsTerm production.Product (binary operator.Mul 8 (parenthesized sum_tree) (number 10 3))
sum_in_parentheses =
    is_mul (is_primary (is_parenthesized
    (is_disjunction (is_conjunction (is_negation (is_comparison (is_list_term (is_sum
    (is_add (is_product (is_primary is_number)) (is_primary is_number)))))))))) is_number

no_sum : IsTerm production.Primary (binary operator.Add 2 (number 0 1) (number 4 2)) → ⊥
no_sum is = elim is [ ]
