-- The terms of a test: each stands behind its parts, and calls the one function with one argument.
use Rattle.std.specs.Prelude.{◌≡◌, ℕ, Bool, true, false, ◌&&◌, ◌==◌, nat_lt, List, [], ◌∷◌, Some, slice_get}
use Rattle.nomos_ir.specs.declared.code_node.CodeNode.{CodeNode}
use Rattle.nomos_ir.specs.declared.code_node.CodeNode.TheVariants as code
use Rattle.nomos_ir.specs.declared.declaration.FnDecl.{FnDecl}
use Rattle.nomos_ir.specs.declared.ids.TermId.{TermId}
use Rattle.nomos_ir.specs.declared.kind.Base.TheVariants as base
use Rattle.nomos_ir.specs.declared.kind.Kind.{Kind}
use Rattle.nomos_ir.specs.declared.term_node.TermNode.{TermNode}
use Rattle.nomos_ir.specs.declared.term_node.TermNode.TheVariants as node

abbrev pub is_one_before : ℕ → List TermId → Bool
is_one_before place (a ∷ []) = nat_lt a.0 place
is_one_before place _ = false

-- whether it may stand at this place
abbrev pub fits_at : ℕ → TermNode → Bool
fits_at place (node.Number at k) = true
fits_at place (node.Var at v) = true
fits_at place (node.Not at a) = nat_lt a.0 place
fits_at place (node.Add at a b) = nat_lt a.0 place && nat_lt b.0 place
fits_at place (node.Sub at a b) = nat_lt a.0 place && nat_lt b.0 place
fits_at place (node.Div at a b) = nat_lt a.0 place && nat_lt b.0 place
fits_at place (node.Rem at a b) = nat_lt a.0 place && nat_lt b.0 place
fits_at place (node.Less at a b) = nat_lt a.0 place && nat_lt b.0 place
fits_at place (node.Cons at a b) = nat_lt a.0 place && nat_lt b.0 place
fits_at place (node.If at test a b) = nat_lt test.0 place && (nat_lt a.0 place && nat_lt b.0 place)
fits_at place (node.Match at taken empty head tail full) =
    nat_lt taken.0 place && (nat_lt empty.0 place && nat_lt full.0 place)
fits_at place (node.Call at f values) = (f.0 == 0) && is_one_before place values
fits_at place _ = false

pub record IsTermTable (terms : List TermNode) : Type 0 where
  pub each : (place : ℕ) (n : TermNode) → slice_get terms place ≡ Some n → fits_at place n ≡ true

-- the function `f`, of a number, with this body
abbrev pub number : Kind
number = record { lists = 0; base = base.Int }

abbrev pub function_with : TermId → FnDecl
function_with body = record {
  name = 102 ∷ [];
  at = 0;
  pars = (record { 0 = 0 }, number) ∷ [];
  gives = number;
  body = body;
}

-- the end of a process, and before it a `let` of this term
abbrev pub keeps : TermId → CodeNode
keeps body = code.Let 0 (record { 0 = 9 }) body (record { 0 = 0 })

abbrev pub two_instructions : TermId → List CodeNode
two_instructions body = code.Close 0 ∷ keeps body ∷ []
