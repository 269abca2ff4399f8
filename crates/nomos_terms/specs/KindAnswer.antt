-- What is answered of the kind of a term.
use Rattle.std.specs.Prelude.{◌≡◌, Some, slice_get}
use Rattle.std.specs.Option.{option_map}
use Rattle.std.specs.declared.result.Result.{Result}
use Rattle.std.specs.declared.result.Result.TheVariants.{Ok, Err}
use Rattle.nomos_ir.specs.declared.ids.TermId.{TermId}
use Rattle.nomos_ir.specs.declared.kind.Kind.{Kind}
use Rattle.nomos_ir.specs.declared.lists.ProgramLists.{ProgramLists}
use Rattle.nomos_ir.specs.TermKind.{VariableKinds, HasKind}
use Rattle.nomos_ir.specs.TermOffset.{term_offset}
use Rattle.nomos_terms.specs.declared.kinds.TermError.{TermError}
use Rattle.nomos_terms.specs.declared.kinds.TermError.TheVariants as error

-- the kind of the term, or its offset where it has no kind
abbrev pub AnswersKind : ProgramLists → VariableKinds → TermId → Result Kind TermError → Type 0
AnswersKind lists vars t (Ok kind) = HasKind lists vars t kind
AnswersKind lists vars t (Err (error.TermType at)) =
    ((kind : Kind) → ¬ HasKind lists vars t kind) × (option_map term_offset (slice_get lists.terms t.0) ≡ Some at)
AnswersKind lists vars t (Err error.NoMemory) = Unit {0}
