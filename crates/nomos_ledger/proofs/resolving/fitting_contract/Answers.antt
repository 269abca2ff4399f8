use Rattle.std.proofs.Common.{◌≡◌, ◌∙◌, ap, subst, sym}
use Rattle.nomos_ir.specs.declared.ids.TypeId.{TypeId}
use Rattle.nomos_ir.specs.declared.mode.Mode.TheVariants as mode
use Rattle.nomos_machine.specs.State.{type_of}
use Rattle.nomos_types.specs.Modes.{HasMode}
use Rattle.nomos_legal.specs.Ledger.{shared_name}
use Rattle.nomos_legal.proofs.ResolveLaws.{found-contract}
use Rattle.nomos_ledger.specs.mirror.Books.{BooksState}
use Rattle.nomos_ledger.proofs.resolving.fitting_contract.Goals as goal

pub are_alike-requires-clause-own : goal.are_alike-requires-clause-own
are_alike-requires-clause-own g c =
    let name = c.args.name.now in
    let shared = c.in-Some.shared in
    let own = c.in-Some-name_type.own in
    let named = c.shared_name.ensures ∙ ap (λ (b : BooksState). shared_name b.now.contracts name) c.books.view_is in
    let is =
    found-contract c.args.books.now.now.contracts name shared c.requires.contracts (sym named ∙ c.in-Some.is) in
    let typed = c.name_type.ensures ∙ ap (λ (b : BooksState). type_of b.now.state.types shared) c.books.view_is in
    let known = sym typed ∙ c.in-Some-name_type.is in
    let found = is.found in
    let same : is.own ≡ own = cc in
    subst (λ (t : TypeId). HasMode c.args.arguments.now.program t mode.S) same is.mode
