use Rattle.std.proofs.Common.{◌↔◌, IsTrue, List, sym, subst}
use Rattle.nomos_ir.specs.declared.lists.ProgramLists.{ProgramLists}
use Rattle.nomos_ir.specs.declared.mode.Mode.{Mode}
use Rattle.nomos_machine.specs.declared.object.Object.{Object}
use Rattle.nomos_types.specs.ModeTable.{AreModesOf}
use Rattle.nomos_typed.specs.declared.tie.Tie.{Tie}
use Rattle.nomos_typed.specs.declared.tie.Tie.TheVariants as tie
use Rattle.nomos_typed.specs.declared.told.Told.{Told}
use Rattle.nomos_typed.specs.mirror.Ties.{AreTied}
use Rattle.nomos_typed.specs.mirror.ComparedWith.{AreInOrder, IsTold}
use Rattle.nomos_typed.proofs.TieLemmas.{owned-exact}
use Rattle.nomos_typed.proofs.owning.are_names_owned.Goals as goal

pub returns : goal.returns
returns c =
    let told : Told =
    record { accepted = c.args.accepted; modes = c.as_slice.result; types = c.as_slice-2.result } in
    let state = c.args.state.now in
    let modes = subst (λ (l : ProgramLists). AreModesOf l c.as_slice.result.now) c.program.ensures.program
    (subst (λ (ms : List Mode). AreModesOf c.program.result.now ms) (sym c.as_slice.ensures.value)
    c.in_ok-modes.ensures) in
    let is_told : IsTold told = record {
      modes = modes;
      types = subst AreInOrder (sym c.as_slice-2.ensures) c.requires.ordered.table;
    } in
    let At : Tie → List Object → Type 0 = λ t os. AreTied told t os in
    let here = c.as_slice-objects.ensures in
    let exact = owned-exact told is_told c.program.ensures.accepted.is_program state c.as_slice-2.ensures in
    let provides : IsTrue c.in_ok-provided.provided ↔ At tie.Provides state.objects =
    subst (λ (os : List Object). IsTrue c.in_ok-provided.provided ↔ At tie.Provides os) here
    c.in_ok-provided.ensures in
    let uses : IsTrue c.in_ok-used.used ↔ At tie.Uses state.objects =
    subst (λ (os : List Object). IsTrue c.in_ok-used.used ↔ At tie.Uses os) here c.in_ok-used.ensures in
    let shares : IsTrue c.in_ok-shared.shared ↔ At tie.Shares state.objects =
    subst (λ (os : List Object). IsTrue c.in_ok-shared.shared ↔ At tie.Shares os) here c.in_ok-shared.ensures in (
      λ yes.
          let all = c.all_three.ensures.0 yes in
          exact.0 (provides.0 all.0, uses.0 all.1, shares.0 all.2),
      λ owned.
          let all = exact.1 owned in
          c.all_three.ensures.1 (provides.1 all.0, uses.1 all.1, shares.1 all.2),
    )
