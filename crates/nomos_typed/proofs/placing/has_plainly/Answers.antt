use Rattle.std.proofs.Common.{◌↔◌, IsTrue, List, subst}
use Rattle.nomos_ir.specs.Paired.{ArePaired}
use Rattle.nomos_ir.specs.Value.{Value}
use Rattle.nomos_ir.specs.ValueKind.{ValueHasKind}
use Rattle.nomos_ir.specs.declared.ids.VarId.{VarId}
use Rattle.nomos_ir.specs.declared.kind.Kind.{Kind}
use Rattle.nomos_machine.specs.declared.object.PotentialList.{PotentialList}
use Rattle.nomos_places.specs.declared.place.HeldList.{HeldList}
use Rattle.nomos_typed.specs.mirror.AtPlaces.{IsListHeld}
use Rattle.nomos_typed.proofs.placing.has_plainly.Goals as goal

pub returns : goal.returns
returns c =
    let p = c.args.process.now in
    let place = c.args.place.now in
    let values : IsTrue c.values_fit-values.result ↔ ArePaired ValueHasKind p.values place.kinds =
    subst (λ (ks : List (VarId × Kind)). IsTrue c.values_fit-values.result ↔ ArePaired ValueHasKind p.values ks)
    c.as_slice-2.ensures
    (subst (λ (vs : List (VarId × Value)). IsTrue c.values_fit-values.result
    ↔ ArePaired ValueHasKind vs c.as_slice-2.result.now) c.as_slice.ensures c.values_fit-values.ensures) in
    let lists : IsTrue c.lists_fit-lists.result ↔ ArePaired IsListHeld p.lists place.lists =
    subst (λ (hs : List (VarId × HeldList)). IsTrue c.lists_fit-lists.result ↔ ArePaired IsListHeld p.lists hs)
    c.as_slice-4.ensures
    (subst (λ (ls : List (VarId × PotentialList)). IsTrue c.lists_fit-lists.result
    ↔ ArePaired IsListHeld ls c.as_slice-4.result.now) c.as_slice-3.ensures c.lists_fit-lists.ensures) in (
      λ yes.
          let three = c.all_three.ensures.0 yes in
          let stands = c.both-stands.ensures.0 three.0 in
          let enough = c.is_enough.ensures.0 stands.1 in
          record {
            mode = c.is_mode.ensures.0 stands.0;
            values = values.0 three.1;
            held = lists.0 three.2;
            covered = enough.0;
            enough = enough.1;
          },
      λ has.
          c.all_three.ensures.1 (
            c.both-stands.ensures.1 (c.is_mode.ensures.1 has.mode, c.is_enough.ensures.1 (has.covered, has.enough)),
            values.1 has.values,
            lists.1 has.held,
          ),
    )
