use Rattle.std.proofs.Common.{◌≡◌, ◌∙◌, Some, sym, ap, refl}
use Rattle.std.specs.Option.{option_map}
use Rattle.nomos_ir.specs.ValueNode.{value_of}
use Rattle.nomos_deeds.specs.Acts.{act_change}
use Rattle.nomos_machine.specs.Deeds.{one_of}
use Rattle.nomos_changes.proofs.RevisionLemmas.{let-revises, empty-revises, end-revises, add-revises, parted-revises}
use Rattle.nomos_changes.proofs.acts_alone.revision_of.Goals as goal

pub returns-in-Some-clause-revises : goal.returns-in-Some-clause-revises
returns-in-Some-clause-revises c a s p change is alone =
    let one : Some c.in-Some.value ≡ one_of c.args.values = sym c.in-Some.is ∙ c.in_ok-value-in-Let.ensures in (
      let-revises a s p c.args.values change c.in-Some.value c.in-Let.variable c.in-Let.next one
          (ap (act_change a s p c.args.values) (sym c.in-Let.is) ∙ is),
      refl,
    )

pub returns-in-Empty-clause-revises : goal.returns-in-Empty-clause-revises
returns-in-Empty-clause-revises c a s p change is alone = (
  empty-revises a s p c.args.values change c.in-Empty.variable c.in-Empty.amount c.in-Empty.next
      (ap (act_change a s p c.args.values) (sym c.in-Empty.is) ∙ is),
  refl,
)

pub returns-in-Some-2-clause-revises : goal.returns-in-Some-2-clause-revises
returns-in-Some-2-clause-revises c a s p change is alone =
    let one : Some (value_of c.in-Some-2.node) ≡ one_of c.args.values =
    ap (option_map value_of) (sym c.in-Some-2.is) ∙ c.in_ok-node-in-Add.ensures in (
      add-revises a s p c.args.values change c.in-Some-2.node c.in-Add.variable c.in-Add.list
          c.in-Add.next one
          (ap (act_change a s p c.args.values) (sym c.in-Add.is) ∙ is),
      refl,
    )

pub returns-in-End-clause-revises : goal.returns-in-End-clause-revises
returns-in-End-clause-revises c a s p change is alone = (
  end-revises a s p c.args.values change c.in-End.list c.in-End.next
      (ap (act_change a s p c.args.values) (sym c.in-End.is) ∙ is),
  refl,
)

pub returns-in-TakeApart-clause-revises : goal.returns-in-TakeApart-clause-revises
returns-in-TakeApart-clause-revises c a s p change is alone = (
  parted-revises a s p c.args.values change c.in-TakeApart.list c.in-TakeApart.head c.in-TakeApart.tail
      c.in-TakeApart.next (ap (act_change a s p c.args.values) (sym c.in-TakeApart.is) ∙ is),
  refl,
)
