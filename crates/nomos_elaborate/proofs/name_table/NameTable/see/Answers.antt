use Rattle.std.proofs.Common.{ap, sym, arith}
use Rattle.nomos_elaborate.proofs.NameTables.{known-seen}
use Rattle.nomos_elaborate.specs.mirror.Checked.{found}
use Rattle.nomos_elaborate.proofs.name_table.NameTable.see.Goals as goal

pub returns-then-place-len-clause-gives : goal.returns-then-place-len-clause-gives
returns-then-place-len-clause-gives c =
    ap (λ p. found p) (sym (known-seen c.args.self.now c.args.text.now c.number_of-place.result
    c.number_of-place.ensures.place (omega (arith, c.if-place-len.true, c.len.ensures))))
