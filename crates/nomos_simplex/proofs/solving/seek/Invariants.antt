use Rattle.std.proofs.Common.{◌≡◌, ◌-◌}
use Rattle.nomos_simplex.specs.LeastRun.{PivotsTo}
use Rattle.nomos_simplex.specs.PivotRun.{run, answer_to}
use Rattle.nomos_simplex.specs.mirror.Classes.{ShowsFull}
use Rattle.nomos_simplex.specs.declared.table.Table.{Table}
use Rattle.nomos_simplex.proofs.TableLaws.{IsTableOfRows}
use Rattle.nomos_simplex.proofs.solving.seek.Given as goal

-- the run comes to the table, and from there on it has the answer
abbrev pub invariant-loop-pivots : goal.invariant-loop-pivots
invariant-loop-pivots l = record {
  full : Table;
  answer : run (2000 - l.pivots) l.pivots l.rows full ≡ answer_to l.rows;
  reaches : PivotsTo l.rows l.pivots full;
  shows : ShowsFull l.rows l.classed full;
}
