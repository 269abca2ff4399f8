use Rattle.std.proofs.Common.{◌≡◌, ℕ, List, Option, None, Bor, ap}
use Rattle.std.specs.Option.{option_map}
use Rattle.nomos_answers.specs.Outside.{SourceState, source_state}
use Rattle.nomos_carrying.specs.CarrySources.{IsBeginDueFor, IsNumbersDueFor, IsRenumberDueFor}
use Rattle.nomos_carry.specs.CarryWords.{CarryTask, carry, numbers, renumber}
use Rattle.nomos_carry.specs.mirror.Errands.{IsDueBehind}
use Rattle.nomos_carry.proofs.CallLemmas.{begin-behind, if_some-map, numbers-behind, renumber-behind}
use Rattle.nomos_carry.proofs.carry.accepted_due.Goals as goal

pub returns-in-Carry-default-None-default-default-clause-due :
    goal.returns-in-Carry-default-None-default-default-clause-due
returns-in-Carry-default-None-default-default-clause-due g c =
    let a = c.args.accepted.now in
    let arm = c.in-Carry-default-None-default-default in
    let snapshot : SourceState =
    source_state (g.S.Source.left c.args.snapshot.now) (g.S.Source.faults c.args.snapshot.now)
    (g.S.Source.faults c.args.snapshot.now) in
    let script : SourceState = source_state (g.S.Source.left c.args.script.now) (g.S.Source.faults c.args.script.now)
    (g.S.Source.faults c.begin_due.new.script) in
    let word : Option (Bor (List ℕ)) → Option (List ℕ) = option_map (λ (w : Bor (List ℕ)). w.now) in
    let from : Option (List ℕ) = word arm.snapshot in
    let empty : arm.snapshot ≡ None = rw arm.is at arm.snapshot-is in
    let none : from ≡ None = ap word empty in
    let task : CarryTask = carry arm.file.now from arm.script.now arm.new.now in
    rw arm.is
    (if_some-map c.begin_due.result (IsBeginDueFor a script) (IsDueBehind a task snapshot script)
    (λ due is. begin-behind a snapshot script due arm.file.now from arm.script.now arm.new.now none is)
    c.begin_due.ensures)

pub returns-in-Renumber-clause-due : goal.returns-in-Renumber-clause-due
returns-in-Renumber-clause-due g c =
    let a = c.args.accepted.now in
    let arm = c.in-Renumber in
    let snapshot : SourceState =
    source_state (g.S.Source.left c.args.snapshot.now) (g.S.Source.faults c.args.snapshot.now)
    (g.S.Source.faults c.renumber_due.new.snapshot) in
    let script : SourceState = source_state (g.S.Source.left c.args.script.now) (g.S.Source.faults c.args.script.now)
    (g.S.Source.faults c.args.script.now) in
    let task : CarryTask = renumber arm.file.now arm.snapshot.now arm.new.now in
    rw arm.is
    (if_some-map c.renumber_due.result (IsRenumberDueFor a snapshot) (IsDueBehind a task snapshot script)
    (λ due is. renumber-behind a snapshot script due arm.file.now arm.snapshot.now arm.new.now is)
    c.renumber_due.ensures)

pub returns-in-Numbers-clause-due : goal.returns-in-Numbers-clause-due
returns-in-Numbers-clause-due g c =
    let a = c.args.accepted.now in
    let arm = c.in-Numbers in
    let snapshot : SourceState =
    source_state (g.S.Source.left c.args.snapshot.now) (g.S.Source.faults c.args.snapshot.now)
    (g.S.Source.faults c.numbers_due.new.snapshot) in
    let script : SourceState = source_state (g.S.Source.left c.args.script.now) (g.S.Source.faults c.args.script.now)
    (g.S.Source.faults c.args.script.now) in
    let task : CarryTask = numbers arm.file.now arm.snapshot.now in
    rw arm.is
    (if_some-map c.numbers_due.result (IsNumbersDueFor a snapshot) (IsDueBehind a task snapshot script)
    (λ due is. numbers-behind a snapshot script due arm.file.now arm.snapshot.now is) c.numbers_due.ensures)
