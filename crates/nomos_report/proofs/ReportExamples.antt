-- A small ledger as it is shown, and the ends of a batch in it.
use Rattle.std.proofs.Common.{◌≡◌, [], ◌∷◌, ◌++◌, Some, codes, negsuc, true, false, refl}
use Rattle.std.specs.Fmt.{digits}
use Rattle.nomos_ir.specs.Value.{int, truth, list, no_values, value}
use Rattle.nomos_ir.specs.declared.fault.Fault.TheVariants as fault
use Rattle.nomos_ir.specs.declared.mode.Mode.TheVariants as mode
use Rattle.nomos_types.specs.Acceptance.{Acceptance, acceptance}
use Rattle.nomos_machine.specs.RowPrograms.{every_row, type_id, var_id}
use Rattle.nomos_machine.specs.RowStates.{closing, having, small_state, stands_at}
use Rattle.nomos_machine.specs.State.{State}
use Rattle.nomos_machine.specs.declared.object.Object.TheVariants as object
use Rattle.nomos_machine.specs.declared.object.Process.{Process}
use Rattle.nomos_legal.specs.Ledger.{LedgerState}
use Rattle.nomos_legal.specs.declared.journal.End.TheVariants as end
use Rattle.nomos_legal.specs.declared.refusal.Refusal.TheVariants as refusal
use Rattle.nomos_report.specs.Block.{accepted_block}
use Rattle.nomos_report.specs.Reported.{end_lines}
use Rattle.nomos_report.specs.ShownState.{show_lines}

-- a unit has two parts
abbrev halves : Acceptance
halves = acceptance every_row.program (3 ∷ 4 ∷ []) 2

-- a contract that nobody has acquired
abbrev free_contract : Process
free_contract = record (having 7 (stands_at 15)) { mode = mode.S }

-- one that is acquired, and waits for the other one
abbrev held_contract : Process
held_contract =
    record (stands_at 17) { pid = 2; mode = mode.L; channels = (var_id 1, 1) ∷ []; offers = 2; base = Some 3 }

-- a transaction that waits for that one, and uses name 5 as well
abbrev waiting : Process
waiting = record (having 1 (stands_at 17)) {
  pid = 3;
  mode = mode.T;
  channels = (var_id 1, 3) ∷ (var_id 2, 2) ∷ (var_id 3, 5) ∷ [];
  offers = 4;
}

abbrev small : State
small =
    record
    (small_state
    ((1, type_id 23) ∷ (2, type_id 22) ∷ (3, type_id 24) ∷ (4, type_id 0) ∷ (5, type_id 2) ∷ [])
    (object.Process free_contract
    ∷ object.Process held_contract
    ∷ object.Process waiting
    ∷ object.Message (record (closing 4 5) { purse = 4 })
    ∷ [])) {
      spent = 8;
      results = (2, int (negsuc 4)) ∷ (1, list (value (truth true) (value (truth false) no_values))) ∷ [];
    }

abbrev small_ledger : LedgerState
small_ledger = record {
  accounts = codes "u" ∷ codes "w" ∷ [];
  contracts = (codes "shop", 3) ∷ (codes "bank", 1) ∷ [];
  deposits = 65;
  state = small;
}

-- Messages count among what is stored. Neither shared names nor those of transactions have a line.
shown : show_lines halves 9 small_ledger
    ≡ codes "line 9 show\naccount u 50/2\naccount w 60/2\ncontract shop process 2 gas 0/2 held\n"
    ++ codes "contract bank process 1 gas 7/2 free\nchannel 2 owner 3\nchannel 5 owner 3\n"
    ++ codes "stored 12/2\nspent 8/2\ndeposits 130/2\n"
unfolding digits
shown = refl

committed : end_lines halves 9 6 5 small end.Committed
    ≡ codes "line 9 committed firings 6 spent 3/2\nresult 2 -5\nresult 1 [true,false]\n"
unfolding digits
committed = refl

blocked : end_lines halves 9 6 5 small end.Blocked
    ≡ codes "line 9 blocked firings 6\nleft 3\nwaits 2 for 1 of 1\nwaits 3 for 3 of 2\n"
unfolding digits
blocked = refl

aborted : end_lines halves 9 6 5 small (end.Aborted 2 fault.Overflow)
    ≡ codes "line 9 aborted 2 Overflow firings 6\n"
unfolding digits
aborted = refl

stopped : end_lines halves 9 6 5 small (end.Steps 6) ≡ codes "line 9 steps 6\n"
unfolding digits
stopped = refl

deposited : end_lines halves 9 0 8 small end.Deposited ≡ codes "line 9 deposited\n"
unfolding digits
deposited = refl

refused : end_lines halves 9 0 8 small (end.Refused 10 (refusal.NoGas (codes "u") 50 60))
    ≡ codes "line 9 refused at 10 NoGas u has 50/2 needs 60/2\n"
unfolding digits
refused = refl

-- contracts and transactions alone have a bound
accepted : accepted_block halves
    ≡ codes "accepted\nunit 1/2\nstar 1 = 3/2\nstar 2 = 4/2\nbound p = 0/2\nbound p = 0/2\n"
unfolding digits
accepted = refl
