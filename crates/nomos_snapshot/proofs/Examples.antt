-- Small ledgers and their texts.
use Rattle.std.proofs.Common.{◌≡◌, ℕ, List, [], ◌∷◌, ◌++◌, Some, None, true, false, pos, refl}
use Rattle.std.specs.Fmt.{digits}
use Rattle.std.specs.Prelude.{codes}
use Rattle.nomos_ir.specs.Value.{int, truth, list, value_list}
use Rattle.nomos_ir.specs.declared.lists.ProgramLists.{ProgramLists}
use Rattle.nomos_ir.specs.declared.mode.Mode.TheVariants as mode
use Rattle.nomos_legal.specs.Ledger.{LedgerState}
use Rattle.nomos_machine.specs.declared.object.Object.TheVariants as object
use Rattle.nomos_machine.specs.declared.object.Payload.TheVariants as payload
use Rattle.nomos_snapshot.specs.GatheredLines.{no_ledger}
use Rattle.nomos_snapshot.specs.Line.{lines_text}
use Rattle.nomos_snapshot.specs.Text.{ledger_lines}

-- a program with a label and nothing else
labelled : ProgramLists
labelled = record { defs = []; types = []; terms = []; code = []; fns = []; procs = []; labels = codes "melt" ∷ [] }

-- lines with their line feeds
fed : List (List ℕ) → List ℕ
fed [] = []
fed (line ∷ lines) = line ++ 10 ∷ fed lines

-- one account, and nothing left of what was run
paid : LedgerState
paid = record (no_ledger 2 2 0) {
  accounts = codes "u" ∷ [];
  state = record (no_ledger 2 2 0).state { balances = 5 ∷ [] };
}

paid_text : lines_text labelled (ledger_lines 1 paid)
    ≡ fed (codes "nomos-ledger 1" ∷ codes "unit 1" ∷ codes "next 2 2" ∷ codes "spent 0" ∷ codes "account u 5" ∷ [])
unfolding labelled fed paid digits
paid_text = refl

-- a process whose variables are values, a list and a channel, and two messages
busy : LedgerState
busy = record {
  accounts = codes "alice" ∷ codes "bob" ∷ [];
  contracts = (codes "wa", 1) ∷ [];
  deposits = 0;
  state = record {
    objects =
        object.Process (record {
          pid = 1;
          mode = mode.S;
          code = record { 0 = 15 };
          values = (record { 0 = 2 }, truth true) ∷ (
            record { 0 = 5 },
            list (value_list (int (pos 7) ∷ int (pos 8) ∷ [])),
          ) ∷ [];
          lists = (record { 0 = 3 }, record { amount = 2; items = int (pos 0) ∷ [] }) ∷ [];
          channels = (record { 0 = 4 }, 4) ∷ [];
          offers = 1;
          base = None;
          purse = 12;
          payer = 0;
        })
        ∷ object.Message (record {
          number = 2;
          to_client = true;
          from = 4;
          next = Some 5;
          payload = payload.Label (record { 0 = 0 });
          purse = 0;
        })
        ∷ object.Message (record {
          number = 9;
          to_client = false;
          from = 6;
          next = None;
          payload = payload.Close;
          purse = 3;
        })
        ∷ [];
    next_object = 10;
    next_name = 7;
    types = (1, record { 0 = 26 }) ∷ (4, record { 0 = 0 }) ∷ [];
    balances = 10 ∷ 0 ∷ [];
    spent = 6;
    results = [];
    outside = [];
  };
}

busy_text : lines_text labelled (ledger_lines 3 busy)
    ≡ fed (codes "nomos-ledger 1" ∷ codes "unit 3" ∷ codes "next 10 7" ∷ codes "spent 6" ∷ codes "account alice 10"
    ∷ codes "account bob 0" ∷ codes "contract wa 1" ∷ codes "name 1 26" ∷ codes "name 4 0"
    ∷ codes "process 1 S 15 offers 1 base - purse 12 payer 0" ∷ codes "value 2 true" ∷ codes "list 3 2 [0]"
    ∷ codes "chan 4 4" ∷ codes "value 5 [7,8]" ∷ codes "message 2 client 4 5 label melt purse 0"
    ∷ codes "message 9 provider 6 - close purse 3" ∷ [])
unfolding labelled fed busy digits
busy_text = refl
