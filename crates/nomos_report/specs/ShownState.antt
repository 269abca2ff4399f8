-- The lines of a `show`: accounts, contracts, linear channels with their owners, and gas.
use Rattle.std.specs.Prelude.{ℕ, ◌*◌, List, [], ◌++◌, codes, decimal, find, Option, Some, None, if◌then◌else◌, sum_by}
use Rattle.std.specs.List.{flat_map, zip}
use Rattle.nomos_base.specs.Gas.{gas_text}
use Rattle.nomos_ir.specs.declared.ids.TypeId.{TypeId}
use Rattle.nomos_types.specs.Acceptance.{Acceptance}
use Rattle.nomos_machine.specs.Objects.{process_of, purse_of}
use Rattle.nomos_machine.specs.Optional.{◌>>=◌}
use Rattle.nomos_machine.specs.Sight.{owner}
use Rattle.nomos_machine.specs.State.{State}
use Rattle.nomos_machine.specs.declared.object.Object.{Object}
use Rattle.nomos_machine.specs.declared.object.Process.{Process}
use Rattle.nomos_deeds.specs.Readers.{stands_for, looks_linear}
use Rattle.nomos_legal.specs.Ledger.{LedgerState}
use Rattle.nomos_report.specs.ReportLines.{line, line_of}

-- `account NAME G`
abbrev pub account_line : ℕ → List ℕ × ℕ → List ℕ
account_line unit account = line (codes "account " ++ account.0 ++ codes " " ++ gas_text account.1 unit)

-- whether a client has acquired the contract, for which a process stands with this base
abbrev pub held_text : Option ℕ → List ℕ
held_text (Some base) = codes "held"
held_text None = codes "free"

-- `contract NAME process PID gas G free`, or `held`: of the process that stands for the contract's shared name
abbrev pub contract_line : ℕ → List ℕ → Option Process → List ℕ
contract_line unit name (Some p) =
    line
    (codes "contract " ++ name ++ codes " process " ++ decimal p.pid ++ codes " gas " ++ gas_text p.purse unit
    ++ codes " "
    ++ held_text p.base)
contract_line unit name None = []

abbrev pub standing_for : List Object → ℕ → Option Process
standing_for objects shared = find (stands_for shared) objects >>= process_of

-- the line of a contract, by its name and its shared name
abbrev pub named_line : ℕ → List Object → List ℕ × ℕ → List ℕ
named_line unit objects c = contract_line unit c.0 (standing_for objects c.1)

-- `channel C owner O`
abbrev pub owner_line : ℕ → Option ℕ → List ℕ
owner_line name (Some object) = line (codes "channel " ++ decimal name ++ codes " owner " ++ decimal object)
owner_line name None = []

-- the line of a name, where its type is one of names that are used exactly once
abbrev pub channel_line : Acceptance → State → ℕ × TypeId → List ℕ
channel_line a s name = if looks_linear a.program name.1 then owner_line name.0 (owner s name.0) else []

-- what is printed of a ledger at a line of the script
abbrev pub show_lines : Acceptance → ℕ → LedgerState → List ℕ
show_lines a n l =
    let unit : ℕ = a.annotations.unit in
    line_of n (codes "show")
    ++ flat_map (account_line unit) (zip l.accounts l.state.balances)
    ++ flat_map (named_line unit l.state.objects) l.contracts
    ++ flat_map (channel_line a l.state) l.state.types
    ++ line (codes "stored " ++ gas_text (sum_by purse_of l.state.objects) unit)
    ++ line (codes "spent " ++ gas_text l.state.spent unit)
    ++ line (codes "deposits " ++ gas_text (l.deposits * unit) unit)
