-- What a process leaves behind.
use Rattle.std.specs.Prelude.{ℕ, true, map, Some, None}
use Rattle.nomos_ir.specs.declared.mode.Mode.{Mode}
use Rattle.nomos_ir.specs.declared.mode.Mode.TheVariants as mode
use Rattle.nomos_deeds.specs.SeenObjects.{seen_process}
use Rattle.nomos_deeds.specs.declared.sight.SeenProcess.{SeenProcess}
use Rattle.nomos_machine.specs.Change.{paid_in}
use Rattle.nomos_machine.specs.Revised.{renamed}
use Rattle.nomos_machine.specs.State.{State}
use Rattle.nomos_machine.specs.declared.object.Message.{Message}
use Rattle.nomos_machine.specs.declared.object.Object.TheVariants as object
use Rattle.nomos_machine.specs.declared.object.Payload.TheVariants as payload
use Rattle.nomos_machine.specs.declared.object.Process.{Process}
use Rattle.nomos_changes.specs.SmallChanges.{redirected, with_object, without_object}

-- the message that a talk has ended
abbrev pub close_message : ℕ → ℕ → Message
close_message name number = record {
  number = number;
  to_client = true;
  from = name;
  next = None;
  payload = payload.Close;
  purse = 0;
}

-- a process of this mode that ended tells its client, at mode R alone
abbrev pub told : Mode → ℕ → State → State
told mode.R name s = with_object (object.Message (close_message name s.next_object)) s
told _ name s = s

-- an account has so many Dths more
abbrev pub with_paid_in : ℕ → ℕ → State → State
with_paid_in account dths s = record s { balances = paid_in (Some (account, dths)) s.balances }

-- a process that is seen so leaves, and its purse goes to its payer's account
abbrev pub left : SeenProcess → State → State
left x s = with_paid_in x.payer x.purse (without_object x.pid s)

-- whoever uses the old name uses the new one instead, an outside party too
abbrev pub with_redirected : ℕ → ℕ → State → State
with_redirected old new s = record s {
  objects = redirected old new s.objects;
  outside = map (renamed old new) s.outside;
}

-- ---- the states afterwards

-- a process ended
abbrev pub closed : State → Process → State
closed s p = told p.mode p.offers (left (seen_process p) s)

-- a process left, and another name stands for its own
abbrev pub forwarded : State → ℕ → Process → State
forwarded s name p = left (seen_process p) (with_redirected p.offers name s)
