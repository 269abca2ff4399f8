-- Where a process gets to from any judgement, with the account that it then has; and the accounts that its potential
-- has to afford.
use Rattle.std.specs.Prelude.{◌≡◌, ℕ, List, Contains, Some, slice_get, zip}
use Rattle.nomos_ir.specs.declared.code_node.Args.{Args}
use Rattle.nomos_ir.specs.declared.code_node.CodeNode.{CodeNode}
use Rattle.nomos_ir.specs.declared.code_node.CodeNode.TheVariants as code
use Rattle.nomos_ir.specs.declared.declaration.ProcDecl.{ProcDecl}
use Rattle.nomos_ir.specs.declared.ids.ProcId.{ProcId}
use Rattle.nomos_ir.specs.declared.lists.ProgramLists.{ProgramLists}
use Rattle.nomos_forms.specs.declared.form.Form.{Form}
use Rattle.nomos_types.specs.Equality.{no_amounts}
use Rattle.nomos_types.specs.Judgement.{Judgement, start_of}
use Rattle.nomos_types.specs.TypingRule.{TypingRule, StandsAtCode}
use Rattle.nomos_check.specs.Account.{Account, start_account, spends, form_of}
use Rattle.nomos_check.specs.Accounting.{accounts_after}

-- From where a process is followed: a judgement where amounts are ignored, and the account that it has there.
pub record Outset : Type 0 where
  pub judgement : Judgement
  pub account : Account

-- a declaration is followed from its start
abbrev pub outset_of : ProgramLists → ProcDecl → Outset
outset_of lists d = record { judgement = start_of lists no_amounts d; account = start_account d }

-- The judgement follows from the outset where amounts are ignored, and with it goes this account.
pub data GetsTo (lists : ProgramLists) (o : Outset) : Judgement → Account → Type 0 where
  start : GetsTo lists o o.judgement o.account
  next : {j k : Judgement} {a b : Account} → (n : CodeNode) (after : List Judgement) → GetsTo lists o j a
      → StandsAtCode lists j n → TypingRule lists no_amounts j after
      → Contains (zip after (accounts_after lists n a)) (k, b)
      → GetsTo lists o k b

-- At a place the process has to afford the account: that before the instruction, and at a call that less what the
-- called declaration needs.
pub data IsPointAt (lists : ProgramLists) (j : Judgement) (a : Account) : Account → Type 0 where
  before : IsPointAt lists j a a
  called : {at : ℕ} {f : ProcId} {args : Args} → StandsAtCode lists j (code.Call at f args) → (e : ProcDecl)
      → slice_get lists.procs f.0 ≡ Some e
      → IsPointAt lists j a (spends e.amount a)

-- at some place to which it gets, it has to afford the account
pub record IsPoint (lists : ProgramLists) (o : Outset) (point : Account) : Type 0 where
  pub judgement : Judgement
  pub account : Account
  pub reached : GetsTo lists o judgement account
  pub needs : IsPointAt lists judgement account point

-- the form, over n stars, of an account that the process has to afford
pub record IsFormOf (lists : ProgramLists) (n : ℕ) (o : Outset) (form : Form) : Type 0 where
  pub account : Account
  pub point : IsPoint lists o account
  pub same : form ≡ form_of n account
