-- What a process has in hand along the code of a declaration.
use Rattle.std.specs.Prelude.{◌≡◌, ◌<◌, ℕ, Bool, true, List, Contains, Some, slice_get}
use Rattle.nomos_ir.specs.declared.ids.CodeId.{CodeId}
use Rattle.nomos_ir.specs.declared.lists.ProgramLists.{ProgramLists}
use Rattle.nomos_ir.specs.Bindings.{each_bound}
use Rattle.nomos_forms.specs.declared.form.Form.{Form}
use Rattle.nomos_types.specs.Judgement.{Judgement, ListType}
use Rattle.nomos_check.specs.Account.{Account, form_of}
use Rattle.nomos_check.specs.Reaching.{Outset, GetsTo}
use Rattle.nomos_check.specs.declared.standing.Carried.{Carried}
use Rattle.nomos_check.specs.declared.standing.Standing.{Standing}

-- a list whose amount is ignored
abbrev pub list_in_hand : Carried → ListType
list_in_hand c = record { kind = c.kind; amount = 0 }

-- This is in hand at the judgement, where amounts are ignored, with the account: the judgement has it, over n stars the
-- potential is the account's form, and the lists carry its amounts.
pub record HasInHand (n : ℕ) (s : Standing) (j : Judgement) (a : Account) : Type 0 where
  pub judgement : j ≡ record {
    mode = s.mode;
    kinds = s.kinds;
    lists = each_bound list_in_hand s.lists;
    shared = s.shared;
    linear = s.linear;
    q = 0;
    code = s.code;
    offers = s.offers;
  }
  pub potential : s.potential ≡ form_of n a
  pub amounts : a.lists ≡ each_bound (λ c. c.amount) s.lists

-- ---- where it is wanted

-- what is in hand at the instruction of this number is wanted
abbrev pub IsWanted : List Bool → ℕ → Type 0
IsWanted wanted at = slice_get wanted at ≡ Some true

-- what is in hand there is among these
pub record IsAmong (n : ℕ) (found : List Standing) (j : Judgement) (a : Account) : Type 0 where
  pub standing : Standing
  pub among : Contains found standing
  pub has : HasInHand n standing j a

-- the process gets to where it has this in hand
pub record IsGotTo (lists : ProgramLists) (n : ℕ) (o : Outset) (s : Standing) : Type 0 where
  pub judgement : Judgement
  pub account : Account
  pub reached : GetsTo lists o judgement account
  pub has : HasInHand n s judgement account

-- These are what is in hand wherever the process gets to an instruction that is wanted, and nothing else.
pub record AreWanted (lists : ProgramLists) (n : ℕ) (o : Outset) (wanted : List Bool) (found : List Standing)
    : Type 0 where
  pub each : (j : Judgement) (a : Account) → GetsTo lists o j a → IsWanted wanted j.code.0 → IsAmong n found j a
  pub only : (s : Standing) → Contains found s → IsGotTo lists n o s

-- ---- potentials

-- the process gets to the instruction with this potential, as a form over n stars
pub record IsPotentialAt (lists : ProgramLists) (n : ℕ) (o : Outset) (code : CodeId) (form : Form) : Type 0 where
  pub judgement : Judgement
  pub account : Account
  pub reached : GetsTo lists o judgement account
  pub at : judgement.code ≡ code
  pub is : form ≡ form_of n account

-- These are the potentials with which the process gets to instructions whose numbers are below the given one, and
-- nothing else.
pub record ArePotentials (lists : ProgramLists) (n : ℕ) (o : Outset) (below : ℕ) (found : List (CodeId × Form))
    : Type 0 where
  pub each : (j : Judgement) (a : Account) → GetsTo lists o j a → j.code.0 < below
      → Contains found (j.code, form_of n a)
  pub only : (e : CodeId × Form) → Contains found e → IsPotentialAt lists n o e.0 e.1
