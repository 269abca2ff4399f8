-- The potential of a process as a sum: the amounts of the text that it gained and spent since its start. Beside them
-- stand the amounts that its lists carry.
use Rattle.std.specs.Prelude.{ℕ, ◌-◌, ◌≤◌, List, [], ◌∷◌, map, Option, Some, None, ℤ, pos, ◌+ℤ◌, ◌-ℤ◌, sum_by}
use Rattle.std.specs.List.{flat_map, range_with_len}
use Rattle.nomos_ir.specs.declared.amount.Amount.{Amount}
use Rattle.nomos_ir.specs.declared.declaration.ProcDecl.{ProcDecl}
use Rattle.nomos_ir.specs.declared.ids.VarId.{VarId}
use Rattle.nomos_ir.specs.Bindings.{bindings_of}
use Rattle.nomos_forms.specs.declared.form.Form.{Form}
use Rattle.nomos_forms.specs.RowsOf.{share_of, units_in}
use Rattle.nomos_types.specs.Amount.{Annotations, dths}

pub record Account : Type 0 where
  pub gained : List Amount
  pub spent : List Amount
  -- the amount that each element of a list carries
  pub lists : List (VarId × Amount)

-- an amount more is gained
abbrev pub gains : Amount → Account → Account
gains r a = record a { gained = r ∷ a.gained }

-- an amount more is spent
abbrev pub spends : Amount → Account → Account
spends r a = record a { spent = r ∷ a.spent }

-- the lists carry these amounts
abbrev pub with_lists : Account → List (VarId × Amount) → Account
with_lists a lists = record a { lists = lists }

-- the amount that a parameter carries, where it is a list
abbrev pub carried_by : VarId → Option Amount → List (VarId × Amount)
carried_by v (Some amount) = (v, amount) ∷ []
carried_by v None = []

-- nothing was gained or spent, and there are no lists
abbrev pub no_account : Account
no_account = record { gained = []; spent = []; lists = [] }

-- at the start of a declaration its declared potential is gained, and its list parameters carry their amounts
abbrev pub start_account : ProcDecl → Account
start_account d = record {
  gained = d.amount ∷ [];
  spent = [];
  lists = bindings_of (flat_map (λ par. carried_by par.var par.amount) d.values);
}

-- what amounts are worth together, in Dths
abbrev pub worth_of : Annotations → List Amount → ℕ
worth_of x amounts = sum_by (dths x) amounts

-- no more is spent than gained
abbrev pub Affords : Annotations → Account → Type 0
Affords x a = worth_of x a.spent ≤ worth_of x a.gained

-- the potential that is left, in Dths
abbrev pub left_of : Annotations → Account → ℕ
left_of x a = worth_of x a.gained - worth_of x a.spent

-- how often a star stands among amounts
abbrev pub shares : List Amount → ℕ → ℤ
shares [] star = pos 0
shares (r ∷ rs) star = share_of r star +ℤ shares rs star

-- what is gained less what is spent, as a form over n stars
abbrev pub form_of : ℕ → Account → Form
form_of n a = record {
  coefs = map (λ star. shares a.gained star -ℤ shares a.spent star) (range_with_len 1 n);
  plus = pos (sum_by units_in a.gained) -ℤ pos (sum_by units_in a.spent);
}
