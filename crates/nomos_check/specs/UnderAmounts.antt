-- Which judgement stands, under amounts, where a process gets to with an account.
use Rattle.std.specs.Prelude.{◌≡◌, ℕ, suc, List, [], ◌∷◌, ◌++◌, map}
use Rattle.nomos_ir.specs.declared.amount.Amount.{Amount}
use Rattle.nomos_ir.specs.declared.amount.Amount.TheVariants as amount
use Rattle.nomos_ir.specs.declared.ids.VarId.{VarId}
use Rattle.nomos_types.specs.Amount.{Annotations, dths}
use Rattle.nomos_types.specs.Judgement.{Judgement, ListType}
use Rattle.nomos_check.specs.Account.{Account, Affords, left_of}

-- lists whose amounts are ignored
abbrev pub without_amounts : List (VarId × ListType) → List (VarId × ListType)
without_amounts lists = map (λ b. (b.0, record b.1 { amount = 0 })) lists

-- the judgement where amounts are ignored
abbrev pub ignoring : Judgement → Judgement
ignoring j = record j { lists = without_amounts j.lists; q = 0 }

-- what each list carries, in Dths: a list of a judgement, and one of an account
abbrev pub carried_in : List (VarId × ListType) → List (VarId × ℕ)
carried_in lists = map (λ b. (b.0, b.1.amount)) lists

abbrev pub worth_in : Annotations → List (VarId × Amount) → List (VarId × ℕ)
worth_in x lists = map (λ b. (b.0, dths x b.1)) lists

-- Under the amounts the judgement k stands where the process gets to j with the account. Where amounts are ignored it
-- is j, no more is spent than gained, what is left is its potential, and its lists carry what the account's are worth.
pub record StandsUnder (x : Annotations) (k j : Judgement) (a : Account) : Type 0 where
  pub ignored : ignoring k ≡ j
  pub afforded : Affords x a
  pub potential : k.q ≡ left_of x a
  pub carried : carried_in k.lists ≡ worth_in x a.lists

-- ---- any judgement

-- each list carries a star of its own, of which the first has this number
abbrev pub with_stars : ℕ → List (VarId × ListType) → List (VarId × Amount)
with_stars star [] = []
with_stars star (b ∷ lists) = (b.0, amount.Star star) ∷ with_stars (suc star) lists

-- the account of any judgement, with stars beyond the first n for what it has
abbrev pub account_beyond : ℕ → Judgement → Account
account_beyond n j = record { gained = amount.Star (suc n) ∷ []; spent = []; lists = with_stars (suc (suc n)) j.lists }

-- what these stars are worth, behind the amounts that there are
abbrev pub amounts_beyond : Annotations → Judgement → Annotations
amounts_beyond x j = record x { stars = x.stars ++ j.q ∷ map (λ b. b.1.amount) j.lists }
