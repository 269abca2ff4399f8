-- A mirror of the code: the judgement and the account for which the code's data stands, and what a step tells of them.
use Rattle.std.specs.Prelude.{◌≡◌, ◌<◌, ◌↔◌, ◌⊎◌, ℕ, List, [], ◌∷◌, map, All, Contains, Some, length}
use Rattle.nomos_ir.specs.declared.amount.Amount.{Amount}
use Rattle.nomos_ir.specs.declared.code_node.CodeNode.{CodeNode}
use Rattle.nomos_ir.specs.declared.ids.VarId.{VarId}
use Rattle.nomos_ir.specs.declared.lists.ProgramLists.{ProgramLists}
use Rattle.nomos_ir.specs.Amounts.{star_count}
use Rattle.nomos_ir.specs.Bindings.{bound_to, bind, unbind, each_bound}
use Rattle.nomos_forms.specs.Bounds.{IsForm}
use Rattle.nomos_types.specs.Equality.{no_amounts}
use Rattle.nomos_types.specs.Judgement.{Judgement, ListType, IsJudgement, SuitsMode, at_code, goes_on, with_potential}
use Rattle.nomos_types.specs.ModeTable.{AreModesOf}
use Rattle.nomos_types.specs.TypingRule.{TypingRule, StandsAtCode, without_list, takes_parts}
use Rattle.nomos_equality.specs.Comparing.{Compared, HasCompared, StaysCompared}
use Rattle.nomos_check.specs.Account.{Account, gains, with_lists, form_of}
use Rattle.nomos_check.specs.Accounting.{accounts_after}
use Rattle.nomos_check.specs.Asking.{AsksPair}
use Rattle.nomos_check.specs.declared.asked.Asked.{Asked}
use Rattle.nomos_check.specs.declared.standing.Carried.{Carried}
use Rattle.nomos_check.specs.declared.standing.Standing.{Standing}
use Rattle.nomos_check.specs.declared.standing.Step.{Step}
use Rattle.nomos_check.specs.declared.standing.Step.TheVariants as step
use Rattle.nomos_check.specs.declared.standing.WayOn.{WayOn}
use Rattle.nomos_check.specs.declared.standing.WayOn.TheVariants as way
use Rattle.nomos_check.specs.mirror.FormLimits.{IsAmountOf}

-- a list whose amount is ignored
abbrev pub shape_of_list : Carried → ListType
shape_of_list c = record { kind = c.kind; amount = 0 }

abbrev pub amount_of : Carried → Amount
amount_of c = c.amount

-- what the process has in hand where amounts are ignored
abbrev pub shape_of : Standing → Judgement
shape_of s = record {
  mode = s.mode;
  kinds = s.kinds;
  lists = each_bound shape_of_list s.lists;
  shared = s.shared;
  linear = s.linear;
  q = 0;
  code = s.code;
  offers = s.offers;
}

-- the account of the process: its lists carry these amounts, and over n stars its potential is this form
pub record HasAccount (n : ℕ) (s : Standing) (a : Account) : Type 0 where
  pub lists : each_bound amount_of s.lists ≡ a.lists
  pub potential : s.potential ≡ form_of n a

-- what holds of the code's data at each instruction of a program
pub record IsWithin (lists : ProgramLists) (s : Standing) : Type 0 where
  pub code : s.code.0 < length lists.code
  pub judgement : IsJudgement lists (shape_of s)
  pub suits : SuitsMode lists (shape_of s)
  pub amounts : All (λ e. IsAmountOf lists e.1.amount) s.lists
  pub potential : IsForm (star_count lists) s.potential

-- ---- ways

-- where a way leads
abbrev pub way_shape : Judgement → WayOn → Judgement
way_shape j (way.Label c t next) = goes_on j c t next
way_shape j (way.Truth next) = at_code j next
way_shape j (way.Empty w next) = without_list j w next
way_shape j (way.Full p) =
    with_potential (takes_parts j p.list p.head p.tail (shape_of_list p.carried) p.next) 0

-- and with which account
abbrev pub way_account : Account → WayOn → Account
way_account a (way.Label c t next) = a
way_account a (way.Truth next) = a
way_account a (way.Empty w next) = with_lists a (unbind w.0 a.lists)
way_account a (way.Full p) =
    gains p.carried.amount (with_lists a (bind p.tail p.carried.amount (unbind p.list.0 a.lists)))

-- the list that is taken apart is there
abbrev pub IsWayOf : Standing → WayOn → Type 0
IsWayOf s (way.Full p) = bound_to p.list.0 s.lists ≡ Some p.carried
IsWayOf s _ = Unit {0}

-- ---- what a step tells

-- no rule applies to the judgement
abbrev pub NoRow : ProgramLists → Judgement → Type 0
NoRow lists j = (after : List Judgement) → ¬ (TypingRule lists no_amounts j after)

-- The instruction leads from one standing to the next: its rule goes on with the one judgement, and each account
-- that the first has goes on as an account that the next has.
pub record LeadsTo (lists : ProgramLists) (s next : Standing) : Type 0 where
  pub row : TypingRule lists no_amounts (shape_of s) (shape_of next ∷ [])
  pub account : (n : CodeNode) (a : Account) → StandsAtCode lists (shape_of s) n → HasAccount (star_count lists) s a
      → (b : Account) × (accounts_after lists n a ≡ b ∷ []) × HasAccount (star_count lists) next b

-- The instruction leads on these ways: its rule goes on with their judgements, and each account that the standing
-- has goes on as their accounts.
pub record LeadsAlong (lists : ProgramLists) (s : Standing) (ways : List WayOn) : Type 0 where
  pub row : TypingRule lists no_amounts (shape_of s) (map (way_shape (shape_of s)) ways)
  pub account : (n : CodeNode) (a : Account) → StandsAtCode lists (shape_of s) n → HasAccount (star_count lists) s a
      → accounts_after lists n a ≡ map (way_account a) ways
  pub there : All (IsWayOf s) ways

-- what a step tells from the standing before it to the one after it
abbrev pub StepTells : ProgramLists → Standing → Standing → Step → Type 0
StepTells lists s next step.Stuck = NoRow lists (shape_of s)
StepTells lists s next step.Done = TypingRule lists no_amounts (shape_of s) []
StepTells lists s next step.Next = LeadsTo lists s next
StepTells lists s next (step.Branches ways) = LeadsAlong lists s ways.items × (next ≡ s)

-- ---- which pairs were asked for

-- what holds of the pairs in one program
pub record IsReady (lists : ProgramLists) (asked : Asked) : Type 0 where
  pub modes : AreModesOf lists asked.modes.now
  pub compared : HasCompared lists asked.equalities

-- all pairs that stood in front of what was compared stand there still
abbrev pub KeepsCompared : Asked → Asked → Type 0
KeepsCompared old new = (c : Compared) → StaysCompared c old.equalities → StaysCompared c new.equalities

-- the pair was asked for
abbrev pub HasPair : Asked → Amount × Amount → Type 0
HasPair asked pair = Contains asked.equalities.amounts pair ⊎ Contains asked.pairs.items pair

-- the pairs of a kind join those that were asked for
abbrev pub Joins : Asked → Asked → (Amount × Amount → Type 0) → Type 0
Joins old new P = (pair : Amount × Amount) → HasPair new pair ↔ (HasPair old pair ⊎ P pair)

-- the pairs that the instruction asks for join, whichever of the standing's accounts is looked at
abbrev pub JoinsAsked : ProgramLists → Standing → Asked → Asked → Type 0
JoinsAsked lists s old new =
    (a : Account) → HasAccount (star_count lists) s a → Joins old new (AsksPair lists (shape_of s) a)

-- which pairs join in a step; where it is stuck, this does not matter
abbrev pub StepAsks : ProgramLists → Standing → Asked → Asked → Step → Type 0
StepAsks lists s old new step.Stuck = Unit {0}
StepAsks lists s old new _ = JoinsAsked lists s old new
