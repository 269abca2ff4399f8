-- Two sources of one half each pay for a whole unit of work: what the two kinds of process reach, the forms of their
-- points, and the pairs for which they ask.
use Rattle.std.proofs.Common.{◌≡◌, ℕ, [], ◌∷◌, Some, None, pos, refl, arith}
use Rattle.std.specs.Prelude.{codes, negsuc}
use Rattle.nomos_ir.specs.declared.amount.Amount.TheVariants.{Written, Star}
use Rattle.nomos_ir.specs.declared.code_node.Chan.{Chan}
use Rattle.nomos_ir.specs.declared.code_node.Chan.TheVariants as chan
use Rattle.nomos_ir.specs.declared.code_node.CodeNode.TheVariants as code
use Rattle.nomos_ir.specs.declared.declaration.ProcDecl.{ProcDecl}
use Rattle.nomos_ir.specs.declared.ids.CodeId.{CodeId}
use Rattle.nomos_ir.specs.declared.ids.TypeId.{TypeId}
use Rattle.nomos_ir.specs.declared.ids.VarId.{VarId}
use Rattle.nomos_ir.specs.declared.lists.ProgramLists.{ProgramLists}
use Rattle.nomos_ir.specs.declared.mode.Mode.TheVariants as mode
use Rattle.nomos_ir.specs.declared.type_node.TypeAt.{TypeAt}
use Rattle.nomos_ir.specs.declared.type_node.TypeNode.{TypeNode}
use Rattle.nomos_ir.specs.declared.type_node.TypeNode.TheVariants as node
use Rattle.nomos_ir.specs.Nodes.{type_node}
use Rattle.nomos_ir.specs.Unfold.{Unfolds, constructor, name}
use Rattle.nomos_forms.specs.Linear.{form_value}
use Rattle.nomos_types.specs.Amount.{Annotations}
use Rattle.nomos_types.specs.Equality.{no_amounts}
use Rattle.nomos_types.specs.Judgement.{Judgement, start_of, at_code, goes_on, with_potential}
use Rattle.nomos_types.specs.TypingRule as row
use Rattle.nomos_types.specs.TypingRule.{TypingRule, gives_up}
use Rattle.nomos_check.specs.Account.{Account, start_account, gains, spends, Affords, form_of}
use Rattle.nomos_check.specs.Asking.{IsAsked, paid, got}
use Rattle.nomos_check.specs.Reaching.{outset_of, GetsTo, IsPoint}
use Rattle.nomos_check.specs.Reaching as reaching

-- ---- the program

abbrev type_id : ℕ → TypeId
type_id n = record { 0 = n }

abbrev var_id : ℕ → VarId
var_id n = record { 0 = n }

abbrev code_id : ℕ → CodeId
code_id n = record { 0 = n }

abbrev type_of : TypeNode → TypeAt
type_of n = record { node = n; at = 0 }

-- a channel on which the first star is paid, and its name
abbrev source : TypeNode
source = node.Named (record { 0 = 0 })

abbrev held : ℕ → Chan
held v = chan.Var (var_id v)

-- takes from two sources and works one unit
abbrev taker : ProcDecl
taker = record {
  name = codes "k";
  mode = mode.R;
  me = None;
  values = [];
  channels = (var_id 0, type_id 2) ∷ (var_id 1, type_id 3) ∷ [];
  amount = Written 0;
  offers = type_id 4;
  first = code_id 5;
}

-- starts with the fourth star, and pays the fifth
abbrev giver : ProcDecl
giver = record {
  name = codes "g";
  mode = mode.R;
  me = None;
  values = [];
  channels = [];
  amount = Star 4;
  offers = type_id 5;
  first = code_id 7;
}

abbrev halves : ProgramLists
halves = record {
  defs = record { name = codes "src"; mode = mode.R; body = type_id 1 } ∷ [];
  types = type_of node.One
      ∷ type_of (node.PotOut (Star 1) (type_id 0))
      ∷ type_of source
      ∷ type_of source
      ∷ type_of node.One
      ∷ type_of source
      ∷ [];
  terms = [];
  code = code.Close 0
      ∷ code.Wait 0 (var_id 1) (code_id 0)
      ∷ code.Wait 0 (var_id 0) (code_id 1)
      ∷ code.Work 0 (Written 1) (code_id 2)
      ∷ code.Get 0 (held 1) (Star 3) (code_id 3)
      ∷ code.Get 0 (held 0) (Star 2) (code_id 4)
      ∷ code.Close 0
      ∷ code.Pay 0 chan.Own (Star 5) (code_id 6)
      ∷ [];
  fns = [];
  procs = taker ∷ giver ∷ [];
  labels = [];
}

-- a source unfolds to the payment
source-unfolds : (t : ℕ) → type_node halves t ≡ Some source → Unfolds halves t (node.PotOut (Star 1) (type_id 0))
source-unfolds t there =
    name t (record { 0 = 0 }) (record { name = codes "src"; mode = mode.R; body = type_id 1 })
    (node.PotOut (Star 1) (type_id 0)) there refl (constructor 1 (node.PotOut (Star 1) (type_id 0)) refl tt)

-- ---- the taker

abbrev taker_start : Judgement
taker_start = start_of halves no_amounts taker

abbrev taker_one : Judgement
taker_one = with_potential (goes_on taker_start (held 0) (type_id 0) (code_id 4)) 0

abbrev taker_two : Judgement
taker_two = with_potential (goes_on taker_one (held 1) (type_id 0) (code_id 3)) 0

abbrev taker_worked : Judgement
taker_worked = with_potential (at_code taker_two (code_id 2)) 0

abbrev after_one : Account
after_one = gains (Star 2) (start_account taker)

abbrev after_two : Account
after_two = gains (Star 3) after_one

abbrev after_work : Account
after_work = spends (Written 1) after_two

-- it gets from the first source
row-one : TypingRule halves no_amounts taker_start (taker_one ∷ [])
row-one =
    row.get refl (type_id 0)
    (record { amount = Star 1; channel = (type_id 2, refl, source-unfolds 2 refl); same = refl })

reaches-one : GetsTo halves (outset_of halves taker) taker_one after_one
reaches-one =
    reaching.next (code.Get 0 (held 0) (Star 2) (code_id 4)) (taker_one ∷ []) reaching.start refl row-one
    (0, omega arith, refl)

-- and from the second
row-two : TypingRule halves no_amounts taker_one (taker_two ∷ [])
row-two =
    row.get refl (type_id 0)
    (record { amount = Star 1; channel = (type_id 3, refl, source-unfolds 3 refl); same = refl })

reaches-two : GetsTo halves (outset_of halves taker) taker_two after_two
reaches-two =
    reaching.next (code.Get 0 (held 1) (Star 3) (code_id 3)) (taker_two ∷ []) reaches-one refl row-two
    (0, omega arith, refl)

-- then it works
row-work : TypingRule halves no_amounts taker_two (taker_worked ∷ [])
row-work = row.work refl (omega arith)

reaches-work : GetsTo halves (outset_of halves taker) taker_worked after_work
reaches-work =
    reaching.next (code.Work 0 (Written 1) (code_id 2)) (taker_worked ∷ []) reaches-two refl row-work
    (0, omega arith, refl)

-- it has to afford that: the second and the third star are worth a unit together
pub taker-point : IsPoint halves (outset_of halves taker) after_work
taker-point =
    record { judgement = taker_worked; account = after_work; reached = reaches-work; needs = reaching.before }

pub taker-form : form_of 5 after_work
    ≡ record { coefs = pos 0 ∷ pos 1 ∷ pos 1 ∷ pos 0 ∷ pos 0 ∷ []; plus = negsuc 0 }
taker-form = refl

-- what it gets is what the type of each source says
pub first-asked : IsAsked halves (outset_of halves taker) (Star 2, Star 1)
first-asked =
    record {
      judgement = taker_start;
      account = start_account taker;
      reached = reaching.start;
      asks = got {c = held 0} refl (type_id 0) (type_id 2, refl, source-unfolds 2 refl);
    }

pub second-asked : IsAsked halves (outset_of halves taker) (Star 3, Star 1)
second-asked =
    record {
      judgement = taker_one;
      account = after_one;
      reached = reaches-one;
      asks = got {c = held 1} refl (type_id 0) (type_id 3, refl, source-unfolds 3 refl);
    }

-- ---- the giver

abbrev giver_start : Judgement
giver_start = start_of halves no_amounts giver

abbrev giver_paid : Judgement
giver_paid = with_potential (goes_on giver_start chan.Own (type_id 0) (code_id 6)) 0

abbrev after_pay : Account
after_pay = spends (Star 5) (start_account giver)

row-pay : TypingRule halves no_amounts giver_start (giver_paid ∷ [])
row-pay =
    row.pay refl (type_id 0)
    (record {
      amount = Star 1;
      channel = (type_id 5, refl, source-unfolds 5 refl);
      same = refl;
      enough = omega arith;
    })

-- it has to afford what it pays: the fourth star is at least the fifth
pub giver-point : IsPoint halves (outset_of halves giver) after_pay
giver-point =
    record {
      judgement = giver_paid;
      account = after_pay;
      reached = reaching.next (code.Pay 0 chan.Own (Star 5) (code_id 6)) (giver_paid ∷ []) reaching.start refl row-pay
          (0, omega arith, refl);
      needs = reaching.before;
    }

pub giver-form : form_of 5 after_pay
    ≡ record { coefs = pos 0 ∷ pos 0 ∷ pos 0 ∷ pos 1 ∷ negsuc 0 ∷ []; plus = pos 0 }
giver-form = refl

-- and what it pays is what its type says
pub giver-asked : IsAsked halves (outset_of halves giver) (Star 5, Star 1)
giver-asked =
    record {
      judgement = giver_start;
      account = start_account giver;
      reached = reaching.start;
      asks = paid {c = chan.Own} refl (type_id 0) (type_id 5, refl, source-unfolds 5 refl);
    }

-- ---- amounts

-- a half each, over a unit of two parts
abbrev a_half_each : Annotations
a_half_each = record { stars = 1 ∷ 1 ∷ 1 ∷ 1 ∷ 1 ∷ []; unit = 2 }

-- are afforded
pub halves-afforded : Affords a_half_each after_work × Affords a_half_each after_pay
halves-afforded = (omega arith, omega arith)

pub halves-value : form_value a_half_each.stars a_half_each.unit (form_of 5 after_work) ≡ pos 0
halves-value = refl

-- one half, and nothing from the second source, are not
pub half-short : ¬ (Affords (record { stars = 1 ∷ 1 ∷ 0 ∷ 1 ∷ 1 ∷ []; unit = 2 }) after_work)
half-short afforded = absurd (omega (arith, afforded))
