-- What passing leaves of a judgement is a judgement that suits the same mode, in which no more variables are bound.
use Rattle.std.proofs.Common.{◌≡◌, ◌≤◌, ℕ, List, refl, ◌∙◌, arith}
use Rattle.nomos_ir.specs.declared.code_node.Args.{Args}
use Rattle.nomos_ir.specs.declared.code_node.Chan.{Chan}
use Rattle.nomos_ir.specs.declared.code_node.Chan.TheVariants as chan
use Rattle.nomos_ir.specs.declared.code_node.ValueArg.{ValueArg}
use Rattle.nomos_ir.specs.declared.declaration.Par.{Par}
use Rattle.nomos_ir.specs.declared.declaration.ProcDecl.{ProcDecl}
use Rattle.nomos_ir.specs.declared.ids.TypeId.{TypeId}
use Rattle.nomos_ir.specs.declared.ids.VarId.{VarId}
use Rattle.nomos_ir.specs.declared.lists.ProgramLists.{ProgramLists}
use Rattle.nomos_types.specs.Amount.{Annotations}
use Rattle.nomos_types.specs.Arguments.{PassesChannel, shared, linear, PassesChannels, none, channel, PassesValue, term, list, PassesValues, value, ArgumentsFit}
use Rattle.nomos_types.specs.Judgement.{Judgement, parts_with, IsJudgement, SuitsMode}
use Rattle.nomos_types.proofs.JudgementParts.{others_with, count-unbind, MayGoOn, linear-unbound, list-unbound, suits-unbound}

-- The second judgement is left of the first one: it is one, at the same mode, which it suits where the first one did,
-- and no variable is bound in more maps.
pub record LeavesJudgement (lists : ProgramLists) (j k : Judgement) : Type 0 where
  pub judgement : IsJudgement lists k
  pub suits : SuitsMode lists j → SuitsMode lists k
  pub mode : k.mode ≡ j.mode
  pub others : (v : ℕ) → others_with k v ≤ others_with j v
  pub parts : (v : ℕ) → parts_with k v ≤ parts_with j v

-- all of it is left where nothing is used up
left-whole : {lists : ProgramLists} {j : Judgement} → IsJudgement lists j → LeavesJudgement lists j j
left-whole h =
    record { judgement = h; suits = λ s. s; mode = refl; others = λ v. omega arith; parts = λ v. omega arith }

-- what is left of what is left
left-through : {lists : ProgramLists} {i j k : Judgement} → LeavesJudgement lists i j → LeavesJudgement lists j k
    → LeavesJudgement lists i k
left-through first second =
    record {
      judgement = second.judgement;
      suits = λ s. second.suits (first.suits s);
      mode = second.mode ∙ first.mode;
      others = λ v. omega (arith, first.others v, second.others v);
      parts = λ v. omega (arith, first.parts v, second.parts v);
    }

-- a channel passes
pub passes-channel_left : {lists : ProgramLists} {x : Annotations} {j : Judgement} {v : VarId} {t : TypeId}
    {k : Judgement} → IsJudgement lists j → PassesChannel lists x j v t k → LeavesJudgement lists j k
passes-channel_left h (shared own found alike) = left-whole h
passes-channel_left {j = j} {v = v} h (linear own no_reference found alike) =
    record {
      judgement = linear-unbound h v.0;
      suits = λ s. suits-unbound s v.0;
      mode = refl;
      others = λ w. omega arith;
      parts = λ w. omega (arith, count-unbind w v.0 j.linear h.linear);
    }

-- channels pass
passes-channels_left : {lists : ProgramLists} {x : Annotations} {j k : Judgement} {vs : List VarId}
    {pars : List (VarId × TypeId)} → IsJudgement lists j → PassesChannels lists x j vs pars k
    → LeavesJudgement lists j k
passes-channels_left h none = left-whole h
passes-channels_left h (channel first others) =
    let after = passes-channel_left h first in
    left-through after (passes-channels_left after.judgement others)

-- a value or a list passes
pub passes-value_left : {lists : ProgramLists} {x : Annotations} {j : Judgement} {a : ValueArg} {par : Par}
    {k : Judgement} → IsJudgement lists j → PassesValue lists x j a par k → LeavesJudgement lists j k
passes-value_left h (term no_list kind) = left-whole h
passes-value_left {j = j} h (list {w = w} amount its_amount found) =
    record {
      judgement = list-unbound h w.0;
      suits = λ s. record { held = s.held; offers = s.offers };
      mode = refl;
      others = λ u. omega (arith, count-unbind u w.0 j.lists h.lists_ascend);
      parts = λ u. omega (arith, count-unbind u w.0 j.lists h.lists_ascend);
    }

-- values and lists pass
pub passes-values_left : {lists : ProgramLists} {x : Annotations} {j k : Judgement} {args : List ValueArg}
    {pars : List Par} → IsJudgement lists j → PassesValues lists x j args pars k → LeavesJudgement lists j k
passes-values_left h none = left-whole h
passes-values_left h (value first others) =
    let after = passes-value_left h first in
    left-through after (passes-values_left after.judgement others)

-- the arguments of a declaration pass
pub arguments-left : {lists : ProgramLists} {x : Annotations} {j k : Judgement} {d : ProcDecl} {args : Args}
    → IsJudgement lists j → ArgumentsFit lists x j d args k → LeavesJudgement lists j k
arguments-left h fit =
    let between = passes-values_left h fit.values in
    left-through between (passes-channels_left between.judgement fit.channels)

-- a channel that may go on may go on in what is left
pub left-goes_on : {lists : ProgramLists} {j k : Judgement} → LeavesJudgement lists j k → (c : Chan) (t : TypeId)
    → MayGoOn lists j c t → MayGoOn lists k c t
left-goes_on left chan.Own t may = tt
left-goes_on left (chan.Var v) t may = (omega (arith, left.others v.0, may.0), may.1)
