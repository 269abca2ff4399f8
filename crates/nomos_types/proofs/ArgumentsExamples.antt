-- The typing rules where channels, values and lists are passed on: small judgements to which they apply, and near
-- misses.
use Rattle.std.proofs.Common.{◌≡◌, ℕ, List, [], ◌∷◌, Some, None, slice_get, subst, ap, refl, lit≤, lit<, arith}
use Rattle.nomos_ir.specs.declared.code_node.Args.{Args}
use Rattle.nomos_ir.specs.declared.code_node.ValueArg.{ValueArg}
use Rattle.nomos_ir.specs.declared.code_node.ValueArg.TheVariants as arg
use Rattle.nomos_ir.specs.declared.declaration.Par.{Par}
use Rattle.nomos_ir.specs.declared.declaration.ProcDecl.{ProcDecl}
use Rattle.nomos_ir.specs.declared.ids.TypeId.{TypeId}
use Rattle.nomos_ir.specs.declared.ids.VarId.{VarId}
use Rattle.nomos_ir.specs.declared.mode.Mode.TheVariants as mode
use Rattle.nomos_ir.specs.declared.type_node.TypeNode.TheVariants as node
use Rattle.nomos_ir.specs.Bindings.{bound_to, unbind}
use Rattle.nomos_ir.specs.Unfold.{constructor}
use Rattle.nomos_types.specs.Alike.{AlikeTypes}
use Rattle.nomos_types.specs.Amount.{dths}
use Rattle.nomos_types.specs.Arguments.{PassesChannel, PassesChannels, PassesValue, PassesValues, ArgumentsFit}
use Rattle.nomos_types.specs.Arguments as passes
use Rattle.nomos_types.specs.Judgement.{Judgement, ListType}
use Rattle.nomos_types.specs.Modes.{whole}
use Rattle.nomos_types.specs.TypingRule as row
use Rattle.nomos_types.proofs.RowExampleProgram.{type_id, var_id, one_channel, two_references, two_channels, two_lists, tried, units, empty_handed, holding, referring, two_each, listing}
use Rattle.nomos_types.proofs.RowExamples.{LineApplies, NoLineApplies, end-unfolds, seven, not-equal, ended-alike, shared-alike, no-channels}
use Rattle.nomos_types.proofs.RowLaws.{row-inverted}

-- ---- what passing says

-- the declaration is the one that stands there
declared-fit : {j : Judgement} {args : Args} {left : Judgement} (f : ℕ) (d e : ProcDecl)
    → slice_get tried.procs f ≡ Some d → slice_get tried.procs f ≡ Some e → ArgumentsFit tried units j d args left
    → ArgumentsFit tried units j e args left
declared-fit {j} {args} {left} f d e d_there e_there fit =
    let same : d ≡ e = cc in
    subst (λ (p : ProcDecl). ArgumentsFit tried units j p args left) same fit

-- where no values pass, channels pass from the start
channels-alone : {j k left : Judgement} {vs : List VarId} {pars : List (VarId × TypeId)}
    → PassesValues tried units j [] [] k → PassesChannels tried units k vs pars left
    → PassesChannels tried units j vs pars left
channels-alone passes.none channels = channels

-- no channels leave everything
no-more_channels : {j k : Judgement} → PassesChannels tried units j [] [] k → k ≡ j
no-more_channels passes.none = refl

-- the first passes, and then the others
first-channel : {j left : Judgement} {v : VarId} {vs : List VarId} {par : VarId × TypeId} {pars : List (VarId × TypeId)}
    → PassesChannels tried units j (v ∷ vs) (par ∷ pars) left
    → (k : Judgement) × PassesChannel tried units j v par.1 k × PassesChannels tried units k vs pars left
first-channel (passes.channel first others) = (_, first, others)

first-value : {j left : Judgement} {a : ValueArg} {args : List ValueArg} {par : Par} {pars : List Par}
    → PassesValues tried units j (a ∷ args) (par ∷ pars) left
    → (k : Judgement) × PassesValue tried units j a par k × PassesValues tried units k args pars left
first-value (passes.value first others) = (_, first, others)

-- a channel that is no reference is there, is alike, and is used up
channel-used : {j : Judgement} {v : VarId} {t : TypeId} {k : Judgement} → PassesChannel tried units j v t k
    → bound_to v.0 j.shared ≡ None → (own : TypeId) × (bound_to v.0 j.linear ≡ Some own) × AlikeTypes tried units own t
    × (k ≡ record j { linear = unbind v.0 j.linear })
channel-used (passes.shared own found alike) none = absurd cc
channel-used (passes.linear own _ found alike) none = (own, found, alike, refl)

-- a list is there, and is used up
list-used : {j : Judgement} {w : VarId} {par : Par} {k : Judgement} → PassesValue tried units j (arg.List w) par k
    → (list : ListType) × (bound_to w.0 j.lists ≡ Some list) × (k ≡ record j { lists = unbind w.0 j.lists })
list-used (passes.list amount _ found) = (_, found, refl)

-- ---- channels

spawn-applies : LineApplies (holding 31 (empty_handed mode.R 1 21 27))
spawn-applies = (
  _,
  row.spawn refl one_channel _ (record {
    declared = refl;
    mode = refl;
    arguments = record {
      between = _;
      values = passes.none;
      channels =
          passes.channel (passes.linear (type_id 31) refl refl
          (ended-alike 31 26 refl refl (whole (14, lit< tt, refl)) (whole (11, lit< tt, refl)))) passes.none;
    };
    enough = lit≤ tt;
    free = refl;
  }),
)

-- more potential is needed than there is
spawn-too_little : NoLineApplies (holding 31 (empty_handed mode.R 0 21 27))
spawn-too_little after applied =
    let (d, left, says, goes) = row-inverted _ refl applied in
    let same : one_channel ≡ d = cc in
    let need : 1 ≡ dths units d.amount = ap (λ (e : ProcDecl). dths units e.amount) same in
    omega (arith, says.enough)

-- a held contract does not pass for a private channel
spawn-contract : NoLineApplies (holding 24 (empty_handed mode.L 1 21 22))
spawn-contract after applied =
    let (d, left, says, goes) = row-inverted _ refl applied in
    let fit = declared-fit 0 d one_channel says.declared refl says.arguments in
    let (k, first, others) = first-channel (channels-alone fit.values fit.channels) in
    let (own, found, alike, used) = channel-used first refl in
    let its_own : own ≡ type_id 24 = cc in
    let equal = subst (λ (t : TypeId). AlikeTypes tried units t (type_id 26)) {x = own} its_own alike in
    let held = node.Down (type_id 25) in
    let there = constructor 24 held refl tt in
    not-equal (type_id 24) (type_id 26) held node.One there (end-unfolds 26 refl) (λ h. elim h [ ]) equal.equal

-- a reference passes twice
spawn-references : LineApplies (referring 28 (empty_handed mode.R 1 22 27))
spawn-references =
    let first = passes.shared (type_id 28) refl (shared-alike 28 refl (whole (12, lit< tt, refl))) in
    let second = passes.shared (type_id 28) refl (shared-alike 29 refl (whole (13, lit< tt, refl))) in (
      _,
      row.spawn refl two_references _ (record {
        declared = refl;
        mode = refl;
        arguments =
            record {
              between = _;
              values = passes.none;
              channels = passes.channel first (passes.channel second passes.none);
            };
        enough = lit≤ tt;
        free = refl;
      }),
    )

-- a private channel does not
spawn-twice : NoLineApplies (holding 31 (empty_handed mode.R 1 23 27))
spawn-twice after applied =
    let (d, left, says, goes) = row-inverted _ refl applied in
    let fit = declared-fit 2 d two_channels says.declared refl says.arguments in
    let (k, first, others) = first-channel (channels-alone fit.values fit.channels) in
    let (own, found, alike, used) = channel-used first refl in
    let (i, second, rest) = first-channel others in
    let again = subst (λ (l : Judgement). PassesChannel tried units l (var_id 1) (type_id 32) i) used second in
    let (other, there, alike2, used2) = channel-used again refl in
    cc

call-applies : LineApplies (holding 31 (empty_handed mode.R 1 30 27))
call-applies = (
  _,
  row.call refl (record {
    d = one_channel;
    declared = refl;
    offers = ended-alike 27 27 refl refl (whole (16, lit< tt, refl)) (whole (16, lit< tt, refl));
    mode = refl;
    left = _;
    arguments = record {
      between = _;
      values = passes.none;
      channels =
          passes.channel (passes.linear (type_id 31) refl refl
          (ended-alike 31 26 refl refl (whole (14, lit< tt, refl)) (whole (11, lit< tt, refl)))) passes.none;
    };
    nothing_held = refl;
    enough = lit≤ tt;
  }),
)

-- with one more channel
abbrev and_another : Judgement → Judgement
and_another j = record j { linear = (var_id 1, type_id 31) ∷ (var_id 2, type_id 32) ∷ [] }

-- a channel is left behind
call-holding : NoLineApplies (and_another (empty_handed mode.R 1 30 27))
call-holding after applied =
    let (says, goes) = row-inverted _ refl applied in
    let fit = declared-fit 0 says.d one_channel says.declared refl says.arguments in
    let (k, first, others) = first-channel (channels-alone fit.values fit.channels) in
    let (own, found, alike, used) = channel-used first refl in
    let left_is = no-more_channels others in
    let linear = ap (λ (j : Judgement). j.linear) used in
    let left_linear = ap (λ (j : Judgement). j.linear) left_is in
    let nothing = says.nothing_held in
    no-channels (var_id 2, type_id 32) cc

-- ---- lists

-- with two lists
abbrev two_listed : Judgement → Judgement
two_listed j = record j { lists = (var_id 1, two_each) ∷ (var_id 3, two_each) ∷ [] }

spawn-lists : LineApplies (two_listed (empty_handed mode.R 1 35 27))
spawn-lists = (
  _,
  row.spawn refl two_lists _ (record {
    declared = refl;
    mode = refl;
    arguments =
        record {
          between = _;
          values = passes.value (passes.list _ refl refl)
              (passes.value (passes.list _ refl refl) passes.none);
          channels = passes.none;
        };
    enough = lit≤ tt;
    free = refl;
  }),
)

-- a list is used twice
spawn-list_twice : NoLineApplies (listing (empty_handed mode.R 1 24 27))
spawn-list_twice after applied =
    let (d, left, says, goes) = row-inverted _ refl applied in
    let fit = declared-fit 3 d two_lists says.declared refl says.arguments in
    let (k, first, others) = first-value fit.values in
    let (list, found, used) = list-used first in
    let (i, second, rest) = first-value others in
    let (other, there, used2) = list-used second in
    let lists = ap (λ (j : Judgement). bound_to 1 j.lists) used in
    cc

empty-applies : LineApplies (empty_handed mode.R 0 31 27)
empty-applies = (_, row.empty refl refl)

empty-taken : NoLineApplies (listing (empty_handed mode.R 0 31 27))
empty-taken after applied =
    let (free, goes) = row-inverted _ refl applied in
    omega (arith, free)

add-applies : LineApplies (listing (empty_handed mode.R 2 32 27))
add-applies = (_, row.add refl two_each (record { there = refl; element = seven []; enough = lit≤ tt; free = refl }))

-- the element lacks the amount that it is to carry
add-too_little : NoLineApplies (listing (empty_handed mode.R 1 32 27))
add-too_little after applied =
    let (list, says, goes) = row-inverted _ refl applied in
    let there = says.there in
    let same : list ≡ two_each = cc in
    let carries = ap (λ (l : ListType). l.amount) same in
    omega (arith, says.enough)

match-applies : LineApplies (listing (empty_handed mode.R 0 33 27))
match-applies = (
  _,
  row.match refl two_each (record {
    there = refl;
    differ = λ same. let numbers = ap (λ (v : VarId). v.0) same in omega arith;
    head_free = refl;
    tail_free = refl;
  }),
)

-- head and tail have one name
match-one_name : NoLineApplies (listing (empty_handed mode.R 0 34 27))
match-one_name after applied =
    let (list, says, goes) = row-inverted _ refl applied in
    says.differ refl
