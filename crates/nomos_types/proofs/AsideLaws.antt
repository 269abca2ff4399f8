-- Judgements that are alike but for their potential go on so, each beside the other; and what is like a judgement is
-- one.
use Rattle.std.proofs.Common.{◌≡◌, ◌≤◌, ◌+◌, ℕ, zero, suc, List, [], ◌∷◌, All, Contains, slice_get, refl, sym, subst, ap, ◌∙◌, arith}
use Rattle.std.proofs.lemmas.List.Elements.{All-head, All-tail, All-cons}
use Rattle.std.specs.List.Sorted.{IsStrictlySortedBy}
use Rattle.std.specs.Map.{keys_of}
use Rattle.nomos_ir.specs.Bindings.{bound_to, by_number, IsAscending}
use Rattle.nomos_ir.specs.declared.ids.TypeId.{TypeId}
use Rattle.nomos_ir.specs.declared.ids.VarId.{VarId}
use Rattle.nomos_ir.specs.declared.kind.Kind.{Kind}
use Rattle.nomos_ir.specs.declared.lists.ProgramLists.{ProgramLists}
use Rattle.nomos_ir.specs.declared.mode.Mode.{Mode}
use Rattle.nomos_ir.specs.declared.mode.Mode.TheVariants as mode
use Rattle.nomos_types.proofs.AlikeLaws.{alike-same, alike_types-back, alike_types-through, alike_channels-back, alike_channels-through, alike_channels-free}
use Rattle.nomos_types.proofs.CoveringLaws.{Covers, CoversEach, none, more}
use Rattle.nomos_types.proofs.CoveringRowLaws.{rows-cover}
use Rattle.nomos_types.proofs.DerivationLaws.{derives-following}
use Rattle.nomos_types.proofs.InversionLaws.{derives-row}
use Rattle.nomos_types.proofs.ModeLaws.{mode-unique}
use Rattle.nomos_types.proofs.PremisesOverLaws.{count-same, modes-over}
use Rattle.nomos_types.proofs.RowLaws.{row-at, row-inverted}
use Rattle.nomos_types.proofs.RowsOverLaws.{row-covers}
use Rattle.nomos_types.specs.Alike.{Alike, AlikeChannels}
use Rattle.nomos_types.specs.Alike as alikes
use Rattle.nomos_types.specs.Amount.{Annotations}
use Rattle.nomos_types.specs.Derivation.{Derives, Follows}
use Rattle.nomos_types.specs.Judgement.{Judgement, ListType, IsJudgement, count_one, parts_with, with_potential}
use Rattle.nomos_types.specs.Modes.{HasMode, IsLinearMode}
use Rattle.nomos_types.specs.TypingRule.{TypingRule, StandsAtCode}
use Rattle.nomos_types.specs.Typed.{IsWellFormed}

-- the judgements are alike but for their potential
abbrev pub AlikeAside : ProgramLists → Annotations → Judgement → Judgement → Type 0
AlikeAside lists x j k = Alike lists x (with_potential j 0) (with_potential k 0)

-- so is each and the one at its place
pub data AsideEach (lists : ProgramLists) (x : Annotations) : List Judgement → List Judgement → Type 0 where
  no_more : AsideEach lists x [] []
  one_more : {j k : Judgement} {js ks : List Judgement} → AlikeAside lists x j k → AsideEach lists x js ks
      → AsideEach lists x (j ∷ js) (k ∷ ks)

-- beside each of the first ones there is one of the second ones
pub aside-among : {lists : ProgramLists} {x : Annotations} {js ks : List Judgement} (j : Judgement)
    → AsideEach lists x js ks → Contains js j → (k : Judgement) × Contains ks k × AlikeAside lists x j k
aside-among j no_more (i, inside, is) = absurd (omega arith)
aside-among {lists} {x} j (one_more {k = k} aside others) (zero, inside, is) =
    (k, (0, omega arith, refl), subst (λ (l : Judgement). AlikeAside lists x l k) is aside)
aside-among j (one_more aside others) (suc i, inside, is) =
    let (k, (at, within, there), beside) = aside-among j others (i, omega arith, is) in
    (k, (suc at, omega arith, there), beside)

-- channels that are alike have the same variables
alike_channels-keys : {lists : ProgramLists} {x : Annotations} {cs ds : List (VarId × TypeId)}
    → AlikeChannels lists x cs ds → keys_of cs ≡ keys_of ds
alike_channels-keys alikes.none = refl
alike_channels-keys (alikes.channel v a b cs ds types rest) =
    ap (λ (vs : List VarId). v ∷ vs) (alike_channels-keys rest)

module _ {lists : ProgramLists} {x : Annotations} (formed : IsWellFormed lists) where
  -- ---- what is like a judgement

  -- what holds of the modes of channels holds of those of channels that are like them
  modes-alike : (P : Mode → Type 0) (cs ds : List (VarId × TypeId)) → AlikeChannels lists x cs ds
      → All (λ b. (m : Mode) × HasMode lists b.1 m × P m) ds → All (λ b. (m : Mode) × HasMode lists b.1 m × P m) cs
  modes-alike P [] [] alikes.none all = all
  modes-alike P _ _ (alikes.channel v a b cs ds types rest) all =
      let Holds : VarId × TypeId → Type 0 = λ e. (m : Mode) × HasMode lists e.1 m × P m in
      let (n, at_n, holds) = All-head Holds (v, b) ds all in
      let same : types.mode ≡ n = mode-unique formed.program types.right_mode at_n in
      let at : HasMode lists a n = subst (λ (k : Mode). HasMode lists a k) same types.left_mode in
      All-cons Holds (v, a) cs (n, at, holds) (modes-alike P cs ds rest (All-tail Holds (v, b) ds all))

  -- a variable is bound in as many parts of judgements that are alike
  parts-alike : {j k : Judgement} → Alike lists x j k → (v : ℕ) → parts_with j v ≡ parts_with k v
  parts-alike {j} {k} alike v =
      let kinds = ap (λ (b : List (VarId × Kind)). count_one (bound_to v b)) alike.kinds in
      let lists_too = ap (λ (b : List (VarId × ListType)). count_one (bound_to v b)) alike.same_lists in
      let references = count-same (bound_to v j.shared) (bound_to v k.shared) (alike_channels-free v alike.shared)
      (alike_channels-free v (alike_channels-back alike.shared)) in
      let channels = count-same (bound_to v j.linear) (bound_to v k.linear) (alike_channels-free v alike.linear)
      (alike_channels-free v (alike_channels-back alike.linear)) in
      omega arith

  -- what is like a judgement is one
  pub alike-is_judgement : {j k : Judgement} → Alike lists x j k → IsJudgement lists k → IsJudgement lists j
  alike-is_judgement {j} {k} alike h =
      let Sorted : List VarId → Type 0 = λ vs. IsStrictlySortedBy by_number vs in
      record {
        kinds = subst (λ (b : List (VarId × Kind)). IsAscending b) (sym alike.kinds) h.kinds;
        lists_ascend = subst (λ (b : List (VarId × ListType)). IsAscending b) (sym alike.same_lists) h.lists_ascend;
        shared = subst Sorted (sym (alike_channels-keys alike.shared)) h.shared;
        linear = subst Sorted (sym (alike_channels-keys alike.linear)) h.linear;
        apart = λ v. omega (arith, parts-alike alike v, h.apart v);
        shared_modes = modes-over formed mode.S j.shared k.shared alike.shared h.shared_modes;
        linear_modes = modes-alike IsLinearMode j.linear k.linear alike.linear h.linear_modes;
      }

  -- ---- beside one another

  -- what two judgements are like that one covers
  covered-aside : {i j k : Judgement} → Covers lists x i j → Covers lists x i k → AlikeAside lists x j k
  covered-aside first second =
      record {
        mode = sym first.mode ∙ second.mode;
        kinds = sym first.kinds ∙ second.kinds;
        same_lists = sym first.same_lists ∙ second.same_lists;
        shared = alike_channels-through formed.program (alike_channels-back first.shared) second.shared;
        linear = alike_channels-through formed.program (alike_channels-back first.linear) second.linear;
        q = refl;
        code = sym first.code ∙ second.code;
        offers = alike_types-through formed.program (alike_types-back first.offers) second.offers;
      }

  covered-each : {is js ks : List Judgement} → CoversEach lists x is js → CoversEach lists x is ks
      → AsideEach lists x js ks
  covered-each none none = no_more
  covered-each (more first firsts) (more second seconds) =
      one_more (covered-aside first second) (covered-each firsts seconds)

  -- with enough potential a judgement covers those that are like it but for their potential
  aside-covers : (j k : Judgement) (m : ℕ) → AlikeAside lists x j k → k.q ≤ m → Covers lists x (with_potential j m) k
  aside-covers j k m aside enough =
      record {
        mode = aside.mode;
        kinds = aside.kinds;
        same_lists = aside.same_lists;
        shared = aside.shared;
        linear = aside.linear;
        q = enough;
        code = aside.code;
        offers = aside.offers;
      }

  -- whatever its potential, a judgement is like itself but for that
  pub aside-itself : {j : Judgement} {m : Mode} (q : ℕ) → IsJudgement lists j → HasMode lists j.offers m
      → AlikeAside lists x (with_potential j q) j
  aside-itself q is_judgement its_mode =
      let self = alike-same x formed.program formed.contractive is_judgement its_mode in
      record {
        mode = refl;
        kinds = refl;
        same_lists = refl;
        shared = self.shared;
        linear = self.linear;
        q = refl;
        code = refl;
        offers = self.offers;
      }

  -- judgements that are alike but for their potential go on so
  pub next-aside : {j k : Judgement} {after later : List Judgement} → IsJudgement lists j → AlikeAside lists x j k
      → TypingRule lists x j after → TypingRule lists x k later → AsideEach lists x after later
  next-aside {j} {k} {after} {later} is_judgement aside own other =
      let m = j.q + k.q in
      let covers_own : Covers lists x (with_potential j m) j =
      aside-covers j j m (aside-itself j.q is_judgement aside.offers.left_mode) (omega arith)
      in
      let covers_other : Covers lists x (with_potential j m) k = aside-covers j k m aside (omega arith) in
      let (middle, row) = row-covers formed covers_other other in
      let (n, there, says) = row-at row in
      let there_too : StandsAtCode lists k n = ap (λ c. slice_get lists.code c.0) (sym aside.code) ∙ there in
      covered-each (rows-cover formed n covers_own says (row-inverted n there own))
      (rows-cover formed n covers_other says (row-inverted n there_too other))

  -- beside a judgement that follows from one with a derivation, a row leads beside those that follow
  pub follow-beside : {first at j k : Judgement} {after : List Judgement} → Derives lists x first
      → Follows lists x first at → IsJudgement lists j → AlikeAside lists x j at → TypingRule lists x j after
      → Contains after k → (next : Judgement) × Follows lists x first next × AlikeAside lists x k next
  follow-beside {k = k} derivation follows is_judgement aside row among =
      let (own, own_row) = derives-row formed (derives-following formed derivation follows) in
      let (next, inside, beside) = aside-among k (next-aside is_judgement aside row own_row) among in
      (next, Follows.next own follows own_row inside, beside)
