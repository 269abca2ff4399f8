-- How channels pass.
use Rattle.std.proofs.Common.{◌≡◌, ◌<◌, ◌+◌, ◌⊎◌, ◌∙◌, ℕ, zero, suc, ◌==◌, Bool, true, false, List, [], ◌∷◌, Contains, Option, Some, None, drop, get_or, length, subst₂, inl, inr, refl, ap, sym, subst, arith, eqb-true}
use Rattle.std.specs.Prelude.{zip}
use Rattle.std.proofs.lemmas.Bool.{eqb-false}
use Rattle.std.proofs.lemmas.List.{drop_more}
use Rattle.nomos_ir.specs.declared.amount.Amount.{Amount}
use Rattle.nomos_ir.specs.declared.ids.TypeId.{TypeId}
use Rattle.nomos_ir.specs.declared.ids.VarId.{VarId}
use Rattle.nomos_ir.specs.declared.lists.ProgramLists.{ProgramLists}
use Rattle.nomos_ir.specs.declared.mode.Mode.TheVariants as mode
use Rattle.nomos_ir.specs.Bindings.{bound_to, unbind}
use Rattle.nomos_ir.specs.Program.{IsProgram}
use Rattle.nomos_ir.proofs.BindingLaws.{all-bound, bound-after_unbind, bound-after_unbind_other}
use Rattle.nomos_equality.specs.Paths.{StandAtEqualPaths}
use Rattle.nomos_types.specs.Alike.{AlikeTypes}
use Rattle.nomos_types.specs.Amount.{Annotations}
use Rattle.nomos_types.specs.Arguments.{PassesChannel, shared, linear, PassesChannels, none, channel}
use Rattle.nomos_types.specs.Equality.{no_amounts}
use Rattle.nomos_types.specs.Judgement.{Judgement, count_one, IsJudgement}
use Rattle.nomos_types.specs.Modes.{HasMode}
use Rattle.nomos_types.proofs.ArgumentsLaws.{passes-channel_left}
use Rattle.nomos_types.proofs.ModeLaws.{mode-in_range}
use Rattle.nomos_check.specs.Asking.{IsOfType}
use Rattle.nomos_check.specs.declared.asked.Asked.{Asked}
use Rattle.nomos_check.specs.declared.standing.Standing.{Standing}
use Rattle.nomos_check.specs.mirror.Passing.{TellsAlike, TellsChannel, ChannelPassed, ChannelsPassed, PairOfChannels}
use Rattle.nomos_check.specs.mirror.StandingData.{shape_of, Joins, HasPair}
use Rattle.nomos_check.proofs.LeadLemmas.{keeps-through}

-- ---- the type of a variable

-- the type of a reference has its place
pub reference-in_range : (lists : ProgramLists) (j : Judgement) (v : VarId) (t : TypeId) → IsProgram lists
    → IsJudgement lists j → bound_to v.0 j.shared ≡ Some t → t.0 < length lists.types
reference-in_range lists j v t is_program h found =
    let AtS : TypeId → Type 0 = λ u. HasMode lists u mode.S in
    mode-in_range is_program (all-bound AtS v.0 t j.shared h.shared_modes found)

some-counts : {X : Type 0} (o : Option X) (x : X) → o ≡ Some x → count_one o ≡ 1
some-counts o x is = ap (λ p. count_one p) is

-- a variable has one type
pub of-type_unique : (lists : ProgramLists) (j : Judgement) (v : VarId) (a b : TypeId) → IsJudgement lists j
    → IsOfType j v a
    → IsOfType j v b → a ≡ b
of-type_unique lists j v a b h (inl first) (inl second) = cc
of-type_unique lists j v a b h (inr first) (inr second) = cc
of-type_unique lists j v a b h (inl first) (inr second) =
    absurd (omega (
      arith,
      h.apart v.0,
      some-counts (bound_to v.0 j.shared) a first,
      some-counts
          (bound_to v.0 j.linear) b second,
    ))
of-type_unique lists j v a b h (inr first) (inl second) =
    absurd (omega (
      arith,
      h.apart v.0,
      some-counts (bound_to v.0 j.linear) a first,
      some-counts
          (bound_to v.0 j.shared) b second,
    ))

-- what is bound after a binding was given up was bound before
pub unbound-back : {X : Type 0} (w v : ℕ) (b : List (VarId × X)) (y : X) (t : Bool) → (w == v) ≡ t
    → bound_to v (unbind v b) ≡ None → bound_to w (unbind v b) ≡ Some y → bound_to w b ≡ Some y
unbound-back w v b y true here nothing found =
    let same : w ≡ v = eqb-true w v here in
    let too : bound_to v (unbind v b) ≡ Some y = subst (λ (n : ℕ). bound_to n (unbind v b) ≡ Some y) same found in
    absurd cc
unbound-back w v b y false here nothing found =
    sym (bound-after_unbind_other w v b (eqb-false w v here)) ∙ found

module _ {lists : ProgramLists} {x : Annotations} where
  -- what passes has a type
  passes-of_type : {j : Judgement} {v : VarId} {t : TypeId} {k : Judgement} → PassesChannel lists x j v t k
      → (own : TypeId) × IsOfType j v own × AlikeTypes lists x own t
  passes-of_type (shared own found alike) = (own, inl found, alike)
  passes-of_type (linear own unshared found alike) = (own, inr found, alike)

  -- a type after a channel has passed was there before
  pub of-type_back : {j : Judgement} {v : VarId} {t : TypeId} {k : Judgement} → (w : VarId) (own : TypeId)
      → IsJudgement lists j
      → PassesChannel lists x j v t k → IsOfType k w own → IsOfType j w own
  of-type_back w own h (shared its found alike) is_of = is_of
  of-type_back w own h (linear its unshared found alike) (inl reference) = inl reference
  of-type_back {j} {v} w own h (linear its unshared found alike) (inr held) =
      inr (unbound-back w.0 v.0 j.linear own (w.0 == v.0) refl (bound-after_unbind v.0 j.linear h.linear) held)

  -- what passes among others has a type before them
  pub passed-of_type : {j : Judgement} {vs : List VarId} {pars : List (VarId × TypeId)} {left : Judgement} {v : VarId}
      {par : VarId × TypeId} → IsJudgement lists j → PassesChannels lists x j vs pars left
      → Contains (zip vs pars) (v, par)
      → (own : TypeId) × IsOfType j v own
  passed-of_type h none (i, inside, same) = absurd (omega arith)
  passed-of_type {j = j} {v = v} h (channel {v = w} first rest) (zero, inside, same) =
      let (own, is_of, alike) = passes-of_type first in
      let one : w ≡ v = ap (λ (e : VarId × (VarId × TypeId)). e.0) same in
      (own, subst (λ (u : VarId). IsOfType j u own) one is_of)
  passed-of_type {v = v} h (channel first rest) (suc i, inside, same) =
      let later = (passes-channel_left h first).judgement in
      let (own, is_of) = passed-of_type later rest (i, omega arith, same) in
      (own, of-type_back v own h first is_of)

  -- what is left after one channel is one judgement
  pub passing-same : {j : Judgement} {v : VarId} {t : TypeId} {l r : Judgement} → PassesChannel lists x j v t l
      → PassesChannel lists x j v t r → l ≡ r
  passing-same (shared _ _ _) (shared _ _ _) = refl
  passing-same (shared own there _) (linear _ unshared _ _) = absurd cc
  passing-same (linear _ unshared _ _) (shared own there _) = absurd cc
  passing-same (linear _ _ _ _) (linear _ _ _ _) = refl

-- ---- one channel

-- a reference does not pass where the types are not alike
reference-stays : (lists : ProgramLists) (j : Judgement) (v : VarId) (own t : TypeId) (k : Judgement)
    → bound_to v.0 j.shared ≡ Some own → ¬ (AlikeTypes lists no_amounts own t)
    → ¬ (PassesChannel lists no_amounts j v t k)
reference-stays lists j v own t k found differ (shared its there alike) =
    let same : its ≡ own = cc in
    differ (subst (λ (u : TypeId). AlikeTypes lists no_amounts u t) same alike)
reference-stays lists j v own t k found differ (linear its unshared there alike) = cc

-- a reference passes where the types are alike
pub reference-passes : (lists : ProgramLists) (s : Standing) (v : VarId) (own t : TypeId) (old new : Asked)
    → bound_to v.0 s.shared ≡ Some own → (b : Bool) → TellsAlike lists own t old new b
    → TellsChannel lists s s v t old new b
reference-passes lists s v own t old new found true (alike, joins) = record {
  passes = shared own found alike;
  amounts = record { lists = refl; potential = refl };
  own = own;
  is_of = inl found;
  joins = joins;
}
reference-passes lists s v own t old new found false differ = λ k. reference-stays lists
    (shape_of s) v own t k found differ

-- a channel that is not there does not pass
pub nothing-passes : (lists : ProgramLists) (j : Judgement) (v : VarId) (t : TypeId) (k : Judgement)
    → bound_to v.0 j.shared ≡ None
    → bound_to v.0 j.linear ≡ None → ¬ (PassesChannel lists no_amounts j v t k)
nothing-passes lists j v t k unshared unheld (shared own there alike) = cc
nothing-passes lists j v t k unshared unheld (linear own _ there alike) = cc

-- a channel does not pass where the types are not alike
pub channel-stays : (lists : ProgramLists) (j : Judgement) (v : VarId) (own t : TypeId) (k : Judgement)
    → bound_to v.0 j.shared ≡ None
    → bound_to v.0 j.linear ≡ Some own → ¬ (AlikeTypes lists no_amounts own t)
    → ¬ (PassesChannel lists no_amounts j v t k)
channel-stays lists j v own t k unshared held differ (shared its there alike) = cc
channel-stays lists j v own t k unshared held differ (linear its _ there alike) =
    let same : its ≡ own = cc in
    differ (subst (λ (u : TypeId). AlikeTypes lists no_amounts u t) same alike)

-- a channel passes, and is used up
pub channel-passes : (lists : ProgramLists) (s : Standing) (v : VarId) (own t : TypeId) (old new : Asked)
    (left : List (VarId × TypeId)) → bound_to v.0 s.shared ≡ None → bound_to v.0 s.linear ≡ Some own
    → left ≡ unbind v.0 s.linear → TellsAlike lists own t old new true
    → ChannelPassed lists s (record s { linear = left }) v t old new
channel-passes lists s v own t old new left unshared held is (alike, joins) =
    let j = shape_of s in
    let Passes : List (VarId × TypeId) → Type 0 = λ cs. PassesChannel lists no_amounts j v t
    (record j { linear = cs }) in
    record {
      passes = subst Passes (sym is) (linear own unshared held alike);
      amounts = record { lists = refl; potential = refl };
      own = own;
      is_of = inr held;
      joins = joins;
    }

-- ---- channels one after another

-- no channels pass for no parameters
pub channels-none : (lists : ProgramLists) (s : Standing) (old : Asked) → ChannelsPassed lists s s [] [] old old
channels-none lists s old = record {
  passes = none;
  amounts = record { lists = refl; potential = refl };
  joins =
      λ pair. (
        λ has. inl has,
        λ either. elim either [ inl before ↦ before | inr p ↦ absurd (omega (arith, p.passes.1)) ],
      );
}

-- the pairs of channels are those of the first one and those of the others
channel-pairs : (lists : ProgramLists) (s between next : Standing) (v : VarId) (vs : List VarId) (par : VarId × TypeId)
    (pars : List (VarId × TypeId)) (old mid new : Asked) → IsJudgement lists (shape_of s)
    → ChannelPassed lists s between v par.1 old mid → ChannelsPassed lists between next vs pars mid new
    → Joins old new (PairOfChannels lists (shape_of s) (v ∷ vs) (par ∷ pars))
channel-pairs lists s between next v vs par pars old mid new h first rest = λ pair. (to pair, from pair)
  where
    to : (pair : Amount × Amount) → HasPair new pair
        → HasPair old pair ⊎ PairOfChannels lists (shape_of s) (v ∷ vs) (par ∷ pars) pair
    to pair has = elim ((rest.joins pair).0 has) [
      | inl middle ↦ elim ((first.joins pair).0 middle) [
        | inl before ↦ inl before
        | inr paths ↦ inr (record {
          v = v;
          par = par;
          own = first.own;
          passes =
              (0, omega arith, refl);
          is_of = first.is_of;
          paths = paths;
        })
      ]
      | inr p ↦ inr (record {
        v = p.v;
        par = p.par;
        own = p.own;
        passes = (suc p.passes.0, omega (arith, p.passes.1), p.passes.2);
        is_of = of-type_back p.v p.own h first.passes p.is_of;
        paths = p.paths;
      })
    ]

    later : (pair : Amount × Amount) (i : ℕ) (p : PairOfChannels lists (shape_of s) (v ∷ vs) (par ∷ pars) pair)
        → Contains (zip vs pars) (p.v, p.par) → HasPair new pair
    later pair i p among =
        let after = (passes-channel_left h first.passes).judgement in
        let (its, is_of) = passed-of_type after rest.passes among in
        let one : its ≡ p.own = of-type_unique lists (shape_of s) p.v its p.own h
        (of-type_back p.v its h first.passes is_of) p.is_of in
        let of_own = subst (λ (t : TypeId). IsOfType (shape_of between) p.v t) one is_of in
        (rest.joins pair).1 (inr (record {
          v = p.v;
          par = p.par;
          own = p.own;
          passes = among;
          is_of = of_own;
          paths =
              p.paths;
        }))

    at : (pair : Amount × Amount) (p : PairOfChannels lists (shape_of s) (v ∷ vs) (par ∷ pars) pair)
        → Contains (zip (v ∷ vs) (par ∷ pars)) (p.v, p.par) → HasPair new pair
    at pair p (zero, inside, same) =
        let its_v : v ≡ p.v = ap (λ (e : VarId × (VarId × TypeId)). e.0) same in
        let its_par : par ≡ p.par = ap (λ (e : VarId × (VarId × TypeId)). e.1) same in
        let is_of = subst (λ (u : VarId). IsOfType (shape_of s) u first.own) its_v first.is_of in
        let one : p.own ≡ first.own = of-type_unique lists (shape_of s) p.v p.own first.own h p.is_of is_of in
        let with_own = subst (λ (t : TypeId). StandAtEqualPaths lists t p.par.1 pair) one p.paths in
        let paths = subst (λ (e : VarId × TypeId). StandAtEqualPaths lists first.own e.1 pair) (sym its_par) with_own in
        (rest.joins pair).1 (inl ((first.joins pair).1 (inr paths)))
    at pair p (suc i, inside, same) = later pair i p (i, omega arith, same)

    from : (pair : Amount × Amount) → HasPair old pair ⊎ PairOfChannels lists (shape_of s) (v ∷ vs) (par ∷ pars) pair
        → HasPair new pair
    from pair (inl before) = (rest.joins pair).1 (inl ((first.joins pair).1 (inl before)))
    from pair (inr p) = at pair p p.passes

-- one channel passes, and then the others
pub channels-more : (lists : ProgramLists) (s between next : Standing) (v : VarId) (vs : List VarId) (par : VarId
    × TypeId)
    (pars : List (VarId × TypeId)) (old mid new : Asked) → IsJudgement lists (shape_of s)
    → ChannelPassed lists s between v par.1 old mid → ChannelsPassed lists between next vs pars mid new
    → ChannelsPassed lists s next (v ∷ vs) (par ∷ pars) old new
channels-more lists s between next v vs par pars old mid new h first rest = record {
  passes = channel first.passes rest.passes;
  amounts = keeps-through first.amounts rest.amounts;
  joins = channel-pairs lists s between next v vs par pars old mid new h first rest;
}

-- where channels pass, the others pass after the first one
pub channels-rest : (lists : ProgramLists) (j k left : Judgement) (v : VarId) (vs : List VarId) (par : VarId × TypeId)
    (pars : List (VarId × TypeId)) → PassesChannel lists no_amounts j v par.1 k
    → PassesChannels lists no_amounts j (v ∷ vs) (par ∷ pars) left → PassesChannels lists no_amounts k vs pars left
channels-rest lists j k left v vs par pars here (channel first rest) =
    subst (λ (i : Judgement). PassesChannels lists no_amounts i vs pars left) (passing-same first here) rest

-- the first channel passes
pub channels-first : (lists : ProgramLists) (j left : Judgement) (v : VarId) (vs : List VarId) (par : VarId × TypeId)
    (pars : List (VarId × TypeId)) → PassesChannels lists no_amounts j (v ∷ vs) (par ∷ pars) left
    → (k : Judgement) × PassesChannel lists no_amounts j v par.1 k
channels-first lists j left v vs par pars (channel {k = k} first rest) = (k, first)

-- there are as many channels as parameters
pub channels-count : (lists : ProgramLists) (j : Judgement) (vs : List VarId) (pars : List (VarId
    × TypeId)) (left : Judgement)
    → PassesChannels lists no_amounts j vs pars left → length vs ≡ length pars
channels-count lists j _ _ left none = refl
channels-count lists j _ _ left (channel {k = k} {vs = vs} {pars = pars} first rest) =
    ap suc (channels-count lists k vs pars left rest)

-- what is left after channels is one judgement
pub channels-one : (lists : ProgramLists) (vs : List VarId) (pars : List (VarId × TypeId)) (j l r : Judgement)
    → PassesChannels lists no_amounts j vs pars l → PassesChannels lists no_amounts j vs pars r → l ≡ r
channels-one lists [] [] j l r none none = refl
channels-one lists [] (par ∷ pars) j l r left right = elim left [ ]
channels-one lists (v ∷ vs) [] j l r left right = elim left [ ]
channels-one lists (v ∷ vs) (par ∷ pars) j l r (channel {k = k} first rest) right =
    channels-one lists vs pars k l r rest (channels-rest lists j k r v vs par pars first right)

-- ---- a turn of the loop

module _ (lists : ProgramLists) (vs : List VarId) (pars : List (VarId × TypeId)) (i : ℕ) (dv : VarId)
    (dp : VarId × TypeId) (in_vs : i < length vs) (in_pars : i < length pars) where
  -- where all channels pass after this turn, all of them pass
  pub turn-whole : (start now between : Standing) (first asked mid : Asked) → IsJudgement lists (shape_of now)
      → ChannelPassed lists now between (get_or vs i dv) (get_or pars i dp).1 asked mid
      → ((next : Standing) (new : Asked) → ChannelsPassed lists now next (drop i vs) (drop i pars) asked new
      → ChannelsPassed lists start next vs pars first new)
      → (next : Standing) (new : Asked) → ChannelsPassed lists between next (drop (i + 1) vs) (drop
      (i + 1) pars) mid new
      → ChannelsPassed lists start next vs pars first new
  turn-whole start now between first asked mid h here whole next new rest =
      let v = get_or vs i dv in
      let par = get_or pars i dp in
      let more = channels-more lists now between next v (drop (i + 1) vs) par (drop
      (i + 1) pars) asked mid new h here rest in
      let Passed : List VarId → List (VarId × TypeId) → Type 0 = λ a b. ChannelsPassed lists now next a b asked new in
      whole next new (subst₂ Passed (sym (drop_more vs i dv in_vs)) (sym (drop_more pars i dp in_pars)) more)

  -- where all channels pass, those after this turn pass
  pub turn-rest : (start now between : Judgement) → PassesChannel lists no_amounts now (get_or vs i dv)
      (get_or pars i dp).1 between
      → ((left : Judgement) → PassesChannels lists no_amounts start vs pars left
      → PassesChannels lists no_amounts now (drop i vs) (drop i pars) left)
      → (left : Judgement) → PassesChannels lists no_amounts start vs pars left
      → PassesChannels lists no_amounts between (drop (i + 1) vs) (drop (i + 1) pars) left
  turn-rest start now between here rest left all =
      let Passes : List VarId → List (VarId × TypeId) → Type 0 = λ a b. PassesChannels lists no_amounts now a b left in
      channels-rest lists now between left (get_or vs i dv) (drop (i + 1) vs) (get_or pars i dp) (drop
      (i + 1) pars) here
      (subst₂ Passes (drop_more vs i dv in_vs) (drop_more pars i dp in_pars) (rest left all))

  -- where the channel of this turn does not pass, all do not
  pub turn-stuck : (start now : Judgement)
      → ((k : Judgement) → ¬ (PassesChannel lists no_amounts now (get_or vs i dv) (get_or pars i dp).1 k))
      → ((left : Judgement) → PassesChannels lists no_amounts start vs pars left
      → PassesChannels lists no_amounts now (drop i vs) (drop i pars) left)
      → (left : Judgement) → ¬ (PassesChannels lists no_amounts start vs pars left)
  turn-stuck start now stays rest left all =
      let Passes : List VarId → List (VarId × TypeId) → Type 0 = λ a b. PassesChannels lists no_amounts now a b left in
      let (k, here) =
      channels-first lists now left (get_or vs i dv) (drop (i + 1) vs) (get_or pars i dp) (drop (i + 1) pars)
      (subst₂ Passes (drop_more vs i dv in_vs) (drop_more pars i dp in_pars) (rest left all))
      in
      stays k here
