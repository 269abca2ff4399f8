-- What the arguments of a `spawn` or a `call` give in a typed process, and what is left of it.
use Rattle.std.proofs.Common.{◌≡◌, ◌≢◌, ◌∙◌, inl, inr, ℕ, ◌+◌, Bool, true, false, List, [], ◌∷◌, map, Option, Some, None, Ok, Err, sum_by, refl, sym, subst, ap, arith, ne_eqb}
use Rattle.std.proofs.lemmas.Bool.{cases_eq}
use Rattle.std.proofs.lemmas.List.Sums.{sum_by-cons}
use Rattle.std.specs.List.{flat_map}
use Rattle.std.specs.Option.{option_or, option_map, option_to_list}
use Rattle.nomos_ir.specs.Bindings.{bound_to, unbind, sum_bound, IsAscending}
use Rattle.nomos_ir.specs.CodeParts.{arg_terms}
use Rattle.nomos_ir.specs.Evaluation.{Evaluation, ends, faults, term_evaluation}
use Rattle.nomos_ir.specs.Order.{count_of}
use Rattle.nomos_ir.specs.Paired.{Paired, ArePaired, PairedInOrder, both, neither}
use Rattle.nomos_ir.specs.Paired as pairs
use Rattle.nomos_ir.specs.TermKind.{HasKind}
use Rattle.nomos_ir.specs.Value.{Value}
use Rattle.nomos_ir.specs.ValueKind.{ValueHasKind}
use Rattle.nomos_ir.specs.declared.code_node.ValueArg.{ValueArg}
use Rattle.nomos_ir.specs.declared.code_node.ValueArg.TheVariants as arg
use Rattle.nomos_ir.specs.declared.declaration.Par.{Par}
use Rattle.nomos_ir.specs.declared.ids.TermId.{TermId}
use Rattle.nomos_ir.specs.declared.ids.TypeId.{TypeId}
use Rattle.nomos_ir.specs.declared.ids.VarId.{VarId}
use Rattle.nomos_ir.specs.declared.kind.Kind.{Kind}
use Rattle.nomos_ir.specs.declared.mode.Mode.{Mode}
use Rattle.nomos_ir.specs.declared.mode.Mode.TheVariants as mode
use Rattle.nomos_ir.proofs.BindingLaws.{all-bound, bound-after_unbind, bound-after_unbind_other, unbind-ascending}
use Rattle.nomos_ir.proofs.PairedLaws.{paired-left, paired-unbind}
use Rattle.nomos_ir.proofs.SumLaws.{sum-after_unbind, times_bound, count-after_unbind}
use Rattle.nomos_types.specs.Acceptance.{Acceptance, IsAccepted}
use Rattle.nomos_types.specs.Amount.{dths}
use Rattle.nomos_types.specs.Arguments.{PassesChannel, PassesChannels, PassesValue, PassesValues, ArgumentsFit}
use Rattle.nomos_types.specs.Arguments as passes
use Rattle.nomos_types.specs.Judgement.{Judgement, ListType, IsJudgement}
use Rattle.nomos_types.specs.Alike.{AlikeTypes}
use Rattle.nomos_types.specs.Modes.{HasMode, IsLinearMode}
use Rattle.nomos_types.proofs.AlikeLaws.{alike_types-through}
use Rattle.nomos_types.proofs.ModeLaws.{mode-unique}
use Rattle.nomos_types.proofs.OccurrenceLaws.{one_at, count-elsewhere}
use Rattle.nomos_types.proofs.ArgumentsLaws.{passes-channel_left, passes-value_left}
use Rattle.nomos_machine.specs.Deeds.{unless_shared, hands_over, hands_over_all, hands_over_lists}
use Rattle.nomos_ir.specs.TermsEvaluation.{TermsResult, before_others, terms_evaluation}
use Rattle.nomos_machine.specs.Given.{give_values, give_names}
use Rattle.nomos_machine.specs.Matching.{NameHasType, IsListOf}
use Rattle.nomos_machine.specs.Optional.{◌>>=◌}
use Rattle.nomos_machine.specs.Revised.{list_used_up}
use Rattle.nomos_machine.specs.Sight.{is_shared_name}
use Rattle.nomos_machine.specs.Starting.{FitValues, value, list, none}
use Rattle.nomos_machine.specs.State.{State}
use Rattle.nomos_machine.specs.declared.object.PotentialList.{PotentialList}
use Rattle.nomos_machine.specs.declared.object.Process.{Process}
use Rattle.nomos_machine.proofs.BeginLaws.{carries}
use Rattle.nomos_machine.proofs.BirthLaws.{shared-shown, unshared-shown}
use Rattle.nomos_machine.proofs.MatchLaws.{HoldsChannels, holds-fewer}

-- ---- values of terms

-- terms that have values: the first has one, and so have the others
values-first : (r : Evaluation) (others : TermsResult) (vs : List Value) → before_others r others ≡ Ok vs
    → (v : Value) × (m : ℕ) × (r ≡ ends v m) × (rest : List Value) × (others ≡ Ok rest) × (vs ≡ v ∷ rest)
values-first (ends v m) (Ok rest) vs is =
    let same : v ∷ rest ≡ vs = cc in
    (v, m, refl, rest, refl, sym same)
values-first (ends v m) (Err f) vs is = absurd cc
values-first (faults f) others vs is = absurd cc

-- ---- values and lists

-- all that a map binds another one binds to the same
abbrev Within : {X : Type 0} → List (VarId × X) → List (VarId × X) → Type 0
Within b c = (v : ℕ) (x : _) → bound_to v b ≡ Some x → bound_to v c ≡ Some x

-- what is bound where a variable is unbound was bound before
unbound-within : {X : Type 0} (v : ℕ) (b c : List (VarId × X)) → IsAscending b → Within b c → Within (unbind v b) c
unbound-within {X} v b c ascending within w x found =
    elim (cases_eq w v) [
      | inl same ↦
          let gone : bound_to w (unbind v b) ≡ None =
          subst (λ (u : ℕ). bound_to u (unbind v b) ≡ None) (sym same) (bound-after_unbind v b ascending)
          in
          absurd (differ (sym gone ∙ found))
      | inr other ↦ within w x (sym (bound-after_unbind_other w v b other) ∙ found)
    ]
  where
    differ : None ≡ Some x → ⊥
    differ same = cc

module _ (a : Acceptance) (s : State) (p : Process) where
  -- What arguments for values give, where these are the lists with which the process goes on, and what is left of them.
  pub record ValuesGiven (args : List ValueArg) (pars : List Par) (vs : List Value)
      (held : List (VarId × PotentialList)) (left : List (VarId × ListType)) : Type 0 where
    pub values : List (VarId × Value)
    pub its_lists : List (VarId × PotentialList)
    pub gives : give_values p vs args pars ≡ Some (values, its_lists)
    pub fit : FitValues a.annotations values its_lists pars
    pub rest : List (VarId × PotentialList)
    pub hands : (q : Process) → q.lists ≡ held → hands_over_lists a s p args q ≡ record q { lists = rest }
    pub ascending : IsAscending rest
    pub fits : ArePaired IsListOf rest left
    pub sum : sum_bound carries rest + sum_bound carries its_lists ≡ sum_bound carries held

  -- What arguments for channels give, where these are the channels with which the process goes on, and what is left.
  pub record NamesGiven (vs : List VarId) (pars : List (VarId × TypeId)) (held : List (VarId × ℕ))
      (shared linear : List (VarId × TypeId)) : Type 0 where
    pub names : List (VarId × ℕ)
    pub gives : give_names p vs pars ≡ Some names
    pub fit : PairedInOrder (NameHasType a.program a.annotations s.types) names pars
    pub rest : List (VarId × ℕ)
    pub hands : (q : Process) → q.channels ≡ held → hands_over_all a s p vs q ≡ record q { channels = rest }
    pub ascending : IsAscending rest
    pub holds : HoldsChannels (NameHasType a.program a.annotations s.types) rest shared linear
    pub uses : (name : ℕ) → is_shared_name a.program s.types name ≡ false
        → times_bound name rest + times_bound name names ≡ times_bound name held

  -- the two lists of what is given
  abbrev Parts : Type 0
  Parts = List (VarId × Value) × List (VarId × PotentialList)

  abbrev with_list_given : Par → Option Parts → PotentialList → Option Parts
  with_list_given par others l = others >>= λ parts. Some (parts.0, (par.var, l) ∷ parts.1)

  gives-list : (vs : List Value) (w : VarId) (args : List ValueArg) (par : Par) (pars : List Par) (l : PotentialList)
      (values : List (VarId × Value)) (its_lists : List (VarId × PotentialList)) → bound_to w.0 p.lists ≡ Some l
      → give_values p vs args pars ≡ Some (values, its_lists)
      → give_values p vs (arg.List w ∷ args) (par ∷ pars) ≡ Some (values, (par.var, l) ∷ its_lists)
  gives-list [] w args par pars l values its_lists found gives =
      ap (λ (o : Option PotentialList). o >>= with_list_given par (give_values p [] args pars)) found
      ∙ ap (λ (o : Option Parts). with_list_given par o l) gives
  gives-list (v ∷ vs) w args par pars l values its_lists found gives =
      ap (λ (o : Option PotentialList). o >>= with_list_given par (give_values p (v ∷ vs) args pars)) found
      ∙ ap (λ (o : Option Parts). with_list_given par o l) gives

  abbrev HasItsKind : List (VarId × Kind) → Type 0
  HasItsKind kinds =
      (e : TermId) (kind : Kind) (v : Value) (m : ℕ) → HasKind a.program kinds e kind
      → term_evaluation a.program p.values e ≡ ends v m → ValueHasKind v kind

  pub values-given : {j left : Judgement} {args : List ValueArg} {pars : List Par} (vs : List Value)
      (held : List (VarId × PotentialList)) → IsJudgement a.program j → HasItsKind j.kinds
      → PassesValues a.program a.annotations j args pars left
      → terms_evaluation a.program p.values (flat_map arg_terms args) ≡ Ok vs → IsAscending held → Within held p.lists
      → ArePaired IsListOf held j.lists → ValuesGiven args pars vs held left.lists
  values-given vs held h valued passes.none is ascending within fits =
      let none_given : [] ≡ vs = cc in
      record {
        values = [];
        its_lists = [];
        gives = ap (λ (ws : List Value). give_values p ws [] []) (sym none_given);
        fit = none;
        rest = held;
        hands = λ q same. ap (λ (b : List (VarId × PotentialList)). record q { lists = b }) same;
        ascending = ascending;
        fits = fits;
        sum = omega arith;
      }
  values-given vs held h valued
      (passes.value {args = args} {par = par} {pars = pars} (passes.term {e = e} no_list kind) others)
      is ascending within fits =
      let (v, m, ended, rest, others_ok, all) =
      values-first (term_evaluation a.program p.values e)
      (terms_evaluation a.program p.values (flat_map arg_terms args)) vs is
      in
      let further = values-given rest held h valued others others_ok ascending within fits in
      record {
        values = (par.var, v) ∷ further.values;
        its_lists = further.its_lists;
        gives = ap (λ (ws : List Value). give_values p ws (arg.Term e ∷ args) (par ∷ pars)) all
            ∙ ap (λ (o : Option Parts). o >>= λ parts. Some ((par.var, v) ∷ parts.0, parts.1)) further.gives;
        fit = value v no_list (valued e par.kind v m kind ended) further.fit;
        rest = further.rest;
        hands = further.hands;
        ascending = further.ascending;
        fits = further.fits;
        sum = further.sum;
      }
  values-given {j} vs held h valued
      (passes.value {args = args} {par = par} {pars = pars} (passes.list {w = w} amount its_amount there) others)
      is ascending within fits =
      let its_type : ListType = record { kind = par.kind; amount = dths a.annotations amount } in
      let (l, found, is_list) = paired-left its_type (fits w.0) there in
      let first : PassesValue a.program a.annotations j (arg.List w) par (record j { lists = unbind w.0 j.lists }) =
      passes.list amount its_amount there
      in
      let further = values-given vs (unbind w.0 held) (passes-value_left h first).judgement valued others is
      (unbind-ascending w.0 held ascending) (unbound-within w.0 held p.lists ascending within)
      (paired-unbind w.0 held j.lists ascending h.lists_ascend fits)
      in
      let without = sum-after_unbind carries w.0 held in
      let one : sum_by carries (option_to_list (bound_to w.0 held)) ≡ carries l =
      ap (λ (o : Option PotentialList). sum_by carries (option_to_list o)) found ∙ (omega arith)
      in
      record {
        values = further.values;
        its_lists = (par.var, l) ∷ further.its_lists;
        gives = gives-list vs w args par pars l further.values further.its_lists (within w.0 l found) further.gives;
        fit = list l amount its_amount is_list further.fit;
        rest = further.rest;
        hands = λ q same.
            further.hands (list_used_up w q) (ap (λ (b : List (VarId × PotentialList)). unbind w.0 b) same);
        ascending = further.ascending;
        fits = further.fits;
        sum = omega (
          arith,
          further.sum,
          without,
          one,
          sum_by-cons (λ (d : VarId × PotentialList). carries d.1) (par.var, l) further.its_lists,
        );
      }

  -- ---- channels

  abbrev Names : Type 0
  Names = List (VarId × ℕ)

  abbrev pub Bound : ℕ → TypeId → Type 0
  Bound name t = NameHasType a.program a.annotations s.types name t

  abbrev with_name_given : VarId × TypeId → Option Names → ℕ → Option Names
  with_name_given par others name = others >>= λ names. Some ((par.0, name) ∷ names)

  gives-name : (v : VarId) (vs : List VarId) (par : VarId × TypeId) (pars : List (VarId × TypeId)) (name : ℕ)
      (names : Names) → bound_to v.0 p.channels ≡ Some name → give_names p vs pars ≡ Some names
      → give_names p (v ∷ vs) (par ∷ pars) ≡ Some ((par.0, name) ∷ names)
  gives-name v vs par pars name names found gives =
      ap (λ (o : Option ℕ). o >>= with_name_given par (give_names p vs pars)) found
      ∙ ap (λ (o : Option Names). with_name_given par o name) gives

  -- a reference stays, and every other channel goes
  hands-over : (v : VarId) (q : Process) (name : ℕ) (b : Bool) → bound_to v.0 q.channels ≡ Some name
      → is_shared_name a.program s.types name ≡ b → hands_over a s p v q ≡ unless_shared a s p v (Some b) q
  hands-over v q name b found shows =
      ap (λ (o : Option ℕ). unless_shared a s p v (option_map (is_shared_name a.program s.types) o) q) found
      ∙ ap (λ (c : Bool). unless_shared a s p v (Some c) q) shows

  count-more : (name k : ℕ) (v : VarId) (names : Names)
      → times_bound name ((v, k) ∷ names) ≡ count_of name (k ∷ []) + times_bound name names
  count-more name k v names =
      omega (arith, sum_by-cons (one_at name) k (map (λ (e : VarId × ℕ). e.1) names), sum_by-cons (one_at name) k [])

  module _ (accepted : IsAccepted a) where
    -- a name that stands for a reference is shared, and one that stands for another channel is not
    pub reference-shown : (name : ℕ) (own : TypeId) → Bound name own → HasMode a.program own mode.S
        → is_shared_name a.program s.types name ≡ true
    reference-shown name own has at_s =
        let same = mode-unique accepted.typed.formed.program has.alike.right_mode at_s in
        shared-shown accepted s.types name has.own has.found
        (subst (λ (m : Mode). HasMode a.program has.own m) same has.alike.left_mode)

    linear-shown : (name : ℕ) (own : TypeId) (m : Mode) → Bound name own → HasMode a.program own m → IsLinearMode m
        → is_shared_name a.program s.types name ≡ false
    linear-shown name own m has at linear =
        let same = mode-unique accepted.typed.formed.program has.alike.right_mode at in
        unshared-shown accepted s.types name has.own has.alike.mode has.found has.alike.left_mode
        (λ at_s. not-shared m linear (sym same ∙ at_s))
      where
        not-shared : (m : Mode) → IsLinearMode m → m ≢ mode.S
        not-shared m (inl at_r) at_s = absurd cc
        not-shared m (inr at_l) at_s = absurd cc

    pub bound-alike : (name : ℕ) (own t : TypeId) → Bound name own → AlikeTypes a.program a.annotations own t
        → Bound name t
    bound-alike name own t has alike = record {
      own = has.own;
      found = has.found;
      alike = alike_types-through accepted.typed.formed.program has.alike alike;
    }

    -- what one argument gives, and what is left
    record NameGiven (v : VarId) (t : TypeId) (held : Names) (k : Judgement) : Type 0 where
      name : ℕ
      found : bound_to v.0 held ≡ Some name
      fits : Bound name t
      rest : Names
      hands : (q : Process) → q.channels ≡ held → hands_over a s p v q ≡ record q { channels = rest }
      ascending : IsAscending rest
      within : Within rest held
      holds : HoldsChannels Bound rest k.shared k.linear
      uses : (other : ℕ) → is_shared_name a.program s.types other ≡ false
          → times_bound other rest + count_of other (name ∷ []) ≡ times_bound other held

    name-given : {j : Judgement} {v : VarId} {t : TypeId} {k : Judgement} (held : Names) → IsJudgement a.program j
        → PassesChannel a.program a.annotations j v t k → IsAscending held → HoldsChannels Bound held j.shared j.linear
        → NameGiven v t held k
    name-given {j} {v} {t} held h (passes.shared own there alike) ascending holds =
        let held_there : option_or (bound_to v.0 j.shared) (bound_to v.0 j.linear) ≡ Some own =
        ap (λ (o : Option TypeId). option_or o (bound_to v.0 j.linear)) there
        in
        let (name, found, has) = paired-left own (holds v.0) held_there in
        let at_s = all-bound (λ t. HasMode a.program t mode.S) v.0 own j.shared h.shared_modes there in
        let shows = reference-shown name own has at_s in
        record {
          name = name;
          found = found;
          fits = bound-alike name own t has alike;
          rest = held;
          hands = λ q same.
              hands-over v q name true (ap (bound_to v.0) same ∙ found) shows
              ∙ ap (λ (b : Names). record q { channels = b }) same;
          ascending = ascending;
          within = λ w x there. there;
          holds = holds;
          uses = λ other unshared.
              let apart : name ≢ other = λ same.
              differ (sym shows ∙ ap (is_shared_name a.program s.types) same ∙ unshared)
              in
              omega (arith, count-elsewhere other name [] (ne_eqb name other apart));
        }
      where
        differ : true ≡ false → ⊥
        differ equal = cc
    name-given {j} {v} {t} held h (passes.linear own no_reference there alike) ascending holds =
        let held_there : option_or (bound_to v.0 j.shared) (bound_to v.0 j.linear) ≡ Some own =
        ap (λ (o : Option TypeId). option_or o (bound_to v.0 j.linear)) no_reference ∙ there
        in
        let (name, found, has) = paired-left own (holds v.0) held_there in
        let (m, at, linear) =
        all-bound (λ t. (m : Mode) × HasMode a.program t m × IsLinearMode m) v.0 own j.linear h.linear_modes there
        in
        let shows = linear-shown name own m has at linear in
        record {
          name = name;
          found = found;
          fits = bound-alike name own t has alike;
          rest = unbind v.0 held;
          hands = λ q same.
              hands-over v q name false (ap (bound_to v.0) same ∙ found) shows
              ∙ ap (λ (b : Names). record q { channels = unbind v.0 b }) same;
          ascending = unbind-ascending v.0 held ascending;
          within = unbound-within v.0 held held ascending (λ w x there. there);
          holds = holds-fewer held j.shared j.linear v no_reference ascending h.linear holds;
          uses = λ other unshared.
              let one : count_of other (option_to_list (bound_to v.0 held)) ≡ count_of other (name ∷ []) =
              ap (λ (o : Option ℕ). count_of other (option_to_list o)) found
              in
              omega (arith, count-after_unbind other v.0 held, one);
        }

    pub names-given : {j left : Judgement} {vs : List VarId} {pars : List (VarId × TypeId)} (held : Names)
        → IsJudgement a.program j → PassesChannels a.program a.annotations j vs pars left → IsAscending held
        → Within held p.channels → HoldsChannels Bound held j.shared j.linear
        → NamesGiven vs pars held left.shared left.linear
    names-given held h passes.none ascending within holds = record {
      names = [];
      gives = refl;
      fit = pairs.none;
      rest = held;
      hands = λ q same. ap (λ (b : Names). record q { channels = b }) same;
      ascending = ascending;
      holds = holds;
      uses = λ name unshared. omega arith;
    }
    names-given {j} held h (passes.channel {k = k} {v = v} {vs = vs} {par = par} {pars = pars} first others) ascending
        within holds =
        let one = name-given held h first ascending holds in
        let further = names-given one.rest (passes-channel_left h first).judgement others one.ascending
        (λ w x there. within w x (one.within w x there)) one.holds
        in
        record {
          names = (par.0, one.name) ∷ further.names;
          gives = gives-name v vs par pars one.name further.names (within v.0 one.name one.found) further.gives;
          fit = pairs.pair par.0 one.fits further.fit;
          rest = further.rest;
          hands = λ q same.
              ap (hands_over_all a s p vs) (one.hands q same) ∙ further.hands (record q { channels = one.rest }) refl;
          ascending = further.ascending;
          holds = further.holds;
          uses = λ other unshared.
              let more = count-more other one.name par.0 further.names in
              omega (arith, further.uses other unshared, more, one.uses other unshared);
        }
