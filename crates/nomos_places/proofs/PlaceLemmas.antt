-- What is in hand along a declaration is what typing says there under the amounts that were accepted.
use Rattle.std.proofs.Common.{◌≡◌, ◌<◌, ◌≤◌, ◌-◌, ◌^◌, ℕ, List, [], ◌∷◌, Bool, All, Contains, Some, length, get_or, slice_get, ap, ap₂, refl, sym, subst, ◌∙◌, arith, ℤ, pos, ◌-ℤ◌, unsigned_abs}
use Rattle.std.proofs.lemmas.Int.{ints}
use Rattle.std.proofs.lemmas.List.{get_or-map, length-map}
use Rattle.std.proofs.lemmas.List.Elements.{All-head, All-tail}
use Rattle.nomos_check.proofs.AmountLaws.{program-amount, reached-amounts, start-amounts}
use Rattle.nomos_check.proofs.FormLaws.{HasStarsUpTo, form-worth}
use Rattle.nomos_check.proofs.SizeLaws.{account-is_form, reached-count, start-count}
use Rattle.nomos_check.proofs.StarLaws.{reached-stars, start-stars}
use Rattle.nomos_check.proofs.UnderAmountsLaws.{FollowsUnder, follows-gets, gets-follows, start-under}
use Rattle.nomos_check.specs.Account.{Account, form_of, worth_of}
use Rattle.nomos_check.specs.InHand.{ArePotentials, AreWanted, HasInHand, IsGotTo, IsWanted, list_in_hand}
use Rattle.nomos_check.specs.Reaching.{GetsTo, outset_of}
use Rattle.nomos_check.specs.UnderAmounts.{StandsUnder, carried_in, without_amounts, worth_in}
use Rattle.nomos_check.specs.declared.standing.Carried.{Carried}
use Rattle.nomos_check.specs.declared.standing.Standing.{Standing}
use Rattle.nomos_forms.specs.Bounds.{HasStarUpTo, IsForm, IsFound}
use Rattle.nomos_forms.specs.Linear.{form_value}
use Rattle.nomos_forms.specs.declared.form.Form.{Form}
use Rattle.nomos_forms.specs.declared.found.Found.{Found}
use Rattle.nomos_ir.proofs.NodeLaws.{All-at}
use Rattle.nomos_ir.specs.Amounts.{IsAmount, amounts_of, most_star, star_count}
use Rattle.nomos_ir.specs.Bindings.{each_bound}
use Rattle.nomos_ir.specs.declared.amount.Amount.{Amount}
use Rattle.nomos_ir.specs.declared.amount.Amount.TheVariants as amount
use Rattle.nomos_ir.specs.declared.declaration.ProcDecl.{ProcDecl}
use Rattle.nomos_ir.specs.declared.ids.CodeId.{CodeId}
use Rattle.nomos_ir.specs.declared.ids.VarId.{VarId}
use Rattle.nomos_ir.specs.declared.lists.ProgramLists.{ProgramLists}
use Rattle.nomos_types.proofs.FollowingLaws.{one-judgement}
use Rattle.nomos_types.proofs.StartLaws.{start-is_judgement}
use Rattle.nomos_types.specs.Acceptance.{Acceptance, IsAccepted, IsAmountOf}
use Rattle.nomos_types.specs.Amount.{Annotations, dths}
use Rattle.nomos_types.specs.Derivation.{Derives, Follows}
use Rattle.nomos_types.specs.Judgement.{Judgement, ListType, start_of}
use Rattle.nomos_places.specs.WantedPlaces.{Describes, StandsIn, list_type}
use Rattle.nomos_places.specs.mirror.AlongCode.{IsInHand, IsWhereOneStands}
use Rattle.nomos_places.specs.mirror.Making.{HasProgramAmounts, held, place_under}
use Rattle.nomos_places.specs.mirror.Noting.{potential_in}

-- ---- lists

-- lists with these variables and kinds, that carry what these amounts are worth
told-lists : (x : Annotations) (ks : List (VarId × ListType)) (cs : List (VarId × Carried))
    → without_amounts ks ≡ each_bound list_in_hand cs
    → carried_in ks ≡ worth_in x (each_bound (λ (c : Carried). c.amount) cs)
    → ks ≡ each_bound list_type (each_bound (held x) cs)
told-lists x [] [] shapes worth = refl
told-lists x [] (c ∷ cs) shapes worth = absurd cc
told-lists x (k ∷ ks) [] shapes worth = absurd cc
told-lists x (k ∷ ks) (c ∷ cs) shapes worth =
    let first : ◌≡◌ {A = VarId × ListType} (k.0, record { kind = k.1.kind; amount = 0 }) (c.0, list_in_hand c.1) = cc in
    let others : without_amounts ks ≡ each_bound list_in_hand cs = cc in
    let own : ◌≡◌ {A = VarId × ℕ} (k.0, k.1.amount) (c.0, dths x c.1.amount) = cc in
    let rest : carried_in ks ≡ worth_in x (each_bound (λ (d : Carried). d.amount) cs) = cc in
    let variable : k.0 ≡ c.0 = ap (λ (b : VarId × ListType). b.0) first in
    let kind : k.1.kind ≡ c.1.kind = ap (λ (b : VarId × ListType). b.1.kind) first in
    let amount : k.1.amount ≡ dths x c.1.amount = ap (λ (b : VarId × ℕ). b.1) own in
    let head : k ≡ (c.0, list_type (held x c.1)) =
    (λ i. (variable i, record { kind = kind i; amount = amount i })) in
    ap₂ ◌∷◌ head (told-lists x ks cs others rest)

-- ---- what is in hand, under amounts

under-describes : (x : Annotations) (n : ℕ) (s : Standing) (k j : Judgement) (a : Account) → StandsUnder x k j a
    → HasInHand n s j a → (least : ℕ) → Describes k (place_under x s least)
under-describes x n s k j a under has least =
    let same = under.ignored ∙ has.judgement in
    let worth = under.carried ∙ ap (worth_in x) has.amounts in
    record {
      code = ap (λ (i : Judgement). i.code) same;
      mode = ap (λ (i : Judgement). i.mode) same;
      offers = ap (λ (i : Judgement). i.offers) same;
      kinds = ap (λ (i : Judgement). i.kinds) same;
      lists = told-lists x k.lists s.lists (ap (λ (i : Judgement). i.lists) same) worth;
      shared = ap (λ (i : Judgement). i.shared) same;
      linear = ap (λ (i : Judgement). i.linear) same;
    }

star-amount : (lists : ProgramLists) (r : Amount) → HasStarUpTo (star_count lists) r → IsAmountOf lists r
star-amount lists (amount.Written units) low = tt
star-amount lists (amount.Star star) low = low

-- ---- the amounts that were accepted

-- the star numbers of amounts such as a program has are at most 64
few-stars : (amounts : List Amount) → All IsAmount amounts → most_star amounts ≤ 64
few-stars [] small = omega arith
few-stars (amount.Written units ∷ rest) small =
    let others = few-stars rest (All-tail IsAmount (amount.Written units) rest small) in
    omega arith
few-stars (amount.Star star ∷ rest) small =
    let others = few-stars rest (All-tail IsAmount (amount.Star star) rest small) in
    let first = All-head IsAmount (amount.Star star) rest small in
    omega (arith, first.1)

module _ {a : Acceptance} (accepted : IsAccepted a) (amounts : Found)
    (stars : amounts.stars ≡ a.annotations.stars) where
  pub found-few : length amounts.stars ≤ 64
  found-few =
      let few = few-stars (amounts_of a.program) accepted.is_program.amounts in
      let width = accepted.each_star in
      let long : length amounts.stars ≡ length a.annotations.stars = ap length stars in
      omega (arith, few, width, long)

  pub is-found : amounts.unit ≡ a.annotations.unit → IsFound (length amounts.stars) amounts
  is-found unit = record {
    width = refl;
    amounts = subst (λ (xs : List ℕ). All (λ (x : ℕ). x < 2 ^ 62) xs) (sym stars) accepted.small_stars;
    unit = let some = accepted.some_unit in omega (arith, unit, some);
  }

-- what is left of what was gained
left-abs : (value : ℤ) (gained spent : ℕ) → value ≡ pos gained -ℤ pos spent → spent ≤ gained
    → unsigned_abs value ≡ gained - spent
left-abs value gained spent is enough = omega (arith, ints)

-- what is told of a form: the judgement that stands there, with its potential
pub record IsToldForm (a : Acceptance) (amounts : Found) (e : CodeId × Form) : Type 0 where
  pub judgement : Judgement
  pub stands : StandsIn a judgement
  pub at : judgement.code ≡ e.0
  pub potential : potential_in amounts e.1 ≡ judgement.q
  pub small : IsForm (length amounts.stars) e.1

module _ {a : Acceptance} (accepted : IsAccepted a) (p : ℕ) (d : ProcDecl)
    (declared : slice_get a.program.procs p ≡ Some d) where
  abbrev n : ℕ
  n = star_count a.program

  abbrev IsHere : Standing → Type 0
  IsHere s = IsGotTo a.program n (outset_of a.program d) s

  derivation : Derives a.program a.annotations (start_of a.program a.annotations d)
  derivation = All-at (λ (e : ProcDecl). Derives a.program a.annotations (start_of a.program a.annotations e))
      a.program.procs p d accepted.typed.procs declared

  -- what follows from the start stands in the program
  pub follows-stands : (j : Judgement) → Follows a.program a.annotations (start_of a.program a.annotations d) j
      → StandsIn a j
  follows-stands j follows = record { number = p; declaration = d; declared = declared; follows = follows }

  -- what the process gets to follows under the amounts
  under-there : (j : Judgement) (account : Account) → GetsTo a.program (outset_of a.program d) j account
      → FollowsUnder a.program a.annotations (start_of a.program a.annotations d) j account
  under-there j account reached =
      gets-follows accepted.typed.formed (start-is_judgement a.annotations p accepted.typed.formed declared)
      (start-under a.program a.annotations d) derivation j account reached

  stars-there : (j : Judgement) (account : Account) → GetsTo a.program (outset_of a.program d) j account
      → HasStarsUpTo n account
  stars-there j account reached =
      reached-stars accepted.is_program (omega arith) (start-stars p d accepted.is_program declared) j account reached

  -- ---- standings

  -- its lists carry amounts of the program
  here-amounts : (s : Standing) → IsHere s → HasProgramAmounts a.program s
  here-amounts s got =
      let lists = a.program in
      let stars : HasStarsUpTo n got.account = stars-there got.judgement got.account got.reached in
      let P : VarId × Amount → Type 0 = λ b. HasStarUpTo n b.1 in
      let carried = subst (All P) got.has.amounts stars.lists in
      λ k e inside.
      star-amount lists _ (at-list k e inside carried)
    where
      at-list : (k : ℕ) (e : VarId × Carried) → k < length s.lists
          → All (λ (b : VarId × Amount). HasStarUpTo n b.1) (each_bound (λ (c : Carried). c.amount) s.lists)
          → HasStarUpTo n (get_or s.lists k e).1.amount
      at-list k e inside all =
          let f : VarId × Carried → VarId × Amount = λ b. (b.0, b.1.amount) in
          let here = all k (f e) (rw length-map inside) in
          subst (λ (b : VarId × Amount). HasStarUpTo n b.1) (get_or-map f s.lists k e (f e) inside) here

  -- what is in hand there is what typing says
  pub here-stands : (s : Standing) → IsHere s → IsWhereOneStands a s
  here-stands s got =
      let under = under-there got.judgement got.account got.reached in
      record {
        judgement = under.judgement;
        stands = follows-stands under.judgement under.follows;
        has = under-describes a.annotations n s under.judgement got.judgement got.account under.under got.has;
        amounts = here-amounts s got;
      }

  -- what typing says is in hand there
  pub there-in_hand : (wanted : List Bool) (found : List Standing)
      → AreWanted a.program n (outset_of a.program d) wanted found
      → (j : Judgement) → Follows a.program a.annotations (start_of a.program a.annotations d) j
      → IsWanted wanted j.code.0 → IsInHand a found j
  there-in_hand wanted found are j follows here =
      let gets = follows-gets accepted.typed.formed
      (start-is_judgement a.annotations p accepted.typed.formed declared)
      (start-under a.program a.annotations d) j follows in
      let at : j.code ≡ gets.judgement.code = ap (λ (i : Judgement). i.code) gets.under.ignored in
      let there = are.each gets.judgement gets.account gets.reached
      (subst (λ (c : CodeId). IsWanted wanted c.0) at here) in
      record {
        standing = there.standing;
        among = there.among;
        has =
            under-describes a.annotations n there.standing j gets.judgement gets.account gets.under there.has;
      }

  -- ---- potentials

  module _ (amounts : Found) (stars : amounts.stars ≡ a.annotations.stars) (unit : amounts.unit ≡ a.annotations.unit)
    where
      -- the form of an account comes to what is left
      form-left : (j k : Judgement) (account : Account) → GetsTo a.program (outset_of a.program d) j account
          → StandsUnder a.annotations k j account → potential_in amounts (form_of n account) ≡ k.q
      form-left j k account reached under =
          let x = a.annotations in
          let worth = form-worth x n account accepted.each_star (stars-there j account reached) in
          let same : form_value amounts.stars amounts.unit (form_of n account)
          ≡ form_value x.stars x.unit (form_of n account) =
          (λ i. form_value (stars i) (unit i) (form_of n account)) in
          left-abs (form_value amounts.stars amounts.unit (form_of n account)) (worth_of x account.gained)
          (worth_of x account.spent) (same ∙ worth) under.afforded
          ∙ sym under.potential

      -- the form of an account has small numbers
      form-small : (j : Judgement) (account : Account) → GetsTo a.program (outset_of a.program d) j account
          → IsForm (length amounts.stars) (form_of n account)
      form-small j account reached =
          let formed = accepted.typed.formed in
          let known = program-amount formed.program in
          let small_amounts = reached-amounts a.program IsAmount known
          (start-amounts a.program IsAmount known p d declared) j account reached in
          let count = reached-count formed (start-count p formed declared) j account reached in
          let small = formed.program.size.code in
          let width : n ≡ length amounts.stars = sym (ap length stars ∙ accepted.each_star) in
          subst (λ (m : ℕ). IsForm m (form_of n account)) width
          (account-is_form n account small_amounts (omega (arith, count, small)))

      module _ (below : ℕ) (forms : List (CodeId × Form))
          (are : ArePotentials a.program n (outset_of a.program d) below forms) where
        pub told-form : (e : CodeId × Form) → Contains forms e → IsToldForm a amounts e
        told-form e among =
            let at = are.only e among in
            let under = under-there at.judgement at.account at.reached in
            let ignored : under.judgement.code ≡ at.judgement.code =
            ap (λ (i : Judgement). i.code) under.under.ignored in
            record {
              judgement = under.judgement;
              stands = follows-stands under.judgement under.follows;
              at = ignored ∙ at.at;
              potential =
                  ap (potential_in amounts) at.is
                  ∙ form-left at.judgement under.judgement at.account at.reached under.under;
              small = subst (IsForm (length amounts.stars)) (sym at.is) (form-small at.judgement at.account at.reached);
            }

        -- all that is told at the place of a judgement is its potential
        pub told-only : (k : Judgement) → StandsIn a k → (e : CodeId × Form) → Contains forms e → e.0.0 ≡ k.code.0
            → potential_in amounts e.1 ≡ k.q
        told-only k stands e among here =
            let told = told-form e among in
            let code : e.0 ≡ k.code = (λ i. record { 0 = here i }) in
            let one : told.judgement ≡ k =
            one-judgement accepted.is_program told.stands stands (told.at ∙ code) in
            told.potential ∙ ap (λ (i : Judgement). i.q) one

        -- and the potential of what follows from the start is told
        pub told-there : (k : Judgement) → Follows a.program a.annotations (start_of a.program a.annotations d) k
            → k.code.0 < below → (e : CodeId × Form) × Contains forms e × (e.0.0 ≡ k.code.0)
        told-there k follows low =
            let gets = follows-gets accepted.typed.formed
            (start-is_judgement a.annotations p accepted.typed.formed declared)
            (start-under a.program a.annotations d) k follows in
            let at : k.code ≡ gets.judgement.code = ap (λ (i : Judgement). i.code) gets.under.ignored in
            let number : k.code.0 ≡ gets.judgement.code.0 = ap (λ (c : CodeId). c.0) at in (
              (gets.judgement.code, form_of n gets.account),
              are.each gets.judgement gets.account gets.reached (omega (arith, number, low)),
              sym number,
            )
