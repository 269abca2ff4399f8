-- Under amounts, what follows from any judgement stands where the process gets to: its potential and its lists are what
-- the account there is worth.
use Rattle.std.proofs.Common.{◌≡◌, ◌+◌, ◌-◌, ℕ, suc, List, [], ◌∷◌, ◌++◌, map, length, get_or, refl, ap, sym, subst, ◌∙◌, arith}
use Rattle.std.proofs.lemmas.List.{append_assoc, get_or_append_left, get_or-append-add, length-append}
use Rattle.std.proofs.lemmas.List.Sums.{sum_by-cons}
use Rattle.std.specs.List.Sorted.{IsStrictlySortedBy}
use Rattle.std.specs.Map.{keys_of}
use Rattle.nomos_ir.specs.declared.amount.Amount.{Amount}
use Rattle.nomos_ir.specs.declared.amount.Amount.TheVariants as amount
use Rattle.nomos_ir.specs.declared.declaration.ProcDecl.{ProcDecl}
use Rattle.nomos_ir.specs.declared.ids.VarId.{VarId}
use Rattle.nomos_ir.specs.declared.kind.Kind.{Kind}
use Rattle.nomos_ir.specs.declared.lists.ProgramLists.{ProgramLists}
use Rattle.nomos_ir.specs.Bindings.{by_number}
use Rattle.nomos_forms.specs.Bounds.{HasStarUpTo}
use Rattle.nomos_types.proofs.EqualityLaws.{no_dths}
use Rattle.nomos_types.specs.Amount.{Annotations, dths}
use Rattle.nomos_types.specs.Derivation.{Derives, Follows}
use Rattle.nomos_types.specs.Equality.{no_amounts}
use Rattle.nomos_types.specs.Judgement.{Judgement, ListType, IsJudgement, start_of}
use Rattle.nomos_types.specs.TypingRule.{TypingRule}
use Rattle.nomos_types.specs.Typed.{IsWellFormed}
use Rattle.nomos_types.proofs.RowLaws.{row-at}
use Rattle.nomos_check.specs.Account.{Account}
use Rattle.nomos_check.specs.Reaching.{Outset, outset_of, GetsTo}
use Rattle.nomos_check.specs.Reaching as reaching
use Rattle.nomos_check.specs.UnderAmounts.{without_amounts, ignoring, carried_in, worth_in, StandsUnder, with_stars, account_beyond, amounts_beyond}
use Rattle.nomos_check.proofs.AccountsLaws.{DerivesByAccounts, reached-under, rows-law-from}
use Rattle.nomos_check.proofs.Beside.{Beside, changed, along, behind, stands, second-beside, beside-back, each-back}
use Rattle.nomos_check.proofs.BesideRows.{row-carried}
use Rattle.nomos_check.proofs.Carrying.{no-worth, no-needs, start-beside, next-is_judgement}
use Rattle.nomos_check.proofs.ListAmounts.{CarryBoth, none, list, list_at, counted-both, keys-both, both-back}
use Rattle.nomos_check.proofs.ReachingLaws.{HasItsAccount, reaches-unique}
use Rattle.nomos_check.proofs.RowMaking.{row-made}

-- ---- lists

-- a list whose elements carry so many Dths
abbrev list_with : Kind → ℕ → ListType
list_with kind worth = record { kind = kind; amount = worth }

module _ {x : Annotations} where
  -- where amounts are ignored on the second side, its lists are those of the first without theirs
  both-ignored : {ls ms : List (VarId × ListType)} {rs : List (VarId × Amount)} → CarryBoth x no_amounts ls ms rs
      → without_amounts ls ≡ ms
  both-ignored none = refl
  both-ignored (list {ls} {ms} v kind r rest) =
      ap (λ (worth : ℕ). (v, list_with kind worth) ∷ without_amounts ls) (sym (no_dths r))
      ∙ ap (λ (l : List (VarId × ListType)). (v, list_at no_amounts kind r) ∷ l) (both-ignored rest)

  -- the lists of the first side carry what the account's are worth
  both-carried : {y : Annotations} {ls ms : List (VarId × ListType)} {rs : List (VarId × Amount)}
      → CarryBoth x y ls ms rs → carried_in ls ≡ worth_in x rs
  both-carried none = refl
  both-carried (list v kind r rest) =
      ap (λ (l : List (VarId × ℕ)). (v, dths x r) ∷ l) (both-carried rest)

  -- and the other way
  carried-both : (ls : List (VarId × ListType)) (rs : List (VarId × Amount)) → carried_in ls ≡ worth_in x rs
      → CarryBoth x no_amounts ls (without_amounts ls) rs
  carried-both [] [] same = none
  carried-both [] (r ∷ rs) same = absurd cc
  carried-both (l ∷ ls) [] same = absurd cc
  carried-both (l ∷ ls) (r ∷ rs) same =
      let first : ◌≡◌ {A = VarId × ℕ} (l.0, l.1.amount) (r.0, dths x r.1) = cc in
      let rest : carried_in ls ≡ worth_in x rs = cc in
      let variable : l.0 ≡ r.0 = ap (λ (b : VarId × ℕ). b.0) first in
      let worth : l.1.amount ≡ dths x r.1 = ap (λ (b : VarId × ℕ). b.1) first in
      let Both : ℕ → ℕ → VarId → Type 0 =
      λ q z v. CarryBoth x no_amounts ((l.0, list_with l.1.kind q) ∷ ls)
      ((l.0, list_with l.1.kind z) ∷ without_amounts ls) ((v, r.1) ∷ rs)
      in
      let base : Both (dths x r.1) (dths no_amounts r.1) l.0 = list l.0 l.1.kind r.1 (carried-both ls rs rest) in
      subst (Both l.1.amount 0) variable
      (subst (λ (z : ℕ). Both l.1.amount z l.0) (no_dths r.1)
      (subst (λ (q : ℕ). Both q (dths no_amounts r.1) l.0) (sym worth) base))

  -- ---- judgements

  -- a judgement that stands beside one where amounts are ignored stands there under its amounts
  pub beside-under : {k j : Judgement} {a : Account} → Beside x no_amounts k j a → StandsUnder x k j a
  beside-under {k} {j} {a} beside =
      let none_left : 0 ≡ j.q = omega (arith, beside.right, no-worth a.spent, no-worth a.gained) in
      record {
        ignored = ap (λ (ls : List (VarId × ListType)). changed k ls 0) (both-ignored beside.lists)
            ∙ ap (λ (q : ℕ). changed k j.lists q) none_left
            ∙ sym beside.same;
        afforded = omega (arith, beside.left);
        potential = omega (arith, beside.left);
        carried = both-carried beside.lists;
      }

  -- and the other way
  pub under-beside : {k j : Judgement} {a : Account} → StandsUnder x k j a → Beside x no_amounts k j a
  under-beside {k} {j} {a} under =
      let both = carried-both k.lists a.lists under.carried in
      let base : Beside x no_amounts k (ignoring k) a = record {
        same = refl;
        lists = both;
        left = omega (arith, under.potential, under.afforded);
        right = omega (arith, no-worth a.spent, no-worth a.gained);
      } in
      subst (λ (s : Judgement). Beside x no_amounts k s a) under.ignored base

-- what stands beside a judgement is one
pub beside-is_judgement : {lists : ProgramLists} {x y : Annotations} {j k : Judgement} {a : Account} → Beside x y j k a
    → IsJudgement lists j → IsJudgement lists k
beside-is_judgement {lists} {j = j} {k} beside is =
    let variables : keys_of j.lists ≡ keys_of k.lists =
    keys-both beside.lists ∙ sym (keys-both (both-back beside.lists)) in
    along beside (IsJudgement lists) (record {
      kinds = is.kinds;
      lists_ascend = subst (IsStrictlySortedBy by_number) variables is.lists_ascend;
      shared = is.shared;
      linear = is.linear;
      apart = λ v. omega (arith, is.apart v, counted-both v beside.lists);
      shared_modes = is.shared_modes;
      linear_modes = is.linear_modes;
    })

-- ---- places

-- The process gets to where the judgement stands under the amounts.
pub record GetsUnder (lists : ProgramLists) (x : Annotations) (o : Outset) (k : Judgement) : Type 0 where
  pub judgement : Judgement
  pub account : Account
  pub reached : GetsTo lists o judgement account
  pub under : StandsUnder x k judgement account

-- A judgement follows under the amounts, has a derivation, and stands where the process gets to.
pub record FollowsUnder (lists : ProgramLists) (x : Annotations) (first j : Judgement) (a : Account) : Type 0 where
  pub judgement : Judgement
  pub follows : Follows lists x first judgement
  pub derives : Derives lists x judgement
  pub under : StandsUnder x judgement j a

-- A judgement that follows under the amounts, beside the one to which the process gets.
record FollowedBeside (lists : ProgramLists) (x : Annotations) (o : Outset) (k : Judgement) : Type 0 where
  judgement : Judgement
  account : Account
  reached : GetsTo lists o judgement account
  own : IsJudgement lists k
  beside : Beside x no_amounts k judgement account

module _ {lists : ProgramLists} {x : Annotations} {o : Outset} {first : Judgement} (formed : IsWellFormed lists)
    (own : IsJudgement lists first) (begins : StandsUnder x first o.judgement o.account) where
  beside-first : Beside x no_amounts first o.judgement o.account
  beside-first = under-beside begins

  other : IsJudgement lists o.judgement
  other = beside-is_judgement beside-first own

  followed-beside : (k : Judgement) → Follows lists x first k → FollowedBeside lists x o k
  followed-beside _ Follows.first =
      record {
        judgement = o.judgement;
        account = o.account;
        reached = reaching.start;
        own = own;
        beside = beside-first;
      }
  followed-beside k (Follows.next {j} after before row among) =
      let f = followed-beside j before in
      let (n, there, says) = row-at row in
      let carried = row-carried n f.own f.beside there says (no-needs j f.account n after) in
      let there_too = stands f.beside lists n there in
      let made : TypingRule lists no_amounts f.judgement carried.later = row-made n there_too carried.row in
      let b = behind k (each-back carried.each) among in
      record {
        judgement = b.judgement;
        account = b.account;
        reached = reaching.next n carried.later f.reached there_too made b.paired;
        own = next-is_judgement formed f.own row among;
        beside = beside-back b.beside;
      }

  -- what follows under the amounts stands where the process gets to
  pub follows-gets : (k : Judgement) → Follows lists x first k → GetsUnder lists x o k
  follows-gets k follows =
      let f = followed-beside k follows in
      record {
        judgement = f.judgement;
        account = f.account;
        reached = f.reached;
        under = beside-under f.beside;
      }

  -- where the process gets to, a judgement follows, if the first one has a derivation
  pub gets-follows : Derives lists x first → (j : Judgement) (a : Account) → GetsTo lists o j a
      → FollowsUnder lists x first j a
  gets-follows derivation j a reached =
      let r = reached-under formed own other beside-first j a derivation reached in
      record {
        judgement = r.judgement;
        follows = r.follows;
        derives = r.derives;
        under = beside-under r.beside;
      }

  -- at one place of the code the judgement that follows stands where the process gets to, whatever it gets to there
  pub under-there : (k j : Judgement) (a : Account) → Follows lists x first k → GetsTo lists o j a → k.code ≡ j.code
      → StandsUnder x k j a
  under-there k j a follows reached same =
      let g = follows-gets k follows in
      let begins_too : HasItsAccount lists o.judgement o.account =
      record { judgement = other; beside = second-beside beside-first } in
      let at : g.judgement.code ≡ j.code = ap (λ (s : Judgement). s.code) (sym g.under.ignored) ∙ same in
      let (judgements, accounts) = reaches-unique formed begins_too g.judgement j g.account a g.reached reached at in
      subst (λ (s : Judgement). StandsUnder x k s a) judgements
      (subst (λ (b : Account). StandsUnder x k g.judgement b) accounts g.under)

  -- the law of rows over accounts, from any judgement
  pub rows-law-under : DerivesByAccounts lists x first o
  rows-law-under = rows-law-from formed own other beside-first

-- the start of a declaration stands there under all amounts
pub start-under : (lists : ProgramLists) (x : Annotations) (d : ProcDecl)
    → StandsUnder x (start_of lists x d) (outset_of lists d).judgement (outset_of lists d).account
start-under lists x d = beside-under (start-beside lists x no_amounts d)

-- ---- any judgement

-- lists with stars carry what these are worth
stars-carried : (y : Annotations) (xs : List ℕ) (ls : List (VarId × ListType)) (n : ℕ) → length xs ≡ n
    → y.stars ≡ xs ++ map (λ b. b.1.amount) ls → carried_in ls ≡ worth_in y (with_stars (suc n) ls)
stars-carried y xs [] n width is = refl
stars-carried y xs (l ∷ ls) n width is =
    let amounts : List ℕ = map (λ (b : VarId × ListType). b.1.amount) ls in
    let first : dths y (amount.Star (suc n)) ≡ l.1.amount =
    ap (λ (m : ℕ). get_or y.stars m 0) (omega (arith, width))
    ∙ ap (λ (s : List ℕ). get_or s (length xs + 0) 0) is
    ∙ get_or-append-add xs (l.1.amount ∷ amounts) 0 0 in
    let more : length (xs ++ l.1.amount ∷ []) ≡ suc n = length-append xs (l.1.amount ∷ []) ∙ omega (arith, width) in
    let again : y.stars ≡ (xs ++ l.1.amount ∷ []) ++ amounts =
    is ∙ sym (append_assoc xs (l.1.amount ∷ []) amounts) in
    ap (λ (q : ℕ). (l.0, q) ∷ carried_in ls) (sym first)
    ∙ ap (λ (rest : List (VarId × ℕ)). (l.0, dths y (amount.Star (suc n))) ∷ rest)
    (stars-carried y (xs ++ l.1.amount ∷ []) ls (suc n) more again)

-- Any judgement stands, under amounts with more stars, where amounts are ignored, with an account of its own.
pub any-under : (x : Annotations) (j : Judgement)
    → StandsUnder (amounts_beyond x j) j (ignoring j) (account_beyond (length x.stars) j)
any-under x j =
    let y = amounts_beyond x j in
    let n = length x.stars in
    let amounts : List ℕ = map (λ (b : VarId × ListType). b.1.amount) j.lists in
    let worth : dths y (amount.Star (suc n)) ≡ j.q =
    ap (λ (m : ℕ). get_or y.stars m 0) (omega arith) ∙ get_or-append-add x.stars (j.q ∷ amounts) 0 0 in
    let gained = sum_by-cons (dths y) (amount.Star (suc n)) [] in
    record {
      ignored = refl;
      afforded = omega arith;
      potential = omega (arith, gained, worth);
      carried =
          stars-carried y (x.stars ++ j.q ∷ []) j.lists (suc n) (length-append x.stars (j.q ∷ []) ∙ omega arith)
          (sym (append_assoc x.stars (j.q ∷ []) amounts));
    }

-- what had an amount keeps it
pub beyond-same : (x : Annotations) (j : Judgement) (r : Amount) → HasStarUpTo (length x.stars) r
    → dths (amounts_beyond x j) r ≡ dths x r
beyond-same x j (amount.Written units) low = refl
beyond-same x j (amount.Star star) low =
    get_or_append_left x.stars (j.q ∷ map (λ (b : VarId × ListType). b.1.amount) j.lists) 0 (star - 1)
    (omega (arith, low.0, low.1))
