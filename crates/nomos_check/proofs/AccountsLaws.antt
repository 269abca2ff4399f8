-- The law of rows over accounts: a judgement has a derivation under amounts exactly where it has one where amounts are
-- ignored, the account at each point is afforded, and both amounts of each pair that is asked for are worth the same.
use Rattle.std.proofs.Common.{◌≡◌, ◌↔◌, Some, slice_get, sym, ◌∙◌, arith, ℕ, suc}
use Rattle.nomos_ir.specs.declared.amount.Amount.{Amount}
use Rattle.nomos_ir.specs.declared.declaration.ProcDecl.{ProcDecl}
use Rattle.nomos_ir.specs.declared.lists.ProgramLists.{ProgramLists}
use Rattle.nomos_types.proofs.EqualityLaws.{no_dths}
use Rattle.nomos_types.specs.Amount.{Annotations, dths}
use Rattle.nomos_types.specs.Derivation.{Derives, Follows}
use Rattle.nomos_types.specs.Equality.{no_amounts}
use Rattle.nomos_types.specs.Judgement.{Judgement, IsJudgement, start_of}
use Rattle.nomos_types.specs.Typed.{IsWellFormed}
use Rattle.nomos_types.proofs.DerivationLaws.{derives-next}
use Rattle.nomos_types.proofs.InversionLaws.{derives-row}
use Rattle.nomos_types.proofs.StartLaws.{start-is_judgement}
use Rattle.nomos_check.specs.Account.{Account, spends, Affords}
use Rattle.nomos_check.specs.Accounting.{accounts_after}
use Rattle.nomos_check.specs.Asking.{IsAsked}
use Rattle.nomos_check.specs.Reaching.{Outset, outset_of, GetsTo, IsPointAt, IsPoint}
use Rattle.nomos_check.specs.Reaching as reaching
use Rattle.nomos_check.proofs.AskedLaws.{asked-worth, call-affords}
use Rattle.nomos_check.proofs.Beside.{Beside, at-place, beside-back}
use Rattle.nomos_check.proofs.Carrying.{Provides, each-beside, no-affords, start-beside, next-is_judgement, derivation-carried}
use Rattle.nomos_check.proofs.ListLemmas.{paired-first}

-- The law of rows over accounts: of a judgement under the amounts, and the outset over which it stands.
abbrev pub DerivesByAccounts : ProgramLists → Annotations → Judgement → Outset → Type 0
DerivesByAccounts lists x first o =
    Derives lists x first
    ↔ (Derives lists no_amounts o.judgement × ((a : Account) → IsPoint lists o a → Affords x a)
    × ((p : Amount × Amount) → IsAsked lists o p → dths x p.0 ≡ dths x p.1))

-- A judgement to which a process gets where amounts are ignored, beside the one that follows under other amounts.
pub record ReachedUnder (lists : ProgramLists) (x : Annotations) (first k : Judgement) (a : Account) : Type 0 where
  pub judgement : Judgement
  pub own : IsJudgement lists judgement
  pub other : IsJudgement lists k
  pub beside : Beside x no_amounts judgement k a
  pub follows : Follows lists x first judgement
  pub derives : Derives lists x judgement

module _ {lists : ProgramLists} {x : Annotations} {o : Outset} {first : Judgement} (formed : IsWellFormed lists)
    (own : IsJudgement lists first) (other : IsJudgement lists o.judgement)
    (beside : Beside x no_amounts first o.judgement o.account) where
  -- ---- what a derivation gives

  -- each judgement to which the process gets stands beside one that follows and has a derivation
  pub reached-under : (k : Judgement) (a : Account) → Derives lists x first → GetsTo lists o k a
      → ReachedUnder lists x first k a
  reached-under _ _ derivation reaching.start =
      record {
        judgement = first;
        own = own;
        other = other;
        beside = beside;
        follows = Follows.first;
        derives = derivation;
      }
  reached-under k b derivation (reaching.next {j} {a = a} n after before there row among) =
      let r = reached-under j a derivation before in
      let (own_after, own_row) = derives-row formed r.derives in
      let each = each-beside formed r.own r.beside own_row there row in
      let at = at-place k b each among in
      record {
        judgement = at.judgement;
        own = next-is_judgement formed r.own own_row at.among;
        other = next-is_judgement formed r.other row (paired-first after (accounts_after lists n a) k b among);
        beside = at.beside;
        follows = Follows.next own_after r.follows own_row at.among;
        derives = derives-next formed r.derives own_row at.among;
      }

  -- each point is afforded
  point-at-afforded : (j : Judgement) (a c : Account) → ReachedUnder lists x first j a → IsPointAt lists j a c
      → Affords x c
  point-at-afforded j a _ r reaching.before = let beside_there = r.beside in omega (arith, beside_there.left)
  point-at-afforded j a _ r (reaching.called {at} {f} {args} there e found) =
      let (after, row) = derives-row formed r.derives in
      call-affords r.own r.beside row at f args e there found

  point-afforded : Derives lists x first → (c : Account) → IsPoint lists o c → Affords x c
  point-afforded derivation c point =
      point-at-afforded point.judgement point.account c
      (reached-under point.judgement point.account derivation point.reached) point.needs

  -- each pair is worth the same
  pair-same : Derives lists x first → (q : Amount × Amount) → IsAsked lists o q → dths x q.0 ≡ dths x q.1
  pair-same derivation q asked =
      let r = reached-under asked.judgement asked.account derivation asked.reached in
      let (after, row) = derives-row formed r.derives in
      asked-worth r.own r.beside row q asked.asks

  -- a derivation gives one where amounts are ignored
  skeleton-from : Derives lists x first → Derives lists no_amounts o.judgement
  skeleton-from derivation =
      let Any : Judgement → Account → Type 0 = λ j a. Unit {0} in
      let provides : Provides lists x no_amounts Any =
      record {
        next = λ j k a b n after good there row among. tt;
        afforded = λ j a good. no-affords a;
        call = λ j a at f args e good there found. no-affords (spends e.amount a);
        pairs = λ j a q good asks. no_dths q.0 ∙ sym (no_dths q.1);
      }
      in
      derivation-carried formed x no_amounts Any provides (suc first.code.0) first o.judgement o.account (omega arith)
      tt own other beside derivation

  -- ---- what gives a derivation

  -- one where amounts are ignored gives one under amounts that meet what is asked for
  derivation-from : Derives lists no_amounts o.judgement → ((a : Account) → IsPoint lists o a → Affords x a)
      → ((q : Amount × Amount) → IsAsked lists o q → dths x q.0 ≡ dths x q.1) → Derives lists x first
  derivation-from skeleton points pairs =
      let provides : Provides lists no_amounts x (GetsTo lists o) =
      record {
        next = λ j k a b n after reached there row among. reaching.next n after reached there row among;
        afforded = λ j a reached. points a
            (record { judgement = j; account = a; reached = reached; needs = reaching.before });
        call = λ j a at f args e reached there found. points (spends e.amount a)
            (record { judgement = j; account = a; reached = reached; needs = reaching.called there e found });
        pairs = λ j a q reached asks. pairs q (record { judgement = j; account = a; reached = reached; asks = asks });
      }
      in
      derivation-carried formed no_amounts x (GetsTo lists o) provides (suc o.judgement.code.0) o.judgement first
      o.account (omega arith) reaching.start other own (beside-back beside) skeleton

  -- the law of rows over accounts, from any judgement
  pub rows-law-from : DerivesByAccounts lists x first o
  rows-law-from = (
    λ derivation. (skeleton-from derivation, point-afforded derivation, pair-same derivation),
    λ given. derivation-from given.0 given.1 given.2,
  )

-- the law of rows over accounts, of a declaration
pub rows-law : {lists : ProgramLists} → IsWellFormed lists → (p : ℕ) (d : ProcDecl) → slice_get lists.procs p ≡ Some d
    → (x : Annotations) → DerivesByAccounts lists x (start_of lists x d) (outset_of lists d)
rows-law {lists} formed p d declared x =
    rows-law-from formed (start-is_judgement x p formed declared) (start-is_judgement no_amounts p formed declared)
    (start-beside lists x no_amounts d)
