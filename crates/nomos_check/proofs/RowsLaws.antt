-- The law of rows over what is answered of a process: its forms and its pairs.
use Rattle.std.proofs.Common.{◌≡◌, ◌≤◌, ◌↔◌, ◌≤ℤ◌, arith, List, All, Contains, Some, slice_get, length, pos, ℕ, refl, sym, subst}
use Rattle.std.proofs.lemmas.List.Elements.{All-contains, All-weaker, All-contains_itself}
use Rattle.nomos_ir.specs.declared.amount.Amount.{Amount}
use Rattle.nomos_ir.specs.declared.declaration.ProcDecl.{ProcDecl}
use Rattle.nomos_ir.specs.declared.lists.ProgramLists.{ProgramLists}
use Rattle.nomos_ir.specs.Amounts.{star_count}
use Rattle.nomos_forms.specs.declared.form.Form.{Form}
use Rattle.nomos_forms.specs.Linear.{form_value}
use Rattle.nomos_types.specs.Amount.{Annotations, dths}
use Rattle.nomos_types.specs.Derivation.{Derives, HasSkeleton}
use Rattle.nomos_types.specs.Judgement.{Judgement, start_of}
use Rattle.nomos_types.specs.Equality.{no_amounts}
use Rattle.nomos_equality.specs.Answer.{SameWorth}
use Rattle.nomos_types.specs.Typed.{IsWellFormed}
use Rattle.nomos_check.specs.Account.{Account, Affords, form_of}
use Rattle.nomos_check.specs.Asking.{IsAsked}
use Rattle.nomos_check.specs.Checking.{NeedsRows, AreAfforded, DerivesByRows}
use Rattle.nomos_check.specs.Reaching.{Outset, outset_of, IsPoint, IsFormOf}
use Rattle.nomos_check.proofs.FormLaws.{HasStarsUpTo, form-affords}
use Rattle.nomos_check.proofs.AccountsLaws.{DerivesByAccounts, rows-law}
use Rattle.nomos_check.proofs.StarLaws.{start-stars, point-stars}

-- what holds of each element holds of all
pub all-from : {X : Type 0} (P : X → Type 0) (xs : List X) → ((x : X) → Contains xs x → P x) → All P xs
all-from P xs each = All-weaker (Contains xs) P each xs (All-contains_itself xs)

module _ {lists : ProgramLists} {o : Outset} (x : Annotations) (n : ℕ) (formed : IsWellFormed lists)
    (few : star_count lists ≤ n) (stars : HasStarsUpTo n o.account) (width : length x.stars ≡ n) where
  -- at a point the form is 0 or more exactly where the account is afforded
  pub point-affords-from : {a : Account} → IsPoint lists o a
      → (pos 0 ≤ℤ form_value x.stars x.unit (form_of n a)) ↔ Affords x a
  point-affords-from {a} point = form-affords x n a width (point-stars formed.program few stars a point)

  -- Where these are the forms and the pairs of a process, and there is a derivation where amounts are ignored, there is
  -- one under exactly those amounts under which each form is 0 or more and the amounts of each pair are worth the same.
  pub forms-law-from : {first : Judgement} (forms : List Form) (pairs : List (Amount × Amount))
      → DerivesByAccounts lists x first o → Derives lists no_amounts o.judgement
      → ((f : Form) → Contains forms f ↔ IsFormOf lists n o f)
      → ((p : Amount × Amount) → Contains pairs p ↔ IsAsked lists o p)
      → Derives lists x first ↔ (AreAfforded x forms × SameWorth x pairs)
  forms-law-from forms pairs law skeleton points asked =
      let IsMet : Form → Type 0 = λ f. pos 0 ≤ℤ form_value x.stars x.unit f in
      let AreSame : Amount × Amount → Type 0 = λ q. dths x q.0 ≡ dths x q.1 in (
        λ derivation.
            let given = law.0 derivation in
            let met : (f : Form) → IsFormOf lists n o f → IsMet f =
            λ f is.
            subst IsMet (sym is.same) ((point-affords-from is.point).1 (given.1 is.account is.point))
            in (
              all-from IsMet forms (λ f among. met f ((points f).0 among)),
              all-from AreSame pairs (λ q among. given.2 q ((asked q).0 among)),
            ),
        λ given.
            law.1 (
              skeleton,
              λ a point.
                  let among = (points (form_of n a)).1 (record { account = a; point = point; same = refl }) in
                  let met = All-contains IsMet forms (form_of n a) given.0 among in
                  (point-affords-from point).0 met,
              λ q is. All-contains AreSame pairs q given.1 ((asked q).1 is),
            ),
      )

-- at a point of a declaration the form is 0 or more exactly where the account is afforded
pub point-affords : {lists : ProgramLists} {d : ProcDecl} {a : Account} (p : ℕ) (x : Annotations) → IsWellFormed lists
    → slice_get lists.procs p ≡ Some d → IsPoint lists (outset_of lists d) a → length x.stars ≡ star_count lists
    → (pos 0 ≤ℤ form_value x.stars x.unit (form_of (star_count lists) a)) ↔ Affords x a
point-affords {lists} {d} p x formed declared point width =
    point-affords-from x (star_count lists) formed (omega arith) (start-stars p d formed.program declared) width point

-- a derivation under any amounts gives a skeleton
pub derives-skeleton : {lists : ProgramLists} {d : ProcDecl} (p : ℕ) (x : Annotations) → IsWellFormed lists
    → slice_get lists.procs p ≡ Some d → Derives lists x (start_of lists x d) → HasSkeleton lists d
derives-skeleton {lists} {d} p x formed declared derivation =
    let given = (rows-law formed p d declared x).0 derivation in
    given.0

-- Where a declaration needs these forms and pairs, it has a derivation under exactly those amounts under which each
-- form is 0 or more and the two amounts of each pair are worth the same.
pub needs-rows-law : {lists : ProgramLists} {d : ProcDecl} {forms : List Form} {pairs : List (Amount × Amount)}
    → (p : ℕ) → IsWellFormed lists
    → slice_get lists.procs p ≡ Some d → NeedsRows lists (star_count lists) d forms pairs
    → DerivesByRows lists (star_count lists) d forms pairs
needs-rows-law {lists} {d} {forms} {pairs} p formed declared needs x width =
    forms-law-from x (star_count lists) formed (omega arith) (start-stars p d formed.program declared) width forms pairs
    (rows-law formed p d declared x) needs.skeleton needs.points needs.asked
