-- Where the code leads from a standing that was visited.
use Rattle.std.proofs.Common.{◌≡◌, ◌⊎◌, inl, inr, ⊎_elim, List, [], ◌∷◌, map, zip, Contains, refl, sym, ap, subst}
use Rattle.nomos_check.proofs.ListLemmas.{contains-map}
use Rattle.nomos_ir.specs.declared.code_node.CodeNode.{CodeNode}
use Rattle.nomos_ir.specs.declared.lists.ProgramLists.{ProgramLists}
use Rattle.nomos_ir.specs.Amounts.{star_count}
use Rattle.nomos_ir.specs.Program.{IsProgram}
use Rattle.nomos_types.proofs.OccurrenceLaws.{contains-head, contains-unmap}
use Rattle.nomos_types.proofs.RowLaws.{row-at}
use Rattle.nomos_types.proofs.UniqueRowLaws.{row-unique}
use Rattle.nomos_types.specs.Equality.{no_amounts}
use Rattle.nomos_types.specs.Judgement.{Judgement}
use Rattle.nomos_types.specs.TypingRule.{TypingRule, StandsAtCode}
use Rattle.nomos_check.proofs.MemberLemmas.{contains-none, contains-one, zip-maps}
use Rattle.nomos_check.proofs.VisitLemmas.{visits-done}
use Rattle.nomos_check.specs.Account.{Account}
use Rattle.nomos_check.specs.Accounting.{accounts_after}
use Rattle.nomos_check.specs.Reaching.{Outset, GetsTo}
use Rattle.nomos_check.specs.declared.standing.Forks.{Forks}
use Rattle.nomos_check.specs.declared.standing.Standing.{Standing}
use Rattle.nomos_check.specs.declared.standing.WayOn.{WayOn}
use Rattle.nomos_check.specs.declared.code_walk.CodeWalk.{CodeWalk}
use Rattle.nomos_check.specs.mirror.StandingData.{shape_of, HasAccount, LeadsTo, LeadsAlong, way_shape, way_account}
use Rattle.nomos_check.specs.mirror.Walking.{LeadsFrom, IsDone, AtStanding, IsPending, IsReached, IsOpen, Visits}

-- the code leads from the one place to the other over a first instruction
record LeadsOver (lists : ProgramLists) (j : Judgement) (a : Account) (i : Judgement) (c : Account) : Type 0 where
  node : CodeNode
  after : List Judgement
  stands : StandsAtCode lists j node
  row : TypingRule lists no_amounts j after
  judgement : Judgement
  account : Account
  among : Contains (zip after (accounts_after lists node a)) (judgement, account)
  rest : LeadsFrom lists judgement account i c

-- it leads to the place itself, or over a first instruction
leads-cases : {lists : ProgramLists} {j : Judgement} {a : Account} {i : Judgement} {c : Account}
    → LeadsFrom lists j a i c
    → ((j ≡ i) × (a ≡ c)) ⊎ LeadsOver lists j a i c
leads-cases GetsTo.start = inl (refl, refl)
leads-cases {lists} {j} {a} {i} {c} (GetsTo.next {j = k} {a = b} n after before stands row among) =
    ⊎_elim
    (λ here.
    let there : LeadsOver lists k b i c = record {
      node = n;
      after = after;
      stands = stands;
      row = row;
      judgement = i;
      account = c;
      among = among;
      rest = GetsTo.start;
    } in
    inr (subst (λ (h : Judgement). LeadsOver lists h a i c) (sym here.0)
    (subst (λ (e : Account). LeadsOver lists k e i c) (sym here.1) there)))
    (λ (over : LeadsOver lists j a k b). inr (record {
      node = over.node;
      after = over.after;
      stands = over.stands;
      row = over.row;
      judgement = over.judgement;
      account = over.account;
      among = over.among;
      rest = GetsTo.next n after over.rest stands row among;
    }))
    (leads-cases before)

pub pairs-parts : (j k : Judgement) (a b : Account) → ◌≡◌ {A = Judgement × Account} (j, a) (k, b) → (j ≡ k) × (a ≡ b)
pairs-parts j k a b same = (ap (λ (q : Judgement × Account). q.0) same, ap (λ (q : Judgement × Account). q.1) same)

module _ {lists : ProgramLists} (is_program : IsProgram lists) {s : Standing} {old new : CodeWalk}
    (visits : Visits lists s old new) where
  done-there : {j : Judgement} {a b : Account} → HasAccount (star_count lists) s b → shape_of s ≡ j → b ≡ a
      → IsDone lists (star_count lists) new j a
  done-there {j} {a} {b} has shape account =
      let Done : Judgement → Account → Type 0 = λ k c. IsDone lists (star_count lists) new k c in
      subst (λ (k : Judgement). Done k a) shape (subst (Done (shape_of s)) account (visits-done visits b has))

  -- an instruction without a rule, or at whose end nothing follows
  pub leaves-none : ((after : List Judgement) → TypingRule lists no_amounts (shape_of s) after → after ≡ [])
      → (j : Judgement)
      (a : Account) → AtStanding lists (star_count lists) s j a → IsDone lists (star_count lists) new j a
  leaves-none ends j a at =
      ⊎_elim (λ here. done-there at.has here.0 here.1)
      (λ (over : LeadsOver lists (shape_of s) at.account j a).
      let Among : List Judgement → Type 0 =
      λ l. Contains (zip l (accounts_after lists over.node at.account)) (over.judgement, over.account)
      in
      absurd (contains-none (over.judgement, over.account) (subst Among (ends over.after over.row) over.among)))
      (leads-cases at.leads)

  -- one next instruction
  pub leaves-next : (next : Standing) → LeadsTo lists s next → (j : Judgement) (a : Account)
      → AtStanding lists (star_count lists) s j a
      → IsDone lists (star_count lists) new j a ⊎ AtStanding lists (star_count lists) next j a
  leaves-next next leads j a at =
      ⊎_elim (λ here. inl (done-there at.has here.0 here.1))
      (λ (over : LeadsOver lists (shape_of s) at.account j a).
      let (b, is, has) = leads.account over.node at.account over.stands at.has in
      let one : over.after ≡ shape_of next ∷ [] = row-unique no_amounts is_program over.row leads.row in
      let Among : List Judgement → List Account → Type 0 = λ l m. Contains (zip l m) (over.judgement, over.account) in
      let there : Contains ((shape_of next, b) ∷ []) (over.judgement, over.account) =
      subst (Among (shape_of next ∷ [])) is
      (subst (λ (l : List Judgement). Among l (accounts_after lists over.node at.account)) one over.among)
      in
      let same = pairs-parts (shape_of next) over.judgement b over.account (contains-one (shape_of next, b)
      (over.judgement, over.account) there) in
      let From : Judgement → Account → Type 0 = λ k c. LeadsFrom lists k c j a in
      let rest : From (shape_of next) b =
      subst (λ (k : Judgement). From k b) (sym same.0) (subst (From over.judgement) (sym same.1) over.rest)
      in
      inr (record { account = b; has = has; leads = rest }))
      (leads-cases at.leads)

-- several ways
pub leaves-along : {lists : ProgramLists} (is_program : IsProgram lists) (f : Forks) {old new : CodeWalk}
    → Visits lists f.before old new → LeadsAlong lists f.before f.ways.items → (j : Judgement) (a : Account)
    → AtStanding lists (star_count lists) f.before j a
    → IsDone lists (star_count lists) new j a ⊎ IsPending lists (star_count lists) (f ∷ []) j a
leaves-along {lists} is_program f {old} {new} visits leads j a at =
    let s = f.before in
    let ways = f.ways.items in
    ⊎_elim (λ here. inl (done-there is_program visits at.has here.0 here.1))
    (λ (over : LeadsOver lists (shape_of s) at.account j a).
    let is = leads.account over.node at.account over.stands at.has in
    let all : over.after ≡ map (way_shape (shape_of s)) ways = row-unique no_amounts is_program over.row leads.row in
    let Among : List Judgement → List Account → Type 0 = λ l m. Contains (zip l m) (over.judgement, over.account) in
    let lead : WayOn → Judgement × Account = λ w. (way_shape (shape_of s) w, way_account at.account w) in
    let paired : Contains (zip (map (way_shape (shape_of s)) ways) (map (way_account at.account) ways))
    (over.judgement, over.account) =
    subst (Among (map (way_shape (shape_of s)) ways)) is
    (subst (λ (l : List Judgement). Among l (accounts_after lists over.node at.account)) all over.among)
    in
    let there : Contains (map lead ways) (over.judgement, over.account) =
    subst (λ (l : List (Judgement × Account)). Contains l (over.judgement, over.account)) (zip-maps (way_shape
    (shape_of s)) (way_account at.account) ways) paired
    in
    let (w, inside, leads_there) = contains-unmap lead ways (over.judgement, over.account) there in
    let same = pairs-parts (way_shape (shape_of s) w) over.judgement
    (way_account at.account w) over.account leads_there in
    let From : Judgement → Account → Type 0 = λ k c. LeadsFrom lists k c j a in
    let rest : From (way_shape (shape_of s) w) (way_account at.account w) =
    subst (λ (k : Judgement). From k (way_account at.account w)) (sym same.0) (subst (From over.judgement)
    (sym same.1) over.rest)
    in
    inr (record {
      forks = f;
      among = contains-head f f [] refl;
      way = w;
      inside = inside;
      along = record { account = at.account; has = at.has; leads = rest };
    }))
    (leads-cases at.leads)

module _ {lists : ProgramLists} {o : Outset} where
  -- what is reached next
  pub reached-next : {s next : Standing} → LeadsTo lists s next → IsReached lists (star_count lists) o s
      → IsReached lists (star_count lists) o next
  reached-next {s} {next} leads r =
      let (n, stands, says) = row-at leads.row in
      let (b, is, has) = leads.account n r.account stands r.has in
      let Among : List Account → Type 0 = λ l. Contains (zip (shape_of next ∷ []) l) (shape_of next, b) in
      let among : Among (accounts_after lists n r.account) =
      subst Among (sym is) (contains-head (shape_of next, b) (shape_of next, b) [] refl)
      in
      record { account = b; has = has; reached = GetsTo.next n (shape_of next ∷ []) r.reached stands leads.row among }

  -- the ways that are reached
  pub open-along : (f : Forks) → LeadsAlong lists f.before f.ways.items → IsReached lists (star_count lists) o f.before
      → IsOpen lists (star_count lists) o f
  open-along f leads r =
      let s = f.before in
      let ways = f.ways.items in
      let after = map (way_shape (shape_of s)) ways in
      let (n, stands, says) = row-at leads.row in
      let is = leads.account n r.account stands r.has in
      let lead : WayOn → Judgement × Account = λ w. (way_shape (shape_of s) w, way_account r.account w) in
      record {
        account = r.account;
        has = r.has;
        base = r.reached;
        there = leads.there;
        reached =
            λ w inside.
            let Among : List (Judgement × Account) → Type 0 = λ l. Contains l (lead w) in
            let there : Among (zip after (map (way_account r.account) ways)) =
            subst Among (sym (zip-maps (way_shape (shape_of s)) (way_account r.account) ways))
            (contains-map lead ways w inside)
            in
            let among : Among (zip after (accounts_after lists n r.account)) =
            subst (λ (l : List Account). Among (zip after l)) (sym is) there
            in
            GetsTo.next n after r.reached stands leads.row among;
      }
