-- Each judgement that follows from an outset is reached, with one account, which has its lists.
use Rattle.std.proofs.Common.{◌≡◌, ◌≤◌, ℕ, List, Contains, Some, slice_get, zip, refl, ap, sym, subst, arith}
use Rattle.std.proofs.lemmas.List.Elements.{All-contains}
use Rattle.nomos_check.proofs.LeavingLemmas.{pairs-parts}
use Rattle.nomos_ir.specs.declared.code_node.CodeNode.{CodeNode}
use Rattle.nomos_ir.specs.declared.declaration.ProcDecl.{ProcDecl}
use Rattle.nomos_ir.specs.declared.ids.CodeId.{CodeId}
use Rattle.nomos_ir.specs.declared.lists.ProgramLists.{ProgramLists}
use Rattle.nomos_types.specs.Derivation.{Follows}
use Rattle.nomos_types.specs.Derivation as following
use Rattle.nomos_types.specs.Equality.{no_amounts}
use Rattle.nomos_types.specs.Judgement.{Judgement, IsJudgement, SuitsMode, start_of}
use Rattle.nomos_types.specs.TypingRule.{TypingRule}
use Rattle.nomos_types.specs.Typed.{IsWellFormed}
use Rattle.nomos_types.proofs.InversionLaws.{row-descends}
use Rattle.nomos_types.proofs.RowLaws.{row-at}
use Rattle.nomos_types.proofs.StartLaws.{start-is_judgement}
use Rattle.nomos_types.proofs.SuitsModeLaws.{row-keeps_mode}
use Rattle.nomos_types.proofs.UniqueRowLaws.{row-unique}
use Rattle.nomos_check.specs.Account.{Account, start_account}
use Rattle.nomos_check.specs.Accounting.{accounts_after}
use Rattle.nomos_check.specs.Reaching.{Outset, GetsTo}
use Rattle.nomos_check.specs.Reaching as reaching
use Rattle.nomos_check.proofs.Beside.{Beside, at-place, its-account, judgements-paired, second-beside}
use Rattle.nomos_check.proofs.Carrying.{each-beside, next-is_judgement, start-beside}
use Rattle.nomos_check.proofs.CodeOnceLemmas.{one-behind, one-at_place}
use Rattle.nomos_check.proofs.ListLemmas.{paired-first}

-- A judgement stands beside itself, with its account.
pub record HasItsAccount (lists : ProgramLists) (j : Judgement) (a : Account) : Type 0 where
  pub judgement : IsJudgement lists j
  pub beside : Beside no_amounts no_amounts j j a

-- that at the start of a declaration does
pub start-has : {lists : ProgramLists} {d : ProcDecl} (p : ℕ) → IsWellFormed lists → slice_get lists.procs p ≡ Some d
    → HasItsAccount lists (start_of lists no_amounts d) (start_account d)
start-has {lists} {d} p formed declared =
    record {
      judgement = start-is_judgement no_amounts p formed declared;
      beside = start-beside lists no_amounts no_amounts d;
    }

module _ {lists : ProgramLists} {o : Outset} (formed : IsWellFormed lists)
    (begins : HasItsAccount lists o.judgement o.account) where
  -- so does each judgement that is reached
  pub stands-reached : (j : Judgement) (a : Account) → GetsTo lists o j a → HasItsAccount lists j a
  stands-reached _ _ reaching.start = begins
  stands-reached k b (reaching.next {j} {a = a} n after before there row among) =
      let s = stands-reached j a before in
      let at = at-place k b (each-beside formed s.judgement s.beside row there row) among in
      let inside = paired-first after (accounts_after lists n a) k b among in
      record {
        judgement = next-is_judgement formed s.judgement row inside;
        beside = second-beside at.beside;
      }

  -- and suits its mode, where the first one does
  pub suits-reached : SuitsMode lists o.judgement → (j : Judgement) (a : Account) → GetsTo lists o j a
      → SuitsMode lists j
  suits-reached first _ _ reaching.start = first
  suits-reached first k b (reaching.next {j} {a = a} n after before there row among) =
      let s = stands-reached j a before in
      let inside = paired-first after (accounts_after lists n a) k b among in
      All-contains (SuitsMode lists) after k (row-keeps_mode formed s.judgement (suits-reached first j a before) row)
      inside

  -- what is reached follows from the outset
  pub reaches-follows : (j : Judgement) (a : Account) → GetsTo lists o j a
      → Follows lists no_amounts o.judgement j
  reaches-follows _ _ reaching.start = following.first
  reaches-follows k b (reaching.next {j} {a = a} n after before there row among) =
      following.next after (reaches-follows j a before) row (paired-first after (accounts_after lists n a) k b among)

  -- and what follows from the outset is reached
  pub follows-reaches : (j : Judgement) → Follows lists no_amounts o.judgement j
      → (a : Account) × GetsTo lists o j a
  follows-reaches _ following.first = (o.account, reaching.start)
  follows-reaches k (following.next {j} after before row among) =
      let (a, reached) = follows-reaches j before in
      let (n, there, says) = row-at row in
      let s = stands-reached j a reached in
      let (b, paired) = its-account k (each-beside formed s.judgement s.beside row there row) among in
      (b, reaching.next n after reached there row paired)

  -- no instruction leads up to the first one
  never-above : (j : Judgement) (a : Account) → GetsTo lists o j a → j.code.0 ≤ o.judgement.code.0
  never-above _ _ reaching.start = omega arith
  never-above k b (reaching.next {j} {a = a} n after before there row among) =
      let lower = row-descends formed row (paired-first after (accounts_after lists n a) k b among) in
      omega (arith, lower, never-above j a before)

  -- so none leads to it
  not-first : (k : Judgement) (b : Account) {j : Judgement} {a : Account} (n : CodeNode) (after : List Judgement)
      → GetsTo lists o j a → TypingRule lists no_amounts j after
      → Contains (zip after (accounts_after lists n a)) (k, b)
      → k.code ≡ o.judgement.code → ⊥
  not-first k b {j} {a} n after before row among first =
      let lower = row-descends formed row (paired-first after (accounts_after lists n a) k b among) in
      omega (arith, lower, never-above j a before, ap (λ (c : CodeId). c.0) first)

  -- at a place one judgement is reached, with one account
  pub reaches-unique : (j k : Judgement) (a b : Account) → GetsTo lists o j a → GetsTo lists o k b → j.code ≡ k.code
      → (j ≡ k) × (a ≡ b)
  reaches-unique _ _ _ _ reaching.start reaching.start same = (refl, refl)
  reaches-unique _ k _ b reaching.start (reaching.next n after before there row among) same =
      absurd (not-first k b n after before row among (sym same))
  reaches-unique j _ a _ (reaching.next n after before there row among) reaching.start same =
      absurd (not-first j a n after before row among same)
  reaches-unique j k a b (reaching.next {j = i} {a = c} n after before there row among)
      (reaching.next {j = l} {a = e} m later before_too there_too row_too among_too) same =
      let at_one : i.code ≡ l.code =
      one-behind formed.program row (paired-first after (accounts_after lists n c) j a among) row_too
      (paired-first later (accounts_after lists m e) k b among_too) same
      in
      let (judgements, accounts) = reaches-unique i l c e before before_too at_one in
      let node : m ≡ n = cc in
      let row_here : TypingRule lists no_amounts i later =
      subst (λ (s : Judgement). TypingRule lists no_amounts s later) (sym judgements) row_too
      in
      let afters : later ≡ after = row-unique no_amounts formed.program row_here row in
      let Paired : List Judgement → List Account → Type 0 = λ js bs. Contains (zip js bs) (k, b) in
      let with_node : Paired later (accounts_after lists n e) =
      subst (λ (q : CodeNode). Paired later (accounts_after lists q e)) node among_too
      in
      let with_account : Paired later (accounts_after lists n c) =
      subst (λ (q : Account). Paired later (accounts_after lists n q)) (sym accounts) with_node
      in
      let here : Paired after (accounts_after lists n c) =
      subst (λ (js : List Judgement). Paired js (accounts_after lists n c)) afters with_account
      in
      let s = stands-reached i c before in
      let firsts = judgements-paired (each-beside formed s.judgement s.beside row there row) in
      let pairs = zip after (accounts_after lists n c) in
      pairs-parts j k a b
      (one-at_place formed.program (λ (q : Judgement × Account). q.0) pairs after (j, a)
      (k, b) row firsts among here same)
