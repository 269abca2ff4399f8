-- A derivation under the one amounts is carried over to others, where what its instructions need is met there.
use Rattle.std.proofs.Common.{◌≡◌, ◌<◌, ℕ, zero, suc, List, [], ◌∷◌, Contains, Some, slice_get, zip, refl, sym, subst, ◌∙◌, arith}
use Rattle.std.proofs.lemmas.List.Elements.{All-contains}
use Rattle.std.proofs.lemmas.List.Sums.{sum_by-cons}
use Rattle.nomos_ir.specs.declared.amount.Amount.{Amount}
use Rattle.nomos_ir.specs.declared.amount.Amount.TheVariants as amount
use Rattle.nomos_ir.specs.declared.code_node.Args.{Args}
use Rattle.nomos_ir.specs.declared.code_node.CodeNode.{CodeNode}
use Rattle.nomos_ir.specs.declared.code_node.CodeNode.TheVariants as code
use Rattle.nomos_ir.specs.declared.declaration.ProcDecl.{ProcDecl}
use Rattle.nomos_ir.specs.declared.ids.ProcId.{ProcId}
use Rattle.nomos_ir.specs.declared.lists.ProgramLists.{ProgramLists}
use Rattle.nomos_types.proofs.EqualityLaws.{no_dths}
use Rattle.nomos_types.specs.Amount.{Annotations, dths}
use Rattle.nomos_types.specs.Derivation.{Derives, by_row}
use Rattle.nomos_types.specs.Equality.{no_amounts}
use Rattle.nomos_types.specs.Judgement.{Judgement, IsJudgement, start_of}
use Rattle.nomos_types.specs.Modes.{HasMode}
use Rattle.nomos_types.specs.TypingRule.{TypingRule, StandsAtCode}
use Rattle.nomos_types.specs.Typed.{IsWellFormed}
use Rattle.nomos_types.proofs.AlikeLaws.{alike-same}
use Rattle.nomos_types.proofs.DerivationLaws.{derives-next}
use Rattle.nomos_types.proofs.InversionLaws.{derives-offers_mode, derives-row, row-descends}
use Rattle.nomos_types.proofs.JudgementLaws.{row-keeps_judgement}
use Rattle.nomos_types.proofs.RowLaws.{row-at}
use Rattle.nomos_types.proofs.UniqueRowLaws.{row-unique}
use Rattle.nomos_check.specs.Account.{Account, start_account, spends, worth_of, Affords}
use Rattle.nomos_check.specs.Accounting.{accounts_after}
use Rattle.nomos_check.specs.Asking.{AsksPair}
use Rattle.nomos_check.proofs.Beside.{Beside, EachBeside, behind, stands}
use Rattle.nomos_check.proofs.BesideRows.{MeetsNeeds, row-carried}
use Rattle.nomos_check.proofs.ListAmounts.{start-both}
use Rattle.nomos_check.proofs.RowMaking.{row-made}

-- ---- amounts that are all 0

-- so are all together
pub no-worth : (rs : List Amount) → worth_of no_amounts rs ≡ 0
no-worth [] = refl
no-worth (r ∷ rs) = omega (arith, sum_by-cons (dths no_amounts) r rs, no_dths r, no-worth rs)

-- each account is afforded there
pub no-affords : (a : Account) → Affords no_amounts a
no-affords a = omega (arith, no-worth a.spent)

-- what an instruction needs is met there
pub no-needs : {lists : ProgramLists} (j : Judgement) (a : Account) (n : CodeNode) (after : List Judgement)
    → MeetsNeeds lists no_amounts j a n after
no-needs j a n after =
    record {
      onward = λ k b among. no-affords b;
      call = λ at f args d is declared. no-affords (spends d.amount a);
      pairs = λ p asks. no_dths p.0 ∙ sym (no_dths p.1);
    }

-- ---- starts

-- the starts of a declaration stand side by side
pub start-beside : (lists : ProgramLists) (x y : Annotations) (d : ProcDecl)
    → Beside x y (start_of lists x d) (start_of lists y d) (start_account d)
start-beside lists x y d =
    record {
      same = refl;
      lists = start-both d.values;
      left = omega (arith, sum_by-cons (dths x) d.amount []);
      right = omega (arith, sum_by-cons (dths y) d.amount []);
    }

-- ---- places

-- what a row goes on with are judgements
pub next-is_judgement : {lists : ProgramLists} {x : Annotations} {j k : Judgement} {after : List Judgement}
    → IsWellFormed lists → IsJudgement lists j → TypingRule lists x j after → Contains after k → IsJudgement lists k
next-is_judgement {lists} {k = k} {after = after} formed is_judgement row among =
    All-contains (IsJudgement lists) after k (row-keeps_judgement formed is_judgement row) among

-- rows of judgements that stand side by side go on side by side, where amounts are ignored on the second side
pub each-beside : {lists : ProgramLists} {x : Annotations} {i j : Judgement} {a : Account} {n : CodeNode}
    {before after : List Judgement} → IsWellFormed lists → IsJudgement lists i → Beside x no_amounts i j a
    → TypingRule lists x i before → StandsAtCode lists j n → TypingRule lists no_amounts j after
    → EachBeside x no_amounts before after (accounts_after lists n a)
each-beside {lists} {x} {i} {j} {a} {n} {before} {after} formed own beside row there other =
    let (m, at_row, says) = row-at row in
    let at_other = stands beside lists m at_row in
    let same : m ≡ n = cc in
    let carried = row-carried m own beside at_row says (no-needs i a m before) in
    let made : TypingRule lists no_amounts j carried.later = row-made m at_other carried.row in
    let later_same : carried.later ≡ after = row-unique no_amounts formed.program made other in
    let each : EachBeside x no_amounts before after (accounts_after lists m a) =
    subst (λ (ks : List Judgement). EachBeside x no_amounts before ks (accounts_after lists m a)) later_same
    carried.each
    in
    subst (λ (l : CodeNode). EachBeside x no_amounts before after (accounts_after lists l a)) same each

-- ---- derivations

-- A property of judgements and accounts that rows keep, and under which what is needed is met.
pub record Provides (lists : ProgramLists) (x y : Annotations) (Good : Judgement → Account → Type 0) : Type 0 where
  pub next : (j k : Judgement) (a b : Account) (n : CodeNode) (after : List Judgement) → Good j a
      → StandsAtCode lists j n → TypingRule lists x j after → Contains (zip after (accounts_after lists n a)) (k, b)
      → Good k b
  pub afforded : (j : Judgement) (a : Account) → Good j a → Affords y a
  pub call : (j : Judgement) (a : Account) (at : ℕ) (f : ProcId) (args : Args) (d : ProcDecl) → Good j a
      → StandsAtCode lists j (code.Call at f args) → slice_get lists.procs f.0 ≡ Some d → Affords y (spends d.amount a)
  pub pairs : (j : Judgement) (a : Account) (p : Amount × Amount) → Good j a → AsksPair lists j a p
      → dths y p.0 ≡ dths y p.1

module _ {lists : ProgramLists} (formed : IsWellFormed lists) (x y : Annotations) (Good : Judgement → Account
    → Type 0) (provides : Provides lists x y Good) where
  -- a row of a good judgement has its needs met
  needs-met : (j : Judgement) (a : Account) (n : CodeNode) (after : List Judgement) → Good j a → StandsAtCode lists j n
      → TypingRule lists x j after → MeetsNeeds lists y j a n after
  needs-met j a n after good there row =
      record {
        onward = λ k b among. provides.afforded k b (provides.next j k a b n after good there row among);
        call = λ at f args d is declared.
            provides.call j a at f args d good (subst (λ (m : CodeNode). StandsAtCode lists j m) is there) declared;
        pairs = λ p asks. provides.pairs j a p good asks;
      }

  -- the derivation is carried over, by the place in the code
  pub derivation-carried : (m : ℕ) (j k : Judgement) (a : Account) → j.code.0 < m → Good j a → IsJudgement lists j
      → IsJudgement lists k → Beside x y j k a → Derives lists x j → Derives lists y k
  derivation-carried zero j k a low good own other beside derivation = absurd (omega arith)
  derivation-carried (suc m) j k a low good own other beside derivation =
      let (after, row) = derives-row formed derivation in
      let (n, there, says) = row-at row in
      let carried = row-carried n own beside there says (needs-met j a n after good there row) in
      let row_there : TypingRule lists y k carried.later = row-made n (stands beside lists n there) carried.row in
      let (mode, offers) = derives-offers_mode derivation in
      let its_mode = subst (λ (l : Judgement). HasMode lists l.offers mode) (sym beside.same) offers in
      let alike = alike-same y formed.program formed.contractive other its_mode in
      by_row k k.q carried.later alike (omega arith) row_there
      (λ next among.
      let b = behind next carried.each among in
      derivation-carried m b.judgement next b.account (omega (arith, low, row-descends formed row b.among))
      (provides.next j b.judgement a b.account n after good there row b.paired)
      (next-is_judgement formed own row b.among) (next-is_judgement formed other row_there among) b.beside
      (derives-next formed derivation row b.among))
