-- The form of a stuck instruction is told by the tokens from its offset on, and where a function's name stands no
-- instruction begins. So what is faulty at an offset of a text is fixed by the text.
use Rattle.std.proofs.Common.{◌≡◌, ◌-◌, ◌≤◌, ℕ, [], ◌∷◌, List, Option, Some, None, Contains, slice_get, inl, inr, ap, sym, subst, ◌∙◌, arith}
use Rattle.nomos_accept.proofs.RisingLemmas.{stands-once}
use Rattle.nomos_accept.specs.TypedText.{IsReadAs}
use Rattle.nomos_check.proofs.StuckLaws.{stuck-rowless}
use Rattle.nomos_check.specs.Checking.{IsStuckAt}
use Rattle.nomos_elaborate.proofs.InstructionLaws.{form_at, Tells, IsPutIn, instructions-told, functions-told}
use Rattle.nomos_elaborate.specs.FileBuild.{program_of}
use Rattle.nomos_ir.specs.declared.amount.Amount.{Amount}
use Rattle.nomos_ir.specs.declared.amount.Amount.TheVariants as amount
use Rattle.nomos_ir.specs.declared.code_form.CodeForm.{CodeForm}
use Rattle.nomos_ir.specs.declared.code_node.CodeNode.{CodeNode}
use Rattle.nomos_ir.specs.declared.code_node.CodeNode.TheVariants as code
use Rattle.nomos_ir.specs.declared.declaration.ProcDecl.{ProcDecl}
use Rattle.nomos_ir.specs.declared.ids.CodeId.{CodeId}
use Rattle.nomos_ir.specs.declared.lists.ProgramLists.{ProgramLists}
use Rattle.nomos_ir.specs.Instruction.{code_form}
use Rattle.nomos_rows.specs.PartFaults.{HasOtherKind, GetsStuck}
use Rattle.nomos_syntax.specs.Scan.{tokens_of}
use Rattle.nomos_types.proofs.EqualityLaws.{no_dths}
use Rattle.nomos_types.proofs.OccurrenceLaws.{contains-found}
use Rattle.nomos_types.specs.Amount.{dths}
use Rattle.nomos_types.specs.Derivation.{IsStuck}
use Rattle.nomos_types.specs.Equality.{no_amounts}
use Rattle.nomos_types.specs.Judgement.{Judgement, at_code, with_potential}
use Rattle.nomos_types.specs.TypingRule.{StandsAtCode}
use Rattle.nomos_types.specs.TypingRule as row
use Rattle.nomos_types.specs.Typed.{IsWellFormed}

-- one form at an offset

-- The tokens from an offset of a text on tell one form.
pub tells-once : (text : List ℕ) (at : ℕ) (f g : Option CodeForm) → Tells (tokens_of text) at f
    → Tells (tokens_of text) at g → f ≡ g
tells-once text at f g a b =
    let same = stands-once text a.before b.before a.first b.first a.behind b.behind a.all b.all
    (a.offset ∙ sym b.offset) in
    sym a.form ∙ (ap form_at same ∙ b.form)

-- what is stuck stands in the text

module _ {lists : ProgramLists} {d : ProcDecl} (p : ℕ) (formed : IsWellFormed lists)
    (declared : slice_get lists.procs p ≡ Some d) where
  -- A `work` is never stuck.
  pub work-not_stuck : {j : Judgement} {at : ℕ} {r : Amount} {next : CodeId}
      → StandsAtCode lists j (code.Work at r next) → ¬ (IsStuck lists d j)
  work-not_stuck {j} {at} {r} {next} stands = λ stuck.
      let enough : dths no_amounts r ≤ j.q = omega (arith, no_dths r) in
      let next_one = with_potential (at_code j next) (j.q - dths no_amounts r) in
      stuck-rowless p formed declared stuck (next_one ∷ [], row.work stands enough)

  -- So what is stuck is not put in by a cost model.
  stuck-not_put_in : {at : ℕ} {form : CodeForm} (stuck : IsStuckAt lists d at form) → ¬ (IsPutIn stuck.node)
  stuck-not_put_in stuck = λ put_in.
      let work : StandsAtCode lists stuck.judgement (code.Work put_in.0 (amount.Written 1) put_in.1) =
      subst (λ (n : CodeNode). StandsAtCode lists stuck.judgement n) put_in.2 stuck.stands in
      work-not_stuck work stuck.stuck

-- The tokens from the offset of a stuck instruction on tell its form.
pub stuck-told : (text : List ℕ) (lists : ProgramLists) (at : ℕ) (form : CodeForm) → IsReadAs text lists
    → IsWellFormed lists → GetsStuck lists at form → Tells (tokens_of text) at (Some form)
stuck-told text lists at form read formed gets =
    let stuck = gets.stuck in
    let tokens = tokens_of text in
    let tree = read.tree in
    let n = stuck.node in
    let found : Contains lists.code n = contains-found lists.code stuck.judgement.code.0 n stuck.stands in
    let there : Contains (program_of tree).code n =
    subst (λ (l : ProgramLists). Contains l.code n) read.elaborates.program found in
    elim (instructions-told tokens tree read.reads.tokens.printed n there) [
      | inl put_in ↦ absurd (stuck-not_put_in gets.place formed gets.declared stuck put_in)
      | inr tells ↦
          let here = subst (λ (o : ℕ). Tells tokens o (Some (code_form n))) stuck.offset tells in
          subst (λ (f : CodeForm). Tells tokens at (Some f)) stuck.is_form here
    ]

-- From the offset of a function whose body has another kind the tokens tell that no instruction begins there.
pub kind-told : (text : List ℕ) (lists : ProgramLists) (at : ℕ) → IsReadAs text lists → HasOtherKind lists at
    → Tells (tokens_of text) at None
kind-told text lists at read kind =
    let tokens = tokens_of text in
    let tree = read.tree in
    let f = kind.function in
    let found : Contains lists.fns f = contains-found lists.fns kind.place f kind.declared in
    let there : Contains (program_of tree).fns f =
    subst (λ (l : ProgramLists). Contains l.fns f) read.elaborates.program found in
    subst (λ (o : ℕ). Tells tokens o None) kind.offset
    (functions-told tokens tree read.reads.tokens.printed f there)

-- So instructions that are stuck at one offset of a text have one form,
pub stuck-once : (text : List ℕ) (lists : ProgramLists) (at : ℕ) (f g : CodeForm) → IsReadAs text lists
    → IsWellFormed lists → GetsStuck lists at f → GetsStuck lists at g → f ≡ g
stuck-once text lists at f g read formed a b =
    let same : Some f ≡ Some g = tells-once text at (Some f) (Some g) (stuck-told text lists at f read formed a)
    (stuck-told text lists at g read formed b) in
    cc

-- and none is stuck where a function's body has another kind.
pub kind-not_stuck : (text : List ℕ) (lists : ProgramLists) (at : ℕ) (f : CodeForm) → IsReadAs text lists
    → IsWellFormed lists → HasOtherKind lists at → ¬ (GetsStuck lists at f)
kind-not_stuck text lists at f read formed kind = λ stuck.
    let same : None ≡ Some f = tells-once text at None (Some f) (kind-told text lists at read kind)
    (stuck-told text lists at f read formed stuck) in
    cc
