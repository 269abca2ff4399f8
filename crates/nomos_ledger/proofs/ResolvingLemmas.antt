-- What a line is resolved to, by what its steps answered.
use Rattle.std.proofs.Common.{◌≡◌, ◌∙◌, inl, inr, ℕ, List, Ok, Err, Some, get_or, position, slice_get, ap, sym, subst}
use Rattle.std.proofs.lemmas.List.Elements.{Contains-get_or}
use Rattle.nomos_ir.specs.declared.declaration.ProcDecl.{ProcDecl}
use Rattle.nomos_ir.specs.declared.ids.TypeId.{TypeId}
use Rattle.nomos_ir.specs.declared.ids.VarId.{VarId}
use Rattle.nomos_ir.specs.declared.lists.ProgramLists.{ProgramLists}
use Rattle.nomos_ir.specs.declared.or_no_memory.OrNoMemory.{OrNoMemory}
use Rattle.nomos_ir.specs.declared.or_no_memory.OrNoMemory.TheVariants as stop
use Rattle.nomos_types.specs.Acceptance.{Acceptance}
use Rattle.nomos_types.specs.Modes.{parameter_mode}
use Rattle.nomos_types.proofs.ModeLaws.{parameter-has_mode}
use Rattle.nomos_script.specs.declared.item.Start.{Start}
use Rattle.nomos_legal.specs.Ledger.{LedgerState}
use Rattle.nomos_legal.specs.LineStarts.{ArgumentsFit, IsDeclaration, IsPayer, Resolves, no_account, no_process, bad_arguments, name_taken, no_gas, starts, is_wanted, started_by}
use Rattle.nomos_legal.specs.declared.refusal.Refusal.{Refusal}
use Rattle.nomos_legal.specs.declared.resolved.Resolved.{Resolved}
use Rattle.nomos_ledger.specs.declared.resolving.ResolvedLine.{ResolvedLine}
use Rattle.nomos_ledger.specs.mirror.Resolving.{FindsDeclaration, FindsNames, FindsPayer, HaveModes, IfAnswered, PassesRest}

-- the type of each channel parameter of a declaration has a mode
pub declared-modes : (lists : ProgramLists) (p : ℕ) (d : ProcDecl) → slice_get lists.procs p ≡ Some d
    → HaveModes lists d.channels
declared-modes lists p d there k e inside =
    let par : VarId × TypeId = get_or d.channels k e in
    (parameter_mode lists par.1, parameter-has_mode lists p d par.0 par.1 there (Contains-get_or d.channels k e inside))

-- the declaration that a line wants, of a program that was read
pub declared-there : {a b : Acceptance} {lists : ProgramLists} {start : Start} {number : ℕ} {d : ProcDecl}
    → lists ≡ b.program → b ≡ a → position (is_wanted start) a.program.procs ≡ Some number
    → slice_get lists.procs number ≡ Some d → IsDeclaration a start number d
declared-there {a} {b} {lists} {start} {number} {d} read same first there = record {
  first = first;
  there =
      subst (λ (l : ProgramLists). slice_get l.procs number ≡ Some d) (read ∙ ap (λ (c : Acceptance). c.program) same)
      there;
}

module _ (a : Acceptance) (l : LedgerState) (start : Start) where
  -- what a refusal says of the line
  abbrev pub IsRefused : OrNoMemory Refusal → Type 0
  IsRefused e = IfAnswered {X = Resolved} (Err e) (Resolves a l start)

  -- the sender has no account
  pub payer-refused : (e : OrNoMemory Refusal) → IfAnswered (Err e) (FindsPayer l.accounts start) → IsRefused e
  payer-refused (stop.Answer r) answered =
      subst (λ (c : Refusal). Resolves a l start (Err c)) (sym answered.1) (no_account answered.0)
  payer-refused stop.NoMemory answered = tt

  module _ (payer : ℕ) (pays : IsPayer l start payer) where
    -- no declaration is wanted
    pub declaration-refused : (e : OrNoMemory Refusal) → IfAnswered (Err e) (FindsDeclaration a.program.procs start)
        → IsRefused e
    declaration-refused (stop.Answer r) answered =
        subst (λ (c : Refusal). Resolves a l start (Err c)) (sym answered.1) (no_process payer pays answered.0)
    declaration-refused stop.NoMemory answered = tt

    module _ (number : ℕ) (d : ProcDecl) (declared : IsDeclaration a start number d) where
      -- the arguments do not fit
      pub names-refused : (e : OrNoMemory Refusal) → IfAnswered (Err e) (FindsNames a l start d) → IsRefused e
      names-refused (stop.Answer r) answered =
          subst (λ (c : Refusal). Resolves a l start (Err c)) (sym answered.1)
          (bad_arguments payer number d pays declared answered.0)
      names-refused stop.NoMemory answered = tt

      module _ (shared : List ℕ) (fits : ArgumentsFit a l start d shared) where
        -- who pays, and for what
        abbrev pub these : ResolvedLine
        these = record { payer = payer; proc = record { 0 = number } }

        -- the name is taken, or the payer has too little
        pub rest-refused : (e : OrNoMemory Refusal) → IfAnswered (Err e) (PassesRest a l start these) → IsRefused e
        rest-refused (stop.Answer r) (inl (name, contract, is, found, cause)) =
            subst (λ (c : Refusal). Resolves a l start (Err c)) (sym cause)
            (name_taken payer number d shared name contract pays declared fits is found)
        rest-refused (stop.Answer r) (inr (free, less)) =
            let (under, cause) = less d declared.there in
            subst (λ (c : Refusal). Resolves a l start (Err c)) (sym cause)
            (no_gas payer number d shared pays declared fits free under)
        rest-refused stop.NoMemory answered = tt

        -- and else the line starts
        pub rest-starts : (u : Unit {0}) (r : Resolved) → PassesRest a l start these (Ok u)
            → r ≡ started_by start number shared payer → Resolves a l start (Ok r)
        rest-starts u r (free, enough) is =
            subst (λ (c : Resolved). Resolves a l start (Ok c)) (sym is)
            (starts payer number d shared pays declared fits free (enough d declared.there))
