-- A declaration has a skeleton exactly where no instruction of it is stuck.
use Rattle.std.proofs.Common.{◌≡◌, ◌<◌, ℕ, zero, suc, Some, slice_get, arith}
use Rattle.nomos_ir.specs.declared.declaration.ProcDecl.{ProcDecl}
use Rattle.nomos_ir.specs.declared.lists.ProgramLists.{ProgramLists}
use Rattle.nomos_types.proofs.AlikeLaws.{alike-same}
use Rattle.nomos_types.proofs.DerivationLaws.{derives-following}
use Rattle.nomos_types.proofs.FollowingLaws.{place}
use Rattle.nomos_types.proofs.InversionLaws.{alike-covers, derives-row, row-descends}
use Rattle.nomos_types.proofs.JudgementLaws.{follows-is_judgement}
use Rattle.nomos_types.proofs.RowsOverLaws.{HasRow, row-covers}
use Rattle.nomos_types.proofs.SuitsModeLaws.{follows-suits_mode}
use Rattle.nomos_types.specs.Derivation.{Derives, by_row, Follows, HasSkeleton, IsStuck}
use Rattle.nomos_types.specs.Equality.{no_amounts}
use Rattle.nomos_types.specs.Judgement.{Judgement, start_of}
use Rattle.nomos_types.specs.Typed.{IsWellFormed}

module _ {lists : ProgramLists} {d : ProcDecl} (p : ℕ) (formed : IsWellFormed lists)
    (declared : slice_get lists.procs p ≡ Some d) where
  -- an instruction without a row is stuck
  pub rowless-stuck : {j : Judgement} → Follows lists no_amounts (start_of lists no_amounts d) j
      → ¬ (HasRow lists no_amounts j) → IsStuck lists d j
  rowless-stuck follows rowless =
      record { follows = follows; no_row = λ k after alike row. rowless (row-covers formed (alike-covers alike) row) }

  -- one that is stuck has no row
  pub stuck-rowless : {j : Judgement} → IsStuck lists d j → ¬ (HasRow lists no_amounts j)
  stuck-rowless {j} stuck (after, row) =
      let is_judgement = follows-is_judgement no_amounts p formed declared stuck.follows in
      let offers = (follows-suits_mode no_amounts p formed declared stuck.follows).offers in
      stuck.no_row j after (alike-same no_amounts formed.program formed.contractive is_judgement offers) row

  -- where an instruction is stuck there is no skeleton
  pub stuck-no_skeleton : {j : Judgement} → IsStuck lists d j → ¬ (HasSkeleton lists d)
  stuck-no_skeleton stuck skeleton =
      stuck-rowless stuck (derives-row formed (derives-following formed skeleton stuck.follows))

  -- where each judgement that follows has a row, each has a derivation
  rows-derive : (m : ℕ) → ((j : Judgement) → Follows lists no_amounts (start_of lists no_amounts d) j
      → HasRow lists no_amounts j) → (j : Judgement) → place j < m
      → Follows lists no_amounts (start_of lists no_amounts d) j → Derives lists no_amounts j
  rows-derive zero rows j below follows = absurd (omega arith)
  rows-derive (suc m) rows j below follows =
      let is_judgement = follows-is_judgement no_amounts p formed declared follows in
      let offers = (follows-suits_mode no_amounts p formed declared follows).offers in
      let (after, row) = rows j follows in
      by_row j j.q after (alike-same no_amounts formed.program formed.contractive is_judgement offers) (omega arith) row
      (λ next among. rows-derive m rows next (omega (arith, row-descends formed row among))
      (Follows.next after follows row among))

  -- so there is a skeleton
  pub rows-skeleton : ((j : Judgement) → Follows lists no_amounts (start_of lists no_amounts d) j
      → HasRow lists no_amounts j) → HasSkeleton lists d
  rows-skeleton rows =
      rows-derive (suc (place (start_of lists no_amounts d))) rows (start_of lists no_amounts d)
      (omega arith) Follows.first

  -- where there is a skeleton, each judgement that follows has a row
  pub skeleton-rows : HasSkeleton lists d → (j : Judgement) → Follows lists no_amounts
      (start_of lists no_amounts d) j → HasRow lists no_amounts j
  skeleton-rows skeleton j follows = derives-row formed (derives-following formed skeleton follows)
