-- What the pivot run on the rows of a program says of a text that reads as it.
use Rattle.std.proofs.Common.{◌≡◌, ◌≤◌, ◌^◌, ℕ, List, length, sym, subst, ◌∙◌}
use Rattle.nomos_accept.proofs.AcceptLaws.{one-program}
use Rattle.nomos_accept.specs.AcceptedText.{AreRowsFor, IsAcceptedAs, IsProgramWith, IsRefused, IsUnsolved}
use Rattle.nomos_accept.specs.TypedText.{IsReadAs}
use Rattle.nomos_accept.specs.Preparing.{HasRows}
use Rattle.nomos_accept.specs.declared.why.Why.TheVariants as why
use Rattle.nomos_forms.specs.Bounds.{IsFound}
use Rattle.nomos_forms.specs.Meeting.{MeetsRows}
use Rattle.nomos_forms.specs.Refuting.{NoneMeet, Refutes}
use Rattle.nomos_forms.specs.declared.found.Found.{Found}
use Rattle.nomos_forms.specs.declared.row_list.RowList.{RowList}
use Rattle.nomos_forms.specs.declared.verdict.Verdict.{Verdict}
use Rattle.nomos_ir.specs.Amounts.{star_count}
use Rattle.nomos_ir.specs.declared.lists.ProgramLists.{ProgramLists}
use Rattle.nomos_simplex.specs.PivotRun.{answer_to}
use Rattle.nomos_simplex.specs.declared.solved.Solved.TheVariants as solved
use Rattle.nomos_simplex.specs.declared.solved.Stop.{Stop}
use Rattle.nomos_types.specs.Acceptance.{acceptance, IsAccepted}
use Rattle.nomos_types.specs.Amount.{Annotations}
use Rattle.nomos_types.specs.Typed.{IsTypedProgram}

-- amounts that meet the rows of a program are such that it is typed under them
pub found-is_accepted : (lists : ProgramLists) (rows : RowList) (found : Found) → HasRows lists rows →
    IsFound rows.stars found → found.unit ≤ 2 ^ 31 → MeetsRows found.stars found.unit rows.rows →
    IsAccepted (acceptance lists found.stars found.unit)
found-is_accepted lists rows found has is small meets =
    let x : Annotations = record { stars = found.stars; unit = found.unit } in
    let each : length found.stars ≡ star_count lists = is.width ∙ has.are_rows.stars in
    let typed : IsTypedProgram lists x = (has.law x each).1 meets in
    record {
      is_program = typed.formed.program;
      some_unit = is.unit;
      small_unit = small;
      each_star = each;
      small_stars = is.amounts;
      typed = typed;
    }

-- a text that reads as a program is accepted under what the run finds
pub accepted-answer : (text : List ℕ) (lists : ProgramLists) (rows : RowList) (found : Found) → IsReadAs text lists →
    AreRowsFor lists rows → answer_to rows ≡ solved.Found found → IsAccepted (acceptance lists found.stars found.unit)
    → IsAcceptedAs text (acceptance lists found.stars found.unit)
accepted-answer text lists rows found read are run is =
    record {
      typed = record { read = read; unit = is.some_unit; each_star = is.each_star; typed = is.typed };
      run = record { rows = rows; are_rows = are; run = run };
    }

-- a text that reads as a program whose rows are refuted is refused
pub refuted-answer : (text : List ℕ) (lists : ProgramLists) (rows : RowList) (verdict : Verdict) → IsReadAs text lists →
    HasRows lists rows → answer_to rows ≡ solved.Refuted verdict → Refutes rows.stars rows.rows verdict →
    NoneMeet rows.stars rows.rows → IsRefused text (why.NoPotential verdict)
refuted-answer text lists rows verdict read has run refutes none = record {
  cause = (
    lists,
    read,
    record {
      skeletons = has.skeletons;
      ends = record { rows = rows; are_rows = has.are_rows; run = run };
      refutes = refutes;
    },
  );
  never = λ other x typed.
      let same : other ≡ lists = one-program text other lists typed.read read in
      let each : length x.stars ≡ star_count lists =
      subst (λ (l : ProgramLists). length x.stars ≡ star_count l) same typed.each_star in
      let meets = (has.law x each).0 (subst (λ (l : ProgramLists). IsTypedProgram l x) same typed.typed) in
      none x.stars x.unit (each ∙ sym has.are_rows.stars) typed.unit meets;
}

-- where the run stops without an answer, that is answered
pub unsolved-answer : (text : List ℕ) (lists : ProgramLists) (rows : RowList) (stop : Stop) → IsReadAs text lists →
    HasRows lists rows → answer_to rows ≡ solved.Unsolved stop → IsProgramWith text (λ l. IsUnsolved l stop)
unsolved-answer text lists rows stop read has run = (
  lists,
  read,
  record { skeletons = has.skeletons; ends = record { rows = rows; are_rows = has.are_rows; run = run } },
)
