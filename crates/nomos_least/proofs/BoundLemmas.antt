-- What the least run on the rows of a program says of a text that reads as it.
use Rattle.std.proofs.Common.{◌≡◌, ◌≤◌, ◌*◌, ◌^◌, ℕ, List, ap, sym, subst, ◌∙◌, arith, ℤ, pos, ◌*ℤ◌, ◌≤ℤ◌}
use Rattle.std.proofs.lemmas.Int.{ints}
use Rattle.nomos_accept.proofs.JudgingLaws.{found-is_accepted, refuted-answer}
use Rattle.nomos_accept.specs.AcceptedText.{IsProgramWith, IsRefused}
use Rattle.nomos_accept.specs.TypedText.{IsReadAs}
use Rattle.nomos_accept.specs.Preparing.{HasRows}
use Rattle.nomos_accept.specs.declared.why.Why.TheVariants as why
use Rattle.nomos_forms.specs.Bounds.{IsFound}
use Rattle.nomos_forms.specs.Linear.{form_value}
use Rattle.nomos_forms.specs.Meeting.{MeetsRows}
use Rattle.nomos_forms.specs.Refuting.{NoneMeet, Refutes}
use Rattle.nomos_forms.specs.declared.form.Form.{Form}
use Rattle.nomos_forms.specs.declared.found.Found.{Found}
use Rattle.nomos_forms.specs.declared.row_list.RowList.{RowList}
use Rattle.nomos_forms.specs.declared.verdict.Verdict.{Verdict}
use Rattle.nomos_ir.specs.Program.{IsProgram}
use Rattle.nomos_ir.specs.declared.lists.ProgramLists.{ProgramLists}
use Rattle.nomos_least.proofs.GoalLaws.{goal-is_form, goal-worth}
use Rattle.nomos_least.specs.Goal.{goal_of, all_declared}
use Rattle.nomos_least.specs.LeastBounds.{NoneDeclareLess, IsLeastAs, IsLeastUnsolved}
use Rattle.nomos_simplex.proofs.LeastRunLaws.{least-total, least-refuted}
use Rattle.nomos_simplex.specs.LeastRun.{LeastRun}
use Rattle.nomos_simplex.specs.ShowsLeast.{ShowsLeast, NoneSmaller}
use Rattle.nomos_simplex.specs.declared.solved.Proof.{Proof}
use Rattle.nomos_simplex.specs.declared.solved.SolvedLeast.TheVariants as least
use Rattle.nomos_simplex.specs.declared.solved.Stop.{Stop}
use Rattle.nomos_types.specs.Acceptance.{acceptance, IsAccepted}
use Rattle.nomos_types.specs.Amount.{Annotations}

-- what is found

pos-once : (a b : ℕ) → pos a ≡ pos b → a ≡ b
pos-once a b e = omega (arith, ints, e)

pos-times : (a b : ℕ) → pos a *ℤ pos b ≡ pos (a * b)
pos-times a b = omega (arith, ints)

pos-at_most : (a b : ℕ) → pos a ≤ℤ pos b → a ≤ b
pos-at_most a b e = omega (arith, ints, e)

-- where no amounts that meet the rows have a smaller goal, no amounts under which the text is typed declare less
none-declare_less : (text : List ℕ) (lists : ProgramLists) (rows : RowList) (unit total : ℕ) → HasRows lists rows →
    IsProgram lists → NoneSmaller rows.rows (goal_of lists) unit total → NoneDeclareLess text lists unit total
none-declare_less text lists rows unit total has is_program none = λ x typed.
    let width = (goal-is_form lists is_program).width in
    let meets : MeetsRows x.stars x.unit rows.rows = (has.law x typed.each_star).0 typed.typed in
    let low = none x.stars x.unit (typed.each_star ∙ sym width) typed.unit meets in
    pos-at_most (x.unit * total) (unit * all_declared x lists)
    (subst (λ (z : ℤ). pos (x.unit * total) ≤ℤ z)
    (ap (λ (z : ℤ). pos unit *ℤ z) (goal-worth lists x is_program typed.each_star)
    ∙ pos-times unit (all_declared x lists)) low)

-- a text that reads as a program is typed under what the least run finds, and under no others do they declare less
pub bounded-answer : (text : List ℕ) (lists : ProgramLists) (rows : RowList) (goal : Form) (found : Found)
    (proof : Proof) → IsReadAs text lists → HasRows lists rows → goal ≡ goal_of lists →
    LeastRun rows goal (least.Found found proof) → IsFound rows.stars found → found.unit ≤ 2 ^ 31 →
    MeetsRows found.stars found.unit rows.rows → ShowsLeast rows.rows goal found.unit proof →
    NoneSmaller rows.rows goal found.unit proof.total →
    IsLeastAs text
    (record { accepted = acceptance lists found.stars found.unit; rows = rows; goal = goal; proof = proof })
bounded-answer text lists rows goal found proof read has same run is small meets shows none =
    let accepted : IsAccepted (acceptance lists found.stars found.unit) =
    found-is_accepted lists rows found has is small meets
    in
    let x : Annotations = record { stars = found.stars; unit = found.unit } in
    let value : form_value found.stars found.unit goal ≡ pos (all_declared x lists) =
    ap (form_value found.stars found.unit) same ∙ goal-worth lists x accepted.is_program accepted.each_star
    in
    record {
      typed = record {
        read = read;
        unit = accepted.some_unit;
        each_star = accepted.each_star;
        typed = accepted.typed;
      };
      are_rows = has.are_rows;
      goal = same;
      run = run;
      total = pos-once (all_declared x lists) proof.total (sym value ∙ least-total rows goal found proof run);
      meets = meets;
      shows = shows;
      none_smaller = none;
      least = none-declare_less text lists rows found.unit proof.total has accepted.is_program
          (subst (λ (g : Form). NoneSmaller rows.rows g found.unit proof.total) same none);
    }

-- what is refuted, and where the run stops

pub refuted-least : (text : List ℕ) (lists : ProgramLists) (rows : RowList) (goal : Form) (verdict : Verdict) →
    IsReadAs text lists → HasRows lists rows → LeastRun rows goal (least.Refuted verdict) →
    Refutes rows.stars rows.rows verdict → NoneMeet rows.stars rows.rows → IsRefused text (why.NoPotential verdict)
refuted-least text lists rows goal verdict read has run refutes none =
    refuted-answer text lists rows verdict read has (least-refuted rows goal verdict run) refutes none

pub unsolved-least : (text : List ℕ) (lists : ProgramLists) (rows : RowList) (goal : Form) (stop : Stop) →
    IsReadAs text lists → HasRows lists rows → goal ≡ goal_of lists → LeastRun rows goal (least.Unsolved stop) →
    IsProgramWith text (λ l. IsLeastUnsolved l stop)
unsolved-least text lists rows goal stop read has same run = (
  lists,
  read,
  record {
    skeletons = has.skeletons;
    ends = record {
      rows = rows;
      are_rows = has.are_rows;
      run = subst (λ (g : Form). LeastRun rows g (least.Unsolved stop)) same run;
    };
  },
)
