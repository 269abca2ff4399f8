-- The law of rows of a program, over its rows: where it has a skeleton in every part, it is typed under exactly those
-- amounts that meet its rows.
use Rattle.std.proofs.Common.{◌≡◌, ◌↔◌, ◌≤ℤ◌, pos, List, All, length, refl, sym, subst, ◌∙◌}
use Rattle.std.proofs.lemmas.List.Elements.{All-contains}
use Rattle.nomos_ir.specs.declared.amount.Amount.{Amount}
use Rattle.nomos_ir.specs.declared.amount.Amount.TheVariants as amount
use Rattle.nomos_ir.specs.declared.lists.ProgramLists.{ProgramLists}
use Rattle.nomos_ir.specs.Amounts.{star_count}
use Rattle.nomos_forms.proofs.RowLaws.{rows_met}
use Rattle.nomos_forms.specs.Bounds.{IsPairUpTo}
use Rattle.nomos_forms.specs.declared.form.Form.{Form}
use Rattle.nomos_forms.specs.declared.row.Row.{Row}
use Rattle.nomos_forms.specs.Linear.{form_value, worth}
use Rattle.nomos_forms.specs.Meeting.{MeetsRows}
use Rattle.nomos_types.specs.Amount.{Annotations, dths}
use Rattle.nomos_types.specs.Typed.{IsTypedProgram, HasSkeletons, IsWellFormed}
use Rattle.nomos_check.proofs.PairLaws.{paths-up_to, asked-up_to}
use Rattle.nomos_check.proofs.RowsLaws.{point-affords, all-from}
use Rattle.nomos_check.specs.Account.{form_of}
use Rattle.nomos_rows.specs.ProgramRows.{IsProgramForm, IsProgramPair, leads_back, asked, AreProgramRows, IsTypedByRows}
use Rattle.nomos_rows.proofs.ProgramLaws.{program-law}

-- an amount is worth what it is in Dths
worth-dths : (x : Annotations) (r : Amount) → worth x.stars x.unit r ≡ dths x r
worth-dths x (amount.Written units) = refl
worth-dths x (amount.Star star) = refl

module _ {lists : ProgramLists} (formed : IsWellFormed lists) where
  -- the pairs of a program have its stars
  pub program_pair-up_to : (pair : Amount × Amount) → IsProgramPair lists pair → IsPairUpTo (star_count lists) pair
  program_pair-up_to pair (leads_back shared body up stands) = paths-up_to formed.program stands.stand
  program_pair-up_to pair (asked p d declared is) = asked-up_to p formed declared is

  module _ {rows : List Row} (are : AreProgramRows lists (star_count lists) rows) (x : Annotations)
      (width : length x.stars ≡ star_count lists) where
    abbrev IsMet : Form → Type 0
    IsMet f = pos 0 ≤ℤ form_value x.stars x.unit f

    abbrev AreWorth : Amount × Amount → Type 0
    AreWorth q = worth x.stars x.unit q.0 ≡ worth x.stars x.unit q.1

    -- what the rows say
    rows-say : MeetsRows x.stars x.unit rows ↔ (All IsMet are.forms × All AreWorth are.pairs)
    rows-say =
        rows_met (star_count lists) are.forms are.pairs rows x.stars x.unit are.are_rows
        (all-from (IsPairUpTo (star_count lists)) are.pairs (λ q among. program_pair-up_to q
        ((are.are_pairs q).0 among))) width

    -- amounts under which the program is typed meet the rows
    typed-meets_rows : IsTypedProgram lists x → MeetsRows x.stars x.unit rows
    typed-meets_rows typed =
        let meets = (program-law formed x).0 typed in
        let met : (f : Form) → IsProgramForm lists (star_count lists) f → IsMet f =
        λ f is.
        subst IsMet (sym is.is_form.same)
        ((point-affords is.place x formed is.declared is.is_form.point width).1
        (meets.points is.place is.declaration is.is_form.account is.declared is.is_form.point))
        in
        rows-say.1 (
          all-from IsMet are.forms (λ f among. met f ((are.are_forms f).0 among)),
          all-from AreWorth are.pairs (λ q among. worth-dths x q.0 ∙ meets.pairs q ((are.are_pairs q).0 among) ∙ sym
              (worth-dths x q.1)),
        )

    -- under amounts that meet the rows the program is typed
    rows-typed : HasSkeletons lists → MeetsRows x.stars x.unit rows → IsTypedProgram lists x
    rows-typed skeletons meets =
        let (forms, pairs) = rows-say.0 meets in
        (program-law formed x).1
        (record {
          skeletons = skeletons;
          points =
              λ p d a declared point.
              let f = form_of (star_count lists) a in
              let is : IsProgramForm lists (star_count lists) f = record {
                place = p;
                declaration = d;
                declared =
                    declared;
                is_form = record { account = a; point = point; same = refl };
              } in
              (point-affords p x formed declared point width).0 (All-contains IsMet are.forms f forms
              ((are.are_forms f).1 is));
          pairs =
              λ q is.
              sym (worth-dths x q.0) ∙ All-contains AreWorth are.pairs q pairs
              ((are.are_pairs q).1 is) ∙ worth-dths x q.1;
        })

  -- the law
  pub program-rows-law : {rows : List Row} → HasSkeletons lists → AreProgramRows lists (star_count lists) rows
      → IsTypedByRows lists (star_count lists) rows
  program-rows-law skeletons are x width = (typed-meets_rows are x width, rows-typed are x width skeletons)
