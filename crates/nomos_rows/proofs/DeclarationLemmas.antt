-- What is found of the functions and of the processes of a program is found of both.
use Rattle.std.proofs.Common.{◌≡◌, ◌≤◌, ◌<◌, inl, inr, ℕ, Bool, true, false, cond, nat_le, List, [], ◌∷◌, ◌++◌, All, get_or, Option, Some, None, length, refl, sym, subst, arith}
use Rattle.std.proofs.lemmas.List.Elements.{All-head, All-tail, Contains-append_left, Contains-append_right, Contains-append_cases}
use Rattle.std.proofs.lemmas.Option.{slice_get-get_or, slice_get_within}
use Rattle.nomos_ir.specs.declared.amount.Amount.{Amount}
use Rattle.nomos_ir.specs.declared.amount.Amount.TheVariants as amount
use Rattle.nomos_ir.specs.declared.code_form.CodeForm.{CodeForm}
use Rattle.nomos_ir.specs.declared.lists.ProgramLists.{ProgramLists}
use Rattle.nomos_ir.specs.Amounts.{IsAmount, star_count, most_star, amounts_of}
use Rattle.nomos_ir.specs.Program.{IsProgram}
use Rattle.nomos_equality.specs.Comparing.{Compared}
use Rattle.nomos_forms.specs.declared.form.Form.{Form}
use Rattle.nomos_forms.specs.declared.row.Row.{Row}
use Rattle.nomos_forms.specs.RowsOf.{AreRowsOf}
use Rattle.nomos_rows.proofs.TellingLemmas.{le_from, lt_from}
use Rattle.nomos_rows.specs.declared.first_fault.DeclarationFault.{DeclarationFault}
use Rattle.nomos_rows.specs.declared.first_fault.DeclarationFault.TheVariants as fault
use Rattle.nomos_ir.specs.FirstOffset.{NoneBefore}
use Rattle.nomos_rows.specs.PartFaults.{HasOtherKind, GetsStuck, IsFaulty}
use Rattle.nomos_rows.specs.mirror.Declarations.{FunctionFault, FunctionFine, ProcessFault, ProcessFine, IsFaultAt, DeclarationsFine, DeclarationsTell}
use Rattle.nomos_rows.specs.mirror.Processes.{Gathers, InRows}
use Rattle.nomos_rows.specs.mirror.FirstFault.{earliest, TellsBelow}
use Rattle.nomos_rows.specs.mirror.Ups.{IfNone}

-- the star numbers of amounts such as a program has are at most 64
few-stars : (amounts : List Amount) → All IsAmount amounts → most_star amounts ≤ 64
few-stars [] small = omega arith
few-stars (amount.Written units ∷ rest) small =
    let others = few-stars rest (All-tail IsAmount (amount.Written units) rest small) in
    omega arith
few-stars (amount.Star star ∷ rest) small =
    let others = few-stars rest (All-tail IsAmount (amount.Star star) rest small) in
    let first = All-head IsAmount (amount.Star star) rest small in
    omega (arith, first.1)

-- where neither has a fault the first of both is none, and the other way round
earliest-none : {X : Type 0} (a b : Option (ℕ × X)) → earliest a b ≡ None → b ≡ None
earliest-none None b none = none
earliest-none (Some a) None none = refl
earliest-none (Some a) (Some b) none = absurd (some-none (nat_le a.0 b.0) a b none)
  where
    some-none : {Y : Type 0} (t : Bool) (a b : Y) → cond t (Some a) (Some b) ≡ None → ⊥
    some-none true a b none = cc
    some-none false a b none = cc

module _ (lists : ProgramLists) where
  -- a program has at most 64 stars
  pub program-few_stars : IsProgram lists → star_count lists ≤ 64
  program-few_stars is_program = few-stars (amounts_of lists) is_program.amounts

  -- what is told of functions, and of processes
  abbrev FunctionsTell : Option (ℕ × DeclarationFault) → Type 0
  FunctionsTell = TellsBelow (FunctionFault lists) (FunctionFine lists) (length lists.fns)

  abbrev ProcessesTell : Option (ℕ × DeclarationFault) → Type 0
  ProcessesTell = TellsBelow (ProcessFault lists) (ProcessFine lists) (length lists.procs)

  function-at : (k at : ℕ) (f : DeclarationFault) → FunctionFault lists k at f → IsFaultAt lists at f
  function-at k at f given =
      subst (IsFaultAt lists at) (sym given.is)
      (record {
        place = k;
        function = given.function;
        declared = given.declared;
        offset = given.offset;
        other =
            given.other;
      })

  process-at : (k at : ℕ) (f : DeclarationFault) → ProcessFault lists k at f → IsFaultAt lists at f
  process-at k at f given =
      subst (IsFaultAt lists at) (sym given.is)
      (record { place = k; declaration = given.declaration; declared = given.declared; stuck = given.stuck })

  -- no function comes first
  functions-after : (least at : ℕ) → ((k n : ℕ) (f : DeclarationFault) → k < length lists.fns
      → FunctionFault lists k n f
      → least ≤ n) → HasOtherKind lists at → least ≤ at
  functions-after least at first other =
      first other.place at fault.OtherKind (slice_get_within lists.fns other.place other.function other.declared)
      (record {
        function = other.function;
        declared = other.declared;
        offset = other.offset;
        other = other.other;
        is =
            refl;
      })

  processes-after : (least at : ℕ) (form : CodeForm) → ((k n : ℕ) (f : DeclarationFault) → k < length lists.procs
      → ProcessFault lists k n f → least ≤ n) → GetsStuck lists at form → least ≤ at
  processes-after least at form first stuck =
      first stuck.place at (fault.Stuck form) (slice_get_within lists.procs stuck.place stuck.declaration
      stuck.declared)
      (record {
        declaration = stuck.declaration;
        declared = stuck.declared;
        form = form;
        stuck = stuck.stuck;
        is =
            refl;
      })

  first-of_all : (least : ℕ) → ((k n : ℕ) (f : DeclarationFault) → k < length lists.fns → FunctionFault lists k n f
      → least ≤ n) → ((k n : ℕ) (f : DeclarationFault) → k < length lists.procs → ProcessFault lists k n f → least ≤ n)
      → NoneBefore (IsFaulty lists) least
  first-of_all least functions processes other faulty =
      elim faulty [
        | inl other_kind ↦ functions-after least other functions other_kind
        | inr (form, stuck) ↦ processes-after least other form processes stuck
      ]

  module _ (function_apart : (k at : ℕ) (f : DeclarationFault) → FunctionFine lists k → FunctionFault lists k at f
      → ⊥) (process_apart : (k at : ℕ) (f : DeclarationFault) → ProcessFine lists k → ProcessFault lists k at f
      → ⊥) where
    both-told : (a b : ℕ × DeclarationFault) (t : Bool) → nat_le a.0 b.0 ≡ t → FunctionsTell (Some a)
        → ProcessesTell (Some b)
        → DeclarationsTell lists (cond t (Some a) (Some b))
    both-told a b true le functions processes =
        let lower : a.0 ≤ b.0 = le_from a.0 b.0 le in
        let (k, below, given) = functions.0 in (
          function-at k a.0 a.1 given,
          first-of_all a.0 functions.1
              (λ i n f inside stuck. let known = processes.1 i n f inside stuck in omega arith),
        )
    both-told a b false le functions processes =
        let above : b.0 < a.0 = lt_from a.0 b.0 le in
        let (k, below, given) = processes.0 in (
          process-at k b.0 b.1 given,
          first-of_all b.0 (λ i n f inside other. let known = functions.1 i n f inside
              other in omega arith) processes.1,
        )

    -- what is found of both
    pub declarations-told : (functions processes : Option (ℕ × DeclarationFault)) → FunctionsTell functions
        → ProcessesTell processes → DeclarationsTell lists (earliest functions processes)
    declarations-told None None functions processes =
        record {
          functions = λ k e inside. functions k inside (get_or lists.fns k e) (slice_get-get_or lists.fns k e inside);
          processes = λ k d declared. processes k (slice_get_within lists.procs k d declared) d declared;
        }
    declarations-told None (Some b) functions processes =
        let (k, below, given) = processes.0 in (
          process-at k b.0 b.1 given,
          first-of_all b.0 (λ i n f inside other. absurd (function_apart i n f
              (functions i inside) other)) processes.1,
        )
    declarations-told (Some a) None functions processes =
        let (k, below, given) = functions.0 in (
          function-at k a.0 a.1 given,
          first-of_all a.0 functions.1 (λ i n f inside stuck. absurd (process_apart i n f
              (processes i inside) stuck)),
        )
    declarations-told (Some a) (Some b) functions processes = both-told a b (nat_le a.0 b.0) refl functions processes

  -- where nothing is found of both the forms and pairs are gathered
  pub gathered-first : (P : Type 0) (functions processes : Option (ℕ × DeclarationFault)) → IfNone P processes
      → IfNone P (earliest functions processes)
  gathered-first P functions processes gathers = from-none (earliest functions processes) refl
    where
      from-none : (found : Option (ℕ × DeclarationFault)) → earliest functions processes ≡ found → IfNone P found
      from-none None none = subst (IfNone P) (earliest-none functions processes none) gathers
      from-none (Some a) some = tt

  -- what was gathered stands in rows
  pub gathered-in_rows : (known new : Compared) (forms : List Form) (pairs : List (Amount
      × Amount)) (rows : List Row) → DeclarationsFine lists → Gathers lists
      (length lists.procs) known new forms pairs → AreRowsOf (star_count lists) forms (pairs ++ new.amounts) rows
      → InRows lists known rows
  gathered-in_rows known new forms pairs rows fine gathers are =
      record {
        fine = fine;
        forms = forms;
        pairs = pairs ++ new.amounts;
        points = gathers.points;
        asked =
            λ p. (
              λ among. (gathers.asked p).0 (Contains-append_cases pairs new.amounts p among),
              λ given.
                  elim ((gathers.asked p).1 given) [
                    | inl its ↦ Contains-append_left pairs new.amounts p its
                    | inr compared ↦ Contains-append_right pairs new.amounts p compared
                  ],
            );
        are_rows = are;
      }
