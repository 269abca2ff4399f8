-- What is found of the parts of a program is found of the program.
use Rattle.std.proofs.Common.{◌≡◌, ◌⊎◌, inl, inr, ℕ, List, Contains, Some, None, length, get_or, arith}
use Rattle.std.proofs.lemmas.Option.{slice_get-get_or, slice_get_within}
use Rattle.nomos_ir.proofs.NodeLaws.{All-at}
use Rattle.nomos_ir.specs.declared.amount.Amount.{Amount}
use Rattle.nomos_ir.specs.declared.declaration.FnDecl.{FnDecl}
use Rattle.nomos_ir.specs.declared.lists.ProgramLists.{ProgramLists}
use Rattle.nomos_ir.specs.Amounts.{star_count}
use Rattle.nomos_ir.specs.TermKind.{HasKind}
use Rattle.nomos_equality.proofs.PathLaws.{there-below}
use Rattle.nomos_equality.specs.Comparing.{Compared, nothing_compared}
use Rattle.nomos_equality.specs.declared.hop.Hop.{Hop}
use Rattle.nomos_forms.specs.declared.row_list.RowList.{RowList}
use Rattle.nomos_equality.proofs.SyncLaws.{offends-not_synchronizing}
use Rattle.nomos_types.specs.Derivation.{Derives}
use Rattle.nomos_types.specs.Equality.{no_amounts}
use Rattle.nomos_types.specs.Judgement.{start_of}
use Rattle.nomos_types.specs.Synchronizing.{IsSynchronizing}
use Rattle.nomos_types.specs.Typed.{IsWellFormed}
use Rattle.nomos_check.proofs.RowsLaws.{derives-skeleton}
use Rattle.nomos_check.proofs.StuckLaws.{stuck-no_skeleton}
use Rattle.nomos_rows.specs.declared.program_rows.RowsError.TheVariants as error
use Rattle.nomos_rows.specs.declared.first_fault.DeclarationFault.{DeclarationFault}
use Rattle.nomos_rows.specs.declared.first_fault.DeclarationFault.TheVariants as fault
use Rattle.nomos_rows.specs.PartFaults.{LeadsAstray, HasOtherKind, GetsStuck, IsNeverTyped, IsCause}
use Rattle.nomos_rows.specs.ProgramRows.{IsProgramPair, leads_back, asked}
use Rattle.nomos_rows.specs.mirror.PartAnswers.{error_of, HasRows}
use Rattle.nomos_rows.specs.mirror.Declarations.{IsFirstOfAll}
use Rattle.nomos_rows.specs.mirror.Processes.{AsksFor, InRows}
use Rattle.nomos_rows.specs.mirror.FirstFault.{SomeBelow, TellsBelow}
use Rattle.nomos_rows.specs.mirror.Ups.{GoesAstray, GoesBack, PairsBelow}

module _ {lists : ProgramLists} where
  -- a shared type that leads astray rules out every typing
  astray-never : (at : ℕ) (path : List Hop) → LeadsAstray lists at path → IsNeverTyped lists
  astray-never at path astray x typed =
      offends-not_synchronizing lists x astray.body astray.shared path astray.offends
      (typed.synchronizing astray.shared astray.body astray.is_up)

  -- so does a function of another kind
  other-never : (at : ℕ) → HasOtherKind lists at → IsNeverTyped lists
  other-never at other x typed =
      let Has : FnDecl → Type 0 = λ f. HasKind lists f.pars f.body f.gives in
      other.other (All-at Has lists.fns other.place other.function typed.functions other.declared)

  -- and an instruction that is stuck
  stuck-never : (at : ℕ) (form : _) → GetsStuck lists at form → IsNeverTyped lists
  stuck-never at form stuck x typed =
      let Has : _ → Type 0 = λ d. Derives lists x (start_of lists x d) in
      let derivation = All-at Has lists.procs stuck.place stuck.declaration typed.procs stuck.declared in
      stuck-no_skeleton stuck.place typed.formed stuck.declared stuck.stuck.stuck
      (derives-skeleton stuck.place x typed.formed stuck.declared derivation)

  -- the first shared type that goes astray is the cause
  pub astray-cause : (a : ℕ × List Hop) → TellsBelow (GoesAstray lists) (GoesBack lists) (length lists.types)
      (Some a) → IsCause lists (error.NotSync a.0 a.1)
  astray-cause a ((t, below, astray), first) =
      let leads : LeadsAstray lists a.0 a.1 = record {
        shared = record { 0 = t };
        body = astray.body;
        is_up =
            astray.is_up;
        offset = astray.offset;
        offends = astray.offends;
      } in (
        leads,
        λ other (p, given).
            first given.shared.0 other p (there-below lists given.shared.0 _ given.is_up)
            (record { body = given.body; is_up = given.is_up; offset = given.offset; offends = given.offends }),
        astray-never a.0 a.1 leads,
      )

  -- where all shared types go back the program is synchronizing in shape
  pub back-synchronizing : TellsBelow (GoesAstray lists) (GoesBack lists) (length lists.types) None
      → IsSynchronizing lists no_amounts
  back-synchronizing back t a up = back t.0 (there-below lists t.0 _ up) a up

  -- the first fault of a function or a process is the cause
  pub fault-cause : IsSynchronizing lists no_amounts → (at : ℕ) (f : DeclarationFault) → IsFirstOfAll lists (at, f)
      → IsCause lists (error_of at f)
  fault-cause synchronizing at fault.OtherKind (other, first) = (synchronizing, other, first, other-never at other)
  fault-cause synchronizing at (fault.Stuck form) (stuck, first) =
      (synchronizing, stuck, first, stuck-never at form stuck)

  -- the pairs that lead back, and those that are asked for
  pub program-pairs : (known : Compared) → PairsBelow lists (length lists.types) nothing_compared known
      → (p : Amount × Amount) → (Contains known.amounts p ⊎ SomeBelow (length lists.procs) (AsksFor lists p)
      → IsProgramPair lists p) × (IsProgramPair lists p → Contains known.amounts p
      ⊎ SomeBelow (length lists.procs) (AsksFor lists p))
  program-pairs known pairs p = (
    λ given.
        elim given [
          | inl among ↦
              elim ((pairs p).0 among) [
                | inl none ↦ absurd (let below = none.1 in omega arith)
                | inr (t, below, behind) ↦ leads_back (record { 0 = t }) behind.body behind.is_up behind.stand
              ]
          | inr (k, below, (d, declared, asks)) ↦ asked k d declared asks
        ],
    λ is. program-pair-known is,
  )
    where
      program-pair-known : {q : Amount × Amount} → IsProgramPair lists q → Contains known.amounts q
          ⊎ SomeBelow (length lists.procs) (AsksFor lists q)
      program-pair-known {q} (leads_back shared body up stands) =
          inl ((pairs q).1 (inr (
            shared.0,
            there-below lists shared.0 _ up,
            record {
              body = body;
              is_up = up;
              stand =
                  stands;
            },
          )))
      program-pair-known (asked k d declared asks) = inr (
        k,
        slice_get_within lists.procs k d declared,
        (d, declared, asks),
      )

  -- the rows of the program
  pub rows-found : IsWellFormed lists → TellsBelow (GoesAstray lists) (GoesBack lists) (length lists.types) None
      → (known : Compared) → PairsBelow lists (length lists.types) nothing_compared known → (made : RowList)
      → made.stars ≡ star_count lists → InRows lists known made.rows → HasRows lists made
  rows-found formed back known pairs made stars inside =
      record {
        stars = stars;
        skeletons = record {
          formed = formed;
          synchronizing = back-synchronizing back;
          functions = inside.fine.functions;
          procs = λ k e below. inside.fine.processes k (get_or lists.procs k e)
              (slice_get-get_or lists.procs k e below);
        };
        are_rows = record {
          forms = inside.forms;
          pairs = inside.pairs;
          are_forms =
              λ f. (
                λ among.
                    let (k, below, (d, declared, is)) = (inside.points f).0 among in
                    record { place = k; declaration = d; declared = declared; is_form = is },
                λ is.
                    (inside.points f).1 (
                      is.place,
                      slice_get_within lists.procs is.place is.declaration is.declared,
                      (is.declaration, is.declared, is.is_form),
                    ),
              );
          are_pairs =
              λ p. (
                λ among. (program-pairs known pairs p).0 ((inside.asked p).0 among),
                λ is. (inside.asked p).1 ((program-pairs known pairs p).1 is),
              );
          are_rows = inside.are_rows;
        };
      }
