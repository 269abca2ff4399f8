-- The law of rows of a program: it is typed under amounts exactly where each of its parts has a skeleton, its
-- declarations afford what they have to, and the amounts of each pair that it asks for are worth the same.
use Rattle.std.proofs.Common.{◌≡◌, ◌↔◌, ℕ, get_or, Some, slice_get}
use Rattle.std.proofs.lemmas.Option.{slice_get-get_or}
use Rattle.nomos_ir.proofs.NodeLaws.{All-at}
use Rattle.nomos_ir.specs.declared.amount.Amount.{Amount}
use Rattle.nomos_ir.specs.declared.declaration.ProcDecl.{ProcDecl}
use Rattle.nomos_ir.specs.declared.lists.ProgramLists.{ProgramLists}
use Rattle.nomos_types.specs.Amount.{Annotations, dths}
use Rattle.nomos_types.specs.Derivation.{Derives, HasSkeleton}
use Rattle.nomos_types.specs.Equality.{no_amounts}
use Rattle.nomos_types.specs.Judgement.{start_of}
use Rattle.nomos_types.specs.Typed.{IsTypedProgram, HasSkeletons, IsWellFormed}
use Rattle.nomos_check.specs.Account.{Account, Affords}
use Rattle.nomos_check.specs.Asking.{IsAsked}
use Rattle.nomos_check.specs.Reaching.{outset_of, IsPoint}
use Rattle.nomos_check.proofs.AccountsLaws.{DerivesByAccounts, rows-law}
use Rattle.nomos_rows.specs.ProgramRows.{IsProgramPair, leads_back, asked}
use Rattle.nomos_rows.proofs.SharedLaws.{synchronizing-exact}

-- each declaration affords the account at each of its points
abbrev pub AffordsPoints : ProgramLists → Annotations → Type 0
AffordsPoints lists x =
    (p : ℕ) (d : ProcDecl) (a : Account) → slice_get lists.procs p ≡ Some d → IsPoint lists (outset_of lists d) a
    → Affords x a

-- the two amounts of each pair of the program are worth the same
abbrev pub PairsAlike : ProgramLists → Annotations → Type 0
PairsAlike lists x = (pair : Amount × Amount) → IsProgramPair lists pair → dths x pair.0 ≡ dths x pair.1

-- what the amounts of a program have to meet
pub record MeetsProgram (lists : ProgramLists) (x : Annotations) : Type 0 where
  pub skeletons : HasSkeletons lists
  pub points : AffordsPoints lists x
  pub pairs : PairsAlike lists x

module _ {lists : ProgramLists} (formed : IsWellFormed lists) (x : Annotations) where
  -- the law for one declaration
  declaration-law : (p : ℕ) (d : ProcDecl) → slice_get lists.procs p ≡ Some d
      → DerivesByAccounts lists x (start_of lists x d) (outset_of lists d)
  declaration-law p d declared = rows-law formed p d declared x

  -- what a typed program gives for each declaration
  typed-declaration : IsTypedProgram lists x → (p : ℕ) (d : ProcDecl) → slice_get lists.procs p ≡ Some d
      → HasSkeleton lists d × ((a : Account) → IsPoint lists (outset_of lists d) a → Affords x a)
      × ((q : Amount × Amount) → IsAsked lists (outset_of lists d) q → dths x q.0 ≡ dths x q.1)
  typed-declaration typed p d declared =
      let Has : ProcDecl → Type 0 = λ e. Derives lists x (start_of lists x e) in
      (declaration-law p d declared).0 (All-at Has lists.procs p d typed.procs declared)

  -- the amounts of each pair
  typed-pairs : IsTypedProgram lists x → PairsAlike lists x
  typed-pairs typed pair (leads_back shared body up stands) =
      ((synchronizing-exact lists x).0 typed.synchronizing).1 shared body pair up stands
  typed-pairs typed pair (asked p d declared is) = (typed-declaration typed p d declared).2 pair is

  -- what a typed program meets
  typed-meets : IsTypedProgram lists x → MeetsProgram lists x
  typed-meets typed =
      record {
        skeletons = record {
          formed = formed;
          synchronizing = ((synchronizing-exact lists x).0 typed.synchronizing).0;
          functions = typed.functions;
          procs =
              λ k e inside.
              (typed-declaration typed k (get_or lists.procs k e) (slice_get-get_or lists.procs k e inside)).0;
        };
        points = λ p d a declared point. (typed-declaration typed p d declared).1 a point;
        pairs = typed-pairs typed;
      }

  -- what meets all that is asked of a program is typed
  meets-typed : MeetsProgram lists x → IsTypedProgram lists x
  meets-typed meets =
      let HasOne : ProcDecl → Type 0 = λ e. Derives lists no_amounts (start_of lists no_amounts e) in
      record {
        formed = formed;
        synchronizing =
            (synchronizing-exact lists x).1 (
              meets.skeletons.synchronizing,
              λ shared body pair up stands. meets.pairs pair
                  (leads_back shared body up stands),
            );
        functions = meets.skeletons.functions;
        procs =
            λ k e inside.
            let d = get_or lists.procs k e in
            let declared = slice_get-get_or lists.procs k e inside in
            let skeleton = All-at HasOne lists.procs k d meets.skeletons.procs declared in
            (declaration-law k d declared).1
            (skeleton, λ a point. meets.points k d a declared point, λ q is. meets.pairs q (asked k d declared is));
      }

  -- the law
  pub program-law : IsTypedProgram lists x ↔ MeetsProgram lists x
  program-law = (typed-meets, meets-typed)
