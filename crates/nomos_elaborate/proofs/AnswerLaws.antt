-- What the code answers is what is to be answered.
use Rattle.std.proofs.Common.{◌≡◌, ℕ, Option, Some, None, Ok, Err, refl, sym, ◌∙◌}
use Rattle.nomos_elaborate.proofs.FileLaws.{lists_law}
use Rattle.nomos_elaborate.specs.Elaborated.{Answers, ObeysNames}
use Rattle.nomos_elaborate.specs.NameClaim.{first_broken}
use Rattle.nomos_elaborate.specs.FileBuild.{program_of}
use Rattle.nomos_elaborate.specs.FileClaims.{claims_of}
use Rattle.nomos_elaborate.specs.WrittenWork.{written_work}
use Rattle.nomos_elaborate.specs.declared.elab_error.ElabError.{ElabError}
use Rattle.nomos_elaborate.specs.declared.elab_error.ElabError.TheVariants as error
use Rattle.nomos_elaborate.specs.mirror.Agrees.{unless_broken}
use Rattle.nomos_elaborate.specs.mirror.Checked.{found, broken, Stops}
use Rattle.nomos_elaborate.specs.mirror.FileCheck.{check_lists}
use Rattle.nomos_ir.specs.declared.lists.ProgramLists.{ProgramLists}
use Rattle.nomos_surface.specs.Tree.{FileTree}

broken_at : {A : Type 0} (o : Option ℕ) (x : A) (at : ℕ) → unless_broken o x ≡ broken at → o ≡ Some at
broken_at None x at e = cc
broken_at (Some k) x at e = cc

none_broken : {A : Type 0} (o : Option ℕ) (x y : A) → unless_broken o x ≡ found y → (o ≡ None) × (y ≡ x)
none_broken None x y e = (refl, cc)
none_broken (Some k) x y e = cc

-- an early end
pub stop_answers : (tree : FileTree) (e : ElabError) → Stops e (check_lists tree) → Answers tree (Err e)
stop_answers tree (error.Name at) h =
    broken_at (first_broken (claims_of tree)) (program_of tree) at (sym (lists_law tree) ∙ h)
stop_answers tree (error.Cost at) h = absurd h
stop_answers tree error.NoMemory h = tt

-- lists that were found
pub found_lists : (tree : FileTree) (lists : ProgramLists) → check_lists tree ≡ found lists
    → ObeysNames tree × (lists ≡ program_of tree)
found_lists tree lists h =
    none_broken (first_broken (claims_of tree)) (program_of tree) lists (sym (lists_law tree) ∙ h)

pub cost_answers : (tree : FileTree) (lists : ProgramLists) (work : Option ℕ) (at : ℕ) → check_lists tree ≡ found lists
    → work ≡ written_work tree → work ≡ Some at → Answers tree (Err (error.Cost at))
cost_answers tree lists work at h w s = record { names = (found_lists tree lists h).0; work = sym w ∙ s }

pub lists_answer : (tree : FileTree) (lists : ProgramLists) (work : Option ℕ) → check_lists tree ≡ found lists
    → work ≡ written_work tree → work ≡ None → Answers tree (Ok lists)
lists_answer tree lists work h w s =
    record { names = (found_lists tree lists h).0; costs = sym w ∙ s; program = (found_lists tree lists h).1 }
