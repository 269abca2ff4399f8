-- A cause of refusal rules out all amounts: a text of which one is true is typed under none.
use Rattle.std.proofs.Common.{◌≡◌, ◌≤◌, ℕ, List, length, Some, None, sym, subst, ◌∙◌, arith}
use Rattle.nomos_accept.proofs.AcceptLaws.{one-tree, one-program}
use Rattle.nomos_accept.proofs.RefusalLemmas.{offends-not_obeying, bare-not_contractive}
use Rattle.nomos_accept.proofs.StepLemmas.{not_ascii-not_plain}
use Rattle.nomos_accept.specs.AcceptedText.{IsOffence, IsCauseOf, IsRefuted}
use Rattle.nomos_accept.specs.TypedText.{IsReadAs, IsTypedAs, IsNeverTypedText}
use Rattle.nomos_accept.specs.declared.why.Why.{Why}
use Rattle.nomos_accept.specs.declared.why.Why.TheVariants as why
use Rattle.nomos_elaborate.specs.FileClaims.{claims_of}
use Rattle.nomos_elaborate.specs.NameClaim.{first_broken}
use Rattle.nomos_forms.proofs.CertificateLaws.{none_meet}
use Rattle.nomos_forms.specs.Meeting.{MeetsRows}
use Rattle.nomos_forms.specs.declared.verdict.Verdict.{Verdict}
use Rattle.nomos_grammar.specs.declared.offence.GrammarError.{GrammarError}
use Rattle.nomos_grammar.specs.declared.offence.GrammarError.TheVariants as grammar
use Rattle.nomos_ir.specs.Amounts.{star_count}
use Rattle.nomos_ir.specs.Limits.{text_limit}
use Rattle.nomos_ir.specs.declared.lists.ProgramLists.{ProgramLists}
use Rattle.nomos_reader.proofs.ParsingLaws.{refused-none}
use Rattle.nomos_elaborate.specs.WrittenWork.{written_work}
use Rattle.nomos_rows.proofs.MeetingLaws.{program-rows-law}
use Rattle.nomos_rows.specs.PartFaults.{IsNeverTyped}
use Rattle.nomos_surface.specs.Tree.{FileTree}
use Rattle.nomos_types.specs.Amount.{Annotations, HasUnit}
use Rattle.nomos_types.specs.Typed.{IsTypedProgram}

-- a text that the grammar refuses reads as no program
offence-unread : (text : List ℕ) (e : GrammarError) (lists : ProgramLists) → (e ≡ grammar.NoMemory → ⊥)
    → IsOffence text e → ¬ IsReadAs text lists
offence-unread text e lists some offence read =
    (refused-none text e some offence.plain offence.refused).none read.tree read.reads

-- a program that is typed under no amounts
never-here : (text : List ℕ) (lists other : ProgramLists) (x : Annotations) → IsReadAs text lists
    → IsReadAs text other → IsTypedProgram lists x → IsNeverTyped other → ⊥
never-here text lists other x read again typed never =
    never x (subst (λ (l : ProgramLists). IsTypedProgram l x) (one-program text lists other read again) typed)

-- A text of which a cause is true, and that reads as a program that is typed under some amounts, skeletons too, is
-- refused for its potential: weights refute the rows of the program.
pub cause-refutes : (text : List ℕ) (v : Why) (lists : ProgramLists) (x : Annotations) → IsCauseOf text v
    → IsReadAs text lists → IsTypedProgram lists x
    → (verdict : Verdict) × IsRefuted lists verdict
cause-refutes text why.TooLong lists x long read typed =
    absurd (let short : length text ≤ text_limit = read.reads.plain.length_limit in omega (arith, long, short))
cause-refutes text (why.NotAscii at) lists x first read typed =
    absurd (not_ascii-not_plain text at first read.reads.plain)
cause-refutes text (why.Syntax at) lists x offence read typed =
    absurd (offence-unread text (grammar.Syntax at) lists (λ same. absurd cc) offence read)
cause-refutes text (why.Limit which at) lists x offence read typed =
    absurd (offence-unread text (grammar.Limit which at) lists (λ same. absurd cc) offence read)
cause-refutes text (why.Name at) lists x (tree, reads, broken) read typed =
    let same : read.tree ≡ tree = one-tree text read.tree tree read.reads reads in
    let obeys : first_broken (claims_of tree) ≡ None =
    subst (λ (t : FileTree). first_broken (claims_of t) ≡ None) same read.elaborates.names in
    let both : None ≡ Some at = sym obeys ∙ broken in
    absurd cc
cause-refutes text (why.Cost at) lists x (tree, reads, breaks) read typed =
    let same : read.tree ≡ tree = one-tree text read.tree tree read.reads reads in
    let obeys : written_work tree ≡ None =
    subst (λ (t : FileTree). written_work t ≡ None) same read.elaborates.costs in
    let both : None ≡ Some at = sym obeys ∙ breaks.work in
    absurd cc
cause-refutes text (why.Contractive at) lists x (other, again, bare) read typed =
    absurd (never-here text lists other x read again typed
    (λ y is. bare-not_contractive other at bare is.formed.contractive))
cause-refutes text (why.Mode at) lists x (other, again, both) read typed =
    let (t, offends, stands) = both.1.there in
    absurd (never-here text lists other x read again typed
    (λ y is. offends-not_obeying other t offends is.formed.modes))
cause-refutes text (why.NotSync at path) lists x (other, again, both) read typed =
    let (astray, first, never) = both.1 in absurd (never-here text lists other x read again typed never)
cause-refutes text (why.TermType at) lists x (other, again, both) read typed =
    let (back, kind, first, never) = both.1 in absurd (never-here text lists other x read again typed never)
cause-refutes text (why.ProcType at form) lists x (other, again, both) read typed =
    let (back, stuck, first, never) = both.1 in absurd (never-here text lists other x read again typed never)
cause-refutes text (why.NoPotential verdict) lists x (other, again, refuted) read typed =
    let same : other ≡ lists = one-program text other lists again read in
    (verdict, subst (λ (l : ProgramLists). IsRefuted l verdict) same refuted)

-- a program of which weights refute the rows is typed under no amounts over any unit
refuted-never : (lists : ProgramLists) (verdict : Verdict) → IsRefuted lists verdict → (x : Annotations) → HasUnit x
    → length x.stars ≡ star_count lists → ¬ IsTypedProgram lists x
refuted-never lists verdict refuted x unit width typed =
    let rows = refuted.ends.rows in
    let are = refuted.ends.are_rows in
    let meets : MeetsRows x.stars x.unit rows.rows =
    (program-rows-law typed.formed refuted.skeletons are.of_program x width).0 typed in
    none_meet rows.stars rows.rows verdict rows.each refuted.refutes x.stars x.unit (width ∙ sym are.stars) unit meets

-- a text of which a cause is true is typed under no amounts
pub cause-never : (text : List ℕ) (v : Why) → IsCauseOf text v → IsNeverTypedText text
cause-never text v cause = λ lists x typed.
    let (verdict, refuted) = cause-refutes text v lists x cause typed.read typed.typed in
    refuted-never lists verdict refuted x typed.unit typed.each_star typed.typed

-- a text that is typed under some amounts has no cause
pub typed-no_cause : (text : List ℕ) (lists : ProgramLists) (x : Annotations) → IsTypedAs text lists x → (v : Why)
    → ¬ IsCauseOf text v
typed-no_cause text lists x typed v cause = cause-never text v cause lists x typed
