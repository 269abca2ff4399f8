-- A text is refused by one step of the checker at most, and at one place; a stuck instruction has one form.
use Rattle.std.proofs.Common.{◌≡◌, ◌≢◌, ◌<◌, ℕ, zero, suc, List, Option, Some, None, length, slice_get, inl, inr, refl, sym, ap, subst, ◌∙◌, arith}
use Rattle.nomos_accept.proofs.AcceptLaws.{one-tree, one-program}
use Rattle.nomos_accept.proofs.OneFormLaws.{tells-once, kind-told, stuck-told}
use Rattle.nomos_accept.proofs.StepLemmas.{one-step}
use Rattle.nomos_accept.specs.AcceptedText.{ReadsWith, IsOffence, IsCauseOf}
use Rattle.nomos_accept.specs.TypedText.{IsReadAs}
use Rattle.nomos_accept.specs.Causes.{step_of, offset_of, limit_of, form_of, SameCause}
use Rattle.nomos_accept.specs.declared.why.Why.{Why}
use Rattle.nomos_accept.specs.declared.why.Why.TheVariants as why
use Rattle.nomos_elaborate.proofs.InstructionLaws.{Tells}
use Rattle.nomos_elaborate.specs.NameClaim.{first_broken}
use Rattle.nomos_elaborate.specs.FileClaims.{claims_of}
use Rattle.nomos_elaborate.specs.WrittenWork.{written_work}
use Rattle.nomos_grammar.proofs.OffenceLaws.{error_once}
use Rattle.nomos_grammar.specs.declared.offence.GrammarError.{GrammarError}
use Rattle.nomos_grammar.specs.declared.offence.GrammarError.TheVariants as grammar
use Rattle.nomos_grammar.specs.declared.offence.Which.{Which}
use Rattle.nomos_ir.proofs.FirstOffsetLaws.{first-once}
use Rattle.nomos_ir.specs.FirstOffset.{IsFirstAt}
use Rattle.nomos_ir.specs.declared.lists.ProgramLists.{ProgramLists}
use Rattle.nomos_rows.specs.PartFaults.{IsAstray, IsFaulty}
use Rattle.nomos_surface.specs.Tree.{FileTree}
use Rattle.nomos_syntax.specs.Scan.{tokens_of}
use Rattle.nomos_syntax.specs.Spans.{IsFirstNotAscii}
use Rattle.nomos_ir.specs.declared.type_node.Def.{Def}
use Rattle.nomos_types.specs.Forming.{StandsAtOffset, OffendsAt, IsFirstBareName}

-- what an error of the grammar names
abbrev offset_in : GrammarError → Option ℕ
offset_in (grammar.Syntax at) = Some at
offset_in (grammar.Limit which at) = Some at
offset_in grammar.NoMemory = None

abbrev limit_in : GrammarError → Option Which
limit_in (grammar.Syntax at) = None
limit_in (grammar.Limit which at) = Some which
limit_in grammar.NoMemory = None

-- the text reads as a program of which this holds at the offset
abbrev IsPlaced : (ProgramLists → ℕ → Type 0) → List ℕ → Option ℕ → Type 0
IsPlaced P text o = (lists : ProgramLists) × (at : ℕ) × IsReadAs text lists × P lists at × (o ≡ Some at)

-- the text reads as a program in which this is the first that stands in some way
abbrev IsFirstPlaced : (ProgramLists → ℕ → Type 0) → List ℕ → Option ℕ → Type 0
IsFirstPlaced Stands = IsPlaced (λ lists. IsFirstAt (Stands lists))

-- the offset and the limit that a step finds
abbrev Finds : ℕ → List ℕ → Option ℕ → Option Which → Type 0
Finds zero text o l = (o ≡ None) × (l ≡ None)
Finds (suc zero) text o l = ((at : ℕ) × IsFirstNotAscii text at × (o ≡ Some at)) × (l ≡ None)
Finds (suc (suc zero)) text o l =
    (e : GrammarError) × (e ≡ grammar.NoMemory → ⊥) × IsOffence text e × (o ≡ offset_in e) × (l ≡ limit_in e)
Finds (suc (suc (suc zero))) text o l = ReadsWith text (λ tree. first_broken (claims_of tree) ≡ o) × (l ≡ None)
Finds (suc (suc (suc (suc zero)))) text o l = ReadsWith text (λ tree. written_work tree ≡ o) × (l ≡ None)
Finds (suc (suc (suc (suc (suc zero))))) text o l = IsPlaced IsFirstBareName text o × (l ≡ None)
Finds (suc (suc (suc (suc (suc (suc zero)))))) text o l = IsFirstPlaced OffendsAt text o × (l ≡ None)
Finds (suc (suc (suc (suc (suc (suc (suc zero))))))) text o l = IsFirstPlaced IsAstray text o × (l ≡ None)
Finds (suc (suc (suc (suc (suc (suc (suc (suc zero)))))))) text o l = IsFirstPlaced IsFaulty text o × (l ≡ None)
Finds _ text o l = (o ≡ None) × (l ≡ None)

-- what the cause names is what its step finds
finds : (text : List ℕ) (v : Why) → IsCauseOf text v → Finds (step_of v) text (offset_of v) (limit_of v)
finds text why.TooLong long = (refl, refl)
finds text (why.NotAscii at) first = ((at, first, refl), refl)
finds text (why.Syntax at) offence = (grammar.Syntax at, (λ e. absurd cc), offence, refl, refl)
finds text (why.Limit which at) offence = (grammar.Limit which at, (λ e. absurd cc), offence, refl, refl)
finds text (why.Name at) (tree, reads, broken) = ((tree, reads, broken), refl)
finds text (why.Cost at) (tree, reads, breaks) = ((tree, reads, breaks.work), refl)
finds text (why.Contractive at) (lists, read, bare) = ((lists, at, read, bare, refl), refl)
finds text (why.Mode at) (lists, read, both) = ((lists, at, read, both.1, refl), refl)
finds text (why.NotSync at path) (lists, read, both) =
    let (astray, first, never) = both.1 in
    ((lists, at, read, record { there = (path, astray); first = first }, refl), refl)
finds text (why.TermType at) (lists, read, both) =
    let (back, other, first, never) = both.1 in
    ((lists, at, read, record { there = inl other; first = first }, refl), refl)
finds text (why.ProcType at form) (lists, read, both) =
    let (back, stuck, first, never) = both.1 in
    ((lists, at, read, record { there = inr (form, stuck); first = first }, refl), refl)
finds text (why.NoPotential verdict) cause = (refl, refl)

-- the first bare name is one
bare_below : (lists : ProgramLists) (a b : ℕ) (first : IsFirstBareName lists a) (other : IsFirstBareName lists b)
    → first.place < other.place → ⊥
bare_below lists a b first other less = other.first first.place first.def less first.there _ first.bare

bare-once : (lists : ProgramLists) (a b : ℕ) → IsFirstBareName lists a → IsFirstBareName lists b → a ≡ b
bare-once lists a b first other =
    let below : ¬ (first.place < other.place) = bare_below lists a b first other in
    let above : ¬ (other.place < first.place) = bare_below lists b a other first in
    let same : first.place ≡ other.place = omega (arith, below, above) in
    let there : Some first.def ≡ Some other.def =
    sym first.there ∙ (ap (λ k. slice_get lists.defs k) same ∙ other.there) in
    let def : first.def ≡ other.def = cc in
    let offset = subst (λ (d : Def). StandsAtOffset lists d.body b) (sym def) other.offset in
    let both : Some a ≡ Some b = sym first.offset ∙ offset in
    cc

-- what is at one place of each program is at one place of a text
placed-once : (P : ProgramLists → ℕ → Type 0) → ((lists : ProgramLists) (a b : ℕ) → P lists a → P lists b → a ≡ b)
    → (text : List ℕ) (o p : Option ℕ) → IsPlaced P text o → IsPlaced P text p → o ≡ p
placed-once P once text o p (lists, at, read, is, e) (other, to, again, is_too, f) =
    let same : other ≡ lists = one-program text other lists again read in
    let one : at ≡ to = once lists at to is (subst (λ (l : ProgramLists). P l to) same is_too) in
    e ∙ (ap Some one ∙ sym f)

first-placed-once : (Stands : ProgramLists → ℕ → Type 0) (text : List ℕ) (o p : Option ℕ)
    → IsFirstPlaced Stands text o → IsFirstPlaced Stands text p → o ≡ p
first-placed-once Stands =
    placed-once (λ lists. IsFirstAt (Stands lists)) (λ lists a b. first-once (Stands lists) a b)

-- a step finds one place
finds-once : (k : ℕ) (text : List ℕ) (o p : Option ℕ) (l m : Option Which) → Finds k text o l → Finds k text p m
    → (o ≡ p) × (l ≡ m)
finds-once zero text o p l m a b = (a.0 ∙ sym b.0, a.1 ∙ sym b.1)
finds-once (suc zero) text o p l m ((at, first, e), f) ((to, other, g), h) =
    (e ∙ (sym first.first ∙ (other.first ∙ sym g)), f ∙ sym h)
finds-once (suc (suc zero)) text o p l m (e, some, offence, is, which) (f, some_too, other, is_too, which_too) =
    let same : e ≡ f = error_once (Unit {0}) (tokens_of text) (length text) e f some some_too offence.refused
    other.refused in
    (is ∙ (ap offset_in same ∙ sym is_too), which ∙ (ap limit_in same ∙ sym which_too))
finds-once (suc (suc (suc zero))) text o p l m ((tree, reads, e), f) ((other, again, g), h) =
    let same : other ≡ tree = one-tree text other tree again reads in
    (sym e ∙ subst (λ (t : FileTree). first_broken (claims_of t) ≡ p) same g, f ∙ sym h)
finds-once (suc (suc (suc (suc zero)))) text o p l m ((tree, reads, e), f) ((other, again, g), h) =
    let same : other ≡ tree = one-tree text other tree again reads in
    (sym e ∙ subst (λ (t : FileTree). written_work t ≡ p) same g, f ∙ sym h)
finds-once (suc (suc (suc (suc (suc zero))))) text o p l m (a, f) (b, h) =
    (placed-once IsFirstBareName bare-once text o p a b, f ∙ sym h)
finds-once (suc (suc (suc (suc (suc (suc zero)))))) text o p l m (a, f) (b, h) =
    (first-placed-once OffendsAt text o p a b, f ∙ sym h)
finds-once (suc (suc (suc (suc (suc (suc (suc zero))))))) text o p l m (a, f) (b, h) =
    (first-placed-once IsAstray text o p a b, f ∙ sym h)
finds-once (suc (suc (suc (suc (suc (suc (suc (suc zero)))))))) text o p l m (a, f) (b, h) =
    (first-placed-once IsFaulty text o p a b, f ∙ sym h)
finds-once (suc (suc (suc (suc (suc (suc (suc (suc (suc k))))))))) text o p l m a b = (a.0 ∙ sym b.0, a.1 ∙ sym b.1)

-- What a step finds of a form: of a fault, what the tokens tell from its offset on; of all else nothing.
data FindsForm (text : List ℕ) (v : Why) : Type 0 where
  at_fault : (at : ℕ) → step_of v ≡ 8 → offset_of v ≡ Some at → Tells (tokens_of text) at (form_of v)
      → FindsForm text v
  at_none : step_of v ≢ 8 → form_of v ≡ None → FindsForm text v

-- the form that the cause names is what its step finds
finds-form : (text : List ℕ) (v : Why) → IsCauseOf text v → FindsForm text v
finds-form text why.TooLong cause = at_none (λ e. omega (arith, e)) refl
finds-form text (why.NotAscii at) cause = at_none (λ e. omega (arith, e)) refl
finds-form text (why.Syntax at) cause = at_none (λ e. omega (arith, e)) refl
finds-form text (why.Limit which at) cause = at_none (λ e. omega (arith, e)) refl
finds-form text (why.Name at) cause = at_none (λ e. omega (arith, e)) refl
finds-form text (why.Cost at) cause = at_none (λ e. omega (arith, e)) refl
finds-form text (why.Contractive at) cause = at_none (λ e. omega (arith, e)) refl
finds-form text (why.Mode at) cause = at_none (λ e. omega (arith, e)) refl
finds-form text (why.NotSync at path) cause = at_none (λ e. omega (arith, e)) refl
finds-form text (why.TermType at) (lists, read, both) =
    let (back, other, first, never) = both.1 in
    at_fault at refl refl (kind-told text lists at read other)
finds-form text (why.ProcType at form) (lists, read, both) =
    let (back, stuck, first, never) = both.1 in
    at_fault at refl refl (stuck-told text lists at form read both.0 stuck)
finds-form text (why.NoPotential verdict) cause = at_none (λ e. omega (arith, e)) refl

-- a step finds one form at one place
form-once : (text : List ℕ) (v w : Why) → step_of v ≡ step_of w → offset_of v ≡ offset_of w → FindsForm text v
    → FindsForm text w → form_of v ≡ form_of w
form-once text v w step offset (at_fault at eight here tells) (at_fault to also there told) =
    let same : Some at ≡ Some to = sym here ∙ (offset ∙ there) in
    let one : at ≡ to = cc in
    tells-once text to (form_of v) (form_of w)
    (subst (λ (o : ℕ). Tells (tokens_of text) o (form_of v)) one tells) told
form-once text v w step offset (at_fault at eight here tells) (at_none other none) =
    absurd (other (sym step ∙ eight))
form-once text v w step offset (at_none other none) (at_fault to also there told) = absurd (other (step ∙ also))
form-once text v w step offset (at_none other none) (at_none another no_form) = none ∙ sym no_form

-- all causes of refusal of a text are of one step, one offset, one limit and one form
pub one-cause : (text : List ℕ) (v w : Why) → IsCauseOf text v → IsCauseOf text w → SameCause v w
one-cause text v w a b =
    let step = one-step text v w a b in
    let other = subst (λ (k : ℕ). Finds k text (offset_of w) (limit_of w)) (sym step) (finds text w b) in
    let both = finds-once (step_of v) text (offset_of v) (offset_of w) (limit_of v) (limit_of w) (finds text v a)
    other in
    let form = form-once text v w step both.0 (finds-form text v a) (finds-form text w b) in
    record { step = step; offset = both.0; limit = both.1; form = form }
