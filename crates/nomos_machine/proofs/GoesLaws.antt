-- What a process of a typed state does, in one theorem's words: where one look says that it is ready, it makes a change
-- that leaves the state typed and keeps all gas, or has a fault; and otherwise it does nothing.
use Rattle.std.proofs.Common.{◌≡◌, ◌∙◌, ◌≤◌, ℕ, ◌+◌, Bool, true, false, cond, List, length, Contains, Option, Some, None, slice_get, sym, ap, arith}
use Rattle.std.proofs.lemmas.Bool.{le-leb}
use Rattle.std.proofs.lemmas.List.Elements.{All-contains}
use Rattle.nomos_ir.specs.Evaluation.{ends, term_evaluation}
use Rattle.nomos_ir.specs.Value.{Value}
use Rattle.nomos_ir.specs.ValueKind.{ValueHasKind}
use Rattle.nomos_ir.specs.TermKind.{HasKind}
use Rattle.nomos_ir.specs.declared.code_node.CodeNode.{CodeNode}
use Rattle.nomos_ir.specs.declared.fault.Fault.{Fault}
use Rattle.nomos_ir.specs.declared.ids.TermId.{TermId}
use Rattle.nomos_ir.specs.declared.kind.Kind.{Kind}
use Rattle.nomos_ir.proofs.PairedLaws.{paired-has_kinds}
use Rattle.nomos_ir.proofs.TypedLaws.{evaluation-kind}
use Rattle.nomos_types.specs.Acceptance.{Acceptance, IsAccepted}
use Rattle.nomos_types.specs.Judgement.{Judgement, IsJudgement}
use Rattle.nomos_types.specs.TypingRule.{TypingRule, StandsAtCode}
use Rattle.nomos_types.proofs.InversionLaws.{derives-row}
use Rattle.nomos_types.proofs.JudgementLaws.{row-keeps_judgement}
use Rattle.nomos_machine.specs.Change.{Change}
use Rattle.nomos_machine.specs.Deeds.{Deed, changes, has_fault, where_it_has}
use Rattle.nomos_machine.specs.Matching.{Matches, ProcessTyped}
use Rattle.nomos_machine.specs.Objects.{potential_of, free_purse}
use Rattle.nomos_machine.specs.State.{State}
use Rattle.nomos_machine.specs.TypedState.{VariablesDiffer, HasVariables, ObjectTyped, IsTyped}
use Rattle.nomos_machine.specs.declared.object.Object.{Object}
use Rattle.nomos_machine.specs.declared.object.Object.TheVariants as object
use Rattle.nomos_machine.specs.declared.object.Process.{Process}
use Rattle.nomos_machine.proofs.ChangeLaws.{Replaces}
use Rattle.nomos_machine.proofs.FitLaws.{Fits}
use Rattle.nomos_machine.proofs.GasLaws.{KeepsGas}
use Rattle.nomos_machine.proofs.ProcessLaws.{own_judgement, place-is_judgement, potential-is_judgement}

-- by whether one look says that it is ready, and what it does
pub data Goes (a : Acceptance) (s : State) : Bool → Option Deed → Type 0 where
  acts : (c : Change) (olds : List Object) → Replaces c.places s.objects olds → Fits a s c → KeepsGas s c olds
      → Goes a s true (Some (changes c))
  faulty : (f : Fault) → Goes a s true (Some (has_fault f))
  waits : Goes a s false None

-- ---- what is known of a process of a typed state

module _ {a : Acceptance} {s : State} (typed : IsTyped a s) {p : Process}
    (there : Contains s.objects (object.Process p))
  where
    pub process-typed : ProcessTyped a s.types (length s.balances) p
    process-typed =
        All-contains (ObjectTyped a s.types (length s.balances)) s.objects (object.Process p) typed.each there

    pub process-variables : VariablesDiffer p
    process-variables = All-contains HasVariables s.objects (object.Process p) typed.numbered.variables there

    -- its judgement, with its free purse, and the rule that applies to it
    pub own-judgement : Judgement
    own-judgement = own_judgement p process-typed

    pub own-is_judgement : IsAccepted a → IsJudgement a.program (own_judgement p process-typed)
    own-is_judgement accepted =
        potential-is_judgement accepted (free_purse p) (place-is_judgement accepted process-typed.is_place)

    pub own-row : IsAccepted a → (after : List Judgement) × TypingRule a.program a.annotations
        (own_judgement p process-typed) after
    own-row accepted = derives-row accepted.typed.formed process-typed.derives

    -- each judgement with which the rule goes on is one
    pub next-is_judgement : (accepted : IsAccepted a) {after : List Judgement} (k : Judgement)
        → TypingRule a.program a.annotations (own_judgement p process-typed) after → Contains after k
        → IsJudgement a.program k
    next-is_judgement accepted {after} k row among =
        All-contains (IsJudgement a.program) after k
        (row-keeps_judgement accepted.typed.formed (own-is_judgement accepted) row) among

    -- the judgement stands where the process does
    pub own-stands : (n : CodeNode) → slice_get a.program.code p.code.0 ≡ Some n
        → StandsAtCode a.program (own_judgement p process-typed) n
    own-stands n stands = ap (λ c. slice_get a.program.code c.0) (sym process-typed.matches.code) ∙ stands

    -- the value of a term has its kind
    pub value-has_kind : IsAccepted a → (e : TermId) (kind : Kind) (x : Value) (m : ℕ)
        → HasKind a.program process-typed.place.kinds e kind → term_evaluation a.program p.values e ≡ ends x m
        → ValueHasKind x kind
    value-has_kind accepted e kind x m has ended =
        evaluation-kind a.program accepted.typed.functions p.values process-typed.place.kinds e kind x m
        (paired-has_kinds p.values process-typed.place.kinds process-typed.matches.values) has ended

    -- it has what its judgement says
    pub own-matches : Matches a.program a.annotations s.types p (own_judgement p process-typed)
    own-matches =
        let matches = process-typed.matches in
        record {
          mode = matches.mode;
          code = matches.code;
          offers = matches.offers;
          values = matches.values;
          held_lists = matches.held_lists;
          channels = matches.channels;
        }

-- ---- what it can pay

-- a change that the free purse affords is made
pub affords : (gas : ℕ) (p : Process) (change : Option Change) → potential_of p ≤ p.purse → gas ≤ free_purse p
    → where_it_has gas p change ≡ change
affords gas p change covered enough =
    let has : gas + potential_of p ≤ p.purse = omega arith in
    ap (λ (t : Bool). cond t change None) (le-leb (gas + potential_of p) p.purse has)
