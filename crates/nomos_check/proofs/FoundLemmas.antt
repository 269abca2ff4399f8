-- What a search found, where the answer of a call is known; names that are free; kinds that were found.
use Rattle.std.proofs.Common.{◌≡◌, ◌↔◌, ◌∙◌, ℕ, Bool, true, false, not, IsTrue, Option, Some, None, refl, ap, subst, arith}
use Rattle.std.specs.Option.{option_map, is_some}
use Rattle.nomos_ir.specs.declared.code_node.CodeNode.{CodeNode}
use Rattle.nomos_ir.specs.declared.ids.TermId.{TermId}
use Rattle.nomos_ir.specs.declared.ids.TypeId.{TypeId}
use Rattle.nomos_ir.specs.declared.ids.VarId.{VarId}
use Rattle.nomos_ir.specs.declared.kind.Kind.{Kind}
use Rattle.nomos_ir.specs.declared.lists.ProgramLists.{ProgramLists}
use Rattle.nomos_ir.specs.Bindings.{bound_to}
use Rattle.nomos_ir.specs.Ids.{CodeInRange}
use Rattle.nomos_ir.specs.Program.{IsProgram}
use Rattle.nomos_ir.specs.TermKind.{HasKind, VariableKinds}
use Rattle.nomos_ir.proofs.NodeLaws.{All-at}
use Rattle.nomos_ir.proofs.TermKindLaws.{HasKind-unique}
use Rattle.nomos_ir.proofs.MappedLaws.{each-bound}
use Rattle.nomos_types.specs.Judgement.{Judgement, count_one, IsFree}
use Rattle.nomos_types.specs.TypingRule.{StandsAtCode}
use Rattle.nomos_check.specs.declared.standing.Carried.{Carried}
use Rattle.nomos_check.specs.declared.standing.Standing.{Standing}
use Rattle.nomos_check.specs.mirror.FoundWrong.{IsFound}
use Rattle.nomos_check.specs.mirror.StandingData.{shape_of, shape_of_list}

-- what was found has the property
pub found-some : {X : Type 0} (P : X → Type 0) (o : Option X) (x : X) → IsFound P o → o ≡ Some x → P x
found-some P o x found is = subst (IsFound P) is found

-- where nothing was found, nothing has it
pub found-none : {X : Type 0} (P : X → Type 0) (o : Option X) → IsFound P o → o ≡ None → (x : X) → ¬ (P x)
found-none P o found is = subst (IsFound P) is found

-- the ids of an instruction have their places
pub code-in_range : (lists : ProgramLists) (j : Judgement) (n : CodeNode) → IsProgram lists → StandsAtCode lists j n
    → CodeInRange lists n
code-in_range lists j n is_program stands = All-at (CodeInRange lists) lists.code j.code.0 n is_program.ids.code stands

-- where the kind of a term is known, it has this kind where that is the same
pub kind-answer : (lists : ProgramLists) (kinds : VariableKinds) (e : TermId) (its kind : Kind) (b : Bool)
    → HasKind lists kinds e its → (IsTrue b ↔ (its ≡ kind)) → IsTrue b ↔ HasKind lists kinds e kind
kind-answer lists kinds e its kind b found same = (
  λ yes. subst (HasKind lists kinds e) (same.0 yes) found,
  λ has. same.1 (HasKind-unique lists kinds e its kind found has),
)

-- ---- free names

some-counts : {X : Type 0} (o : Option X) → is_some o ≡ true → count_one o ≡ 1
some-counts (Some x) some = refl
some-counts None some = absurd cc

none-counts : {X : Type 0} (o : Option X) → is_some o ≡ false → count_one o ≡ 0
none-counts (Some x) none = absurd cc
none-counts None none = refl

mapped-counts : {X Y : Type 0} (f : X → Y) (o : Option X) → count_one (option_map f o) ≡ count_one o
mapped-counts f (Some x) = refl
mapped-counts f None = refl

-- a list counts whether or not its amount is ignored
list-counts : (s : Standing) (v : ℕ) → count_one (bound_to v (shape_of s).lists) ≡ count_one (bound_to v s.lists)
list-counts s v =
    ap (λ o. count_one o) (each-bound shape_of_list v s.lists) ∙ mapped-counts shape_of_list (bound_to v s.lists)

-- the name of a list is not free
pub list-not_free : (s : Standing) (v : VarId) (o : Option Carried) → o ≡ bound_to v.0 s.lists → is_some o ≡ true
    → ¬ (IsFree (shape_of s) v)
list-not_free s v o is some free =
    let here = ap (λ (p : Option Carried). count_one p) is in
    omega (arith, list-counts s v.0, some-counts o some, free)

-- a name is free where nothing is bound to it
pub free-exactly : (s : Standing) (v : VarId) (a : Option Kind) (b : Option Carried) (c d : Option TypeId) (r : Bool)
    → a ≡ bound_to v.0 s.kinds → b ≡ bound_to v.0 s.lists → c ≡ bound_to v.0 s.shared → d ≡ bound_to v.0 s.linear
    → is_some a ≡ false → is_some b ≡ false → is_some c ≡ false → is_some d ≡ not r → IsTrue r ↔ IsFree (shape_of s) v
free-exactly s v a b c d true a_is b_is c_is d_is no_a no_b no_c no_d =
    let in_a = ap (λ (p : Option Kind). count_one p) a_is in
    let in_b = ap (λ (p : Option Carried). count_one p) b_is in
    let in_c = ap (λ (p : Option TypeId). count_one p) c_is in
    let in_d = ap (λ (p : Option TypeId). count_one p) d_is in (
      λ yes. omega (
        arith,
        list-counts s v.0,
        none-counts a no_a,
        none-counts b no_b,
        none-counts c no_c,
        none-counts d
            no_d,
      ),
      λ free. refl,
    )
free-exactly s v a b c d false a_is b_is c_is d_is no_a no_b no_c some_d =
    let in_d = ap (λ (p : Option TypeId). count_one p) d_is in
    (λ no. absurd cc, λ free. absurd (omega (arith, some-counts d some_d, free)))
