-- Each amount of a program is written, or its star is one of the program's.
use Rattle.std.proofs.Common.{◌≡◌, ◌<◌, ◌≤◌, ℕ, zero, suc, ◌+◌, List, [], ◌∷◌, ◌++◌, length, get_or, map, All, Some, slice_get, subst, arith, length-append}
use Rattle.std.proofs.lemmas.List.{get_or-map, length-map, get_or-append-add, get_or_append_left}
use Rattle.std.specs.List.{flat_map}
use Rattle.nomos_ir.specs.Amounts.{AmountsAreSmall, IsAmount, amounts_of, par_amounts, proc_amounts, star_of, star_count, greatest, most_star}
use Rattle.nomos_ir.specs.CodeParts.{code_amounts}
use Rattle.nomos_ir.specs.TypeParts.{type_amounts}
use Rattle.nomos_ir.specs.declared.amount.Amount.{Amount}
use Rattle.nomos_ir.specs.declared.amount.Amount.TheVariants as amount
use Rattle.nomos_ir.specs.declared.code_node.CodeNode.{CodeNode}
use Rattle.nomos_ir.specs.declared.declaration.ProcDecl.{ProcDecl}
use Rattle.nomos_ir.specs.declared.lists.ProgramLists.{ProgramLists}
use Rattle.nomos_types.specs.Acceptance.{IsAmountOf}
use Rattle.nomos_types.proofs.ListLemmas.{greatest-above}

-- what holds of all items of two lists holds of those of the last
pub all-last : {X : Type 0} (P : X → Type 0) (xs ys : List X) → All P (xs ++ ys) → All P ys
all-last P xs ys all =
    λ k d inside.
    let in_both : length xs + k < length (xs ++ ys) = simp length-append (omega arith) in
    subst P (get_or-append-add xs ys k d) (all (length xs + k) d in_both)

-- the same of the first
pub all-first : {X : Type 0} (P : X → Type 0) (xs ys : List X) → All P (xs ++ ys) → All P xs
all-first P xs ys all =
    λ k d inside.
    let in_both : k < length (xs ++ ys) = simp length-append (omega arith) in
    subst P (get_or_append_left xs ys d k inside) (all k d in_both)

-- what holds of the items of all lists holds of those of one
all-within : {X Y : Type 0} (P : Y → Type 0) (f : X → List Y) (xs : List X) (k : ℕ) (d : X) → All P (flat_map f xs)
    → k < length xs → All P (f (get_or xs k d))
all-within P f [] k d all inside = absurd (omega arith)
all-within P f (x ∷ xs) zero d all inside = all-first P (f x) (flat_map f xs) all
all-within P f (x ∷ xs) (suc k) d all inside =
    all-within P f xs k d (all-last P (f x) (flat_map f xs) all) (omega arith)

-- each amount's star is at most the greatest
star-within : (amounts : List Amount) → All (λ a. star_of a ≤ most_star amounts) amounts
star-within amounts =
    λ k d inside.
    let there : k < length (map star_of amounts) = rw (length-map amounts star_of) inside in
    let e : get_or (map star_of amounts) k 0 ≡ star_of (get_or amounts k d) = get_or-map star_of amounts k d 0 inside in
    subst (λ (n : ℕ). n ≤ greatest (map star_of amounts)) e (greatest-above (map star_of amounts) k 0 there)

-- an amount whose star is among the first so many is written, or has one of their numbers
amount-of : (lists : ProgramLists) (a : Amount) → IsAmount a → star_of a ≤ star_count lists → IsAmountOf lists a
amount-of lists (amount.Written units) small within = tt
amount-of lists (amount.Star star) small within = (small.0, within)

-- so each amount of the program is one of its amounts
pub amounts-are_of : (lists : ProgramLists) → AmountsAreSmall lists → All (IsAmountOf lists) (amounts_of lists)
amounts-are_of lists small =
    λ k d inside. amount-of lists (get_or (amounts_of lists) k d) (small k d inside)
    (star-within (amounts_of lists) k d inside)

-- that of a declaration
pub declared-is_amount_of : (lists : ProgramLists) (p : ℕ) (d : ProcDecl) → AmountsAreSmall lists
    → p < length lists.procs → IsAmountOf lists (get_or lists.procs p d).amount
declared-is_amount_of lists p d small inside =
    let earlier : List Amount = flat_map (λ t. type_amounts t.node) lists.types ++ flat_map code_amounts lists.code in
    let later : List Amount = flat_map proc_amounts lists.procs in
    let all = all-last (IsAmountOf lists) earlier later (amounts-are_of lists small) in
    let of_proc = all-within (IsAmountOf lists) proc_amounts lists.procs p d all inside in
    let own = (get_or lists.procs p d).amount in
    all-last (IsAmountOf lists) (flat_map par_amounts (get_or lists.procs p d).values) (own ∷ []) of_proc 0 own
    (omega arith)

-- those of an instruction
pub code-is_amount_of : (lists : ProgramLists) (c : ℕ) (n : CodeNode) → AmountsAreSmall lists
    → slice_get lists.code c ≡ Some n → All (IsAmountOf lists) (code_amounts n)
code-is_amount_of lists c n small found =
    let earlier : List Amount = flat_map (λ t. type_amounts t.node) lists.types in
    let of_code : List Amount = flat_map code_amounts lists.code in
    let later : List Amount = flat_map proc_amounts lists.procs in
    let all : All (IsAmountOf lists) of_code =
    all-last (IsAmountOf lists) earlier of_code
    (all-first (IsAmountOf lists) (earlier ++ of_code) later (amounts-are_of lists small))
    in
    at lists.code c all found
  where
    at : (nodes : List CodeNode) (c : ℕ) → All (IsAmountOf lists) (flat_map code_amounts nodes)
        → slice_get nodes c ≡ Some n → All (IsAmountOf lists) (code_amounts n)
    at [] c all found = absurd cc
    at (m ∷ nodes) zero all found =
        let same : m ≡ n = cc in
        subst (λ (e : CodeNode). All (IsAmountOf lists) (code_amounts e)) same
        (all-first (IsAmountOf lists) (code_amounts m) (flat_map code_amounts nodes) all)
    at (m ∷ nodes) (suc c) all found =
        at nodes c (all-last (IsAmountOf lists) (code_amounts m) (flat_map code_amounts nodes) all) found
