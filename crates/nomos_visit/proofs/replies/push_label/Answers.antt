-- The label that is found is the program's; where none is, nothing is appended.
use Rattle.std.proofs.Common.{◌∙◌, ◌++◌, ℕ, List, [], ap, sym, get_or, arith}
use Rattle.std.proofs.lemmas.List.{append-nil}
use Rattle.nomos_ir.specs.declared.lists.ProgramLists.{ProgramLists}
use Rattle.nomos_visit.proofs.replies.push_label.Goals as goal

pub returns-in_ok-extend_from_slice : goal.returns-in_ok-extend_from_slice
returns-in_ok-extend_from_slice c =
    let labels = c.as_slice.ensures ∙ ap (λ (p : ProgramLists). p.labels) c.lists.ensures.lists in
    let name = rw c.in-Some.is at (c.get.ensures.lookup.4 (omega arith) []) in
    c.in_ok-extend_from_slice.ensures.items
    ∙ ap (λ (t : List ℕ). c.args.text.now.items ++ t)
    (c.as_bytes.ensures ∙ name ∙ ap (λ (ls : List (List ℕ)). get_or ls c.args.label.0 []) labels)

pub returns-in_default : goal.returns-in_default
returns-in_default c =
    let labels = c.as_slice.ensures ∙ ap (λ (p : ProgramLists). p.labels) c.lists.ensures.lists in
    let none = rw c.in_default.is at (c.get.ensures.lookup.4 (omega arith) []) in
    sym (append-nil c.args.text.now.items)
    ∙ ap (λ (t : List ℕ). c.args.text.now.items ++ t)
    (none ∙ ap (λ (ls : List (List ℕ)). get_or ls c.args.label.0 []) labels)
