-- How the lines of paragraphs are put together.
use Rattle.std.proofs.Common.{◌≡◌, ℕ, ◌+◌, List, [], ◌∷◌, ◌++◌, length, Option, Some, None, All, refl, sym, ◌∙◌, ap, append_assoc, length-append, arith}
use Rattle.std.specs.Option.{option_to_list}
use Rattle.std.proofs.lemmas.List.{append-nil}
use Rattle.std.proofs.lemmas.List.Elements.{All-head, All-tail}
use Rattle.nomos_script.specs.declared.item.Start.{Start}
use Rattle.nomos_script.specs.declared.item.ScriptItem.{ScriptItem}
use Rattle.nomos_script.specs.declared.item.ScriptItem.TheVariants as item
use Rattle.nomos_script.specs.Form.{Form, blank, deposit, create, exec, begin, end, show}
use Rattle.nomos_script.specs.Item.{item_of, items_of, start_of_line, starts_of}
use Rattle.nomos_script.specs.Paragraph.{Paragraph, single, several, forms_of, StandsAlone, StandsInside, IsParagraph}
use Rattle.nomos_script.specs.mirror.Assembling.{Assembled, line_said, add_line}
use Rattle.nomos_script.specs.mirror.ValueReading.{and_then}

-- what lines of these forms come to, the first of which has this number
abbrev pub assemble : ℕ → List Form → Assembled → Option Assembled
assemble n [] a = Some a
assemble n (f ∷ forms) a = and_then (add_line n (line_said n f) a) (λ b. assemble (n + 1) forms b)

-- what so many items, a batch that is open, and its starts are
abbrev pub assembled : List ScriptItem → Option ℕ → List Start → Assembled
assembled items opened starts = record { items = items; opened = opened; starts = starts }

and_then-assoc : {X Y Z : Type 0} (o : Option X) (f : X → Option Y) (g : Y → Option Z)
    → and_then (and_then o f) g ≡ and_then o (λ x. and_then (f x) g)
and_then-assoc None f g = refl
and_then-assoc (Some x) f g = refl

pub and_then-same : {X Y : Type 0} (o : Option X) (f g : X → Option Y) → ((x : X) → f x ≡ g x)
    → and_then o f ≡ and_then o g
and_then-same None f g same = refl
and_then-same (Some x) f g same = same x

pub assemble-append : (n : ℕ) (fs gs : List Form) (a : Assembled)
    → assemble n (fs ++ gs) a ≡ and_then (assemble n fs a) (λ b. assemble (n + length fs) gs b)
assemble-append n [] gs a = let here : n + 0 ≡ n = omega arith in rw here refl
assemble-append n (f ∷ fs) gs a =
    let there : (n + 1) + length fs ≡ n + length (f ∷ fs) = omega arith in
    and_then-same (add_line n (line_said n f) a) (λ b. assemble (n + 1) (fs ++ gs) b)
    (λ b. and_then (assemble (n + 1) fs b) (λ d. assemble (n + length (f ∷ fs)) gs d))
    (λ b. rw (← there) (assemble-append (n + 1) fs gs b))
    ∙ sym (and_then-assoc (add_line n (line_said n f) a) (λ b. assemble (n + 1) fs b)
    (λ d. assemble (n + length (f ∷ fs)) gs d))

-- the lines of a batch start what they start
pub assemble-inside : (n k : ℕ) (forms : List Form) (items : List ScriptItem) (starts : List Start)
    → All StandsInside forms
    → assemble n forms (assembled items (Some k) starts) ≡ Some (assembled items (Some k) (starts ++ starts_of n forms))
assemble-inside n k [] items starts each = rw append-nil refl
assemble-inside n k (blank ∷ forms) items starts each =
    assemble-inside (n + 1) k forms items starts (All-tail StandsInside blank forms each)
assemble-inside n k (create contract i ∷ forms) items starts each =
    assemble-inside (n + 1) k forms items (starts ++ option_to_list (start_of_line n (create contract i)))
    (All-tail StandsInside (create contract i) forms each)
    ∙ ap (λ s. Some (assembled items (Some k) s))
    (append_assoc starts (option_to_list (start_of_line n (create contract i))) (starts_of (n + 1) forms))
assemble-inside n k (exec i ∷ forms) items starts each =
    assemble-inside (n + 1) k forms items (starts ++ option_to_list (start_of_line n (exec i)))
    (All-tail StandsInside (exec i) forms each)
    ∙ ap (λ s. Some (assembled items (Some k) s))
    (append_assoc starts (option_to_list (start_of_line n (exec i))) (starts_of (n + 1) forms))
assemble-inside n k (deposit name digits ∷ forms) items starts each =
    absurd (All-head StandsInside (deposit name digits) forms each)
assemble-inside n k (begin ∷ forms) items starts each = absurd (All-head StandsInside begin forms each)
assemble-inside n k (end ∷ forms) items starts each = absurd (All-head StandsInside end forms each)
assemble-inside n k (show ∷ forms) items starts each = absurd (All-head StandsInside show forms each)

-- a single line is the item that it stands for
pub add-alone : (n : ℕ) (f : Form) (items : List ScriptItem) (starts : List Start) → StandsAlone f
    → add_line n (line_said n f) (assembled items None starts)
    ≡ Some (assembled (items ++ option_to_list (item_of n f)) None starts)
add-alone n blank items starts alone = rw append-nil refl
add-alone n (deposit name digits) items starts alone = refl
add-alone n (create contract i) items starts alone = refl
add-alone n (exec i) items starts alone = refl
add-alone n begin items starts alone = absurd alone
add-alone n end items starts alone = absurd alone
add-alone n show items starts alone = refl

-- the lines of paragraphs are the items that they stand for
pub assemble-paragraphs : (n : ℕ) (paragraphs : List Paragraph) (items : List ScriptItem)
    → All IsParagraph paragraphs
    → assemble n (forms_of paragraphs) (assembled items None [])
    ≡ Some (assembled (items ++ items_of n paragraphs) None [])
assemble-paragraphs n [] items each = rw append-nil refl
assemble-paragraphs n (single f ∷ paragraphs) items each =
    ap (λ o. and_then o (λ b. assemble (n + 1) (forms_of paragraphs) b))
    (add-alone n f items [] (All-head IsParagraph (single f) paragraphs each))
    ∙ assemble-paragraphs (n + 1) paragraphs (items ++ option_to_list (item_of n f))
    (All-tail IsParagraph (single f) paragraphs each)
    ∙ ap (λ i. Some (assembled i None []))
    (append_assoc items (option_to_list (item_of n f)) (items_of (n + 1) paragraphs))
assemble-paragraphs n (several forms ∷ paragraphs) items each =
    let batch = item.Batch (record { line = n; starts = starts_of (n + 1) forms }) in
    let there : ((n + 1) + length forms) + 1 ≡ n + length forms + 2 = omega arith in
    assemble-append (n + 1) forms (end ∷ forms_of paragraphs) (assembled items (Some n) [])
    ∙ ap (λ o. and_then o (λ b. assemble ((n + 1) + length forms) (end ∷ forms_of paragraphs) b))
    (assemble-inside (n + 1) n forms items [] (All-head IsParagraph (several forms) paragraphs each))
    ∙ rw there (assemble-paragraphs (n + length forms + 2) paragraphs (items ++ batch ∷ [])
    (All-tail IsParagraph (several forms) paragraphs each)
    ∙ ap (λ i. Some (assembled i None []))
    (append_assoc items (batch ∷ []) (items_of (n + length forms + 2) paragraphs)))

-- more paragraphs have more lines, and stand for more items
pub forms_of-push : (paragraphs : List Paragraph) (p : Paragraph)
    → forms_of (paragraphs ++ p ∷ []) ≡ forms_of paragraphs ++ forms_of (p ∷ [])
forms_of-push [] p = refl
forms_of-push (single f ∷ paragraphs) p = ap (λ fs. f ∷ fs) (forms_of-push paragraphs p)
forms_of-push (several forms ∷ paragraphs) p =
    ap (λ fs. begin ∷ forms ++ end ∷ fs) (forms_of-push paragraphs p)
    ∙ sym (append_assoc (begin ∷ forms) (end ∷ forms_of paragraphs) (forms_of (p ∷ [])))

pub items_of-push : (n : ℕ) (paragraphs : List Paragraph) (p : Paragraph)
    → items_of n (paragraphs ++ p ∷ [])
    ≡ items_of n paragraphs ++ items_of (n + length (forms_of paragraphs)) (p ∷ [])
items_of-push n [] p = let here : n + 0 ≡ n = omega arith in rw here refl
items_of-push n (single f ∷ paragraphs) p =
    let there : (n + 1) + length (forms_of paragraphs) ≡ n + length (forms_of (single f ∷ paragraphs)) = omega arith in
    rw (items_of-push (n + 1) paragraphs p, there, append_assoc) refl
items_of-push n (several forms ∷ paragraphs) p =
    let there : (n + length forms + 2) + length (forms_of paragraphs)
    ≡ n + length (forms_of (several forms ∷ paragraphs)) =
    omega (arith, length-append forms (end ∷ forms_of paragraphs)) in
    rw (items_of-push (n + length forms + 2) paragraphs p, there) refl

pub starts_of-push : (n : ℕ) (forms : List Form) (f : Form)
    → starts_of n (forms ++ f ∷ []) ≡ starts_of n forms ++ option_to_list (start_of_line (n + length forms) f)
starts_of-push n [] f = let here : n + 0 ≡ n = omega arith in rw (here, append-nil) refl
starts_of-push n (g ∷ forms) f =
    let there : (n + 1) + length forms ≡ n + length (g ∷ forms) = omega arith in
    rw (starts_of-push (n + 1) forms f, there, append_assoc) refl
