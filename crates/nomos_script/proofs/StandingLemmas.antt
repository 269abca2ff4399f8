-- Which paragraphs the lines so far are.
use Rattle.std.proofs.Common.{◌≡◌, ℕ, ◌+◌, List, [], ◌∷◌, ◌++◌, length, Option, Some, None, All, refl, sym, ◌∙◌, ap, append_assoc, length-append, arith}
use Rattle.std.specs.Option.{option_to_list}
use Rattle.std.proofs.lemmas.List.{append-nil}
use Rattle.std.proofs.lemmas.List.Elements.{All-nil, All-cons, All-append}
use Rattle.nomos_script.specs.declared.item.Start.{Start}
use Rattle.nomos_script.specs.declared.item.ScriptItem.{ScriptItem}
use Rattle.nomos_script.specs.declared.item.ScriptItem.TheVariants as item
use Rattle.nomos_script.specs.Form.{Form, blank, deposit, create, exec, begin, end, show}
use Rattle.nomos_script.specs.Item.{item_of, items_of, start_of_line, starts_of}
use Rattle.nomos_script.specs.Paragraph.{Paragraph, single, several, forms_of, StandsAlone, StandsInside, IsParagraph}
use Rattle.nomos_script.specs.mirror.Assembling.{Assembled, nothing_assembled, line_said, add_line}
use Rattle.nomos_script.proofs.AssemblyLemmas.{assembled, add-alone, forms_of-push, items_of-push, starts_of-push}

-- behind paragraphs, the lines of a batch that is open
pub record StandsOpenAt (first : ℕ) (forms : List Form) (paragraphs : List Paragraph) (starts : List Start) : Type 0
  where
    pub inside : List Form
    pub stand : All StandsInside inside
    pub split : forms ≡ forms_of paragraphs ++ begin ∷ inside
    pub numbered : first ≡ 1 + length (forms_of paragraphs)
    pub are : starts ≡ starts_of (first + 1) inside

abbrev pub StandsWith : Option ℕ → List Form → List Paragraph → List Start → Type 0
StandsWith None forms paragraphs starts = (forms ≡ forms_of paragraphs) × (starts ≡ [])
StandsWith (Some first) forms paragraphs starts = StandsOpenAt first forms paragraphs starts

pub record Standing (forms : List Form) (a : Assembled) : Type 0 where
  pub paragraphs : List Paragraph
  pub each : All IsParagraph paragraphs
  pub stand_for : items_of 1 paragraphs ≡ a.items
  pub with : StandsWith a.opened forms paragraphs a.starts

pub standing-none : Standing [] nothing_assembled
standing-none = record { paragraphs = []; each = All-nil IsParagraph; stand_for = refl; with = (refl, refl) }

one_more : (paragraphs : List Paragraph) (p : Paragraph) → All IsParagraph paragraphs → IsParagraph p
    → All IsParagraph (paragraphs ++ p ∷ [])
one_more paragraphs p each h =
    All-append IsParagraph paragraphs (p ∷ []) each (All-cons IsParagraph p [] h (All-nil IsParagraph))

one_more_inside : (forms : List Form) (f : Form) → All StandsInside forms → StandsInside f
    → All StandsInside (forms ++ f ∷ [])
one_more_inside forms f each h =
    All-append StandsInside forms (f ∷ []) each (All-cons StandsInside f [] h (All-nil StandsInside))

-- a single line
standing-alone : (forms : List Form) (f : Form) (items : List ScriptItem) (starts : List Start) (b : Assembled)
    → StandsAlone f
    → Standing forms (assembled items None starts)
    → add_line (1 + length forms) (line_said (1 + length forms) f) (assembled items None starts) ≡ Some b
    → Standing (forms ++ f ∷ []) b
standing-alone forms f items starts b alone s added =
    let n = 1 + length forms in
    let added2 = add-alone (1 + length forms) f items starts alone in
    let is : b ≡ assembled (items ++ option_to_list (item_of (1 + length forms) f)) None starts = cc (added, added2) in
    let here : 1 + length (forms_of s.paragraphs) ≡ 1 + length forms = rw s.with.0 refl in
    rw is (record {
      paragraphs = s.paragraphs ++ single f ∷ [];
      each = one_more s.paragraphs (single f) s.each alone;
      stand_for = items_of-push 1 s.paragraphs (single f)
          ∙ rw (here, s.stand_for, append-nil) refl;
      with = (ap (λ fs. fs ++ f ∷ []) s.with.0 ∙ sym (forms_of-push s.paragraphs (single f)), s.with.1);
    })

-- the begin of a batch
standing-begin : (forms : List Form) (items : List ScriptItem) (starts : List Start)
    → Standing forms (assembled items None starts)
    → Standing (forms ++ begin ∷ []) (assembled items (Some (1 + length forms)) starts)
standing-begin forms items starts s = record {
  paragraphs = s.paragraphs;
  each = s.each;
  stand_for = s.stand_for;
  with = record {
    inside = [];
    stand = All-nil StandsInside;
    split = rw s.with.0 refl;
    numbered = rw s.with.0 refl;
    are = s.with.1;
  };
}

-- a line of a batch
standing-inside : (forms : List Form) (f : Form) (items : List ScriptItem) (first : ℕ) (starts : List Start)
    → StandsInside f → Standing forms (assembled items (Some first) starts)
    → Standing (forms ++ f ∷ [])
    (assembled items (Some first) (starts ++ option_to_list (start_of_line (1 + length forms) f)))
standing-inside forms f items first starts stands s =
    let o = s.with in
    let place : (first + 1) + length o.inside ≡ 1 + length forms =
    omega (arith, ap length o.split, length-append (forms_of s.paragraphs) (begin ∷ o.inside), o.numbered) in
    record {
      paragraphs = s.paragraphs;
      each = s.each;
      stand_for = s.stand_for;
      with = record {
        inside = o.inside ++ f ∷ [];
        stand = one_more_inside o.inside f o.stand stands;
        split = ap (λ fs. fs ++ f ∷ []) o.split ∙ append_assoc (forms_of s.paragraphs) (begin ∷ o.inside) (f ∷ []);
        numbered = o.numbered;
        are = ap (λ ss. ss ++ option_to_list (start_of_line (1 + length forms) f)) o.are
            ∙ sym (starts_of-push (first + 1) o.inside f
            ∙ rw place refl);
      };
    }

-- the end of one
standing-end : (forms : List Form) (items : List ScriptItem) (first : ℕ) (starts : List Start)
    → Standing forms (assembled items (Some first) starts)
    → Standing (forms ++ end ∷ [])
    (assembled (items ++ item.Batch (record { line = first; starts = starts }) ∷ []) None [])
standing-end forms items first starts s =
    let o = s.with in
    let here : 1 + length (forms_of s.paragraphs) ≡ first = sym o.numbered in
    record {
      paragraphs = s.paragraphs ++ several o.inside ∷ [];
      each = one_more s.paragraphs (several o.inside) s.each o.stand;
      stand_for = items_of-push 1 s.paragraphs (several o.inside)
          ∙ rw (here, s.stand_for, o.are) refl;
      with = (
        ap (λ fs. fs ++ end ∷ []) o.split
            ∙ append_assoc (forms_of s.paragraphs) (begin ∷ o.inside) (end ∷ [])
            ∙ sym (forms_of-push s.paragraphs (several o.inside)),
        refl,
      );
    }

standing-outside : (forms : List Form) (f : Form) (items : List ScriptItem) (starts : List Start) (b : Assembled)
    → Standing forms (assembled items None starts)
    → add_line (1 + length forms) (line_said (1 + length forms) f) (assembled items None starts) ≡ Some b
    → Standing (forms ++ f ∷ []) b
standing-outside forms blank items starts b s added = standing-alone forms blank items starts b tt s added
standing-outside forms (deposit m d) items starts b s added =
    standing-alone forms (deposit m d) items starts b tt s added
standing-outside forms (create c i) items starts b s added =
    standing-alone forms (create c i) items starts b tt s added
standing-outside forms (exec i) items starts b s added = standing-alone forms (exec i) items starts b tt s added
standing-outside forms begin items starts b s added =
    let is : b ≡ assembled items (Some (1 + length forms)) starts = cc added in
    rw is (standing-begin forms items starts s)
standing-outside forms end items starts b s added = absurd (cc)
standing-outside forms show items starts b s added = standing-alone forms show items starts b tt s added

standing-within : (forms : List Form) (f : Form) (items : List ScriptItem) (first : ℕ) (starts : List Start)
    (b : Assembled) → Standing forms (assembled items (Some first) starts)
    → add_line (1 + length forms) (line_said (1 + length forms) f) (assembled items (Some first) starts) ≡ Some b
    → Standing (forms ++ f ∷ []) b
standing-within forms blank items first starts b s added =
    let is : b ≡ assembled items (Some first) (starts ++ []) = rw append-nil (cc added) in
    rw is (standing-inside forms blank items first starts tt s)
standing-within forms (deposit m d) items first starts b s added = absurd (cc)
standing-within forms (create c i) items first starts b s added =
    let is : b ≡ assembled items (Some first)
    (starts ++ option_to_list (start_of_line (1 + length forms) (create c i))) = cc added in
    rw is (standing-inside forms (create c i) items first starts tt s)
standing-within forms (exec i) items first starts b s added =
    let is : b ≡ assembled items (Some first) (starts ++ option_to_list (start_of_line (1 + length forms) (exec i))) =
    cc added in
    rw is (standing-inside forms (exec i) items first starts tt s)
standing-within forms begin items first starts b s added = absurd (cc)
standing-within forms end items first starts b s added =
    let is : b ≡ assembled (items ++ item.Batch (record { line = first; starts = starts }) ∷ []) None [] = cc added in
    rw is (standing-end forms items first starts s)
standing-within forms show items first starts b s added = absurd (cc)

-- one more line
standing-at : (forms : List Form) (f : Form) (items : List ScriptItem) (opened : Option ℕ) (starts : List Start)
    (b : Assembled) → Standing forms (assembled items opened starts)
    → add_line (1 + length forms) (line_said (1 + length forms) f) (assembled items opened starts) ≡ Some b
    → Standing (forms ++ f ∷ []) b
standing-at forms f items None starts b s added = standing-outside forms f items starts b s added
standing-at forms f items (Some first) starts b s added = standing-within forms f items first starts b s added

pub standing-line : (forms : List Form) (f : Form) (a b : Assembled) → Standing forms a
    → add_line (1 + length forms) (line_said (1 + length forms) f) a ≡ Some b → Standing (forms ++ f ∷ []) b
standing-line forms f a b s added = standing-at forms f a.items a.opened a.starts b s added
