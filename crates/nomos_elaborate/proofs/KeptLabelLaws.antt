-- While a text is built, the labels that were seen keep their numbers, and those of one choice or `case` differ.
use Rattle.std.proofs.Common.{◌≡◌, ℕ, Bool, true, false, List, All, refl, sym, ap, subst, ◌∙◌}
use Rattle.std.specs.Prelude.{if◌then◌else◌}
use Rattle.std.proofs.lemmas.List.Elements.{All-push}
use Rattle.nomos_elaborate.proofs.DistinctNameLaws.{AllNamesDiffer, none_differ, seen-differ}
use Rattle.nomos_elaborate.proofs.NumberLaws.{Grows, Grows-same, Grows-then, Grows-seen}
use Rattle.nomos_elaborate.specs.Built.{Built, with_label, with_variable, put_type, quantity_amount}
use Rattle.nomos_elaborate.specs.CostModel.{is_charged, put_node, put_work, put_code}
use Rattle.nomos_ir.specs.Instruction.{code_offset}
use Rattle.nomos_elaborate.specs.Names.{Names}
use Rattle.nomos_elaborate.specs.TermBuild.{build_term, build_terms}
use Rattle.nomos_ir.specs.CodeParts.{code_labels}
use Rattle.nomos_ir.specs.Naming.{AllDiffer}
use Rattle.nomos_ir.specs.TypeParts.{type_labels}
use Rattle.nomos_ir.specs.declared.amount.Amount.TheVariants as amount
use Rattle.nomos_ir.specs.declared.code_node.CodeNode.{CodeNode}
use Rattle.nomos_ir.specs.declared.code_node.CodeNode.TheVariants as node
use Rattle.nomos_ir.specs.declared.type_node.TypeAt.{TypeAt}
use Rattle.nomos_ir.specs.declared.type_node.TypeNode.{TypeNode}
use Rattle.nomos_surface.specs.declared.name_at.NameAt.{NameAt}
use Rattle.nomos_surface.specs.declared.potential.Quantity.{Quantity}
use Rattle.nomos_surface.specs.declared.potential.Quantity.TheVariants as quantity
use Rattle.nomos_surface.specs.declared.surface.CostModel.{CostModel}
use Rattle.nomos_surface.specs.Tree.{TermTree, number, truth, me, variable, application, no_items, binary, negation, choosing, matching, parenthesized, TermTrees, no_terms, term}

-- the labels of each choice and of each `case` differ, and no label was numbered twice
pub record LabelsHold (s : Built) : Type 0 where
  pub choices : All (λ t. AllDiffer (type_labels t.node)) s.types
  pub cases : All (λ c. AllDiffer (code_labels c)) s.code
  pub labels : AllNamesDiffer s.labels

-- what is built next: this still holds, and each label has the number that it had
pub record KeepsLabels (s t : Built) : Type 0 where
  pub holds : LabelsHold s → LabelsHold t
  pub grows : Grows s.labels t.labels

pub keeps-none : (s : Built) → KeepsLabels s s
keeps-none s = record { holds = λ h. h; grows = Grows-same s.labels }

pub keeps-then : {s t u : Built} → KeepsLabels s t → KeepsLabels t u → KeepsLabels s u
keeps-then f g = record { holds = λ h. g.holds (f.holds h); grows = Grows-then f.grows g.grows }

-- nothing was built that has labels
abbrev pub labelled : Built → List TypeAt × List CodeNode × Names
labelled s = (s.types, s.code, s.labels)

pub keeps-same : (s t : Built) → labelled t ≡ labelled s → KeepsLabels s t
keeps-same s t e =
    let types : s.types ≡ t.types = sym (ap (λ l. l.0) e) in
    let code : s.code ≡ t.code = sym (ap (λ l. l.1) e) in
    let labels : s.labels ≡ t.labels = sym (ap (λ l. l.2) e) in
    record {
      holds = λ h. record {
        choices = subst (All (λ k. AllDiffer (type_labels k.node))) types h.choices;
        cases = subst (All (λ c. AllDiffer (code_labels c))) code h.cases;
        labels = subst AllNamesDiffer labels h.labels;
      };
      grows = subst (Grows s.labels) labels (Grows-same s.labels);
    }

-- a label is seen
pub keeps-label : (s : Built) (l : NameAt) → KeepsLabels s (with_label s l)
keeps-label s l = record {
  holds = λ h. record { choices = h.choices; cases = h.cases; labels = seen-differ s.labels l.name h.labels };
  grows = Grows-seen s.labels l.name;
}

-- a node whose labels differ is put
pub keeps-put_type : (s : Built) (n : TypeNode) (at : ℕ) → AllDiffer (type_labels n) → KeepsLabels s (put_type s n at).0
keeps-put_type s n at differ = record {
  holds = λ h. record {
    choices = All-push (λ t. AllDiffer (type_labels t.node)) s.types (record { node = n; at = at }) h.choices differ;
    cases = h.cases;
    labels = h.labels;
  };
  grows = Grows-same s.labels;
}

keeps-put_node : (s : Built) (n : CodeNode) → AllDiffer (code_labels n) → KeepsLabels s (put_node s n).0
keeps-put_node s n differ = record {
  holds = λ h. record {
    choices = h.choices;
    cases = All-push (λ c. AllDiffer (code_labels c)) s.code n h.cases differ;
    labels = h.labels;
  };
  grows = Grows-same s.labels;
}

pub keeps-put_code : (model : CostModel) (s : Built) (n : CodeNode) → AllDiffer (code_labels n)
    → KeepsLabels s (put_code model s n).0
keeps-put_code model s n differ = by (is_charged model n)
  where
    by : (b : Bool) → KeepsLabels s (if b then put_work (put_node s n) (code_offset n) else put_node s n).0
    by true =
        let put = put_node s n in
        keeps-then (keeps-put_node s n differ)
        (keeps-put_node put.0 (node.Work (code_offset n) (amount.Written 1) put.1) none_differ)
    by false = keeps-put_node s n differ

-- amounts and terms have no labels
pub amount-labelled : (s : Built) (q : Quantity) → labelled (quantity_amount s q).0 ≡ labelled s
amount-labelled s (quantity.Number units) = refl
amount-labelled s quantity.Star = refl

mutual
  unfolding build_term build_terms

  pub term-labelled : (functions : Names) (s : Built) (t : TermTree)
      → labelled (build_term functions s t).0 ≡ labelled s
  term-labelled functions s (number at value) = refl
  term-labelled functions s (truth at value) = refl
  term-labelled functions s (me at) = refl
  term-labelled functions s (variable n) = refl
  term-labelled functions s (application f arguments) = terms-labelled functions s arguments
  term-labelled functions s (no_items at element) = refl
  term-labelled functions s (binary operator at left right) =
      term-labelled functions (build_term functions s left).0 right ∙ term-labelled functions s left
  term-labelled functions s (negation at inner) = term-labelled functions s inner
  term-labelled functions s (choosing at test holds fails) =
      let t = (build_term functions s test).0 in
      term-labelled functions (build_term functions t holds).0 fails
      ∙ term-labelled functions t holds
      ∙ term-labelled functions s test
  term-labelled functions s (matching at matched empty head tail more) =
      let l = (build_term functions s matched).0 in
      let a = (build_term functions l empty).0 in
      term-labelled functions (with_variable (with_variable a head) tail) more
      ∙ term-labelled functions l empty
      ∙ term-labelled functions s matched
  term-labelled functions s (parenthesized inner) = term-labelled functions s inner

  terms-labelled : (functions : Names) (s : Built) (ts : TermTrees)
      → labelled (build_terms functions s ts).0 ≡ labelled s
  terms-labelled functions s no_terms = refl
  terms-labelled functions s (term first rest) =
      terms-labelled functions (build_term functions s first).0 rest ∙ term-labelled functions s first
