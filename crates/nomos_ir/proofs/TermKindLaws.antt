-- A term has one kind at most.
use Rattle.std.proofs.Common.{◌≡◌, refl, subst}
use Rattle.nomos_ir.specs.declared.ids.TermId.{TermId}
use Rattle.nomos_ir.specs.declared.kind.Kind.{Kind}
use Rattle.nomos_ir.specs.declared.lists.ProgramLists.{ProgramLists}
use Rattle.nomos_ir.specs.declared.term_node.TermNode.{TermNode}
use Rattle.nomos_ir.specs.TermKind.{VariableKinds, HasKind, NodeHasKind}
use Rattle.nomos_ir.specs.TermKind as kind

mutual
  -- a term has one kind at most
  pub HasKind-unique : (lists : ProgramLists) (vars : VariableKinds) (t : TermId) (k l : Kind) → HasKind lists vars t k
      → HasKind lists vars t l → k ≡ l
  HasKind-unique lists vars t k l (kind.term _ _ _ m m_there has) (kind.term _ _ _ n n_there too) =
      let P : TermNode → Type 0 = λ x. NodeHasKind lists vars x l in
      let same : n ≡ m = cc in NodeHasKind-unique lists vars m k l has (subst P same too)

  pub NodeHasKind-unique : (lists : ProgramLists) (vars : VariableKinds) (n : TermNode) (k l : Kind)
      → NodeHasKind lists vars n k → NodeHasKind lists vars n l → k ≡ l
  NodeHasKind-unique lists vars n k l (kind.number _ at m) (kind.number _ _ _) = refl
  NodeHasKind-unique lists vars n k l (kind.truth _ at b) (kind.truth _ _ _) = refl
  NodeHasKind-unique lists vars n k l (kind.variable _ at v _ found) (kind.variable _ _ _ _ again) = cc
  NodeHasKind-unique lists vars n k l (kind.call _ at f values d _ found args given)
      (kind.call _ _ _ _ e _ again others too) =
      let same : d ≡ e = cc in cc
  NodeHasKind-unique lists vars n k l (kind.nil _ at element) (kind.nil _ _ _) = refl
  NodeHasKind-unique lists vars n k l (kind.plus _ at a b x y) (kind.plus _ _ _ _ _ _) = refl
  NodeHasKind-unique lists vars n k l (kind.minus _ at a b x y) (kind.minus _ _ _ _ _ _) = refl
  NodeHasKind-unique lists vars n k l (kind.times _ at a b x y) (kind.times _ _ _ _ _ _) = refl
  NodeHasKind-unique lists vars n k l (kind.quotient _ at a b x y) (kind.quotient _ _ _ _ _ _) = refl
  NodeHasKind-unique lists vars n k l (kind.remainder _ at a b x y) (kind.remainder _ _ _ _ _ _) = refl
  NodeHasKind-unique lists vars n k l (kind.less _ at a b x y) (kind.less _ _ _ _ _ _) = refl
  NodeHasKind-unique lists vars n k l (kind.equal _ at a b x y) (kind.equal _ _ _ _ _ _) = refl
  NodeHasKind-unique lists vars n k l (kind.and _ at a b x y) (kind.and _ _ _ _ _ _) = refl
  NodeHasKind-unique lists vars n k l (kind.or _ at a b x y) (kind.or _ _ _ _ _ _) = refl
  NodeHasKind-unique lists vars n k l (kind.cons _ at a b e x y) (kind.cons _ _ _ _ f x2 y2) =
      HasKind-unique lists vars b k l y y2
  NodeHasKind-unique lists vars n k l (kind.not _ at a x) (kind.not _ _ _ _) = refl
  NodeHasKind-unique lists vars n k l (kind.choice _ at test a b _ x y z) (kind.choice _ _ _ _ _ _ x2 y2 z2) =
      HasKind-unique lists vars a k l y y2
  NodeHasKind-unique lists vars n k l (kind.parts _ at list empty full head tail element _ x y z)
      (kind.parts _ _ _ _ _ _ _ other _ x2 y2 z2) =
      HasKind-unique lists vars empty k l y y2
