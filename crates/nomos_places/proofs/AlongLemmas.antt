-- What is found along the code of one declaration more.
use Rattle.std.proofs.Common.{◌≡◌, ◌<◌, ◌≤◌, ◌+◌, ◌⊎◌, inl, inr, ℕ, Bool, List, ◌++◌, All, Contains, Some, length, slice_get, sym, ap, subst, ◌∙◌, arith}
use Rattle.std.proofs.lemmas.Bool.{cases_lt}
use Rattle.std.proofs.lemmas.List.Elements.{All-weaker, All-contains_itself, Contains-append_left, Contains-append_right, Contains-append_cases}
use Rattle.std.proofs.lemmas.Option.{slice_get_within}
use Rattle.nomos_check.specs.InHand.{ArePotentials, AreWanted}
use Rattle.nomos_check.specs.Reaching.{outset_of}
use Rattle.nomos_check.specs.declared.standing.Standing.{Standing}
use Rattle.nomos_forms.specs.Bounds.{IsForm}
use Rattle.nomos_forms.specs.declared.form.Form.{Form}
use Rattle.nomos_forms.specs.declared.found.Found.{Found}
use Rattle.nomos_ir.specs.Amounts.{star_count}
use Rattle.nomos_ir.specs.declared.declaration.ProcDecl.{ProcDecl}
use Rattle.nomos_ir.specs.declared.ids.CodeId.{CodeId}
use Rattle.nomos_types.specs.Acceptance.{Acceptance, IsAccepted}
use Rattle.nomos_types.specs.Derivation.{Follows}
use Rattle.nomos_types.specs.Judgement.{Judgement, start_of}
use Rattle.nomos_places.proofs.InsideLaws.{place-inside}
use Rattle.nomos_places.proofs.NotingLemmas.{length-noted, noted-kept, noted-there}
use Rattle.nomos_places.proofs.PlaceLemmas.{IsToldForm, follows-stands, here-stands, there-in_hand, told-form, told-only, told-there}
use Rattle.nomos_places.specs.WantedPlaces.{StandsIn}
use Rattle.nomos_places.specs.declared.along.Along.{Along}
use Rattle.nomos_places.specs.mirror.AlongCode.{FollowsBelow, IsAlong, IsAlongBelow, IsInHand}
use Rattle.nomos_places.specs.mirror.Noting.{noted}

-- all were followed
pub along-all : (a : Acceptance) (wanted : List Bool) (below : ℕ) (along : Along)
    → length a.program.procs ≤ below
    → IsAlongBelow a wanted below along.standings.items along.potentials.items → IsAlong a wanted along
along-all a wanted below along all is =
    let early : (j : Judgement) → StandsIn a j → FollowsBelow a below j =
    λ j stands.
    let inside = slice_get_within a.program.procs stands.number stands.declaration stands.declared in
    record {
      number = stands.number;
      early = omega (arith, inside, all);
      declaration = stands.declaration;
      declared = stands.declared;
      follows = stands.follows;
    } in
    record {
      width = is.width;
      potentials_are = λ j stands. is.potentials_are j (early j stands);
      each = λ j stands wants. is.each j (early j stands) wants;
      only = is.only;
    }

module _ {a : Acceptance} (accepted : IsAccepted a) (amounts : Found) (stars : amounts.stars ≡ a.annotations.stars)
    (unit : amounts.unit ≡ a.annotations.unit) (wanted : List Bool)
    (all : length wanted ≡ length a.program.code) (p : ℕ) (d : ProcDecl)
    (declared : slice_get a.program.procs p ≡ Some d) where
  abbrev AreFormsOf : List (CodeId × Form) → Type 0
  AreFormsOf forms =
      ArePotentials a.program (star_count a.program) (outset_of a.program d) (length wanted) forms

  -- what is told of each form
  all-told : (forms : List (CodeId × Form)) → AreFormsOf forms → All (IsToldForm a amounts) forms
  all-told forms are =
      All-weaker (Contains forms) (IsToldForm a amounts)
      (told-form accepted p d declared amounts stars unit (length wanted) forms are) forms (All-contains_itself forms)

  -- each stands at one of the program's instructions
  pub codes-inside : (forms : List (CodeId × Form)) (width : ℕ) → AreFormsOf forms → width ≡ length wanted
      → All (λ (e : CodeId × Form). e.0.0 < width) forms
  codes-inside forms width are same =
      All-weaker (IsToldForm a amounts) (λ (e : CodeId × Form). e.0.0 < width)
      (λ e t.
      let inside = place-inside accepted t.judgement t.stands in
      let at : t.judgement.code.0 ≡ e.0.0 = ap (λ (c : CodeId). c.0) t.at in
      omega (arith, inside, at, same, all)) forms (all-told forms are)

  pub forms-small : (forms : List (CodeId × Form)) → AreFormsOf forms
      → All (λ (e : CodeId × Form). IsForm (length amounts.stars) e.1) forms
  forms-small forms are =
      All-weaker (IsToldForm a amounts) (λ (e : CodeId × Form). IsForm (length amounts.stars) e.1)
      (λ e t. t.small) forms (all-told forms are)

  -- what follows below is of one of the first declarations, or of this one
  abbrev FollowsHere : Judgement → Type 0
  FollowsHere j = Follows a.program a.annotations (start_of a.program a.annotations d) j

  below-or-here : (j : Judgement) → FollowsBelow a (p + 1) j → FollowsBelow a p j ⊎ FollowsHere j
  below-or-here j f =
      let early = f.early in
      elim (cases_lt f.number p) [
        | inl before ↦ inl (record {
          number = f.number;
          early = before;
          declaration = f.declaration;
          declared = f.declared;
          follows = f.follows;
        })
        | inr behind ↦
            let is : f.number ≡ p = omega (arith, early, behind) in
            let here : slice_get a.program.procs p ≡ Some f.declaration =
            ap (slice_get a.program.procs) (sym is) ∙ f.declared in
            let same : f.declaration ≡ d = cc in
            inr (subst (λ (e : ProcDecl). Follows a.program a.annotations (start_of a.program a.annotations e) j) same
            f.follows)
      ]

  module _ (standings more : List Standing) (potentials : List ℕ) (forms : List (CodeId × Form))
      (are : AreFormsOf forms)
      (in_hand : AreWanted a.program (star_count a.program) (outset_of a.program d) wanted more)
      (before : IsAlongBelow a wanted p standings potentials) where
    potential-kept : (j : Judgement) → StandsIn a j → slice_get potentials j.code.0 ≡ Some j.q
        → slice_get (noted amounts forms potentials) j.code.0 ≡ Some j.q
    potential-kept j stands here =
        noted-kept amounts j.code.0 j.q forms potentials
        (told-only accepted p d declared amounts stars unit (length wanted) forms are j stands) here

    potential-noted : (j : Judgement) → FollowsHere j → slice_get (noted amounts forms potentials) j.code.0 ≡ Some j.q
    potential-noted j follows =
        let stands = follows-stands accepted p d declared j follows in
        let inside = place-inside accepted j stands in
        let width = before.width in
        let (e, among, at) = told-there accepted p d declared amounts stars unit (length wanted) forms are j follows
        (omega (arith, inside, all)) in
        noted-there amounts j.code.0 j.q forms potentials e
        (told-only accepted p d declared amounts stars unit (length wanted) forms are j stands)
        (omega (arith, inside, all, width)) among at

    stands-below : (j : Judgement) → FollowsBelow a p j → StandsIn a j
    stands-below j f =
        record { number = f.number; declaration = f.declaration; declared = f.declared; follows = f.follows }

    more-in_hand : (found : List Standing) (j : Judgement)
        → ((s : Standing) → Contains found s → Contains (standings ++ more) s) → IsInHand a found j
        → IsInHand a (standings ++ more) j
    more-in_hand found j inside h =
        record { standing = h.standing; among = inside h.standing h.among; has = h.has }

    -- one declaration more was followed
    pub along-more : IsAlongBelow a wanted (p + 1) (standings ++ more) (noted amounts forms potentials)
    along-more = record {
      width = length-noted amounts forms potentials ∙ before.width;
      potentials_are =
          λ j follows. elim (below-or-here j follows) [
            | inl early ↦ potential-kept j (stands-below j early) (before.potentials_are j early)
            | inr here ↦ potential-noted j here
          ];
      each =
          λ j follows wants. elim (below-or-here j follows) [
            | inl early ↦
                more-in_hand standings j (λ s. Contains-append_left standings more s) (before.each j early wants)
            | inr here ↦
                more-in_hand more j (λ s. Contains-append_right standings more s)
                (there-in_hand accepted p d declared wanted more in_hand j here wants)
          ];
      only =
          λ s among. elim (Contains-append_cases standings more s among) [
            | inl early ↦ before.only s early
            | inr here ↦ here-stands accepted p d declared s (in_hand.only s here)
          ];
    }
