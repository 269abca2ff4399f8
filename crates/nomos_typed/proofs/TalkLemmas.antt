-- Talks are gathered one by one, and those that go back are told by the names that they have.
use Rattle.std.proofs.Common.{◌≡◌, ◌<◌, ◌+◌, ◌↔◌, ◌⊎◌, ◌∙◌, inl, inr, ℕ, Bool, true, false, IsTrue, List, [], ◌∷◌, ◌++◌, if◌then◌else◌, append-nil, take, length, get_or, All, Contains, Option, Some, None, refl, ap, subst, sym, arith}
use Rattle.std.proofs.lemmas.List.{take_more}
use Rattle.std.proofs.lemmas.List.Elements.{All-weaker, All-contains_itself, Contains-append_left, Contains-push, Contains-push_cases}
use Rattle.std.specs.Option.{option_to_list}
use Rattle.nomos_ir.specs.declared.ids.TypeId.{TypeId}
use Rattle.nomos_ir.specs.Program.{IsProgram}
use Rattle.nomos_ir.specs.declared.amount.Amount.{Amount}
use Rattle.nomos_ir.specs.declared.lists.ProgramLists.{ProgramLists}
use Rattle.nomos_equality.specs.Continuing.{StandAtDown}
use Rattle.nomos_types.specs.Acceptance.{Acceptance, IsAmountOf}
use Rattle.nomos_typed.proofs.HeadLemmas.{unfolded-amount}
use Rattle.nomos_typed.specs.declared.sections.Decided.{Decided}
use Rattle.nomos_types.specs.Synchronizing.{IsSynchronizingAt}
use Rattle.nomos_typed.specs.declared.leading.Led.{Led}
use Rattle.nomos_typed.specs.declared.sections.Talk.{Talk}
use Rattle.nomos_typed.specs.declared.told.Told.{Told}
use Rattle.nomos_typed.specs.mirror.TypedTalks.{AreTalks, HasBack, IsBack, IsDecided, IsTalkAmong, IsTalkFor, IsTalkOf}

front-more : {X : Type 0} (xs : List X) (i : ℕ) (x : X) → i < length xs → x ≡ get_or xs i x
    → take (i + 1) xs ≡ take i xs ++ x ∷ []
front-more xs i x inside is = take_more xs i x inside ∙ ap (λ y. take i xs ++ y ∷ []) (sym is)

-- ---- talks of names

module _ (told : Told) where
  talks-nothing : AreTalks told [] []
  talks-nothing t = (λ among. absurd (omega (arith, among.1)), λ is. absurd (omega (arith, is.among.1)))

  pub talks-none : (ts : List Talk) → ts ≡ [] → AreTalks told [] ts
  talks-none ts none = subst (λ (us : List Talk). AreTalks told [] us) (sym none) talks-nothing

  talk-one : (l : Led) (t u : Talk) → IsTalkOf told l t → IsTalkOf told l u → t ≡ u
  talk-one l t u first second =
      let name : t.name ≡ u.name = first.name ∙ sym second.name in
      let own : t.own ≡ u.own = let left = first.own in let right = second.own in cc in
      let shared : t.shared ≡ u.shared = let left = first.shared in let right = second.shared in cc in
      (λ i. record { name = name i; own = own i; shared = shared i })

  module _ (led : List Led) (i : ℕ) (l : Led) (inside : i < length led) (is : l ≡ get_or led i l) (talks : List Talk)
      (are : AreTalks told (take i led) talks) where
    front : take (i + 1) led ≡ take i led ++ l ∷ []
    front = front-more led i l inside is

    wider : (t : Talk) → IsTalkAmong told (take i led) t → IsTalkAmong told (take (i + 1) led) t
    wider t among = record {
      l = among.l;
      among =
          subst (λ (ls : List Led). Contains ls among.l) (sym front)
          (Contains-append_left (take i led) (l ∷ []) among.l among.among);
      talk = among.talk;
    }

    last : (t : Talk) → IsTalkOf told l t → IsTalkAmong told (take (i + 1) led) t
    last t talk = record {
      l = l;
      among = subst (λ (ls : List Led). Contains ls l) (sym front) (Contains-push (take i led) l);
      talk = talk;
    }

    -- a talk of one more name is one of those before, or that of this name
    narrower : (t : Talk) → IsTalkAmong told (take (i + 1) led) t → IsTalkAmong told (take i led) t ⊎ IsTalkOf told l t
    narrower t among =
        elim (Contains-push_cases (take i led) l among.l
        (subst (λ (ls : List Led). Contains ls among.l) front among.among)) [
          | inl before ↦ inl (record { l = among.l; among = before; talk = among.talk })
          | inr same ↦ inr (subst (λ (k : Led). IsTalkOf told k t) (sym same) among.talk)
        ]

    pub talks-more : (t : Talk) → IsTalkOf told l t → AreTalks told (take (i + 1) led) (talks ++ t ∷ [])
    talks-more t talk u = (
      λ there.
          elim (Contains-push_cases talks t u there) [
            | inl before ↦ wider u ((are u).0 before)
            | inr same ↦ last u (subst (λ (v : Talk). IsTalkOf told l v) same talk)
          ],
      λ among.
          elim (narrower u among) [
            | inl before ↦ Contains-append_left talks (t ∷ []) u ((are u).1 before)
            | inr here ↦
                subst (λ (v : Talk). Contains (talks ++ t ∷ []) v) (talk-one l t u talk here) (Contains-push talks t)
          ],
    )

    pub talks-same : ((t : Talk) → ¬ (IsTalkOf told l t)) → AreTalks told (take (i + 1) led) talks
    talks-same none u = (
      λ there. wider u ((are u).0 there),
      λ among.
          elim (narrower u among) [
            | inl before ↦ (are u).1 before
            | inr here ↦ absurd (none u here)
          ],
    )

-- ---- names of talks that go back

module _ (a : Acceptance) where
  back-nothing : (name : ℕ) → Contains [] name ↔ HasBack a [] name
  back-nothing name = (λ among. absurd (omega (arith, among.1)), λ has. absurd (omega (arith, has.among.1)))

  pub back-none : (ns : List ℕ) → ns ≡ [] → (name : ℕ) → Contains ns name ↔ HasBack a [] name
  back-none ns none name =
      subst (λ (ms : List ℕ). Contains ms name ↔ HasBack a [] name) (sym none) (back-nothing name)

  module _ (talks : List Talk) (i : ℕ) (t : Talk) (inside : i < length talks) (is : t ≡ get_or talks i t)
      (names : List ℕ) (are : (name : ℕ) → Contains names name ↔ HasBack a (take i talks) name) where
    talks-front : take (i + 1) talks ≡ take i talks ++ t ∷ []
    talks-front = front-more talks i t inside is

    back-wider : (name : ℕ) → HasBack a (take i talks) name → HasBack a (take (i + 1) talks) name
    back-wider name has = record {
      t = has.t;
      among =
          subst (λ (ts : List Talk). Contains ts has.t) (sym talks-front)
          (Contains-append_left (take i talks) (t ∷ []) has.t has.among);
      is = has.is;
      back = has.back;
    }

    back-narrower : (name : ℕ) → HasBack a (take (i + 1) talks) name
        → HasBack a (take i talks) name ⊎ ((t.name ≡ name) × IsBack a t)
    back-narrower name has =
        elim (Contains-push_cases (take i talks) t has.t
        (subst (λ (ts : List Talk). Contains ts has.t) talks-front has.among)) [
          | inl before ↦ inl (record { t = has.t; among = before; is = has.is; back = has.back })
          | inr same ↦
              inr (ap (λ (u : Talk). u.name) same ∙ has.is, subst (λ (u : Talk). IsBack a u) (sym same) has.back)
        ]

    pub back-more : IsBack a t → (name : ℕ) → Contains (names ++ t.name ∷ []) name ↔ HasBack a (take (i + 1) talks) name
    back-more back name = (
      λ there.
          elim (Contains-push_cases names t.name name there) [
            | inl before ↦ back-wider name ((are name).0 before)
            | inr same ↦ record {
              t = t;
              among = subst (λ (ts : List Talk). Contains ts t) (sym talks-front) (Contains-push (take i talks) t);
              is = same;
              back = back;
            }
          ],
      λ has.
          elim (back-narrower name has) [
            | inl before ↦ Contains-append_left names (t.name ∷ []) name ((are name).1 before)
            | inr here ↦ subst (λ (n : ℕ). Contains (names ++ t.name ∷ []) n) here.0 (Contains-push names t.name)
          ],
    )

    pub back-same : ¬ (IsBack a t) → (name : ℕ) → Contains names name ↔ HasBack a (take (i + 1) talks) name
    back-same none name = (
      λ there. back-wider name ((are name).0 there),
      λ has.
          elim (back-narrower name has) [
            | inl before ↦ (are name).1 before
            | inr here ↦ absurd (none here.1)
          ],
    )

-- talks of the same types go back alike
pub back-alike : (a : Acceptance) (t u : Talk) (answer : Bool) → (t.own ≡ u.own) × (t.shared ≡ u.shared)
    → (IsTrue answer ↔ IsBack a t) → IsTrue answer ↔ IsBack a u
back-alike a t u answer same exact =
    let moved : IsSynchronizingAt a.program a.annotations t.own t.shared
    ≡ IsSynchronizingAt a.program a.annotations u.own u.shared =
    (λ i. IsSynchronizingAt a.program a.annotations (same.0 i) (same.1 i)) in
    subst (λ (P : Type 0). IsTrue answer ↔ P) moved exact

-- a talk was found for one more name, or none
pub gather-more : (told : Told) (led : List Led) (i : ℕ) (l : Led) → i < length led → l ≡ get_or led i l
    → (talks new : List Talk) (found : Option Talk) → AreTalks told (take i led) talks → IsTalkFor told l found
    → new ≡ talks ++ option_to_list found → AreTalks told (take (i + 1) led) new
gather-more told led i l inside is talks new (Some t) are talk more =
    subst (λ (ts : List Talk). AreTalks told (take (i + 1) led) ts) (sym more)
    (talks-more told led i l inside is talks are t talk)
gather-more told led i l inside is talks new None are none more =
    subst (λ (ts : List Talk). AreTalks told (take (i + 1) led) ts) (sym (more ∙ append-nil talks))
    (talks-same told led i l inside is talks are none)

-- one more talk was decided
pub names-more : (a : Acceptance) (talks : List Talk) (i : ℕ) (t : Talk) → i < length talks → t ≡ get_or talks i t
    → (names new : List ℕ) (answer : Bool) → (IsTrue answer ↔ IsBack a t)
    → ((name : ℕ) → Contains names name ↔ HasBack a (take i talks) name)
    → new ≡ names ++ (if answer then t.name ∷ [] else [])
    → (name : ℕ) → Contains new name ↔ HasBack a (take (i + 1) talks) name
names-more a talks i t inside is names new true exact are more name =
    subst (λ (ns : List ℕ). Contains ns name ↔ HasBack a (take (i + 1) talks) name) (sym more)
    (back-more a talks i t inside is names are (exact.0 refl) name)
names-more a talks i t inside is names new false exact are more name =
    subst (λ (ns : List ℕ). Contains ns name ↔ HasBack a (take (i + 1) talks) name) (sym (more ∙ append-nil names))
    (back-same a talks i t inside is names are (λ back. let wrong : false ≡ true = exact.1 back in absurd cc) name)

pub decided-here : (a : Acceptance) (d : Decided) (t : Talk) → d.talk ≡ t → IsDecided a d
    → IsTrue d.is_back ↔ IsBack a t
decided-here a d t same is = subst (λ (u : Talk). IsTrue d.is_back ↔ IsBack a u) same is

-- both amounts of what stands behind ends of sections are amounts of the program
pub stand-amounts : (lists : ProgramLists) → IsProgram lists → (from shared : TypeId) (pairs : List (Amount × Amount))
    → ((p : Amount × Amount) → Contains pairs p ↔ StandAtDown lists from shared p)
    → All (λ (p : Amount × Amount). IsAmountOf lists p.0 × IsAmountOf lists p.1) pairs
stand-amounts lists is_program from shared pairs are =
    All-weaker (Contains pairs) (λ (p : Amount × Amount). IsAmountOf lists p.0 × IsAmountOf lists p.1)
    (λ p among.
    let stand = ((are p).0 among).stand in
    let place = stand.place in (
      unfolded-amount is_program place.left_type.0 place.left p.0 place.left_unfolds stand.left_pays,
      unfolded-amount is_program place.right_type.0 place.right p.1 place.right_unfolds stand.right_pays,
    ))
    pairs (All-contains_itself pairs)
