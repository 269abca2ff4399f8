-- The lists of variables of a store.
use Rattle.std.proofs.Common.{◌≡◌, ◌+◌, ◌<◌, ◌≤◌, ◌⊎◌, ◌==◌, ℕ, zero, suc, Bool, true, false, cond, min, max, List, [], ◌∷◌, ◌++◌, length, get_or, Option, Some, None, slice_get, refl, sym, ap, ◌∙◌, subst, arith, rules, tests, ⊎_elim, inl, inr}
use Rattle.std.proofs.lemmas.Bool.Decides.{nat_tests}
use Rattle.std.proofs.lemmas.List.{get_or_append_left}
use Rattle.std.proofs.lemmas.Option.{slice_get_read}
use Rattle.nomos_ir.specs.declared.ids.VarId.{VarId}
use Rattle.nomos_ir.specs.Bindings.{bound_to}
use Rattle.nomos_eval.specs.declared.datum.Datum.{Datum}
use Rattle.nomos_eval.specs.declared.scopes.Binding.{Binding}
use Rattle.nomos_eval.specs.declared.scopes.Binding.TheVariants as binding
use Rattle.nomos_eval.specs.declared.scopes.Leap.{Leap}
use Rattle.nomos_eval.specs.mirror.EvalScope.{binding_list, scopes_of, IsBehind, IsOutside, Leads, LeadsOn, AreScopes}
use Rattle.nomos_eval.specs.mirror.EvalTable.{table}
use Rattle.nomos_eval.proofs.TableLemmas.{table-push, length-table, table-at}

-- a binding keeps its variables where others are added
binding-more : (scopes more : List (List (VarId × Datum))) (c : Binding) → IsBehind (length scopes) c
    → binding_list (scopes ++ more) c ≡ binding_list scopes c
binding-more scopes more binding.Nothing before = refl
binding-more scopes more (binding.More v value others leap) before =
    ap (λ l. (v, value) ∷ l) (get_or_append_left scopes more [] others before)
binding-more scopes more (binding.Call frame) before = refl

length-scopes : (cells : List Binding) → length (scopes_of cells) ≡ length cells
unfolding scopes_of
length-scopes cells = omega (arith, length-table binding_list [] cells)

scopes-push : (cells : List Binding) (c : Binding)
    → scopes_of (cells ++ c ∷ []) ≡ scopes_of cells ++ binding_list (scopes_of cells) c ∷ []
unfolding scopes_of
scopes-push cells c = table-push binding_list [] cells c

scopes-at : (cells : List Binding) (k : ℕ) (c : Binding) → AreScopes cells → slice_get cells k ≡ Some c
    → get_or (scopes_of cells) k [] ≡ binding_list (scopes_of cells) c
unfolding scopes_of
scopes-at cells k c are found =
    let P : ℕ → Type 0 = λ n. get_or (table binding_list [] cells) n []
    ≡ binding_list (table binding_list [] cells) c in
    let at : 0 + k ≡ k = omega arith in
    let low : (j : ℕ) (b : Binding) → slice_get cells j ≡ Some b
    → IsBehind (0 + j) b = λ j b there.
    (let L : ℕ → Type 0 = λ n. IsBehind n b in let same : j
    ≡ 0 + j = omega arith in subst L same (are.before j b there)) in
    subst P at (table-at binding_list IsBehind (λ xs ys b before. binding-more xs ys b before) [] cells k c [] low
    found)

pushed : (cells : List Binding) (c b : Binding) (k : ℕ) → slice_get (cells ++ c ∷ []) k ≡ Some b
    → (slice_get cells k ≡ Some b) ⊎ ((k ≡ length cells) × (c ≡ b))
pushed [] c b zero found = inr (refl, cc)
pushed [] c b (suc k) found = absurd cc
pushed (e ∷ cells) c b zero found = inl found
pushed (e ∷ cells) c b (suc k) found =
    ⊎_elim (λ old. inl old) (λ new. inr (ap suc new.0, new.1)) (pushed cells c b k found)

-- a leap leads to the same place where others are added
leads-more : (scopes more : List (List (VarId × Datum))) (k : ℕ) (c : Binding) → k ≤ length scopes → IsBehind k c
    → LeadsOn scopes c → LeadsOn (scopes ++ more) c
leads-more scopes more k binding.Nothing inside before leads = tt
leads-more scopes more k (binding.More w value others leap) inside before leads =
    let there : others < length scopes = omega arith in
    let target : leap.place < length scopes = omega (arith, leads.there) in
    record {
      there = leads.there;
      apart = leads.apart;
      same = λ v outside.
          ap (bound_to v) (get_or_append_left scopes more [] others there) ∙ leads.same v outside
          ∙ ap (bound_to v) (sym (get_or_append_left scopes more [] leap.place target));
    }
leads-more scopes more k (binding.Call frame) inside before leads = tt

inside_of : (cells : List Binding) (k : ℕ) (c : Binding) → slice_get cells k ≡ Some c → k < length cells
inside_of [] k c found = absurd cc
inside_of (b ∷ cells) zero c found = omega arith
inside_of (b ∷ cells) (suc k) c found = omega (arith, inside_of cells k c found)

-- bindings with one more binding of variables that are there
pub are-pushed : (cells : List Binding) (c : Binding) → AreScopes cells → IsBehind (length cells) c
    → LeadsOn (scopes_of cells) c → AreScopes (cells ++ c ∷ [])
are-pushed cells c are before leads =
    let longer = scopes-push cells c in
    let more = binding_list (scopes_of cells) c ∷ [] in
    let long = length-scopes cells in
    let keep : (k : ℕ) (b : Binding) → k ≤ length cells → IsBehind k b → LeadsOn (scopes_of cells) b
    → LeadsOn (scopes_of (cells ++ c ∷ [])) b = λ k b inside behind on.
    (let P : List (List (VarId × Datum)) → Type 0 = λ l. LeadsOn l b in
    subst P (sym longer) (leads-more (scopes_of cells) more k b (omega arith) behind on)) in
    record {
      before = λ k b found.
          ⊎_elim
          (λ old. are.before k b old)
          (λ new. let N : ℕ → Type 0 = λ n. IsBehind n b in let B : Binding
          → Type 0 = λ x. IsBehind (length cells) x in subst N (sym new.0) (subst B new.1 before))
          (pushed cells c b k found);
      leaps = λ k b found.
          ⊎_elim
          (λ old. let inside = inside_of cells k b old in
          keep k b (omega arith) (are.before k b old) (are.leaps k b old))
          (λ new. let B : Binding → Type 0 = λ x. LeadsOn (scopes_of (cells ++ c ∷ [])) x in
          subst B new.1 (keep (length cells) c (omega arith) before leads))
          (pushed cells c b k found);
    }

module _ (cells : List Binding) (scopes : List (List (VarId × Datum))) (same : scopes_of cells ≡ scopes)
    (are : AreScopes cells) where
  -- as many lists as bindings
  pub long : length cells ≡ length scopes
  long = sym (length-scopes cells) ∙ ap length same

  read_there : (k : ℕ) (x c : Binding) → k < length scopes → x ≡ get_or cells k x → x ≡ c → slice_get cells k ≡ Some c
  read_there k x c inside read is = slice_get_read cells (length scopes) k x (sym long) inside read ∙ ap Some is

  read_list : (k : ℕ) (x c : Binding) → k < length scopes → x ≡ get_or cells k x → x ≡ c
      → get_or scopes k [] ≡ binding_list scopes c
  read_list k x c inside read is =
      let P : List (List (VarId × Datum)) → Type 0 = λ l. get_or l k [] ≡ binding_list l c in
      subst P same (scopes-at cells k c are (read_there k x c inside read is))

  pub none_at : (v k : ℕ) (x : Binding) → k < length scopes → x ≡ get_or cells k x → x ≡ binding.Nothing
      → bound_to v (get_or scopes k []) ≡ None
  none_at v k x inside read is = ap (bound_to v) (read_list k x binding.Nothing inside read is)

  pub call_at : (v k : ℕ) (x : Binding) (frame : List (VarId × Datum)) → k < length scopes → x ≡ get_or cells k x
      → x ≡ binding.Call frame → bound_to v (get_or scopes k []) ≡ bound_to v frame
  call_at v k x frame inside read is = ap (bound_to v) (read_list k x (binding.Call frame) inside read is)

  pub some_at : (v k : ℕ) (x : Binding) (w : VarId) (value : Datum) (others : ℕ) (leap : Leap) → k < length scopes
      → x ≡ get_or cells k x → x ≡ binding.More w value others leap
      → (others < k) × (bound_to v (get_or scopes k [])
      ≡ cond (w.0 == v) (Some value) (bound_to v (get_or scopes others [])))
  some_at v k x w value others leap inside read is = (
    are.before k (binding.More w value others leap) (read_there k x _ inside read is),
    ap (bound_to v) (read_list k x (binding.More w value others leap) inside read is),
  )

  pub leads_at : (k : ℕ) (x : Binding) (w : VarId) (value : Datum) (others : ℕ) (leap : Leap) → k < length scopes
      → x ≡ get_or cells k x → x ≡ binding.More w value others leap → Leads scopes w others leap
  leads_at k x w value others leap inside read is =
      let P : List (List (VarId × Datum)) → Type 0 = λ l. Leads l w others leap in
      subst P same (are.leaps k (binding.More w value others leap) (read_there k x _ inside read is))

  pub view-push : (more : List Binding) (c : Binding) → more ≡ cells ++ c ∷ []
      → scopes_of more ≡ scopes ++ binding_list scopes c ∷ []
  view-push more c pushed_too =
      let P : List (List (VarId × Datum)) → Type 0 = λ l. scopes_of more ≡ l ++ binding_list l c ∷ [] in
      subst P same (ap scopes_of pushed_too ∙ scopes-push cells c)

-- a step of a look-up
pub found_here : (o p : Option Datum) (b : Bool) (x : Datum) → o ≡ cond b (Some x) p → b ≡ true → o ≡ Some x
found_here o p b x step is = step ∙ ap (λ c. cond c (Some x) p) is

pub missed_here : (o p : Option Datum) (b : Bool) (x : Datum) → o ≡ cond b (Some x) p → b ≡ false → o ≡ p
missed_here o p b x step is = step ∙ ap (λ c. cond c (Some x) p) is

-- outside of the longer leap is outside of each of those that it is made of
module _ (leap first second : Leap) (w : VarId) (least : leap.least ≡ min (min w.0 first.least) second.least)
    (most : leap.most ≡ max (max w.0 first.most) second.most) (v : ℕ) where
  outside_own : IsOutside leap v → (w.0 == v) ≡ false
  outside_own outside = grind (arith, nat_tests)

  outside_first : IsOutside leap v → IsOutside first v
  outside_first outside =
      ⊎_elim
      (λ (low : v < leap.least). inl (omega arith))
      (λ (high : leap.most < v). inr (omega arith))
      outside

  outside_second : IsOutside leap v → IsOutside second v
  outside_second outside =
      ⊎_elim
      (λ (low : v < leap.least). inl (omega arith))
      (λ (high : leap.most < v). inr (omega arith))
      outside

-- a leap over a variable and over those of the two leaps behind it
module _ (scopes : List (List (VarId × Datum))) (w w1 w2 : VarId) (x1 x2 : Datum) (others others1 others2 : ℕ)
    (first second leap : Leap) (leads1 : Leads scopes w1 others1 first) (leads2 : Leads scopes w2 others2 second)
    (at1 : (v : ℕ) → (others1 < others) × (bound_to v (get_or scopes others [])
    ≡ cond (w1.0 == v) (Some x1) (bound_to v (get_or scopes others1 []))))
    (at2 : (v : ℕ) → (others2 < first.place) × (bound_to v (get_or scopes first.place [])
    ≡ cond (w2.0 == v) (Some x2) (bound_to v (get_or scopes others2 []))))
    (place : leap.place ≡ second.place) (least : leap.least ≡ min (min w.0 first.least) second.least)
    (most : leap.most ≡ max (max w.0 first.most) second.most) where
  pub leads-far : Leads scopes w others leap
  leads-far =
      record {
        there = omega (arith, (at1 0).0, (at2 0).0, leads1.there, leads2.there);
        apart = λ v outside. outside_own leap first second w least most v outside;
        same = λ v outside.
            (let out1 = outside_first leap first second w least most v outside in
            let out2 = outside_second leap first second w least most v outside in
            missed_here _ _ _ x1 (at1 v).1 (leads1.apart v out1) ∙ leads1.same v out1
            ∙ missed_here _ _ _ x2 (at2 v).1 (leads2.apart v out2) ∙ leads2.same v out2
            ∙ ap (λ k. bound_to v (get_or scopes k [])) (sym place));
      }
