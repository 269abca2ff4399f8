-- How claims and what is built go together, one call after the other.
use Rattle.std.proofs.Common.{◌≡◌, ℕ, Bool, true, false, List, [], ◌∷◌, ◌++◌, length, take, Some, refl, sym, ap, ◌∙◌, append_assoc}
use Rattle.std.specs.Prelude.{if◌then◌else◌}
use Rattle.std.specs.Str.{bytes_eq}
use Rattle.nomos_elaborate.specs.NameClaim.{NameClaim, first_broken, new_on_way}
use Rattle.nomos_elaborate.specs.Scope.{Scope, sort_of, bind, is_unbound}
use Rattle.nomos_elaborate.specs.declared.elaborator.Elaborator.{Elaborator}
use Rattle.nomos_elaborate.specs.declared.sort.Sort.{Sort}
use Rattle.nomos_elaborate.specs.mirror.Agrees.{unless_broken, where_all_hold}
use Rattle.nomos_elaborate.specs.mirror.Checked.{Checked, found, broken, demand, ◌>>=◌}
use Rattle.nomos_elaborate.specs.mirror.Work.{made, variable_seen, check_new, check_bind, bound}
use Rattle.nomos_ir.specs.declared.ids.VarId.{VarId}
use Rattle.nomos_surface.specs.declared.name_at.NameAt.{NameAt}

-- what a test demands
abbrev tested : Bool → ℕ → Checked (Unit {0})
tested b at = if b then found tt else broken at

-- a claim and what goes on where it holds
pub demand-then : {B : Type 0} (c : NameClaim) (more : List NameClaim) (f : Unit {0} → Checked B) (y : B)
    → (c.holds ≡ true → f tt ≡ where_all_hold more y) → (demand c >>= f) ≡ where_all_hold (c ∷ more) y
demand-then {B} c more f y h = by c.holds refl
  where
    by : (b : Bool) → c.holds ≡ b → (tested b c.at >>= f) ≡ unless_broken (if b then first_broken more else Some c.at) y
    by true e = h e
    by false e = refl

-- claims, and what goes on where they hold
module _ {A B : Type 0} (x : A) (f : A → Checked B) (more : List NameClaim) (y : B) where
  held-then : (claims : List NameClaim) → f x ≡ where_all_hold more y
      → (where_all_hold claims x >>= f) ≡ where_all_hold (claims ++ more) y
  held-then [] h = h
  held-then (c ∷ claims) h = by c.holds (held-then claims h)
    where
      by : (b : Bool) → (where_all_hold claims x >>= f) ≡ where_all_hold (claims ++ more) y
          → (unless_broken (if b then first_broken claims else Some c.at) x >>= f)
          ≡ unless_broken (if b then first_broken (claims ++ more) else Some c.at) y
      by true ih = ih
      by false ih = refl

  pub law-then : (c : Checked A) (claims : List NameClaim) → c ≡ where_all_hold claims x → f x ≡ where_all_hold more y
      → (c >>= f) ≡ where_all_hold (claims ++ more) y
  law-then c claims e h = ap (λ d. d >>= f) e ∙ held-then claims h

-- claims, and what is made where they hold
module _ {A B : Type 0} (x : A) (f : A → Checked B) (y : B) where
  held-last : (claims : List NameClaim) → f x ≡ found y → (where_all_hold claims x >>= f) ≡ where_all_hold claims y
  held-last [] h = h
  held-last (c ∷ claims) h = by c.holds (held-last claims h)
    where
      by : (b : Bool) → (where_all_hold claims x >>= f) ≡ where_all_hold claims y
          → (unless_broken (if b then first_broken claims else Some c.at) x >>= f)
          ≡ unless_broken (if b then first_broken claims else Some c.at) y
      by true ih = ih
      by false ih = refl

  pub law-last : (c : Checked A) (claims : List NameClaim) → c ≡ where_all_hold claims x → f x ≡ found y
      → (c >>= f) ≡ where_all_hold claims y
  law-last c claims e h = ap (λ d. d >>= f) e ∙ held-last claims h

-- a binder that is not bound yet
pub new-then : {B : Type 0} (w : Elaborator) (n : NameAt) (more : List NameClaim) (f : Elaborator × VarId → Checked B)
    (y : B)
    → (is_unbound (sort_of w.scope n.name) ≡ true → f (made w (variable_seen w.built n)) ≡ where_all_hold more y)
    → (check_new w n >>= f) ≡ where_all_hold (new_on_way w.scope n ∷ more) y
new-then {B} w n more f y h = by (is_unbound (sort_of w.scope n.name)) refl
  where
    by : (b : Bool) → is_unbound (sort_of w.scope n.name) ≡ b
        → ((tested b n.at >>= (λ u. found (made w (variable_seen w.built n)))) >>= f)
        ≡ unless_broken (if b then first_broken more else Some n.at) y
    by true e = h e
    by false e = refl

-- a binder whose name is bound at once
abbrev pub now_bound : Elaborator → NameAt → Sort → Elaborator × VarId
now_bound w n s = (bound (made w (variable_seen w.built n)).0 n s, (variable_seen w.built n).1)

pub bind-then : {B : Type 0} (w : Elaborator) (n : NameAt) (s : Sort) (more : List NameClaim)
    (f : Elaborator × VarId → Checked B) (y : B)
    → (is_unbound (sort_of w.scope n.name) ≡ true → f (now_bound w n s) ≡ where_all_hold more y)
    → (check_bind w n s >>= f) ≡ where_all_hold (new_on_way w.scope n ∷ more) y
bind-then {B} w n s more f y h = by (is_unbound (sort_of w.scope n.name)) refl
  where
    by : (b : Bool) → is_unbound (sort_of w.scope n.name) ≡ b
        → (((tested b n.at >>= (λ u. found (made w (variable_seen w.built n)))) >>= (λ v. found (bound v.0 n s, v.1)))
        >>= f) ≡ unless_broken (if b then first_broken more else Some n.at) y
    by true e = h e
    by false e = refl

-- a new name is bound at the end
pub bind-end : (scope : Scope) (n : NameAt) (s : Sort) → is_unbound (sort_of scope n.name) ≡ true
    → bind scope n s ≡ scope ++ (n.name, s) ∷ []
bind-end [] n s h = refl
bind-end (b ∷ scope) n s h = by (bytes_eq b.0 n.name) h (bind-end scope n s)
  where
    by : (e : Bool) → is_unbound (if e then Some b.1 else sort_of scope n.name) ≡ true
        → (is_unbound (sort_of scope n.name) ≡ true → bind scope n s ≡ scope ++ (n.name, s) ∷ [])
        → (if e then (b.0, s) ∷ scope else b ∷ bind scope n s) ≡ b ∷ scope ++ (n.name, s) ∷ []
    by true k ih = cc
    by false k ih = ap (λ r. b ∷ r) (ih k)

-- the names that were bound first
pub take-front : (scope more : Scope) → take (length scope) (scope ++ more) ≡ scope
take-front [] more = refl
take-front (b ∷ scope) more = ap (λ r. b ∷ r) (take-front scope more)

-- names are bound behind those that were bound
pub record Bounds (scope inner : Scope) : Type 0 where
  pub more : Scope
  pub is : inner ≡ scope ++ more

pub bounds-none : (scope : Scope) → Bounds scope scope
bounds-none scope = record { more = []; is = sym (nothing scope) }
  where
    nothing : (s : Scope) → s ++ [] ≡ s
    nothing [] = refl
    nothing (b ∷ s) = ap (λ r. b ∷ r) (nothing s)

pub bounds-bind : (scope inner : Scope) (n : NameAt) (s : Sort) → Bounds scope inner
    → is_unbound (sort_of inner n.name) ≡ true → Bounds scope (bind inner n s)
bounds-bind scope inner n s e h =
    record {
      more = e.more ++ (n.name, s) ∷ [];
      is = bind-end inner n s h ∙ ap (λ r. r ++ (n.name, s) ∷ []) e.is ∙ over scope e.more ((n.name, s) ∷ []);
    }
  where
    over : (a b c : Scope) → (a ++ b) ++ c ≡ a ++ (b ++ c)
    over [] b c = refl
    over (x ∷ a) b c = ap (λ r. x ∷ r) (over a b c)

pub bounds-kept : (scope inner : Scope) → Bounds scope inner → take (length scope) inner ≡ scope
bounds-kept scope inner e = ap (take (length scope)) e.is ∙ take-front scope e.more

-- three claims in a row
pub grouped-law : {A : Type 0} (a b c : List NameClaim) (y : A)
    → where_all_hold (a ++ (b ++ c)) y ≡ where_all_hold ((a ++ b) ++ c) y
grouped-law a b c y = ap (λ claims. where_all_hold claims y) (sym (append_assoc a b c))
