-- Talks are in sections exactly where their names are among those whose talks go back.
use Rattle.std.proofs.Common.{◌≡◌, ◌≤◌, ◌↔◌, ◌∙◌, inl, inr, ℕ, Bool, true, false, IsTrue, List, [], ◌∷◌, filter, flat_map, map, cond, Contains, Option, Some, None, refl, ap, subst, sym, arith}
use Rattle.std.proofs.lemmas.List.Elements.{Contains-append_cases, Contains-append_left, Contains-append_right}
use Rattle.std.specs.Option.{option_to_list}
use Rattle.nomos_contents.specs.declared.data.StateData.{StateData}
use Rattle.nomos_ir.specs.Order.{count_of}
use Rattle.nomos_ir.specs.Program.{IsProgram}
use Rattle.nomos_ir.specs.declared.ids.TypeId.{TypeId}
use Rattle.nomos_ir.specs.declared.mode.Mode.{Mode}
use Rattle.nomos_ir.specs.declared.mode.Mode.TheVariants as mode
use Rattle.nomos_machine.proofs.PutLaws.{contains-one}
use Rattle.nomos_machine.specs.Objects.{provided, talk_end}
use Rattle.nomos_machine.specs.State.{NameTypes, type_of}
use Rattle.nomos_machine.specs.TypedState.{LeadsToBase, at_base, further}
use Rattle.nomos_machine.specs.declared.object.Message.{Message}
use Rattle.nomos_machine.specs.declared.object.Object.{Object}
use Rattle.nomos_machine.specs.declared.object.Object.TheVariants as object
use Rattle.nomos_machine.specs.declared.object.Process.{Process}
use Rattle.nomos_types.proofs.ModeLaws.{mode-in_range}
use Rattle.nomos_types.proofs.OccurrenceLaws.{contained, contains-map, contains-unmap, counted}
use Rattle.nomos_types.specs.Modes.{HasMode}
use Rattle.nomos_types.specs.Synchronizing.{IsSynchronizingAt}
use Rattle.nomos_typed.proofs.CountLemmas.{count-gone, count-kept}
use Rattle.nomos_typed.proofs.TieLemmas.{key-once, mode-typed, typed-mode}
use Rattle.nomos_typed.specs.Sections.{AreInSections, IsSectionIn}
use Rattle.nomos_typed.specs.declared.leading.Led.{Led}
use Rattle.nomos_typed.specs.declared.leading.Onward.{Onward}
use Rattle.nomos_typed.specs.declared.sections.Talk.{Talk}
use Rattle.nomos_typed.specs.declared.told.Told.{Told}
use Rattle.nomos_typed.specs.mirror.Leading.{AreLed, IsLed, led_by, led_of, onward_by, onward_of}
use Rattle.nomos_typed.specs.mirror.Leading as leading
use Rattle.nomos_typed.specs.mirror.TypedTalks.{AreTalks, HasBack, IsTalkOf, at_l, talks_at_l}
use Rattle.nomos_typed.specs.mirror.Ties.{mode_in}
use Rattle.nomos_typed.specs.mirror.ComparedWith.{IsTold, acceptance_of, program_of}

-- ---- parts of objects

pub flat-part : {X Y : Type 0} (f : X → List Y) (xs : List X) (x : X) (y : Y) → Contains xs x → Contains (f x) y
    → Contains (flat_map f xs) y
flat-part f [] x y there among = absurd (omega (arith, there.1))
flat-part f (z ∷ xs) x y there among =
    elim (Contains-append_cases (z ∷ []) xs x there) [
      | inl here ↦
          Contains-append_left (f z) (flat_map f xs) y
          (subst (λ w. Contains (f w) y) (sym (contains-one z x here)) among)
      | inr later ↦ Contains-append_right (f z) (flat_map f xs) y (flat-part f xs x y later among)
    ]

pub part-flat : {X Y : Type 0} (f : X → List Y) (xs : List X) (y : Y) → Contains (flat_map f xs) y
    → (x : X) × Contains xs x × Contains (f x) y
part-flat f [] y there = absurd (omega (arith, there.1))
part-flat f (z ∷ xs) y there =
    elim (Contains-append_cases (f z) (flat_map f xs) y there) [
      | inl here ↦ (z, Contains-append_left (z ∷ []) xs z (0, omega arith, refl), here)
      | inr later ↦
          let (x, among, part) = part-flat f xs y later in
          (x, Contains-append_right (z ∷ []) xs x among, part)
    ]

-- what is there, as a list
listed : {X : Type 0} (o : Option X) (x : X) → o ≡ Some x → Contains (option_to_list o) x
listed (Some y) x is = (0, omega arith, let same : y ≡ x = cc in same)
listed None x is = absurd cc

unlisted : {X : Type 0} (o : Option X) (x : X) → Contains (option_to_list o) x → o ≡ Some x
unlisted (Some y) x there = ap Some (contains-one y x there)
unlisted None x there = absurd (omega (arith, there.1))

-- ---- the ends of a message's talk

onward-there : (m : Message) (name end : ℕ) → Contains (provided (object.Message m)) name → Contains (talk_end m) end
    → Contains (onward_of (object.Message m)) (record { end = end; name = name })
onward-there m name end provides ends = by-way m.to_client refl
  where
    by-way : (way : Bool) → m.to_client ≡ way
        → Contains (onward_of (object.Message m)) (record { end = end; name = name })
    by-way true is =
        let from : m.from ≡ name =
        contains-one m.from name (subst (λ (w : Bool). Contains (cond w (m.from ∷ []) (option_to_list m.next)) name) is
        provides) in
        let next : Contains (option_to_list m.next) end =
        subst (λ (w : Bool). Contains (cond w (option_to_list m.next) (m.from ∷ [])) end) is ends in
        contains-map (onward_by m.to_client m.from) (option_to_list m.next) end (record { end = end; name = name }) next
        (ap (λ (w : Bool). onward_by w m.from end) is ∙ (λ i. record { end = end; name = from i }))
    by-way false is =
        let from : m.from ≡ end =
        contains-one m.from end (subst (λ (w : Bool). Contains (cond w (option_to_list m.next) (m.from ∷ [])) end) is
        ends) in
        let next : Contains (option_to_list m.next) name =
        subst (λ (w : Bool). Contains (cond w (m.from ∷ []) (option_to_list m.next)) name) is provides in
        contains-map (onward_by m.to_client m.from) (option_to_list m.next) name (record { end = end; name = name })
        next
        (ap (λ (w : Bool). onward_by w m.from name) is ∙ (λ i. record { end = from i; name = name }))

there-onward : (m : Message) (o : Onward) → Contains (onward_of (object.Message m)) o
    → Contains (provided (object.Message m)) o.name × Contains (talk_end m) o.end
there-onward m o there =
    let (next, among, is) = contains-unmap (onward_by m.to_client m.from) (option_to_list m.next) o there in
    by-way m.to_client refl next among is
  where
    by-way : (way : Bool) → m.to_client ≡ way → (next : ℕ) → Contains (option_to_list m.next) next
        → onward_by m.to_client m.from next ≡ o
        → Contains (provided (object.Message m)) o.name × Contains (talk_end m) o.end
    by-way true way next among is =
        let same : record { end = next; name = m.from } ≡ o =
        sym (ap (λ (w : Bool). onward_by w m.from next) way) ∙ is in
        let from : m.from ≡ o.name = ap (λ (p : Onward). p.name) same in
        let end : next ≡ o.end = ap (λ (p : Onward). p.end) same in (
          subst (λ (w : Bool). Contains (cond w (m.from ∷ []) (option_to_list m.next)) o.name) (sym way)
              (0, omega arith, from),
          subst (λ (w : Bool). Contains (cond w (option_to_list m.next) (m.from ∷ [])) o.end) (sym way)
              (subst (λ (n : ℕ). Contains (option_to_list m.next) n) end among),
        )
    by-way false way next among is =
        let same : record { end = m.from; name = next } ≡ o =
        sym (ap (λ (w : Bool). onward_by w m.from next) way) ∙ is in
        let name : next ≡ o.name = ap (λ (p : Onward). p.name) same in
        let from : m.from ≡ o.end = ap (λ (p : Onward). p.end) same in (
          subst (λ (w : Bool). Contains (cond w (m.from ∷ []) (option_to_list m.next)) o.name) (sym way)
              (subst (λ (n : ℕ). Contains (option_to_list m.next) n) name among),
          subst (λ (w : Bool). Contains (cond w (option_to_list m.next) (m.from ∷ [])) o.end) (sym way)
              (0, omega arith, from),
        )

-- ---- one comes from a name to a base exactly where pairs of names lead there

module _ (objects : List Object) (base : ℕ) where
  abbrev IsLedHere : ℕ → Type 0
  IsLedHere name = IsLed (flat_map led_of objects) (flat_map onward_of objects) base name

  pub leads-led : (name : ℕ) → LeadsToBase objects base name → IsLedHere name
  leads-led _ (at_base p there is_l is_base) =
      let l : Led = record { name = p.offers; base = base } in
      let own : Contains (led_by mode.L p.offers (Some base)) l = (0, omega arith, refl) in
      let here : Contains (led_by p.mode p.offers p.base) l =
      subst (λ (m : Mode). Contains (led_by m p.offers p.base) l) (sym is_l)
      (subst (λ (o : Option ℕ). Contains (led_by mode.L p.offers o) l) (sym is_base) own) in
      leading.first l (flat-part led_of objects (object.Process p) l there here) refl
  leads-led _ (further m name onward there provides ends leads) =
      let o : Onward = record { end = onward; name = name } in
      leading.further o
      (flat-part onward_of objects (object.Message m) o there (onward-there m name onward provides ends))
      (leads-led onward leads)

  led-process : (p : Process) (l : Led) → Contains objects (object.Process p) → (m : Mode) → p.mode ≡ m
      → Contains (led_by m p.offers p.base) l → l.base ≡ base → LeadsToBase objects base l.name
  led-process p l there mode.L is_l among is =
      let (b, inside, same) = contains-unmap (λ (b : ℕ). record { name = p.offers; base = b }) (option_to_list p.base) l
      among in
      let offers : p.offers ≡ l.name = ap (λ (k : Led). k.name) same in
      let based : b ≡ base = ap (λ (k : Led). k.base) same ∙ is in
      subst (λ (n : ℕ). LeadsToBase objects base n) offers
      (at_base p there is_l (unlisted p.base b inside ∙ ap Some based))
  led-process p l there mode.R is_l among is = absurd (omega (arith, among.1))
  led-process p l there mode.S is_l among is = absurd (omega (arith, among.1))
  led-process p l there mode.T is_l among is = absurd (omega (arith, among.1))

  led-object : (o : Object) (l : Led) → Contains objects o → Contains (led_of o) l → l.base ≡ base
      → LeadsToBase objects base l.name
  led-object (object.Process p) l there among is = led-process p l there p.mode refl among is
  led-object (object.Message m) l there among is = absurd (omega (arith, among.1))

  onward-object : (o : Object) (w : Onward) → Contains objects o → Contains (onward_of o) w
      → LeadsToBase objects base w.end → LeadsToBase objects base w.name
  onward-object (object.Process p) w there among leads = absurd (omega (arith, among.1))
  onward-object (object.Message m) w there among leads =
      let (provides, ends) = there-onward m w among in
      further m w.name w.end there provides ends leads

  pub led-leads : (name : ℕ) → IsLedHere name → LeadsToBase objects base name
  led-leads _ (leading.first l among is) =
      let (o, there, own) = part-flat led_of objects l among in
      led-object o l there own is
  led-leads _ (leading.further w among is) =
      let (o, there, own) = part-flat onward_of objects w among in
      onward-object o w there own (led-leads w.end is)

-- ---- names of mode L

at-l-is : (o : Option Mode) → IsTrue (at_l o) → o ≡ Some mode.L
at-l-is (Some mode.L) is = refl
at-l-is (Some mode.R) is = absurd cc
at-l-is (Some mode.S) is = absurd cc
at-l-is (Some mode.T) is = absurd cc
at-l-is None is = absurd cc

module _ (told : Told) (is_told : IsTold told) (is_program : IsProgram (program_of told)) (state : StateData)
    (types : told.types.now ≡ state.types) (led : List Led) (talks sorted : List Talk) (names wanted : List ℕ)
    (are_led : AreLed (flat_map led_of state.objects) (flat_map onward_of state.objects) led)
    (are_talks : AreTalks told led talks)
    (into : (t : Talk) → Contains talks t → Contains sorted t) (out : (t : Talk) → Contains sorted t → Contains talks t)
    (are_back : (name : ℕ) → Contains names name ↔ HasBack (acceptance_of told) sorted name)
    (are_wanted : wanted ≡ filter (talks_at_l told) (map (λ t. t.0) told.types.now)) where
  -- a name of mode L is wanted, and no other
  wanted-name : (name : ℕ) → IsTrue (talks_at_l told name) → 1 ≤ count_of name wanted
  wanted-name name is_l =
      let (t, found, has) = typed-mode told is_told is_program name mode.L (at-l-is (mode_in told name) is_l) in
      let one = key-once told.types.now name t is_told.types found in
      let kept = count-kept name (talks_at_l told) (map (λ t. t.0) told.types.now) is_l in
      let all = ap (count_of name) are_wanted in
      omega (arith, one, kept, all)

  named-wanted : (name : ℕ) → 1 ≤ count_of name wanted → IsTrue (talks_at_l told name)
  named-wanted name some = by-answer (talks_at_l told name) refl
    where
      by-answer : (b : Bool) → talks_at_l told name ≡ b → IsTrue b
      by-answer true is = refl
      by-answer false is =
          let gone = count-gone name (talks_at_l told) (map (λ t. t.0) told.types.now) is in
          let all = ap (count_of name) are_wanted in
          absurd (omega (arith, some, gone, all))

  found-here : (name : ℕ) (t : TypeId) → type_of told.types.now name ≡ Some t → type_of state.types name ≡ Some t
  found-here name t found = subst (λ (l : NameTypes). type_of l name ≡ Some t) types found

  found-there : (name : ℕ) (t : TypeId) → type_of state.types name ≡ Some t → type_of told.types.now name ≡ Some t
  found-there name t found = subst (λ (l : NameTypes). type_of l name ≡ Some t) (sym types) found

  -- a name whose talk goes back is in a section
  back-section : (name : ℕ) (t : TypeId) → type_of state.types name ≡ Some t → Contains names name
      → IsSectionIn (acceptance_of told) state name t
  back-section name t found among =
      let has = (are_back name).0 among in
      let from = (are_talks has.t).0 (out has.t has.among) in
      let talk = from.talk in
      let same : from.l.name ≡ name = sym talk.name ∙ has.is in
      let own : has.t.own ≡ t =
      let left = subst (λ (n : ℕ). type_of told.types.now n ≡ Some has.t.own) same talk.own in
      let right = found-there name t found in
      cc in
      record {
        section = record {
          base = from.l.base;
          leads =
              subst (λ (n : ℕ). LeadsToBase state.objects from.l.base n) same
              (led-leads state.objects from.l.base from.l.name ((are_led from.l).0 from.among));
          shared = has.t.shared;
          found = found-here from.l.base has.t.shared talk.shared;
          synchronizing =
              subst (λ (u : TypeId). IsSynchronizingAt (program_of told) (acceptance_of told).annotations u
              has.t.shared)
              own has.back;
        };
        within = talk.shared_in;
      }

  section-back : (name : ℕ) (t : TypeId) → type_of state.types name ≡ Some t → HasMode (program_of told) t mode.L
      → IsSectionIn (acceptance_of told) state name t → Contains names name
  section-back name t found has is =
      let section = is.section in
      let l : Led = record { name = name; base = section.base } in
      let talk : Talk = record { name = name; own = t; shared = section.shared } in
      let there : Contains led l = (are_led l).1 (leads-led state.objects section.base name section.leads) in
      let at : mode_in told name ≡ Some mode.L = mode-typed told is_told name t mode.L (found-there name t found) has in
      let is_talk : IsTalkOf told l talk = record {
        name = refl;
        own = found-there name t found;
        own_in = mode-in_range is_program has;
        shared = found-there section.base section.shared section.found;
        shared_in = is.within;
        mode = ap at_l at;
      } in
      (are_back name).1 (record {
        t = talk;
        among = into talk ((are_talks talk).1 (record { l = l; among = there; talk = is_talk }));
        is = refl;
        back = section.synchronizing;
      })

  pub sections-exact : ((n : ℕ) → (1 ≤ count_of n names) ↔ (1 ≤ count_of n wanted))
      ↔ AreInSections (acceptance_of told) state
  sections-exact = (
    λ each name t found has.
        let at = mode-typed told is_told name t mode.L (found-there name t found) has in
        back-section name t found (contained name names ((each name).1 (wanted-name name (ap at_l at)))),
    λ are name. (
      λ some.
          let has = (are_back name).0 (contained name names some) in
          let from = (are_talks has.t).0 (out has.t has.among) in
          wanted-name name (subst (λ (n : ℕ). IsTrue (talks_at_l told n)) (sym from.talk.name ∙ has.is) from.talk.mode),
      λ some.
          let at = at-l-is (mode_in told name) (named-wanted name some) in
          let (t, found, has) = typed-mode told is_told is_program name mode.L at in
          let here = found-here name t found in
          counted name names (section-back name t here has (are name t here has)),
    ),
  )
