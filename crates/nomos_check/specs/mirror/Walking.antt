-- A mirror of the code: what was gathered of the places to which the code leads, and what is left to do.
use Rattle.std.specs.Prelude.{◌≡◌, ◌<◌, ◌≤◌, ◌+◌, ◌*◌, ◌⊎◌, ◌↔◌, ℕ, zero, suc, List, ◌++◌, map, All, Contains, Option, Some, None, length, sum_by}
use Rattle.nomos_ir.specs.declared.amount.Amount.{Amount}
use Rattle.nomos_ir.specs.declared.code_node.CodeNode.{CodeNode}
use Rattle.nomos_ir.specs.declared.ids.CodeId.{CodeId}
use Rattle.nomos_ir.specs.declared.lists.ProgramLists.{ProgramLists}
use Rattle.nomos_ir.specs.Amounts.{star_count, greatest}
use Rattle.nomos_ir.specs.CodeParts.{code_next}
use Rattle.nomos_forms.specs.declared.form.Form.{Form}
use Rattle.nomos_types.specs.Equality.{no_amounts}
use Rattle.nomos_types.specs.Judgement.{Judgement}
use Rattle.nomos_types.specs.TypingRule.{TypingRule, StandsAtCode}
use Rattle.nomos_check.specs.Account.{Account, form_of}
use Rattle.nomos_check.specs.Asking.{AsksPair, IsAsked}
use Rattle.nomos_ir.specs.Instruction.{code_offset, code_form}
use Rattle.nomos_check.specs.Reaching.{Outset, GetsTo, IsPointAt, IsFormOf}
use Rattle.nomos_check.specs.declared.standing.Forks.{Forks}
use Rattle.nomos_check.specs.declared.standing.Standing.{Standing}
use Rattle.nomos_check.specs.declared.standing.WayOn.{WayOn}
use Rattle.nomos_check.specs.declared.standing.WayOn.TheVariants as way
use Rattle.nomos_check.specs.declared.code_walk.Stuck.{Stuck}
use Rattle.nomos_check.specs.declared.code_walk.CodeWalk.{CodeWalk}
use Rattle.nomos_check.specs.mirror.Stops.{first_stuck}
use Rattle.nomos_check.specs.mirror.StandingData.{shape_of, HasAccount, IsWithin, way_shape, way_account, IsWayOf, NoRow, HasPair, JoinsAsked}
use Rattle.nomos_check.specs.InHand.{IsWanted, IsPotentialAt}

-- ---- places

-- from the one judgement and account rules lead to the other
abbrev pub LeadsFrom : ProgramLists → Judgement → Account → Judgement → Account → Type 0
LeadsFrom lists j a k b = GetsTo lists (record { judgement = j; account = a }) k b

-- the form stands for an account that has to be afforded there
abbrev pub IsFormAt : ProgramLists → ℕ → Judgement → Account → Form → Type 0
IsFormAt lists n j a form = (point : Account) × IsPointAt lists j a point × (form ≡ form_of n point)

-- the process gets to where the code's data stands
pub record IsReached (lists : ProgramLists) (n : ℕ) (o : Outset) (s : Standing) : Type 0 where
  pub account : Account
  pub has : HasAccount n s account
  pub reached : GetsTo lists o (shape_of s) account

-- ---- places that are wanted

-- what is in hand where the process gets to was kept
pub record HasPlace (n : ℕ) (w : CodeWalk) (j : Judgement) (a : Account) : Type 0 where
  pub standing : Standing
  pub among : Contains w.places.items standing
  pub shape : shape_of standing ≡ j
  pub has : HasAccount n standing a

-- the same is wanted, and what was kept stays
pub record KeepsPlaces (old new : CodeWalk) : Type 0 where
  pub wanted : new.wanted.now ≡ old.wanted.now
  pub kept : (t : Standing) → Contains old.places.items t → Contains new.places.items t
  pub noted : (e : CodeId × Form) → Contains old.potentials.items e → Contains new.potentials.items e

-- what is in hand there is kept too, where it is wanted, and nothing else
pub record TakesPlace (s : Standing) (old new : CodeWalk) : Type 0 where
  pub kept : (t : Standing) → Contains old.places.items t → Contains new.places.items t
  pub one : (t : Standing) → Contains new.places.items t → Contains old.places.items t ⊎ (t ≡ s)
  pub here : IsWanted old.wanted.now s.code.0 → Contains new.places.items s

-- the potential there is kept too, where something is said of what is wanted, and nothing else
pub record TakesPotential (s : Standing) (old new : CodeWalk) : Type 0 where
  pub kept : (e : CodeId × Form) → Contains old.potentials.items e → Contains new.potentials.items e
  pub one : (e : CodeId × Form) → Contains new.potentials.items e
      → Contains old.potentials.items e ⊎ (e ≡ (s.code, s.potential))
  pub here : s.code.0 < length old.wanted.now → Contains new.potentials.items (s.code, s.potential)

-- both are kept, and the same is wanted
pub record Takes (s : Standing) (old new : CodeWalk) : Type 0 where
  pub wanted : new.wanted.now ≡ old.wanted.now
  pub place : TakesPlace s old new
  pub potential : TakesPotential s old new

-- ---- what was gathered

-- something that is stuck was found at the offset or before
abbrev pub IsStuckBy : Option Stuck → ℕ → Type 0
IsStuckBy (Some s) at = s.at ≤ at
IsStuckBy None at = ⊥

-- all that a place asks for was gathered
pub record IsDone (lists : ProgramLists) (n : ℕ) (w : CodeWalk) (j : Judgement) (a : Account) : Type 0 where
  pub forms : (f : Form) → IsFormAt lists n j a f → Contains w.forms.items f
  pub pairs : w.stuck ≡ None → (pair : Amount × Amount) → AsksPair lists j a pair → HasPair w.asked pair
  pub row : w.stuck ≡ None → (after : List Judgement) × TypingRule lists no_amounts j after
  pub stuck : NoRow lists j → (n : CodeNode) → StandsAtCode lists j n → IsStuckBy w.stuck (code_offset n)
  pub placed : IsWanted w.wanted.now j.code.0 → HasPlace n w j a
  pub noted : j.code.0 < length w.wanted.now → Contains w.potentials.items (j.code, form_of n a)

-- nothing of what was gathered is lost; pairs count only where nothing is stuck
pub record Grows (old new : CodeWalk) : Type 0 where
  pub forms : (f : Form) → Contains old.forms.items f → Contains new.forms.items f
  pub pairs : new.stuck ≡ None → (pair : Amount × Amount) → HasPair old.asked pair → HasPair new.asked pair
  pub stuck : (at : ℕ) → IsStuckBy old.stuck at → IsStuckBy new.stuck at
  pub none : new.stuck ≡ None → old.stuck ≡ None
  pub places : KeepsPlaces old new

-- an instruction to which the process gets and that no rule applies to
pub record StuckOf (lists : ProgramLists) (o : Outset) (s : Stuck) : Type 0 where
  pub judgement : Judgement
  pub account : Account
  pub reached : GetsTo lists o judgement account
  pub no_row : NoRow lists judgement
  pub node : CodeNode
  pub stands : StandsAtCode lists judgement node
  pub offset : code_offset node ≡ s.at
  pub is_form : code_form node ≡ s.form

-- what was gathered beyond the old is asked for where the process gets to
pub record Gathers (lists : ProgramLists) (n : ℕ) (o : Outset) (old new : CodeWalk) : Type 0 where
  pub forms : (f : Form) → Contains new.forms.items f → Contains old.forms.items f ⊎ IsFormOf lists n o f
  pub pairs : new.stuck ≡ None → (pair : Amount × Amount) → HasPair new.asked pair
      → HasPair old.asked pair ⊎ IsAsked lists o pair
  pub stuck : (s : Stuck) → new.stuck ≡ Some s → (old.stuck ≡ Some s) ⊎ StuckOf lists o s
  pub places : (t : Standing) → Contains new.places.items t → Contains old.places.items t ⊎ IsReached lists n o t
  pub potentials : (e : CodeId × Form) → Contains new.potentials.items e
      → Contains old.potentials.items e ⊎ IsPotentialAt lists n o e.0 e.1

-- ---- what is left

-- some rule applies
abbrev pub HasRow : ProgramLists → Judgement → Type 0
HasRow lists j = (after : List Judgement) × TypingRule lists no_amounts j after

-- the instruction of the standing is stuck, and counts from now on
pub record IsFirstStop (lists : ProgramLists) (s : Standing) (old new : Option Stuck) : Type 0 where
  pub no_row : NoRow lists (shape_of s)
  pub node : CodeNode
  pub stands : StandsAtCode lists (shape_of s) node
  pub counts : new ≡ first_stuck old (record { at = code_offset node; form = code_form node })

-- the code leads there from where the process stands, with one of its accounts
pub record AtStanding (lists : ProgramLists) (n : ℕ) (s : Standing) (j : Judgement) (a : Account) : Type 0 where
  pub account : Account
  pub has : HasAccount n s account
  pub leads : LeadsFrom lists (shape_of s) account j a

-- the code leads there along a way
pub record AlongWay (lists : ProgramLists) (n : ℕ) (f : Forks) (w : WayOn) (j : Judgement) (a : Account) : Type 0 where
  pub account : Account
  pub has : HasAccount n f.before account
  pub leads : LeadsFrom lists (way_shape (shape_of f.before) w) (way_account account w) j a

-- the code leads there along a way that is not gone yet
pub record IsPending (lists : ProgramLists) (n : ℕ) (todo : List Forks) (j : Judgement) (a : Account) : Type 0 where
  pub forks : Forks
  pub among : Contains todo forks
  pub way : WayOn
  pub inside : Contains forks.ways.items way
  pub along : AlongWay lists n forks way j a

-- the process gets to the ways, and to what stands before them
pub record IsOpen (lists : ProgramLists) (n : ℕ) (o : Outset) (f : Forks) : Type 0 where
  pub account : Account
  pub has : HasAccount n f.before account
  pub base : GetsTo lists o (shape_of f.before) account
  pub there : All (IsWayOf f.before) f.ways.items
  pub reached : (w : WayOn) → Contains f.ways.items w
      → GetsTo lists o (way_shape (shape_of f.before) w) (way_account account w)

-- Of what the process gets to from the outset, all is done but what is left to do.
pub record Walking (lists : ProgramLists) (n : ℕ) (o : Outset) (first : CodeWalk) (todo : List Forks) (w : CodeWalk)
    : Type 0 where
  pub complete : (j : Judgement) (a : Account) → GetsTo lists o j a
      → IsDone lists n w j a ⊎ IsPending lists n todo j a
  pub gathers : Gathers lists n o first w
  pub grows : Grows first w
  pub is_open : All (IsOpen lists n o) todo

-- ---- how much is left

-- the most branches of an instruction
abbrev pub width : ProgramLists → ℕ
width lists = greatest (map (λ n. length (code_next n)) lists.code)

-- more than all that an instruction with this number can lead to
abbrev pub weight : ℕ → ℕ → ℕ
weight width zero = width + 2
weight width (suc place) = (width + 2) * weight width place

-- the number of the instruction to which a way leads
abbrev pub way_next : WayOn → ℕ
way_next (way.Label c t next) = next.0
way_next (way.Truth next) = next.0
way_next (way.Empty w next) = next.0
way_next (way.Full p) = p.next.0

abbrev pub forks_work : ℕ → Forks → ℕ
forks_work width f = 1 + sum_by (λ w. weight width (way_next w)) f.ways.items

abbrev pub work : ℕ → List Forks → ℕ
work width todo = sum_by (forks_work width) todo

-- ---- what is told of going along the code

-- the forms of a place were noted
pub record NotesForms (lists : ProgramLists) (s : Standing) (old new : CodeWalk) : Type 0 where
  pub asked : new.asked ≡ old.asked
  pub stuck : new.stuck ≡ old.stuck
  pub todo : new.todo ≡ old.todo
  pub wanted : new.wanted.now ≡ old.wanted.now
  pub places : new.places ≡ old.places
  pub potentials : new.potentials ≡ old.potentials
  pub forms : (a : Account) → HasAccount (star_count lists) s a → (f : Form)
      → Contains new.forms.items f ↔ (Contains old.forms.items f ⊎ IsFormAt lists (star_count lists) (shape_of s) a f)

-- a place was noted
pub record Notes (lists : ProgramLists) (s : Standing) (old new : CodeWalk) : Type 0 where
  pub takes : Takes s old new
  pub asked : new.asked ≡ old.asked
  pub stuck : new.stuck ≡ old.stuck
  pub todo : new.todo ≡ old.todo
  pub forms : (a : Account) → HasAccount (star_count lists) s a → (f : Form)
      → Contains new.forms.items f ↔ (Contains old.forms.items f ⊎ IsFormAt lists (star_count lists) (shape_of s) a f)

-- From where the process stands, all is done but the ways that were added to what is left to do.
pub record Goes (lists : ProgramLists) (n : ℕ) (now : Standing) (old new : CodeWalk) : Type 0 where
  pub added : List Forks
  pub todo : new.todo ≡ added ++ old.todo
  pub light : work (width lists) added < weight (width lists) now.code.0
  pub grows : Grows old new
  pub complete : (j : Judgement) (a : Account) → AtStanding lists n now j a
      → IsDone lists n new j a ⊎ IsPending lists n added j a
  pub gathers : (o : Outset) → IsReached lists n o now → Gathers lists n o old new
  pub is_open : (o : Outset) → IsReached lists n o now → All (IsOpen lists n o) added

-- on the way from the one standing to the other
pub record Going (lists : ProgramLists) (n : ℕ) (first now : Standing) (old new : CodeWalk) : Type 0 where
  pub not_later : now.code.0 ≤ first.code.0
  pub todo : new.todo ≡ old.todo
  pub grows : Grows old new
  pub complete : (j : Judgement) (a : Account) → AtStanding lists n first j a
      → IsDone lists n new j a ⊎ AtStanding lists n now j a
  pub gathers : (o : Outset) → IsReached lists n o first → Gathers lists n o old new
  pub reached : (o : Outset) → IsReached lists n o first → IsReached lists n o now

-- all that a standing asks for was gathered
pub record Visits (lists : ProgramLists) (s : Standing) (old new : CodeWalk) : Type 0 where
  pub forms : (a : Account) → HasAccount (star_count lists) s a → (f : Form)
      → Contains new.forms.items f ↔ (Contains old.forms.items f ⊎ IsFormAt lists (star_count lists) (shape_of s) a f)
  pub pairs : new.stuck ≡ None → JoinsAsked lists s old.asked new.asked
  pub takes : Takes s old new
  pub stuck : ((new.stuck ≡ old.stuck) × HasRow lists (shape_of s)) ⊎ IsFirstStop lists s old.stuck new.stuck

-- wherever the process gets to from the outset, the code's data is in order
abbrev pub StaysWithin : ProgramLists → ℕ → Outset → Type 0
StaysWithin lists n o = (s : Standing) → IsReached lists n o s → IsWithin lists s

-- from some outset in order the process gets to where the code's data stands
pub record IsOnWay (lists : ProgramLists) (n : ℕ) (s : Standing) : Type 0 where
  pub outset : Outset
  pub within : StaysWithin lists n outset
  pub reached : IsReached lists n outset s

-- a walk from some outset in order
pub record IsWalk (lists : ProgramLists) (n : ℕ) (todo : List Forks) (w : CodeWalk) : Type 0 where
  pub outset : Outset
  pub within : StaysWithin lists n outset
  pub first : CodeWalk
  pub walking : Walking lists n outset first todo w

-- what was so far a walk goes on as one
abbrev pub WalksOn : ProgramLists → ℕ → List Forks → CodeWalk → List Forks → CodeWalk → Type 0
WalksOn lists n todo old rest new =
    (o : Outset) (first : CodeWalk) → Walking lists n o first todo old → Walking lists n o first rest new
