-- The channels of a process bind a variable to the name that the cells have, wherever it is kept.
use Rattle.std.proofs.Common.{◌≡◌, ◌∙◌, ℕ, ◌==◌, ◌&&◌, Bool, true, false, cond, List, [], ◌∷◌, ◌++◌, drop, Option, Some, None, refl, sym, ap}
use Rattle.std.specs.Option.{option_map, option_to_list}
use Rattle.nomos_ir.specs.Bindings.{bound_to}
use Rattle.nomos_ir.specs.declared.ids.VarId.{VarId}
use Rattle.nomos_ir.proofs.BindingLaws.{ascending-same, bindings_of-ascending, bound-in_bindings_of}
use Rattle.nomos_machine.specs.declared.object.Object.TheVariants as object
use Rattle.nomos_slots.specs.Cells.{Cell, name_in}
use Rattle.nomos_slots.specs.declared.numbered.Slot.{Slot}
use Rattle.nomos_state.specs.Objects.{ListRow, ValueRow, channels_of, entries_of, object_of, objects_of}
use Rattle.nomos_state.specs.declared.kept.Kept.{Kept}
use Rattle.nomos_state.specs.declared.kept.Kept.TheVariants as kept

-- the entries of a process bind a variable to the name that the cells have
pub bound-in_entries : (cells : List Cell) (p v : ℕ) → bound_to v (entries_of cells p) ≡ name_in cells p v
bound-in_entries [] p v = refl
bound-in_entries (None ∷ cells) p v = bound-in_entries cells p v
bound-in_entries (Some e ∷ cells) p v = at (e.process == p) (bound-in_entries cells p v)
  where
    first : VarId × ℕ
    first = (record { 0 = e.variable }, e.name)

    at : (b : Bool) → bound_to v (entries_of cells p) ≡ name_in cells p v
        → bound_to v (cond b (first ∷ entries_of cells p) (entries_of cells p))
        ≡ cond (b && e.variable == v) (Some e.name) (name_in cells p v)
    at true rest = ap (cond (e.variable == v) (Some e.name)) rest
    at false rest = rest

-- what a channel is bound to is the name that the cells have
pub bound-in_channels : (cells : List Cell) (p v : ℕ) → bound_to v (channels_of cells p) ≡ name_in cells p v
bound-in_channels cells p v = bound-in_bindings_of v (entries_of cells p) ∙ bound-in_entries cells p v

-- where cells have the same names for a process, it has the same channels
pub channels-same : (before after : List Cell) (p : ℕ) → ((v : ℕ) → name_in after p v ≡ name_in before p v)
    → channels_of after p ≡ channels_of before p
channels-same before after p same =
    ascending-same (channels_of after p) (channels_of before p) (bindings_of-ascending (entries_of after p))
    (bindings_of-ascending (entries_of before p))
    (λ v. bound-in_channels after p v ∙ same v ∙ sym (bound-in_channels before p v))

-- so it is the same object
pub object-same : (before after : List Cell) (n : ℕ) (values : ValueRow) (its_lists : ListRow) (k : Kept)
    → ((v : ℕ) → name_in after n v ≡ name_in before n v)
    → object_of after n values its_lists k ≡ object_of before n values its_lists k
object-same before after n values its_lists (kept.Process k) same =
    ap (λ (channels : List (VarId × ℕ)). object.Process (record {
      pid = n;
      mode = k.mode;
      code = k.code;
      values = values;
      lists = drop k.gone its_lists;
      channels = channels;
      offers = k.offers;
      base = k.base;
      purse = k.purse;
      payer = k.payer;
    })) (channels-same before after n same)
object-same before after n values its_lists (kept.Message k) same = refl

-- where cells have the same names, the objects are the same
pub objects-same : (before after : List Cell) (slots : List (Slot Kept)) (vs : List ValueRow) (ls : List ListRow)
    → ((p v : ℕ) → name_in after p v ≡ name_in before p v)
    → objects_of after slots vs ls ≡ objects_of before slots vs ls
objects-same before after [] vs ls same = refl
objects-same before after (s ∷ slots) [] ls same = refl
objects-same before after (s ∷ slots) (v ∷ vs) [] same = refl
objects-same before after (s ∷ slots) (v ∷ vs) (l ∷ ls) same =
    ap (λ os. option_to_list (option_map (object_of after s.number v l) s.item) ++ os)
    (objects-same before after slots vs ls same)
    ∙ ap (λ o. option_to_list o ++ objects_of before slots vs ls) (at s.item)
  where
    at : (item : Option Kept)
        → option_map (object_of after s.number v l) item ≡ option_map (object_of before s.number v l) item
    at None = refl
    at (Some k) = ap Some (object-same before after s.number v l k (same s.number))
