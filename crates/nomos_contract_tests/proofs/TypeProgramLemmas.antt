-- Definitions, types and labels of which all holds that is looked at make a program.
use Rattle.std.proofs.Common.{◌≡◌, ℕ, List, [], ◌++◌, length, map, Some, slice_get, subst, sym, refl, arith}
use Rattle.std.specs.Prelude.{All}
use Rattle.std.specs.List.{flat_map}
use Rattle.std.proofs.lemmas.List.{append-nil}
use Rattle.std.proofs.lemmas.List.Elements.{All-nil}
use Rattle.std.proofs.lemmas.Option.{get_or_from_slice_get, slice_get_within}
use Rattle.nomos_ir.specs.declared.lists.ProgramLists.{ProgramLists}
use Rattle.nomos_ir.specs.declared.type_node.Def.{Def}
use Rattle.nomos_ir.specs.declared.type_node.TypeAt.{TypeAt}
use Rattle.nomos_ir.specs.Amounts.{IsAmount, amounts_of}
use Rattle.nomos_ir.specs.Order.{count_of, type_places}
use Rattle.nomos_ir.specs.Program.{IsProgram}
use Rattle.nomos_ir.specs.TypeParts.{type_parts, type_amounts}
use Rattle.nomos_contract_tests.specs.Fitting.{NodeFits, NodesFit, StandOnce, BodiesFit, HasBodies, NamesFit, TypesFit}
use Rattle.nomos_types.proofs.OccurrenceLaws.{all-flat}

-- the parts of what is asked of bodies
pub bodies_fit : (defs : List Def) (types : List TypeAt) (places : List ℕ) (limit : ℕ)
    → places ≡ map (λ d. d.body.0) defs ++ flat_map (λ t. type_parts t.node) types → limit ≡ length types
    → StandOnce places limit → HasBodies defs (length types) → BodiesFit defs types
bodies_fit defs types places limit are is once bodies =
    let S : List ℕ → Type 0 = λ ps. StandOnce ps (length types) in
    let T : ℕ → Type 0 = λ n. StandOnce places n in
    record { bodies = bodies; once = subst S are (subst T is once) }

-- the parts of all that is asked
pub types_fit : (lists : ProgramLists) (defs : List Def) (types : List TypeAt) (labels : List (List ℕ))
    → defs ≡ lists.defs → types ≡ lists.types → labels ≡ lists.labels → BodiesFit defs types → NodesFit lists
    → NamesFit defs labels → TypesFit lists
types_fit lists defs types labels same_defs same_types same_labels bodies nodes names =
    let B : List TypeAt → Type 0 = λ ts. BodiesFit lists.defs ts in
    let D : List Def → Type 0 = λ ds. BodiesFit ds types in
    let N : List (List ℕ) → Type 0 = λ ls. NamesFit lists.defs ls in
    let E : List Def → Type 0 = λ ds. NamesFit ds labels in
    record {
      bodies = subst B same_types (subst D same_defs bodies);
      nodes = nodes;
      names = subst N same_labels (subst E same_defs names);
    }

-- these definitions, types and labels, and nothing else
abbrev pub types_alone : List Def → List TypeAt → List (List ℕ) → ProgramLists
types_alone defs types labels =
    record { defs = defs; types = types; terms = []; code = []; fns = []; procs = []; labels = labels }

-- nodes stand in definitions and types alone
places-alone : (defs : List Def) (types : List TypeAt) (labels : List (List ℕ))
    → type_places (types_alone defs types labels) ≡ map (λ d. d.body.0) defs ++ flat_map (λ t. type_parts t.node) types
places-alone defs types labels = simp append-nil refl

-- amounts stand in types alone
amounts-alone : (defs : List Def) (types : List TypeAt) (labels : List (List ℕ))
    → amounts_of (types_alone defs types labels) ≡ flat_map (λ t. type_amounts t.node) types
amounts-alone defs types labels = simp append-nil refl

-- the node that stands at a place
node-at : (lists : ProgramLists) (t : ℕ) (at : TypeAt) → slice_get lists.types t ≡ Some at → NodesFit lists
    → NodeFits lists t at.node
node-at lists t at found fit =
    let P : TypeAt → Type 0 = λ a. NodeFits lists t a.node in
    subst P (get_or_from_slice_get lists.types t at at found) (fit t at (slice_get_within lists.types t at found))

-- what is looked at holds of a program's lists alone
pub types_alone-is_program : (defs : List Def) (types : List TypeAt) (labels : List (List ℕ))
    → TypesFit (types_alone defs types labels) → IsProgram (types_alone defs types labels)
types_alone-is_program defs types labels fit =
    record {
      ids =
          record {
            defs = fit.bodies.bodies.bodies;
            types =
                λ k d inside.
                let node = fit.nodes k d inside in
                record {
                  parts = λ i e within. let below = node.parts i e within in omega arith;
                  names = node.names;
                  labels = node.labels;
                };
            terms = All-nil _;
            code = All-nil _;
            fns = All-nil _;
            procs = All-nil _;
          };
      parts =
          record {
            types = λ t at found. (node-at (types_alone defs types labels) t at found fit.nodes).parts;
            terms = λ e n found. absurd cc;
            code = λ c n found. absurd cc;
          };
      code = λ c. omega arith;
      types =
          λ t inside.
          let C : List ℕ → Type 0 = λ places. count_of t places ≡ 1 in
          subst C (sym (places-alone defs types labels)) (fit.bodies.once t inside);
      kinds =
          record {
            types = λ k d inside. (fit.nodes k d inside).kinds;
            terms = All-nil _;
            fns = All-nil _;
            code = All-nil _;
            procs = All-nil _;
          };
      names = record { defs = fit.names.def_names; fns = All-nil _; procs = All-nil _; labels = fit.names.label_names };
      spaces =
          record {
            defs = fit.names.defs_differ;
            fns = λ i j d before inside. absurd (omega arith);
            procs = λ i j d before inside. absurd (omega arith);
            labels = fit.names.labels_differ;
          };
      labels = record { choices = λ k d inside. (fit.nodes k d inside).differ; cases = All-nil _ };
      parameters = record { fns = All-nil _; procs = All-nil _ };
      payers = All-nil _;
      amounts =
          subst
          (All IsAmount)
          (sym (amounts-alone defs types labels))
          (all-flat IsAmount (λ t. type_amounts t.node) types (λ k d inside. (fit.nodes k d inside).amounts));
      size = record { code = omega arith; declarations = let few = fit.bodies.bodies.few in omega arith };
    }
