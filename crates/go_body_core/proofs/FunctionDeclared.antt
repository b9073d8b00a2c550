-- The locals that are noted of a function are those of its declarations that hold.
use Rattle.std.proofs.Common.{◌≡◌, ℕ, suc, Bool, true, false, not, ◌&&◌, List, [], ◌∷◌, ◌++◌, map, Option, refl, sym, ap, subst, ◌∙◌, append-nil}
use Rattle.std.specs.Prelude.{if◌then◌else◌}
use Rattle.std.specs.List.{flat_map}
use Rattle.std.proofs.lemmas.Grind.{flat_map-append}
use Rattle.go_text_core.specs.Text.{is_blank}
use Rattle.go_tree_nodes.specs.declared.names.Ident.{Ident}
use Rattle.go_tree_nodes.specs.Trees.{FuncTree}
use Rattle.go_local_core.specs.Steps.{Piece, Steps, Done, Check, Declare, Inner}
use Rattle.go_local_core.specs.Outline.{func_steps, func_opens, func_closes}
use Rattle.go_local_core.specs.Binding.{Local, NameLook, bound, is_first, is_second}
use Rattle.go_local_core.specs.Law.{Rules, locals_of_names, declared_from, law_out}
use Rattle.go_local_core.specs.Tables.{out_by_intervals, IsTable}
use Rattle.go_names_core.specs.Body.{each_means}
use Rattle.go_local_core.specs.Pieces.{piece_declares}
use Rattle.go_env_core.specs.declared.meaning.Meaning.{Meaning}
use Rattle.go_body_core.specs.Notes.{TheLocal, NoteOf, all_locals}
use Rattle.go_body_core.specs.Rules.{local_if, declared_among, piece_locals}
use Rattle.go_body_core.specs.function.Locals.{declared_locals}
use Rattle.go_body_core.proofs.FunctionNamed.{AreNamed, steps_are_named}

-- the local of a declaration, where no earlier one of its name stands in its block
abbrev pub held : List (Local Meaning) → Local Meaning → List TheLocal
held all d = local_if (not (is_second all d.opens d.name d.at)) d.means

-- of each piece its locals are noted, by what the rules say that its names mean
abbrev pub NoteLocals : Rules Meaning NoteOf → Type 0
NoteLocals rules = (look : NameLook Meaning) (firsts : List Bool) (p : Piece) → all_locals (rules.notes look firsts p) ≡ piece_locals firsts p (rules.means look firsts p)

module _ (all : List (Local Meaning)) (opens closes from : ℕ) (means : ℕ → Meaning) where
  names_held : (n : ℕ) (xs : List Ident) → declared_among (map (is_first all opens) xs) (each_means means n xs) ≡ flat_map (held all) (declared_from opens closes from means n xs)
  names_held n [] = refl
  names_held n (x ∷ xs) = by (is_blank x.name) (names_held (suc n) xs)
    where
      by : (b : Bool) → declared_among (map (is_first all opens) xs) (each_means means (suc n) xs) ≡ flat_map (held all) (declared_from opens closes from means (suc n) xs)
          → local_if (not b && not (is_second all opens x.name x.span.start)) (means n) ++ declared_among (map (is_first all opens) xs) (each_means means (suc n) xs)
          ≡ flat_map (held all) ((if b then [] else record { name = x.name; at = x.span.start; from = from; opens = opens; closes = closes; means = means n } ∷ []) ++ declared_from opens closes from means (suc n) xs)
      by true rest = rest
      by false rest = ap (λ l. local_if (not (is_second all opens x.name x.span.start)) (means n) ++ l) rest

module _ (rules : Rules Meaning NoteOf) (noted : NoteLocals rules) (beyond : List ℕ → Option Meaning) (all : List (Local Meaning)) where
  join : (ns ms : List NoteOf) (ds es : List (Local Meaning)) → all_locals ns ≡ flat_map (held all) ds → all_locals ms ≡ flat_map (held all) es → all_locals (ns ++ ms) ≡ flat_map (held all) (ds ++ es)
  join ns ms ds es h k = flat_map-append (λ (n : NoteOf). n.locals) ns ms ∙ ((λ i. h i ++ k i) ∙ sym (flat_map-append (held all) ds es))

  steps_held : (steps : Steps) (opens closes : ℕ) → AreNamed steps → all_locals (law_out rules beyond all opens closes steps).notes ≡ flat_map (held all) (law_out rules beyond all opens closes steps).declares
  steps_held Done opens closes h = refl
  steps_held (Check p rest) opens closes h =
      join (rules.notes (bound beyond all) [] p) (law_out rules beyond all opens closes rest).notes [] (law_out rules beyond all opens closes rest).declares (noted (bound beyond all) [] p) (steps_held rest opens closes h)
  steps_held (Declare m from p xs rest) opens closes h =
      let firsts = map (is_first all opens) xs in
      let means : ℕ → Meaning = rules.means (bound beyond all) firsts p in
      join (rules.notes (bound beyond all) firsts p) (law_out rules beyond all opens closes rest).notes (declared_from opens closes from means 0 xs) (law_out rules beyond all opens closes rest).declares
      (noted (bound beyond all) firsts p ∙ (ap (λ ys. declared_among firsts (each_means means 0 ys)) (sym h.0) ∙ names_held all opens closes from means 0 xs)) (steps_held rest opens closes h.1)
  steps_held (Inner o c steps rest) opens closes h =
      join (law_out rules beyond all o c steps).notes (law_out rules beyond all opens closes rest).notes (law_out rules beyond all o c steps).declares (law_out rules beyond all opens closes rest).declares
      (steps_held steps o c h.0) (steps_held rest opens closes h.1)

  pub locals_declared : (f : FuncTree) → IsTable rules beyond f all → all_locals (out_by_intervals rules beyond f all).notes ≡ declared_locals all
  locals_declared f table = steps_held (func_steps f) (func_opens f) (func_closes f) (steps_are_named f) ∙ ap (flat_map (held all)) (sym table)
