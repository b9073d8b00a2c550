-- The offsets of the locals of a function rise.
use Rattle.std.proofs.Common.{◌≡◌, ℕ, suc, ◌+◌, ◌<◌, ◌≤◌, Bool, true, false, not, List, [], ◌∷◌, ◌++◌, map, Option, refl, sym, ap, subst, ◌∙◌, arith}
use Rattle.std.specs.Prelude.{if◌then◌else◌}
use Rattle.std.specs.List.{flat_map, AllByRecursion}
use Rattle.go_text_core.specs.Text.{is_blank}
use Rattle.go_text_core.proofs.Each.{Each, each-weaker, each-append}
use Rattle.go_tree_nodes.specs.declared.names.Ident.{Ident}
use Rattle.go_tree_nodes.specs.Trees.{FuncTree}
use Rattle.go_tree_nodes.proofs.InOrder.{in_order_ends, AreInTurn}
use Rattle.go_local_core.specs.Steps.{Piece, Steps, Done, Check, Declare, Inner, spell_piece}
use Rattle.go_local_core.specs.Pieces.{ident_place, piece_declares}
use Rattle.go_local_core.specs.Outline.{func_steps, func_opens, func_closes}
use Rattle.go_local_core.specs.Binding.{Local, NameLook, bound, is_first, is_second}
use Rattle.go_local_core.specs.Law.{Rules, locals_of_names, declared_from, law_out}
use Rattle.go_local_core.specs.Tables.{IsFuncPlaced, IsTable}
use Rattle.go_local_core.proofs.Placed.{Placed, placed_ends, func_placed}
use Rattle.go_local_core.proofs.Parts.{names_parts, law_parts}
use Rattle.go_env_core.specs.declared.meaning.Meaning.{Meaning}
use Rattle.go_env_core.specs.declared.meaning.Meaning.TheVariants as meanings
use Rattle.go_body_core.specs.Notes.{TheValue, TheLocal}
use Rattle.go_body_core.specs.Rules.{local_if}
use Rattle.go_body_core.specs.function.Locals.{declared_locals, OffsetsRise}
use Rattle.go_body_core.proofs.FunctionNamed.{AreNamed, steps_are_named}
use Rattle.go_body_core.proofs.FunctionDeclared.{held}

-- places of declarations rise

abbrev Rising : List (Local Meaning) → Type 0
Rising [] = Unit {0}
Rising (d ∷ ds) = Each (λ e. d.at < e.at) ds × Rising ds

rising_append : (mid : ℕ) (ds es : List (Local Meaning)) → Rising ds → Rising es → Each (λ d. d.at < mid) ds → Each (λ e. mid ≤ e.at) es → Rising (ds ++ es)
rising_append mid [] es h k l m = k
rising_append mid (d ∷ ds) es h k l m = (each-append _ ds es h.0 (each-weaker _ _ (λ e q. omega (arith, l.0, q)) es m), rising_append mid ds es h.1 k l.1 m)

rising_names : (o c from : ℕ) (means : ℕ → Meaning) (n lo : ℕ) (xs : List Ident) → o < lo → AreInTurn lo xs from → Rising (declared_from o c from means n xs)
rising_names o c from means n lo [] l h = tt
rising_names o c from means n lo (x ∷ xs) l h = by (is_blank x.name) (rising_names o c from means (suc n) (x.span.start + 1) xs (omega (arith, l, h.0)) h.1)
  where
    after : Each (λ (e : Local Meaning). x.span.start < e.at) (declared_from o c from means (suc n) xs)
    after = each-weaker _ _ (λ e q. let a = q.at_lo in omega arith) _ (names_parts Meaning o c (x.span.start + 1) (x.span.start + 1) from means (suc n) xs (omega (arith, l, h.0)) (omega arith) h.1)

    by : (b : Bool) → Rising (declared_from o c from means (suc n) xs) → Rising ((if b then [] else record { name = x.name; at = x.span.start; from = from; opens = o; closes = c; means = means n } ∷ []) ++ declared_from o c from means (suc n) xs)
    by true rest = rest
    by false rest = (after, rest)

-- a declaration means a local at its own place
abbrev IsOwn : Local Meaning → Type 0
IsOwn d = (value : TheValue) × (d.means ≡ meanings.Local d.at value)

further : (o c from : ℕ) (means : ℕ → Meaning) (n : ℕ) (xs : List Ident) → declared_from o c from means (suc n) xs ≡ declared_from o c from (λ k. means (suc k)) n xs
further o c from means n [] = refl
further o c from means n (x ∷ xs) = ap (λ l. locals_of_names o c from means (suc n) x ++ l) (further o c from means (suc n) xs)

names_own : (o c from : ℕ) (values : ℕ → TheValue) (xs : List Ident) → Each IsOwn (declared_from o c from (λ n. meanings.Local (ident_place xs n) (values n)) 0 xs)
names_own o c from values [] = tt
names_own o c from values (x ∷ xs) =
    let means : ℕ → Meaning = λ n. meanings.Local (ident_place (x ∷ xs) n) (values n) in
    each-append IsOwn (locals_of_names o c from means 0 x) (declared_from o c from means 1 xs) (by (is_blank x.name))
    (subst (Each IsOwn) (sym (further o c from means 0 xs)) (names_own o c from (λ n. values (suc n)) xs))
  where
    by : (b : Bool) → Each IsOwn (if b then [] else record { name = x.name; at = x.span.start; from = from; opens = o; closes = c; means = meanings.Local x.span.start (values 0) } ∷ [])
    by true = tt
    by false = ((values 0, refl), tt)

-- rules by which each name that a piece declares is a local at its place
abbrev pub MeanOwn : {N : Type 0} → Rules Meaning N → Type 0
MeanOwn rules = (look : NameLook Meaning) (firsts : List Bool) (p : Piece) → (values : ℕ → TheValue) × (rules.means look firsts p ≡ (λ n. meanings.Local (ident_place (piece_declares p) n) (values n)))

module _ {N : Type 0} (rules : Rules Meaning N) (own : MeanOwn rules) (beyond : List ℕ → Option Meaning) (all : List (Local Meaning)) where
  rising : (ss : Steps) (o c lo hi : ℕ) → o < lo → Placed lo hi ss → Rising (law_out rules beyond all o c ss).declares
  rising Done o c lo hi l h = tt
  rising (Check p rest) o c lo hi l h = rising rest o c h.0 hi (omega (arith, in_order_ends (spell_piece p) lo h.0 h.1.0)) h.1.1
  rising (Declare m from p xs rest) o c lo hi l h =
      let starts = in_order_ends (spell_piece p) lo from h.0 in
      let means : ℕ → Meaning = rules.means (bound beyond all) (map (is_first all o) xs) p in
      rising_append from (declared_from o c from means 0 xs) (law_out rules beyond all o c rest).declares (rising_names o c from means 0 lo xs l h.1) (rising rest o c from hi (omega arith) h.2)
      (each-weaker _ _ (λ e q. q.at_hi) _ (names_parts Meaning o c lo lo from means 0 xs l (omega arith) h.1))
      (each-weaker _ _ (λ e q. q.at_lo) _ (law_parts Meaning N rules beyond all rest o c from hi (omega arith) h.2))
  rising (Inner o' c' steps rest) o c lo hi l h =
      let inner = placed_ends steps (o' + 1) c' h.1 in
      rising_append c' (law_out rules beyond all o' c' steps).declares (law_out rules beyond all o c rest).declares (rising steps o' c' (o' + 1) c' (omega arith) h.1) (rising rest o c c' hi (omega (arith, h.0)) h.2)
      (each-weaker _ _ (λ e q. q.at_hi) _ (law_parts Meaning N rules beyond all steps o' c' (o' + 1) c' (omega arith) h.1))
      (each-weaker _ _ (λ e q. q.at_lo) _ (law_parts Meaning N rules beyond all rest o c c' hi (omega (arith, h.0)) h.2))

  steps_own : (ss : Steps) (o c : ℕ) → AreNamed ss → Each IsOwn (law_out rules beyond all o c ss).declares
  steps_own Done o c h = tt
  steps_own (Check p rest) o c h = steps_own rest o c h
  steps_own (Declare m from p xs rest) o c h =
      let firsts = map (is_first all o) xs in
      let means = own (bound beyond all) firsts p in
      each-append IsOwn (declared_from o c from (rules.means (bound beyond all) firsts p) 0 xs) (law_out rules beyond all o c rest).declares
      (subst (λ f. Each IsOwn (declared_from o c from f 0 xs)) (sym (means.1 ∙ ap (λ ys n. meanings.Local (ident_place ys n) (means.0 n)) (sym h.0))) (names_own o c from means.0 xs))
      (steps_own rest o c h.1)
  steps_own (Inner o' c' steps rest) o c h =
      each-append IsOwn (law_out rules beyond all o' c' steps).declares (law_out rules beyond all o c rest).declares (steps_own steps o' c' h.0) (steps_own rest o c h.1)

  -- what is held of declarations whose places rise

  behind : (k : ℕ) (ds : List (Local Meaning)) → Each (λ d. k < d.at) ds → Each IsOwn ds → AllByRecursion (λ l. k < l.offset) (flat_map (held all) ds)
  behind k [] h own = tt
  behind k (d ∷ ds) h own =
      subst (λ m. AllByRecursion (λ (l : TheLocal). k < l.offset) (local_if (not (is_second all d.opens d.name d.at)) m ++ flat_map (held all) ds)) (sym own.0.1) (by (is_second all d.opens d.name d.at) (behind k ds h.1 own.1))
    where
      by : (s : Bool) → AllByRecursion (λ (l : TheLocal). k < l.offset) (flat_map (held all) ds) → AllByRecursion (λ (l : TheLocal). k < l.offset) (local_if (not s) (meanings.Local d.at own.0.0) ++ flat_map (held all) ds)
      by true rest = rest
      by false rest = (h.0, rest)

  rise : (ds : List (Local Meaning)) → Rising ds → Each IsOwn ds → OffsetsRise (flat_map (held all) ds)
  rise [] h own = tt
  rise (d ∷ ds) h own =
      subst (λ m. OffsetsRise (local_if (not (is_second all d.opens d.name d.at)) m ++ flat_map (held all) ds)) (sym own.0.1) (by (is_second all d.opens d.name d.at) (behind d.at ds h.0 own.1) (rise ds h.1 own.1))
    where
      by : (s : Bool) → AllByRecursion (λ (l : TheLocal). d.at < l.offset) (flat_map (held all) ds) → OffsetsRise (flat_map (held all) ds) → OffsetsRise (local_if (not s) (meanings.Local d.at own.0.0) ++ flat_map (held all) ds)
      by true later rest = rest
      by false later rest = (later, rest)

  pub locals_rise : (f : FuncTree) → IsFuncPlaced f → IsTable rules beyond f all → OffsetsRise (declared_locals all)
  locals_rise f placed table =
      rise all
      (subst Rising (sym table) (rising (func_steps f) (func_opens f) (func_closes f) (func_opens f + 1) (func_closes f) (omega arith) (func_placed f placed.0 placed.1.0 placed.1.1)))
      (subst (Each IsOwn) (sym table) (steps_own (func_steps f) (func_opens f) (func_closes f) (steps_are_named f)))
