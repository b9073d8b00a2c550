-- What a function's names are bound to, inside the function and outside.
use Rattle.std.proofs.Common.{◌≡◌, ℕ, Bool, true, false, cond, not, ◌&&◌, List, [], ◌∷◌, filter, map, Option, Some, None, inl, inr, refl, sym, ◌∙◌, subst}
use Rattle.std.specs.Prelude.{find}
use Rattle.std.specs.List.{list_all}
use Rattle.std.specs.Option.{option_map}
use Rattle.std.specs.Str.{bytes_eq}
use Rattle.go_constant_core.specs.text_core.Each.{Each, each-append, each-filter}
use Rattle.go_names_core.specs.scope_stack.Blocks.{or_else}
use Rattle.go_tree_nodes.specs.Trees.{FuncTree}
use Rattle.go_names_core.specs.local_core.Binding.{Local, bound, innermost_of, is_first, is_inside, is_second, region_has, shown}
use Rattle.go_names_core.specs.local_core.Denoted.{IsAmong}
use Rattle.go_names_core.specs.local_core.Law.{declared_from, law_out}
use Rattle.go_names_core.specs.local_core.Outline.{func_closes, func_opens, func_steps}
use Rattle.go_names_core.specs.local_core.Pieces.{ident_place, piece_declares}
use Rattle.go_names_core.specs.local_core.Steps.{Steps, Done, Check, Declare, Inner}
use Rattle.go_term_core.specs.Terms.{Term}
use Rattle.go_body_core.specs.stmt_core.PieceHeaders.{returned_names, returned_types}
use Rattle.go_body_core.specs.stmt_core.PiecePieces.{piece_values}
use Rattle.go_body_core.specs.env_core.declared.meaning.Meaning.{Meaning}
use Rattle.go_body_core.specs.env_core.declared.meaning.Meaning.TheVariants as means
use Rattle.go_names_core.specs.declared.meaning.Outside.{Outside}
use Rattle.go_body_core.specs.Notes.{TheValue}
use Rattle.go_body_core.specs.Rules.{value_at}
use Rattle.go_body_core.specs.function.Functions.{AreFuncDeclarations, own_rules}
use Rattle.go_body_core.specs.function.Stands.{FileStand, looks_where, outer_looks, outer_meanings}
use Rattle.go_program_laws.proofs.TypesSteps.{is_named}

-- each declaration of a function means a local

abbrev pub MeansLocal : Local Meaning → Type 0
MeansLocal d = (at : ℕ) × (value : TheValue) × (d.means ≡ means.Local at value)

each_of : (P : Local Meaning → Type 0) (ds : List (Local Meaning)) → ((d : Local Meaning) → IsAmong d ds → P d) → Each P ds
each_of P [] h = tt
each_of P (d ∷ ds) h = (h d (inl refl), each_of P ds (λ e k. h e (inr k)))

module _ (st : FileStand) (results : List (Option Term)) (has_names : Bool) (beyond : List ℕ → Option Meaning) (all : List (Local Meaning)) where
  steps_local : (o c : ℕ) (steps : Steps) → Each MeansLocal (law_out (own_rules st results has_names) beyond all o c steps).declares
  steps_local o c Done = tt
  steps_local o c (Check p rest) = steps_local o c rest
  steps_local o c (Declare m from p xs rest) =
      let rules = own_rules st results has_names in
      let firsts = map (is_first all o) xs in
      let values : ℕ → TheValue = value_at (piece_values (looks_where st (bound beyond all)) firsts p) in
      each-append MeansLocal (declared_from o c from (rules.means (bound beyond all) firsts p) 0 xs) (law_out rules beyond all o c rest).declares
      (each_of MeansLocal (declared_from o c from (rules.means (bound beyond all) firsts p) 0 xs)
      (λ d k. (let r = is_named o c from (rules.means (bound beyond all) firsts p) 0 xs d k in (ident_place (piece_declares p) r.index, values r.index, r.means_is))))
      (steps_local o c rest)
  steps_local o c (Inner o' c' steps rest) =
      let rules = own_rules st results has_names in
      each-append MeansLocal (law_out rules beyond all o' c' steps).declares (law_out rules beyond all o c rest).declares (steps_local o' c' steps) (steps_local o c rest)

pub all_local : (st : FileStand) (g : FuncTree) (all : List (Local Meaning)) → AreFuncDeclarations st g all → Each MeansLocal all
all_local st g all right = subst (Each MeansLocal) (sym right) (steps_local st (returned_types (outer_looks st) g.signature) (returned_names g.signature) (outer_meanings st) all (func_opens g) (func_closes g) (func_steps g))

-- what is bound to something outside the function is so by the names outside

found_local : (q : Local Meaning → Bool) (ds : List (Local Meaning)) → Each MeansLocal ds → (o : Outside) → option_map (λ (d : Local Meaning). d.means) (find q ds) ≡ Some (means.Outside o) → ⊥
found_local q [] h o e = cc e
found_local q (d ∷ ds) h o e = by (q d) (found_local q ds h.1 o) e
  where
    here : Some d.means ≡ Some (means.Outside o) → ⊥
    here e = (let m : d.means ≡ means.Outside o = cc e in let lie : means.Local h.0.0 h.0.1 ≡ means.Outside o = sym h.0.2 ∙ m in cc lie)

    by : (b : Bool) → (option_map (λ (d : Local Meaning). d.means) (find q ds) ≡ Some (means.Outside o) → ⊥) → option_map (λ (d : Local Meaning). d.means) (cond b (Some d) (find q ds)) ≡ Some (means.Outside o) → ⊥
    by true rest e = here e
    by false rest e = rest e

pub outside_of : (beyond : List ℕ → Option Meaning) (all : List (Local Meaning)) → Each MeansLocal all → (name : List ℕ) (place : ℕ) (o : Outside) → bound beyond all name place ≡ Some (means.Outside o) → beyond name ≡ Some (means.Outside o)
outside_of beyond all locals name place o =
    let shown_all : List (Local Meaning) = shown all place all in
    let candidates : List (Local Meaning) = filter (λ d. bytes_eq name d.name) shown_all in
    let each : Each MeansLocal candidates =
    each-filter MeansLocal (λ d. bytes_eq name d.name) shown_all (each-filter MeansLocal (λ d. region_has d place && not (is_second all d.opens d.name d.at)) all locals) in
    by (innermost_of candidates) (found_local (λ d. list_all (λ e. is_inside d e) candidates) candidates each o)
  where
    by : (m : Option Meaning) → (m ≡ Some (means.Outside o) → ⊥) → or_else m (beyond name) ≡ Some (means.Outside o) → beyond name ≡ Some (means.Outside o)
    by None none e = e
    by (Some x) none e = absurd (none e)

-- and what is bound to a local is so by the declarations of the function
pub local_of : (beyond : List ℕ → Option Meaning) (all : List (Local Meaning)) (name : List ℕ) (place at : ℕ) (value : TheValue) → (beyond name ≡ Some (means.Local at value) → ⊥) → bound beyond all name place ≡ Some (means.Local at value)
    → innermost_of (filter (λ (d : Local Meaning). bytes_eq name d.name) (shown all place all)) ≡ Some (means.Local at value)
local_of beyond all name place at value none = by (innermost_of (filter (λ (d : Local Meaning). bytes_eq name d.name) (shown all place all)))
  where
    by : (m : Option Meaning) → or_else m (beyond name) ≡ Some (means.Local at value) → m ≡ Some (means.Local at value)
    by None e = absurd (none e)
    by (Some x) e = e
