-- Which names are hidden rests on the places of declarations alone.
use Rattle.std.proofs.Common.{◌≡◌, ℕ, zero, suc, slice_get, Bool, true, false, ◌&&◌, ◌||◌, not, List, [], ◌∷◌, ◌++◌, map, filter, Option, Some, None, is_some, cond, refl, ap, sym, ◌∙◌}
use Rattle.std.specs.Prelude.{if◌then◌else◌, find, nat_eq, nat_lt}
use Rattle.std.specs.List.{list_any, list_all}
use Rattle.std.specs.Option.{option_map}
use Rattle.std.specs.Str.{bytes_eq}
use Rattle.std.proofs.lemmas.List.{map-append}
use Rattle.go_tree_nodes.specs.text_core.Text.{is_blank}
use Rattle.go_tree_nodes.specs.declared.names.Ident.{Ident}
use Rattle.go_tree_nodes.specs.Trees.{FuncTree}
use Rattle.go_names_core.specs.local_core.Steps.{Steps, Done, Check, Declare, Inner}
use Rattle.go_names_core.specs.local_core.Binding.{Local, region_has, is_second, shown, is_inside, innermost_of}
use Rattle.go_names_core.specs.local_core.Law.{Rules, locals_of_names, declared_from, law_out}
use Rattle.go_names_core.specs.local_core.Outline.{func_opens, func_closes, func_steps}
use Rattle.go_names_core.specs.local_core.Tables.{IsTable}
use Rattle.go_names_core.specs.scope_stack.Blocks.{or_else}
use Rattle.go_names_core.specs.local_core.Binding.{bound}
use Rattle.go_names_core.specs.local_core.Tables.{walked}
use Rattle.go_names_core.specs.local_core.TablesProofs.{one_table}
use Rattle.go_names_core.specs.scope_core.Scopes as scopes
use Rattle.go_names_core.specs.scope_core.Scopes.{Denoted}
use Rattle.go_names_core.specs.scope_core.Models.{scopes_model}
use Rattle.go_names_core.specs.scope_core.Laws.{denotes}
use Rattle.go_tree_nodes.specs.declared.types.TypeName.{TypeName}
use Rattle.go_term_core.specs.decl_core.declared.keys.DeclKey.{DeclKey}
use Rattle.go_term_core.specs.Terms.{NoType}
use Rattle.go_term_core.specs.declared.settling.kind.Kind.{Kind}
use Rattle.go_typexpr_core.specs.written.Written.{InFile, Meaning}
use Rattle.go_names_core.specs.Scope.{beyond_in, some_meaning}
use Rattle.go_inline_core.specs.declared.scoped.Scoped.{Scoped}
use Rattle.go_inline_core.specs.declared.scoped.Scoped.TheVariants as scoped
use Rattle.go_inline_core.specs.Types.{InlineOf}
use Rattle.go_inline_core.specs.Trees.{func_types}
use Rattle.go_inline_core.specs.Inline.{inlines}
use Rattle.go_inline_core.specs.Functions.{is_local, looked_up_ident, meaning_in, inline_note_rules, scoped_outside}
use Rattle.go_inline_core.specs.Hiding.{hides, meaning_beside, AnyTableTells}
use Rattle.go_inline_core.specs.mirrors.Alike.{inlines_alike}

-- a declaration, with another meaning
abbrev pub meaning_so : {X Y : Type 0} → Y → Local X → Local Y
meaning_so y d = record { name = d.name; at = d.at; from = d.from; opens = d.opens; closes = d.closes; means = y }

module _ {X Y : Type 0} (y : Y) where
  abbrev so : Local X → Local Y
  so d = meaning_so y d

  any_so : (p : Local Y → Bool) (ds : List (Local X)) → list_any p (map so ds) ≡ list_any (λ d. p (so d)) ds
  any_so p [] = refl
  any_so p (d ∷ ds) = ap (λ b. p (so d) || b) (any_so p ds)

  all_so : (p : Local Y → Bool) (ds : List (Local X)) → list_all p (map so ds) ≡ list_all (λ d. p (so d)) ds
  all_so p [] = refl
  all_so p (d ∷ ds) = ap (λ b. p (so d) && b) (all_so p ds)

  -- a test of a list, where both tests agree
  kept_so : (p : Local Y → Bool) (q : Local X → Bool) → ((d : Local X) → p (so d) ≡ q d) → (ds : List (Local X)) → filter p (map so ds) ≡ map so (filter q ds)
  kept_so p q same [] = refl
  kept_so p q same (d ∷ ds) = ap (λ b. cond b (so d ∷ filter p (map so ds)) (filter p (map so ds))) (same d) ∙ by (q d) (kept_so p q same ds)
    where
      by : (b : Bool) → filter p (map so ds) ≡ map so (filter q ds) → cond b (so d ∷ filter p (map so ds)) (filter p (map so ds)) ≡ map so (cond b (d ∷ filter q ds) (filter q ds))
      by true e = ap (λ l. so d ∷ l) e
      by false e = e

  found_so : (p : Local Y → Bool) (q : Local X → Bool) → ((d : Local X) → p (so d) ≡ q d) → (ds : List (Local X)) → find p (map so ds) ≡ option_map so (find q ds)
  found_so p q same [] = refl
  found_so p q same (d ∷ ds) = ap (λ b. cond b (Some (so d)) (find p (map so ds))) (same d) ∙ by (q d) (found_so p q same ds)
    where
      by : (b : Bool) → find p (map so ds) ≡ option_map so (find q ds) → cond b (Some (so d)) (find p (map so ds)) ≡ option_map so (cond b (Some d) (find q ds))
      by true e = refl
      by false e = e

  shown_so : (all ds : List (Local X)) (place : ℕ) → shown (map so all) place (map so ds) ≡ map so (shown all place ds)
  shown_so all ds place =
      kept_so (λ e. region_has e place && not (is_second (map so all) e.opens e.name e.at)) (λ d. region_has d place && not (is_second all d.opens d.name d.at))
      (λ d. ap (λ b. region_has d place && not b) (any_so (λ e. bytes_eq d.name e.name && nat_eq e.opens d.opens && nat_lt e.at d.at) all)) ds

  innermost_so : (ds : List (Local X)) → innermost_of (map so ds) ≡ option_map (λ _. y) (innermost_of ds)
  innermost_so ds =
      ap (option_map (λ d. d.means)) (found_so (λ d. list_all (λ e. is_inside d e) (map so ds)) (λ d. list_all (λ e. is_inside d e) ds) (λ d. all_so (λ e. is_inside (so d) e) ds) ds) ∙ by (find (λ d. list_all (λ e. is_inside d e) ds) ds)
    where
      by : (o : Option (Local X)) → option_map (λ d. d.means) (option_map so o) ≡ option_map (λ _. y) (option_map (λ d. d.means) o)
      by None = refl
      by (Some d) = refl

  -- what a name is bound to, where all declarations mean this
  pub bound_so : (all : List (Local X)) (name : List ℕ) (place : ℕ) → innermost_of (filter (λ d. bytes_eq name d.name) (shown (map so all) place (map so all))) ≡ option_map (λ _. y) (innermost_of (filter (λ d. bytes_eq name d.name) (shown all place all)))
  bound_so all name place =
      ap (λ l. innermost_of (filter (λ d. bytes_eq name d.name) l)) (shown_so all all place)
      ∙ (ap innermost_of (kept_so (λ d. bytes_eq name d.name) (λ d. bytes_eq name d.name) (λ d. refl) (shown all place all)) ∙ innermost_so (filter (λ d. bytes_eq name d.name) (shown all place all)))

  pub hides_so : (all : List (Local X)) (name : List ℕ) (place : ℕ) → hides (map so all) name place ≡ hides all name place
  hides_so all name place = ap is_some (bound_so all name place) ∙ by (innermost_of (filter (λ d. bytes_eq name d.name) (shown all place all)))
    where
      by : (o : Option X) → is_some (option_map (λ _. y) o) ≡ is_some o
      by None = refl
      by (Some x) = refl

-- the declarations of steps, with one meaning for all
abbrev pub steps_places : {Y : Type 0} → Y → ℕ → ℕ → Steps → List (Local Y)
steps_places y opens closes Done = []
steps_places y opens closes (Check p rest) = steps_places y opens closes rest
steps_places y opens closes (Declare m from p xs rest) = declared_from opens closes from (λ _. y) 0 xs ++ steps_places y opens closes rest
steps_places y opens closes (Inner o c steps rest) = steps_places y o c steps ++ steps_places y opens closes rest

module _ {X Y : Type 0} (y : Y) where
  declared_so : (opens closes from : ℕ) (means : ℕ → X) (n m : ℕ) (xs : List Ident) → map (meaning_so y) (declared_from opens closes from means n xs) ≡ declared_from opens closes from (λ _. y) m xs
  declared_so opens closes from means n m [] = refl
  declared_so opens closes from means n m (x ∷ xs) =
      map-append (meaning_so y) (locals_of_names opens closes from means n x) (declared_from opens closes from means (suc n) xs)
      ∙ (ap (λ l. l ++ map (meaning_so y) (declared_from opens closes from means (suc n) xs)) (by (is_blank x.name))
      ∙ ap (λ l. locals_of_names opens closes from (λ _. y) m x ++ l) (declared_so opens closes from means (suc n) (suc m) xs))
    where
      by : (b : Bool) → map (meaning_so y) (if b then [] else record { name = x.name; at = x.span.start; from = from; opens = opens; closes = closes; means = means n } ∷ []) ≡ (if b then [] else record { name = x.name; at = x.span.start; from = from; opens = opens; closes = closes; means = y } ∷ [])
      by true = refl
      by false = refl

  module _ {N : Type 0} (rules : Rules X N) (beyond : List ℕ → Option X) (all : List (Local X)) where
    places_of : (opens closes : ℕ) (steps : Steps) → map (meaning_so y) (law_out rules beyond all opens closes steps).declares ≡ steps_places y opens closes steps
    places_of opens closes Done = refl
    places_of opens closes (Check p rest) = places_of opens closes rest
    places_of opens closes (Declare m from p xs rest) =
        map-append (meaning_so y) _ (law_out rules beyond all opens closes rest).declares
        ∙ (ap (λ l. l ++ map (meaning_so y) (law_out rules beyond all opens closes rest).declares) (declared_so opens closes from _ 0 0 xs) ∙ ap (λ l. declared_from opens closes from (λ _. y) 0 xs ++ l) (places_of opens closes rest))
    places_of opens closes (Inner o c steps rest) =
        map-append (meaning_so y) (law_out rules beyond all o c steps).declares (law_out rules beyond all opens closes rest).declares
        ∙ (ap (λ l. l ++ map (meaning_so y) (law_out rules beyond all opens closes rest).declares) (places_of o c steps) ∙ ap (λ l. steps_places y o c steps ++ l) (places_of opens closes rest))

    -- a table's declarations, but for what they mean
    pub table_places : (f : FuncTree) → IsTable rules beyond f all → map (meaning_so y) all ≡ steps_places y (func_opens f) (func_closes f) (func_steps f)
    table_places f table = ap (map (meaning_so y)) table ∙ places_of (func_opens f) (func_closes f) (func_steps f)

    pub table_hides : (f : FuncTree) → IsTable rules beyond f all → (name : List ℕ) (place : ℕ) → hides all name place ≡ hides (steps_places y (func_opens f) (func_closes f) (func_steps f)) name place
    table_hides f table name place = sym (hides_so y all name place) ∙ ap (λ l. hides l name place) (table_places f table)

-- the declarations of a function that are told apart from what is outside alone
module _ (kind : DeclKey → Kind) (f : InFile) (top : Meaning) (beyond : List ℕ → Option Scoped) (all : List (Local Scoped)) where
  local_places : (opens closes : ℕ) (steps : Steps) → (law_out (inline_note_rules kind f top) beyond all opens closes steps).declares ≡ steps_places scoped.Local opens closes steps
  local_places opens closes Done = refl
  local_places opens closes (Check p rest) = local_places opens closes rest
  local_places opens closes (Declare m from p xs rest) = ap (λ l. declared_from opens closes from (λ _. scoped.Local) 0 xs ++ l) (local_places opens closes rest)
  local_places opens closes (Inner o c steps rest) =
      ap (λ l. l ++ (law_out (inline_note_rules kind f top) beyond all opens closes rest).declares) (local_places o c steps) ∙ ap (λ l. steps_places scoped.Local o c steps ++ l) (local_places opens closes rest)

nothing_at : (k : ℕ) → is_local (slice_get [] k) ≡ false
nothing_at zero = refl
nothing_at (suc k) = refl

none_outside : (d : Option Denoted) → is_local (some_meaning scoped_outside [] d) ≡ false
none_outside None = refl
none_outside (Some (scopes.Local id)) = nothing_at id.0
none_outside (Some (scopes.Package d)) = refl
none_outside (Some (scopes.File b)) = refl
none_outside (Some (scopes.Universe p)) = refl

-- a name is a local where a declaration hides it
is_hidden : {X : Type 0} (beyond : List ℕ → Option Scoped) (locals : List (Local Scoped)) (all : List (Local X)) → locals ≡ map (meaning_so scoped.Local) all → (name : List ℕ) → is_local (beyond name) ≡ false → (place : ℕ) → is_local (bound beyond locals name place) ≡ hides all name place
is_hidden {X} beyond locals all same name out place =
    ap (λ l. is_local (bound beyond l name place)) same
    ∙ (ap (λ o. is_local (or_else o (beyond name))) (bound_so scoped.Local all name place) ∙ by (innermost_of (filter (λ d. bytes_eq name d.name) (shown all place all))))
  where
    by : (o : Option X) → is_local (or_else (option_map (λ _. scoped.Local) o) (beyond name)) ≡ is_some o
    by None = out
    by (Some x) = refl

pub any_table_tells : {X N : Type 0} → AnyTableTells X N
any_table_tells {X} {N} rules outer all kind f top blocks number func types placed table are =
    let beyond : List ℕ → Option Scoped = beyond_in scoped_outside blocks number in
    let locals : List (Local Scoped) = (walked (inline_note_rules kind f top) beyond func).declares in
    let own : IsTable (inline_note_rules kind f top) beyond func locals = ((one_table Scoped (ℕ × InlineOf) (inline_note_rules kind f top) (inlines_alike kind f top) beyond func placed).0 locals).1 refl in
    let same : locals ≡ map (meaning_so scoped.Local) all = own ∙ (local_places kind f top beyond locals (func_opens func) (func_closes func) (func_steps func) ∙ sym (table_places scoped.Local rules outer all func table)) in
    let pointwise : (n : TypeName) → meaning_in (bound beyond locals) top n ≡ meaning_beside all top n = λ n.
    ap (λ b. if b then NoType else top n) (is_hidden beyond locals all same (looked_up_ident n).name (none_outside (denotes (scopes_model blocks number []) (looked_up_ident n).name)) (looked_up_ident n).span.start) in
    are locals own ∙ ap (λ mean. inlines kind f mean (func_types func)) (λ j n. pointwise n j)
