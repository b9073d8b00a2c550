-- Which names are locals where they stand: those that a declaration of the function hides.
use Rattle.std.proofs.Common.{◌≡◌, ℕ, zero, suc, ◌+◌, ◌<◌, ◌≤◌, map, nat_lt, slice_get, Bool, true, false, cond, ◌&&◌, not, List, [], ◌∷◌, filter, Option, Some, None, is_some, refl, ap, sym, subst, arith}
use Rattle.std.specs.Prelude.{if◌then◌else◌, find}
use Rattle.std.specs.List.{list_all}
use Rattle.std.specs.Option.{option_map}
use Rattle.std.specs.Str.{bytes_eq}
use Rattle.std.proofs.lemmas.Bool.{lt-leb}
use Rattle.go_text_core.specs.Text.{is_blank}
use Rattle.go_text_core.proofs.Each.{Each, each-weaker, each-append, each-filter, filter-none}
use Rattle.go_tree_nodes.specs.declared.names.Ident.{Ident}
use Rattle.go_tree_nodes.specs.Terminals.{Terminal, TerminalKind, InOrder, least_width, Spelled, Number, Quoted, Word, Mark, Stray}
use Rattle.go_tree_nodes.specs.Trees.{FuncTree}
use Rattle.go_tree_nodes.proofs.InOrder.{in_order_ends}
use Rattle.go_names_core.specs.scope_stack.Blocks.{or_else}
use Rattle.go_block_core.specs.Blocks.{BlocksModel}
use Rattle.go_names_core.specs.scope_core.Scopes as scopes
use Rattle.go_names_core.specs.scope_core.Scopes.{Denoted}
use Rattle.go_names_core.specs.scope_core.Models.{scopes_model}
use Rattle.go_names_core.specs.scope_core.Laws.{denotes}
use Rattle.go_local_core.specs.Steps.{Piece, Steps, Done, Check, Declare, Inner, Header, spell_piece}
use Rattle.go_local_core.specs.Outline.{func_steps, func_opens, func_closes, header_idents, lines_steps}
use Rattle.go_local_core.specs.Binding.{Local, NameLook, bound, is_first, is_second, shown, region_has, innermost_of}
use Rattle.go_local_core.specs.Binding as binding
use Rattle.go_local_core.specs.Law.{Rules, locals_of_names, declared_from, law_out}
use Rattle.go_local_core.specs.Alike.{Alike, AlikeAt}
use Rattle.go_local_core.specs.Tables.{IsFuncPlaced, IsTable}
use Rattle.go_local_core.proofs.Placed.{Placed, func_placed}
use Rattle.go_local_core.proofs.Parts.{IsPart, law_parts}
use Rattle.go_names_core.specs.Scope.{some_meaning}
use Rattle.go_inline_core.specs.Hiding.{hides}
use Rattle.go_env_core.specs.declared.meaning.Meaning.{Meaning}
use Rattle.go_env_core.specs.declared.meaning.Meaning.TheVariants as meanings
use Rattle.go_body_core.specs.function.Types.{is_local_meaning}

-- outside functions no name is a local

nothing_at : (k : ℕ) → is_local_meaning (slice_get [] k) ≡ false
nothing_at zero = refl
nothing_at (suc k) = refl

none_of : (d : Option Denoted) → is_local_meaning (some_meaning meanings.Outside [] d) ≡ false
none_of None = refl
none_of (Some (scopes.Local id)) = nothing_at id.0
none_of (Some (scopes.Package d)) = refl
none_of (Some (scopes.File b)) = refl
none_of (Some (scopes.Universe p)) = refl

pub none_outside : (blocks : BlocksModel) (file : ℕ) (name : List ℕ) → is_local_meaning (some_meaning meanings.Outside [] (denotes (scopes_model blocks file []) name)) ≡ false
none_outside blocks file name = none_of (denotes (scopes_model blocks file []) name)

-- all that a function declares is a local

abbrev IsLocal : Local Meaning → Type 0
IsLocal d = is_local_meaning (Some d.means) ≡ true

names_local : (opens closes from : ℕ) (means : ℕ → Meaning) → ((n : ℕ) → is_local_meaning (Some (means n)) ≡ true) → (n : ℕ) (xs : List Ident) → Each IsLocal (declared_from opens closes from means n xs)
names_local opens closes from means h n [] = tt
names_local opens closes from means h n (x ∷ xs) =
    each-append IsLocal (locals_of_names opens closes from means n x) (declared_from opens closes from means (suc n) xs) (by (is_blank x.name)) (names_local opens closes from means h (suc n) xs)
  where
    by : (b : Bool) → Each IsLocal (if b then [] else record { name = x.name; at = x.span.start; from = from; opens = opens; closes = closes; means = means n } ∷ [])
    by true = tt
    by false = (h n, tt)

-- rules by which each name that a piece declares is a local
abbrev pub MeanLocals : {N : Type 0} → Rules Meaning N → Type 0
MeanLocals rules = (look : NameLook Meaning) (firsts : List Bool) (p : Piece) (n : ℕ) → is_local_meaning (Some (rules.means look firsts p n)) ≡ true

module _ {N : Type 0} (rules : Rules Meaning N) (locals : MeanLocals rules) (beyond : List ℕ → Option Meaning) (all : List (Local Meaning)) where
  steps_local : (opens closes : ℕ) (steps : Steps) → Each IsLocal (law_out rules beyond all opens closes steps).declares
  steps_local opens closes Done = tt
  steps_local opens closes (Check p rest) = steps_local opens closes rest
  steps_local opens closes (Declare m from p xs rest) =
      let firsts = map (is_first all opens) xs in
      each-append IsLocal (declared_from opens closes from (rules.means (bound beyond all) firsts p) 0 xs) (law_out rules beyond all opens closes rest).declares
      (names_local opens closes from (rules.means (bound beyond all) firsts p) (locals (bound beyond all) firsts p) 0 xs) (steps_local opens closes rest)
  steps_local opens closes (Inner o c steps rest) =
      each-append IsLocal (law_out rules beyond all o c steps).declares (law_out rules beyond all opens closes rest).declares (steps_local o c steps) (steps_local opens closes rest)

  table_local : (f : FuncTree) → IsTable rules beyond f all → Each IsLocal all
  table_local f table = subst (Each IsLocal) (sym table) (steps_local (func_opens f) (func_closes f) (func_steps f))

found_local : (q : Local Meaning → Bool) (ds : List (Local Meaning)) → Each IsLocal ds → is_local_meaning (option_map (λ d. d.means) (find q ds)) ≡ is_some (option_map (λ d. d.means) (find q ds))
found_local q [] h = refl
found_local q (d ∷ ds) h = by (q d) (found_local q ds h.1)
  where
    by : (b : Bool) → is_local_meaning (option_map (λ d. d.means) (find q ds)) ≡ is_some (option_map (λ d. d.means) (find q ds))
        → is_local_meaning (option_map (λ d. d.means) (cond b (Some d) (find q ds))) ≡ is_some (option_map (λ d. d.means) (cond b (Some d) (find q ds)))
    by true rest = h.0
    by false rest = rest

-- a name is a local exactly where a declaration hides it
hidden_among : (beyond : List ℕ → Option Meaning) (all : List (Local Meaning)) → Each IsLocal all → (name : List ℕ) (place : ℕ) → is_local_meaning (beyond name) ≡ false → is_local_meaning (bound beyond all name place) ≡ hides all name place
hidden_among beyond all locals name place out =
    let found : List (Local Meaning) = filter (λ d. bytes_eq name d.name) (shown all place all) in
    by (innermost_of found) (found_local (λ d. list_all (λ e. binding.is_inside d e) found) found
    (each-filter IsLocal (λ d. bytes_eq name d.name) (shown all place all) (each-filter IsLocal (λ d. region_has d place && not (is_second all d.opens d.name d.at)) all locals)))
  where
    by : (o : Option Meaning) → is_local_meaning o ≡ is_some o → is_local_meaning (or_else o (beyond name)) ≡ is_some o
    by None e = out
    by (Some x) e = e

pub hidden : {N : Type 0} (rules : Rules Meaning N) (locals : MeanLocals rules) (beyond : List ℕ → Option Meaning) (all : List (Local Meaning)) (f : FuncTree) → IsTable rules beyond f all
    → (name : List ℕ) (place : ℕ) → is_local_meaning (beyond name) ≡ false → is_local_meaning (bound beyond all name place) ≡ hides all name place
hidden rules locals beyond all f table = hidden_among beyond all (table_local rules locals beyond all f table)

-- before the regions of all declarations a name means what it means outside

module _ {X : Type 0} (beyond : List ℕ → Option X) (all : List (Local X)) (high : ℕ) (later : Each (λ d. high ≤ d.from) all) where
  unseen : (name : List ℕ) (place : ℕ) → place < high → bound beyond all name place ≡ beyond name
  unseen name place h =
      ap (λ l. or_else (innermost_of (filter (λ d. bytes_eq name d.name) l)) (beyond name))
      (filter-none (λ d. region_has d place && not (is_second all d.opens d.name d.at)) all (each-weaker (λ d. high ≤ d.from) _ outside all later))
    where
      outside : (d : Local X) → high ≤ d.from → (region_has d place && not (is_second all d.opens d.name d.at)) ≡ false
      outside d k = ap (λ b. (b && nat_lt place d.closes) && not (is_second all d.opens d.name d.at)) (lt-leb d.from place (omega (arith, h, k)))

  alike_before : (ts : List Terminal) (low : ℕ) → InOrder low ts high → Alike (bound beyond all) (λ name place. beyond name) ts
  alike_before [] low h = tt
  alike_before (t ∷ ts) low h = (at t.kind h.1, alike_before ts t.span.end h.2)
    where
      ends : t.span.end ≤ high
      ends = in_order_ends ts t.span.end high h.2

      at : (k : TerminalKind) → t.span.start + least_width k ≤ t.span.end → AlikeAt (bound beyond all) (λ name place. beyond name) k t.span
      at (Spelled n) w = unseen n t.span.start (omega (arith, w, ends))
      at (Number n) w = tt
      at (Quoted bs) w = tt
      at (Word k) w = tt
      at (Mark o) w = tt
      at Stray w = tt

names_from : {X : Type 0} (opens closes from : ℕ) (means : ℕ → X) (n : ℕ) (xs : List Ident) → Each (λ d. from ≤ d.from) (declared_from opens closes from means n xs)
names_from opens closes from means n [] = tt
names_from {X} opens closes from means n (x ∷ xs) =
    each-append (λ d. from ≤ d.from) (locals_of_names opens closes from means n x) (declared_from opens closes from means (suc n) xs) (by (is_blank x.name)) (names_from opens closes from means (suc n) xs)
  where
    by : (b : Bool) → Each (λ (d : Local X). from ≤ d.from) (if b then [] else record { name = x.name; at = x.span.start; from = from; opens = opens; closes = closes; means = means n } ∷ [])
    by true = tt
    by false = (omega arith, tt)

-- no local of a function is seen in its header
pub header_unseen : {X N : Type 0} (rules : Rules X N) (beyond : List ℕ → Option X) (all : List (Local X)) (f : FuncTree) → IsFuncPlaced f → IsTable rules beyond f all
    → Alike (bound beyond all) (λ name place. beyond name) (spell_piece (Header f.receiver f.signature))
header_unseen {X} {N} rules beyond all f placed table =
    let there : Placed (func_opens f + 1) (func_closes f) (func_steps f) = func_placed f placed.0 placed.1.0 placed.1.1 in
    let names = header_idents f.receiver f.signature in
    let open_brace : ℕ = f.open_brace.start in
    let begins : func_opens f + 1 ≤ open_brace = in_order_ends (spell_piece (Header f.receiver f.signature)) (func_opens f + 1) open_brace there.0 in
    let means : ℕ → X = rules.means (bound beyond all) (map (is_first all (func_opens f)) names) (Header f.receiver f.signature) in
    let body : Steps = lines_steps f.body Done in
    let later : Each (λ d. open_brace ≤ d.from) all =
    subst (Each (λ d. open_brace ≤ d.from)) (sym table) (each-append (λ d. open_brace ≤ d.from) (declared_from (func_opens f) (func_closes f) open_brace means 0 names) (law_out rules beyond all (func_opens f) (func_closes f) body).declares
    (names_from (func_opens f) (func_closes f) open_brace means 0 names)
    (each-weaker (IsPart X (func_opens f) (func_closes f) open_brace (func_closes f)) _ (λ d k. k.from_lo) _ (law_parts X N rules beyond all body (func_opens f) (func_closes f) open_brace (func_closes f) (omega arith) there.2))) in
    alike_before beyond all open_brace later (spell_piece (Header f.receiver f.signature)) (func_opens f + 1) there.0
