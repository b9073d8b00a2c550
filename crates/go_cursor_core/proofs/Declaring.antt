-- The names that entries of a parameter list declare, and those of a list of names.
use Rattle.std.proofs.Common.{◌≡◌, ℕ, ◌+◌, ◌<◌, ◌≤◌, List, [], ◌∷◌, ◌++◌, length, get_or, take, map, refl, ap, ◌∙◌, arith}
use Rattle.std.specs.List.{flat_map}
use Rattle.std.proofs.lemmas.Grind.{common_steps}
use Rattle.std.proofs.lemmas.List.{take_all}
use Rattle.go_tree_nodes.specs.declared.names.Ident.{Ident}
use Rattle.go_tree_nodes.specs.declared.names.NextIdent.{NextIdent}
use Rattle.go_tree_nodes.specs.declared.types.«Param» as declared_param
use Rattle.go_tree_nodes.specs.TypeShapes.{idents_from, shape_names, params_of}
use Rattle.go_expr_core.specs.local_core.Outline.{idents, some_idents, param_idents}
use Rattle.go_cursor_core.specs.declared.search.Search.{Search}
use Rattle.go_cursor_core.specs.mirrors.Searching.{Declares}
use Rattle.go_cursor_core.proofs.States.{declares_more, declares_same}

abbrev pub one_entry : declared_param.Param → List Ident
one_entry p = some_idents (shape_names p.names)

params_list : (ps : List declared_param.Param) → flat_map one_entry ps ≡ param_idents (params_of ps)
params_list [] = refl
params_list (p ∷ ps) = ap (λ l. one_entry p ++ l) (params_list ps)

names_list : (x : Ident) (ns : List NextIdent) → x ∷ map (λ n. n.ident) ns ≡ idents (idents_from x ns)
names_list x [] = refl
names_list x (n ∷ ns) = ap (λ l. x ∷ l) (names_list n.ident ns)

one_more : {A B : Type 0} (f : A → List B) (xs : List A) (i : ℕ) (x : A) → i < length xs → x ≡ get_or xs i x → flat_map f (take i xs) ++ f x ≡ flat_map f (take (i + 1) xs)
one_more f xs i x h is = grind (arith, common_steps)

next_more : {A B : Type 0} (f : A → B) (xs : List A) (i : ℕ) (x : A) → i < length xs → x ≡ get_or xs i x → map f (take i xs) ++ f x ∷ [] ≡ map f (take (i + 1) xs)
next_more f xs i x h is = grind (arith, common_steps)

-- one turn of the loop over the entries, and its end
pub entry_turn : (a b c : Search) (items : List declared_param.Param) (i : ℕ) (p : declared_param.Param) → i < length items → p ≡ get_or items i p → Declares a (flat_map one_entry (take i items)) b → Declares b (one_entry p) c → Declares a (flat_map one_entry (take (i + 1) items)) c
entry_turn a b c items i p h is before now = declares_same a c _ _ (one_more one_entry items i p h is) (declares_more a b c (flat_map one_entry (take i items)) (one_entry p) before now)

pub entry_end : (a b : Search) (items ps : List declared_param.Param) (i : ℕ) → items ≡ ps → length items ≤ i → Declares a (flat_map one_entry (take i items)) b → Declares a (param_idents (params_of ps)) b
entry_end a b items ps i same h before = declares_same a b _ _ (ap (flat_map one_entry) (take_all i items h ∙ same) ∙ params_list ps) before

-- of the loop over the names behind the first
pub name_turn : (a b c : Search) (x : Ident) (items : List NextIdent) (i : ℕ) (n : NextIdent) → i < length items → n ≡ get_or items i n → Declares a (x ∷ map (λ m. m.ident) (take i items)) b → Declares b (n.ident ∷ []) c → Declares a (x ∷ map (λ m. m.ident) (take (i + 1) items)) c
name_turn a b c x items i n h is before now = declares_same a c _ _ (ap (λ l. x ∷ l) (next_more (λ m. m.ident) items i n h is)) (declares_more a b c (x ∷ map (λ m. m.ident) (take i items)) (n.ident ∷ []) before now)

pub name_end : (a b : Search) (x : Ident) (items ns : List NextIdent) (i : ℕ) → items ≡ ns → length items ≤ i → Declares a (x ∷ map (λ m. m.ident) (take i items)) b → Declares a (idents (idents_from x ns)) b
name_end a b x items ns i same h before = declares_same a b _ _ (ap (λ l. x ∷ map (λ (m : NextIdent). m.ident) l) (take_all i items h ∙ same) ∙ names_list x ns) before
