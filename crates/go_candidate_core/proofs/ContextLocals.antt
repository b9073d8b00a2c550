-- Locals that are declared in one block, one after the other.
use Rattle.std.proofs.Common.{◌≡◌, ℕ, ◌+◌, ◌<◌, Bool, true, false, cond, not, ◌&&◌, List, [], ◌∷◌, ◌++◌, length, get_or, take, map, Bor, refl, sym, ap, subst, ◌∙◌, append-nil}
use Rattle.std.specs.Prelude.{filter, is_some, if◌then◌else◌}
use Rattle.std.proofs.lemmas.List.{map-append, take-map, take_more}
use Rattle.std.proofs.lemmas.List.Elements.{filter-append}
use Rattle.go_tree_nodes.specs.text_core.Text.{is_blank}
use Rattle.go_tree_nodes.specs.declared.names.Ident.{Ident}
use Rattle.go_cursor_core.specs.scope_stack.declared.DeclId.{DeclId}
use Rattle.go_cursor_core.specs.scope_stack.Blocks.{in_block, names_in, is_taken, is_listed, list_name, list_names, innermost, with_innermost, block_with}
use Rattle.go_cursor_core.specs.scope_stack.Names.{listed-block}
use Rattle.go_inline_core.specs.block_core.Blocks.{BlocksModel}
use Rattle.go_inline_core.specs.scope_core.Models.{ScopesModel}
use Rattle.go_inline_core.specs.scope_core.Scopes.{with_open}
use Rattle.go_candidate_core.specs.context.Alone.{local_names, HasLocals}

list_names_more : (seen ns : List (List ℕ)) (n : List ℕ) → list_names seen (ns ++ n ∷ []) ≡ list_name (list_names seen ns) n
list_names_more seen [] n = refl
list_names_more seen (m ∷ ns) n = list_names_more (list_name seen m) ns n

grown : (xs : List Ident) (x : Ident) → list_names [] (local_names (xs ++ x ∷ [])) ≡ (if is_blank x.name then list_names [] (local_names xs) else list_name (list_names [] (local_names xs)) x.name)
grown xs x =
    let nb : List ℕ → Bool = λ n. not (is_blank n) in
    ap (list_names []) (ap (filter nb) (map-append (λ (y : Ident). y.name) xs (x ∷ [])) ∙ filter-append nb (map (λ (y : Ident). y.name) xs) (x.name ∷ [])) ∙ by (is_blank x.name)
  where
    by : (b : Bool) → list_names [] (local_names xs ++ cond (not b) (x.name ∷ []) []) ≡ (if b then list_names [] (local_names xs) else list_name (list_names [] (local_names xs)) x.name)
    by true = ap (list_names []) (append-nil (local_names xs))
    by false = list_names_more [] (local_names xs) x.name

module _ (block : List (List ℕ × DeclId)) (xs : List Ident) (x : Ident) (e : names_in block ≡ list_names [] (local_names xs)) where
  listed : is_listed (list_names [] (local_names xs)) x.name ≡ is_some (in_block block x.name)
  listed = ap (λ l. is_listed l x.name) (sym e) ∙ listed-block block x.name

  names_taken : (not (is_blank x.name) && is_some (in_block block x.name)) ≡ true → names_in block ≡ list_names [] (local_names (xs ++ x ∷ []))
  names_taken t = e ∙ (by (is_blank x.name) (is_some (in_block block x.name)) listed t ∙ sym (grown xs x))
    where
      by : (b s : Bool) → is_listed (list_names [] (local_names xs)) x.name ≡ s → (not b && s) ≡ true → list_names [] (local_names xs) ≡ (if b then list_names [] (local_names xs) else list_name (list_names [] (local_names xs)) x.name)
      by true s h t = refl
      by false true h t = ap (λ l. if l then list_names [] (local_names xs) else list_names [] (local_names xs) ++ x.name ∷ []) (sym h)
      by false false h t = absurd (cc)

  names_new : (id : DeclId) → (not (is_blank x.name) && is_some (in_block block x.name)) ≡ false → names_in (block_with block x.name id) ≡ list_names [] (local_names (xs ++ x ∷ []))
  names_new id t = by (is_blank x.name) (is_some (in_block block x.name)) listed t ∙ sym (grown xs x)
    where
      by : (b s : Bool) → is_listed (list_names [] (local_names xs)) x.name ≡ s → (not b && s) ≡ false
          → names_in (if b then block else block ++ (x.name, id) ∷ []) ≡ (if b then list_names [] (local_names xs) else list_name (list_names [] (local_names xs)) x.name)
      by true s h t = e
      by false true h t = absurd (cc)
      by false false h t =
          map-append (λ (d : List ℕ × DeclId). d.0) block ((x.name, id) ∷ [])
          ∙ (ap (λ l. l ++ x.name ∷ []) e ∙ ap (λ l. if l then list_names [] (local_names xs) else list_names [] (local_names xs) ++ x.name ∷ []) (sym h))

-- the locals of a loop over references

abbrev locals : List (Bor Ident) → List Ident
locals xs = map (λ x. x.now) xs

one_more : (xs : List (Bor Ident)) (i : ℕ) (x : Bor Ident) → i < length xs → x ≡ get_or xs i x → locals (take i xs) ++ x.now ∷ [] ≡ locals (take (i + 1) xs)
one_more xs i x h is = sym (map-append (λ (y : Bor Ident). y.now) (take i xs) (x ∷ [])) ∙ ap locals (ap (λ y. take i xs ++ y ∷ []) is ∙ sym (take_more xs i x h))

turn_taken : (blocks : BlocksModel) (file : ℕ) (xs : List (Bor Ident)) (i : ℕ) (x : Bor Ident) (s : ScopesModel) → i < length xs → x ≡ get_or xs i x → HasLocals blocks file (locals (take i xs)) s → is_taken s.open_blocks x.now.name ≡ true
    → HasLocals blocks file (locals (take (i + 1) xs)) s
turn_taken blocks file xs i x s h is has taken = record {
  block = has.block;
  scopes = has.scopes;
  names = names_taken has.block (locals (take i xs)) x.now has.names (ap (λ (m : ScopesModel). is_taken m.open_blocks x.now.name) (sym has.scopes) ∙ taken) ∙ ap (λ l. list_names [] (local_names l)) (one_more xs i x h is);
}

turn_new : (blocks : BlocksModel) (file : ℕ) (xs : List (Bor Ident)) (i : ℕ) (x : Bor Ident) (id : DeclId) (s t : ScopesModel) → i < length xs → x ≡ get_or xs i x → HasLocals blocks file (locals (take i xs)) s → is_taken s.open_blocks x.now.name ≡ false
    → t ≡ with_open s (with_innermost s.open_blocks (block_with (innermost s.open_blocks) x.now.name id)) → HasLocals blocks file (locals (take (i + 1) xs)) t
turn_new blocks file xs i x id s t h is has free made = record {
  block = block_with has.block x.now.name id;
  scopes = made ∙ ap (λ (m : ScopesModel). with_open m (with_innermost m.open_blocks (block_with (innermost m.open_blocks) x.now.name id))) has.scopes;
  names = names_new has.block (locals (take i xs)) x.now has.names id (ap (λ (m : ScopesModel). is_taken m.open_blocks x.now.name) (sym has.scopes) ∙ free) ∙ ap (λ l. list_names [] (local_names l)) (one_more xs i x h is);
}

-- the same, for a name that is spelled as the identifier is, and the list taken as a whole

pub kept_turn : (blocks : BlocksModel) (file : ℕ) (xs : List (Bor Ident)) (i : ℕ) (x : Bor Ident) (name : List ℕ) (s t : ScopesModel) → i < length xs → x ≡ get_or xs i x → HasLocals blocks file (take i (locals xs)) s → name ≡ x.now.name → is_taken s.open_blocks name ≡ true → t ≡ s
    → HasLocals blocks file (take (i + 1) (locals xs)) t
kept_turn blocks file xs i x name s t h is has same taken made =
    subst (HasLocals blocks file (take (i + 1) (locals xs))) (sym made)
    (subst (λ l. HasLocals blocks file l s) (sym (take-map (λ (y : Bor Ident). y.now) (i + 1) xs))
    (turn_taken blocks file xs i x s h is (subst (λ l. HasLocals blocks file l s) (take-map (λ (y : Bor Ident). y.now) i xs) has) (ap (is_taken s.open_blocks) (sym same) ∙ taken)))

pub new_turn : (blocks : BlocksModel) (file : ℕ) (xs : List (Bor Ident)) (i : ℕ) (x : Bor Ident) (id : DeclId) (name : List ℕ) (s u t : ScopesModel) → i < length xs → x ≡ get_or xs i x → HasLocals blocks file (take i (locals xs)) s → name ≡ x.now.name → is_taken s.open_blocks name ≡ false
    → u ≡ with_open s (with_innermost s.open_blocks (block_with (innermost s.open_blocks) name id)) → t ≡ u → HasLocals blocks file (take (i + 1) (locals xs)) t
new_turn blocks file xs i x id name s u t h is has same free made last =
    subst (λ l. HasLocals blocks file l t) (sym (take-map (λ (y : Bor Ident). y.now) (i + 1) xs))
    (turn_new blocks file xs i x id s t h is (subst (λ l. HasLocals blocks file l s) (take-map (λ (y : Bor Ident). y.now) i xs) has) (ap (is_taken s.open_blocks) (sym same) ∙ free)
    (last ∙ (made ∙ ap (λ n. with_open s (with_innermost s.open_blocks (block_with (innermost s.open_blocks) n id))) same)))
