-- What names are in a block, one after the other.
use Rattle.std.proofs.Common.{◌≡◌, ℕ, ◌+◌, ◌<◌, ◌&&◌, not, List, [], ◌∷◌, ◌++◌, map, length, take, get_or, is_some, if◌then◌else◌, Bor, sym, ap, ◌∙◌, append_assoc}
use Rattle.std.proofs.lemmas.List.{append-nil, map-append, map_more}
use Rattle.go_scope_core.specs.text_core.Text.{is_blank}
use Rattle.go_tree_nodes.specs.declared.names.Ident.{Ident}
use Rattle.go_local_core.specs.scope_stack.Blocks.{in_block, list_name, list_names, short_name, short_names, short_names_behind}
use Rattle.go_local_core.specs.scope_stack.declared.short.ShortName.{ShortName}
use Rattle.go_local_core.specs.scope_stack.declared.short.ShortName.TheVariants.{New, Old, Blank, Repeated}
use Rattle.go_local_core.specs.scope_stack.Names.{listed-names, list_names-append}
use Rattle.go_local_core.specs.Faults.{spellings}

-- how the first of some identifiers are spelled
abbrev pub spelled : List (Bor Ident) → ℕ → List (List ℕ)
spelled is n = spellings (map (λ i. i.now) (take n is))

module _ {X : Type 0} (block : List (List ℕ × X)) where
  behind_push : (names before : List (List ℕ)) (n : List ℕ) → short_names_behind block before (names ++ n ∷ []) ≡ short_names_behind block before names ++ short_name block (before ++ names) n ∷ []
  behind_push [] before n = ap (λ l. short_name block l n ∷ []) (sym (append-nil before))
  behind_push (m ∷ names) before n =
      ap (λ l. short_name block before m ∷ l) (behind_push names (before ++ m ∷ []) n ∙ ap (λ l. short_names_behind block (before ++ m ∷ []) names ++ short_name block l n ∷ []) (append_assoc before (m ∷ []) names))

  listed_short : (names : List (List ℕ)) (n : List ℕ) → short_name block (list_names [] names) n ≡ short_name block names n
  listed_short names n = ap (λ b. if not (is_blank n) && b then Repeated else (if is_blank n then Blank else (if is_some (in_block block n) then Old else New))) (listed-names [] names n)

  pub short_step : (is : List (Bor Ident)) (i : ℕ) (x : Bor Ident) (n : List ℕ) (seen next : List (List ℕ)) (old new : List ShortName) (short : ShortName) → i < length is → x ≡ get_or is i x → n ≡ x.now.name
      → (seen ≡ list_names [] (spelled is i)) × (old ≡ short_names block (spelled is i)) → short ≡ short_name block seen n → next ≡ list_name seen n → new ≡ old ++ short ∷ []
      → (next ≡ list_names [] (spelled is (i + 1))) × (new ≡ short_names block (spelled is (i + 1)))
  short_step is i x n seen next old new short h at name known is_short is_next is_new =
      let names = spelled is i in
      let grown : spelled is (i + 1) ≡ names ++ n ∷ [] =
      ap spellings (map_more (λ (y : Bor Ident). y.now) is i x h)
      ∙ (map-append (λ (y : Ident). y.name) (map (λ (y : Bor Ident). y.now) (take i is)) ((get_or is i x).now ∷ [])
      ∙ (ap (λ (y : Bor Ident). names ++ y.now.name ∷ []) (sym at) ∙ ap (λ m. names ++ m ∷ []) (sym name))) in (
        is_next ∙ (ap (λ s. list_name s n) known.0 ∙ (sym (list_names-append [] names (n ∷ [])) ∙ sym (ap (list_names []) grown))),
        is_new ∙ (ap (λ l. l ++ short ∷ []) known.1 ∙ (ap (λ s. short_names block names ++ s ∷ []) (is_short ∙ (ap (λ s. short_name block s n) known.0 ∙ listed_short names n)) ∙ (sym (behind_push names [] n) ∙ sym (ap (short_names block) grown)))),
      )
