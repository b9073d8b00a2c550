-- Whether one of the names to the left of `:=` is new, from the block alone.
use Rattle.std.proofs.Common.{◌≡◌, ℕ, Bool, true, false, ◌&&◌, ◌||◌, not, List, [], ◌∷◌, ◌++◌, is_some, if◌then◌else◌, refl, sym, ap, ◌∙◌}
use Rattle.std.specs.Str.{bytes_eq}
use Rattle.std.specs.List.{list_any}
use Rattle.std.proofs.lemmas.Bool.{true≢false}
use Rattle.std.proofs.lemmas.List.Folds.{list_any-append}
use Rattle.go_collections_core.specs.text_core.Text.{is_blank}
use Rattle.go_scope_stack.specs.declared.short.ShortName.TheVariants.{New, Old, Blank, Repeated}
use Rattle.go_scope_stack.specs.Blocks.{in_block, is_new, is_listed, short_name, short_names, short_names_behind, is_short_new, any_new}
use Rattle.go_scope_stack.proofs.Names.{same_bytes, or-none, or-swap}

pub or_true : (b : Bool) → b || true ≡ true
or_true b = or-swap b true

module _ {X : Type 0} (block : List (List ℕ × X)) where
  -- a name that is listed is new only where the list has a new name
  listed_new : (before : List (List ℕ)) (name : List ℕ) → is_listed before name ≡ true → is_new block name ≡ true → list_any (is_new block) before ≡ true
  listed_new [] name there new = absurd (true≢false (sym there))
  listed_new (m ∷ before) name there new = by (bytes_eq name m) refl there (λ h. listed_new before name h new)
    where
      by : (k : Bool) → bytes_eq name m ≡ k → k || is_listed before name ≡ true → (is_listed before name ≡ true → list_any (is_new block) before ≡ true) → is_new block m || list_any (is_new block) before ≡ true
      by true same h rest = ap (λ k. k || list_any (is_new block) before) (ap (is_new block) (sym (same_bytes name m same)) ∙ new)
      by false same h rest = ap (λ k. is_new block m || k) (rest h) ∙ or_true (is_new block m)

  -- behind names of which none is new, a name is declared where the block has none such
  first_new : (before : List (List ℕ)) (name : List ℕ) → list_any (is_new block) before ≡ false → is_short_new (short_name block before name) ≡ is_new block name
  first_new before name none = by (is_blank name) refl
    where
      plain : (l s : Bool) → (l ≡ true → s ≡ true) → is_short_new (if l then Repeated else (if s then Old else New)) ≡ not s
      plain true s h = sym (ap not (h refl))
      plain false true h = refl
      plain false false h = refl

      had : (s : Bool) → is_some (in_block block name) ≡ s → is_blank name ≡ false → is_listed before name ≡ true → s ≡ true
      had true is full there = refl
      had false is full there = absurd (true≢false (sym (listed_new before name there (ap (λ b. not b && not (is_some (in_block block name))) full ∙ ap not is)) ∙ none))

      by : (b : Bool) → is_blank name ≡ b → is_short_new (if not b && is_listed before name then Repeated else (if b then Blank else (if is_some (in_block block name) then Old else New))) ≡ (not b && not (is_some (in_block block name)))
      by true full = refl
      by false full = plain (is_listed before name) (is_some (in_block block name)) (had (is_some (in_block block name)) refl full)

  new_behind : (names before : List (List ℕ)) → list_any (is_new block) before ≡ false → any_new (short_names_behind block before names) ≡ list_any (is_new block) names
  new_behind [] before none = refl
  new_behind (n ∷ names) before none = ap (λ k. k || any_new (short_names_behind block (before ++ n ∷ []) names)) (first_new before n none) ∙ by (is_new block n) refl (new_behind names (before ++ n ∷ []))
    where
      by : (k : Bool) → is_new block n ≡ k → (list_any (is_new block) (before ++ n ∷ []) ≡ false → any_new (short_names_behind block (before ++ n ∷ []) names) ≡ list_any (is_new block) names) → k || any_new (short_names_behind block (before ++ n ∷ []) names) ≡ k || list_any (is_new block) names
      by true old rest = refl
      by false old rest = rest (list_any-append (is_new block) before (n ∷ []) ∙ (ap (λ k. k || (is_new block n || false)) none ∙ (sym (or-none (is_new block n)) ∙ old)))

-- one of the names is declared where one is not blank and not in the block
pub any_is_new : {X : Type 0} (block : List (List ℕ × X)) (names : List (List ℕ)) → any_new (short_names block names) ≡ list_any (is_new block) names
any_is_new block names = new_behind block names [] refl
