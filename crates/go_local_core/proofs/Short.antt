-- Names to the left of `:=`: what they are, what they break, and what the block has after them.
use Rattle.std.proofs.Common.{◌≡◌, ℕ, suc, Bool, true, false, ◌&&◌, ◌||◌, not, List, [], ◌∷◌, ◌++◌, map, is_some, if◌then◌else◌, refl, sym, ap, ◌∙◌, append_assoc}
use Rattle.std.specs.List.{list_any}
use Rattle.std.specs.Str.{bytes_eq}
use Rattle.std.proofs.lemmas.List.{append-nil}
use Rattle.go_tree_nodes.specs.text_core.Text.{is_blank}
use Rattle.go_tree_nodes.specs.text_core.declared.rule.Rule.TheVariants.{B1}
use Rattle.go_scope_stack.specs.Blocks.{in_block, names_in, is_listed, is_repeated, repeated_behind, short_name, short_names, short_names_behind, is_short_new, any_new, block_after}
use Rattle.go_scope_stack.specs.Blocks as open_blocks
use Rattle.go_scope_stack.specs.declared.short.ShortName.TheVariants.{New, Old, Blank, Repeated}
use Rattle.go_scope_stack.proofs.Names.{listed-append, listed-block}
use Rattle.go_tree_nodes.specs.declared.names.Ident.{Ident}
use Rattle.go_local_core.specs.Faults.{spellings, ident_fault, none_new_fault, repeated_faults}
use Rattle.go_local_core.specs.Short.{fault_of_short, faults_of_each, meant, ShortFaults, ShortWalk}
use Rattle.go_local_core.specs.mirrors.Walk.{Names, names_of, news, is_new, with_name, with_names}

any_mapped : {A : Type 0} (f : A → Bool) (xs : List A) → list_any (λ b. b) (map f xs) ≡ list_any f xs
any_mapped f [] = refl
any_mapped f (x ∷ xs) = ap (λ b. f x || b) (any_mapped f xs)

module _ {X : Type 0} (block : List (List ℕ × X)) where
  repeats : (xs : List Ident) (before : List (List ℕ)) → repeated_faults (repeated_behind before (spellings xs)) xs ≡ faults_of_each (short_names_behind block before (spellings xs)) xs
  repeats [] before = refl
  repeats (x ∷ xs) before =
      ap (λ fs. fs ++ repeated_faults (repeated_behind (before ++ x.name ∷ []) (spellings xs)) xs) (by (is_repeated before x.name) (is_blank x.name) (is_some (in_block block x.name)))
      ∙ ap (λ fs. fault_of_short (short_name block before x.name) x ++ fs) (repeats xs (before ++ x.name ∷ []))
    where
      by : (r b s : Bool) → (if r then ident_fault x B1 ∷ [] else []) ≡ fault_of_short (if r then Repeated else (if b then Blank else (if s then Old else New))) x
      by true b s = refl
      by false true s = refl
      by false false true = refl
      by false false false = refl

  -- the names that are new on the way through a function are those that are new in the block
  news_behind : (xs : List Ident) (before : List (List ℕ)) → news (names_in block ++ before) xs ≡ map is_short_new (short_names_behind block before (spellings xs))
  news_behind [] before = refl
  news_behind (x ∷ xs) before =
      ap (λ b. b ∷ news ((names_in block ++ before) ++ x.name ∷ []) xs) (here ∙ by (is_blank x.name) (is_some (in_block block x.name)) (is_listed before x.name))
      ∙ ap (λ l. is_short_new (short_name block before x.name) ∷ l) (ap (λ l. news l xs) (append_assoc (names_in block) before (x.name ∷ [])) ∙ news_behind xs (before ++ x.name ∷ []))
    where
      here : (not (is_blank x.name) && not (list_any (bytes_eq x.name) (names_in block ++ before))) ≡ (not (is_blank x.name) && not (is_some (in_block block x.name) || is_listed before x.name))
      here = ap (λ b. not (is_blank x.name) && not b) (listed-append (names_in block) before x.name ∙ ap (λ b. b || is_listed before x.name) (listed-block block x.name))

      by : (b s l : Bool) → (not b && not (s || l)) ≡ is_short_new (if not b && l then Repeated else (if b then Blank else (if s then Old else New)))
      by true s l = refl
      by false true true = refl
      by false true false = refl
      by false false true = refl
      by false false false = refl

  pub news_are_short : (xs : List Ident) → news (names_of block) xs ≡ map is_short_new (short_names block (spellings xs))
  news_are_short xs = ap (λ l. news l xs) (sym (append-nil (names_in block))) ∙ news_behind xs []

-- the block on the way through a function is the one after the short declaration
pub with_names_after : {X : Type 0} (xs : List Ident) (block : Names X) (means : ℕ → X) (n : ℕ) → with_names block means n xs ≡ block_after block (meant means n xs)
with_names_after [] block means n = refl
with_names_after (x ∷ xs) block means n =
    with_names_after xs (with_name block x (means n)) means (suc n)
    ∙ ap (λ k. block_after (if k then block ++ (x.name, means n) ∷ [] else block) (meant means (suc n) xs)) same
  where
    any_name : {X : Type 0} (name : List ℕ) (block : List (List ℕ × X)) → list_any (λ e. bytes_eq name e.0) block ≡ is_listed (names_in block) name
    any_name name [] = refl
    any_name name (e ∷ es) = ap (λ b. bytes_eq name e.0 || b) (any_name name es)

    same : is_new block x ≡ open_blocks.is_new block x.name
    same = ap (λ b. not (is_blank x.name) && not b) (any_name x.name block ∙ listed-block block x.name)

pub short_walk : (X : Type 0) → ShortWalk X
short_walk X = record { firsts = news_are_short; gained = λ block means xs. with_names_after xs block means 0 }

pub short_faults_are : (X : Type 0) → ShortFaults X
short_faults_are X block [] = refl
short_faults_are X block (x ∷ xs) =
    ap (λ b. none_new_fault b (x ∷ xs) ++ repeated_faults (repeated_behind [] (spellings (x ∷ xs))) (x ∷ xs)) (any_mapped is_short_new (short_names block (spellings (x ∷ xs))))
    ∙ ap (λ fs. none_new_fault (any_new (short_names block (spellings (x ∷ xs)))) (x ∷ xs) ++ fs) (repeats block (x ∷ xs) [])
