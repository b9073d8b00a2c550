-- The names of a scope, each once.
use Rattle.std.proofs.Common.{◌≡◌, ℕ, ◌+◌, ◌<◌, length, drop, get_or, Bool, true, false, ◌||◌, List, [], ◌∷◌, ◌++◌, map, refl, sym, ap, ◌∙◌, append_assoc, if◌then◌else◌}
use Rattle.std.specs.Str.{bytes_eq}
use Rattle.std.proofs.lemmas.Bool.{true≢false}
use Rattle.std.proofs.lemmas.List.{drop_more}
use Rattle.std.proofs.lemmas.List.Folds.{list_any-append}
use Rattle.std.proofs.lemmas.Slice.Eq.{bytes_eq-Decides}
use Rattle.go_block_core.specs.Blocks.{held_in}
use Rattle.go_block_core.specs.scope_stack.Blocks.{names_in, all_names, is_listed, list_name, list_names}
use Rattle.go_block_core.specs.scope_stack.Names.{list_names-append}
use Rattle.go_block_core.specs.scope_stack.News.{or_true}
use Rattle.go_universe_core.specs.declared.TheConstants.{PREDECLARED}
use Rattle.go_universe_core.specs.declared.Predeclared.{Predeclared}
use Rattle.go_universe_core.specs.Universe.{spelling_of}
use Rattle.go_scope_core.specs.Models.{ScopesModel}
use Rattle.go_scope_core.specs.Scopes.{Universe, Package, File, Local, universe, inside_universe, scope_blocks}

-- a name that is listed stays listed
stays : (s ns : List (List ℕ)) (name : List ℕ) → is_listed s name ≡ true → is_listed (list_names s ns) name ≡ true
stays s [] name h = h
stays s (n ∷ ns) name h = stays (list_name s n) ns name (one (is_listed s n))
  where
    one : (b : Bool) → is_listed (if b then s else s ++ n ∷ []) name ≡ true
    one true = h
    one false = list_any-append (bytes_eq name) s (n ∷ []) ∙ ap (λ b. b || is_listed (n ∷ []) name) h

itself : (name : List ℕ) → bytes_eq name name ≡ true
itself name = (bytes_eq-Decides name name).1 refl

list_name-has : (s : List (List ℕ)) (name : List ℕ) → is_listed (list_name s name) name ≡ true
list_name-has s name = by (is_listed s name) refl
  where
    by : (b : Bool) → is_listed s name ≡ b → is_listed (if b then s else s ++ name ∷ []) name ≡ true
    by true there = there
    by false there = list_any-append (bytes_eq name) s (name ∷ []) ∙ (ap (λ b. is_listed s name || (b || false)) (itself name) ∙ or_true (is_listed s name))

-- the names that are listed are those of the list
list_names-has : (s ns : List (List ℕ)) (name : List ℕ) → is_listed ns name ≡ true → is_listed (list_names s ns) name ≡ true
list_names-has s [] name h = absurd (true≢false (sym h))
list_names-has s (n ∷ ns) name h = by (bytes_eq name n) refl h (list_names-has (list_name s n) ns name)
  where
    by : (b : Bool) → bytes_eq name n ≡ b → b || is_listed ns name ≡ true → (is_listed ns name ≡ true → is_listed (list_names (list_name s n) ns) name ≡ true) → is_listed (list_names (list_name s n) ns) name ≡ true
    by true same e rest = stays (list_name s n) ns name (ap (is_listed (list_name s n)) ((bytes_eq-Decides name n).0 same) ∙ list_name-has s n)
    by false same e rest = rest e

-- to add names that are listed once is to add them
list_names-twice : (s t ns : List (List ℕ)) → list_names s (list_names t ns) ≡ list_names (list_names s t) ns
list_names-twice s t [] = refl
list_names-twice s t (n ∷ ns) = list_names-twice s (list_name t n) ns ∙ ap (λ l. list_names l ns) (by (is_listed t n) refl)
  where
    by : (b : Bool) → is_listed t n ≡ b → list_names s (if b then t else t ++ n ∷ []) ≡ list_name (list_names s t) n
    by true there = sym (ap (λ b. if b then list_names s t else list_names s t ++ n ∷ []) (list_names-has s t n there))
    by false there = list_names-append s t (n ∷ [])

module _ {X Y : Type 0} (f : X → Y) where
  names_in-map : (block : List (List ℕ × X)) → names_in (map (λ e. (e.0, f e.1)) block) ≡ names_in block
  names_in-map [] = refl
  names_in-map (e ∷ es) = ap (λ l. e.0 ∷ l) (names_in-map es)

  all_names-map : (blocks : List (List (List ℕ × X))) → all_names (map (λ block. map (λ e. (e.0, f e.1)) block) blocks) ≡ all_names blocks
  all_names-map [] = refl
  all_names-map (block ∷ blocks) = ap (λ l. l ++ all_names (map (λ block. map (λ e. (e.0, f e.1)) block) blocks)) (names_in-map block) ∙ ap (λ l. names_in block ++ l) (all_names-map blocks)

-- one predeclared name more
pub spelling_step : (ps : List Predeclared) (i : ℕ) (p : Predeclared) (s s' all : List (List ℕ)) → i < length ps → s' ≡ list_name s (spelling_of (get_or ps i p)) → list_names s (map spelling_of (drop i ps)) ≡ all → list_names s' (map spelling_of (drop (i + 1) ps)) ≡ all
spelling_step ps i p s s' all h now left =
    ap (λ l. list_names l (map spelling_of (drop (i + 1) ps))) now
    ∙ (ap (λ l. list_names s (map spelling_of l)) (sym (drop_more ps i p h)) ∙ left)

spelled_names : (ps : List Predeclared) → map spelling_of ps ≡ names_in (map (λ p. (spelling_of p, p)) ps)
spelled_names [] = refl
spelled_names (p ∷ ps) = ap (λ l. spelling_of p ∷ l) (spelled_names ps)

-- the names of the universe block are those of the table
pub universe_names : map spelling_of PREDECLARED ≡ names_in universe
unfolding universe
universe_names = spelled_names PREDECLARED

names_inside : (s : ScopesModel) → all_names (inside_universe s) ≡ names_in s.blocks.names ++ (names_in (held_in s.blocks s.file) ++ all_names s.open_blocks)
names_inside s =
    ap (λ l. l ++ (names_in (map (λ e. (e.0, File e.1)) (held_in s.blocks s.file)) ++ all_names (map (λ block. map (λ e. (e.0, Local e.1)) block) s.open_blocks))) (names_in-map Package s.blocks.names)
    ∙ ap (λ l. names_in s.blocks.names ++ l) (ap (λ l. l ++ all_names (map (λ block. map (λ e. (e.0, Local e.1)) block) s.open_blocks)) (names_in-map File (held_in s.blocks s.file)) ∙ ap (λ l. names_in (held_in s.blocks s.file) ++ l) (all_names-map Local s.open_blocks))

names_of_scope : (s : ScopesModel) → all_names (scope_blocks s) ≡ names_in universe ++ (names_in s.blocks.names ++ (names_in (held_in s.blocks s.file) ++ all_names s.open_blocks))
names_of_scope s = ap (λ l. l ++ all_names (inside_universe s)) (names_in-map Universe universe) ∙ ap (λ l. names_in universe ++ l) (names_inside s)

-- the names of the universe block, then those of the package block, of the file's block and of the function's blocks, each once
pub listed_in_turn : (s : ScopesModel) → list_names (list_names (list_names (list_names [] (names_in universe)) (names_in s.blocks.names)) (names_in (held_in s.blocks s.file))) (list_names [] (all_names s.open_blocks)) ≡ list_names [] (all_names (scope_blocks s))
listed_in_turn s =
    let U = names_in universe in
    let P = names_in s.blocks.names in
    let F = names_in (held_in s.blocks s.file) in
    let O = all_names s.open_blocks in
    list_names-twice (list_names (list_names (list_names [] U) P) F) [] O
    ∙ (ap (λ l. list_names (list_names l F) O) (sym (list_names-append [] U P))
    ∙ (ap (λ l. list_names l O) (sym (list_names-append [] (U ++ P) F))
    ∙ (sym (list_names-append [] ((U ++ P) ++ F) O)
    ∙ ap (list_names []) (append_assoc (U ++ P) F O ∙ (append_assoc U P (F ++ O) ∙ sym (names_of_scope s))))))
