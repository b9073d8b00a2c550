-- Keys that are spelled as others.
use Rattle.std.proofs.Common.{◌≡◌, ℕ, zero, suc, ◌+◌, ◌<◌, Bool, true, false, ◌||◌, List, [], ◌∷◌, ◌++◌, map, length, get_or, take, drop, refl, sym, ap, ◌∙◌, append_assoc, append-nil}
use Rattle.std.specs.Prelude.{Option, Some, None, if◌then◌else◌}
use Rattle.std.specs.Str.{bytes_eq}
use Rattle.std.proofs.lemmas.Slice.Eq.{bytes_eq-Decides}
use Rattle.std.proofs.lemmas.List.{drop_more, take_more}
use Rattle.go_denote_core.specs.text_core.declared.span.Span.{Span}
use Rattle.go_tree_nodes.specs.declared.exprs.Key.{Key}
use Rattle.go_tree_nodes.specs.declared.exprs.«Item» as declared_item
use Rattle.go_tree_nodes.specs.Trees.{ExprTree, ItemTrees, NoItems, Item}
use Rattle.go_tree_nodes.specs.Shapes.{shape, items_of, shape_key}
use Rattle.go_tree_nodes.specs.Counts.{item_count}
use Rattle.go_denote_core.specs.declared.composite.things.KeyMark.{KeyMark}
use Rattle.go_denote_core.specs.composite.Look.{FieldOf}
use Rattle.go_denote_core.specs.composite.Marks.{made_mark, key_marks}
use Rattle.go_denote_core.specs.composite.Repeats.{has_name, repeats}
use Rattle.go_expr_core.specs.Elements.{key_names, all_keys}
use Rattle.go_expr_core.specs.mirrors.Marked.{unmarked, mark_of, marks_of, spread}

bytes_same : (n : List ℕ) → bytes_eq n n ≡ true
bytes_same n = (bytes_eq-Decides n n).1 refl

has_mid : (k : List ℕ) (before rest : List (List ℕ)) → has_name k (before ++ k ∷ rest) ≡ true
has_mid k [] rest = ap (λ b. b || has_name k rest) (bytes_same k)
has_mid k (n ∷ before) rest = ap (λ b. bytes_eq n k || b) (has_mid k before rest) ∙ or_true (bytes_eq n k)
  where
    or_true : (b : Bool) → (b || true) ≡ true
    or_true true = refl
    or_true false = refl

-- a name that stands here stands more than once where it stands among the others
repeats_among : (k : List ℕ) (before rest : List (List ℕ)) → repeats k (before ++ k ∷ rest) ≡ has_name k (before ++ rest)
repeats_among k [] rest = ap (λ b. if b then has_name k rest else repeats k rest) (bytes_same k)
repeats_among k (n ∷ before) rest = by (bytes_eq n k) (has_mid k before rest) (repeats_among k before rest)
  where
    by : (b : Bool) → has_name k (before ++ k ∷ rest) ≡ true → repeats k (before ++ k ∷ rest) ≡ has_name k (before ++ rest)
        → (if b then has_name k (before ++ k ∷ rest) else repeats k (before ++ k ∷ rest)) ≡ (b || has_name k (before ++ rest))
    by true there others = there
    by false there others = others

module _ {T D : Type 0} (fields : List (FieldOf T D)) where
  known_marks : (before : List (List ℕ)) (items : ItemTrees) → spread (map (λ n. made_mark fields (repeats n (before ++ all_keys items)) n) (all_keys items)) items ≡ marks_of fields before items
  known_marks before NoItems = refl
  known_marks before (Item None e comma rest) =
      ap (λ l. unmarked ∷ l) (known_marks before rest ∙ ap (λ l. marks_of fields l rest) (sym (append-nil before)))
  known_marks before (Item (Some k) e comma rest) =
      let name = k.name.name in
      ap (λ b. made_mark fields b name ∷ spread (map (λ n. made_mark fields (repeats n (before ++ name ∷ all_keys rest)) n) (all_keys rest)) rest) (repeats_among name before (all_keys rest))
      ∙ ap (λ l. made_mark fields (has_name name (before ++ all_keys rest)) name ∷ l)
      (ap (λ ks. spread (map (λ n. made_mark fields (repeats n ks) n) (all_keys rest)) rest) (sym (append_assoc before (name ∷ []) (all_keys rest)))
      ∙ known_marks (before ++ name ∷ []) rest)

-- the marks of a literal's keys
pub literal_marks : {T D : Type 0} (fields : List (FieldOf T D)) (items : ItemTrees) → spread (key_marks fields (all_keys items)) items ≡ marks_of fields [] items
literal_marks fields items = known_marks fields [] items

pub items_counted : (xs : List declared_item.Item) → item_count (items_of xs) ≡ length xs
items_counted [] = refl
items_counted (x ∷ xs) = ap suc (items_counted xs)

-- the keys of one more element
pub keys_first : (key : Option Key) (e : ExprTree) (comma : Option Span) (rest : ItemTrees) → all_keys (Item key e comma rest) ≡ key_names key ++ all_keys rest
keys_first None e comma rest = refl
keys_first (Some k) e comma rest = refl

-- the marks behind the first elements
marks_behind : {T D : Type 0} (fields : List (FieldOf T D)) (before : List (List ℕ)) (xs : List declared_item.Item) (i : ℕ)
    → drop i (marks_of fields before (items_of xs)) ≡ marks_of fields (before ++ all_keys (items_of (take i xs))) (items_of (drop i xs))
marks_behind fields before [] zero = refl
marks_behind fields before [] (suc i) = refl
marks_behind fields before (x ∷ xs) zero = ap (λ l. marks_of fields l (items_of (x ∷ xs))) (sym (append-nil before))
marks_behind fields before (x ∷ xs) (suc i) =
    marks_behind fields (before ++ key_names (shape_key x.key)) xs i
    ∙ ap (λ l. marks_of fields l (items_of (drop i xs))) (append_assoc before (key_names (shape_key x.key)) (all_keys (items_of (take i xs)))
    ∙ ap (λ l. before ++ l) (sym (keys_first (shape_key x.key) (shape x.value) x.comma (items_of (take i xs)))))

abbrev head_or : KeyMark → List KeyMark → KeyMark
head_or d [] = d
head_or d (m ∷ ms) = m

head_behind : (ms : List KeyMark) (i : ℕ) (d : KeyMark) → get_or ms i d ≡ head_or d (drop i ms)
head_behind [] zero d = refl
head_behind [] (suc i) d = refl
head_behind (m ∷ ms) zero d = refl
head_behind (m ∷ ms) (suc i) d = head_behind ms i d

pub first_item : (xs : List declared_item.Item) (i : ℕ) (x : declared_item.Item) → i < length xs → x ≡ get_or xs i x → items_of (drop i xs) ≡ Item (shape_key x.key) (shape x.value) x.comma (items_of (drop (i + 1) xs))
first_item xs i x h is = ap items_of (drop_more xs i x h ∙ ap (λ y. y ∷ drop (i + 1) xs) (sym is))

-- the mark of an element
pub mark_there : {T D : Type 0} (fields : List (FieldOf T D)) (ms : List KeyMark) (xs : List declared_item.Item) (i : ℕ) (x : declared_item.Item) → ms ≡ marks_of fields [] (items_of xs) → i < length xs → x ≡ get_or xs i x
    → get_or ms i unmarked ≡ mark_of fields (shape_key x.key) (all_keys (items_of (take i xs)) ++ all_keys (items_of (drop (i + 1) xs)))
mark_there fields ms xs i x marks h is =
    head_behind ms i unmarked
    ∙ (ap (λ l. head_or unmarked (drop i l)) marks
    ∙ ap (head_or unmarked) (marks_behind fields [] xs i ∙ ap (marks_of fields (all_keys (items_of (take i xs)))) (first_item xs i x h is)))

keys-append : (xs ys : List declared_item.Item) → all_keys (items_of (xs ++ ys)) ≡ all_keys (items_of xs) ++ all_keys (items_of ys)
keys-append [] ys = refl
keys-append (x ∷ xs) ys =
    keys_first (shape_key x.key) (shape x.value) x.comma (items_of (xs ++ ys))
    ∙ (ap (λ l. key_names (shape_key x.key) ++ l) (keys-append xs ys)
    ∙ (sym (append_assoc (key_names (shape_key x.key)) (all_keys (items_of xs)) (all_keys (items_of ys)))
    ∙ ap (λ l. l ++ all_keys (items_of ys)) (sym (keys_first (shape_key x.key) (shape x.value) x.comma (items_of xs)))))

-- the keys of the first elements, and of one more
pub keys_more : (xs : List declared_item.Item) (i : ℕ) (x : declared_item.Item) → i < length xs → x ≡ get_or xs i x → all_keys (items_of (take i xs)) ++ key_names (shape_key x.key) ≡ all_keys (items_of (take (i + 1) xs))
keys_more xs i x h is =
    ap (λ l. all_keys (items_of (take i xs)) ++ l) (sym (append-nil (key_names (shape_key x.key))) ∙ sym (keys_first (shape_key x.key) (shape x.value) x.comma NoItems))
    ∙ (sym (keys-append (take i xs) (x ∷ []))
    ∙ ap (λ l. all_keys (items_of l)) (ap (λ y. take i xs ++ y ∷ []) is ∙ sym (take_more xs i x h)))
