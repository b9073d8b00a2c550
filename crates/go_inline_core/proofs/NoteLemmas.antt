-- What is noted of types that were listed.
use Rattle.std.proofs.Common.{◌≡◌, ℕ, false, List, [], ◌++◌, map, Result, Ok, Err, ap, ◌∙◌}
use Rattle.std.specs.Result.{OnOk}
use Rattle.go_tree_nodes.specs.TypeShapes.{shape_type}
use Rattle.go_tree_nodes.specs.Trees.{TypeTree}
use Rattle.go_inline_core.specs.declared.listing.TypeList.{TypeList}
use Rattle.go_inline_core.specs.Types.{InlineOf}
use Rattle.go_inline_core.specs.mirrors.Listing.{Lists}

-- a list that was empty has what was listed, if memory was there
pub all_listed : (a b : TypeList) (ts : List TypeTree) → a.trees.items ≡ [] → Lists a ts b → b.lacks_memory ≡ false → map (λ t. shape_type t.now) b.trees.items ≡ ts
all_listed a b ts empty listed ok = (listed ok).1 ∙ ap (λ l. map (λ t. shape_type t.now) l ++ ts) empty

-- noting what was listed notes the types of the piece
pub noted_all : {U E : Type 0} (r : Result U E) (a b : TypeList) (ts : List TypeTree) (f : List TypeTree → List (ℕ × InlineOf)) (old new : List (ℕ × InlineOf)) → a.trees.items ≡ [] → Lists a ts b
    → OnOk r (b.lacks_memory ≡ false) → OnOk r (new ≡ old ++ f (map (λ t. shape_type t.now) b.trees.items)) → OnOk r (new ≡ old ++ f ts)
noted_all (Err e) a b ts f old new empty listed ok now = tt
noted_all (Ok u) a b ts f old new empty listed ok now = now ∙ ap (λ l. old ++ f l) (all_listed a b ts empty listed ok)

-- the same, once it is known that memory was there
pub noted_list : (a b : TypeList) (ts : List TypeTree) (f : List TypeTree → List (ℕ × InlineOf)) (old new : List (ℕ × InlineOf)) → a.trees.items ≡ [] → Lists a ts b
    → b.lacks_memory ≡ false → new ≡ old ++ f (map (λ t. shape_type t.now) b.trees.items) → new ≡ old ++ f ts
noted_list a b ts f old new empty listed ok now = now ∙ ap (λ l. old ++ f l) (all_listed a b ts empty listed ok)

pub when_ok : {T E P : Type 0} (r : Result T E) → P → OnOk r P
when_ok (Ok x) p = p
when_ok (Err e) p = tt
