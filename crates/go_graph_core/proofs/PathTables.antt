-- Where the paths of packages stand.
use Rattle.std.proofs.Common.{◌≡◌, ℕ, zero, suc, ◌+◌, ◌<◌, ◌≤◌, inl, inr, Bool, true, false, ◌||◌, cond, List, [], ◌∷◌, ◌++◌, length, get_or, take, Some, None, refl, sym, ◌∙◌, ap, subst, arith}
use Rattle.std.specs.List.{list_any, position, position_from}
use Rattle.std.specs.Map.{keys_of}
use Rattle.std.specs.Str.{bytes_eq}
use Rattle.std.specs.declared.cmp.Ordering.TheVariants.{Less, Equal}
use Rattle.std.proofs.lemmas.Bool.{true≢false}
use Rattle.std.proofs.lemmas.Iterator.Adapters.{position_from-zero}
use Rattle.std.proofs.lemmas.List.{take_more, take_all, map-append, length-map, length-take-le}
use Rattle.std.proofs.lemmas.Map.Keys.{sorted_tail}
use Rattle.std.proofs.lemmas.Slice.Eq.{bytes_eq-Decides}
use Rattle.go_collections_core.specs.text_core.Each.{true_or_false}
use Rattle.go_collections_core.specs.name_table.Named.{value_at}
use Rattle.go_graph_core.specs.Workspaces.{PackageModel, by_bytes}
use Rattle.go_graph_core.specs.mirrors.Placed.{placed}
use Rattle.go_graph_core.proofs.Places.{IsOrdered, same_text, path_below}

-- a path is none of those before it

apart : (x q : List ℕ) → by_bytes x q ≡ Less → bytes_eq q x ≡ false
apart x q less = elim (true_or_false (bytes_eq q x)) [
  | inl is ↦ (let same : q ≡ x = (bytes_eq-Decides q x).0 is in let none : Equal ≡ Less = sym (same_text x) ∙ subst (λ t. by_bytes x t ≡ Less) same less in cc)
  | inr differs ↦ differs
]

not_before : (ps : List PackageModel) (i : ℕ) (d : PackageModel) → IsOrdered ps → i < length ps → list_any (bytes_eq (get_or ps i d).0) (keys_of (take i ps)) ≡ false
not_before [] i d ordered lt = absurd (omega arith)
not_before (p ∷ ps) zero d ordered lt = refl
not_before (p ∷ ps) (suc i) d ordered lt =
    let other : bytes_eq (get_or ps i d).0 p.0 ≡ false = apart p.0 (get_or ps i d).0 (path_below (p ∷ ps) 0 (suc i) d ordered (omega arith) lt) in
    ap (λ b. b || list_any (bytes_eq (get_or ps i d).0) (keys_of (take i ps))) other ∙ not_before ps i d (sorted_tail by_bytes p.0 (keys_of ps) ordered) (omega arith)

-- where a path stands

unplaced : (n : ℕ) (paths : List (List ℕ)) (path : List ℕ) → list_any (bytes_eq path) paths ≡ false → position_from (bytes_eq path) n paths ≡ None
unplaced n [] path h = refl
unplaced n (q ∷ paths) path h = by (bytes_eq path q) h (unplaced (n + 1) paths path)
  where
    by : (b : Bool) → b || list_any (bytes_eq path) paths ≡ false → (list_any (bytes_eq path) paths ≡ false → position_from (bytes_eq path) (n + 1) paths ≡ None) → cond b (Some n) (position_from (bytes_eq path) (n + 1) paths) ≡ None
    by true e rest = absurd (true≢false e)
    by false e rest = rest e

value_placed : (n : ℕ) (paths : List (List ℕ)) (path : List ℕ) → value_at (placed n paths) path ≡ position_from (bytes_eq path) n paths
value_placed n [] path = refl
value_placed n (q ∷ paths) path = ap (λ o. cond (bytes_eq path q) (Some n) o) (value_placed (n + 1) paths path)

placed_last : (n : ℕ) (paths : List (List ℕ)) (last : List ℕ) (m : ℕ) → m ≡ n + length paths → placed n (paths ++ last ∷ []) ≡ placed n paths ++ (last, m) ∷ []
placed_last n [] last m at = let same : n ≡ m = omega (arith, at) in ap (λ k. (last, k) ∷ []) same
placed_last n (q ∷ paths) last m at = let at' : m ≡ n + 1 + length paths = omega (arith, at) in ap (λ l. (q, n) ∷ l) (placed_last (n + 1) paths last m at')

-- the path of one more package
module _ (ps : List PackageModel) (i : ℕ) (d : PackageModel) (old : List (List ℕ × ℕ)) (path : List ℕ) (lt : i < length ps) (is : path ≡ (get_or ps i d).0) (before : old ≡ placed 0 (keys_of (take i ps))) where
  pub path_absent : IsOrdered ps → value_at old path ≡ None
  path_absent ordered =
      ap (λ l. value_at l path) before
      ∙ (value_placed 0 (keys_of (take i ps)) path
      ∙ unplaced 0 (keys_of (take i ps)) path (ap (λ q. list_any (bytes_eq q) (keys_of (take i ps))) is ∙ not_before ps i d ordered lt))

  pub path_more : (new : List (List ℕ × ℕ)) → new ≡ old ++ (path, i) ∷ [] → new ≡ placed 0 (keys_of (take (i + 1) ps))
  path_more new more =
      let n : length (keys_of (take i ps)) ≡ i = length-map (take i ps) (λ p. p.0) ∙ length-take-le i ps (omega (arith, lt)) in
      let at : i ≡ 0 + length (keys_of (take i ps)) = omega (arith, n) in
      more
      ∙ (ap (λ l. l ++ (path, i) ∷ []) before
      ∙ (ap (λ q. placed 0 (keys_of (take i ps)) ++ (q, i) ∷ []) is
      ∙ (sym (placed_last 0 (keys_of (take i ps)) (get_or ps i d).0 i at)
      ∙ ap (placed 0) (sym (ap keys_of (take_more ps i d lt) ∙ map-append (λ (p : PackageModel). p.0) (take i ps) (get_or ps i d ∷ []))))))

-- the paths of all packages
pub all_paths : (ps : List PackageModel) (i : ℕ) (places : List (List ℕ × ℕ)) → length ps ≤ i → places ≡ placed 0 (keys_of (take i ps)) → places ≡ placed 0 (keys_of ps)
all_paths ps i places past h = subst (λ (l : List PackageModel). places ≡ placed 0 (keys_of l)) (take_all i ps past) h

-- the place of a path in the list
pub position_placed : (places : List (List ℕ × ℕ)) (paths : List (List ℕ)) (path : List ℕ) → places ≡ placed 0 paths → value_at places path ≡ position (bytes_eq path) paths
position_placed places paths path are = ap (λ l. value_at l path) are ∙ (value_placed 0 paths path ∙ sym (position_from-zero (bytes_eq path) paths))
