-- What visits do, one behind the other.
use Rattle.std.proofs.Common.{◌≡◌, ℕ, ◌<◌, ◌+◌, ◌⊎◌, inl, inr, Bool, true, false, not, cond, List, [], ◌∷◌, ◌++◌, length, get_or, set, map, take, refl, sym, ◌∙◌, ap, subst, arith}
use Rattle.std.specs.Prelude.{◌↔◌, IsTrue}
use Rattle.std.specs.List.{Contains, count_by, flat_map}
use Rattle.std.proofs.lemmas.Bool.{cases_eq}
use Rattle.std.proofs.lemmas.List.{flat_map_more, get_or-set_other, get_or-set_same, get_or_default, length_push, take_more}
use Rattle.std.proofs.lemmas.List.Elements.{Contains-append_cases, Contains-append_left, Contains-append_right, Contains-push, Contains-push_cases}
use Rattle.std.proofs.lemmas.List.Sums.{sum_by-set}
use Rattle.go_tree_nodes.specs.declared.files.ImportLine.{ImportLine}
use Rattle.go_path_core.specs.text_core.declared.rule.Rule.{Rule}
use Rattle.go_tree_nodes.specs.Shapes.{shape_import_line}
use Rattle.go_tree_nodes.specs.Terminals.{value_of}
use Rattle.go_path_core.specs.Path.{IsPath}
use Rattle.go_graph_core.specs.declared.imports.ImportOutcome.{ImportOutcome}
use Rattle.go_graph_core.specs.declared.imports.ImportOutcome.TheVariants.{Package, Refused}
use Rattle.go_graph_core.specs.Imports.{HasNoPackage, IsNumbered, IsTarget}
use Rattle.go_graph_core.specs.Sources.{SourceModel}
use Rattle.go_graph_core.specs.Workspaces.{IsWorkspace, PackageModel}
use Rattle.go_graph_core.proofs.OneTarget.{one_target, same_number}
use Rattle.go_import_core.specs.list.mirrors.Visits.{IsMarked, IsMet, IsTargetOf, IsVisited, Visits, line_texts}

-- marks after one more mark

marked_after : (marks : List Bool) (i v : ℕ) → IsMarked (set marks i true) v → (v ≡ i) ⊎ IsMarked marks v
marked_after marks i v h = elim (cases_eq v i) [ inl e ↦ inl e | inr n ↦ inr (sym (get_or-set_other marks i v true false n) ∙ h) ]

still_marked : (marks : List Bool) (i v : ℕ) → i < length marks → IsMarked marks v → IsMarked (set marks i true) v
still_marked marks i v lt h = elim (cases_eq v i) [
  | inl q ↦ subst (λ (x : ℕ). get_or (set marks i true) x false ≡ true) (sym q) (get_or-set_same marks i true false lt)
  | inr n ↦ get_or-set_other marks i v true false n ∙ h
]

-- all of them bear marks already
pub visits_met : (P : ℕ → Type 0) (m : List Bool) (s : List ℕ) → ((v : ℕ) → P v → IsMarked m v) → Visits P m m s s
visits_met P m s met = record { kept = λ v h. h; done = met; made = λ v h. inl h; still = λ v t. t; marked = λ v t. inl t; count = refl }

visits_new : (P : ℕ → Type 0) (n : ℕ) (m : List Bool) (s : List ℕ) → P n → ((v : ℕ) → P v → v ≡ n) → n < length m → get_or m n false ≡ false → Visits P m (set m n true) s (s ++ n ∷ [])
visits_new P n m s here only lt unmarked =
    let mark : IsMarked (set m n true) n = get_or-set_same m n true false lt in
    let counted : count_by (λ b. not b) (set m n true) + cond {A = ℕ} (not (get_or m n false)) 1 0 ≡ count_by (λ b. not b) m + 0 = sum_by-set (λ b. cond (not b) 1 0) m n true false lt in
    let one : cond {A = ℕ} (not (get_or m n false)) 1 0 ≡ 1 = ap (λ b. cond {A = ℕ} (not b) 1 0) unmarked in
    let longer : length (s ++ n ∷ []) ≡ length s + 1 = length_push s n in
    record {
      kept = λ v h. still_marked m n v lt h;
      done = λ v h. subst (IsMarked (set m n true)) (sym (only v h)) mark;
      made = λ v h. elim (marked_after m n v h) [
        | inl q ↦ inr (subst (λ (x : ℕ). Contains (s ++ n ∷ []) x × P x) (sym q) (Contains-push s n, here))
        | inr o ↦ inl o
      ];
      still = λ v t. Contains-append_left s (n ∷ []) v t;
      marked = λ v t. elim (Contains-push_cases s n v t) [ inl o ↦ inl o | inr q ↦ inr (subst (IsMarked (set m n true)) q mark) ];
      count = omega (arith, counted, one, longer);
    }

-- the one of them is visited
pub visits_one : (P : ℕ → Type 0) (n : ℕ) (m new : List Bool) (s after : List ℕ) → P n → ((v : ℕ) → P v → v ≡ n) → n < length m → IsVisited n m new s after → Visits P m new s after
visits_one P n m new s after here only lt w = elim w [
  | inl o ↦
      let met : (v : ℕ) → P v → IsMarked m v = λ v h. subst (IsMarked m) (sym (only v h)) o.0 in
      subst (λ (l : List Bool). Visits P m l s after) (sym o.1) (subst (λ (l : List ℕ). Visits P m m s l) (sym o.2) (visits_met P m s met))
  | inr f ↦
      subst (λ (l : List Bool). Visits P m l s after) (sym f.1) (subst (λ (l : List ℕ). Visits P m (set m n true) s l) (sym f.2) (visits_new P n m s here only lt f.0))
]

-- the same packages, said in other words
pub visits_as : (P Q : ℕ → Type 0) (m new : List Bool) (s after : List ℕ) → ((v : ℕ) → P v → Q v) → ((v : ℕ) → Q v → P v) → Visits P m new s after → Visits Q m new s after
visits_as P Q m new s after to from h = record {
  kept = h.kept;
  done = λ v q. h.done v (from v q);
  made = λ v w. elim (h.made v w) [ inl o ↦ inl o | inr b ↦ inr (b.0, to v b.1) ];
  still = h.still;
  marked = h.marked;
  count = h.count;
}

visits_both : (P Q R : ℕ → Type 0) (m0 m1 m2 : List Bool) (s0 s1 s2 : List ℕ) → ((v : ℕ) → R v → P v ⊎ Q v) → ((v : ℕ) → P v → R v) → ((v : ℕ) → Q v → R v) → Visits P m0 m1 s0 s1 → Visits Q m1 m2 s1 s2 → Visits R m0 m2 s0 s2
visits_both P Q R m0 m1 m2 s0 s1 s2 split left right one two = record {
  kept = λ v h. two.kept v (one.kept v h);
  done = λ v h. elim (split v h) [ inl p ↦ two.kept v (one.done v p) | inr q ↦ two.done v q ];
  made = λ v h. elim (two.made v h) [
    | inl a ↦ elim (one.made v a) [ inl o ↦ inl o | inr p ↦ inr (two.still v p.0, left v p.1) ]
    | inr b ↦ inr (b.0, right v b.1)
  ];
  still = λ v t. two.still v (one.still v t);
  marked = λ v t. elim (two.marked v t) [
    | inl a ↦ elim (one.marked v a) [ inl o ↦ inl o | inr k ↦ inr (two.kept v k) ]
    | inr k ↦ inr k
  ];
  count = two.count ∙ one.count;
}

-- texts

pub texts_none : (ps : List PackageModel) (q : List ℕ) (m : List Bool) (s : List ℕ) → Visits (IsTargetOf ps q []) m m s s
texts_none ps q m s = visits_met (IsTargetOf ps q []) m s (λ v h. absurd (omega (arith, h.1.1)))

pub texts_both : (ps : List PackageModel) (q : List ℕ) (xs ys : List (List ℕ)) (m0 m1 m2 : List Bool) (s0 s1 s2 : List ℕ) → Visits (IsTargetOf ps q xs) m0 m1 s0 s1 → Visits (IsTargetOf ps q ys) m1 m2 s1 s2 → Visits (IsTargetOf ps q (xs ++ ys)) m0 m2 s0 s2
texts_both ps q xs ys m0 m1 m2 s0 s1 s2 =
    visits_both (IsTargetOf ps q xs) (IsTargetOf ps q ys) (IsTargetOf ps q (xs ++ ys)) m0 m1 m2 s0 s1 s2
    (λ v h. elim (Contains-append_cases xs ys h.0 h.1) [ inl c ↦ inl (h.0, c, h.2) | inr c ↦ inr (h.0, c, h.2) ])
    (λ v h. (h.0, Contains-append_left xs ys h.0 h.1, h.2))
    (λ v h. (h.0, Contains-append_right xs ys h.0 h.1, h.2))

-- the texts of one more item
pub texts_more : {A : Type 0} (ps : List PackageModel) (q : List ℕ) (f : A → List (List ℕ)) (xs : List A) (i : ℕ) (x : A) (m0 m1 m2 : List Bool) (s0 s1 s2 : List ℕ) → i < length xs → x ≡ get_or xs i x → Visits (IsTargetOf ps q (flat_map f (take i xs))) m0 m1 s0 s1 → Visits (IsTargetOf ps q (f x)) m1 m2 s1 s2 → Visits (IsTargetOf ps q (flat_map f (take (i + 1) xs))) m0 m2 s0 s2
texts_more {A} ps q f xs i x m0 m1 m2 s0 s1 s2 lt at one two =
    let more : take (i + 1) xs ≡ take i xs ++ x ∷ [] = take_more xs i x lt ∙ ap (λ (z : A). take i xs ++ z ∷ []) (sym at) in
    let texts : flat_map f (take i xs) ++ f x ≡ flat_map f (take (i + 1) xs) = flat_map_more f [] (take i xs) x ∙ ap (flat_map f) (sym more) in
    subst (λ (l : List (List ℕ)). Visits (IsTargetOf ps q l) m0 m2 s0 s2) texts (texts_both ps q (flat_map f (take i xs)) (f x) m0 m1 m2 s0 s1 s2 one two)

-- the texts of imports in parentheses
pub lines_texts : (lines : List ImportLine) → map (λ i. value_of i.0.path) (map shape_import_line lines) ≡ flat_map line_texts lines
lines_texts [] = refl
lines_texts (i ∷ is) = ap (λ l. value_of i.spec.path ∷ l) (lines_texts is)

-- one text

only_text : (text t : List ℕ) → Contains (text ∷ []) t → text ≡ t
only_text text t c = elim (Contains-push_cases [] text t c) [ inl none ↦ absurd (omega (arith, none.1)) | inr same ↦ same ]

same_text : (ps : List PackageModel) (q text : List ℕ) (v : ℕ) → IsTargetOf ps q (text ∷ []) v → IsTarget ps q text (Package v)
same_text ps q text v h = subst (λ (t : List ℕ). IsTarget ps q t (Package v)) (sym (only_text text h.0 h.1)) h.2

pub text_met : (ps : List PackageModel) (q text : List ℕ) (m : List Bool) (s : List ℕ) → IsMet ps text m → Visits (IsTargetOf ps q (text ∷ [])) m m s s
text_met ps q text m s met = visits_met (IsTargetOf ps q (text ∷ [])) m s (λ v h. (let found = same_text ps q text v h in met v found.files found.numbered))

pub text_malformed : (ps : List PackageModel) (q text : List ℕ) (m : List Bool) (s : List ℕ) → ¬ IsPath text → Visits (IsTargetOf ps q (text ∷ [])) m m s s
text_malformed ps q text m s not_path = visits_met (IsTargetOf ps q (text ∷ [])) m s (λ v h. absurd (not_path (same_text ps q text v h).allowed.0))

pub text_refused : (ps : List PackageModel) (q text : List ℕ) (rule : Rule) (m : List Bool) (s : List ℕ) → IsWorkspace ps → IsTarget ps q text (Refused rule) → Visits (IsTargetOf ps q (text ∷ [])) m m s s
text_refused ps q text rule m s well refused = visits_met (IsTargetOf ps q (text ∷ [])) m s (λ v h. (let no : ◌≡◌ {A = ImportOutcome} (Refused rule) (Package v) = one_target ps q text (Refused rule) (Package v) well refused (same_text ps q text v h) in absurd (cc)))

pub text_found : (ps : List PackageModel) (q text : List ℕ) (n : ℕ) (m new : List Bool) (s after : List ℕ) → IsWorkspace ps → IsTarget ps q text (Package n) → n < length m → IsVisited n m new s after → Visits (IsTargetOf ps q (text ∷ [])) m new s after
text_found ps q text n m new s after well is lt w =
    let there : Contains (text ∷ []) text = Contains-push [] text in
    let only : (v : ℕ) → IsTargetOf ps q (text ∷ []) v → v ≡ n = λ v h. (let same : ◌≡◌ {A = ImportOutcome} (Package v) (Package n) = one_target ps q text (Package v) (Package n) well (same_text ps q text v h) is in cc) in
    visits_one (IsTargetOf ps q (text ∷ [])) n m new s after (text, there, is) only lt w

-- whether the package of a text bears a mark

pub met_none : (ps : List PackageModel) (text : List ℕ) (m : List Bool) → HasNoPackage ps text → IsTrue true ↔ IsMet ps text m
met_none ps text m none = (λ on to files at. absurd (none to files at), λ met. refl)

pub met_some : (ps : List PackageModel) (text : List ℕ) (m : List Bool) (n : ℕ) (files : List SourceModel) (b d : Bool) → IsWorkspace ps → IsNumbered ps text n files → n < length m → b ≡ get_or m n d → IsTrue b ↔ IsMet ps text m
met_some ps text m n files b d well at lt is =
    let reads : b ≡ get_or m n false = is ∙ get_or_default m n d false lt in (
      λ on to others there. subst (IsMarked m) (same_number ps text n to files others well at there).0 (sym reads ∙ on),
      λ met. reads ∙ met n files at,
    )
