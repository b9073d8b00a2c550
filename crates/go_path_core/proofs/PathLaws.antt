-- Laws of paths, of the rule of internal directories, and of modules.
use Rattle.std.proofs.Common.{◌≡◌, ◌≢◌, ℕ, inl, inr, List, [], ◌∷◌, ◌++◌, All, true, codes, refl, sym, ◌∙◌, ap}
use Rattle.std.specs.List.{join_with_byte}
use Rattle.std.proofs.lemmas.List.{append_assoc}
use Rattle.std.proofs.lemmas.List.Elements.{All-head, All-tail}
use Rattle.std.proofs.lemmas.List.Splits.{join_with_byte-slice_split}
use Rattle.go_path_core.specs.Path.{elements, internal, IsPrefix}
use Rattle.go_path_core.specs.Laws.{ElementsDecide, OpenToAll, LastInternalDecides, OneModuleOfAPath, PrefixByElements, OverlapIsDecided, hidden}
use Rattle.go_path_core.proofs.Paths.{same_first, may_import_is, begins_is, or_both}

pub elements_decide : ElementsDecide
elements_decide s t h = sym (join_with_byte-slice_split 47 s) ∙ (ap (λ l. join_with_byte 47 l) h ∙ join_with_byte-slice_split 47 t)

none_written : (b before behind : List (List ℕ)) → All (λ e. e ≢ internal) b → b ≡ before ++ internal ∷ behind → ⊥
none_written [] [] behind n h = (let g : [] ≡ internal ∷ behind = h in cc)
none_written [] (y ∷ before) behind n h = (let g : [] ≡ y ∷ (before ++ internal ∷ behind) = h in cc)
none_written (x ∷ b) [] behind n h =
    let g : x ∷ b ≡ internal ∷ behind = h in
    let same : x ≡ internal = cc in All-head (λ e. e ≢ internal) x b n same
none_written (x ∷ b) (y ∷ before) behind n h =
    let g : x ∷ b ≡ y ∷ (before ++ internal ∷ behind) = h in
    let rest : b ≡ before ++ internal ∷ behind = cc in
    none_written b before behind (All-tail (λ e. e ≢ internal) x b n) rest

pub open_to_all : OpenToAll
open_to_all p q n a b h = absurd (none_written p a b n h)

-- where none follows the last, each is the last or stands before it
earlier : (before a b behind : List (List ℕ)) → All (λ e. e ≢ internal) b → a ++ internal ∷ b ≡ before ++ internal ∷ behind → IsPrefix before a
earlier [] a b behind n h = (a, refl)
earlier (y ∷ before) [] b behind n h =
    let g : internal ∷ b ≡ y ∷ (before ++ internal ∷ behind) = h in
    let rest : b ≡ before ++ internal ∷ behind = cc in
    absurd (none_written b before behind n rest)
earlier (y ∷ before) (x ∷ a) b behind n h =
    let g : x ∷ (a ++ internal ∷ b) ≡ y ∷ (before ++ internal ∷ behind) = h in
    let same : x ≡ y = cc in
    let rest : a ++ internal ∷ b ≡ before ++ internal ∷ behind = cc in
    let w = earlier before a b behind n rest in
    (w.0, ap (λ l. x ∷ l) w.1 ∙ ap (λ z. z ∷ (before ++ w.0)) same)

prefix_along : (a b c : List (List ℕ)) → IsPrefix a b → IsPrefix b c → IsPrefix a c
prefix_along a b c h i = (h.0 ++ i.0, i.1 ∙ (ap (λ l. l ++ i.0) h.1 ∙ append_assoc a h.0 i.0))

pub last_internal_decides : LastInternalDecides
last_internal_decides a b q n =
    ((λ m. m a b refl), (λ own before behind h. prefix_along before a q (earlier before a b behind n h) own))

pub one_module_of_a_path : OneModuleOfAPath
one_module_of_a_path [] b p h i = inl (b, refl)
one_module_of_a_path (x ∷ a) [] p h i = inr (x ∷ a, refl)
one_module_of_a_path (x ∷ a) (y ∷ b) p h i =
    let g : x ∷ (a ++ h.0) ≡ y ∷ (b ++ i.0) = sym h.1 ∙ i.1 in
    let same : x ≡ y = cc in
    let rest : a ++ h.0 ≡ b ++ i.0 = cc in
    elim (one_module_of_a_path a b (a ++ h.0) (h.0, refl) (i.0, rest)) [
      | inl w ↦ inl (w.0, ap (λ z. z ∷ b) (sym same) ∙ ap (λ l. x ∷ l) w.1)
      | inr w ↦ inr (w.0, ap (λ z. z ∷ a) same ∙ ap (λ l. y ∷ l) w.1)
    ]

not_below : IsPrefix (elements (codes "ex.com/a")) (elements (codes "ex.com/ab")) → ⊥
not_below h =
    let behind = same_first (codes "ex.com") (codes "ex.com") (codes "a" ∷ []) (codes "ab" ∷ []) h in
    let g : codes "ab" ≡ codes "a" = (same_first (codes "a") (codes "ab") [] [] behind.1).0 in cc

pub prefix_by_elements : PrefixByElements
prefix_by_elements = (
  not_below,
  (λ m. not_below (m (codes "ex.com" ∷ codes "a" ∷ []) (codes "x" ∷ []) refl)),
  (may_import_is (elements (codes "ex.com/a/b")) (elements hidden) true refl).0 refl,
)

pub overlap_is_decided : OverlapIsDecided
overlap_is_decided a b = or_both _ _ (begins_is (elements a) (elements b)) (begins_is (elements b) (elements a))
