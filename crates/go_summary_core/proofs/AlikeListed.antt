-- Lists that are compared item by item.
use Rattle.std.proofs.Common.{◌≡◌, ◌↔◌, ◌<◌, ℕ, List, Bool, IsTrue, false, length, get_or, ap, sym, ◌∙◌}
use Rattle.std.proofs.lemmas.List.{get_or_default}

-- lists are told apart by what they have at a place
pub listed_apart : {A : Type 0} (xs ys : List A) (i : ℕ) (x y : A) (b : Bool) → i < length xs → i < length ys → x ≡ get_or xs i x → y ≡ get_or ys i y → IsTrue b ↔ (x ≡ y) → b ≡ false → IsTrue false ↔ (xs ≡ ys)
listed_apart {A} xs ys i x y b lx ly ax ay says other = ((λ h. cc), (λ e. sym other ∙ says.1 (ax ∙ (ap (λ (l : List A). get_or l i x) e ∙ (get_or_default ys i x y ly ∙ sym ay)))))
