-- Trees of labels and how they are stored: what trees and terms are stored as.
use Rattle.std.specs.Prelude.{◌≡◌, refl, List, [], ◌∷◌, Option, Some, None}
use Rattle.std.specs.Coded.{Coded, code_by, coded_list, coded_option}
use Rattle.std.proofs.Common.{ap, ◌∙◌}

-- a tree of labels, each with two trees below it
pub data Labels (L : Type 0) : Type 0 where
  End : Labels L
  Node : L → Labels L → Labels L → Labels L

module _ {L : Type 0} where
  -- each label behind those of the trees below it, before what follows
  abbrev written : Labels L → List (Option L) → List (Option L)
  written End rest = None ∷ rest
  written (Node l s t) rest = written s (written t (Some l ∷ rest))

  -- the trees that labels make, above those that were made before
  abbrev made : List (Option L) → List (Labels L) → List (Labels L)
  made [] below = below
  made (None ∷ rest) below = made rest (End ∷ below)
  made (Some l ∷ rest) (t ∷ s ∷ below) = made rest (Node l s t ∷ below)
  made (Some l ∷ rest) (t ∷ []) = []
  made (Some l ∷ rest) [] = []

  abbrev top : List (Labels L) → Labels L
  top [] = End
  top (s ∷ below) = s

  pub made-written : (s : Labels L) (rest : List (Option L)) (below : List (Labels L)) → made (written s rest) below ≡ made rest (s ∷ below)
  made-written End rest below = refl
  made-written (Node l s t) rest below = made-written s (written t (Some l ∷ rest)) below ∙ made-written t (Some l ∷ rest) (s ∷ below)

  abbrev pub coded_labels : Coded L → Coded (Labels L)
  coded_labels c = code_by (List (Option L)) (coded_list (coded_option c)) (λ s. written s []) (λ ls. top (made ls [])) (λ s. ap top (made-written s [] []))
