-- Letters, digits, exported names and sameness of identifiers, by the Unicode categories.
use Rattle.std.specs.Prelude.{◌≡◌, ℕ, Bool, false, ◌==◌, ◌||◌, List, [], ◌∷◌, IsTrue, ◌⊎◌, codes}
use Rattle.std.specs.Str.{bytes_eq, chars}
use Rattle.unicode.specs.GeneralCategory.{general_category, general_category_eq}
use Rattle.unicode.specs.GeneralCategoryGroup.{in_group}
use Rattle.ucd_category.specs.declared.GeneralCategory.TheVariants.{UppercaseLetter, DecimalNumber}
use Rattle.ucd_category.specs.declared.GeneralCategoryGroup.TheVariants.{Letter}

-- `_`, or a character of the categories Lu, Ll, Lt, Lm, Lo
unfoldable pub letter : ℕ → Bool
letter c = (c == 95) || in_group Letter (general_category c)

-- a character of the category Nd
unfoldable pub digit : ℕ → Bool
digit c = general_category_eq (general_category c) DecimalNumber

-- a character of the category Lu
unfoldable pub uppercase : ℕ → Bool
uppercase c = general_category_eq (general_category c) UppercaseLetter

-- a name whose first character is of the category Lu
abbrev pub exported : List ℕ → Bool
exported [] = false
exported (c ∷ cs) = uppercase c

-- two identifiers, each with the package where it was written, are the same: they are spelled
-- alike, and are exported or of one package
abbrev pub SameId : List ℕ → List ℕ → List ℕ → List ℕ → Type 0
SameId a a_package b b_package = (a ≡ b) × (IsTrue (exported (chars a)) ⊎ (a_package ≡ b_package))

-- the blank identifier, which binds nothing
abbrev pub is_blank : List ℕ → Bool
is_blank name = bytes_eq name (codes "_")
