-- The folder of a package below a module.
use Rattle.std.proofs.Common.{◌≡◌, ◌≢◌, ◌∙◌, ◌<◌, ℕ, List, [], ◌∷◌, ◌++◌, length, drop, Some, None, refl, sym, ap, arith}
use Rattle.std.proofs.lemmas.List.{append-nil, append_cancel_left}
use Rattle.std.specs.Str.Pattern.{FindsTextPrefix}
use Rattle.go_folder_core.specs.Folders.{joined_path}

-- what stands after the module's path
abbrev pub behind : List ℕ → List ℕ
behind [] = []
behind (c ∷ cs) = 47 ∷ c ∷ cs

joined_is : (m folder : List ℕ) → 0 < length m → joined_path m folder ≡ m ++ behind folder
joined_is [] folder h = absurd (omega arith)
joined_is (b ∷ bs) [] h = sym (append-nil (b ∷ bs))
joined_is (b ∷ bs) (c ∷ cs) h = refl

-- the path does not begin so
pub not_begun : (m path folder : List ℕ) → FindsTextPrefix m path None → 0 < length m → path ≡ joined_path m folder → [] ≡ folder
not_begun m path folder none some is = absurd (none (behind folder) (is ∙ joined_is m folder some))

-- what stands after it, where it begins so
pub rest_is : (m path rest folder : List ℕ) (n : ℕ) → FindsTextPrefix m path (Some n) → rest ≡ drop n path → 0 < length m → path ≡ joined_path m folder → rest ≡ behind folder
rest_is m path rest folder n found cut some is =
    append_cancel_left m rest (behind folder) (ap (λ l. m ++ l) cut ∙ sym found.1 ∙ is ∙ joined_is m folder some)

pub no_slash : (rest folder : List ℕ) → rest ≡ behind folder → ((r : List ℕ) → rest ≢ 47 ∷ r) → [] ≡ folder
no_slash rest [] is none = refl
no_slash rest (c ∷ cs) is none = absurd (none (c ∷ cs) is)

pub slash : (rest x folder : List ℕ) → rest ≡ behind folder → rest ≡ 47 ∷ x → x ≡ folder
slash rest x [] is e = absurd (cc)
slash rest x (c ∷ cs) is e = cc
