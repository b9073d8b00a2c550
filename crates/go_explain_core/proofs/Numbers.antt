-- The number of a rule names it, and nothing else does.
use Rattle.std.proofs.Common.{◌≡◌, ◌≢◌, ◌∙◌, Bool, true, false, cond, ℕ, List, [], ◌∷◌, Some, None, refl, sym, ap}
use Rattle.std.specs.Prelude.{find}
use Rattle.std.specs.Str.{bytes_eq}
use Rattle.std.proofs.lemmas.Slice.Eq.{bytes_eq-Decides}
use Rattle.go_text_core.specs.Rules.{rule_number}
use Rattle.go_text_core.specs.declared.rule.Rule.{Rule}
use Rattle.go_text_core.specs.declared.rule.Rule.TheVariants.{L1, L2, L3, P1, P2, K2, K3, K4, I1, I2, I3, I4, I5, I6, I7, B1, B2, B3, B4, B5, B6, N1, N2, N3, N4, N5, N6, N7, N8, N9, S1, S2, S3, S4, S5, S6, S7, S8, F1, F2, F3, F4, F5, F6, F7, F8, C1, C2, C3, C4, Y1, Y2, Y3, Y4, Y5, Y6, Y7, Y8, X1, Q1, Q2, Q3, Q4, O1, O2, O3, O4, O5, E1, E2, E3, E4, E5, H1, H2, Z1, M0, J1, J2, J3, V1, V2, V3, V4}
use Rattle.go_explain_core.specs.Naming.{all_rules, named, rule_of_number, small}

pub names_each : (r : Rule) → rule_of_number (rule_number r) ≡ Some r
names_each L1 = refl
names_each L2 = refl
names_each L3 = refl
names_each P1 = refl
names_each P2 = refl
names_each K2 = refl
names_each K3 = refl
names_each K4 = refl
names_each I1 = refl
names_each I2 = refl
names_each I3 = refl
names_each I4 = refl
names_each I5 = refl
names_each I6 = refl
names_each I7 = refl
names_each B1 = refl
names_each B2 = refl
names_each B3 = refl
names_each B4 = refl
names_each B5 = refl
names_each B6 = refl
names_each N1 = refl
names_each N2 = refl
names_each N3 = refl
names_each N4 = refl
names_each N5 = refl
names_each N6 = refl
names_each N7 = refl
names_each N8 = refl
names_each N9 = refl
names_each S1 = refl
names_each S2 = refl
names_each S3 = refl
names_each S4 = refl
names_each S5 = refl
names_each S6 = refl
names_each S7 = refl
names_each S8 = refl
names_each F1 = refl
names_each F2 = refl
names_each F3 = refl
names_each F4 = refl
names_each F5 = refl
names_each F6 = refl
names_each F7 = refl
names_each F8 = refl
names_each C1 = refl
names_each C2 = refl
names_each C3 = refl
names_each C4 = refl
names_each Y1 = refl
names_each Y2 = refl
names_each Y3 = refl
names_each Y4 = refl
names_each Y5 = refl
names_each Y6 = refl
names_each Y7 = refl
names_each Y8 = refl
names_each X1 = refl
names_each Q1 = refl
names_each Q2 = refl
names_each Q3 = refl
names_each Q4 = refl
names_each O1 = refl
names_each O2 = refl
names_each O3 = refl
names_each O4 = refl
names_each O5 = refl
names_each E1 = refl
names_each E2 = refl
names_each E3 = refl
names_each E4 = refl
names_each E5 = refl
names_each H1 = refl
names_each H2 = refl
names_each Z1 = refl
names_each M0 = refl
names_each J1 = refl
names_each J2 = refl
names_each J3 = refl
names_each V1 = refl
names_each V2 = refl
names_each V3 = refl
names_each V4 = refl

-- what is found passes the test
found : (p : Rule → Bool) (xs : List Rule) (r : Rule) → find p xs ≡ Some r → p r ≡ true
found p [] r e = absurd (cc)
found p (x ∷ xs) r e = by (p x) refl (found p xs r) e
  where
    by : (b : Bool) → p x ≡ b → (find p xs ≡ Some r → p r ≡ true) → cond b (Some x) (find p xs) ≡ Some r → p r ≡ true
    by true h later k = cc
    by false h later k = later k

pub names_no_other : (text : List ℕ) (r : Rule) → rule_of_number text ≡ Some r → small (rule_number r) ≡ small text
names_no_other text r e = (bytes_eq-Decides (small (rule_number r)) (small text)).0 (found (named text) all_rules r e)

-- a test that says whether two texts are alike is the one that says so
pub same_test : (b : Bool) (x y : List ℕ) → (b ≡ true → x ≡ y) → (x ≡ y → b ≡ true) → b ≡ bytes_eq x y
same_test b x y sound complete = by b (bytes_eq x y) refl refl
  where
    by : (a t : Bool) → b ≡ a → bytes_eq x y ≡ t → b ≡ bytes_eq x y
    by true true is test = is ∙ sym test
    by false false is test = is ∙ sym test
    by true false is test = let bad : true ≡ false = sym ((bytes_eq-Decides x y).1 (sound is)) ∙ test in absurd (cc)
    by false true is test = let bad : false ≡ true = sym is ∙ complete ((bytes_eq-Decides x y).0 test) in absurd (cc)

pub names_none : (text : List ℕ) → rule_of_number text ≡ None → (r : Rule) → rule_number r ≢ text
names_none text none r same =
    let bad : None ≡ Some r = sym none ∙ ap rule_of_number (sym same) ∙ names_each r in absurd (cc)
