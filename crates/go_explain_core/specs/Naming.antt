-- The rules by their names.
use Rattle.std.specs.Prelude.{ℕ, Bool, false, ◌==◌, List, [], ◌∷◌, Option, find, map, slice_index}
use Rattle.std.specs.Str.{bytes_eq}
use Rattle.std.specs.Char.{to_ascii_lowercase, to_ascii_uppercase}
use Rattle.go_text_core.specs.Rules.{rule_number}
use Rattle.go_text_core.specs.declared.rule.Rule.{Rule}
use Rattle.go_text_core.specs.declared.rule.Rule.TheVariants.{L1, L2, L3, P1, P2, K2, K3, K4, I1, I2, I3, I4, I5, I6, I7, B1, B2, B3, B4, B5, B6, N1, N2, N3, N4, N5, N6, N7, N8, N9, S1, S2, S3, S4, S5, S6, S7, S8, F1, F2, F3, F4, F5, F6, F7, F8, C1, C2, C3, C4, Y1, Y2, Y3, Y4, Y5, Y6, Y7, Y8, X1, Q1, Q2, Q3, Q4, O1, O2, O3, O4, O5, E1, E2, E3, E4, E5, H1, H2, Z1, M0, J1, J2, J3, V1, V2, V3, V4}

-- all rules, in order
abbrev pub all_rules : List Rule
all_rules = L1 ∷ L2 ∷ L3 ∷ P1 ∷ P2 ∷ K2 ∷ K3 ∷ K4 ∷ I1 ∷ I2 ∷ I3 ∷ I4 ∷ I5 ∷ I6 ∷ I7 ∷ B1 ∷ B2 ∷ B3 ∷ B4 ∷ B5 ∷ B6 ∷ N1 ∷ N2 ∷ N3 ∷ N4 ∷ N5 ∷ N6 ∷ N7 ∷ N8 ∷ N9 ∷ S1 ∷ S2 ∷ S3 ∷ S4 ∷ S5 ∷ S6 ∷ S7 ∷ S8 ∷ F1 ∷ F2 ∷ F3 ∷ F4 ∷ F5 ∷ F6 ∷ F7 ∷ F8 ∷ C1 ∷ C2 ∷ C3 ∷ C4 ∷ Y1 ∷ Y2 ∷ Y3 ∷ Y4 ∷ Y5 ∷ Y6 ∷ Y7 ∷ Y8 ∷ X1 ∷ Q1 ∷ Q2 ∷ Q3 ∷ Q4 ∷ O1 ∷ O2 ∷ O3 ∷ O4 ∷ O5 ∷ E1 ∷ E2 ∷ E3 ∷ E4 ∷ E5 ∷ H1 ∷ H2 ∷ Z1 ∷ M0 ∷ J1 ∷ J2 ∷ J3 ∷ V1 ∷ V2 ∷ V3 ∷ V4 ∷ []

-- a text without regard to whether its letters are large or small
abbrev pub small : List ℕ → List ℕ
small text = map to_ascii_lowercase text

-- the text is the rule's number, its letter written large or small
abbrev pub named : List ℕ → Rule → Bool
named text rule = bytes_eq (small (rule_number rule)) (small text)

-- the rule whose number is the text
abbrev pub rule_of_number : List ℕ → Option Rule
rule_of_number text = find (named text) all_rules

-- the rule has the text's first letter, written large or small
abbrev pub near : List ℕ → Rule → Bool
near [] rule = false
near (b ∷ bs) rule = slice_index (rule_number rule) 0 == to_ascii_uppercase b
