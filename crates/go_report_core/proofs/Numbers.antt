-- Two rules do not share a number.
use Rattle.std.proofs.Common.{◌≡◌, ℕ, Bool, true, false, List, [], ◌∷◌, Option, Some, None, cond, refl, sym, ap, ◌∙◌}
use Rattle.std.specs.Prelude.{nat_eq}
use Rattle.go_path_core.specs.text_core.declared.rule.Rule.{Rule}
use Rattle.go_path_core.specs.text_core.declared.rule.Rule.TheVariants.{L1, L2, L3, P1, P2, K2, K3, K4, I1, I2, I3, I4, I5, I6, I7, B1, B2, B3, B4, B5, B6, N1, N2, N3, N4, N5, N6, N7, N8, N9, S1, S2, S3, S4, S5, S6, S7, S8, F1, F2, F3, F4, F5, F6, F7, F8, C1, C2, C3, C4, Y1, Y2, Y3, Y4, Y5, Y6, Y7, Y8, X1, Q1, Q2, Q3, Q4, O1, O2, O3, O4, O5, E1, E2, E3, E4, E5, H1, H2, Z1, M0, J1, J2, J3, V1, V2, V3, V4}
use Rattle.go_path_core.specs.text_core.Rules.{rule_number}

abbrev same_codes : List ℕ → List ℕ → Bool
same_codes [] [] = true
same_codes [] (y ∷ ys) = false
same_codes (x ∷ xs) [] = false
same_codes (x ∷ xs) (y ∷ ys) = cond (nat_eq x y) (same_codes xs ys) false

-- the first of some rules that has the number
abbrev rule_of : List Rule → List ℕ → Option Rule
rule_of [] n = None
rule_of (r ∷ rs) n = cond (same_codes (rule_number r) n) (Some r) (rule_of rs n)

abbrev all_rules : List Rule
all_rules =
    L1 ∷ L2 ∷ L3 ∷ P1 ∷ P2 ∷ K2 ∷ K3 ∷ K4 ∷ I1 ∷ I2 ∷ I3 ∷ I4 ∷ I5 ∷ I6 ∷
    I7 ∷ B1 ∷ B2 ∷ B3 ∷ B4 ∷ B5 ∷ B6 ∷ N1 ∷ N2 ∷ N3 ∷ N4 ∷ N5 ∷ N6 ∷ N7 ∷
    N8 ∷ N9 ∷ S1 ∷ S2 ∷ S3 ∷ S4 ∷ S5 ∷ S6 ∷ S7 ∷ S8 ∷ F1 ∷ F2 ∷ F3 ∷ F4 ∷
    F5 ∷ F6 ∷ F7 ∷ F8 ∷ C1 ∷ C2 ∷ C3 ∷ C4 ∷ Y1 ∷ Y2 ∷ Y3 ∷ Y4 ∷ Y5 ∷ Y6 ∷
    Y7 ∷ Y8 ∷ X1 ∷ Q1 ∷ Q2 ∷ Q3 ∷ Q4 ∷ O1 ∷ O2 ∷ O3 ∷ O4 ∷ O5 ∷ E1 ∷ E2 ∷
    E3 ∷ E4 ∷ E5 ∷ H1 ∷ H2 ∷ Z1 ∷ M0 ∷ J1 ∷ J2 ∷ J3 ∷ V1 ∷ V2 ∷ V3 ∷ V4 ∷ []

numbered : (r : Rule) → rule_of all_rules (rule_number r) ≡ Some r
numbered L1 = refl
numbered L2 = refl
numbered L3 = refl
numbered P1 = refl
numbered P2 = refl
numbered K2 = refl
numbered K3 = refl
numbered K4 = refl
numbered I1 = refl
numbered I2 = refl
numbered I3 = refl
numbered I4 = refl
numbered I5 = refl
numbered I6 = refl
numbered I7 = refl
numbered B1 = refl
numbered B2 = refl
numbered B3 = refl
numbered B4 = refl
numbered B5 = refl
numbered B6 = refl
numbered N1 = refl
numbered N2 = refl
numbered N3 = refl
numbered N4 = refl
numbered N5 = refl
numbered N6 = refl
numbered N7 = refl
numbered N8 = refl
numbered N9 = refl
numbered S1 = refl
numbered S2 = refl
numbered S3 = refl
numbered S4 = refl
numbered S5 = refl
numbered S6 = refl
numbered S7 = refl
numbered S8 = refl
numbered F1 = refl
numbered F2 = refl
numbered F3 = refl
numbered F4 = refl
numbered F5 = refl
numbered F6 = refl
numbered F7 = refl
numbered F8 = refl
numbered C1 = refl
numbered C2 = refl
numbered C3 = refl
numbered C4 = refl
numbered Y1 = refl
numbered Y2 = refl
numbered Y3 = refl
numbered Y4 = refl
numbered Y5 = refl
numbered Y6 = refl
numbered Y7 = refl
numbered Y8 = refl
numbered X1 = refl
numbered Q1 = refl
numbered Q2 = refl
numbered Q3 = refl
numbered Q4 = refl
numbered O1 = refl
numbered O2 = refl
numbered O3 = refl
numbered O4 = refl
numbered O5 = refl
numbered E1 = refl
numbered E2 = refl
numbered E3 = refl
numbered E4 = refl
numbered E5 = refl
numbered H1 = refl
numbered H2 = refl
numbered Z1 = refl
numbered M0 = refl
numbered J1 = refl
numbered J2 = refl
numbered J3 = refl
numbered V1 = refl
numbered V2 = refl
numbered V3 = refl
numbered V4 = refl

the_same : {A : Type 0} (a b : A) → Some a ≡ Some b → a ≡ b
the_same a b e = cc

pub same_rule : (r s : Rule) → rule_number r ≡ rule_number s → r ≡ s
same_rule r s e = the_same r s (sym (numbered r) ∙ (ap (rule_of all_rules) e ∙ numbered s))
