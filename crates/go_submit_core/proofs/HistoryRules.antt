-- Rules that are found equal are one.
use Rattle.std.proofs.Common.{◌≡◌, ℕ, Bool, true, cond, List, [], ◌∷◌, Some, refl, sym, ap, ◌∙◌}
use Rattle.std.specs.Prelude.{find}
use Rattle.std.specs.Cmp.{per_alike}
use Rattle.go_path_core.specs.text_core.declared.rule.Rule.{Rule}
use Rattle.go_path_core.specs.text_core.declared.rule.Rule.TheVariants.{L1, L2, L3, P1, P2, K2, K3, K4, I1, I2, I3, I4, I5, I6, I7, B1, B2, B3, B4, B5, B6, N1, N2, N3, N4, N5, N6, N7, N8, N9, S1, S2, S3, S4, S5, S6, S7, S8, F1, F2, F3, F4, F5, F6, F7, F8, C1, C2, C3, C4, Y1, Y2, Y3, Y4, Y5, Y6, Y7, Y8, X1, Q1, Q2, Q3, Q4, O1, O2, O3, O4, O5, E1, E2, E3, E4, E5, H1, H2, Z1, M0, J1, J2, J3, V1, V2, V3, V4}
use Rattle.go_path_core.specs.text_core.contracts.rule.RulePartialEq.TheImpl as rule_eq
use Rattle.go_path_core.specs.text_core.contracts.rule.RulePartialEq.TheImpl.Laws as laws
use Rattle.go_snap_core.specs.declared.fault.PlacedFault.{PlacedFault}

abbrev equal : Rule → Rule → Bool
equal r s = (rule_eq.ghosts).eq r s

abbrev all_rules : List Rule
all_rules =
    L1 ∷ L2 ∷ L3 ∷ P1 ∷ P2 ∷ K2 ∷ K3 ∷ K4 ∷ I1 ∷ I2 ∷ I3 ∷ I4 ∷ I5 ∷ I6 ∷
    I7 ∷ B1 ∷ B2 ∷ B3 ∷ B4 ∷ B5 ∷ B6 ∷ N1 ∷ N2 ∷ N3 ∷ N4 ∷ N5 ∷ N6 ∷ N7 ∷
    N8 ∷ N9 ∷ S1 ∷ S2 ∷ S3 ∷ S4 ∷ S5 ∷ S6 ∷ S7 ∷ S8 ∷ F1 ∷ F2 ∷ F3 ∷ F4 ∷
    F5 ∷ F6 ∷ F7 ∷ F8 ∷ C1 ∷ C2 ∷ C3 ∷ C4 ∷ Y1 ∷ Y2 ∷ Y3 ∷ Y4 ∷ Y5 ∷ Y6 ∷
    Y7 ∷ Y8 ∷ X1 ∷ Q1 ∷ Q2 ∷ Q3 ∷ Q4 ∷ O1 ∷ O2 ∷ O3 ∷ O4 ∷ O5 ∷ E1 ∷ E2 ∷
    E3 ∷ E4 ∷ E5 ∷ H1 ∷ H2 ∷ Z1 ∷ M0 ∷ J1 ∷ J2 ∷ J3 ∷ V1 ∷ V2 ∷ V3 ∷ V4 ∷ []

found : (r : Rule) → find (equal r) all_rules ≡ Some r
found L1 = refl
found L2 = refl
found L3 = refl
found P1 = refl
found P2 = refl
found K2 = refl
found K3 = refl
found K4 = refl
found I1 = refl
found I2 = refl
found I3 = refl
found I4 = refl
found I5 = refl
found I6 = refl
found I7 = refl
found B1 = refl
found B2 = refl
found B3 = refl
found B4 = refl
found B5 = refl
found B6 = refl
found N1 = refl
found N2 = refl
found N3 = refl
found N4 = refl
found N5 = refl
found N6 = refl
found N7 = refl
found N8 = refl
found N9 = refl
found S1 = refl
found S2 = refl
found S3 = refl
found S4 = refl
found S5 = refl
found S6 = refl
found S7 = refl
found S8 = refl
found F1 = refl
found F2 = refl
found F3 = refl
found F4 = refl
found F5 = refl
found F6 = refl
found F7 = refl
found F8 = refl
found C1 = refl
found C2 = refl
found C3 = refl
found C4 = refl
found Y1 = refl
found Y2 = refl
found Y3 = refl
found Y4 = refl
found Y5 = refl
found Y6 = refl
found Y7 = refl
found Y8 = refl
found X1 = refl
found Q1 = refl
found Q2 = refl
found Q3 = refl
found Q4 = refl
found O1 = refl
found O2 = refl
found O3 = refl
found O4 = refl
found O5 = refl
found E1 = refl
found E2 = refl
found E3 = refl
found E4 = refl
found E5 = refl
found H1 = refl
found H2 = refl
found Z1 = refl
found M0 = refl
found J1 = refl
found J2 = refl
found J3 = refl
found V1 = refl
found V2 = refl
found V3 = refl
found V4 = refl

find_alike : (p q : Rule → Bool) → ((r : Rule) → p r ≡ q r) → (rs : List Rule) → find p rs ≡ find q rs
find_alike p q alike [] = refl
find_alike p q alike (r ∷ rs) = ap (λ b. cond b (Some r) (find p rs)) (alike r) ∙ ap (λ o. cond (q r) (Some r) o) (find_alike p q alike rs)

the_same : {A : Type 0} (a b : A) → Some a ≡ Some b → a ≡ b
the_same a b e = cc

pub rule_means : (r s : Rule) → (rule_eq.ghosts).eq r s ≡ true → r ≡ s
rule_means r s e = the_same r s (sym (found r) ∙ (find_alike (equal r) (equal s) (λ x. per_alike laws.laws-law r s x e) all_rules ∙ found s))

abbrev fault : ℕ → ℕ → ℕ → Rule → PlacedFault
fault number file offset rule = record { «package» = number; file = file; offset = offset; rule = rule }

pub same_fault : (f g : PlacedFault) → f.«package» ≡ g.«package» → f.file ≡ g.file → f.offset ≡ g.offset → f.rule ≡ g.rule → f ≡ g
same_fault f g packages files offsets rules =
    ap (λ n. fault n f.file f.offset f.rule) packages
    ∙ (ap (λ n. fault g.«package» n f.offset f.rule) files
    ∙ (ap (λ n. fault g.«package» g.file n f.rule) offsets ∙ ap (λ r. fault g.«package» g.file g.offset r) rules))
