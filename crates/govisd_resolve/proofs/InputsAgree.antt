-- Bytes are one input.
use Rattle.std.proofs.Common.{◌≡◌, ◌≤◌, ◌<◌, ℕ, List, ap, refl, subst, ◌∙◌, arith, Ok}
use Rattle.go_path_core.specs.text_core.declared.rule.Rule.TheVariants.{P1, P2}
use Rattle.go_tree_nodes.specs.token_core.declared.token.Token.{Token}
use Rattle.go_scan_core.proofs.Answered.{one_fault, not_both as not_scanned}
use Rattle.go_scan_core.specs.Tokens.{IsAnswer}
use Rattle.go_tree_nodes.specs.Trees.{FileTree}
use Rattle.go_parse_core.specs.Refusing.{HasOneRule, IsRuleRead}
use Rattle.go_parse_core.specs.Correct.{HasOneTree}
use Rattle.go_block_core.specs.graph_core.Packages.{blank}
use Rattle.go_package_core.specs.package_part.Parts.{FileOf}
use Rattle.govisd_resolve.specs.Alone.{StandsInFile}
use Rattle.govisd_resolve.specs.Reports.{TooLong, NoText, BadToken, NoTree, TooHigh, NoName, AFile, IsFile, OneInput, max_bytes}

-- one thing stands in a file
abbrev pub OneFound : Type 0
OneFound = (bytes : List ℕ) (f : FileTree) (x y : FileOf) → IsFile bytes f → StandsInFile bytes f x → StandsInFile bytes f y → x ≡ y

not_both : {A : Type 0} (n : ℕ) → max_bytes < n → n ≤ max_bytes → A
not_both n more few = absurd (omega arith)

-- not both rules
not_both_rules : HasOneRule → (bytes : List ℕ) (tokens : List Token) → IsAnswer bytes (Ok tokens) → IsRuleRead bytes P1 → IsRuleRead bytes P2 → ⊥
not_both_rules rule bytes tokens scanned p q = (let same : P1 ≡ P2 = rule bytes tokens scanned P1 P2 p q in cc)

pub inputs_agree : HasOneTree → HasOneRule → OneFound → OneInput
inputs_agree one rule same bytes TooLong TooLong a b = refl
inputs_agree one rule same bytes TooLong NoText a b = not_both _ a b.0
inputs_agree one rule same bytes TooLong (BadToken g) a b = not_both _ a b.0.size
inputs_agree one rule same bytes TooLong (NoTree p) a b = not_both _ a b.0.text.size
inputs_agree one rule same bytes TooLong (TooHigh p) a b = not_both _ a b.0.text.size
inputs_agree one rule same bytes TooLong (NoName g) a b = not_both _ a b.0.text.size
inputs_agree one rule same bytes TooLong (AFile g n) a b = not_both _ a b.0.text.size
inputs_agree one rule same bytes NoText TooLong a b = not_both _ b a.0
inputs_agree one rule same bytes NoText NoText a b = refl
inputs_agree one rule same bytes NoText (BadToken g) a b = absurd (a.1 b.0.utf8)
inputs_agree one rule same bytes NoText (NoTree p) a b = absurd (a.1 b.0.text.utf8)
inputs_agree one rule same bytes NoText (TooHigh p) a b = absurd (a.1 b.0.text.utf8)
inputs_agree one rule same bytes NoText (NoName g) a b = absurd (a.1 b.0.text.utf8)
inputs_agree one rule same bytes NoText (AFile g n) a b = absurd (a.1 b.0.text.utf8)
inputs_agree one rule same bytes (BadToken f) TooLong a b = not_both _ b a.0.size
inputs_agree one rule same bytes (BadToken f) NoText a b = absurd (b.1 a.0.utf8)
inputs_agree one rule same bytes (BadToken f) (BadToken g) a b = ap BadToken (one_fault bytes f g a.1 b.1)
inputs_agree one rule same bytes (BadToken f) (NoTree p) a b = absurd (not_scanned bytes b.0.tokens _ b.0.scanned a.1)
inputs_agree one rule same bytes (BadToken f) (TooHigh p) a b = absurd (not_scanned bytes b.0.tokens _ b.0.scanned a.1)
inputs_agree one rule same bytes (BadToken f) (NoName g) a b = absurd (not_scanned bytes b.0.parse.found.tokens _ b.0.parse.found.scanned a.1)
inputs_agree one rule same bytes (BadToken f) (AFile g n) a b = absurd (not_scanned bytes b.0.parse.found.tokens _ b.0.parse.found.scanned a.1)
inputs_agree one rule same bytes (NoTree o) TooLong a b = not_both _ b a.0.text.size
inputs_agree one rule same bytes (NoTree o) NoText a b = absurd (b.1 a.0.text.utf8)
inputs_agree one rule same bytes (NoTree o) (BadToken g) a b = absurd (not_scanned bytes a.0.tokens _ a.0.scanned b.1)
inputs_agree one rule same bytes (NoTree o) (NoTree p) a b = refl
inputs_agree one rule same bytes (NoTree o) (TooHigh p) a b = absurd (not_both_rules rule bytes a.0.tokens a.0.scanned a.2 b.2)
inputs_agree one rule same bytes (NoTree o) (NoName g) a b = absurd (a.1 g b.0.parse.found)
inputs_agree one rule same bytes (NoTree o) (AFile g n) a b = absurd (a.1 g b.0.parse.found)
inputs_agree one rule same bytes (TooHigh o) TooLong a b = not_both _ b a.0.text.size
inputs_agree one rule same bytes (TooHigh o) NoText a b = absurd (b.1 a.0.text.utf8)
inputs_agree one rule same bytes (TooHigh o) (BadToken g) a b = absurd (not_scanned bytes a.0.tokens _ a.0.scanned b.1)
inputs_agree one rule same bytes (TooHigh o) (NoTree p) a b = absurd (not_both_rules rule bytes a.0.tokens a.0.scanned b.2 a.2)
inputs_agree one rule same bytes (TooHigh o) (TooHigh p) a b = refl
inputs_agree one rule same bytes (TooHigh o) (NoName g) a b = absurd (a.1 g b.0.parse.found b.0.parse.low)
inputs_agree one rule same bytes (TooHigh o) (AFile g n) a b = absurd (a.1 g b.0.parse.found b.0.parse.low)
inputs_agree one rule same bytes (NoName f) TooLong a b = not_both _ b a.0.text.size
inputs_agree one rule same bytes (NoName f) NoText a b = absurd (b.1 a.0.text.utf8)
inputs_agree one rule same bytes (NoName f) (BadToken g) a b = absurd (not_scanned bytes a.0.parse.found.tokens _ a.0.parse.found.scanned b.1)
inputs_agree one rule same bytes (NoName f) (NoTree p) a b = absurd (b.1 f a.0.parse.found)
inputs_agree one rule same bytes (NoName f) (TooHigh p) a b = absurd (b.1 f a.0.parse.found a.0.parse.low)
inputs_agree one rule same bytes (NoName f) (NoName g) a b = ap NoName (one bytes f g a.0.parse.found b.0.parse.found)
inputs_agree one rule same bytes (NoName f) (AFile g n) a b = absurd (b.1 (subst (λ h. h.name.name ≡ blank) (one bytes f g a.0.parse.found b.0.parse.found) a.1))
inputs_agree one rule same bytes (AFile f m) TooLong a b = not_both _ b a.0.text.size
inputs_agree one rule same bytes (AFile f m) NoText a b = absurd (b.1 a.0.text.utf8)
inputs_agree one rule same bytes (AFile f m) (BadToken g) a b = absurd (not_scanned bytes a.0.parse.found.tokens _ a.0.parse.found.scanned b.1)
inputs_agree one rule same bytes (AFile f m) (NoTree p) a b = absurd (b.1 f a.0.parse.found)
inputs_agree one rule same bytes (AFile f m) (TooHigh p) a b = absurd (b.1 f a.0.parse.found a.0.parse.low)
inputs_agree one rule same bytes (AFile f m) (NoName g) a b = absurd (a.1 (subst (λ h. h.name.name ≡ blank) (one bytes g f b.0.parse.found a.0.parse.found) b.1))
inputs_agree one rule same bytes (AFile f m) (AFile g n) a b =
    let tree = one bytes f g a.0.parse.found b.0.parse.found in
    ap (λ h. AFile h m) tree ∙ ap (AFile g) (same bytes g m n b.0 (subst (λ h. StandsInFile bytes h m) tree a.2) b.2)
