-- Signatures are over the same among two tables that have the same of the types that they mention.
use Rattle.std.proofs.Common.{◌≡◌, ℕ, List, [], ◌∷◌, Option, Some, None, sym, ap, subst, ◌∙◌}
use Rattle.go_term_core.specs.decl_core.declared.keys.DeclKey.{DeclKey}
use Rattle.go_term_core.specs.Terms.{Term, Sign, SignOf}
use Rattle.go_body_core.specs.table_core.Entries.{Entry, find_entry}
use Rattle.go_report_core.specs.operand_core.Values.{form_basic}
use Rattle.go_meaning_laws.specs.handle_core.DecidingRules.{all_typed, form_under, param_types_of, term_rules}
use Rattle.go_object_core.specs.declared.instructions.letters.Word.{Word}
use Rattle.go_body_core.specs.stmt_core.StatementLocality.{Each}
use Rattle.go_snap_core.specs.near.Near.{IfAny}
use Rattle.go_workspace_laws.proofs.Terms.{IsSignIn, IsTermIn}
use Rattle.go_workspace_laws.specs.folding.Reading.{IsOver}
use Rattle.go_program_laws.proofs.FaultlessScenes.{all_in, all_same, under_same}
use Rattle.go_program_laws.specs.checked_sources.Statements.{AreOverEach}

module _ (Inside : List ℕ → Type 0) (es fs : List Entry) (same : (k : DeclKey) → Inside k.path → find_entry es k ≡ find_entry fs k) where
  module _ (p q : List ℕ) where
    over_same : (w : Word) (o : Option Term) → IfAny (IsTermIn Inside) o → IsOver (term_rules es p) w o → IsOver (term_rules fs q) w o
    over_same w None h k = k
    over_same w (Some t) h k = sym (ap (λ u. form_basic (form_under u)) (under_same Inside es fs same t h)) ∙ k

    each_over : (ws : List Word) (us : List (Option Term)) → Each (IfAny (IsTermIn Inside)) us → AreOverEach (term_rules es p) ws us → AreOverEach (term_rules fs q) ws us
    each_over [] [] h k = tt
    each_over [] (u ∷ us) h k = k
    each_over (w ∷ ws) [] h k = k
    each_over (w ∷ ws) (u ∷ us) h k = (over_same w u h.0 k.0, each_over ws us h.1 k.1)

    -- what a function takes
    pub params_same : (ws : List Word) (g : Sign) → IsSignIn Inside g → AreOverEach (term_rules es p) ws (param_types_of (find_entry es) g) → AreOverEach (term_rules fs q) ws (param_types_of (find_entry fs) g)
    params_same ws (SignOf ps rs) h k = subst (λ us. AreOverEach (term_rules fs q) ws us) (all_same Inside es fs same ps h.0) (each_over ws (all_typed (find_entry es) ps) (all_in Inside es fs same ps h.0) k)
