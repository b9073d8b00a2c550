-- `_` has no declaration in place of an identifier.
use Rattle.std.proofs.Common.{◌≡◌, ℕ, Bool, true, false, List, Option, Some, None, sym, refl, ap, ◌∙◌, if◌then◌else◌}
use Rattle.go_site_core.specs.text_core.Text.{is_blank}
use Rattle.go_site_core.specs.text_core.declared.rule.Rule.TheVariants.{F1, F5, F8, N8, S4, S8}
use Rattle.go_term_core.specs.Terms.{Term, Sign}
use Rattle.go_cursor_core.specs.operand_core.Values.{default_type}
use Rattle.go_cursor_core.specs.denote_core.declared.things.Answer.{Answer}
use Rattle.go_cursor_core.specs.denote_core.declared.things.Dot.TheVariants as dots
use Rattle.go_cursor_core.specs.denote_core.Answers.{refused, found_answer}
use Rattle.go_cursor_core.specs.denote_core.Selectors.{exported_answer, value_selector}
use Rattle.go_stmt_core.specs.expr_core.Looks.{literals_at, look_of_place}
use Rattle.go_stmt_core.specs.expr_core.Uses.{Context, NameAt, SelectorBehind, KeyAmong, rule}
use Rattle.go_cursor_core.specs.denote_core.CompositeKeys.{refused_key, named_key, key_answer}
use Rattle.go_cursor_core.specs.denote_core.CompositeLiterals.{is_struct}
use Rattle.go_cursor_core.specs.denote_core.CompositeRepeats.{has_name}
use Rattle.go_query_core.specs.candidate_core.ContextLaws.{is_declared}
use Rattle.go_site_core.specs.handle_core.Declarations.{Declaration}
use Rattle.go_value_core.specs.env_core.Looks.{TheLooks}
use Rattle.go_query_core.specs.body_core.FunctionStands.{looks_where}
use Rattle.go_query_core.specs.complete_core.PlaceCompletions.{context_at, stand_of}
use Rattle.go_answer_laws.specs.completions.Laws.{BlankNeverFits}

abbrev TheAnswer : Type 0
TheAnswer = Answer Term Sign Declaration (List ℕ)

module _ (looks : TheLooks) (s : ℕ) (m : List ℕ) (blank : is_blank m ≡ true) where
  dot_refused : (a b : TheAnswer) → is_declared a.outcome ≡ false → is_declared (if is_blank m then a else b).outcome ≡ false
  dot_refused a b h = ap (λ t. is_declared (if t then a else b).outcome) blank ∙ h

  key_refused : (t : Option Term) (mixed repeated : Bool) → is_declared (key_answer (literals_at looks s) t mixed repeated m).outcome ≡ false
  key_refused None mixed repeated = refl
  key_refused (Some t) mixed repeated = by (is_struct ((literals_at looks s).types.form t)) mixed
    where
      by : (form mixed : Bool)
          → is_declared (if form then (if mixed then refused_key F5 else (if is_blank m then refused_key F1 else named_key (literals_at looks s) t repeated m)) else refused_key F8).outcome ≡ false
      by false mixed = refl
      by true true = refl
      by true false = ap (λ b. is_declared (if b then refused_key F1 else named_key (literals_at looks s) t repeated m).outcome) blank

  blank_refused : (c : Context Term Declaration) → is_declared (rule looks c s m) ≡ false
  blank_refused (NameAt p) = dot_refused (refused N8) (found_answer p ((look_of_place looks s).names.find m)) refl
  blank_refused (SelectorBehind u (dots.«Package» d)) = dot_refused (refused S8) (exported_answer u ((look_of_place looks s).names.exported d m)) refl
  blank_refused (SelectorBehind u dots.Refused) = refl
  blank_refused (SelectorBehind u dots.Untyped) = dot_refused (refused S8) (refused S4) refl
  blank_refused (SelectorBehind u (dots.«Value» v)) =
      dot_refused (refused S8) (value_selector (look_of_place looks s) u v.addressable (default_type (look_of_place looks s).types v.value_type) m) refl
  blank_refused (KeyAmong k) = key_refused k.literal_type k.is_mixed (has_name m k.others)

pub blank_never_fits : BlankNeverFits
blank_never_fits p n f u found name blank are there =
    let st = stand_of p are.made n f in
    let fits = (are.are.each name).0 there in
    let none = blank_refused (looks_where st are.names) u.used.ident.span.start name blank (context_at st are.names u.used) in
    let both : true ≡ false = sym fits ∙ none in
    absurd (cc)
