-- The samples of aliases are computed.
use Rattle.std.proofs.Common.{◌≡◌, List, [], ◌∷◌, Err, refl, sym, subst}
use Rattle.go_tree_nodes.specs.text_core.declared.rule.Rule.TheVariants.{P1}
use Rattle.go_tree_nodes.specs.token_core.declared.kind.Keyword.TheVariants as keyword
use Rattle.go_tree_nodes.specs.token_core.declared.kind.Operator.TheVariants as operator
use Rattle.go_tree_nodes.specs.Samples.{at}
use Rattle.go_tree_nodes.specs.Spelling.{mark, word}
use Rattle.go_tree_nodes.specs.Terminals.{Terminal}
use Rattle.go_parse_reader.specs.types.mirrors.Marks.{Grammar}
use Rattle.go_parse_core.specs.AliasSamples.{alias_before, IsNoFile, AliasesAreOfNames}
use Rattle.go_parse_core.specs.Refusing.{IsRuleOf}
use Rattle.go_parse_core.specs.mirrors.FileReading.{imports_go, decl_at, top_at, tops_go, file_at}
use Rattle.go_parse_core.proofs.Meanings.{grammar_means}

refused : (ts : List Terminal) → file_at 199 ts ≡ Err Grammar → IsNoFile ts
refused ts e = record { no_tree = grammar_means 199 ts e; rule = subst (λ r. IsRuleOf r P1) (sym e) refl }

pointer : (ts : List Terminal) → file_at 199 (alias_before (mark operator.Star (at 6) ∷ ts)) ≡ Err Grammar
unfolding imports_go decl_at top_at tops_go file_at
pointer ts = refl

parentheses : (ts : List Terminal) → file_at 199 (alias_before (mark operator.OpenParen (at 6) ∷ ts)) ≡ Err Grammar
unfolding imports_go decl_at top_at tops_go file_at
parentheses ts = refl

struct_type : (ts : List Terminal) → file_at 199 (alias_before (word keyword.Struct (at 6) ∷ ts)) ≡ Err Grammar
unfolding imports_go decl_at top_at tops_go file_at
struct_type ts = refl

interface_type : (ts : List Terminal) → file_at 199 (alias_before (word keyword.Interface (at 6) ∷ ts)) ≡ Err Grammar
unfolding imports_go decl_at top_at tops_go file_at
interface_type ts = refl

nothing : file_at 199 (alias_before (mark operator.Semicolon (at 6) ∷ [])) ≡ Err Grammar
unfolding imports_go decl_at top_at tops_go file_at
nothing = refl

pub aliases_are_of_names : AliasesAreOfNames
aliases_are_of_names = record {
  one = record { wf = (tt, ((tt, tt), tt)); spelled = refl };
  group = record { wf = (tt, (((tt, tt), tt, ((tt, tt), tt, tt)), tt)); spelled = refl };
  pointer = λ ts. refused _ (pointer ts);
  parentheses = λ ts. refused _ (parentheses ts);
  struct_type = λ ts. refused _ (struct_type ts);
  interface_type = λ ts. refused _ (interface_type ts);
  nothing = refused _ nothing;
}
