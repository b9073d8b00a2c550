-- What reading specifications gives, in the words of the program.
use Rattle.std.proofs.Common.{◌≡◌, ℕ, ◌≤◌, List, length, Option, Ok, sym, ap, ◌∙◌}
use Rattle.go_tree_nodes.specs.text_core.declared.span.Span.{Span}
use Rattle.go_tree_nodes.specs.token_core.declared.kind.Operator.TheVariants as operator
use Rattle.go_tree_nodes.specs.declared.names.Ident.{Ident}
use Rattle.go_tree_nodes.specs.declared.decls.ValueKind.{ValueKind}
use Rattle.go_tree_nodes.specs.Terminals.{Terminal}
use Rattle.go_tree_nodes.specs.Trees.{TypeTree, ValueSpecTree, TypeSpecTree}
use Rattle.go_tree_nodes.specs.Spelling.{spell_value_spec, spell_type_spec}
use Rattle.go_tree_nodes.specs.Rules.{Wf_value_spec, Wf_type_spec}
use Rattle.go_tree_nodes.specs.Heights.{value_spec_height, type_spec_height}
use Rattle.go_parse_reader.specs.declared.types.stop.Stop.{Stop}
use Rattle.go_parse_reader.specs.types.mirrors.Giving.{Fails}
use Rattle.go_parse_reader.specs.types.mirrors.Marks.{◌>>=◌, need, name_at, some_mark}
use Rattle.go_parse_reader.proofs.TypesCodeSteps.{fails_along}
use Rattle.go_parse_core.specs.stmts.mirrors.StmtReading.{value_spec_at, type_spec, spec_type_at, type_spec_from, type_spec_at}
use Rattle.go_parse_core.proofs.StmtsSpecs.{reads_no_longer}
use Rattle.go_parse_core.proofs.StmtsValues.{value_spec_sound, type_spec_sound}

-- no specification leaves more than it was given
pub value_spec_shorter : (b : ℕ) (kind : ValueKind) (ts after : List Terminal) (x : ValueSpecTree) → value_spec_at b kind ts ≡ Ok (x, after) → length after ≤ length ts
value_spec_shorter b kind ts after x e =
    reads_no_longer ValueSpecTree spell_value_spec value_spec_height (Wf_value_spec kind) b ts (x, after) (value_spec_sound b kind ts (x, after) e)

pub type_spec_shorter : (b : ℕ) (ts after : List Terminal) (x : TypeSpecTree) → type_spec_at b ts ≡ Ok (x, after) → length after ≤ length ts
type_spec_shorter b ts after x e =
    reads_no_longer TypeSpecTree spell_type_spec type_spec_height Wf_type_spec b ts (x, after) (type_spec_sound b ts (x, after) e)

-- the specification of a type, from its parts
pub type_spec_is : (b : ℕ) (ts behind rest after : List Terminal) (x : Ident) (alias : Option Span) (t : TypeTree) → need (name_at ts) ≡ Ok (x, behind) → (alias, rest) ≡ some_mark operator.Assign behind → spec_type_at b alias rest ≡ Ok (t, after) → type_spec_at b ts ≡ Ok (type_spec x alias t, after)
type_spec_is b ts behind rest after x alias t named marked found =
    ap (λ r. r >>= λ (x : Ident × List Terminal). type_spec_from b x.0 (some_mark operator.Assign x.1)) named
    ∙ ap (type_spec_from b x) (sym marked)
    ∙ ap (λ r. r >>= λ (t : TypeTree × List Terminal). Ok (type_spec x alias t.0, t.1)) found

pub type_spec_fails : (b : ℕ) (ts behind rest : List Terminal) (x : Ident) (alias : Option Span) (e : Stop) → need (name_at ts) ≡ Ok (x, behind) → (alias, rest) ≡ some_mark operator.Assign behind → Fails e (spec_type_at b alias rest) → Fails e (type_spec_at b ts)
type_spec_fails b ts behind rest x alias e named marked failed =
    fails_along (spec_type_at b alias rest) (type_spec_at b ts) e
    (λ f g. ap (λ r. r >>= λ (x : Ident × List Terminal). type_spec_from b x.0 (some_mark operator.Assign x.1)) named ∙ ap (type_spec_from b x) (sym marked) ∙ ap (λ r. r >>= λ (t : TypeTree × List Terminal). Ok (type_spec x alias t.0, t.1)) g) failed
