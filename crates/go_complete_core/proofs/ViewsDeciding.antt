-- An identifier stands in the same context to look-ups that have the same of near things, and its context's rule says the same.
use Rattle.std.proofs.Common.{◌≡◌, ℕ, true, List, refl}
use Rattle.go_tree_nodes.specs.declared.usage.Usage.TheVariants as usages
use Rattle.go_cursor_core.specs.denote_core.declared.things.Stand.TheVariants as stands
use Rattle.go_cursor_core.specs.denote_core.Selectors.{dot_of}
use Rattle.go_cursor_core.specs.denote_core.CompositeRepeats.{has_name}
use Rattle.go_stmt_core.specs.expr_core.Looks.{Looks}
use Rattle.go_stmt_core.specs.expr_core.Places.{is_name}
use Rattle.go_stmt_core.specs.expr_core.Denoting.{denoted, ident_answer}
use Rattle.go_stmt_core.specs.expr_core.Elements.{is_mixed, key_context, keys_of}
use Rattle.go_stmt_core.specs.expr_core.Uses.{SelectorBehind, KeyAmong, rule}
use Rattle.go_snap_core.specs.near.Near.{NearRest, IfAny}
use Rattle.go_snap_core.specs.near.Looks.{AreClosed, LooksAgree}
use Rattle.go_snap_core.proofs.NearClosing.{dot_near}
use Rattle.go_snap_core.proofs.NearAgreeing.{key_same, name_same, selector_same}
use Rattle.go_snap_core.proofs.NearExpressions.{denoted_near, denoted_same, ident_near, ident_same, named_near, named_same, written_near, written_same}
use Rattle.go_cursor_core.specs.Used.{LiteralType, OfName, OfWritten, SpotTree, NameSpot, BehindSpot, BehindNameSpot, KeySpot}
use Rattle.go_cursor_core.specs.Contexts.{context_of_spot, other_keys, type_of_literal}

module _ {T S D P : Type 0} (Near : T → Type 0) (Rest : NearRest S D) (looks others : Looks T S D P) (law : AreClosed Near Rest looks) (agree : LooksAgree Near Rest looks others) where
  literal_near : (l : LiteralType) → IfAny Near (type_of_literal looks l)
  literal_near (OfName n) = named_near Near Rest looks others law agree n
  literal_near (OfWritten t) = written_near Near Rest looks others law agree t

  literal_same : (l : LiteralType) → type_of_literal looks l ≡ type_of_literal others l
  literal_same (OfName n) = named_same Near Rest looks others law agree n
  literal_same (OfWritten t) = written_same Near Rest looks others law agree t

  pub context_same : (s : SpotTree) → context_of_spot looks s ≡ context_of_spot others s
  context_same (NameSpot p) = refl
  context_same (BehindSpot u p e) = λ j. SelectorBehind u (dot_of (is_name e) (denoted_same Near Rest looks others law agree p e j))
  context_same (BehindNameSpot x) = λ j. SelectorBehind usages.«Type» (dot_of true (ident_same Near Rest looks others law agree stands.TypeDot x j).denoted)
  context_same (KeySpot l items n) = λ j. KeyAmong (key_context (literal_same l j) (is_mixed (keys_of items)) (other_keys n items))

  pub rule_same : (s : SpotTree) (offset : ℕ) (name : List ℕ) → rule looks (context_of_spot looks s) offset name ≡ rule others (context_of_spot looks s) offset name
  rule_same (NameSpot p) offset name = λ j. (name_same Near Rest looks others law agree offset p name j).outcome
  rule_same (BehindSpot u p e) offset name =
      let near = dot_near Near Rest looks law (is_name e) (denoted looks p e) (denoted_near Near Rest looks others law agree p e) in
      λ j. (selector_same Near Rest looks others law agree offset u (dot_of (is_name e) (denoted looks p e)) name near j).outcome
  rule_same (BehindNameSpot x) offset name =
      let near = dot_near Near Rest looks law true (ident_answer looks stands.TypeDot x).denoted (ident_near Near Rest looks others law agree stands.TypeDot x) in
      λ j. (selector_same Near Rest looks others law agree offset usages.«Type» (dot_of true (ident_answer looks stands.TypeDot x).denoted) name near j).outcome
  rule_same (KeySpot l items n) offset name =
      λ j. (key_same Near Rest looks others law agree offset (type_of_literal looks l) (is_mixed (keys_of items)) (has_name name (other_keys n items)) name (literal_near l) j).outcome
