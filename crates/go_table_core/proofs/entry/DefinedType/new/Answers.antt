use Rattle.std.proofs.Common.{map, sym, ap, subst, ◌∙◌}
use Rattle.std.specs.Prelude.{IfSome}
use Rattle.std.specs.Arc.{arc_value}
use Rattle.go_collections_core.specs.spelling_index.Spelled.{AreSpelled, places_of}
use Rattle.go_table_core.specs.Shown.{member_shown}
use Rattle.go_table_core.specs.mirrors.Spots.{spells_some}
use Rattle.go_table_core.specs.Methods.{term_fields}
use Rattle.go_table_core.proofs.Spelled.{hides_none}
use Rattle.go_table_core.proofs.Listing.{members_are}
use Rattle.go_table_core.proofs.entry.DefinedType.new.Goals as goal

pub invariant_of-result : goal.invariant_of-result
invariant_of-result c = record {
  hiding = λ off.
      hides_none c.args.key.path (map member_shown c.args.methods.items) (arc_value c.args.underlying)
      (sym (c.in_ok-hides.ensures
      ∙ (ap (λ l. spells_some (map member_shown l) (term_fields c.deref.result.now)) c.as_slice.ensures.value
      ∙ ap (λ t. spells_some (map member_shown c.args.methods.items) (term_fields t)) c.deref.ensures)) ∙ off);
  spelled = subst (λ names. IfSome c.in_ok-spellings.spellings (λ s. AreSpelled (places_of s) names)) (ap (map (λ m. m.name)) c.as_slice-2.ensures.value ∙ members_are c.args.methods.items) c.in_ok-spellings.ensures;
}
