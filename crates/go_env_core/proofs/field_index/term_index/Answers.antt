use Rattle.std.proofs.Common.{◌≡◌, map, ap, sym, subst, ◌∙◌}
use Rattle.std.specs.Prelude.{IfSome, Some, option_map}
use Rattle.go_term_core.specs.Shapes.{shape}
use Rattle.go_collections_core.specs.spelling_index.Spelled.{AreSpelled, places_of}
use Rattle.go_table_core.specs.Entries.{find_entry}
use Rattle.go_table_core.specs.Tables.{IsPlaceOf}
use Rattle.go_select_core.specs.embed_core.Owners.{OwnerModel, owner_in}
use Rattle.go_select_core.specs.embed_core.OwnersShown.{entry_owner}
use Rattle.go_env_core.specs.Fields.{TheField, owner_seen}
use Rattle.go_env_core.proofs.ByName.{found_owner}
use Rattle.go_env_core.proofs.field_index.term_index.Goals as goal

pub returns-in-Some : goal.returns-in-Some
returns-in-Some c s =
    let es = c.args.table.now in
    let k = c.in-Defined.key in
    let d = c.in-Some.located.defined.now in
    let place : IsPlaceOf es k c.in-Some.located.number = subst (λ o. IfSome o (λ l. IsPlaceOf es k l.number)) c.in-Some.is c.locate.ensures.number in
    let found : find_entry es k ≡ Some d = sym c.locate.ensures.entry ∙ ap (option_map (λ l. l.defined.now)) c.in-Some.is in
    let same : entry_owner d ≡ owner_in (find_entry es) (shape c.args.term.now) = found_owner es k c.in-Some.located.number d place found ∙ ap (owner_in (find_entry es)) (sym (ap shape c.in-Defined.is)) in
    subst (λ (o : OwnerModel). IfSome c.defined_index.result (λ index. AreSpelled (places_of index.now) (map (λ (f : TheField). f.name) (owner_seen s o)))) same
    (c.defined_index.ensures s)
