use Rattle.std.proofs.Common.{◌∙◌}
use Rattle.go_term_core.specs.Shapes.{sign_of}
use Rattle.go_collections_core.specs.spelling_index.Spelled.{places_of}
use Rattle.go_embed_core.specs.declared.indexed.Place.TheVariants as places
use Rattle.go_embed_core.specs.Owners.{AMethodOf}
use Rattle.go_embed_core.proofs.Placing.{placed}
use Rattle.go_embed_core.proofs.indexed.indexed_methods.Goals as goal

pub returns-in-Nothing : goal.returns-in-Nothing
returns-in-Nothing c = placed (λ m. m.name) (λ m. AMethodOf c.args.path.now m.place m.pointer (sign_of m.signature)) c.args.path.now c.args.name.now c.args.from.now c.args.methods.now (places_of c.args.index.now) c.requires places.Nothing c.in-Nothing.ensures

pub returns-in-One : goal.returns-in-One
returns-in-One c = c.method_at.ensures ∙ placed (λ m. m.name) (λ m. AMethodOf c.args.path.now m.place m.pointer (sign_of m.signature)) c.args.path.now c.args.name.now c.args.from.now c.args.methods.now (places_of c.args.index.now) c.requires (places.One c.in-One.at) c.in-One.ensures

pub returns-in-More : goal.returns-in-More
returns-in-More c = placed (λ m. m.name) (λ m. AMethodOf c.args.path.now m.place m.pointer (sign_of m.signature)) c.args.path.now c.args.name.now c.args.from.now c.args.methods.now (places_of c.args.index.now) c.requires places.More c.in-More.ensures
