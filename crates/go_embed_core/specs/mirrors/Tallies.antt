-- The members that an identifier names, counted one after another.
use Rattle.std.specs.Prelude.{ℕ, Bool, List, [], ◌∷◌, if◌then◌else◌}
use Rattle.go_term_core.specs.declared.term.Field.{Field}
use Rattle.go_term_core.specs.declared.term.Method.{Method}
use Rattle.go_term_core.specs.Shapes.{Line, line_at, sign_of}
use Rattle.go_type_core.specs.table_core.declared.entry.DeclaredMethod.{DeclaredMethod}
use Rattle.go_type_core.specs.table_core.Entries.{same_id}
use Rattle.go_embed_core.specs.declared.member.Hits.{Hits}
use Rattle.go_embed_core.specs.declared.member.Hits.TheVariants as hits
use Rattle.go_embed_core.specs.Owners.{Found, AFieldOf, AMethodOf, AnInterfaces, Named}
use Rattle.go_embed_core.specs.OwnersShown.{found_shown}

-- none, one, or more
pub data Tally : Type 0 where
  NoHit : Tally
  OneHit : Found → Tally
  ManyHits : Tally

abbrev pub together : Tally → Tally → Tally
together NoHit b = b
together (OneHit f) NoHit = OneHit f
together (OneHit f) (OneHit g) = ManyHits
together (OneHit f) ManyHits = ManyHits
together ManyHits b = ManyHits

abbrev pub hits_shown : Hits → Tally
hits_shown hits.Nothing = NoHit
hits_shown (hits.One m) = OneHit (found_shown m)
hits_shown hits.More = ManyHits

abbrev pub hit_if : Bool → Found → Tally
hit_if b f = if b then OneHit f else NoHit

-- of a list, by what each item counts
abbrev pub tallies : {X : Type 0} → (X → Tally) → List X → Tally
tallies f [] = NoHit
tallies f (x ∷ xs) = together (f x) (tallies f xs)

abbrev pub tally_of : List ℕ → List ℕ → Named → Tally
tally_of name from n = hit_if (same_id n.0 n.1.0 name from) n.1.1

abbrev pub method_tally : List ℕ → List ℕ → List ℕ → DeclaredMethod → Tally
method_tally path name from m = hit_if (same_id m.name path name from) (AMethodOf path m.place m.pointer (sign_of m.signature))

abbrev pub field_tally : List Line → List ℕ → List ℕ → List ℕ → Field → Tally
field_tally ls path name from f = hit_if (same_id f.name path name from) (AFieldOf path f.place (line_at ls f.line).term)

abbrev pub interface_tally : List ℕ → List ℕ → List ℕ → Method → Tally
interface_tally path name from m = hit_if (same_id m.name path name from) (AnInterfaces path m.place (sign_of m.signature))
