-- What the methods of types come to in code.
use Rattle.std.proofs.Common.{◌≡◌, inl, inr, Bool, true, false, cond, List, [], ◌∷◌, Some, refl, sym, ap, ◌∙◌}
use Rattle.std.specs.Map.{lookup}
use Rattle.go_term_core.specs.decl_core.declared.keys.DeclRef.{DeclRef}
use Rattle.go_term_core.specs.declared.term.MemberPlace.{MemberPlace}
use Rattle.go_term_core.specs.declared.term.MemberPlace.TheVariants as places
use Rattle.go_body_core.specs.table_core.Entries.{Entry, Member}
use Rattle.go_code_core.specs.declared.fragments.names.Meaning.{Meaning}
use Rattle.go_code_core.specs.declared.fragments.names.Meaning.TheVariants as meanings
use Rattle.go_emit_core.specs.meaning.Words.{sign_gives}
use Rattle.go_emit_core.specs.meaning.Scenes.{method_at, method_spotted, methods_spotted}
use Rattle.go_emit_core.specs.lookup.Places.{DeclSpotModel, Spotted, spotted_meaning, same_spot, decl_spot}
use Rattle.go_workspace_laws.proofs.ConstantLists.{HasItem, from_flat}

-- what is found at a place stands in the list
record IsFoundAt (xs : Spotted) (s : DeclSpotModel) (m : Meaning) : Type 0 where
  pub item : DeclSpotModel × Meaning
  pub there : HasItem xs item
  pub at : same_spot s item.0 ≡ true
  pub is : item.1 ≡ m

from_lookup : (xs : Spotted) (s : DeclSpotModel) (m : Meaning) → lookup (same_spot s) xs ≡ Some m → IsFoundAt xs s m
from_lookup [] s m e = absurd cc
from_lookup (x ∷ xs) s m e = by (same_spot s x.0) refl e (from_lookup xs s m)
  where
    by : (b : Bool) → same_spot s x.0 ≡ b → cond b (Some x.1) (lookup (same_spot s) xs) ≡ Some m → (lookup (same_spot s) xs ≡ Some m → IsFoundAt xs s m) → IsFoundAt (x ∷ xs) s m
    by true t e rest = record { item = x; there = inl refl; at = t; is = cc }
    by false t e rest = (let r = rest e in record { item = r.item; there = inr r.there; at = r.at; is = r.is })

-- a method of a type that is declared at a place
pub record IsMethodAt (es ds : List Entry) (s : DeclSpotModel) (m : Meaning) : Type 0 where
  pub entry : Entry
  pub member : Member
  pub decl : DeclRef
  pub there : HasItem ds entry
  pub here : HasItem entry.methods member
  pub place : member.place ≡ places.Declared decl
  pub at : same_spot s (decl_spot entry.key.path decl) ≡ true
  pub is : m ≡ meanings.Method (sign_gives es member.sign)

module _ (es ds : List Entry) (s : DeclSpotModel) (m : Meaning) (x : DeclSpotModel × Meaning) (at : same_spot s x.0 ≡ true) (is : x.1 ≡ m) where
  by_place : (e : Entry) (k : Member) (p : MemberPlace) → k.place ≡ p → HasItem ds e → HasItem e.methods k → HasItem (method_at es e.key.path k p) x → IsMethodAt es ds s m
  by_place e k (places.Declared d) same there here (inl q) = record {
    entry = e;
    member = k;
    decl = d;
    there = there;
    here = here;
    place = same;
    at = ap (λ (y : DeclSpotModel × Meaning). same_spot s y.0) q ∙ at;
    is = sym is ∙ sym (ap (λ (y : DeclSpotModel × Meaning). y.1) q);
  }
  by_place e k (places.Declared d) same there here (inr h) = absurd h
  by_place e k (places.Local l) same there here h = absurd h

pub method_found : (es ds : List Entry) (s : DeclSpotModel) (m : Meaning) → spotted_meaning (methods_spotted es ds) s ≡ Some m → IsMethodAt es ds s m
method_found es ds s m e =
    let f = from_lookup (methods_spotted es ds) s m e in
    let entry = from_flat (λ (d : Entry). method_spotted es d.key.path d.methods) ds f.item f.there in
    let member = from_flat (λ (k : Member). method_at es entry.item.key.path k k.place) entry.item.methods f.item entry.here in
    by_place es ds s m f.item f.at f.is entry.item member.item member.item.place refl entry.there member.there member.here
