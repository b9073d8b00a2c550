-- What stands at one number of two lists, and where an identifier stands.
use Rattle.std.proofs.Common.{◌≡◌, ℕ, List, map, Option, Some, None, option_map, slice_get, sym, ap, ◌∙◌}
use Rattle.std.proofs.lemmas.Option.{same_Some, slice_get-map}
use Rattle.go_term_core.specs.declared.term.MemberPlace.{MemberPlace}
use Rattle.go_graph_core.specs.Sources.{SourceModel}
use Rattle.go_site_core.specs.Sites.{file_in, file_number, located_at, located_in, offset_among, offsets_in, with_offset}

-- where two lists show the same, so do the items of one number
pub paired : {A B C : Type 0} (f : A → C) (g : B → C) (xs : List A) (ys : List B) (n : ℕ) (x : A) (y : B) → map f xs ≡ map g ys → slice_get xs n ≡ Some x → slice_get ys n ≡ Some y → f x ≡ g y
paired f g xs ys n x y same one other =
    same_Some (f x) (g y) (sym (slice_get-map f xs n ∙ ap (option_map f) one) ∙ (ap (λ l. slice_get l n) same ∙ (slice_get-map g ys n ∙ ap (option_map g) other)))

-- the name of a file that stands at the number, with an offset in it
pub located_there : (files : List SourceModel) (place : MemberPlace) (n : ℕ) (s : SourceModel) (o : Option ℕ) → n ≡ file_number place → slice_get files n ≡ Some s → o ≡ offset_among (offsets_in s.content) place
    → with_offset s.name o ≡ located_in place (Some files)
located_there files place n s o number at is =
    ap (with_offset s.name) is ∙ sym (ap (located_at place) (ap (slice_get files) (sym number) ∙ at))

-- where an identifier stands whose file is given, or has none
pub located_by : (place : MemberPlace) (files : Option (List SourceModel)) (o : Option SourceModel) → o ≡ file_in place files → located_in place files ≡ located_at place o
located_by place None o is = sym (ap (located_at place) is)
located_by place (Some files) o is = sym (ap (located_at place) is)
