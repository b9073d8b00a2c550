-- Contents of files: that of a text is placed, and is the only one but for its fault.
use Rattle.std.proofs.Common.{◌≡◌, ◌<◌, ◌+◌, ℕ, List, [], ◌∷◌, ◌++◌, length, get_or, take, All, Bool, true, false, not, Result, Ok, Err, refl, sym, ◌∙◌, ap, subst}
use Rattle.std.specs.Prelude.{◌↔◌, ◌&&◌, IsTrue}
use Rattle.std.proofs.lemmas.Bool.{and_parts, and_from, eqb-true, eq-eqb}
use Rattle.std.specs.Str.{bytes_eq}
use Rattle.std.proofs.lemmas.List.{take_more}
use Rattle.std.proofs.lemmas.Slice.Eq.{bytes_eq-Decides}
use Rattle.std.proofs.lemmas.List.Elements.{All-push}
use lib.Dec.{eqb}
use denote.Ref.{Bor}
use denote.Enum.Bare.{sameb, same_true, true_same}
use Rattle.go_collections_core.specs.text_core.contracts.rule.Rule as rule
use Rattle.go_tree_nodes.specs.declared.files.File.{File}
use Rattle.go_tree_nodes.specs.Trees.{FileTree}
use Rattle.go_parse_core.specs.declared.error.SynFault.{SynFault}
use Rattle.go_parse_core.proofs.Meanings.{has_one_tree}
use Rattle.go_parse_core.specs.declared.error.ParseError.{ParseError}
use Rattle.go_parse_core.specs.declared.error.ParseError.TheVariants as errors
use Rattle.go_parse_core.specs.Parsing.{IsTreeAnswer}
use Rattle.go_parse_core.specs.Refusing.{IsTreeRefused}
use Rattle.go_graph_core.specs.Sources.{SourceModel, source, IsContent, IsRead, IsPlacedContent, content_shown}
use Rattle.go_graph_core.specs.mirrors.Sameness.{HaveSameFault}

pub placed_content : (text : List ℕ) (r : Result FileTree SynFault) → IsContent text r → IsPlacedContent r
placed_content text (Ok f) h = (length text, h.placed)
placed_content text (Err fault) h = tt

-- one more of the items that were passed
pub covered_more : {A : Type 0} (P : A → Type 0) (xs : List A) (i : ℕ) (x : A) → i < length xs → x ≡ get_or xs i x → All P (take i xs) → P x → All P (take (i + 1) xs)
covered_more {A} P xs i x lt at all h = subst (All P) (sym (take_more xs i x lt ∙ ap (λ (z : A). take i xs ++ z ∷ []) (sym at))) (All-push P (take i xs) x all h)

-- what a text that is refused holds
pub refused_is_content : (text kept : List ℕ) (answer : Result File ParseError) (fault : SynFault) (content : Result FileTree SynFault) → answer ≡ Err (errors.Fault fault) → IsTreeAnswer text answer → IsTreeRefused text answer → kept ≡ text → content ≡ Err fault → IsContent kept content
refused_is_content text kept answer fault content is means refuses same made =
    subst (IsContent kept) (sym made) (subst (λ t. IsContent t (Err fault)) (sym same) (subst (IsTreeAnswer text) is means, subst (IsTreeRefused text) is refuses))

-- contents of one text
one_content : (text : List ℕ) (one other : Result FileTree SynFault) → IsContent text one → IsContent text other → HaveSameFault one other → one ≡ other
one_content text (Ok f) (Ok g) h k same = ap Ok (has_one_tree text f g h.found k.found)
one_content text (Ok f) (Err fault) h k same = absurd same
one_content text (Err fault) (Ok g) h k same = absurd same
one_content text (Err fault) (Err other) h k same = ap Err same

-- files of one name, one text and one fault
pub one_source : (one other : SourceModel) → IsRead one → IsRead other → one.name ≡ other.name → one.text ≡ other.text → HaveSameFault one.content other.content → one ≡ other
one_source one other h k name text same =
    let content : one.content ≡ other.content = one_content one.text one.content other.content h (subst (λ t. IsContent t other.content) (sym text) k) same in
    λ i. source (name i) (text i) (content i)

pub same_faults : (one other : Result FileTree SynFault) → one ≡ other → HaveSameFault one other
same_faults (Ok f) (Ok g) e = tt
same_faults (Ok f) (Err fault) e = cc
same_faults (Err fault) (Ok g) e = cc
same_faults (Err fault) (Err other) e = ap (λ (r : Result FileTree SynFault). elim r [ Ok f ↦ fault | Err x ↦ x ]) e

-- the test of two faults
pub fault_test : (a b : SynFault) (r : Bool) (one other : Result (Bor File) SynFault) → r ≡ (sameb rule.the_type a.rule b.rule && eqb a.offset b.offset) → one ≡ Err a → other ≡ Err b → IsTrue r ↔ HaveSameFault (content_shown one) (content_shown other)
fault_test a b r one other says is it =
    let here : IsTrue r ↔ HaveSameFault (content_shown (Err a)) (content_shown (Err b)) = (
      (λ h.
          let parts = and_parts (sameb rule.the_type a.rule b.rule) (eqb a.offset b.offset) (sym says ∙ h) in
          let rules = same_true rule.the_type tt a.rule b.rule parts.0 in
          let places : a.offset ≡ b.offset = eqb-true a.offset b.offset parts.1 in
          λ i. record { rule = rules i; offset = places i }),
      (λ e. says ∙ and_from (sameb rule.the_type a.rule b.rule) (eqb a.offset b.offset) (true_same rule.the_type a.rule b.rule (ap (λ f. f.rule) e)) (eq-eqb a.offset b.offset (ap (λ f. f.offset) e))),
    ) in
    subst (λ x. IsTrue r ↔ HaveSameFault (content_shown x) (content_shown other)) (sym is) (subst (λ x. IsTrue r ↔ HaveSameFault (content_shown (Err a)) (content_shown x)) (sym it) here)

-- the test of two files of one name and one text
pub source_test : (one other : SourceModel) (r : Bool) (x y : Result FileTree SynFault) → IsRead one → IsRead other → one.name ≡ other.name → one.text ≡ other.text → x ≡ one.content → y ≡ other.content → IsTrue r ↔ HaveSameFault x y → IsTrue r ↔ (one ≡ other)
source_test one other r x y h k name text is it says =
    let test : IsTrue r ↔ HaveSameFault one.content other.content = subst (λ c. IsTrue r ↔ HaveSameFault c other.content) is (subst (λ c. IsTrue r ↔ HaveSameFault x c) it says) in
    ((λ t. one_source one other h k name text (test.0 t)), (λ e. test.1 (same_faults one.content other.content (ap (λ f. f.content) e))))

-- texts that are told to be no others
pub no_other : (x y : List ℕ) → false ≡ not (bytes_eq x y) → x ≡ y
no_other x y h = (bytes_eq-Decides x y).0 (told (bytes_eq x y) h)
  where
    told : (b : Bool) → false ≡ not b → b ≡ true
    told true e = refl
    told false e = e
