use Rattle.std.proofs.Common.{ℕ, List, inl, sym, subst}
use Rattle.std.proofs.lemmas.Result.{IfErr-weaker, IfOk-weaker}
use Rattle.go_query_core.specs.Listing.{IsListing}
use Rattle.go_query_core.specs.Parts.{IsPartOf}
use Rattle.go_query_core.proofs.Listed.{path_is}
use Rattle.go_query_core.proofs.listing.list.Goals as goal

pub listing_of-requires : goal.listing_of-requires
listing_of-requires c =
    let s = c.args.snapshot.now in
    let same = path_is s c.sources-sources.ensures.whole c.args.from.now c.in-Some.number c.in-Some.part.now c.in-Some.ensures in
    subst (λ (p : List ℕ). IsPartOf s p c.in-Some.number c.in-Some.part.now) (sym same) c.in-Some.ensures

pub returns-in-Some-clause-ok : goal.returns-in-Some-clause-ok
returns-in-Some-clause-ok c =
    let s = c.args.snapshot.now in
    let same = path_is s c.sources-sources.ensures.whole c.args.from.now c.in-Some.number c.in-Some.part.now c.in-Some.ensures in
    IfOk-weaker c.listing_of.result _ _ (λ l h. subst (λ (p : List ℕ). IsListing s p l.own l.importable.items) same h) c.listing_of.ensures.ok

pub returns-in-Some-clause-err : goal.returns-in-Some-clause-err
returns-in-Some-clause-err c = IfErr-weaker c.listing_of.result _ _ (λ rule h. inl h) c.listing_of.ensures.err
